use Rattle.std.proofs.Common.{◌≡◌, ℕ, List, Result, Ok, Err, IfOk, IfErr}
use Rattle.serde_json.specs.Data.{Data}
use Rattle.serde_json.specs.View.{view}
use Rattle.json_laws.specs.Sound.{IsCarried, line_text}
use Rattle.engine_text.specs.declared.entry.Entry.{Entry}
use Rattle.journal_lines.specs.JournalLines.{entry_value}
use Rattle.journal_lines.specs.Line.{IsLineFault}
use Rattle.journal_lines.specs.Reading.Entries.{entry_in, IsSaidBy}
use Rattle.journal_lines.specs.Reading.Parts.{Reads}
use Rattle.journal_lines.specs.declared.fault.LineFault.{LineFault}
use Rattle.journal_lines.specs.declared.format.Format.{Format}
use Rattle.journal_lines.proofs.EntryLemmas.{is_carried, not_read}
use Rattle.journal_lines.proofs.reading.line.entry_of.Goals as goal

abbrev IsOf : List ℕ → Data → Type 0
IsOf line d = (other : Data) → IsCarried other → line_text other ≡ line → d ≡ other

said : (line : List ℕ) (d : Data) (r : Result Entry LineFault) → IsOf line d → Reads (entry_in d) r → IfOk r (λ e. IsSaidBy line e)
said line d (Ok e) is reads = (d, reads, is)
said line d (Err fault) is reads = tt

nothing_said : (line : List ℕ) (d : Data) (r : Result Entry LineFault) → IsOf line d → Reads (entry_in d) r
    → IfErr r (λ e. (format : Format) → IsLineFault format line e)
nothing_said line d (Ok e) is reads = tt
nothing_said line d (Err fault) is reads = λ format.
    not_read format line d fault (λ e h same. is (entry_value format e) (is_carried format e h) same) reads

pub returns-in_default-clause-refused : goal.returns-in_default-clause-refused
returns-in_default-clause-refused c = λ format w. (rw c.in_default.is at c.in_ok-value.ensures.none) (entry_value format w.0) (is_carried format w.0 w.1) w.2

pub returns-clause-taken : goal.returns-clause-taken
returns-clause-taken c =
    said c.args.line.now (view c.in-Some.value) c.entry_in.result (rw c.in-Some.is at c.in_ok-value.ensures.some) c.entry_in.ensures

pub returns-clause-refused : goal.returns-clause-refused
returns-clause-refused c =
    nothing_said c.args.line.now (view c.in-Some.value) c.entry_in.result (rw c.in-Some.is at c.in_ok-value.ensures.some) c.entry_in.ensures
