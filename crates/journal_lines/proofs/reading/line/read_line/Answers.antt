use Rattle.std.proofs.Common.{◌≡◌, ℕ, List, true, false, refl, sym, ap, ◌∙◌, subst, not, Bool, bytes_eq, Result, Ok, Err, IfErr, IsErrAnd}
use Rattle.std.proofs.lemmas.Slice.Eq.{bytes_eq-Decides}
use Rattle.engine_text.specs.Soundness.{is_sound}
use Rattle.journal_lines.specs.JournalLines.{format_of, entry_value, journal_line}
use Rattle.engine_text.specs.declared.entry.Entry.{Entry}
use Rattle.journal_lines.specs.Line.{IsLineFault}
use Rattle.journal_lines.specs.declared.format.Format.{Format}
use Rattle.journal_lines.specs.declared.fault.LineFault.{LineFault}
use Rattle.journal_lines.proofs.EntryLemmas.{entry_same, entry_told, has_line, is_carried}
use Rattle.journal_lines.proofs.reading.line.read_line.Goals as goal

not_false : (b : Bool) → not b ≡ false → b ≡ true
not_false true e = refl
not_false false e = cc e

passed_on : (format : Format) (r : Result Entry LineFault) (fault : LineFault) (line : List ℕ) → IsErrAnd r (λ e. e ≡ fault) → IsLineFault format line fault
    → IfErr r (λ e. IsLineFault format line e)
passed_on format (Ok x) fault line is refused = tt
passed_on format (Err e) fault line is refused = subst (λ (f : LineFault). IsLineFault format line f) (sym is) refused

pub returns-in_err-entry-clause-refused : goal.returns-in_err-entry-clause-refused
returns-in_err-entry-clause-refused c =
    let fault = c.in_err-entry.field-0.0 in
    let format = format_of c.args.format in
    passed_on format c.from_residual.result fault c.args.line.now c.from_residual.ensures.1 (c.in_err-entry.ensures.refused format)

pub returns-then-not-is_sound-clause-refused : goal.returns-then-not-is_sound-clause-refused
returns-then-not-is_sound-clause-refused c = λ w.
    let format = format_of c.args.format in
    let said = c.in_ok-entry.ensures.taken in
    let value = said.2 (entry_value format w.0) (is_carried format w.0 w.1) w.2 in
    let same = entry_same format said.0 c.in_ok-entry.entry w.0 said.1 value w.1 in
    let sound = ap (λ e. is_sound e.call) same ∙ w.1.sound in
    cc (sym c.if-not-is_sound.true ∙ c.is_sound.ensures ∙ sound)

pub returns-then-ne-clause-refused : goal.returns-then-ne-clause-refused
returns-then-ne-clause-refused c = λ w.
    let format = format_of c.args.format in
    let said = c.in_ok-entry.ensures.taken in
    let value = said.2 (entry_value format w.0) (is_carried format w.0 w.1) w.2 in
    let same = entry_same format said.0 c.in_ok-entry.entry w.0 said.1 value w.1 in
    let equal : c.in_ok-again.again.items ≡ c.args.line.now = c.in_ok-again.ensures ∙ ap (journal_line format) same ∙ w.2 in
    let true_one = (bytes_eq-Decides c.as_slice.result.now c.args.line.now).1 (c.as_slice.ensures.value ∙ equal) in
    cc (sym c.if-ne.true ∙ c.ne.ensures ∙ ap not true_one)

pub returns-clause-taken : goal.returns-clause-taken
returns-clause-taken c =
    let e = c.in_ok-entry.entry in
    let said = c.in_ok-entry.ensures.taken in
    let sound = sym c.is_sound.ensures ∙ c.if-not-is_sound.false in
    let equal = (bytes_eq-Decides c.as_slice.result.now c.args.line.now).0 (not_false (bytes_eq c.as_slice.result.now c.args.line.now) (sym c.ne.ensures ∙ c.if-ne.false)) in (
      has_line e sound (entry_told said.0 e said.1) c.entry_texts.ensures,
      sym c.in_ok-again.ensures ∙ sym c.as_slice.ensures.value ∙ equal,
    )
