use Rattle.std.proofs.Common.{map, sym, ap, ◌∙◌, true≢false}
use Rattle.clap.specs.Walk.{rows_of}
use Rattle.clap.specs.Matches.{found_of}
use Rattle.lab_line.specs.Options.{fault_in, rows_in}
use Rattle.lab_line.specs.Lines.{asked_in, asked_by}
use Rattle.lab_line.proofs.LineLemmas.{come_by_rows, come_by_kind}
use Rattle.lab_line.proofs.read.asked_of.Goals as goal

pub returns-in-Ok : goal.returns-in-Ok
returns-in-Ok c =
    let words = map (λ w. w.now) c.args.words.now in
    come_by_rows (fault_in words) (rows_of (found_of c.in-Ok.matches)) (rows_in words) _
    c.in-Ok.ensures.fails c.in-Ok.ensures.matches (c.asked_in.ensures ∙ ap asked_in c.line_in.ensures)

pub returns : goal.returns
returns c =
    let words = map (λ w. w.now) c.args.words.now in
    come_by_kind (fault_in words) (rows_in words) c.in-Err.error _ c.in-Err.ensures.fails
    (λ memory. let same = rw (c.kind.ensures ∙ memory) at c.eq.ensures in true≢false (sym same ∙ c.if-eq.false))
    (c.asked_by.ensures ∙ ap asked_by c.kind-else-eq.ensures)
