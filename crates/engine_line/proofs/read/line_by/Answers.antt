use Rattle.std.proofs.Common.{map, sym, ◌∙◌, true≢false}
use Rattle.clap.specs.Walk.{rows_of}
use Rattle.clap.specs.Matches.{found_of}
use Rattle.engine_line.specs.Options.{fault_in, rows_in}
use Rattle.engine_line.proofs.LineLemmas.{line_ok, line_none}
use Rattle.engine_line.proofs.read.line_by.Goals as goal

pub returns-in-Ok : goal.returns-in-Ok
returns-in-Ok c =
    let words = map (λ w. w.now) c.args.words.now in
    c.line_in.ensures ∙ line_ok (fault_in words) (rows_of (found_of c.in-Ok.matches)) (rows_in words)
    c.in-Ok.ensures.fails c.in-Ok.ensures.matches

pub returns : goal.returns
returns c =
    let words = map (λ w. w.now) c.args.words.now in
    line_none (fault_in words) (rows_in words) c.in-Err.error c.in-Err.ensures.fails
    (λ memory. let same = rw (c.kind.ensures ∙ memory) at c.eq.ensures in true≢false (sym same ∙ c.if-eq.false))
