use Rattle.std.proofs.Common.{◌∙◌, sym}
use Rattle.engine_line.proofs.StartLemmas.{one_start_within}
use Rattle.one_program.proofs.program.run_engine_one.Goals as goal

-- START of a line is a moment
pub begin_by-requires-after_bounds : goal.begin_by-requires-after_bounds
begin_by-requires-after_bounds g c κs within =
    λ stepping clock. one_start_within c.args.words.now c.in-Some.line stepping (sym c.read_one_line.ensures ∙ c.in-Some.is) clock
