use Rattle.std.proofs.Common.{◌∙◌, sym}
use Rattle.engine_line.proofs.StartLemmas.{start_within}
use Rattle.engine_program.proofs.program.run_engined.Goals as goal

-- START of a line is a moment
pub run_session-requires-after_bounds : goal.run_session-requires-after_bounds
run_session-requires-after_bounds g c κs within =
    λ stepping clock. start_within c.args.words.now c.in-Some.line stepping
    (sym c.in-Ok.ensures ∙ c.in-Some.is) clock

pub listen-requires-after_bounds : goal.listen-requires-after_bounds
listen-requires-after_bounds g c κs within =
    λ stepping clock. start_within c.args.words.now c.in-Some.line stepping
    (sym c.in-Ok.ensures ∙ c.in-Some.is) clock

pub run_line_drill-requires-after_bounds : goal.run_line_drill-requires-after_bounds
run_line_drill-requires-after_bounds g c κs within =
    λ stepping clock. start_within c.args.words.now c.in-Some.line stepping
    (sym c.in-Ok.ensures ∙ c.in-Some.is) clock
