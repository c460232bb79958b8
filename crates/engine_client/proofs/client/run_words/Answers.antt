use Rattle.engine_client.proofs.MomentLemmas.{line_timed}
use Rattle.engine_client.proofs.LineLemmas.{line_ran, no_line, line_lacks}
use Rattle.engine_client.proofs.client.run_words.Goals as goal

pub run_command-requires-after_bounds : goal.run_command-requires-after_bounds
run_command-requires-after_bounds g c κs within = line_timed c.args.words.now c.in-Ok.line c.in-Ok.ensures

pub returns-in-Ok : goal.returns-in-Ok
returns-in-Ok g c = line_ran c.args.words.now c.in-Ok.line _ c.run_command.result _ _ c.in-Ok.ensures c.as_str.ensures c.run_command.ensures

pub returns-in-Err-NoForm : goal.returns-in-Err-NoForm
returns-in-Err-NoForm g c = no_line c.args.words.now c.in-Err-NoForm.field-0 _ c.in-Err-NoForm.field-0-is c.in-Err-NoForm.ensures

pub returns-in-Err-NoMemory : goal.returns-in-Err-NoMemory
returns-in-Err-NoMemory g c = line_lacks _ _ _
