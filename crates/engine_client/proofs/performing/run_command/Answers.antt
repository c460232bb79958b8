use Rattle.std.proofs.Common.{rules}
use Rattle.client_model.specs.Client.{plan_of}
use Rattle.engine_client.proofs.PerformLemmas.{first_of}
use Rattle.engine_client.proofs.LineLemmas.{not_begun}
use Rattle.engine_client.proofs.performing.run_command.Goals as goal

pub perform_all-requires : goal.perform_all-requires
perform_all-requires g c = search (rules, first_of c.in-Ok.step (plan_of c.args.command.now) c.in-Ok.ensures)

pub returns-in-Ok : goal.returns-in-Ok
returns-in-Ok g c = c.perform_all.ensures _ c.in-Ok.ensures

pub returns-in-Err : goal.returns-in-Err
returns-in-Err g c = not_begun _ _ c.in-Err.fault _ c.in-Err.ensures
