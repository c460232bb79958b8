use Rattle.std.proofs.Common.{sym, ap, false}
use Rattle.client_model.specs.Plans.{prints, done}
use Rattle.engine_client.proofs.StepLemmas.{step_as, at_place}
use Rattle.engine_client.proofs.going_on.whole.Goals as goal

pub returns-in-Ends : goal.returns-in-Ends
returns-in-Ends c = at_place _ _ _ c.args.first c.args.body.now.items (sym c.in-Ends.is) c.ends.ensures

pub returns-in-Prints : goal.returns-in-Prints
returns-in-Prints c = at_place _ _ _ c.args.first c.args.body.now.items (sym c.in-Prints.is) (step_as _ false _ _ (ap (λ l. prints l done) c.as_slice.ensures) c.prints.ensures)

pub returns-in-PrintsBody : goal.returns-in-PrintsBody
returns-in-PrintsBody c = at_place _ _ _ c.args.first c.args.body.now.items (sym c.in-PrintsBody.is) c.prints_body.ensures

pub returns-in-PrintsId : goal.returns-in-PrintsId
returns-in-PrintsId c = at_place _ _ _ c.args.first c.args.body.now.items (sym c.in-PrintsId.is) c.prints_id.ensures

pub returns-in-PrintsContainers : goal.returns-in-PrintsContainers
returns-in-PrintsContainers c = at_place _ _ _ c.args.first c.args.body.now.items (sym c.in-PrintsContainers.is) c.prints_containers.ensures

pub returns-in-PrintsVolumes : goal.returns-in-PrintsVolumes
returns-in-PrintsVolumes c = at_place _ _ _ c.args.first c.args.body.now.items (sym c.in-PrintsVolumes.is) c.prints_volumes.ensures

pub returns-in-PrintsCode : goal.returns-in-PrintsCode
returns-in-PrintsCode c = at_place _ _ _ c.args.first c.args.body.now.items (sym c.in-PrintsCode.is) c.prints_exit.ensures

pub returns-in-PrintsRows : goal.returns-in-PrintsRows
returns-in-PrintsRows c = at_place _ _ _ c.args.first c.args.body.now.items (sym c.in-PrintsRows.is) c.prints_watched.ensures

pub returns-in-Starts : goal.returns-in-Starts
returns-in-Starts c = at_place _ _ _ c.args.first c.args.body.now.items (sym c.in-Starts.is) c.starts.ensures

pub returns-in-Attaches : goal.returns-in-Attaches
returns-in-Attaches c = at_place _ _ _ c.args.first c.args.body.now.items (sym c.in-Attaches.is) c.attaches.ensures

pub returns-in-Waits : goal.returns-in-Waits
returns-in-Waits c = at_place _ _ _ c.args.first c.args.body.now.items (sym c.in-Waits.is) c.waits.ensures

pub returns-in-Removes : goal.returns-in-Removes
returns-in-Removes c = at_place _ _ _ c.args.first c.args.body.now.items (sym c.in-Removes.is) c.ends_run.ensures

pub returns-in-Executes : goal.returns-in-Executes
returns-in-Executes c = at_place _ _ _ c.args.first c.args.body.now.items (sym c.in-Executes.is) c.executes.ensures

pub returns-in-Inspects : goal.returns-in-Inspects
returns-in-Inspects c = at_place _ _ _ c.args.first c.args.body.now.items (sym c.in-Inspects.is) c.inspects.ensures

pub returns-in-EndsExec : goal.returns-in-EndsExec
returns-in-EndsExec c = at_place _ _ _ c.args.first c.args.body.now.items (sym c.in-EndsExec.is) c.ends_exec.ensures

pub returns-in-AsksEvents : goal.returns-in-AsksEvents
returns-in-AsksEvents c = at_place _ _ _ c.args.first c.args.body.now.items (sym c.in-AsksEvents.is) c.asks_events_by.ensures

pub returns-in-PrintsHealth : goal.returns-in-PrintsHealth
returns-in-PrintsHealth c = at_place _ _ _ c.args.first c.args.body.now.items (sym c.in-PrintsHealth.is) c.prints_health.ensures
