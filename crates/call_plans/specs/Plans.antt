-- own: what a prepared call does once its container is found and its status is known, and what that needs.
use Rattle.std.specs.Prelude.{Some, None}
use Rattle.engine_text.specs.declared.ticket.Asked.TheVariants as Asked
use Rattle.machine_model.specs.State.{State}
use Rattle.machine_model.specs.Chain.{Effect, change, still}
use Rattle.machine_model.specs.Calls.Create.{add, make_volume}
use Rattle.machine_model.specs.Calls.Feed.{end_input, feed_process}
use Rattle.machine_model.specs.Calls.Kill.{deliver}
use Rattle.machine_model.specs.Calls.Pause.{pause}
use Rattle.machine_model.specs.Calls.Remove.{kill_to_remove}
use Rattle.machine_model.specs.Calls.Restart.{launch_again}
use Rattle.machine_model.specs.Calls.Take.{end_ticket}
use Rattle.machine_model.specs.Calls.Volumes.{remove_volume}
use Rattle.machine_events.specs.ExecStarts.{start_effect}
use Rattle.machine_events.specs.Halts.{asked_of, halted, noted_by}
use Rattle.container_table.specs.Logs.{container_in}
use Rattle.container_table.specs.declared.life_change.LifeChange.{LifeChange}
use Rattle.machine_model.specs.Effects.Destroy.{destroy}
use Rattle.machine_model.specs.Effects.Launch.{launch_by_call}
use Rattle.machine_model.specs.Effects.Meet.{thaw_container}
use Rattle.call_plans.specs.Calls.Attach.{attach_effect}
use Rattle.call_plans.specs.Calls.Execs.{add_exec}
use Rattle.call_plans.specs.Calls.Restart.{restart_restarting_effect}
use Rattle.call_plans.specs.Calls.Kill.{kill_effect, kill_restarting_effect}
use Rattle.call_plans.specs.Calls.Remove.{force_effect, give_up_effect}
use Rattle.call_plans.specs.Calls.Rename.{rename_effect}
use Rattle.call_plans.specs.Calls.Stop.{halt_effect, stop_restarting_effect}
use Rattle.call_plans.specs.Calls.Update.{update_effect}
use Rattle.call_plans.specs.Calls.Wait.{wait_effect}
use Rattle.call_plans.specs.Needs.{Need, Nothing, FreeName, Unused, End, TicketEnd, Launch, Removal, Ticket, Listing, Process, NewContainer, NewExec, NewVolume}
use Rattle.call_plans.specs.declared.plan.Plan.{Plan}

-- What the plan does.
abbrev pub plan_effect : Plan → State → Effect
plan_effect Plan.Nothing = still
plan_effect (Plan.Attach n) = attach_effect n
plan_effect (Plan.Create held volumes) = add (container_in held)
plan_effect (Plan.EndTicket ticket) = change (end_ticket ticket)
plan_effect (Plan.ExecCreate x) = add_exec x
plan_effect (Plan.ExecStart n script detach) = start_effect n script detach
plan_effect (Plan.Feed owner piece) = feed_process owner piece
plan_effect (Plan.FeedEnd owner) = end_input owner
plan_effect (Plan.Halt connection n halting sent seconds brought) = halt_effect connection n halting seconds sent.number
plan_effect (Plan.Kill n sent last brought) = kill_effect n sent last
plan_effect (Plan.KillRestarting n sent) = kill_restarting_effect n sent
plan_effect (Plan.Pause n) = pause n
plan_effect (Plan.Remove n brought) = destroy n
plan_effect (Plan.RemoveForced connection n brought) = force_effect connection n
plan_effect (Plan.RemoveRestarting n brought) = give_up_effect n
plan_effect (Plan.Rename n name) = rename_effect n name
plan_effect (Plan.Restart n script) = launch_again n
plan_effect (Plan.RestartRestarting n script) = restart_restarting_effect n
plan_effect (Plan.Start n script) = launch_by_call n
plan_effect (Plan.StopRestarting n) = stop_restarting_effect n
plan_effect (Plan.Unpause n brought) = thaw_container n
plan_effect (Plan.Update n policy) = update_effect n policy
plan_effect (Plan.VolumeCreate name labels) = make_volume name labels
plan_effect (Plan.VolumeRemove name) = remove_volume name
plan_effect (Plan.Wait connection n until) = wait_effect connection n until

-- What it needs.
abbrev pub need_of : Plan → Need
need_of Plan.Nothing = Nothing
need_of (Plan.Attach n) = Nothing
need_of (Plan.Create held volumes) = NewContainer (container_in held) volumes.items
need_of (Plan.EndTicket ticket) = Nothing
need_of (Plan.ExecCreate x) = NewExec x
need_of (Plan.ExecStart n script detach) = Process
need_of (Plan.Feed owner piece) = Process
need_of (Plan.FeedEnd owner) = Nothing
need_of (Plan.Halt connection n halting sent seconds brought) =
    TicketEnd connection n (asked_of halting) (noted_by halting) (Some sent.number) (halted halting seconds sent.number n) brought
need_of (Plan.Kill n sent last brought) = End n (Some sent.number) (deliver last sent.number n) brought
need_of (Plan.KillRestarting n sent) = Nothing
need_of (Plan.Pause n) = Listing
need_of (Plan.Remove n brought) = Removal n brought
need_of (Plan.RemoveForced connection n brought) = TicketEnd connection n Asked.Remove LifeChange.ToRemove None (kill_to_remove n) brought
need_of (Plan.RemoveRestarting n brought) = Removal n brought
need_of (Plan.Rename n name) = FreeName name
need_of (Plan.Restart n script) = Launch n script
need_of (Plan.RestartRestarting n script) = Launch n script
need_of (Plan.Start n script) = Launch n script
need_of (Plan.StopRestarting n) = Nothing
need_of (Plan.Unpause n brought) = End n None (thaw_container n) brought
need_of (Plan.Update n policy) = Nothing
need_of (Plan.VolumeCreate name labels) = NewVolume name
need_of (Plan.VolumeRemove name) = Unused name
need_of (Plan.Wait connection n until) = Ticket
