-- What a daemon does first that begins with a written history (Moby manual, "Start containers automatically"; own: in which order).
use Rattle.std.specs.Prelude.{ℕ, nat_lt, Bool, true, false, not, ◌&&◌, List, ◌++◌, filter, map}
use Rattle.machine_model.specs.State.{State}
use Rattle.engine_text.specs.declared.call.Call.{Call}
use Rattle.engine_text.specs.declared.call.Call.TheVariants as call
use Rattle.engine_text.specs.declared.container.Container.{Container}
use Rattle.engine_text.specs.declared.policy.Policy.{Policy}
use Rattle.engine_text.specs.declared.policy.Policy.TheVariants.{No, Always, UnlessStopped, OnFailure}
use Rattle.engine_text.specs.declared.status.Status.{Status}
use Rattle.engine_text.specs.declared.status.Status.TheVariants.{Running, Paused}
use Rattle.engine_text.specs.declared.ticket.Ticket.{Ticket}
use Rattle.engine_reboot.specs.declared.planning.Planned.{Planned}
use Rattle.engine_reboot.specs.declared.planning.Planned.TheVariants.{Drop, Kill, Start}

-- Whether a policy brings a container back that may have been stopped by hand: `always` does, `unless-stopped` where it wasn't.
abbrev pub brings_back : Policy → Bool → Bool
brings_back Always manual = true
brings_back UnlessStopped manual = not manual
brings_back policy manual = false

-- Whether a container starts again with its daemon: it had been started, and its policy brings it back.
abbrev pub starts_again : Container → Bool
starts_again c = nat_lt 0 c.life.starts && brings_back c.life.policy c.life.manual

-- Whether a container runs or is paused: its process ends with its daemon.
abbrev pub is_up : Status → Bool
is_up Running = true
is_up Paused = true
is_up status = false

-- Tickets are dropped by their connections, since nobody waits for them any more.
abbrev pub drops : List Ticket → List Planned
drops tickets = map (λ t. Drop t.number t.connection) tickets

-- Of these containers, those that are up are killed.
abbrev pub kills : List Container → List Planned
kills containers = map (λ c. Kill c.id) (filter (λ c. is_up c.life.status) containers)

-- Those that start again are started.
abbrev pub starts : List Container → List Planned
starts containers = map (λ c. Start c.id) (filter starts_again containers)

-- The plan, read off the state behind the written history: first each ticket that stands is dropped, in order of number; then each
-- container that is up is killed, and then each that starts again is started, both in order of creation.
abbrev pub reboot_plan : State → List Planned
reboot_plan s = drops s.tickets ++ kills s.containers ++ starts s.containers

-- ---- a step of the plan as a call

-- The connection that kills and starts: the number of no client, and of no client's standard input.
abbrev pub own_connection : ℕ
own_connection = 4294967294

abbrev pub caller_of : Planned → ℕ
caller_of (Drop ticket connection) = connection
caller_of planned = own_connection

-- A kill is by signal 9, and names its container by the full id, as a start does.
abbrev pub call_of : Planned → Call
call_of (Drop ticket connection) = call.Drop ticket
call_of (Kill id) = call.Kill id (record { number = 9 })
call_of (Start id) = call.Start id
