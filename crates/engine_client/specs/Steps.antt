-- `run`, `exec`, `watch` and `health`, from each of their steps on (docker command line reference, docker container run and exec).
use Rattle.std.specs.Prelude.{ℕ, List, map, Bool, Option, Some}
use Rattle.std.specs.Option.{option_map_or}
use Rattle.engine_text.specs.declared.event.Event.{Event}
use Rattle.event_ring.specs.Fold.{fold_of}
use Rattle.client_model.specs.Bodies.{status_code_in}
use Rattle.client_model.specs.Plans.{Plan, asks, ends, fails, goes_on, prints_all, done}
use Rattle.client_model.specs.Streams.{follows}
use Rattle.client_model.specs.Commands.Attach.{attach_request}
use Rattle.client_model.specs.Commands.Exec.{exec_start_request, exec_inspect_request, exit_code_in}
use Rattle.client_model.specs.Commands.Health.{asks_events}
use Rattle.client_model.specs.Commands.Run.{removes}
use Rattle.client_model.specs.Commands.Start.{start_request}
use Rattle.client_model.specs.Commands.Wait.{wait_request}
use Rattle.client_model.specs.Commands.Watch.{row_line}
use Rattle.client_model.specs.declared.checked.Checked.{Checked}
use Rattle.client_model.specs.declared.fault.Fault.TheVariants as F

-- ---- run

-- it waits for the container's end
abbrev pub waits : Bool → List ℕ → Plan
waits remove id = asks (wait_request id) status_code_in (λ code. removes remove id (ends code))

-- it writes what the container writes, and then waits
abbrev pub attaches : Bool → Bool → List ℕ → Plan
attaches input remove id = follows (attach_request id input) input (waits remove id)

-- it starts the container, and then attaches to it
abbrev pub starts : Bool → Bool → List ℕ → Plan
starts input remove id = asks (start_request id) Some (λ body. attaches input remove id)

-- ---- exec

-- it ends with the exec's exit code
abbrev pub inspects : List ℕ → Plan
inspects id = asks (exec_inspect_request id) exit_code_in (λ code. option_map_or ends code (fails F.NoCode))

-- it starts the exec, and writes what it writes
abbrev pub executes : Bool → List ℕ → Plan
executes input id = follows (exec_start_request id) input (inspects id)

-- ---- watch

-- it prints a line of each container of which the events tell
abbrev pub watches : Option (List Event) → Plan
watches events = goes_on (λ es. prints_all (map row_line (fold_of es)) done) events

-- ---- health

-- it asks for the events of a container that has a check
abbrev pub by_check : List ℕ → Option Checked → Plan
by_check until checked = option_map_or (asks_events until) checked (fails F.NoCheck)
