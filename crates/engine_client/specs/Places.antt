-- The places that a command can be at, and its steps (docker command line reference: each the plan's own word).
use Rattle.std.specs.Prelude.{ℕ, ◌≡◌, ◌⊎◌, ◌≤◌, List, ◌++◌, codes, decimal, Bool, true, false, Option, Some, None, Result, Ok, Err, if◌then◌else◌, ⊤}
use Rattle.std.specs.Option.{option_map_or}
use Rattle.http_edge.specs.Message.{Request}
use Rattle.machine_model.specs.History.{greatest_moment}
use Rattle.client_model.specs.Requests.{request_bytes}
use Rattle.client_model.specs.Bodies.{id_in, status_code_in, container_lines_in, volume_names_in}
use Rattle.client_model.specs.Plans.{Plan, Ends, Done, to_out, cut_fault, reads, prints, prints_all, ends, done, fails}
use Rattle.client_model.specs.Commands.Exec.{exit_code_in}
use Rattle.client_model.specs.Commands.Health.{checked_in, told_health}
use Rattle.client_model.specs.Commands.Replay.{replay_plan}
use Rattle.client_model.specs.Commands.Run.{removes}
use Rattle.client_model.specs.Commands.Watch.{watched}
use Rattle.client_model.specs.declared.command.Command.{Command}
use Rattle.client_model.specs.declared.command.Command.TheVariants as command
use Rattle.client_model.specs.declared.fault.Fault.{Fault}
use Rattle.client_model.specs.declared.fault.Fault.TheVariants as F
use Rattle.client_exchange.specs.Asking.{asked_as, asks_then}
use Rattle.engine_client.specs.Steps.{starts, attaches, waits, executes, inspects, by_check}
use Rattle.engine_client.specs.declared.onward.Then.{Then}
use Rattle.engine_client.specs.declared.onward.Then.TheVariants as place
use Rattle.engine_client.specs.declared.step.Step.{Step}
use Rattle.engine_client.specs.declared.step.Step.TheVariants as step

-- what it does there, by the number of the first event, by the body, and by whether all of that came
abbrev pub plan_at : Then → Option ℕ → List ℕ → Bool → Plan
plan_at (place.Ends status) first body whole = reads Some (λ text. ends status) body whole
plan_at (place.Prints line) first body whole = reads Some (λ text. prints line done) body whole
plan_at place.PrintsBody first body whole = reads Some (λ text. prints text done) body whole
plan_at place.PrintsId first body whole = reads id_in (λ id. prints id done) body whole
plan_at place.PrintsContainers first body whole = reads container_lines_in (λ lines. prints_all lines done) body whole
plan_at place.PrintsVolumes first body whole = reads volume_names_in (λ names. prints_all names done) body whole
plan_at place.PrintsCode first body whole = reads status_code_in (λ code. prints (decimal code) done) body whole
plan_at place.PrintsRows first body whole = watched first body whole
plan_at (place.Starts input remove) first body whole = reads id_in (λ id. starts input remove id) body whole
plan_at (place.Attaches id input remove) first body whole = reads Some (λ text. attaches input remove id) body whole
plan_at (place.Waits id remove) first body whole = reads Some (λ text. waits remove id) body whole
plan_at (place.Removes id remove) first body whole = reads status_code_in (λ code. removes remove id (ends code)) body whole
plan_at (place.Executes input) first body whole = reads id_in (λ id. executes input id) body whole
plan_at (place.Inspects id) first body whole = reads Some (λ text. inspects id) body whole
plan_at place.EndsExec first body whole = reads exit_code_in (λ code. option_map_or ends code (fails F.NoCode)) body whole
plan_at (place.AsksEvents until) first body whole = reads checked_in (λ checked. by_check until checked) body whole
plan_at (place.PrintsHealth until checked) first body whole = told_health until checked first body whole

-- standard input follows a request from there on
abbrev pub feeds_at : Then → Bool
feeds_at (place.Starts input remove) = input
feeds_at (place.Attaches id input remove) = input
feeds_at (place.Executes input) = input
feeds_at other = false

-- standard input follows its request, or one behind that
abbrev pub feeds : Step → Bool
feeds (step.Asks ask onward) = if ask.input then true else feeds_at onward
feeds (step.Writes text status) = false
feeds (step.Judges upgrade seed moment) = false

-- it is the first step of this plan; standard input follows one request at most
abbrev pub IsStep : Step → Plan → Type 0
IsStep (step.Asks ask onward) plan =
    (request : Request) × (ask.request.items ≡ request_bytes request)
    × (plan ≡ asks_then (asked_as request ask.input ask.showing) (plan_at onward))
    × (ask.input ≡ true → feeds_at onward ≡ false)
IsStep (step.Writes text status) plan = plan ≡ Ends (to_out text.items) (Done status)
IsStep (step.Judges upgrade seed moment) plan = (plan ≡ replay_plan upgrade seed moment) × (moment ≤ greatest_moment)

-- it is that; or the plan fails so, or memory was refused
abbrev pub Begins : Result Step Fault → Plan → Type 0
Begins (Ok first) plan = IsStep first plan
Begins (Err fault) plan = (fault ≡ F.NoMemory) ⊎ (plan ≡ fails fault)

-- it is that, and standard input follows a request from there on, or none
abbrev pub GoesOn : Result Step Fault → Bool → Plan → Type 0
GoesOn (Ok next) fed plan = IsStep next plan × (feeds next ≡ fed)
GoesOn (Err fault) fed plan = Begins (Err fault) plan

-- a journal's daemon was opened at a moment that has a text
abbrev pub IsTimed : Command → Type 0
IsTimed (command.Replay upgrade seed moment) = moment ≤ greatest_moment
IsTimed other = ⊤
