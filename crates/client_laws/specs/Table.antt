-- The table of commands: what each request of a command is for the daemon, and whether standard input follows it, in order, by
-- the command's words and by the answers before it (own).
use Rattle.std.specs.Prelude.{ℕ, nat_lt, List, [], ◌∷◌, codes, Bool, false, Option, Some, None, if◌then◌else◌}
use Rattle.std.specs.Option.{option_map_or}
use Rattle.response_reader.specs.Answers.{Answer, NoHead, Answered}
use Rattle.api_routes.specs.Class.{or_refusal}
use Rattle.api_routes.specs.declared.class.Class.{Class}
use Rattle.client_model.specs.Bodies.{id_in, status_code_in}
use Rattle.client_model.specs.Streams.{ends_frames}
use Rattle.client_model.specs.Lines.{line_of}
use Rattle.client_model.specs.Commands.Health.{checked_in}
use Rattle.client_model.specs.declared.command.NewContainer.{NewContainer}
use Rattle.client_model.specs.declared.command.Command.{Command}
use Rattle.client_model.specs.declared.command.Command.TheVariants as command
use Rattle.client_laws.specs.Classes as class
use Rattle.client_laws.specs.Classes.{Meaning}

-- a request as the daemon classifies it, and whether standard input follows it
pub record Entry : Type 0 where
  pub class : Class
  pub input : Bool

-- without input, and with input where it is asked for
abbrev pub alone : Meaning → Entry
alone meaning = record { class = or_refusal meaning; input = false }

abbrev pub fed : Bool → Meaning → Entry
fed input meaning = record { class = or_refusal meaning; input = input }

-- ---- by which answers a command goes on

-- what is read where a body came whole
abbrev pub if_whole : {A : Type 0} → Bool → Option A → Option A
if_whole whole read = if whole then read else None

-- what is read of an answer's body, where it came whole and doesn't refuse
abbrev pub body_by : {A : Type 0} → (List ℕ → Option A) → Answer → Option A
body_by read NoHead = None
body_by read (Answered h body whole) = if nat_lt h.status 400 then if_whole whole (read body) else None

-- a body
abbrev pub any_body : Answer → Option (List ℕ)
any_body = body_by Some

-- a stream of whole frames
abbrev pub frames : Answer → Option (List ℕ)
frames = body_by (λ body. if ends_frames body then Some body else None)

-- ---- requests in order

-- one request
abbrev pub once : Meaning → List Entry
once meaning = alone meaning ∷ []

-- a request, and then, once its answer came and the command goes on by it, those behind it
abbrev pub then_by : {A : Type 0} → Entry → (Answer → Option A) → (A → List Answer → List Entry) → List Answer → List Entry
then_by entry read next [] = entry ∷ []
then_by entry read next (answer ∷ answers) = entry ∷ option_map_or (λ x. next x answers) (read answer) []

-- create, start, attach, with `-i` fed, wait, and with `--rm` remove
abbrev pub run_calls : NewContainer → Bool → List Answer → List Entry
run_calls c remove =
    then_by (alone (class.create c)) (body_by id_in) (λ id.
    then_by (alone (class.start id)) any_body (λ body.
    then_by (fed c.input (class.attach id c.input)) frames (λ streams.
    then_by (alone (class.wait id)) (body_by status_code_in) (λ code answers.
    if remove then once (class.remove id false) else []))))

-- exec create, exec start, with `-i` fed, exec inspect
abbrev pub exec_calls : List ℕ → List (List ℕ) → Bool → List Answer → List Entry
exec_calls target words input =
    then_by (alone (class.exec_create target words input)) (body_by id_in) (λ id.
    then_by (fed input (class.exec_start id)) frames (λ streams answers.
    once (class.exec_inspect id)))

-- inspect, and the events of a container that has a check
abbrev pub health_calls : List ℕ → List ℕ → List Answer → List Entry
health_calls until target =
    then_by (alone (class.inspect target)) (body_by checked_in) (λ checked answers.
    option_map_or (λ c. once (class.container_events until c.id)) checked [])

-- the requests of a command
abbrev pub calls_of : Command → List Answer → List Entry
calls_of (command.Create c) answers = once (class.create c)
calls_of (command.Run c remove) answers = run_calls c remove answers
calls_of (command.Start target) answers = once (class.start target)
calls_of (command.Pause target) answers = once (class.pause target)
calls_of (command.Unpause target) answers = once (class.unpause target)
calls_of (command.Stop target seconds) answers = once (class.stop target seconds)
calls_of (command.Restart target seconds) answers = once (class.restart target seconds)
calls_of (command.Kill target signal) answers = once (class.kill target signal)
calls_of (command.Remove target force) answers = once (class.remove target force)
calls_of (command.Rename target name) answers = once (class.rename target name)
calls_of (command.Update target restart) answers = once (class.update target restart)
calls_of (command.List all) answers = once (class.containers all)
calls_of (command.Inspect target) answers = once (class.inspect target)
calls_of command.Version answers = once class.version
calls_of (command.Logs target follow) answers = once (class.logs target follow)
calls_of (command.Attach target) answers = once (class.attach target false)
calls_of (command.Exec target words input) answers = exec_calls target words input answers
calls_of (command.Wait target) answers = once (class.wait target)
calls_of (command.Events since until) answers = once (class.events since until)
calls_of (command.Watch until) answers = once (class.events (codes "0") until)
calls_of (command.Health until target) answers = health_calls until target answers
calls_of (command.VolumeCreate name) answers = once (class.volume_create name)
calls_of (command.VolumeInspect name) answers = once (class.volume_inspect name)
calls_of (command.VolumeRemove name) answers = once (class.volume_remove name)
calls_of command.VolumeList answers = once class.volume_list
calls_of command.Journal answers = once class.journal
calls_of (command.Replay upgrade seed moment) answers = []

-- those of a line; words that are no line ask nothing
abbrev pub calls_for : List (List ℕ) → List Answer → List Entry
calls_for words answers = option_map_or (λ line. calls_of line.command answers) (line_of words) []
