-- What the client asks, writes and ends with, by its words, by standard input and by the answers that it reads (own).
use Rattle.std.specs.Prelude.{ℕ, ◌≡◌, List, [], ◌∷◌, ◌++◌, Option, Some, None, option_map}
use Rattle.std.specs.Option.{option_map_or}
use Rattle.response_reader.specs.Answers.{Answer}
use Rattle.client_model.specs.Faults.{status_of, fault_line}
use Rattle.client_model.specs.Judgement.{Judgement, IsJudgement}
use Rattle.client_model.specs.Plans.{Plan, Ends, Asks, Judges, Written, Asked, Ending, Done, Fails, nothing, joined, fails}
use Rattle.client_model.specs.Lines.{line_of}
use Rattle.client_model.specs.Commands.Create.{create_plan}
use Rattle.client_model.specs.Commands.Run.{run_plan}
use Rattle.client_model.specs.Commands.Start.{start_plan}
use Rattle.client_model.specs.Commands.Pause.{pause_plan}
use Rattle.client_model.specs.Commands.Unpause.{unpause_plan}
use Rattle.client_model.specs.Commands.Stop.{stop_plan}
use Rattle.client_model.specs.Commands.Restart.{restart_plan}
use Rattle.client_model.specs.Commands.Kill.{kill_plan}
use Rattle.client_model.specs.Commands.Remove.{remove_plan}
use Rattle.client_model.specs.Commands.Rename.{rename_plan}
use Rattle.client_model.specs.Commands.Update.{update_plan}
use Rattle.client_model.specs.Commands.List.{list_plan}
use Rattle.client_model.specs.Commands.Inspect.{inspect_plan}
use Rattle.client_model.specs.Commands.Version.{version_plan}
use Rattle.client_model.specs.Commands.Logs.{logs_plan}
use Rattle.client_model.specs.Commands.Attach.{attach_plan}
use Rattle.client_model.specs.Commands.Exec.{exec_plan}
use Rattle.client_model.specs.Commands.Wait.{wait_plan}
use Rattle.client_model.specs.Commands.Events.{events_plan}
use Rattle.client_model.specs.Commands.Watch.{watch_plan}
use Rattle.client_model.specs.Commands.Health.{health_plan}
use Rattle.client_model.specs.Commands.VolumeCreate.{volume_create_plan}
use Rattle.client_model.specs.Commands.VolumeInspect.{volume_inspect_plan}
use Rattle.client_model.specs.Commands.VolumeRemove.{volume_remove_plan}
use Rattle.client_model.specs.Commands.VolumeList.{volume_list_plan}
use Rattle.client_model.specs.Commands.Journal.{journal_plan}
use Rattle.client_model.specs.Commands.Replay.{replay_plan}
use Rattle.client_model.specs.declared.command.Command.{Command}
use Rattle.client_model.specs.declared.command.Command.TheVariants as command
use Rattle.client_model.specs.declared.fault.Fault.TheVariants as F

-- ---- the plan of each command

abbrev pub plan_of : Command → Plan
plan_of (command.Create c) = create_plan c
plan_of (command.Run c remove) = run_plan c remove
plan_of (command.Start target) = start_plan target
plan_of (command.Pause target) = pause_plan target
plan_of (command.Unpause target) = unpause_plan target
plan_of (command.Stop target seconds) = stop_plan target seconds
plan_of (command.Restart target seconds) = restart_plan target seconds
plan_of (command.Kill target signal) = kill_plan target signal
plan_of (command.Remove target force) = remove_plan target force
plan_of (command.Rename target name) = rename_plan target name
plan_of (command.Update target restart) = update_plan target restart
plan_of (command.List all) = list_plan all
plan_of (command.Inspect target) = inspect_plan target
plan_of command.Version = version_plan
plan_of (command.Logs target follow) = logs_plan target follow
plan_of (command.Attach target) = attach_plan target
plan_of (command.Exec target words input) = exec_plan target words input
plan_of (command.Wait target) = wait_plan target
plan_of (command.Events since until) = events_plan since until
plan_of (command.Watch until) = watch_plan until
plan_of (command.Health until target) = health_plan until target
plan_of (command.VolumeCreate name) = volume_create_plan name
plan_of (command.VolumeInspect name) = volume_inspect_plan name
plan_of (command.VolumeRemove name) = volume_remove_plan name
plan_of command.VolumeList = volume_list_plan
plan_of command.Journal = journal_plan
plan_of (command.Replay upgrade seed moment) = replay_plan upgrade seed moment

-- words that are no line have a usage line alone
abbrev pub plan_for : List (List ℕ) → Plan
plan_for words = option_map_or (λ line. plan_of line.command) (line_of words) (fails F.Words)

-- ---- what a plan comes to

-- what was asked and written, in order, and the end, once it has come
pub record Said : Type 0 where
  pub asked : List Asked
  pub written : Written
  pub end : Option Ending

abbrev pub said : List Asked → Written → Option Ending → Said
said asked written end = record { asked = asked; written = written; end = end }

-- what is written and asked first, and then what follows
abbrev pub said_first : Written → Asked → Said → Said
said_first w asked rest = said (asked ∷ rest.asked) (joined w rest.written) rest.end

-- what a plan comes to by the judgement that it asks for, and by these answers, one to each request
abbrev pub said_by : Plan → Option Judgement → List Answer → Said
said_by (Ends w ending) judgement answers = said [] w (Some ending)
said_by (Asks w asked next) judgement [] = said (asked ∷ []) w None
said_by (Asks w asked next) judgement (answer ∷ answers) = said_first w asked (said_by (next answer) judgement answers)
said_by (Judges charter next) None answers = said [] nothing None
said_by (Judges charter next) (Some judgement) answers = said_by (next judgement) None answers

-- it is the judgement on the input that the plan asks for, or none where it asks for none
abbrev pub IsJudged : Plan → List ℕ → Option Judgement → Type 0
IsJudged (Judges charter next) input (Some judgement) = IsJudgement charter input judgement
IsJudged (Judges charter next) input None = ⊥
IsJudged plan input judgement = judgement ≡ None

-- ---- the result

-- the status that an end gives, and the line that it adds to standard error
abbrev pub status_at : Ending → ℕ
status_at (Done status) = status
status_at (Fails fault) = status_of fault

abbrev pub line_at : List (List ℕ) → Ending → List ℕ
line_at words (Done status) = []
line_at words (Fails fault) = fault_line words fault

-- standard output, standard error, and the status
pub record Result : Type 0 where
  pub out : List ℕ
  pub err : List ℕ
  pub status : ℕ

abbrev pub result_at : List (List ℕ) → Written → Ending → Result
result_at words w ending = record { out = w.out; err = w.err ++ line_at words ending; status = status_at ending }

-- the result of these words, by the judgement on standard input where they ask for one, and by the answers, one to each
-- request; none while an answer hasn't come
abbrev pub client_result : List (List ℕ) → Option Judgement → List Answer → Option Result
client_result words judgement answers =
    let said = said_by (plan_for words) judgement answers in option_map (result_at words said.written) said.end
