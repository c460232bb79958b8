-- `exec [-i] REF WORD..` (docker command line reference, docker container exec; Docker Engine API v1.43, ContainerExec,
-- ExecStart, ExecInspect).
use Rattle.std.specs.Prelude.{ℕ, List, [], ◌∷◌, codes, Bool, true, Option, Some, None, option_map}
use Rattle.std.specs.Option.{option_map_or}
use Rattle.http_edge.specs.Message.{Request}
use Rattle.serde_json.specs.Data.{Data, null, boolean, object, no_members, member}
use Rattle.serde_json.specs.Find.{get as get_member}
use Rattle.json_laws.specs.Text.{data_of}
use Rattle.json_laws.specs.Pairs.{words_data}
use Rattle.engine_text.specs.declared.pairs.Pair.{Pair}
use Rattle.api_json.specs.Event.{if_there}
use Rattle.client_model.specs.Words.{Options, behind_options, has_flag}
use Rattle.client_model.specs.Requests.{get, post_body, take_over, operation_path, exec_path}
use Rattle.client_model.specs.Bodies.{id_in, code_by}
use Rattle.client_model.specs.Plans.{Plan, asks, ends, fails}
use Rattle.client_model.specs.Streams.{follows}
use Rattle.client_model.specs.declared.words.Kind.TheVariants.{Flag}
use Rattle.client_model.specs.declared.fault.Fault.TheVariants as F
use Rattle.client_model.specs.declared.command.Command.{Command}
use Rattle.client_model.specs.declared.command.Command.TheVariants as command

abbrev pub exec_options : Options
exec_options = (codes "-i", Flag) ∷ []

-- a reference, and at least one word
abbrev pub exec_in : List Pair → List (List ℕ) → Option Command
exec_in given (target ∷ word ∷ words) = Some (command.Exec target (word ∷ words) (has_flag (codes "-i") given))
exec_in given words = None

abbrev pub read_exec : List (List ℕ) → Option Command
read_exec = behind_options exec_options exec_in

-- the body of ContainerExec: both of its outputs are asked for, and with `-i` its input
abbrev pub exec_data : List (List ℕ) → Bool → Data
exec_data words input = object (
    member (codes "AttachStderr") (boolean true) (
    member (codes "AttachStdin") (boolean input) (
    member (codes "AttachStdout") (boolean true) (
    member (codes "Cmd") (words_data words) no_members))))

-- POST /containers/REF/exec
abbrev pub exec_create_request : List ℕ → List (List ℕ) → Bool → Request
exec_create_request target words input = post_body (operation_path target (codes "exec")) [] (exec_data words input)

-- POST /exec/ID/start
abbrev pub exec_start_request : List ℕ → Request
exec_start_request id = take_over (exec_path id (codes "start")) []

-- GET /exec/ID/json
abbrev pub exec_inspect_request : List ℕ → Request
exec_inspect_request id = get (exec_path id (codes "json")) []

-- the exit code that data is, or none yet where it is null
abbrev pub code_or_null : Data → Option (Option ℕ)
code_or_null null = Some None
code_or_null d = option_map Some (code_by d)

-- `ExitCode`
abbrev pub exit_code_in : List ℕ → Option (Option ℕ)
exit_code_in body = if_there (if_there (data_of body) (get_member (codes "ExitCode"))) code_or_null

-- it creates the exec and starts it, writes what it writes, and ends with its exit code
abbrev pub exec_plan : List ℕ → List (List ℕ) → Bool → Plan
exec_plan target words input =
    asks (exec_create_request target words input) id_in (λ id.
    follows (exec_start_request id) input (
    asks (exec_inspect_request id) exit_code_in (λ code. option_map_or ends code (fails F.NoCode))))
