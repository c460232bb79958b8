-- `run [OPTIONS] [--rm] IMAGE [WORD..]` (docker command line reference, docker container run; Docker Engine API v1.43,
-- ContainerCreate, ContainerStart, ContainerAttach, ContainerWait, ContainerDelete).
use Rattle.std.specs.Prelude.{ℕ, List, ◌∷◌, codes, Bool, false, Option, Some, option_map, if◌then◌else◌}
use Rattle.engine_text.specs.declared.pairs.Pair.{Pair}
use Rattle.client_model.specs.Words.{Options, behind_options, has_flag}
use Rattle.client_model.specs.Bodies.{id_in, status_code_in}
use Rattle.client_model.specs.Plans.{Plan, asks, ends}
use Rattle.client_model.specs.Streams.{follows}
use Rattle.client_model.specs.Commands.Container.{container_options, container_of, create_request}
use Rattle.client_model.specs.Commands.Start.{start_request}
use Rattle.client_model.specs.Commands.Attach.{attach_request}
use Rattle.client_model.specs.Commands.Wait.{wait_request}
use Rattle.client_model.specs.Commands.Remove.{remove_request}
use Rattle.client_model.specs.declared.words.Kind.TheVariants.{Flag}
use Rattle.client_model.specs.declared.command.NewContainer.{NewContainer}
use Rattle.client_model.specs.declared.command.Command.{Command}
use Rattle.client_model.specs.declared.command.Command.TheVariants as command

abbrev pub run_options : Options
run_options = (codes "--rm", Flag) ∷ container_options

abbrev pub run_in : List Pair → List (List ℕ) → Option Command
run_in given words = option_map (λ c. command.Run c (has_flag (codes "--rm") given)) (container_of given words)

abbrev pub read_run : List (List ℕ) → Option Command
read_run = behind_options run_options run_in

-- with `--rm` it removes the container, and then goes on
abbrev pub removes : Bool → List ℕ → Plan → Plan
removes remove id next = if remove then asks (remove_request id false) Some (λ body. next) else next

-- it creates the container and starts it, writes what it writes, waits for its end, and ends with its exit code
abbrev pub run_plan : NewContainer → Bool → Plan
run_plan c remove =
    asks (create_request c) id_in (λ id.
    asks (start_request id) Some (λ body.
    follows (attach_request id c.input) c.input (
    asks (wait_request id) status_code_in (λ code.
    removes remove id (ends code)))))
