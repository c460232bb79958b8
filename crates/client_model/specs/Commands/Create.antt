-- `create [OPTIONS] IMAGE [WORD..]` (docker command line reference, docker container create; Docker Engine API v1.43,
-- ContainerCreate).
use Rattle.std.specs.Prelude.{ℕ, List, Option, option_map}
use Rattle.engine_text.specs.declared.pairs.Pair.{Pair}
use Rattle.client_model.specs.Words.{behind_options}
use Rattle.client_model.specs.Bodies.{id_in}
use Rattle.client_model.specs.Plans.{Plan, asks, prints, done}
use Rattle.client_model.specs.Commands.Container.{container_options, container_of, create_request}
use Rattle.client_model.specs.declared.command.NewContainer.{NewContainer}
use Rattle.client_model.specs.declared.command.Command.{Command}
use Rattle.client_model.specs.declared.command.Command.TheVariants as command

abbrev pub create_in : List Pair → List (List ℕ) → Option Command
create_in given words = option_map command.Create (container_of given words)

abbrev pub read_create : List (List ℕ) → Option Command
read_create = behind_options container_options create_in

-- it creates the container, and prints its id
abbrev pub create_plan : NewContainer → Plan
create_plan c = asks (create_request c) id_in (λ id. prints id done)
