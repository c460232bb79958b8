-- `start REF` (docker command line reference, docker container start; Docker Engine API v1.43, ContainerStart).
use Rattle.std.specs.Prelude.{ℕ, List, [], codes, Option}
use Rattle.http_edge.specs.Message.{Request}
use Rattle.client_model.specs.Words.{one_word}
use Rattle.client_model.specs.Requests.{post, operation_path}
use Rattle.client_model.specs.Plans.{Plan, asks_and_prints}
use Rattle.client_model.specs.declared.command.Command.{Command}
use Rattle.client_model.specs.declared.command.Command.TheVariants as command

abbrev pub read_start : List (List ℕ) → Option Command
read_start = one_word command.Start

-- POST /containers/REF/start
abbrev pub start_request : List ℕ → Request
start_request target = post (operation_path target (codes "start")) []

-- it starts the container, and prints REF
abbrev pub start_plan : List ℕ → Plan
start_plan target = asks_and_prints (start_request target) target
