-- `inspect REF` (docker command line reference, docker container inspect; Docker Engine API v1.43, ContainerInspect).
use Rattle.std.specs.Prelude.{ℕ, List, [], codes, Option}
use Rattle.http_edge.specs.Message.{Request}
use Rattle.client_model.specs.Words.{one_word}
use Rattle.client_model.specs.Requests.{get, operation_path}
use Rattle.client_model.specs.Plans.{Plan, asks_and_shows}
use Rattle.client_model.specs.declared.command.Command.{Command}
use Rattle.client_model.specs.declared.command.Command.TheVariants as command

abbrev pub read_inspect : List (List ℕ) → Option Command
read_inspect = one_word command.Inspect

-- GET /containers/REF/json
abbrev pub inspect_request : List ℕ → Request
inspect_request target = get (operation_path target (codes "json")) []

-- it prints the body
abbrev pub inspect_plan : List ℕ → Plan
inspect_plan target = asks_and_shows (inspect_request target)
