-- `unpause REF` (docker command line reference, docker container unpause; Docker Engine API v1.43, ContainerUnpause).
use Rattle.std.specs.Prelude.{ℕ, List, [], codes, Option}
use Rattle.http_edge.specs.Message.{Request}
use Rattle.client_model.specs.Words.{one_word}
use Rattle.client_model.specs.Requests.{post, operation_path}
use Rattle.client_model.specs.Plans.{Plan, asks_and_prints}
use Rattle.client_model.specs.declared.command.Command.{Command}
use Rattle.client_model.specs.declared.command.Command.TheVariants as command

abbrev pub read_unpause : List (List ℕ) → Option Command
read_unpause = one_word command.Unpause

-- POST /containers/REF/unpause
abbrev pub unpause_request : List ℕ → Request
unpause_request target = post (operation_path target (codes "unpause")) []

-- it lets the container go on, and prints REF
abbrev pub unpause_plan : List ℕ → Plan
unpause_plan target = asks_and_prints (unpause_request target) target
