-- `pause REF` (docker command line reference, docker container pause; Docker Engine API v1.43, ContainerPause).
use Rattle.std.specs.Prelude.{ℕ, List, [], codes, Option}
use Rattle.http_edge.specs.Message.{Request}
use Rattle.client_model.specs.Words.{one_word}
use Rattle.client_model.specs.Requests.{post, operation_path}
use Rattle.client_model.specs.Plans.{Plan, asks_and_prints}
use Rattle.client_model.specs.declared.command.Command.{Command}
use Rattle.client_model.specs.declared.command.Command.TheVariants as command

abbrev pub read_pause : List (List ℕ) → Option Command
read_pause = one_word command.Pause

-- POST /containers/REF/pause
abbrev pub pause_request : List ℕ → Request
pause_request target = post (operation_path target (codes "pause")) []

-- it pauses the container, and prints REF
abbrev pub pause_plan : List ℕ → Plan
pause_plan target = asks_and_prints (pause_request target) target
