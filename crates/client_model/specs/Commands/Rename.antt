-- `rename REF NAME` (docker command line reference, docker container rename; Docker Engine API v1.43, ContainerRename).
use Rattle.std.specs.Prelude.{ℕ, List, codes, Option}
use Rattle.http_edge.specs.Message.{Request}
use Rattle.client_model.specs.Words.{two_words}
use Rattle.client_model.specs.Requests.{post, operation_path, key}
use Rattle.client_model.specs.Plans.{Plan, asks_and_prints}
use Rattle.client_model.specs.declared.command.Command.{Command}
use Rattle.client_model.specs.declared.command.Command.TheVariants as command

abbrev pub read_rename : List (List ℕ) → Option Command
read_rename = two_words command.Rename

-- POST /containers/REF/rename?name=NAME
abbrev pub rename_request : List ℕ → List ℕ → Request
rename_request target name = post (operation_path target (codes "rename")) (key (codes "name") name)

-- it renames the container, and prints REF
abbrev pub rename_plan : List ℕ → List ℕ → Plan
rename_plan target name = asks_and_prints (rename_request target name) target
