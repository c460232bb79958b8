-- `rm [-f] REF` (docker command line reference, docker container rm; Docker Engine API v1.43, ContainerDelete).
use Rattle.std.specs.Prelude.{ℕ, List, [], ◌∷◌, codes, Bool, Option}
use Rattle.http_edge.specs.Message.{Request}
use Rattle.engine_text.specs.declared.pairs.Pair.{Pair}
use Rattle.client_model.specs.Words.{Options, behind_options, one_word, has_flag}
use Rattle.client_model.specs.Requests.{delete, container_path, key_set}
use Rattle.client_model.specs.Plans.{Plan, asks_and_prints}
use Rattle.client_model.specs.declared.words.Kind.TheVariants.{Flag}
use Rattle.client_model.specs.declared.command.Command.{Command}
use Rattle.client_model.specs.declared.command.Command.TheVariants as command

abbrev pub remove_options : Options
remove_options = (codes "-f", Flag) ∷ []

abbrev pub remove_in : List Pair → List (List ℕ) → Option Command
remove_in given = one_word (λ target. command.Remove target (has_flag (codes "-f") given))

abbrev pub read_remove : List (List ℕ) → Option Command
read_remove = behind_options remove_options remove_in

-- DELETE /containers/REF, with `-f` ?force=1
abbrev pub remove_request : List ℕ → Bool → Request
remove_request target force = delete (container_path target) (key_set (codes "force") force)

-- it removes the container, and prints REF
abbrev pub remove_plan : List ℕ → Bool → Plan
remove_plan target force = asks_and_prints (remove_request target force) target
