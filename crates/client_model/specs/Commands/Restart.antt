-- `restart [-t N] REF` (docker command line reference, docker container restart; Docker Engine API v1.43, ContainerRestart).
use Rattle.std.specs.Prelude.{ℕ, List, [], ◌∷◌, codes, Option}
use Rattle.http_edge.specs.Message.{Request}
use Rattle.engine_text.specs.declared.pairs.Pair.{Pair}
use Rattle.client_model.specs.Words.{Options, behind_options, one_word, value_of}
use Rattle.client_model.specs.Requests.{post, operation_path, key_if}
use Rattle.client_model.specs.Plans.{Plan, asks_and_prints}
use Rattle.client_model.specs.declared.words.Kind.TheVariants.{Valued}
use Rattle.client_model.specs.declared.command.Command.{Command}
use Rattle.client_model.specs.declared.command.Command.TheVariants as command

abbrev pub restart_options : Options
restart_options = (codes "-t", Valued) ∷ []

abbrev pub restart_in : List Pair → List (List ℕ) → Option Command
restart_in given = one_word (λ target. command.Restart target (value_of (codes "-t") given))

abbrev pub read_restart : List (List ℕ) → Option Command
read_restart = behind_options restart_options restart_in

-- POST /containers/REF/restart?t=N
abbrev pub restart_request : List ℕ → Option (List ℕ) → Request
restart_request target seconds = post (operation_path target (codes "restart")) (key_if (codes "t") seconds)

-- it restarts the container, which is killed after N seconds, and prints REF
abbrev pub restart_plan : List ℕ → Option (List ℕ) → Plan
restart_plan target seconds = asks_and_prints (restart_request target seconds) target
