-- `stop [-t N] REF` (docker command line reference, docker container stop; Docker Engine API v1.43, ContainerStop).
use Rattle.std.specs.Prelude.{ℕ, List, [], ◌∷◌, codes, Option}
use Rattle.http_edge.specs.Message.{Request}
use Rattle.engine_text.specs.declared.pairs.Pair.{Pair}
use Rattle.client_model.specs.Words.{Options, behind_options, one_word, value_of}
use Rattle.client_model.specs.Requests.{post, operation_path, key_if}
use Rattle.client_model.specs.Plans.{Plan, asks_and_prints}
use Rattle.client_model.specs.declared.words.Kind.TheVariants.{Valued}
use Rattle.client_model.specs.declared.command.Command.{Command}
use Rattle.client_model.specs.declared.command.Command.TheVariants as command

abbrev pub stop_options : Options
stop_options = (codes "-t", Valued) ∷ []

abbrev pub stop_in : List Pair → List (List ℕ) → Option Command
stop_in given = one_word (λ target. command.Stop target (value_of (codes "-t") given))

abbrev pub read_stop : List (List ℕ) → Option Command
read_stop = behind_options stop_options stop_in

-- POST /containers/REF/stop?t=N
abbrev pub stop_request : List ℕ → Option (List ℕ) → Request
stop_request target seconds = post (operation_path target (codes "stop")) (key_if (codes "t") seconds)

-- it stops the container, which is killed after N seconds, and prints REF
abbrev pub stop_plan : List ℕ → Option (List ℕ) → Plan
stop_plan target seconds = asks_and_prints (stop_request target seconds) target
