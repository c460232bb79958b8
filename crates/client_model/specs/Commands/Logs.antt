-- `logs [-f] REF` (docker command line reference, docker container logs; Docker Engine API v1.43, ContainerLogs).
use Rattle.std.specs.Prelude.{ℕ, List, [], ◌∷◌, ◌++◌, codes, Bool, true, false, Option}
use Rattle.http_edge.specs.Message.{Request}
use Rattle.engine_text.specs.declared.pairs.Pair.{Pair}
use Rattle.client_model.specs.Words.{Options, behind_options, one_word, has_flag}
use Rattle.client_model.specs.Requests.{get, operation_path, key_set, Query}
use Rattle.client_model.specs.Plans.{Plan, done}
use Rattle.client_model.specs.Streams.{follows}
use Rattle.client_model.specs.declared.words.Kind.TheVariants.{Flag}
use Rattle.client_model.specs.declared.command.Command.{Command}
use Rattle.client_model.specs.declared.command.Command.TheVariants as command

abbrev pub logs_options : Options
logs_options = (codes "-f", Flag) ∷ []

abbrev pub logs_in : List Pair → List (List ℕ) → Option Command
logs_in given = one_word (λ target. command.Logs target (has_flag (codes "-f") given))

abbrev pub read_logs : List (List ℕ) → Option Command
read_logs = behind_options logs_options logs_in

-- both streams
abbrev pub both_streams : Query
both_streams = key_set (codes "stdout") true ++ key_set (codes "stderr") true

-- GET /containers/REF/logs?stdout=1&stderr=1, with `-f` &follow=1
abbrev pub logs_request : List ℕ → Bool → Request
logs_request target follow =
    get (operation_path target (codes "logs")) (both_streams ++ key_set (codes "follow") follow)

-- it writes what the container wrote, with `-f` to its end
abbrev pub logs_plan : List ℕ → Bool → Plan
logs_plan target follow = follows (logs_request target follow) false done
