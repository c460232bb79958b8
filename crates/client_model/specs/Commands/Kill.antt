-- `kill [-s SIG] REF` (docker command line reference, docker container kill; Docker Engine API v1.43, ContainerKill).
use Rattle.std.specs.Prelude.{ℕ, List, [], ◌∷◌, codes, Option}
use Rattle.http_edge.specs.Message.{Request}
use Rattle.engine_text.specs.declared.pairs.Pair.{Pair}
use Rattle.client_model.specs.Words.{Options, behind_options, one_word, value_of}
use Rattle.client_model.specs.Requests.{post, operation_path, key_if}
use Rattle.client_model.specs.Plans.{Plan, asks_and_prints}
use Rattle.client_model.specs.declared.words.Kind.TheVariants.{Valued}
use Rattle.client_model.specs.declared.command.Command.{Command}
use Rattle.client_model.specs.declared.command.Command.TheVariants as command

abbrev pub kill_options : Options
kill_options = (codes "-s", Valued) ∷ []

abbrev pub kill_in : List Pair → List (List ℕ) → Option Command
kill_in given = one_word (λ target. command.Kill target (value_of (codes "-s") given))

abbrev pub read_kill : List (List ℕ) → Option Command
read_kill = behind_options kill_options kill_in

-- POST /containers/REF/kill?signal=SIG
abbrev pub kill_request : List ℕ → Option (List ℕ) → Request
kill_request target signal = post (operation_path target (codes "kill")) (key_if (codes "signal") signal)

-- it signals the container, and prints REF
abbrev pub kill_plan : List ℕ → Option (List ℕ) → Plan
kill_plan target signal = asks_and_prints (kill_request target signal) target
