-- `ps [-a]` (docker command line reference, docker container ls; Docker Engine API v1.43, ContainerList).
use Rattle.std.specs.Prelude.{ℕ, List, [], ◌∷◌, codes, Bool, Option}
use Rattle.http_edge.specs.Message.{Request}
use Rattle.engine_text.specs.declared.pairs.Pair.{Pair}
use Rattle.client_model.specs.Words.{Options, behind_options, no_word, has_flag}
use Rattle.client_model.specs.Requests.{get, key_set}
use Rattle.client_model.specs.Bodies.{container_lines_in}
use Rattle.client_model.specs.Plans.{Plan, asks, prints_all, done}
use Rattle.client_model.specs.declared.words.Kind.TheVariants.{Flag}
use Rattle.client_model.specs.declared.command.Command.{Command}
use Rattle.client_model.specs.declared.command.Command.TheVariants as command

abbrev pub list_options : Options
list_options = (codes "-a", Flag) ∷ []

abbrev pub list_in : List Pair → List (List ℕ) → Option Command
list_in given = no_word (command.List (has_flag (codes "-a") given))

abbrev pub read_list : List (List ℕ) → Option Command
read_list = behind_options list_options list_in

-- GET /containers/json, with `-a` ?all=1
abbrev pub list_request : Bool → Request
list_request all = get (codes "containers" ∷ codes "json" ∷ []) (key_set (codes "all") all)

-- it prints `ID NAME STATE STATUS` of each container
abbrev pub list_plan : Bool → Plan
list_plan all = asks (list_request all) container_lines_in (λ lines. prints_all lines done)
