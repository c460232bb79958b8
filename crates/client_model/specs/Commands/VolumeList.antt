-- `volume ls` (docker command line reference, docker volume ls; Docker Engine API v1.43, VolumeList).
use Rattle.std.specs.Prelude.{ℕ, List, [], ◌∷◌, codes, Option}
use Rattle.http_edge.specs.Message.{Request}
use Rattle.client_model.specs.Words.{no_word}
use Rattle.client_model.specs.Requests.{get}
use Rattle.client_model.specs.Bodies.{volume_names_in}
use Rattle.client_model.specs.Plans.{Plan, asks, prints_all, done}
use Rattle.client_model.specs.declared.command.Command.{Command}
use Rattle.client_model.specs.declared.command.Command.TheVariants as command

abbrev pub read_volume_list : List (List ℕ) → Option Command
read_volume_list = no_word command.VolumeList

-- GET /volumes
abbrev pub volume_list_request : Request
volume_list_request = get (codes "volumes" ∷ []) []

-- it prints each volume's name
abbrev pub volume_list_plan : Plan
volume_list_plan = asks volume_list_request volume_names_in (λ names. prints_all names done)
