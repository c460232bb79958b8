-- `volume create NAME` (docker command line reference, docker volume create; Docker Engine API v1.43, VolumeCreate).
use Rattle.std.specs.Prelude.{ℕ, List, [], codes, Option}
use Rattle.http_edge.specs.Message.{Request}
use Rattle.serde_json.specs.Data.{Data, object, no_members, member}
use Rattle.api_json.specs.Values.{text}
use Rattle.client_model.specs.Words.{one_word}
use Rattle.client_model.specs.Requests.{post_body, volume_path}
use Rattle.client_model.specs.Plans.{Plan, asks_and_prints}
use Rattle.client_model.specs.declared.command.Command.{Command}
use Rattle.client_model.specs.declared.command.Command.TheVariants as command

abbrev pub read_volume_create : List (List ℕ) → Option Command
read_volume_create = one_word command.VolumeCreate

-- the body of VolumeCreate
abbrev pub volume_data : List ℕ → Data
volume_data name = object (member (codes "Name") (text name) no_members)

-- POST /volumes/create
abbrev pub volume_create_request : List ℕ → Request
volume_create_request name = post_body (volume_path (codes "create")) [] (volume_data name)

-- it creates the volume, and prints NAME
abbrev pub volume_create_plan : List ℕ → Plan
volume_create_plan name = asks_and_prints (volume_create_request name) name
