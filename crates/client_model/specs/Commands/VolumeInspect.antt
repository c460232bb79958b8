-- `volume inspect NAME` (docker command line reference, docker volume inspect; Docker Engine API v1.43, VolumeInspect).
use Rattle.std.specs.Prelude.{ℕ, List, [], Option}
use Rattle.http_edge.specs.Message.{Request}
use Rattle.client_model.specs.Words.{one_word}
use Rattle.client_model.specs.Requests.{get, volume_path}
use Rattle.client_model.specs.Plans.{Plan, asks_and_shows}
use Rattle.client_model.specs.declared.command.Command.{Command}
use Rattle.client_model.specs.declared.command.Command.TheVariants as command

abbrev pub read_volume_inspect : List (List ℕ) → Option Command
read_volume_inspect = one_word command.VolumeInspect

-- GET /volumes/NAME
abbrev pub volume_inspect_request : List ℕ → Request
volume_inspect_request name = get (volume_path name) []

-- it prints the body
abbrev pub volume_inspect_plan : List ℕ → Plan
volume_inspect_plan name = asks_and_shows (volume_inspect_request name)
