-- `volume rm NAME` (docker command line reference, docker volume rm; Docker Engine API v1.43, VolumeDelete).
use Rattle.std.specs.Prelude.{ℕ, List, [], Option}
use Rattle.http_edge.specs.Message.{Request}
use Rattle.client_model.specs.Words.{one_word}
use Rattle.client_model.specs.Requests.{delete, volume_path}
use Rattle.client_model.specs.Plans.{Plan, asks_and_prints}
use Rattle.client_model.specs.declared.command.Command.{Command}
use Rattle.client_model.specs.declared.command.Command.TheVariants as command

abbrev pub read_volume_remove : List (List ℕ) → Option Command
read_volume_remove = one_word command.VolumeRemove

-- DELETE /volumes/NAME
abbrev pub volume_remove_request : List ℕ → Request
volume_remove_request name = delete (volume_path name) []

-- it removes the volume, and prints NAME
abbrev pub volume_remove_plan : List ℕ → Plan
volume_remove_plan name = asks_and_prints (volume_remove_request name) name
