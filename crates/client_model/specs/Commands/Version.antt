-- `version` (docker command line reference, docker version; Docker Engine API v1.43, SystemVersion).
use Rattle.std.specs.Prelude.{ℕ, List, [], ◌∷◌, codes, Option}
use Rattle.http_edge.specs.Message.{Request}
use Rattle.client_model.specs.Words.{no_word}
use Rattle.client_model.specs.Requests.{get}
use Rattle.client_model.specs.Plans.{Plan, asks_and_shows}
use Rattle.client_model.specs.declared.command.Command.{Command}
use Rattle.client_model.specs.declared.command.Command.TheVariants as command

abbrev pub read_version : List (List ℕ) → Option Command
read_version = no_word command.Version

-- GET /version
abbrev pub version_request : Request
version_request = get (codes "version" ∷ []) []

-- it prints the body
abbrev pub version_plan : Plan
version_plan = asks_and_shows version_request
