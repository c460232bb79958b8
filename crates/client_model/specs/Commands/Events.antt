-- `events SINCE UNTIL` (docker command line reference, docker system events, its `--since` and `--until`; Docker Engine
-- API v1.43, SystemEvents).
use Rattle.std.specs.Prelude.{ℕ, List, [], ◌∷◌, ◌++◌, codes, Option}
use Rattle.http_edge.specs.Message.{Request}
use Rattle.client_model.specs.Words.{two_words}
use Rattle.client_model.specs.Requests.{get, key}
use Rattle.client_model.specs.Plans.{Plan, done}
use Rattle.client_model.specs.Streams.{copies}
use Rattle.client_model.specs.declared.command.Command.{Command}
use Rattle.client_model.specs.declared.command.Command.TheVariants as command

abbrev pub read_events : List (List ℕ) → Option Command
read_events = two_words command.Events

-- GET /events?since=SINCE&until=UNTIL
abbrev pub events_request : List ℕ → List ℕ → Request
events_request since until = get (codes "events" ∷ []) (key (codes "since") since ++ key (codes "until") until)

-- it writes the lines
abbrev pub events_plan : List ℕ → List ℕ → Plan
events_plan since until = copies (events_request since until) done
