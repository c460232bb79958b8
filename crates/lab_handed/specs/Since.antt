-- Events up to a moment as they are handed on, from the first kept one on (Docker Engine API v1.43, SystemEvents: since and until; URL
-- Standard, section 5.1; own: that without `since` such events begin with the first kept one, as with Moby's daemon).
use Rattle.std.specs.Prelude.{ℕ, List, Bool, false, ◌&&◌, not, Option, Some, None, codes}
use Rattle.std.specs.Str.{bytes_eq}
use Rattle.http_edge.specs.Message.{Request}
use Rattle.lab_front.specs.Queries.{query_of, value_of}
use Rattle.lab_front.specs.Rows.{path_of}
use Rattle.lab_handed.specs.Keys.{is_given, are_ascii}

-- ---- which request

abbrev pub is_path_of_events : Option (List ℕ) → Bool
is_path_of_events None = false
is_path_of_events (Some path) = bytes_eq path (codes "events")

-- a query tells up to when, and not from when on
abbrev pub tells_until_alone : List ℕ → Bool
tells_until_alone query = not (is_given (value_of (codes "since") query)) && is_given (value_of (codes "until") query)

-- such events are asked for by this target, which is of ASCII alone
abbrev pub is_target_until : List ℕ → Bool
is_target_until target = is_path_of_events (path_of target) && are_ascii target && tells_until_alone (query_of target)

-- a request asks for events up to a moment, and doesn't say from when on
abbrev pub takes_since : Request → Bool
takes_since request = bytes_eq request.method (codes "GET") && is_target_until request.target

-- ---- with the key

-- the key of the first kept event, before other keys
abbrev pub since_key : List ℕ
since_key = codes "since=0&"
