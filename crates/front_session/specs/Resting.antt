-- How long nothing is written behind a piece (Docker Engine API v1.43, ContainerAttach and ExecStart: the heads behind which a connection is no
-- longer HTTP; own: how long).
use Rattle.std.specs.Prelude.{ℕ, List, Bool, true, false, ◌||◌, if◌then◌else◌, nat_eq}
use Rattle.std.specs.List.{starts_with}
use Rattle.http_edge.specs.Response.{takeover_head}

-- it begins with the head of a connection that is taken over
abbrev pub is_takeover : List ℕ → Bool
is_takeover piece = starts_with nat_eq piece (takeover_head true) || starts_with nat_eq piece (takeover_head false)

-- in milliseconds
abbrev pub rest_of : List ℕ → ℕ
rest_of piece = if is_takeover piece then 20 else 0
