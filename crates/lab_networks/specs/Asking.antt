-- Which requests are asked of networks, and of which one (Docker Engine API v1.43, the operations of networks; own: in a path no escape is
-- decoded).
use Rattle.std.specs.Prelude.{ℕ, List, [], Bool, ◌==◌, ◌||◌, if◌then◌else◌, Option, Some, None, option_and_then, codes}
use Rattle.std.specs.List.{before_first, after_first}
use Rattle.std.specs.Str.{bytes_eq}
use Rattle.http_edge.specs.Message.{Request}
use Rattle.lab_front.specs.Rows.{path_of}
use Rattle.lab_networks.specs.declared.asking.Kind.{Kind}
use Rattle.lab_networks.specs.declared.asking.Kind.TheVariants as kind

-- what stands before the first slash, and behind it
abbrev pub first_of : List ℕ → List ℕ
first_of path = before_first (λ b. b == 47) path

abbrev pub rest_of : List ℕ → List ℕ
rest_of path = after_first (λ b. b == 47) path

-- by what stands behind `networks`: the list, or one of them
abbrev pub get_kind : List ℕ → Option Kind
get_kind rest =
    if bytes_eq rest [] then Some kind.Lists
    else if bytes_eq (rest_of rest) [] then Some kind.Reads
    else None

-- the last segment of a join: a container is joined to a network, or parted from it
abbrev pub is_join : List ℕ → Bool
is_join last = bytes_eq last (codes "connect") || bytes_eq last (codes "disconnect")

-- one to be made, all to be pruned, or a join
abbrev pub post_kind : List ℕ → Option Kind
post_kind rest =
    if bytes_eq rest (codes "create") then Some kind.Makes
    else if bytes_eq rest (codes "prune") then Some kind.Prunes
    else if is_join (rest_of rest) then Some kind.Joins
    else None

-- one to be removed
abbrev pub delete_kind : List ℕ → Option Kind
delete_kind rest =
    if bytes_eq rest [] then None
    else if bytes_eq (rest_of rest) [] then Some kind.Removes
    else None

abbrev pub method_kind : List ℕ → List ℕ → Option Kind
method_kind method rest =
    if bytes_eq method (codes "GET") then get_kind rest
    else if bytes_eq method (codes "POST") then post_kind rest
    else if bytes_eq method (codes "DELETE") then delete_kind rest
    else None

abbrev pub kind_by : List ℕ → List ℕ → Option Kind
kind_by method path = if bytes_eq (first_of path) (codes "networks") then method_kind method (rest_of path) else None

-- what a request asks of networks; none is of something else
abbrev pub kind_of : Request → Option Kind
kind_of request = option_and_then (kind_by request.method) (path_of request.target)

-- the name or id that a path tells, behind `networks`
abbrev pub called_in : Option (List ℕ) → List ℕ
called_in None = []
called_in (Some path) = first_of (rest_of path)

abbrev pub called_of : List ℕ → List ℕ
called_of target = called_in (path_of target)
