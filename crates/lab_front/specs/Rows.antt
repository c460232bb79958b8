-- Which requests are answered the same at each time (Docker Engine API v1.43, the operations of images, networks and system;
-- "Versioning"; the parts of a target: RFC 9112, section 3.2.1).
use Rattle.std.specs.Prelude.{ℕ, List, [], ◌∷◌, Bool, false, ◌==◌, ◌&&◌, ◌||◌, if◌then◌else◌, Option, Some, None, option_map, option_and_then, nat_eq, codes}
use Rattle.std.specs.List.{before_first, after_first, starts_with}
use Rattle.std.specs.Str.{bytes_eq}
use Rattle.http_edge.specs.Message.{Request}
use Rattle.lab_front.specs.Left.{other_get, other_post}
use Rattle.lab_front.specs.Naming.{image_get, image_delete}
use Rattle.lab_front.specs.Pruning.{volumes_row}
use Rattle.lab_front.specs.Queries.{is_between, query_of, value_of, is_listed, is_latest, is_tools}
use Rattle.lab_front.specs.declared.table.Network.TheVariants as network
use Rattle.lab_front.specs.declared.table.Row.{Row}
use Rattle.lab_front.specs.declared.table.Row.TheVariants as to

-- ---- the path of a target

-- two digits of a number from 24 to 43
abbrev pub is_served : ℕ → ℕ → Bool
is_served tens ones =
    ((tens == 50) && is_between 52 57 ones) || ((tens == 51) && is_between 48 57 ones)
    || ((tens == 52) && is_between 48 51 ones)

-- `v1.24` to `v1.43`
abbrev pub is_version : List ℕ → Bool
is_version (v ∷ one ∷ dot ∷ tens ∷ ones ∷ []) = (v == 118) && (one == 49) && (dot == 46) && is_served tens ones
is_version segment = false

-- without the slash that it begins with
abbrev pub after_slash : List ℕ → Option (List ℕ)
after_slash [] = None
after_slash (c ∷ rest) = if c == 47 then Some rest else None

-- without the version that it begins with, if it does
abbrev pub behind_version : List ℕ → List ℕ
behind_version path =
    if is_version (before_first (λ b. b == 47) path) then after_first (λ b. b == 47) path else path

-- the path without its first slash and its version
abbrev pub path_of : List ℕ → Option (List ℕ)
path_of target = option_map behind_version (after_slash (before_first (λ b. b == 63) target))

-- ---- the table

abbrev pub network_row : List ℕ → Row
network_row path =
    if bytes_eq path (codes "networks/bridge") then to.Network network.Bridge
    else if bytes_eq path (codes "networks/host") then to.Network network.Host
    else if bytes_eq path (codes "networks/none") then to.Network network.None
    else to.NoNetwork

-- the list of images, where filters may leave the one out
abbrev pub list_row : List ℕ → Row
list_row query = if is_listed (value_of (codes "filters") query) then to.Images else to.NoImages

-- an image to be fetched: the one stands already, and there is no other
abbrev pub pull_by : Option (List ℕ) → Option (List ℕ) → Option Row
pull_by None tag = None
pull_by (Some name) tag = Some (if is_tools name && is_latest tag then to.Pulled else to.NoPull)

abbrev pub pull_row : List ℕ → Option Row
pull_row query = pull_by (value_of (codes "fromImage") query) (value_of (codes "tag") query)

abbrev pub get_row : List ℕ → List ℕ → Option Row
get_row path query =
    if bytes_eq path (codes "info") then Some to.Info
    else if bytes_eq path (codes "system/df") then Some to.DiskUse
    else if bytes_eq path (codes "images/json") then Some (list_row query)
    else if bytes_eq path (codes "networks") then Some to.Networks
    else if bytes_eq path (codes "images/search") then Some to.NoImages
    else if starts_with nat_eq path (codes "images/") then image_get path
    else if starts_with nat_eq path (codes "networks/") then Some (network_row path)
    else other_get path

abbrev pub post_row : List ℕ → List ℕ → Option Row
post_row path query =
    if bytes_eq path (codes "images/create") then pull_row query
    else if bytes_eq path (codes "images/prune") then Some to.PrunedImages
    else if bytes_eq path (codes "networks/prune") then Some to.PrunedNetworks
    else if bytes_eq path (codes "build/prune") then Some to.PrunedBuilds
    else if bytes_eq path (codes "volumes/prune") then Some (volumes_row query)
    else other_post path

abbrev pub row_by : List ℕ → List ℕ → List ℕ → Option Row
row_by method query path =
    if bytes_eq method (codes "GET") then get_row path query
    else if bytes_eq method (codes "POST") then post_row path query
    else if bytes_eq method (codes "DELETE") then image_delete path
    else None

-- by the method and the target; none is the daemon's own
abbrev pub row_of : Request → Option Row
row_of request = option_and_then (row_by request.method (query_of request.target)) (path_of request.target)
