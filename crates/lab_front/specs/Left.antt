-- What the daemon leaves out, and what one without a swarm doesn't keep (Docker Engine API v1.43, ContainerTop, ContainerStats,
-- ContainerChanges, ContainerExport, ContainerArchive, ContainerResize, ContainerPrune, ExecResize, PluginList, and the operations of a swarm; own: which).
use Rattle.std.specs.Prelude.{ℕ, List, ◌++◌, Bool, ◌==◌, ◌&&◌, ◌||◌, if◌then◌else◌, Option, Some, None, option_map, nat_eq, codes}
use Rattle.std.specs.List.{before_first, starts_with, ends_with}
use Rattle.std.specs.Str.{bytes_eq}
use Rattle.lab_front.specs.declared.left.LeftOut.{LeftOut}
use Rattle.lab_front.specs.declared.left.LeftOut.TheVariants as left
use Rattle.lab_front.specs.declared.table.Row.{Row}
use Rattle.lab_front.specs.declared.table.Row.TheVariants as to

-- the path of what managers of a swarm keep, by its first segment
abbrev pub is_of_swarm : List ℕ → Bool
is_of_swarm path =
    let first : List ℕ = before_first (λ b. b == 47) path in
    bytes_eq first (codes "swarm") || bytes_eq first (codes "nodes") || bytes_eq first (codes "services")
    || bytes_eq first (codes "tasks") || bytes_eq first (codes "secrets") || bytes_eq first (codes "configs")

-- what is read of a container, by its last segment
abbrev pub left_get : List ℕ → Option LeftOut
left_get path =
    if ends_with nat_eq path (codes "/top") then Some left.Top
    else if ends_with nat_eq path (codes "/stats") then Some left.Stats
    else if ends_with nat_eq path (codes "/changes") then Some left.Changes
    else if ends_with nat_eq path (codes "/export") then Some left.Export
    else if ends_with nat_eq path (codes "/archive") then Some left.Archive
    else None

-- the size of a terminal, of a container or of an exec
abbrev pub is_resize : List ℕ → Bool
is_resize path =
    ends_with nat_eq path (codes "/resize")
    && (starts_with nat_eq path (codes "containers/") || starts_with nat_eq path (codes "exec/"))

-- what is read beside images, networks and the daemon
abbrev pub other_get : List ℕ → Option Row
other_get path =
    if bytes_eq path (codes "plugins") then Some to.Plugins
    else if is_of_swarm path then Some to.NoSwarm
    else if starts_with nat_eq path (codes "containers/") then option_map to.LeftOut (left_get path)
    else None

-- what is asked for beside images, networks and builds
abbrev pub other_post : List ℕ → Option Row
other_post path =
    if bytes_eq path (codes "containers/prune") then Some (to.LeftOut left.Prune)
    else if is_resize path then Some (to.LeftOut left.Resize)
    else None

abbrev pub left_text : LeftOut → List ℕ
left_text left.Top = codes "{\"message\":\"top is left out\"}"
left_text left.Stats = codes "{\"message\":\"stats is left out\"}"
left_text left.Changes = codes "{\"message\":\"changes is left out\"}"
left_text left.Export = codes "{\"message\":\"export is left out\"}"
left_text left.Archive = codes "{\"message\":\"archive is left out\"}"
left_text left.Resize = codes "{\"message\":\"resize is left out\"}"
left_text left.Prune = codes "{\"message\":\"prune is left out\"}"

-- what a daemon that is in no swarm answers
unfoldable pub no_swarm_text : List ℕ
no_swarm_text =
    codes "{\"message\":\"This node is not a swarm manager. Use \\\"docker swarm init\\\" or "
    ++ codes "\\\"docker swarm join\\\" to connect this node to swarm and try again.\"}"
