-- What the path of a request says of an image (Docker Engine API v1.43, ImageInspect, ImageHistory and ImageDelete; own: the one image and
-- its names).
use Rattle.std.specs.Prelude.{ℕ, List, Bool, ◌||◌, if◌then◌else◌, Option, Some, None, nat_eq, codes}
use Rattle.std.specs.List.{starts_with, ends_with}
use Rattle.std.specs.Str.{bytes_eq}
use Rattle.lab_front.specs.declared.table.Row.{Row}
use Rattle.lab_front.specs.declared.table.Row.TheVariants as to

-- the one image by each of its names: the path itself, that of what is kept of it, and that of its layers
abbrev pub is_bare : List ℕ → Bool
is_bare path =
    bytes_eq path (codes "images/engine/tools:latest") || bytes_eq path (codes "images/engine/tools")
    || bytes_eq path (codes "images/sha256:dc2452a28ddfa42c3d90bbaea861195fde1209aa4b1575039c91db3968531778")
    || bytes_eq path (codes "images/dc2452a28ddfa42c3d90bbaea861195fde1209aa4b1575039c91db3968531778")

abbrev pub is_image : List ℕ → Bool
is_image path =
    bytes_eq path (codes "images/engine/tools:latest/json") || bytes_eq path (codes "images/engine/tools/json")
    || bytes_eq path (codes "images/sha256:dc2452a28ddfa42c3d90bbaea861195fde1209aa4b1575039c91db3968531778/json")
    || bytes_eq path (codes "images/dc2452a28ddfa42c3d90bbaea861195fde1209aa4b1575039c91db3968531778/json")

abbrev pub is_history : List ℕ → Bool
is_history path =
    bytes_eq path (codes "images/engine/tools:latest/history") || bytes_eq path (codes "images/engine/tools/history")
    || bytes_eq path (codes "images/sha256:dc2452a28ddfa42c3d90bbaea861195fde1209aa4b1575039c91db3968531778/history")
    || bytes_eq path (codes "images/dc2452a28ddfa42c3d90bbaea861195fde1209aa4b1575039c91db3968531778/history")

-- what ends as one of these does
abbrev pub names_image : List ℕ → Bool
names_image path = ends_with nat_eq path (codes "/json") || ends_with nat_eq path (codes "/history")

-- what is read of an image, behind `images/`
abbrev pub image_get : List ℕ → Option Row
image_get path =
    if is_image path then Some to.Image
    else if is_history path then Some to.Layers
    else if names_image path then Some to.NoImage
    else None

-- an image to be removed: the one stays
abbrev pub image_delete : List ℕ → Option Row
image_delete path =
    if is_bare path then Some to.ImageStays
    else if starts_with nat_eq path (codes "images/") then Some to.NoImage
    else None
