-- Mounts of a container (Docker Engine API v1.43, definition MountPoint; own: where the data lie).
use Rattle.std.specs.Prelude.{ℕ, List, [], ◌++◌, Bool, not, codes}
use Rattle.serde_json.specs.Data.{Data, boolean, object, no_members, member}
use Rattle.api_json.specs.Values.{text}
use Rattle.engine_text.specs.declared.mounts.Mount.{Mount}

-- where a volume's data lie
abbrev pub source_of : List ℕ → List ℕ
source_of volume = codes "/var/lib/engine/volumes/" ++ (volume ++ codes "/_data")

-- a mount at this path of this volume, which may be written or not, and whose data lie there
abbrev pub mount_object : List ℕ → List ℕ → Bool → List ℕ → Data
mount_object target volume writes source = object (
    member (codes "Destination") (text target) (
    member (codes "Driver") (text (codes "local")) (
    member (codes "Mode") (text []) (
    member (codes "Name") (text volume) (
    member (codes "RW") (boolean writes) (
    member (codes "Source") (text source) (
    member (codes "Type") (text (codes "volume")) no_members)))))))

-- a mount as ContainerInspect and ContainerList tell it
abbrev pub mount_data : Mount → Data
mount_data m = mount_object m.target m.volume (not m.read_only) (source_of m.volume)
