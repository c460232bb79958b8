-- The texts of volumes (Docker Engine API v1.43, VolumeInspect, VolumeList, definition Volume).
use Rattle.std.specs.Prelude.{ℕ, List, Some, codes}
use Rattle.serde_json.specs.Data.{Data, object, no_members, member}
use Rattle.serde_json.specs.Written.{compact_text}
use Rattle.engine_text.specs.Moment.{moment_text}
use Rattle.engine_text.specs.declared.listed.ListedVolume.{ListedVolume}
use Rattle.api_json.specs.Values.{text, list_of, empty_list, pairs_object}
use Rattle.api_json.specs.Mount.{source_of}

-- a volume created then, with these labels, whose data lie there, of this name
abbrev pub volume_object : List ℕ → Data → List ℕ → List ℕ → Data
volume_object created labels source name = object (
    member (codes "CreatedAt") (text created) (
    member (codes "Driver") (text (codes "local")) (
    member (codes "Labels") labels (
    member (codes "Mountpoint") (text source) (
    member (codes "Name") (text name) (
    member (codes "Options") (object no_members) (
    member (codes "Scope") (text (codes "local")) no_members)))))))

-- a volume as VolumeInspect and VolumeList tell it
abbrev pub volume_data : ListedVolume → Data
volume_data v = volume_object (moment_text (Some v.created)) (pairs_object v.labels) (source_of v.name) v.name

-- the body of VolumeInspect
abbrev pub volume_text : ListedVolume → List ℕ
volume_text v = compact_text (volume_data v)

-- what VolumeList answers: these volumes, and no warnings
abbrev pub volumes_object : Data → Data
volumes_object volumes = object (
    member (codes "Volumes") volumes (
    member (codes "Warnings") empty_list no_members))

-- the body of VolumeList
abbrev pub volumes_text : List ListedVolume → List ℕ
volumes_text vs = compact_text (volumes_object (list_of volume_data vs))
