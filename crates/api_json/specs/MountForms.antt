-- The mounts that a create asks for (Docker Engine API v1.43, definition HostConfig: Binds and Mounts; own: which are taken).
use Rattle.std.specs.Prelude.{ℕ, ◌==◌, List, [], ◌∷◌, ◌++◌, length, codes, Bool, true, false, ◌&&◌, nat_lt, if◌then◌else◌, Option, Some, None, Result, Ok, Err}
use Rattle.std.specs.List.{position_or_len, before_first, after_first}
use Rattle.serde_json.specs.Data.{Data, Items, no_items, item}
use Rattle.serde_json.specs.Find.{as_array, as_object}
use Rattle.engine_text.specs.Mounts.{is_path}
use Rattle.engine_text.specs.Name.{is_volume_name}
use Rattle.engine_text.specs.Texts.{same_bytes}
use Rattle.engine_text.specs.declared.mounts.Mount.{Mount}
use Rattle.api_json.specs.Fault.{and_then, or_fault}
use Rattle.api_json.specs.Fields.{field, text_field, flag}
use Rattle.api_json.specs.Lists.{texts_field}
use Rattle.api_json.specs.declared.fault.BodyKey.TheVariants as Key
use Rattle.api_json.specs.declared.fault.BodyFault.{BodyFault}
use Rattle.api_json.specs.declared.fault.BodyFault.TheVariants.{BadField, BadMount}

-- a volume and the path at which it is seen
abbrev pub mount_of : List ℕ → List ℕ → Bool → Result Mount BodyFault
mount_of volume target read_only =
    if is_volume_name volume && is_path target
    then Ok (record { volume = volume; target = target; read_only = read_only }) else Err BadMount

-- a colon, which is 58
abbrev pub is_colon : ℕ → Bool
is_colon c = c == 58

-- the parts round the first colon
abbrev pub split_colon : List ℕ → Option (List ℕ × List ℕ)
split_colon text =
    if nat_lt (position_or_len is_colon text) (length text)
    then Some (before_first is_colon text, after_first is_colon text) else None

-- whether a mount is read only, by the part behind its second colon
abbrev pub mode_of : List ℕ → Result Bool BodyFault
mode_of mode =
    if same_bytes mode (codes "ro") then Ok true else (if same_bytes mode (codes "rw") then Ok false else Err BadMount)

-- a path, or a path, a colon and a mode
abbrev pub path_and_mode : List ℕ → List ℕ → Option (List ℕ × List ℕ) → Result Mount BodyFault
path_and_mode volume path None = mount_of volume path false
path_and_mode volume path (Some parts) = and_then (mode_of parts.1) (mount_of volume parts.0)

-- `VOLUME:PATH`, `VOLUME:PATH:ro` or `VOLUME:PATH:rw`
abbrev pub volume_and_path : Option (List ℕ × List ℕ) → Result Mount BodyFault
volume_and_path None = Err BadMount
volume_and_path (Some parts) = path_and_mode parts.0 parts.1 (split_colon parts.1)

-- the mount that one text of `Binds` asks for
abbrev pub bind_of : List ℕ → Result Mount BodyFault
bind_of text = volume_and_path (split_colon text)

-- what the fields of a mount tell; none may be absent
abbrev pub told_mount : Option (List ℕ) → Option (List ℕ) → Option (List ℕ) → Bool → Result Mount BodyFault
told_mount (Some kind) (Some source) (Some target) read_only =
    if same_bytes kind (codes "volume") then mount_of source target read_only else Err BadMount
told_mount None source target read_only = Err BadMount
told_mount (Some kind) None target read_only = Err BadMount
told_mount (Some kind) (Some source) None read_only = Err BadMount

-- the kinds of the fields of a mount, in their order, and then what they tell
abbrev pub mount_fields : Data → Result Mount BodyFault
mount_fields d =
    and_then (text_field Key.Type d) (λ kind.
    and_then (text_field Key.Source d) (λ source.
    and_then (text_field Key.Target d) (λ target.
    and_then (flag Key.ReadOnly d) (λ read_only.
    told_mount kind source target read_only))))

-- the mount of an item, which must be an object
abbrev pub mount_in : Data → Result Mount BodyFault
mount_in d = and_then (or_fault (BadField Key.Mounts) (as_object d)) (λ members. mount_fields d)

-- one more mount, of which there are 16 at most
abbrev pub added_mount : List Mount → Mount → Result (List Mount) BodyFault
added_mount mounts m = if nat_lt (length mounts) 16 then Ok (mounts ++ m ∷ []) else Err BadMount

-- these mounts and those of `Binds`
abbrev pub add_binds : List Mount → List (List ℕ) → Result (List Mount) BodyFault
add_binds mounts [] = Ok mounts
add_binds mounts (text ∷ texts) =
    and_then (and_then (bind_of text) (added_mount mounts)) (λ more. add_binds more texts)

-- these mounts and those of `Mounts`
abbrev pub add_mounts : List Mount → Items → Result (List Mount) BodyFault
add_mounts mounts no_items = Ok mounts
add_mounts mounts (item d ds) =
    and_then (and_then (mount_in d) (added_mount mounts)) (λ more. add_mounts more ds)

-- these mounts and those of `Mounts`, which may be absent
abbrev pub add_mounts_field : List Mount → Option Data → Result (List Mount) BodyFault
add_mounts_field mounts None = Ok mounts
add_mounts_field mounts (Some d) = and_then (or_fault (BadField Key.Mounts) (as_array d)) (add_mounts mounts)

-- the mounts of a host config, those of `Binds` first
abbrev pub mounts_of : Data → Result (List Mount) BodyFault
mounts_of d =
    and_then (and_then (texts_field Key.Binds d) (add_binds [])) (λ mounts.
    add_mounts_field mounts (field Key.Mounts d))
