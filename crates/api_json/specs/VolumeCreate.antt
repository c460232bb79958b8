-- The body of a volume create (Docker Engine API v1.43, VolumeCreate; own: that a name is needed, the one driver, and the order of refusals).
use Rattle.std.specs.Prelude.{ℕ, List, Option, Some, None, Bool, codes, ◌||◌, Result, Ok, Err, if◌then◌else◌}
use Rattle.serde_json.specs.Data.{Data}
use Rattle.engine_text.specs.Name.{is_volume_name}
use Rattle.engine_text.specs.Texts.{same_bytes}
use Rattle.api_json.specs.Fault.{and_then}
use Rattle.api_json.specs.Fields.{body_of, text_field, needed_text}
use Rattle.api_json.specs.Lists.{labels_of}
use Rattle.api_json.specs.declared.volume_create.VolumeSpec.{VolumeSpec}
use Rattle.api_json.specs.declared.fault.BodyKey.TheVariants as Key
use Rattle.api_json.specs.declared.fault.BodyFault.{BodyFault}
use Rattle.api_json.specs.declared.fault.BodyFault.TheVariants.{BadVolumeName, BadDriver}

-- a volume's name
abbrev pub volume_named : List ℕ → Result (List ℕ) BodyFault
volume_named name = if is_volume_name name then Ok name else Err BadVolumeName

-- the one driver, which an absent or an empty name means too
abbrev pub driver_named : Option (List ℕ) → Result Bool BodyFault
driver_named None = Ok Bool.true
driver_named (Some name) =
    if same_bytes name (codes "") || same_bytes name (codes "local") then Ok Bool.true else Err BadDriver

-- what is asked of a volume create: a volume's name, the one driver, and labels
abbrev pub volume_in : Data → Result VolumeSpec BodyFault
volume_in d =
    and_then (and_then (needed_text Key.Name d) volume_named) (λ name.
    and_then (and_then (text_field Key.Driver d) driver_named) (λ driver.
    and_then (labels_of d) (λ labels.
    Ok (record { name = name; labels = labels }))))

-- what the body of a volume create asks for, or why it is refused
unfoldable pub volume_of : List ℕ → Result VolumeSpec BodyFault
volume_of body = and_then (body_of body) volume_in
