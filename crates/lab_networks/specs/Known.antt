-- Networks by their names (Docker Engine API v1.43, schema Network; own: which names there may be, how many, ids of names, and the three that
-- always stand).
use Rattle.std.specs.Prelude.{ℕ, List, ◌++◌, ◌-◌, length, replicate, Bool, ◌&&◌, ◌||◌, nat_le, if◌then◌else◌, Option, Some, None, codes}
use Rattle.std.specs.Str.{bytes_eq}
use Rattle.hex.specs.Hex.{encode_lower}
use Rattle.engine_text.specs.Name.{is_volume_name}
use Rattle.lab_networks.specs.declared.known.Fixed.{Fixed}
use Rattle.lab_networks.specs.declared.known.Fixed.TheVariants as fixed

-- a name is one as of a volume, of at most 128 bytes
abbrev pub is_network_name : List ℕ → Bool
is_network_name name = is_volume_name name && nat_le (length name) 128

-- the most networks that are kept beside the three
abbrev pub most : ℕ
most = 64

-- zeros up to 64 digits
abbrev pub padded : List ℕ → List ℕ
padded digits = digits ++ replicate (64 - length digits) 48

-- the id of a name: its bytes in hexadecimal digits, padded
unfoldable pub id_of : List ℕ → List ℕ
id_of name = padded (encode_lower name)

-- a network is called so: by its name, or by its id
abbrev pub is_called : List ℕ → List ℕ → Bool
is_called text name = bytes_eq name text || bytes_eq (id_of name) text

-- ---- the three

abbrev pub fixed_name : Fixed → List ℕ
fixed_name fixed.Bridge = codes "bridge"
fixed_name fixed.Host = codes "host"
fixed_name fixed.None = codes "none"

abbrev pub fixed_driver : Fixed → List ℕ
fixed_driver fixed.Bridge = codes "bridge"
fixed_driver fixed.Host = codes "host"
fixed_driver fixed.None = codes "null"

abbrev pub fixed_id : Fixed → List ℕ
fixed_id fixed.Bridge = codes "17f29b073143d8cd97b5bbe492bdeffec1c5fee55cc1fe2112c8b9335f8b6121"
fixed_id fixed.Host = codes "4740ae6347b0172c01254ff55bae5aff5199f4446e7f6d643d40185b3f475145"
fixed_id fixed.None = codes "140bedbf9c3f6d56a9846d2ba7088798683f4da0c248231336e6a05679e4fdfe"

abbrev pub is_fixed_called : List ℕ → Fixed → Bool
is_fixed_called text which = bytes_eq text (fixed_name which) || bytes_eq text (fixed_id which)

-- the one of the three that is called so
abbrev pub fixed_called : List ℕ → Option Fixed
fixed_called text =
    if is_fixed_called text fixed.Bridge then Some fixed.Bridge
    else if is_fixed_called text fixed.Host then Some fixed.Host
    else if is_fixed_called text fixed.None then Some fixed.None
    else None
