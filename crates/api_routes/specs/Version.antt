-- The version that a path may begin with (Docker Engine API v1.43, "Versioning"; own: from 1.24).
use Rattle.std.specs.Prelude.{ℕ, List, [], ◌∷◌, Bool, ◌&&◌, ◌||◌, ◌==◌, nat_lt, if◌then◌else◌, Option, Some, None, Result, Ok, Err}
use Rattle.std.specs.List.{before_first, after_first}
use Rattle.std.specs.Str.Parse.{digits_value}
use Rattle.api_routes.specs.Numeral.{is_numeral}
use Rattle.api_routes.specs.declared.version.Version.{Version as Numbers}
use Rattle.api_routes.specs.declared.fault.Fault.{Fault}
use Rattle.api_routes.specs.declared.fault.Fault.TheVariants.{VersionTooOld, VersionTooNew}

-- the digits and the dot as given, and the numbers before and behind the dot
pub record Version : Type 0 where
  pub text : List ℕ
  pub major : ℕ
  pub minor : ℕ

-- a version of the code
abbrev pub seen : Numbers → Version
seen v = record { text = v.text.now; major = v.major; minor = v.minor }

-- `b'v'`
abbrev pub letter_v : ℕ
letter_v = 118

-- `b'.'`
abbrev pub dot : ℕ
dot = 46

-- two numerals of at most four digits
abbrev pub version_in : List ℕ → List ℕ → List ℕ → Option Version
version_in text a b =
    if is_numeral 4 a && is_numeral 4 b
    then Some (record { text = text; major = digits_value 10 a; minor = digits_value 10 b })
    else None

-- the version that a segment as `v1.43` names, cut at its first dot
abbrev pub version_of : List ℕ → Option Version
version_of [] = None
version_of (c ∷ text) =
    if c == letter_v
    then version_in text (before_first (λ b. b == dot) text) (after_first (λ b. b == dot) text)
    else None

-- below 1.n
abbrev pub is_below : ℕ → Version → Bool
is_below n v = nat_lt v.major 1 || ((v.major == 1) && nat_lt v.minor n)

-- what is behind the version, if it is from 1.24 to 1.43
abbrev pub if_served : Version → List (List ℕ) → Result (List (List ℕ)) Fault
if_served v rest =
    if is_below 24 v then Err (VersionTooOld v.text)
    else if is_below 44 v then Ok rest
    else Err (VersionTooNew v.text)

abbrev pub behind_first : Option Version → List ℕ → List (List ℕ) → Result (List (List ℕ)) Fault
behind_first None segment rest = Ok (segment ∷ rest)
behind_first (Some v) segment rest = if_served v rest

-- the segments behind the version; without one the current version is meant
abbrev pub behind_version : List (List ℕ) → Result (List (List ℕ)) Fault
behind_version [] = Ok []
behind_version (segment ∷ rest) = behind_first (version_of segment) segment rest
