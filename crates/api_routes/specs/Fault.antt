-- The statuses and messages of requests that are refused by their bytes alone (own).
use Rattle.std.specs.Prelude.{ℕ, List, ◌++◌, codes, Result, Ok, Err}
use Rattle.api_json.specs.Fault.{fault_text}
use Rattle.api_routes.specs.declared.fault.Fault.{Fault}
use Rattle.api_routes.specs.declared.fault.Fault.TheVariants.{VersionTooOld, VersionTooNew, PageNotFound, BadPath, InvalidName, InvalidSignal, BadSeconds, BadLimit, BadTail, BadCondition, BadTime, NoStream, LinksLeftOut, Body}

-- goes on with what was read, or keeps the fault
abbrev pub and_then : {A B : Type 0} → Result A Fault → (A → Result B Fault) → Result B Fault
and_then (Ok x) next = next x
and_then (Err fault) next = Err fault

abbrev pub status_of : Fault → ℕ
status_of PageNotFound = 404
status_of _ = 400

-- a version that is too old, as it was given
abbrev pub too_old : List ℕ → List ℕ
too_old version = codes "client version " ++ version ++ codes " is too old. Minimum supported API version is 1.24"

-- a version that is too new, as it was given
abbrev pub too_new : List ℕ → List ℕ
too_new version = codes "client version " ++ version ++ codes " is too new. Maximum supported API version is 1.43"

-- a name as it was given
abbrev pub invalid_name : List ℕ → List ℕ
invalid_name name = codes "Invalid container name (" ++ name ++ codes ")"

-- a signal as it was given
abbrev pub invalid_signal : List ℕ → List ℕ
invalid_signal signal = codes "Invalid signal: " ++ signal

abbrev pub message_of : Fault → List ℕ
message_of (VersionTooOld version) = too_old version
message_of (VersionTooNew version) = too_new version
message_of PageNotFound = codes "page not found"
message_of BadPath = codes "bad path"
message_of (InvalidName name) = invalid_name name
message_of (InvalidSignal signal) = invalid_signal signal
message_of BadSeconds = codes "bad t"
message_of BadLimit = codes "bad limit"
message_of BadTail = codes "bad tail"
message_of BadCondition = codes "bad condition"
message_of BadTime = codes "bad time"
message_of NoStream = codes "you must choose at least one stream"
message_of LinksLeftOut = codes "links are left out"
message_of (Body fault) = fault_text fault
