-- A list of the one container of a name, as it is handed on without filters (Docker Engine API v1.43, ContainerList: filters, name, by a pattern
-- between `^` and `$`; own: the texts in which tools write it as the only filter).
use Rattle.std.specs.Prelude.{ℕ, List, Bool, true, false, ◌==◌, ◌&&◌, ◌||◌, ◌-◌, nat_le, nat_lt, if◌then◌else◌, Option, Some, None, option_and_then, length, take, drop, nat_eq, codes}
use Rattle.std.specs.List.{list_all, starts_with, ends_with}
use Rattle.std.specs.Char.{is_ascii_alphanumeric}
use Rattle.std.specs.Str.{bytes_eq}
use Rattle.http_edge.specs.Message.{Request}
use Rattle.lab_front.specs.Forced.{query_in}
use Rattle.lab_front.specs.Queries.{query_of, value_of}
use Rattle.lab_front.specs.Rows.{path_of}
use Rattle.lab_handed.specs.Keys.{are_ascii}

-- ---- the name

-- a byte of a name
abbrev pub is_name_byte : ℕ → Bool
is_name_byte b = is_ascii_alphanumeric b || (b == 95) || (b == 46) || (b == 45)

abbrev pub are_name_bytes : List ℕ → Bool
are_name_bytes bytes = list_all is_name_byte bytes

-- a name, of at most 200 bytes
abbrev pub is_name : List ℕ → Bool
is_name bytes = are_name_bytes bytes && (nat_lt 0 (length bytes) && nat_le (length bytes) 200)

-- what stands between so many bytes at the front and at the back
abbrev pub middle : ℕ → ℕ → List ℕ → List ℕ
middle front back value = take (length (drop front value) - back) (drop front value)

-- the name between two texts that a value begins and ends with
abbrev pub between : List ℕ → List ℕ → List ℕ → Option (List ℕ)
between front back value =
    if starts_with nat_eq value front && ends_with nat_eq value back then
    (if is_name (middle (length front) (length back) value) then Some (middle (length front) (length back) value) else None)
    else None

-- the first name of two
abbrev pub or_other : Option (List ℕ) → Option (List ℕ) → Option (List ℕ)
or_other None other = other
or_other (Some name) other = Some name

-- as a list, with and without a blank, or as a key that is true: behind a slash
abbrev pub behind_slash : List ℕ → Option (List ℕ)
behind_slash value =
    or_other (between (codes "%7B%22name%22%3A%5B%22%5E%2F") (codes "%24%22%5D%7D") value)
    (or_other (between (codes "%7B%22name%22%3A+%5B%22%5E%2F") (codes "%24%22%5D%7D") value)
    (between (codes "%7B%22name%22%3A%7B%22%5E%2F") (codes "%24%22%3Atrue%7D%7D") value))

-- without one
abbrev pub without_slash : List ℕ → Option (List ℕ)
without_slash value =
    or_other (between (codes "%7B%22name%22%3A%5B%22%5E") (codes "%24%22%5D%7D") value)
    (or_other (between (codes "%7B%22name%22%3A+%5B%22%5E") (codes "%24%22%5D%7D") value)
    (between (codes "%7B%22name%22%3A%7B%22%5E") (codes "%24%22%3Atrue%7D%7D") value))

abbrev pub exact_in : List ℕ → Option (List ℕ)
exact_in value = or_other (behind_slash value) (without_slash value)

-- the name that a query's filters ask for
abbrev pub name_of : List ℕ → Option (List ℕ)
name_of query = option_and_then exact_in (value_of (codes "filters") query)

-- ---- which request

abbrev pub is_path_of_list : Option (List ℕ) → Bool
is_path_of_list None = false
is_path_of_list (Some path) = bytes_eq path (codes "containers/json")

-- no limit
abbrev pub is_unlimited : Option (List ℕ) → Bool
is_unlimited None = true
is_unlimited (Some value) = bytes_eq value (codes "") || bytes_eq value (codes "0") || bytes_eq value (codes "-1")

abbrev pub is_some : Option (List ℕ) → Bool
is_some None = false
is_some (Some name) = true

-- a query asks for the container of a name, without a limit
abbrev pub asks_exact : List ℕ → Bool
asks_exact query =
    is_unlimited (value_of (codes "limit") query) && is_some (name_of query)

-- by a target of ASCII alone, of at most 512 bytes
abbrev pub is_target_exact : List ℕ → Bool
is_target_exact target = is_path_of_list (path_of target) && are_ascii target && (nat_le (length target) 512 && asks_exact (query_of target))

abbrev pub takes_exact : Request → Bool
takes_exact request = bytes_eq request.method (codes "GET") && is_target_exact request.target

-- ---- without filters

-- the key of no filters, before other keys
abbrev pub no_filters : List ℕ
no_filters = codes "filters=&"

-- the name that is asked for by a request that begins with these bytes and was handed on so
abbrev pub exact_by : List ℕ → Option (List ℕ)
exact_by bytes =
    let query : List ℕ = query_in bytes in
    if starts_with nat_eq query no_filters then name_of (drop 9 query) else None
