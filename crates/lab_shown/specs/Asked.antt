-- What a request asks for whose answer is shown otherwise, and how (RFC 9112, section 3; own: by its method, and by its force).
use Rattle.std.specs.Prelude.{ℕ, List, ◌&&◌, if◌then◌else◌, Option, Some, None, nat_eq, codes}
use Rattle.std.specs.List.{starts_with}
use Rattle.lab_front.specs.Forced.{is_forced}
use Rattle.lab_handed.specs.Exact.{exact_by}
use Rattle.lab_shown.specs.Listed.{listed, listed_in}
use Rattle.lab_shown.specs.Shown.{answer_of, shown}
use Rattle.lab_shown.specs.Refused.{shown_as, start_told, removal_told}
use Rattle.lab_shown.specs.declared.asking.Asked.{Asked}
use Rattle.lab_shown.specs.declared.asking.Asked.TheVariants.{Read, Done, Removed, Listed, Behind}

-- something, or the list of a name
abbrev pub read_for : Option (List ℕ) → Asked
read_for None = Read
read_for (Some name) = Listed

abbrev pub read_by : List ℕ → Asked
read_by bytes = read_for (exact_by bytes)

-- by the bytes that it begins with
abbrev pub asked_by : List ℕ → Option Asked
asked_by bytes =
    if starts_with nat_eq bytes (codes "GET ") then Some (read_by bytes)
    else if starts_with nat_eq bytes (codes "POST ") then Some Done
    else if starts_with nat_eq bytes (codes "DELETE ") && is_forced bytes then Some Removed
    else None

-- how the piece behind such a request is shown, where a list keeps the item with this text
abbrev pub shown_to : Asked → List ℕ → List ℕ → List ℕ
shown_to Read text piece = shown piece
shown_to Done text piece = shown_as 400 start_told piece
shown_to Removed text piece = shown_as 404 removal_told piece
shown_to Listed text piece = listed_in text piece
shown_to (Behind close) text piece = answer_of 200 close (listed text piece)
