-- How the head of a request is handed on, where it isn't as it came (RFC 9112, sections 3 and 5; own: which, and where it has room).
use Rattle.std.specs.Prelude.{ℕ, List, ◌++◌, ◌+◌, ◌-◌, ◌==◌, nat_le, if◌then◌else◌, Option, Some, None, length, take, drop}
use Rattle.std.specs.List.{after_first}
use Rattle.http_edge.specs.Limits.{head_limit}
use Rattle.http_edge.specs.Message.{Request}
use Rattle.lab_handed.specs.Early.{takes_field, early_line, with_field}
use Rattle.lab_handed.specs.Exact.{takes_exact, no_filters}
use Rattle.lab_handed.specs.Keys.{key_request}
use Rattle.lab_handed.specs.Since.{takes_since, since_key}
use Rattle.lab_handed.specs.declared.changing.Change.{Change}
use Rattle.lab_handed.specs.declared.changing.Change.TheVariants.{Early, Since, Exact}

-- a wait with the field, events up to a moment and a list of one name each with its key, and another request as it came
abbrev pub change_of : Request → Option Change
change_of request =
    if takes_field request then Some Early
    else if takes_since request then Some Since
    else if takes_exact request then Some Exact
    else None

-- the request as it is seen then
abbrev pub changed : Change → Request → Request
changed Early request = with_field request
changed Since request = key_request since_key request
changed Exact request = key_request no_filters request

-- ---- its bytes

-- what is put in
abbrev pub text_of : Change → List ℕ
text_of Early = early_line
text_of Since = since_key
text_of Exact = no_filters

-- what stands behind the first line of a head: behind the line end that follows its second blank
abbrev pub fields_in : List ℕ → List ℕ
fields_in head = after_first (λ b. b == 10) (after_first (λ b. b == 32) (after_first (λ b. b == 32) head))

-- what stands behind that which is put in: the fields, or the query
abbrev pub behind : Change → List ℕ → List ℕ
behind Early head = fields_in head
behind change head = after_first (λ b. b == 63) head

-- where it is put in
abbrev pub place_of : Change → List ℕ → ℕ
place_of change head = length head - length (behind change head)

abbrev pub put_in : ℕ → List ℕ → List ℕ → List ℕ
put_in place text head = take place head ++ (text ++ drop place head)

-- a head with it where it has room, else as it came
abbrev pub handed : Change → List ℕ → List ℕ
handed change head =
    if nat_le (length head + length (text_of change)) head_limit then put_in (place_of change head) (text_of change) head else head
