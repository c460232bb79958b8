-- What the client reads of the bodies of answers (Docker Engine API v1.43, the responses of its operations).
use Rattle.std.specs.Prelude.{ℕ, ◌++◌, ◌&&◌, nat_lt, nat_le, List, [], ◌∷◌, length, codes, slice_get, Option, Some, None, option_and_then, option_map, if◌then◌else◌}
use Rattle.serde_json.specs.Data.{Data, Items, no_items, item}
use Rattle.serde_json.specs.Find.{get, as_number, as_u64, as_array}
use Rattle.json_laws.specs.Text.{data_of}
use Rattle.json_laws.specs.Pairs.{words_of}
use Rattle.engine_text.specs.Texts.{without_slash}
use Rattle.api_json.specs.Event.{text_at, if_there}

-- the text at a key of a body
abbrev pub text_in : List ℕ → List ℕ → Option (List ℕ)
text_in name body = if_there (data_of body) (text_at name)

-- the most bytes of an id. own: so that each request that names one is within a daemon's limits
abbrev pub id_limit : ℕ
id_limit = 4096

-- an id isn't empty, and has at most so many bytes
abbrev pub if_id : List ℕ → Option (List ℕ)
if_id text = if nat_lt 0 (length text) && nat_le (length text) id_limit then Some text else None

-- `Id`: what was created
abbrev pub id_in : List ℕ → Option (List ℕ)
id_in body = if_there (text_in (codes "Id") body) if_id

-- `message`: why a request was refused
abbrev pub message_in : List ℕ → Option (List ℕ)
message_in = text_in (codes "message")

-- an exit code is below 256
abbrev pub code_of : ℕ → Option ℕ
code_of n = if nat_lt n 256 then Some n else None

-- the exit code that data is
abbrev pub code_by : Data → Option ℕ
code_by d = if_there (option_and_then as_u64 (as_number d)) code_of

-- `StatusCode`: the exit code of a container
abbrev pub status_code_in : List ℕ → Option ℕ
status_code_in body = if_there (if_there (data_of body) (get (codes "StatusCode"))) code_by

-- ---- lists

-- what is read of each item, none where it can't be of one
abbrev pub read_items : {A : Type 0} → (Data → Option A) → Items → Option (List A)
read_items read no_items = Some []
read_items read (item d ds) = if_there (read d) (λ x. option_map (λ xs. x ∷ xs) (read_items read ds))

-- what is read of each item of a list
abbrev pub read_each : {A : Type 0} → (Data → Option A) → Data → Option (List A)
read_each read d = if_there (as_array d) (read_items read)

-- the first of a container's names, without its slash
abbrev pub name_at : Data → Option (List ℕ)
name_at d =
    if_there (get (codes "Names") d) (λ list. if_there (as_array list) (λ items. if_there (words_of items) (λ names.
    option_map without_slash (slice_get names 0))))

-- `ID NAME STATE STATUS`
abbrev pub container_line : Data → Option (List ℕ)
container_line d =
    if_there (text_at (codes "Id") d) (λ id.
    if_there (name_at d) (λ name.
    if_there (text_at (codes "State") d) (λ state.
    if_there (text_at (codes "Status") d) (λ status.
    Some (id ++ codes " " ++ name ++ codes " " ++ state ++ codes " " ++ status)))))

-- of each container of a list
abbrev pub container_lines_in : List ℕ → Option (List (List ℕ))
container_lines_in body = if_there (data_of body) (read_each container_line)

-- `Name` of each of a list's `Volumes`
abbrev pub volume_names_in : List ℕ → Option (List (List ℕ))
volume_names_in body =
    if_there (data_of body) (λ d. if_there (get (codes "Volumes") d) (read_each (text_at (codes "Name"))))
