-- What requests do to the networks that stand, and what they are answered (Docker Engine API v1.43, the operations of networks; own: that what
-- stands is a list of names, and that containers aren't asked for).
use Rattle.std.specs.Prelude.{ℕ, List, [], ◌∷◌, ◌++◌, length, take, drop, get_or, position, ◌+◌, Bool, not, nat_le, if◌then◌else◌, Option, Some, None, is_some, option_and_then, codes}
use Rattle.std.specs.List.{list_any, join_by}
use Rattle.std.specs.Str.{bytes_eq}
use Rattle.serde_json.specs.Data.{Data}
use Rattle.serde_json.specs.Find.{get, as_str}
use Rattle.json_laws.specs.Text.{data_of}
use Rattle.http_edge.specs.Message.{Request}
use Rattle.lab_networks.specs.Asking.{called_of}
use Rattle.lab_networks.specs.Known.{is_network_name, most, id_of, is_called, fixed_name, fixed_called}
use Rattle.lab_networks.specs.Shown.{fixed_text, made_text, list_text}
use Rattle.lab_networks.specs.declared.answer.Answer.{Answer}
use Rattle.lab_networks.specs.declared.asking.Kind.{Kind}
use Rattle.lab_networks.specs.declared.asking.Kind.TheVariants as kind
use Rattle.lab_networks.specs.declared.known.Fixed.{Fixed}

-- the names that stand then, and the answer
abbrev pub Step : Type 0
Step = List (List ℕ) × Answer

abbrev pub answer : ℕ → List ℕ → Answer
answer status text = record { status = status; text = text }

-- they stay
abbrev pub stays : List (List ℕ) → ℕ → List ℕ → Step
stays names status text = (names, answer status text)

abbrev pub missing_text : List ℕ
missing_text = codes "{\"message\":\"network not found\"}"

abbrev pub missing : List (List ℕ) → Step
missing names = stays names 404 missing_text

-- ---- one that is read, and one that a container is joined to or parted from

-- the made one at this place, if it is one
abbrev pub read_at : List (List ℕ) → Option ℕ → Step
read_at names None = missing names
read_at names (Some place) = stays names 200 (made_text (get_or names place []))

abbrev pub read_by : List ℕ → List (List ℕ) → Option Fixed → Step
read_by called names None = read_at names (position (is_called called) names)
read_by called names (Some which) = stays names 200 (fixed_text which)

abbrev pub stands : List ℕ → List (List ℕ) → Bool
stands called names = if is_some (fixed_called called) then Bool.true else list_any (is_called called) names

abbrev pub joined : List ℕ → List (List ℕ) → Step
joined called names = if stands called names then stays names 200 [] else missing names

-- ---- one to be made

-- the name in a body: the text `Name` of an object
abbrev pub text_in : Data → Option (List ℕ)
text_in d = option_and_then as_str (get (codes "Name") d)

abbrev pub name_in : List ℕ → Option (List ℕ)
name_in body = option_and_then text_in (data_of body)

abbrev pub stands_text : List ℕ → List ℕ
stands_text name = codes "{\"message\":\"network with name " ++ name ++ codes " already exists\"}"

abbrev pub created_text : List ℕ → List ℕ
created_text name = codes "{\"Id\":\"" ++ id_of name ++ codes "\",\"Warning\":\"\"}"

abbrev pub predefined_text : Fixed → List ℕ
predefined_text which = codes "{\"message\":\"operation is not permitted on predefined " ++ fixed_name which ++ codes " network\"}"

abbrev pub if_new : List ℕ → List (List ℕ) → Step
if_new name names =
    if list_any (λ n. bytes_eq n name) names then stays names 409 (stands_text name)
    else if nat_le most (length names) then stays names 500 (codes "{\"message\":\"no more networks can be made\"}")
    else (names ++ name ∷ [], answer 201 (created_text name))

abbrev pub if_free : List ℕ → List (List ℕ) → Option Fixed → Step
if_free name names None = if_new name names
if_free name names (Some which) = stays names 403 (predefined_text which)

abbrev pub if_allowed : List ℕ → List (List ℕ) → Step
if_allowed name names =
    if not (is_network_name name) then stays names 400 (codes "{\"message\":\"bad network name\"}")
    else if_free name names (fixed_called name)

abbrev pub made_named : List (List ℕ) → Option (List ℕ) → Step
made_named names None = stays names 400 (codes "{\"message\":\"a network has a Name\"}")
made_named names (Some name) = if_allowed name names

-- ---- one to be removed, and all

abbrev pub removed_at : List (List ℕ) → Option ℕ → Step
removed_at names None = missing names
removed_at names (Some place) = (take place names ++ drop (place + 1) names, answer 204 [])

abbrev pub kept_text : Fixed → List ℕ
kept_text which = codes "{\"message\":\"" ++ fixed_name which ++ codes " is a pre-defined network and cannot be removed\"}"

abbrev pub removed_by : List ℕ → List (List ℕ) → Option Fixed → Step
removed_by called names None = removed_at names (position (is_called called) names)
removed_by called names (Some which) =
    stays names 403 (kept_text which)

abbrev pub pruned_text : List (List ℕ) → List ℕ
pruned_text names = codes "{\"NetworksDeleted\":[\"" ++ join_by (λ name. name) (codes "\",\"") names ++ codes "\"]}"

-- all that were made, since no container is in one
abbrev pub pruned : List (List ℕ) → Step
pruned [] = ([], answer 200 (codes "{\"NetworksDeleted\":null}"))
pruned (n ∷ ns) =
    ([], answer 200 (pruned_text (n ∷ ns)))

-- ---- each

abbrev pub step : Kind → List (List ℕ) → Request → Step
step kind.Lists names request = stays names 200 (list_text request.target names)
step kind.Reads names request = read_by (called_of request.target) names (fixed_called (called_of request.target))
step kind.Makes names request = made_named names (name_in request.body)
step kind.Removes names request = removed_by (called_of request.target) names (fixed_called (called_of request.target))
step kind.Joins names request = joined (called_of request.target) names
step kind.Prunes names request = pruned names
