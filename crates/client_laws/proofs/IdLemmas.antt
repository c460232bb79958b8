-- The texts that are read of a body are bytes.
use Rattle.std.proofs.Common.{◌≡◌, ℕ, List, [], ◌∷◌, Bool, true, false, cond, codes, All, Ordering, Less, Equal, Greater, Option, Some, None, refl, subst}
use Rattle.std.specs.Prelude.{IfSome, option_map, option_and_then, ⊤, ◌&&◌, nat_lt, nat_le, length}
use Rattle.std.specs.Ordering.{nat_cmp, match_ordering}
use Rattle.std.specs.Cmp.Lexicographic.{slice_cmp}
use Rattle.std.specs.Str.{is_utf8}
use Rattle.std.proofs.lemmas.Str.{IsUtf8-from_is_utf8}
use Rattle.percent_encoding.proofs.PercentLemmas.{IsByte}
use Rattle.json.specs.Token.{Token}
use Rattle.json.specs.Lex.{tokens}
use Rattle.json.specs.Json as json
use Rattle.serde_json.specs.Data.{Num, Data, null, boolean, number, string, array, object, Items, no_items, item, Members, no_members, member, put}
use Rattle.serde_json.specs.Read.{number_of, of_json, of_items, of_members, max_depth, read}
use Rattle.serde_json.specs.Find.{get, get_member, as_str}
use Rattle.json_laws.specs.Text.{data_of}
use Rattle.api_json.specs.Event.{text_at}
use Rattle.client_model.specs.Bodies.{text_in, id_limit, if_id, id_in}
use Rattle.client_laws.proofs.ByteLemmas.{utf8-bytes}
use Rattle.client_laws.proofs.JsonByteLemmas.{Bytes, cond-good, then-good, map-good}
use Rattle.client_laws.proofs.TokenLemmas.{tokens-good, IsJson, AreItems, AreMembers, Read, value-good}

-- each text of the data is bytes
abbrev mutual
  IsData : Data → Type 0
  IsData null = ⊤
  IsData (boolean b) = ⊤
  IsData (number n) = ⊤
  IsData (string s) = Bytes s
  IsData (array ds) = HasItems ds
  IsData (object ms) = HasMembers ms

  HasItems : Items → Type 0
  HasItems no_items = ⊤
  HasItems (item d ds) = IsData d × HasItems ds

  HasMembers : Members → Type 0
  HasMembers no_members = ⊤
  HasMembers (member k d ms) = IsData d × HasMembers ms

by-order : (P : Members → Type 0) (o : Ordering) (a b c : Members) → P a → P b → P c → P (match_ordering o a b c)
by-order P Less a b c h i j = h
by-order P Equal a b c h i j = i
by-order P Greater a b c h i j = j

put-good : (k : List ℕ) (d : Data) (ms : Members) → IsData d → HasMembers ms → HasMembers (put k d ms)
put-good k d no_members h i = (h, tt)
put-good k d (member l e ms) h i =
    by-order HasMembers (slice_cmp nat_cmp k l) (member k d (member l e ms)) (member l d ms) (member l e (put k d ms))
    (h, i) (h, i.1) (i.0, put-good k d ms h i.1)

any : {A : Type 0} (o : Option A) → IfSome o (λ x. ⊤)
any None = tt
any (Some x) = tt

mutual
  json-good : (j : json.Json) → IsJson j → IfSome (of_json j) IsData
  json-good json.null h = tt
  json-good (json.boolean b) h = tt
  json-good (json.number s) h = map-good (λ (n : Num). ⊤) IsData (number_of s) number (any (number_of s)) (λ n i. tt)
  json-good (json.string s) h = h
  json-good (json.array js) h = map-good HasItems IsData (of_items js) array (items-good js h) (λ ds i. i)
  json-good (json.object ms) h = map-good HasMembers IsData (of_members ms no_members) object (members-good ms no_members h tt) (λ ms i. i)

  items-good : (js : json.Items) → AreItems js → IfSome (of_items js) HasItems
  items-good json.no_items h = tt
  items-good (json.item j js) h =
      then-good IsData HasItems (of_json j) (λ d. option_map (item d) (of_items js)) (json-good j h.0)
      (λ d i. map-good HasItems HasItems (of_items js) (item d) (items-good js h.1) (λ ds k. (i, k)))

  members-good : (ms : json.Members) (found : Members) → AreMembers ms → HasMembers found → IfSome (of_members ms found) HasMembers
  members-good json.no_members found h i = i
  members-good (json.member k j ms) found h i =
      then-good IsData HasMembers (of_json j) (λ d. of_members ms (put k d found)) (json-good j h.0)
      (λ d l. members-good ms (put k d found) h.1 (put-good k d found l i))

get-good : (k : List ℕ) (ms : Members) → HasMembers ms → IfSome (get_member k ms) IsData
get-good k no_members h = tt
get-good k (member l e ms) h = by (slice_cmp nat_cmp k l) (get-good k ms h.1)
  where
    by : (o : Ordering) → IfSome (get_member k ms) IsData → IfSome (match_ordering o (get_member k ms) (Some e) (get_member k ms)) IsData
    by Less i = i
    by Equal i = h.0
    by Greater i = i

member-good : (k : List ℕ) (d : Data) → IsData d → IfSome (get k d) IsData
member-good k null h = tt
member-good k (boolean b) h = tt
member-good k (number n) h = tt
member-good k (string s) h = tt
member-good k (array ds) h = tt
member-good k (object ms) h = get-good k ms h

str-good : (d : Data) → IsData d → IfSome (as_str d) Bytes
str-good null h = tt
str-good (boolean b) h = tt
str-good (number n) h = tt
str-good (string s) h = h
str-good (array ds) h = tt
str-good (object ms) h = tt

last-good : (p : json.Json × List Token) → Read IsJson p → IfSome (json.if_last p.0 p.1) IsJson
last-good (j, []) h = h.0
last-good (j, t ∷ ts) h = tt

read-good : (text : List ℕ) → Bytes text → IfSome (read text) IsData
read-good text h =
    then-good IsJson IsData (option_and_then (λ p. json.if_last p.0 p.1) (json.value max_depth (tokens text))) of_json
    (then-good (Read IsJson) IsJson (json.value max_depth (tokens text)) (λ p. json.if_last p.0 p.1) (value-good max_depth (tokens text) (tokens-good text h)) last-good)
    json-good

data-good : (text : List ℕ) → IfSome (data_of text) IsData
unfolding data_of
data-good text = by (is_utf8 text) refl
  where
    by : (b : Bool) → is_utf8 text ≡ b → IfSome (cond b (read text) None) IsData
    by true e = read-good text (utf8-bytes text (IsUtf8-from_is_utf8 text e))
    by false e = tt

-- the text that a body tells at a key
text-good : (name body : List ℕ) → IfSome (text_in name body) Bytes
text-good name body =
    then-good IsData Bytes (data_of body) (text_at name) (data-good body)
    (λ d h. then-good IsData Bytes (get name d) as_str (member-good name d h) str-good)

if-id-good : (text : List ℕ) → Bytes text → IfSome (if_id text) Bytes
if-id-good text h = cond-good (λ o. IfSome o Bytes) (nat_lt 0 (length text) && nat_le (length text) id_limit) (Some text) None h tt

-- the id that a body tells
pub id-bytes : (body id : List ℕ) → id_in body ≡ Some id → All IsByte id
id-bytes body id found =
    subst (λ o. IfSome o Bytes) found (then-good Bytes Bytes (text_in (codes "Id") body) if_id (text-good (codes "Id") body) if-id-good)
