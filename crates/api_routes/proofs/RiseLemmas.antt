-- The keys of every object that is read of a body rise in byte order, and so do those of the labels.
use Rattle.std.proofs.Common.{◌≡◌, ℕ, List, [], ◌∷◌, map, is_some, Bool, true, false, ◌&&◌, if◌then◌else◌, Option, Some, None, option_map, option_and_then, Result, Ok, Err, refl, sym, ap, ◌∙◌, subst}
use Rattle.std.specs.Str.{is_utf8}
use Rattle.std.specs.Prelude.{⊤}
use Rattle.std.specs.Ordering.{nat_cmp, match_ordering, is_lt, ordering_reverse}
use Rattle.std.specs.Cmp.Lexicographic.{slice_cmp, nat_list_cmp_total}
use Rattle.std.proofs.Common.{Ordering, Less, Equal, Greater}
use Rattle.std.proofs.lemmas.Bool.{and_parts}
use Rattle.json.specs.Json as json
use Rattle.json.specs.Lex.{tokens}
use Rattle.serde_json.specs.Data.{Num, Data, null, boolean, number, string, array, object, Items, no_items, item, Members, no_members, member, put}
use Rattle.serde_json.specs.Find.{get, get_member, as_object, as_str}
use Rattle.serde_json.specs.Read.{read, of_json, of_items, of_members, number_of, max_depth}
use Rattle.json_laws.specs.Text.{data_of}
use Rattle.json_laws.specs.Pairs.{Texts, texts_of}
use Rattle.engine_text.specs.declared.pairs.Pair.{Pair}
use Rattle.api_json.specs.Fields.{body_of, object_or_bad, unless_null}
use Rattle.api_json.specs.Lists.{pairs_in, pairs_of_members, pairs_from}
use Rattle.engine_text.specs.Soundness.{are_rising}
use Rattle.api_json.specs.declared.fault.BodyFault.{BodyFault}
use Rattle.api_json.specs.declared.fault.BodyFault.TheVariants.{BadJson}

abbrev is_below : List ℕ → Members → Bool
is_below l no_members = true
is_below l (member k d ms) = is_lt (slice_cmp nat_cmp l k)

abbrev do_rise : Members → Bool
do_rise no_members = true
do_rise (member k d ms) = is_below k ms && do_rise ms

abbrev mutual
  pub IsOrdered : Data → Type 0
  IsOrdered null = ⊤
  IsOrdered (boolean b) = ⊤
  IsOrdered (number n) = ⊤
  IsOrdered (string s) = ⊤
  IsOrdered (array ds) = AreItemsOrdered ds
  IsOrdered (object ms) = (do_rise ms ≡ true) × AreOrdered ms

  AreItemsOrdered : Items → Type 0
  AreItemsOrdered no_items = ⊤
  AreItemsOrdered (item d ds) = IsOrdered d × AreItemsOrdered ds

  AreOrdered : Members → Type 0
  AreOrdered no_members = ⊤
  AreOrdered (member k d ms) = IsOrdered d × AreOrdered ms

abbrev pub IfOrdered : Option Data → Type 0
IfOrdered None = ⊤
IfOrdered (Some d) = IsOrdered d

abbrev IfItemsOrdered : Option Items → Type 0
IfItemsOrdered None = ⊤
IfItemsOrdered (Some ds) = AreItemsOrdered ds

abbrev IfMembersOrdered : Option Members → Type 0
IfMembersOrdered None = ⊤
IfMembersOrdered (Some ms) = (do_rise ms ≡ true) × AreOrdered ms

both_true : (b c : Bool) → b ≡ true → c ≡ true → (b && c) ≡ true
both_true true c e f = f
both_true false c e f = cc e

put_below : (o : Ordering) (l k q : List ℕ) (d e : Data) (ms : Members) → is_lt (slice_cmp nat_cmp l k) ≡ true → is_lt (slice_cmp nat_cmp l q) ≡ true
    → is_below l (match_ordering o (member k d (member q e ms)) (member q d ms) (member q e (put k d ms))) ≡ true
put_below Less l k q d e ms a b = a
put_below Equal l k q d e ms a b = b
put_below Greater l k q d e ms a b = b

below_put : (l k : List ℕ) (d : Data) (ms : Members) → is_lt (slice_cmp nat_cmp l k) ≡ true → is_below l ms ≡ true → is_below l (put k d ms) ≡ true
below_put l k d no_members a b = a
below_put l k d (member q e ms) a b = put_below (slice_cmp nat_cmp k q) l k q d e ms a b

turned : (k q : List ℕ) → slice_cmp nat_cmp k q ≡ Greater → is_lt (slice_cmp nat_cmp q k) ≡ true
turned k q e = ap is_lt (nat_list_cmp_total.antisymm q k ∙ ap ordering_reverse e)

put_rise_by : (o : Ordering) (k q : List ℕ) (d e : Data) (ms : Members) → slice_cmp nat_cmp k q ≡ o → do_rise (member q e ms) ≡ true
    → do_rise (put k d ms) ≡ true
    → do_rise (match_ordering o (member k d (member q e ms)) (member q d ms) (member q e (put k d ms))) ≡ true
put_rise_by Less k q d e ms is h more = both_true _ _ (ap is_lt is) h
put_rise_by Equal k q d e ms is h more = h
put_rise_by Greater k q d e ms is h more =
    both_true (is_below q (put k d ms)) (do_rise (put k d ms)) (below_put q k d ms (turned k q is) (and_parts (is_below q ms) (do_rise ms) h).0) more

put_rise : (k : List ℕ) (d : Data) (ms : Members) → do_rise ms ≡ true → do_rise (put k d ms) ≡ true
put_rise k d no_members h = refl
put_rise k d (member q e ms) h =
    put_rise_by (slice_cmp nat_cmp k q) k q d e ms refl h (put_rise k d ms (and_parts (is_below q ms) (do_rise ms) h).1)

put_ordered_by : (o : Ordering) (k q : List ℕ) (d e : Data) (ms : Members) → IsOrdered d → AreOrdered (member q e ms) → AreOrdered (put k d ms)
    → AreOrdered (match_ordering o (member k d (member q e ms)) (member q d ms) (member q e (put k d ms)))
put_ordered_by Less k q d e ms a h more = (a, h)
put_ordered_by Equal k q d e ms a h more = (a, h.1)
put_ordered_by Greater k q d e ms a h more = (h.0, more)

put_ordered : (k : List ℕ) (d : Data) (ms : Members) → IsOrdered d → AreOrdered ms → AreOrdered (put k d ms)
put_ordered k d no_members a h = (a, tt)
put_ordered k d (member q e ms) a h = put_ordered_by (slice_cmp nat_cmp k q) k q d e ms a h (put_ordered k d ms a h.1)

number_ordered : (o : Option Num) → IfOrdered (option_map number o)
number_ordered None = tt
number_ordered (Some n) = tt

array_ordered : (o : Option Items) → IfItemsOrdered o → IfOrdered (option_map array o)
array_ordered None h = tt
array_ordered (Some ds) h = h

object_ordered : (o : Option Members) → IfMembersOrdered o → IfOrdered (option_map object o)
object_ordered None h = tt
object_ordered (Some ms) h = h

item_ordered : (o : Option Data) (more : Option Items) → IfOrdered o → IfItemsOrdered more
    → IfItemsOrdered (option_and_then (λ d. option_map (item d) more) o)
item_ordered None more h k = tt
item_ordered (Some d) None h k = tt
item_ordered (Some d) (Some ds) h k = (h, k)

member_ordered : (o : Option Data) (next : Data → Option Members) → IfOrdered o → ((d : Data) → IsOrdered d → IfMembersOrdered (next d))
    → IfMembersOrdered (option_and_then next o)
member_ordered None next h more = tt
member_ordered (Some d) next h more = more d h

mutual
  json_ordered : (j : json.Json) → IfOrdered (of_json j)
  json_ordered json.null = tt
  json_ordered (json.boolean b) = tt
  json_ordered (json.number s) = number_ordered (number_of s)
  json_ordered (json.string s) = tt
  json_ordered (json.array js) = array_ordered (of_items js) (items_ordered js)
  json_ordered (json.object ms) = object_ordered (of_members ms no_members) (members_ordered ms no_members refl tt)

  items_ordered : (js : json.Items) → IfItemsOrdered (of_items js)
  items_ordered json.no_items = tt
  items_ordered (json.item j js) = item_ordered (of_json j) (of_items js) (json_ordered j) (items_ordered js)

  members_ordered : (ms : json.Members) (found : Members) → do_rise found ≡ true → AreOrdered found → IfMembersOrdered (of_members ms found)
  members_ordered json.no_members found rising ordered = (rising, ordered)
  members_ordered (json.member k j ms) found rising ordered =
      member_ordered (of_json j) (λ (d : Data). of_members ms (put k d found)) (json_ordered j)
      (λ d h. members_ordered ms (put k d found) (put_rise k d found rising) (put_ordered k d found h ordered))

some_json : (o : Option json.Json) → IfOrdered (option_and_then of_json o)
some_json None = tt
some_json (Some j) = json_ordered j

if_utf8 : (b : Bool) (text : List ℕ) → IfOrdered (if b then read text else None)
if_utf8 true text = some_json (option_and_then (λ p. json.if_last p.0 p.1) (json.value max_depth (tokens text)))
if_utf8 false text = tt

pub data_ordered : (text : List ℕ) → IfOrdered (data_of text)
unfolding data_of
data_ordered text = if_utf8 (is_utf8 text) text

abbrev IfOkOrdered : Result Data BodyFault → Type 0
IfOkOrdered (Ok d) = IsOrdered d
IfOkOrdered (Err fault) = ⊤

if_object : (b : Bool) (d : Data) (fault : BodyFault) → IsOrdered d → IfOkOrdered (if b then Ok d else Err fault)
if_object true d fault h = h
if_object false d fault h = tt

object_or : (o : Option Data) → IfOrdered o → IfOkOrdered (object_or_bad o)
object_or None h = tt
object_or (Some d) h = if_object (is_some (as_object d)) d BadJson h

pub body_ordered : (body : List ℕ) (d : Data) → body_of body ≡ Ok d → IsOrdered d
unfolding body_of
body_ordered body d e = subst IfOkOrdered e (object_or (data_of body) (data_ordered body))

one_of_three : (o : Ordering) (a b c : Option Data) → IfOrdered a → IfOrdered b → IfOrdered c → IfOrdered (match_ordering o a b c)
one_of_three Less a b c x y z = x
one_of_three Equal a b c x y z = y
one_of_three Greater a b c x y z = z

member_found : (k : List ℕ) (ms : Members) → AreOrdered ms → IfOrdered (get_member k ms)
member_found k no_members h = tt
member_found k (member l e ms) h =
    one_of_three (slice_cmp nat_cmp k l) (get_member k ms) (Some e) (get_member k ms) (member_found k ms h.1) h.0 (member_found k ms h.1)

pub value_found : (k : List ℕ) (d : Data) → IsOrdered d → IfOrdered (get k d)
value_found k null h = tt
value_found k (boolean b) h = tt
value_found k (number n) h = tt
value_found k (string s) h = tt
value_found k (array ds) h = tt
value_found k (object ms) h = member_found k ms h.1

unless : (d : Data) → IsOrdered d → IfOrdered (unless_null d)
unless null h = tt
unless (boolean b) h = tt
unless (number n) h = tt
unless (string s) h = tt
unless (array ds) h = h
unless (object ms) h = h

pub then_unless : (o : Option Data) → IfOrdered o → IfOrdered (option_and_then unless_null o)
then_unless None h = tt
then_unless (Some d) h = unless d h

abbrev pub names : Members → List (List ℕ)
names no_members = []
names (member k d ms) = k ∷ names ms

pub names_rise : (ms : Members) → do_rise ms ≡ true → are_rising (names ms) ≡ true
names_rise no_members h = refl
names_rise (member k d no_members) h = refl
names_rise (member k d (member l e ms)) h =
    let parts = and_parts (is_lt (slice_cmp nat_cmp k l)) (do_rise (member l e ms)) h in
    both_true _ _ parts.0 (names_rise (member l e ms) parts.1)

abbrev keys_in : Option (List Pair) → List (List ℕ)
keys_in None = []
keys_in (Some ps) = map (λ (p : Pair). p.key) ps

member_keys : (k : List ℕ) (o : Option (List ℕ)) (more : Option Texts) (ns : List (List ℕ)) (ps : List Pair)
    → ((qs : List Pair) → option_map pairs_from more ≡ Some qs → map (λ (p : Pair). p.key) qs ≡ ns)
    → option_map pairs_from (option_and_then (λ v. option_map (λ rest. (k, v) ∷ rest) more) o) ≡ Some ps
    → map (λ (p : Pair). p.key) ps ≡ k ∷ ns
member_keys k None more ns ps next e = cc e
member_keys k (Some v) None ns ps next e = cc e
member_keys k (Some v) (Some rest) ns ps next e =
    sym (ap keys_in e) ∙ ap (λ (l : List (List ℕ)). k ∷ l) (next (pairs_from rest) refl)

keys_are : (ms : Members) (ps : List Pair) → pairs_of_members ms ≡ Some ps → map (λ (p : Pair). p.key) ps ≡ names ms
keys_are no_members ps e = sym (ap keys_in e)
keys_are (member k d ms) ps e = member_keys k (as_str d) (texts_of ms) (names ms) ps (keys_are ms) e

pub labels_in : (d : Data) (ps : List Pair) → IsOrdered d → pairs_in d ≡ Some ps → are_rising (map (λ (p : Pair). p.key) ps) ≡ true
labels_in null ps h e = cc e
labels_in (boolean b) ps h e = cc e
labels_in (number n) ps h e = cc e
labels_in (string s) ps h e = cc e
labels_in (array ds) ps h e = cc e
labels_in (object ms) ps h e = ap are_rising (keys_are ms ps e) ∙ names_rise ms h.0
