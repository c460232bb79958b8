-- Bodies written token by token.
use Rattle.std.proofs.Common.{◌≡◌, ◌<◌, ◌≤◌, ◌+◌, ℕ, List, [], ◌∷◌, ◌++◌, length, get_or, drop, map, Option, Some, None, Result, Ok, Err, nat_cmp, Ordering, Less, Equal, Greater, refl, sym, ap, subst, ◌∙◌, append_assoc}
use Rattle.std.proofs.lemmas.List.{at_drop_more, at_drop_all}
use Rattle.std.specs.Borrow.{Bor}
use Rattle.std.specs.BTreeMap.{insert_entry}
use Rattle.std.specs.Cmp.Lexicographic.{slice_cmp}
use Rattle.std.specs.Ordering.{match_ordering}
use Rattle.json.specs.Print.{print}
use Rattle.json.specs.Token.{Token}
use Rattle.engine_text.specs.declared.health.HealthSpec.{HealthSpec}
use Rattle.json.specs.Tree.{items_tokens, members_tokens}
use Rattle.json.specs.Written.{Written, Writes}
use Rattle.serde_json.specs.Data.{Data, Members, string, item, put}
use Rattle.serde_json.specs.View.{items_of}
use Rattle.serde_json.specs.Written.{items_outline, members_outline, compact_text}
use Rattle.serde_json.proofs.Texts.{print-outline}
use Rattle.json_laws.specs.Pairs.{pairs_members, words_items}
use Rattle.api_json.specs.Container.{health_member, health_tokens}
use Rattle.api_json.specs.Written.{Appends, tokens_of, last_words_tokens, lent_texts}

abbrev Entry : Type 0
Entry = Bor (List ℕ) × Bor (List ℕ)

abbrev members : List Entry → Members
members es = pairs_members (lent_texts es)

members-match_ordering : (o : Ordering) (a b c : List Entry) → members (match_ordering o a b c) ≡ match_ordering o (members a) (members b) (members c)
members-match_ordering Less a b c = refl
members-match_ordering Equal a b c = refl
members-match_ordering Greater a b c = refl

-- a text that goes into the map is put among the members
pub members-insert_entry : (es : List Entry) (k v : Bor (List ℕ))
    → members (insert_entry (λ x y. slice_cmp nat_cmp x.now y.now) es k v) ≡ put k.now (string v.now) (members es)
members-insert_entry [] k v = refl
members-insert_entry (e ∷ es) k v = members-match_ordering (slice_cmp nat_cmp k.now e.0.now) _ _ _ ∙ rw (members-insert_entry es k v)

-- one token is written
appends_one : {E : Type 0} {r : Result (Unit {0}) E} {old new : Written} {t : Token} → Writes r old new t → Appends r old new (t ∷ [])
appends_one {r = Ok u} w = record { before = w.room.0; tokens = w.ok }
appends_one {r = Err e} w = record { before = tt; tokens = tt }

-- what is written so far lacks the tokens rest to be the tokens ts
pub record Lacks (old now : Written) (rest ts : List Token) : Type 0 where
  pub before : now.before ≡ old.before
  pub tokens : now.tokens ++ rest ≡ old.tokens ++ ts

-- nothing is written yet
pub lacks_all : {old : Written} {rest ts : List Token} → rest ≡ ts → Lacks old old rest ts
lacks_all {old} same = record { before = refl; tokens = ap (λ l. old.tokens ++ l) same }

-- some tokens more are written
pub lacks_less : {E : Type 0} {old now new : Written} {u : Unit {0}} {ts rest all : List Token}
    → Appends {E = E} (Ok u) now new ts → Lacks old now (ts ++ rest) all → Lacks old new rest all
lacks_less {now} {ts} {rest} e h = record {
  before = e.before ∙ h.before;
  tokens = ap (λ l. l ++ rest) e.tokens ∙ append_assoc now.tokens ts rest ∙ h.tokens;
}

-- a token more is written
pub lacks_one_less : {E : Type 0} {old now new : Written} {u : Unit {0}} {t : Token} {rest all : List Token}
    → Writes {E = E} (Ok u) now new t → Lacks old now (t ∷ rest) all → Lacks old new rest all
lacks_one_less w h = lacks_less (appends_one w) h

-- the last token
pub lacks_none : {E : Type 0} {r : Result (Unit {0}) E} {old now new : Written} {t : Token} {all : List Token}
    → Writes r now new t → Lacks old now (t ∷ []) all → Appends r old new all
lacks_none {r = Ok u} w h = record { before = w.room.0 ∙ h.before; tokens = w.ok ∙ h.tokens }
lacks_none {r = Err e} w h = record { before = tt; tokens = tt }

-- the tokens of these items, with the bracket that closes their list
abbrev pub items_left : {A : Type 0} → (A → Data) → List A → List Token
items_left f xs = items_tokens (items_outline (items_of (map f xs)))

-- one item more is written
pub lacks_item_less : {A E : Type 0} {old now new : Written} {u : Unit {0}} {all : List Token} (f : A → Data) (xs : List A) (i : ℕ) (x : A)
    → i < length xs → x ≡ get_or xs i x → Appends {E = E} (Ok u) now new (tokens_of (f x))
    → Lacks old now (items_left f (drop i xs)) all → Lacks old new (items_left f (drop (i + 1) xs)) all
lacks_item_less {old} {now} {all} f xs i x within is e h =
    let at = at_drop_more (items_left f) xs i x within ∙ ap (λ y. tokens_of (f y) ++ items_left f (drop (i + 1) xs)) (sym is) in
    lacks_less e (subst (λ rest. Lacks old now rest all) at h)

-- one text more is written
pub lacks_word_less : {E : Type 0} {old now new : Written} {u : Unit {0}} {all : List Token} (words : List (List ℕ)) (i : ℕ) (word said : List ℕ)
    → i < length words → word ≡ get_or words i word → said ≡ word → Writes {E = E} (Ok u) now new (Token.string said)
    → Lacks old now (items_left string (drop i words)) all → Lacks old new (items_left string (drop (i + 1) words)) all
lacks_word_less {E} {now} {new} {u} words i word said within is same w h =
    lacks_item_less string words i word within is (subst (λ s. Appends {E = E} (Ok u) now new (Token.string s ∷ [])) same (appends_one w)) h

-- every item is written
pub lacks_items_none : {A E : Type 0} {old now new : Written} {r : Result (Unit {0}) E} {all : List Token} (f : A → Data) (xs : List A) (i : ℕ)
    → length xs ≤ i → Writes r now new Token.end_array → Lacks old now (items_left f (drop i xs)) all → Appends r old new all
lacks_items_none {old} {now} {all} f xs i passed w h =
    lacks_none w (subst (λ rest. Lacks old now rest all) (at_drop_all (items_left f) xs i passed) h)

words_shown : (words : List (List ℕ)) → items_of (map string words) ≡ words_items words
words_shown [] = refl
words_shown (word ∷ words) = ap (item (string word)) (words_shown words)

-- every text is written
pub lacks_words_none : {E : Type 0} {old now new : Written} {r : Result (Unit {0}) E} (words : List (List ℕ)) (i : ℕ)
    → length words ≤ i → Writes r now new Token.end_array → Lacks old now (items_left string (drop i words)) (items_left string words)
    → Appends r old new (last_words_tokens words)
lacks_words_none {old} {new} {r} words i passed w h =
    subst (λ items. Appends r old new (items_tokens (items_outline items))) (words_shown words) (lacks_items_none string words i passed w h)

-- the last tokens
pub lacks_rest : {E : Type 0} {r : Result (Unit {0}) E} {old now new : Written} {ts all : List Token}
    → Appends r now new ts → Lacks old now ts all → Appends r old new all
lacks_rest {r = Ok u} e h = record { before = e.before ∙ h.before; tokens = e.tokens ∙ h.tokens }
lacks_rest {r = Err e} a h = record { before = tt; tokens = tt }

-- a health check, if there is one, stands before these members
pub health_behind : (health : Option HealthSpec) (rest : Members)
    → members_tokens (members_outline (health_member health rest)) ≡ health_tokens health ++ members_tokens (members_outline rest)
health_behind None rest = refl
health_behind (Some check) rest = refl

-- what is written behind nothing has the value's compact text
pub compact : {E : Type 0} {old new : Written} {u : Unit {0}} {shown : List ℕ} (d : Data)
    → old.tokens ≡ [] → Appends {E = E} (Ok u) old new (tokens_of d) → shown ≡ print new.tokens → shown ≡ compact_text d
compact d empty e is = is ∙ ap print (e.tokens ∙ ap (λ ts. ts ++ tokens_of d) empty) ∙ print-outline d
