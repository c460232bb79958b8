-- Options, one after another.
use Rattle.std.proofs.Common.{◌≡◌, refl, sym, ap, ◌∙◌, ℕ, ◌+◌, ◌<◌, length, List, [], ◌∷◌, ◌++◌, map, take, get_or, Option, Some, None, Bool, true, false, cond, option_map, find, append_assoc}
use Rattle.std.specs.List.{list_all, filter}
use Rattle.std.proofs.lemmas.List.{map-append}
use Rattle.std.proofs.lemmas.List.Folds.{list_all-map}
use Rattle.std.proofs.lemmas.List.Elements.{filter_more}
use Rattle.engine_text.specs.Texts.{same_bytes}
use Rattle.engine_text.specs.declared.pairs.Pair.{Pair}
use Rattle.client_model.specs.Words.{given_first, kind_of, values_of}
use Rattle.client_model.specs.declared.words.Kind.{Kind}
use Rattle.client_model.specs.declared.words.Split.{Split}
use Rattle.client_parts.specs.Options.{options_of}
use denote.Ref.{Bor}

find_cond : {A B : Type 0} (f : A → B) (x : A) (rest : Option A) (b : Bool) → cond b (Some (f x)) (option_map f rest) ≡ option_map f (cond b (Some x) rest)
find_cond f x rest true = refl
find_cond f x rest false = refl

found_of_map : {A B : Type 0} (p : B → Bool) (f : A → B) (xs : List A) → find p (map f xs) ≡ option_map f (find (λ x. p (f x)) xs)
found_of_map p f [] = refl
found_of_map p f (x ∷ xs) = rw (found_of_map p f xs) (find_cond f x (find (λ y. p (f y)) xs) (p (f x)))

kind_of_found : (o : Option (Bor (List ℕ) × Kind)) → option_map (λ (x : List ℕ × Kind). x.1) (option_map (λ (x : Bor (List ℕ) × Kind). (x.0.now, x.1)) o) ≡ option_map (λ (x : Bor (List ℕ) × Kind). x.1) o
kind_of_found None = refl
kind_of_found (Some x) = refl

kind_found : (o : Option (Bor (Bor (List ℕ) × Kind))) → option_map (λ (x : Bor (List ℕ) × Kind). x.1) (option_map (λ b. b.now) o) ≡ option_map (λ (b : Bor (Bor (List ℕ) × Kind)). b.now.1) o
kind_found None = refl
kind_found (Some b) = refl

-- the kind of the option that was found
pub kind_by : (options : List (Bor (List ℕ) × Kind)) (word : List ℕ) (found : Option (Bor (Bor (List ℕ) × Kind)))
    → option_map (λ b. b.now) found ≡ find (λ o. same_bytes o.0.now word) options
    → option_map (λ (b : Bor (Bor (List ℕ) × Kind)). b.now.1) found ≡ kind_of (options_of options) word
kind_by options word found is =
    sym (kind_found found) ∙ ap (option_map (λ (x : Bor (List ℕ) × Kind). x.1)) is
    ∙ sym (kind_of_found (find (λ o. same_bytes o.0.now word) options))
    ∙ sym (ap (option_map (λ (o : List ℕ × Kind). o.1)) (found_of_map (λ o. same_bytes o.0 word) (λ o. (o.0.now, o.1)) options))

-- a test of each option
pub all_by : (p : List ℕ × Kind → Bool) (options : List (Bor (List ℕ) × Kind)) → list_all (λ o. p (o.0.now, o.1)) options ≡ list_all p (options_of options)
all_by p options = sym (list_all-map p (λ o. (o.0.now, o.1)) options)

-- behind these options
abbrev pub behind : List Pair → Split → Split
behind given s = record s { given = given ++ s.given }

pub one_more : (given : List Pair) (pair : Pair) (o : Option Split) → option_map (behind given) (option_map (given_first pair) o) ≡ option_map (behind (given ++ pair ∷ [])) o
one_more given pair None = refl
one_more given pair (Some s) = ap (λ ps. Some (record s { given = ps })) (sym (append_assoc given (pair ∷ []) s.given))

-- behind none
pub behind_none : (o : Option Split) → o ≡ option_map (behind []) o
behind_none None = refl
behind_none (Some s) = refl

-- ---- values

value_if : (b : Bool) (x : Pair) → map (λ p. p.value) (cond b (x ∷ []) []) ≡ cond b (x.value ∷ []) []
value_if true x = refl
value_if false x = refl

-- the values so far, and one pair more
pub one_value_more : (name : List ℕ) (given : List Pair) (i : ℕ) (d : Pair) → i < length given
    → values_of name (take (i + 1) given) ≡ values_of name (take i given) ++ cond (same_bytes (get_or given i d).key name) ((get_or given i d).value ∷ []) []
one_value_more name given i d low =
    let more = filter_more (λ p. same_bytes p.key name) given i d low in
    let parts = map-append (λ (p : Pair). p.value) (filter (λ p. same_bytes p.key name) (take i given)) (cond (same_bytes (get_or given i d).key name) (get_or given i d ∷ []) []) in
    ap (map (λ p. p.value)) more ∙ parts ∙ ap (λ vs. values_of name (take i given) ++ vs) (value_if (same_bytes (get_or given i d).key name) (get_or given i d))

-- what was added is the value, if the pair has the name
pub value_added : (name : List ℕ) (given : List Pair) (i : ℕ) (d : Pair) (b : Bool) (values values' : List (List ℕ))
    → i < length given → d ≡ get_or given i d → b ≡ same_bytes d.key name → values ≡ values_of name (take i given)
    → values' ≡ values ++ cond b (d.value ∷ []) [] → values' ≡ values_of name (take (i + 1) given)
value_added name given i d b values values' low is test so_far added =
    let here = sym (one_value_more name given i d low) in
    let step : values_of name (take i given) ++ cond (same_bytes d.key name) (d.value ∷ []) [] ≡ values_of name (take (i + 1) given) = rw (← is) at here in
    cc
