-- Names, each once: of those that pass, and with one more.
use Rattle.std.proofs.Common.{◌≡◌, ◌≢◌, ℕ, ◌+◌, ◌≤◌, ◌||◌, Bool, true, false, not, List, [], ◌∷◌, ◌++◌, refl, ap, sym, ◌∙◌, arith, filter, length, if◌then◌else◌}
use Rattle.std.specs.Cmp.Lexicographic.{bytes_decides}
use Rattle.std.specs.List.{AllByRecursion, list_any}
use Rattle.engine_text.specs.Texts.{same_bytes}
use Rattle.machine_model.specs.Consistency.{AreDistinct}
use Rattle.machine_model.proofs.VolumeLemmas.{differs}
use Rattle.machine_model.proofs.RemoveLemmas.{filter_end}
use Rattle.machine_events.specs.NewVolumes.{once}

abbrev Name : Type 0
Name = List ℕ

abbrev others : Name → List Name → List Name
others name names = filter (λ n. not (same_bytes name n)) names

-- ---- tests of lists

pub push : {A : Type 0} (p : A → Bool) (b : Bool) (x : A) (xs : List A) → filter p (if b then x ∷ xs else xs) ≡ (if b then (if p x then x ∷ filter p xs else filter p xs) else filter p xs)
push p true x xs = refl
push p false x xs = refl

turn : {A : Type 0} (a b : Bool) (x : A) (xs : List A) → (if b then (if a then x ∷ xs else xs) else xs) ≡ (if a then (if b then x ∷ xs else xs) else xs)
turn true true x xs = refl
turn true false x xs = refl
turn false true x xs = refl
turn false false x xs = refl

filter_swap : {A : Type 0} (p q : A → Bool) (xs : List A) → filter p (filter q xs) ≡ filter q (filter p xs)
filter_swap p q [] = refl
filter_swap p q (x ∷ xs) =
    push p (q x) x (filter q xs)
    ∙ (ap (λ l. if q x then (if p x then x ∷ l else l) else l) (filter_swap p q xs)
    ∙ (turn (p x) (q x) x (filter q (filter p xs)) ∙ sym (push q (p x) x (filter p xs))))

passed_either : {A : Type 0} (P : A → Type 0) (b : Bool) (x : A) (xs : List A) → (b ≡ true → P x) → AllByRecursion P xs → AllByRecursion P (if b then x ∷ xs else xs)
passed_either P true x xs holds all = (holds refl, all)
passed_either P false x xs holds all = all

-- what passes
pub passed : {A : Type 0} (p : A → Bool) (xs : List A) → AllByRecursion (λ x. p x ≡ true) (filter p xs)
passed p [] = tt
passed p (x ∷ xs) = passed_either (λ y. p y ≡ true) (p x) x (filter p xs) (λ e. e) (passed p xs)

pub all_filter : {A : Type 0} (P : A → Type 0) (p : A → Bool) (xs : List A) → AllByRecursion P xs → AllByRecursion P (filter p xs)
all_filter P p [] all = tt
all_filter P p (x ∷ xs) all = passed_either P (p x) x (filter p xs) (λ e. all.0) (all_filter P p xs all.1)

distinct_either : {A : Type 0} (b : Bool) (x : A) (xs : List A) → AllByRecursion (λ y. x ≢ y) xs → AreDistinct xs → AreDistinct (if b then x ∷ xs else xs)
distinct_either true x xs other apart = (other, apart)
distinct_either false x xs other apart = apart

distinct_filter : {A : Type 0} (p : A → Bool) (xs : List A) → AreDistinct xs → AreDistinct (filter p xs)
distinct_filter p [] apart = tt
distinct_filter p (x ∷ xs) apart = distinct_either (p x) x (filter p xs) (all_filter (λ y. x ≢ y) p xs apart.0) (distinct_filter p xs apart.1)

length_either : {A : Type 0} (b : Bool) (x : A) (xs : List A) (n : ℕ) → length xs ≤ n → length (if b then x ∷ xs else xs) ≤ n + 1
length_either true x xs n low = omega (arith, low)
length_either false x xs n low = omega (arith, low)

pub length_filter : {A : Type 0} (p : A → Bool) (xs : List A) → length (filter p xs) ≤ length xs
length_filter p [] = omega arith
length_filter p (x ∷ xs) = let e = length_either (p x) x (filter p xs) (length xs) (length_filter p xs) in omega (arith, e)

-- ---- the other names

one_other : (p : Name → Bool) (name x : Name) (xs : List Name) (b : Bool) → same_bytes name x ≡ b → p name ≡ false → filter p (others name xs) ≡ filter p xs
    → filter p (if not b then x ∷ others name xs else others name xs) ≡ filter p (x ∷ xs)
one_other p name x xs true same fails e =
    let gone : p x ≡ false = ap p (sym ((bytes_decides name x).0 same)) ∙ fails in e ∙ sym (ap (λ b. if b then x ∷ filter p xs else filter p xs) gone)
one_other p name x xs false same fails e = ap (λ l. if p x then x ∷ l else l) e

-- a name that doesn't pass is none of those that pass
others_pass : (p : Name → Bool) (name : Name) (xs : List Name) → p name ≡ false → filter p (others name xs) ≡ filter p xs
others_pass p name [] fails = refl
others_pass p name (x ∷ xs) fails = one_other p name x xs (same_bytes name x) refl fails (others_pass p name xs fails)

once_step : (p : Name → Bool) (x : Name) (xs : List Name) (b : Bool) → p x ≡ b → once (filter p xs) ≡ filter p (once xs) → once (if b then x ∷ filter p xs else filter p xs) ≡ filter p (x ∷ others x (once xs))
once_step p x xs true e same =
    ap (λ l. x ∷ others x l) same
    ∙ (ap (λ l. x ∷ l) (filter_swap (λ n. not (same_bytes x n)) p (once xs)) ∙ sym (ap (λ b. if b then x ∷ filter p (others x (once xs)) else filter p (others x (once xs))) e))
once_step p x xs false e same =
    same ∙ (sym (others_pass p x (once xs) e) ∙ sym (ap (λ b. if b then x ∷ filter p (others x (once xs)) else filter p (others x (once xs))) e))

-- those that pass, each once
pub once_filter : (p : Name → Bool) (xs : List Name) → once (filter p xs) ≡ filter p (once xs)
once_filter p [] = refl
once_filter p (x ∷ xs) = once_step p x xs (p x) refl (once_filter p xs)

pub all_once : (P : Name → Type 0) (xs : List Name) → AllByRecursion P xs → AllByRecursion P (once xs)
all_once P [] all = tt
all_once P (x ∷ xs) all = (all.0, all_filter P (λ n. not (same_bytes x n)) (once xs) (all_once P xs all.1))

not_same : (a b : Name) (t : Bool) → same_bytes a b ≡ t → not t ≡ true → a ≢ b
not_same a b true e fails = absurd (cc)
not_same a b false e fails = differs a b e

all_imp : {A : Type 0} (P Q : A → Type 0) → ((x : A) → P x → Q x) → (xs : List A) → AllByRecursion P xs → AllByRecursion Q xs
all_imp P Q f [] all = tt
all_imp P Q f (x ∷ xs) all = (f x all.0, all_imp P Q f xs all.1)

pub distinct_once : (xs : List Name) → AreDistinct (once xs)
distinct_once [] = tt
distinct_once (x ∷ xs) = (
  all_imp (λ n. not (same_bytes x n) ≡ true) (λ n. x ≢ n) (λ n fails. not_same x n (same_bytes x n) refl fails) (others x (once xs)) (passed (λ n. not (same_bytes x n)) (once xs)),
  distinct_filter (λ n. not (same_bytes x n)) (once xs) (distinct_once xs),
)

pub length_once : (xs : List Name) → length (once xs) ≤ length xs
length_once [] = omega arith
length_once (x ∷ xs) =
    let less = length_filter (λ n. not (same_bytes x n)) (once xs) in
    let rest = length_once xs in omega (arith, less, rest)

-- ---- one name more

any_either : (p : Name → Bool) (name x : Name) (xs : List Name) (b : Bool) → same_bytes name x ≡ b → p name ≡ false → list_any p (others name xs) ≡ list_any p xs
    → list_any p (if not b then x ∷ others name xs else others name xs) ≡ (p x || list_any p xs)
any_either p name x xs true same fails e =
    let gone : p x ≡ false = ap p (sym ((bytes_decides name x).0 same)) ∙ fails in e ∙ sym (ap (λ b. b || list_any p xs) gone)
any_either p name x xs false same fails e = ap (λ b. p x || b) e

any_others : (p : Name → Bool) (name : Name) (xs : List Name) → p name ≡ false → list_any p (others name xs) ≡ list_any p xs
any_others p name [] fails = refl
any_others p name (x ∷ xs) fails = any_either p name x xs (same_bytes name x) refl fails (any_others p name xs fails)

any_step : (p : Name → Bool) (x : Name) (xs : List Name) (b : Bool) → p x ≡ b → list_any p (once xs) ≡ list_any p xs → (b || list_any p (others x (once xs))) ≡ (b || list_any p xs)
any_step p x xs true e same = refl
any_step p x xs false e same = any_others p x (once xs) e ∙ same

pub any_once : (p : Name → Bool) (xs : List Name) → list_any p (once xs) ≡ list_any p xs
any_once p [] = refl
any_once p (x ∷ xs) = any_step p x xs (p x) refl (any_once p xs)

snoc_step : (b d : Bool) (x n : Name) (o on : List Name) → same_bytes x n ≡ b → on ≡ (if d then o else o ++ n ∷ []) → x ∷ others x on ≡ (if b || d then x ∷ others x o else (x ∷ others x o) ++ n ∷ [])
snoc_step true true x n o on same e = ap (λ l. x ∷ others x l) e
snoc_step true false x n o on same e = ap (λ l. x ∷ others x l) e ∙ ap (λ l. x ∷ l) (filter_end (λ k. not (same_bytes x k)) false o n (ap not same))
snoc_step false true x n o on same e = ap (λ l. x ∷ others x l) e
snoc_step false false x n o on same e = ap (λ l. x ∷ others x l) e ∙ ap (λ l. x ∷ l) (filter_end (λ k. not (same_bytes x k)) true o n (ap not same))

-- it comes at the end, unless it is one of them
pub once_snoc : (xs : List Name) (n : Name) → once (xs ++ n ∷ []) ≡ (if list_any (λ k. same_bytes k n) xs then once xs else once xs ++ n ∷ [])
once_snoc [] n = refl
once_snoc (x ∷ xs) n = snoc_step (same_bytes x n) (list_any (λ k. same_bytes k n) xs) x n (once xs) (once (xs ++ n ∷ [])) refl (once_snoc xs n)
