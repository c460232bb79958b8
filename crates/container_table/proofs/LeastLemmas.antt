-- The least of what is due: it is one of these, and none of them comes before it; only the empty list has none.
use Rattle.std.proofs.Common.{◌≡◌, ℕ, ◌≤◌, Bool, true, false, if◌then◌else◌, List, [], ◌∷◌, Option, Some, None, find, ◌||◌, refl, sym, ◌∙◌, subst, ap, arith, ◌⊎◌, inl, inr}
use Rattle.std.specs.Prelude.{not}
use Rattle.std.specs.List.{AllByRecursion, list_any}
use Rattle.std.proofs.lemmas.Bool.Decides.{nat_tests}
use Rattle.engine_text.specs.declared.step.DueAction.{DueAction}
use Rattle.container_table.specs.Timers.{is_before, least}

-- ---- the order

pub not_before_itself : (a : DueAction) → is_before a a ≡ false
not_before_itself a = grind (arith, nat_tests)

-- what isn't before one isn't before what comes before that one
not_before_less : (a b c : DueAction) → is_before a b ≡ true → is_before c b ≡ false → is_before c a ≡ false
not_before_less a b c e f = grind (arith, nat_tests, e, f)

-- of two that differ one comes before the other
pub same : (a b : DueAction) → is_before a b ≡ false → is_before b a ≡ false → a ≡ b
same a b e f = grind (arith, nat_tests, e, f)

not_before_moment : (a b : DueAction) → is_before a b ≡ false → b.moment ≤ a.moment
not_before_moment a b e = grind (arith, nat_tests, e)

-- ---- one of these, before which none comes

abbrev pub IsIn : DueAction → List DueAction → Type 0
IsIn d [] = ⊥
IsIn d (x ∷ xs) = (x ≡ d) ⊎ IsIn d xs

abbrev pub IsFirst : DueAction → List DueAction → Type 0
IsFirst d = AllByRecursion (λ e. is_before e d ≡ false)

first_test : (d : DueAction) (ds : List DueAction) → IsFirst d ds → not (list_any (λ e. is_before e d) ds) ≡ true
first_test d [] h = refl
first_test d (x ∷ xs) h = rw h.0 (first_test d xs h.1)

test_first : (d : DueAction) (ds : List DueAction) → not (list_any (λ e. is_before e d) ds) ≡ true → IsFirst d ds
test_first d [] h = tt
test_first d (x ∷ xs) h = go (is_before x d) refl h (test_first d xs)
  where
    go : (b : Bool) → is_before x d ≡ b → not (b || list_any (λ e. is_before e d) xs) ≡ true → (not (list_any (λ e. is_before e d) xs) ≡ true → IsFirst d xs) → IsFirst d (x ∷ xs)
    go true e h rest = absurd (cc)
    go false e h rest = (e, rest h)

-- one of these doesn't come before the one that none of them comes before
apart : (a b : DueAction) (ds : List DueAction) → IsIn a ds → IsFirst b ds → is_before a b ≡ false
apart a b [] i f = absurd i
apart a b (x ∷ xs) i f = elim i [ inl e ↦ subst (λ (y : DueAction). is_before y b ≡ false) e f.0 | inr j ↦ apart a b xs j f.1 ]

-- what is found, where one passes and no other does
the_one : (p : DueAction → Bool) (ds : List DueAction) (d : DueAction) → IsIn d ds → p d ≡ true → ((x : DueAction) → IsIn x ds → p x ≡ true → x ≡ d) → find p ds ≡ Some d
the_one p [] d i e f = absurd i
the_one p (x ∷ xs) d i e f = go (p x) refl i (λ j. the_one p xs d j e (λ y k. f y (inr k)))
  where
    go : (b : Bool) → p x ≡ b → IsIn d (x ∷ xs) → (IsIn d xs → find p xs ≡ Some d) → (if b then Some x else find p xs) ≡ Some d
    go true q i rest = ap Some (f x (inl refl) q)
    go false q (inl same) rest = let passes : p x ≡ true = ap p same ∙ e in absurd (cc)
    go false q (inr j) rest = rest j

pub least_is : (d : DueAction) (ds : List DueAction) → IsIn d ds → IsFirst d ds → least ds ≡ Some d
least_is d ds i f = the_one (λ d. not (list_any (λ e. is_before e d) ds)) ds d i (first_test d ds f)
    (λ x j passes. same x d (apart x d ds j f) (apart d x ds i (test_first x ds passes)))

pub all_after : (a b : DueAction) (ds : List DueAction) → is_before a b ≡ true → IsFirst b ds → IsFirst a ds
all_after a b [] e f = tt
all_after a b (x ∷ xs) e f = (not_before_less a b x e f.0, all_after a b xs e f.1)

-- a list that isn't empty has such a one
has_first : (x : DueAction) (xs : List DueAction) → (d : DueAction) × IsIn d (x ∷ xs) × IsFirst d (x ∷ xs)
has_first x [] = (x, inl refl, (not_before_itself x, tt))
has_first x (y ∷ ys) = let m = has_first y ys in go m.0 m.1 m.2 (is_before x m.0) refl
  where
    go : (d : DueAction) → IsIn d (y ∷ ys) → IsFirst d (y ∷ ys) → (b : Bool) → is_before x d ≡ b → (d : DueAction) × IsIn d (x ∷ y ∷ ys) × IsFirst d (x ∷ y ∷ ys)
    go d i f true e = (x, inl refl, (not_before_itself x, all_after x d (y ∷ ys) e f))
    go d i f false e = (d, inr i, (e, f))

-- what the least tells
abbrev pub IsLeastOf : List DueAction → Option DueAction → Type 0
IsLeastOf ds None = ds ≡ []
IsLeastOf ds (Some d) = IsIn d ds × IsFirst d ds

pub least_of_these : (ds : List DueAction) → IsLeastOf ds (least ds)
least_of_these [] = refl
least_of_these (x ∷ xs) = let m = has_first x xs in subst (IsLeastOf (x ∷ xs)) (sym (least_is m.0 (x ∷ xs) m.1 m.2)) (m.1, m.2)

-- none has a moment before the least one's
later : (m : ℕ) (d : DueAction) (ds : List DueAction) → m ≤ d.moment → IsFirst d ds → AllByRecursion (λ e. m ≤ e.moment) ds
later m d [] low f = tt
later m d (x ∷ xs) low f = (omega (arith, low, not_before_moment x d f.0), later m d xs low f.1)

pub least_from : (m : ℕ) (ds : List DueAction) → ((d : DueAction) → least ds ≡ Some d → m ≤ d.moment) → AllByRecursion (λ e. m ≤ e.moment) ds
least_from m [] low = tt
least_from m (x ∷ xs) low =
    let all = has_first x xs in later m all.0 (x ∷ xs) (low all.0 (least_is all.0 (x ∷ xs) all.1 all.2)) all.2
