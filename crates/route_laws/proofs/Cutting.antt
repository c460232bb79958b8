-- What a path has before its first slash and behind it, and which tokens take it.
use Rattle.std.proofs.Common.{◌≡◌, ◌≢◌, ℕ, zero, suc, ◌-◌, List, [], ◌∷◌, ◌++◌, length, drop, Bool, true, false, cond, refl, ap, ◌∙◌, arith, nat_eq, ◌==◌, ltb, ◌&&◌, ◌⊎◌}
use Rattle.std.proofs.lemmas.Bool.Decides.{nat_tests}
use Rattle.std.specs.List.{ends_with}
use Rattle.std.specs.Cmp.Lexicographic.{pointwise, bytes_decides}
use Rattle.matchit.specs.Rows.{param_token, catch_all_token}
use Rattle.matchit.specs.Seek.{has_slash, segment, slash, cuts, better}

-- what a path has before its first slash, and from it on
abbrev pub upto : List ℕ → List ℕ
upto [] = []
upto (b ∷ p) = cond (b == slash) [] (b ∷ upto p)

abbrev pub after : List ℕ → List ℕ
after [] = []
after (b ∷ p) = cond (b == slash) (b ∷ p) (after p)

-- the tokens take the path, a parameter all up to a slash
abbrev pub takes : List ℕ → List ℕ → Bool
takes [] [] = true
takes [] (b ∷ p) = false
takes (x ∷ t) [] = false
takes (x ∷ t) (b ∷ p) = cond (x == param_token) (cond (b == slash) false (takes t (after p))) (x == b && takes t p)

-- the tokens after a parameter: none, or a slash first
abbrev pub Ends : List ℕ → Type 0
Ends t = (segment t ≡ []) ⊎ (segment t ≡ slash ∷ [])

abbrev pub IsWhole : List ℕ → Type 0
IsWhole [] = Unit {0}
IsWhole (x ∷ t) = (x ≢ catch_all_token) × (x ≡ param_token → Ends t) × IsWhole t

pub and-left : (a b : Bool) → (a && b) ≡ true → a ≡ true
and-left true b e = refl
and-left false b e = e

pub and-right : (a b : Bool) → (a && b) ≡ true → b ≡ true
and-right true b e = e
and-right false b e = cc e

pub eq-self : (x : ℕ) → (x == x) ≡ true
eq-self x = grind (arith, nat_tests)

pub eq-same : (x y : ℕ) → (x == y) ≡ true → x ≡ y
eq-same x y e = grind (arith, nat_tests)

-- segments
pub segment-nil : (t : List ℕ) → segment t ≡ [] → t ≡ []
segment-nil [] e = refl
segment-nil (x ∷ t) e = by (x == slash) e
  where
    by : (v : Bool) → cond v (x ∷ []) (x ∷ segment t) ≡ [] → x ∷ t ≡ []
    by true e = cc e
    by false e = cc e

pub segment-cut : (p : List ℕ) → has_slash p ≡ true → segment p ≡ upto p ++ slash ∷ []
segment-cut [] e = cc e
segment-cut (b ∷ p) e = by (b == slash) refl e (segment-cut p)
  where
    by : (v : Bool) → (b == slash) ≡ v → cond v true (has_slash p) ≡ true → (has_slash p ≡ true → segment p ≡ upto p ++ slash ∷ []) → cond v (b ∷ []) (b ∷ segment p) ≡ cond v [] (b ∷ upto p) ++ slash ∷ []
    by true q e ih = ap (λ x. x ∷ []) (eq-same b slash q)
    by false q e ih = ap (λ x. b ∷ x) (ih e)

pub segment-all : (p : List ℕ) → has_slash p ≡ false → segment p ≡ p
segment-all [] e = refl
segment-all (b ∷ p) e = by (b == slash) e (segment-all p)
  where
    by : (v : Bool) → cond v true (has_slash p) ≡ false → (has_slash p ≡ false → segment p ≡ p) → cond v (b ∷ []) (b ∷ segment p) ≡ b ∷ p
    by true e ih = cc e
    by false e ih = ap (λ x. b ∷ x) (ih e)

pub after-none : (p : List ℕ) → has_slash p ≡ false → after p ≡ []
after-none [] e = refl
after-none (b ∷ p) e = by (b == slash) e (after-none p)
  where
    by : (v : Bool) → cond v true (has_slash p) ≡ false → (has_slash p ≡ false → after p ≡ []) → cond v (b ∷ p) (after p) ≡ []
    by true e ih = cc e
    by false e ih = ih e

pub after-drop : (p : List ℕ) → drop (length (upto p)) p ≡ after p
after-drop [] = refl
after-drop (b ∷ p) = by (b == slash) (after-drop p)
  where
    by : (v : Bool) → drop (length (upto p)) p ≡ after p → drop (length (cond v [] (b ∷ upto p))) (b ∷ p) ≡ cond v (b ∷ p) (after p)
    by true ih = refl
    by false ih = ih

pub drop-length : (p : List ℕ) → drop (length p) p ≡ []
drop-length [] = refl
drop-length (b ∷ p) = drop-length p

pub drop-last : (w : List ℕ) → drop (length w) (w ++ slash ∷ []) ≡ slash ∷ []
drop-last [] = refl
drop-last (x ∷ w) = drop-last w

pub length-last : (w : List ℕ) → length (w ++ slash ∷ []) ≡ suc (length w)
length-last [] = refl
length-last (x ∷ w) = ap suc (length-last w)

pub no_slash-drop : (n : ℕ) (p : List ℕ) → has_slash p ≡ false → has_slash (drop n p) ≡ false
no_slash-drop zero p e = e
no_slash-drop (suc n) [] e = e
no_slash-drop (suc n) (b ∷ p) e = by (b == slash) e (no_slash-drop n p)
  where
    by : (v : Bool) → cond v true (has_slash p) ≡ false → (has_slash p ≡ false → has_slash (drop n p) ≡ false) → has_slash (drop n p) ≡ false
    by true e ih = cc e
    by false e ih = ih e

-- a segment ends with a slash behind at least one byte
pub cuts-slash : (b : ℕ) (w : List ℕ) → cuts (b ∷ (w ++ slash ∷ [])) (slash ∷ []) ≡ true
cuts-slash b w =
    let e : length (b ∷ (w ++ slash ∷ [])) - 1 ≡ suc (length w) = rw (length-last w) (omega arith) in
    let l : ltb 1 (length (b ∷ (w ++ slash ∷ []))) ≡ true = rw (length-last w) (grind (arith, nat_tests)) in
    let d : ends_with nat_eq (b ∷ (w ++ slash ∷ [])) (slash ∷ []) ≡ true = rw (e, drop-last w) refl in
    rw (l, d) refl

pub cuts-none : (p : List ℕ) → has_slash p ≡ false → cuts p (slash ∷ []) ≡ false
cuts-none p e = by (ltb 1 (length p)) (pointwise nat_eq (slash ∷ []) (drop (length p - 1) p)) refl
  where
    by : (u v : Bool) → pointwise nat_eq (slash ∷ []) (drop (length p - 1) p) ≡ v → (u && v) ≡ false
    by false v q = refl
    by true false q = refl
    by true true q =
        let same : slash ∷ [] ≡ drop (length p - 1) p = (bytes_decides (slash ∷ []) (drop (length p - 1) p)).0 q in
        let f : has_slash (slash ∷ []) ≡ false = ap has_slash same ∙ no_slash-drop (length p - 1) p e in
        cc f

pub better-same : (seg best u : List ℕ) → ltb (length best) (length u) ≡ false → better seg best u ≡ best
better-same seg best u e = rw e refl

pub better-nil : (seg best : List ℕ) → better seg best [] ≡ best
better-nil seg best = grind (arith, nat_tests)

pub after-some : (p : List ℕ) → has_slash p ≡ true → takes [] (after p) ≡ false
after-some [] e = cc e
after-some (b ∷ p) e = by (b == slash) e (after-some p)
  where
    by : (v : Bool) → cond v true (has_slash p) ≡ true → (has_slash p ≡ true → takes [] (after p) ≡ false) → takes [] (cond v (b ∷ p) (after p)) ≡ false
    by true e ih = refl
    by false e ih = ih e
