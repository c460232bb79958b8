-- Texts in byte order: their first bytes, and those that begin with one text.
use Rattle.std.proofs.Common.{◌≡◌, ℕ, suc, zero, ◌<◌, ◌≤◌, true, false, ◌&&◌, List, [], ◌∷◌, nat_eq, refl, sym, ◌∙◌, ap, arith, Ordering}
use Rattle.std.specs.Ordering.{nat_cmp, is_lt, is_eq, ordering_then, ordering_index, ordering_reverse}
use Rattle.std.specs.Cmp.{IsTotalOrder}
use Rattle.std.specs.Cmp.Lexicographic.{slice_cmp}
use Rattle.std.proofs.lemmas.Cmp.{ranked}
use Rattle.std.proofs.lemmas.Map.Text.{is_eq-slice_cmp}
use Rattle.std.proofs.lemmas.Bool.Decides.{nat_tests}
use Rattle.std.specs.declared.cmp.Ordering.TheVariants.{Less, Equal, Greater}
use Rattle.engine_text.specs.Texts.{same_bytes, begins_with}
use Rattle.container_table.specs.Starts.{front}

abbrev pub order : List ℕ → List ℕ → Ordering
order = slice_cmp nat_cmp

-- ---- numbers

pub below : (a b : ℕ) → nat_cmp a b ≡ Less → a < b
below a b e = ranked a b Less (sym e)

pub above : (a b : ℕ) → nat_cmp a b ≡ Greater → b < a
above a b e = ranked a b Greater (sym e)

pub level : (a b : ℕ) → nat_cmp a b ≡ Equal → a ≡ b
level a b e = ranked a b Equal (sym e)

-- ---- what the first bytes tell

-- two texts whose first bytes differ are ordered as those
pub front_tells : (n : ℕ) (a b : List ℕ) (o : Ordering) → is_eq o ≡ false → order (front n a) (front n b) ≡ o → order a b ≡ o
front_tells zero a b o un e = let is : is_eq Equal ≡ false = ap is_eq e ∙ un in absurd (cc)
front_tells (suc n) [] [] o un e = front_tells n [] [] o un e
front_tells (suc n) [] (y ∷ ys) o un e = go (nat_cmp 0 y) refl e (front_tells n [] ys o un)
  where
    go : (q : Ordering) → nat_cmp 0 y ≡ q → ordering_then q (order (front n []) (front n ys)) ≡ o → (order (front n []) (front n ys) ≡ o → order [] ys ≡ o) → Less ≡ o
    go Less c e more = e
    go Equal c e more = shorter ys (more e)
      where
        shorter : (ys : List ℕ) → order [] ys ≡ o → Less ≡ o
        shorter [] e = let is : is_eq Equal ≡ false = ap is_eq e ∙ un in absurd (cc)
        shorter (z ∷ zs) e = e
    go Greater c e more = let lower : y < 0 = above 0 y c in absurd (omega arith)
front_tells (suc n) (x ∷ xs) [] o un e = go (nat_cmp x 0) refl e (front_tells n xs [] o un)
  where
    go : (q : Ordering) → nat_cmp x 0 ≡ q → ordering_then q (order (front n xs) (front n [])) ≡ o → (order (front n xs) (front n []) ≡ o → order xs [] ≡ o) → Greater ≡ o
    go Greater c e more = e
    go Equal c e more = longer xs (more e)
      where
        longer : (xs : List ℕ) → order xs [] ≡ o → Greater ≡ o
        longer [] e = let is : is_eq Equal ≡ false = ap is_eq e ∙ un in absurd (cc)
        longer (z ∷ zs) e = e
    go Less c e more = let lower : x < 0 = below x 0 c in absurd (omega arith)
front_tells (suc n) (x ∷ xs) (y ∷ ys) o un e = go (nat_cmp x y) e (front_tells n xs ys o un)
  where
    go : (q : Ordering) → ordering_then q (order (front n xs) (front n ys)) ≡ o → (order (front n xs) (front n ys) ≡ o → order xs ys ≡ o) → ordering_then q (order xs ys) ≡ o
    go Less e more = e
    go Equal e more = more e
    go Greater e more = e

-- by the first bytes, then whole, is whole
pub whole_order : (n : ℕ) (a b : List ℕ) → ordering_then (order (front n a) (front n b)) (order a b) ≡ order a b
whole_order n a b = go (order (front n a) (front n b)) refl
  where
    go : (o : Ordering) → order (front n a) (front n b) ≡ o → ordering_then o (order a b) ≡ order a b
    go Less e = sym (front_tells n a b Less refl e)
    go Equal e = refl
    go Greater e = sym (front_tells n a b Greater refl e)

-- ---- the order of texts

pub is_lt-Less : (o : Ordering) → is_lt o ≡ true → o ≡ Less
is_lt-Less Less e = refl
is_lt-Less Equal e = absurd (cc)
is_lt-Less Greater e = absurd (cc)

-- of two in order the second is at no lower a place
pub places_rise : {K : Type 0} (R : K → K → Ordering) (o : IsTotalOrder R) (a b r : K) → R a b ≡ Less → ordering_index (R a r) ≤ ordering_index (R b r)
places_rise {K} R o a b r e = go (R a r) refl
  where
    back : (p q : K) → R p q ≡ Less → R q p ≡ Greater
    back p q f = o.antisymm q p ∙ ap ordering_reverse f

    go : (s : Ordering) → R a r ≡ s → ordering_index s ≤ ordering_index (R b r)
    go Less f = omega arith
    go Equal f = rw (back r b (sym (o.congr a r b f) ∙ e)) (omega arith)
    go Greater f = rw (back r b (o.trans r a b (o.antisymm r a ∙ ap ordering_reverse f) e)) (omega arith)

pub same_if_equal : (a b : List ℕ) → order a b ≡ Equal → same_bytes a b ≡ true
same_if_equal a b e = sym (is_eq-slice_cmp a b) ∙ ap is_eq e

pub other_if_less : (a b : List ℕ) → order a b ≡ Less → same_bytes a b ≡ false
other_if_less a b e = sym (is_eq-slice_cmp a b) ∙ ap is_eq e

pub other_if_greater : (a b : List ℕ) → order a b ≡ Greater → same_bytes a b ≡ false
other_if_greater a b e = sym (is_eq-slice_cmp a b) ∙ ap is_eq e

-- ---- texts that begin with one text

differ : (a b : ℕ) → a < b → nat_eq b a ≡ false
differ a b less = grind (arith, nat_tests)

differ_above : (a b : ℕ) → b < a → nat_eq b a ≡ false
differ_above a b less = grind (arith, nat_tests)

same : (a : ℕ) → nat_eq a a ≡ true
same a = grind (arith, nat_tests)

pub none_below : (x r : List ℕ) → order x r ≡ Less → begins_with x r ≡ false
none_below [] [] e = absurd (cc)
none_below [] (b ∷ bs) e = refl
none_below (a ∷ us) [] e = absurd (cc)
none_below (a ∷ us) (b ∷ bs) e = go (nat_cmp a b) refl e (none_below us bs)
  where
    go : (q : Ordering) → nat_cmp a b ≡ q → ordering_then q (order us bs) ≡ Less → (order us bs ≡ Less → begins_with us bs ≡ false) → (nat_eq b a && begins_with us bs) ≡ false
    go Less c e more = rw (differ a b (below a b c)) refl
    go Equal c e more = rw (level a b c, same b) (more e)
    go Greater c e more = absurd (cc)

-- behind one that comes behind a text without beginning with it none begins with it
pub none_behind : (x y r : List ℕ) → order x r ≡ Greater → begins_with x r ≡ false → order x y ≡ Less → begins_with y r ≡ false
none_behind x y [] e un f = absurd (cc)
none_behind [] y (b ∷ bs) e un f = absurd (cc)
none_behind (a ∷ us) [] (b ∷ bs) e un f = refl
none_behind (a ∷ us) (d ∷ ds) (b ∷ bs) e un f = go (nat_cmp a b) (nat_cmp a d) refl refl e un f (none_behind us ds bs)
  where
    go : (p q : Ordering) → nat_cmp a b ≡ p → nat_cmp a d ≡ q → ordering_then p (order us bs) ≡ Greater → (nat_eq b a && begins_with us bs) ≡ false
        → ordering_then q (order us ds) ≡ Less
        → (order us bs ≡ Greater → begins_with us bs ≡ false → order us ds ≡ Less → begins_with ds bs ≡ false) → (nat_eq b d && begins_with ds bs) ≡ false
    go Less q c c' e un f more = absurd (cc)
    go Equal Less c c' e un f more =
        let first : a ≡ b = level a b c in
        let second : a < d = below a d c' in
        let up : b < d = omega arith in
        let other : nat_eq b d ≡ false = grind (arith, nat_tests) in rw other refl
    go Equal Equal c c' e un f more =
        let first : a ≡ b = level a b c in
        let second : a ≡ d = level a d c' in
        let one : nat_eq b a ≡ true = grind (arith, nat_tests) in
        let two : nat_eq b d ≡ true = grind (arith, nat_tests) in
        let rest : begins_with us bs ≡ false = sym (ap (λ t. t && begins_with us bs) one) ∙ un in
        rw two (more e rest f)
    go Equal Greater c c' e un f more = absurd (cc)
    go Greater Less c c' e un f more =
        let first : b < a = above a b c in
        let second : a < d = below a d c' in
        let up : b < d = omega arith in
        let other : nat_eq b d ≡ false = grind (arith, nat_tests) in rw other refl
    go Greater Equal c c' e un f more =
        let first : b < a = above a b c in
        let second : a ≡ d = level a d c' in
        let up : b < d = omega arith in
        let other : nat_eq b d ≡ false = grind (arith, nat_tests) in rw other refl
    go Greater Greater c c' e un f more = absurd (cc)
