-- own: references mean the same uses where a volume is put in or taken away.
use Rattle.std.proofs.Common.{◌≡◌, ℕ, ◌+◌, ◌-◌, ◌<◌, ◌≤◌, zero, suc, Bool, true, false, not, ◌||◌, List, [], ◌∷◌, ◌++◌, length, get_or, map, filter, position, take, drop, set, eqb, nat_le, nat_lt, if◌then◌else◌, All, Option, Some, None, Result, is_ok, slice_get, ap, ◌∙◌, sym, refl, subst, inl, inr, arith}
use Rattle.std.specs.List.{list_any, insert, remove}
use Rattle.std.specs.List.Sorted.{IsStrictlySortedBy}
use Rattle.std.specs.Ordering.{is_eq, ordering_reverse}
use Rattle.std.specs.declared.cmp.Ordering.{Ordering}
use Rattle.std.specs.declared.cmp.Ordering.TheVariants.{Less, Equal, Greater}
use Rattle.std.proofs.lemmas.Bool.{cases_lt}
use Rattle.std.proofs.lemmas.Bool.Decides.{nat_tests}
use Rattle.std.proofs.lemmas.Cmp.{nat_list_cmp_total}
use Rattle.std.proofs.lemmas.Map.Keys.{Less-from_sorted}
use Rattle.std.proofs.lemmas.Slice.Eq.{bytes_eq-Decides}
use Rattle.std.proofs.lemmas.Option.{slice_get-get_or}
use Rattle.std.proofs.lemmas.List.Edits.{length-insert, length-remove, map_over_more}
use Rattle.std.proofs.lemmas.List.Elements.{All-head, All-tail, All-cons, All-nil}
use Rattle.std.proofs.lemmas.List.Quantifiers.{position-Some}
use Rattle.std.proofs.lemmas.List.{get_or_default}
use Rattle.engine_text.proofs.PlaceLemmas.{nowhere}
use Rattle.engine_text.specs.Texts.{same_bytes}
use Rattle.engine_text.specs.declared.volume.Volume.{Volume}
use Rattle.volume_table.specs.declared.references.Reference.{Reference}
use Rattle.volume_table.specs.Volumes.{by_name, is_named, is_in_use, released}
use Rattle.volume_table.specs.VolumesInside.{name_of, use_in, IsWithin, moved_up, moved_down}
use Rattle.volume_table.proofs.OrderLemmas.{same_name}

-- ---- a volume is put in

get_behind : (v : Volume) (vs : List Volume) (i k : ℕ) → i ≤ length vs → i ≤ k → slice_get (insert vs i v) (suc k) ≡ slice_get vs k
get_behind v vs zero k w h = refl
get_behind v [] (suc i) k w h = absurd (omega arith)
get_behind v (u ∷ us) (suc i) zero w h = absurd (omega arith)
get_behind v (u ∷ us) (suc i) (suc k) w h = get_behind v us i k (omega arith) (omega arith)

get_before : (v : Volume) (vs : List Volume) (i k : ℕ) → i ≤ length vs → k < i → slice_get (insert vs i v) k ≡ slice_get vs k
get_before v vs zero k w h = absurd (omega arith)
get_before v [] (suc i) k w h = absurd (omega arith)
get_before v (u ∷ us) (suc i) zero w h = refl
get_before v (u ∷ us) (suc i) (suc k) w h = get_before v us i k (omega arith) (omega arith)

up_by : (v : Volume) (vs : List Volume) (i k : ℕ) (b : Bool) → nat_le i k ≡ b → i ≤ length vs → slice_get (insert vs i v) (if b then k + 1 else k) ≡ slice_get vs k
up_by v vs i k true e w =
    let h : i ≤ k = grind (arith, nat_tests, e) in
    subst (λ n. slice_get (insert vs i v) n ≡ slice_get vs k) {x = suc k} (omega arith) (get_behind v vs i k w h)
up_by v vs i k false e w = get_before v vs i k w (grind (arith, nat_tests, e))

up_use : (v : Volume) (vs : List Volume) (i : ℕ) (r : Reference) → i ≤ length vs → use_in vs r ≡ use_in (insert vs i v) (moved_up i r)
up_use v vs i r w = ap (λ (o : Option Volume). record { volume = name_of o; container = r.container }) (sym (up_by v vs i r.place (nat_le i r.place) refl w))

pub up_uses : (v : Volume) (vs : List Volume) (i : ℕ) (rs : List Reference) → i ≤ length vs → map (use_in vs) rs ≡ map (use_in (insert vs i v)) (map (moved_up i) rs)
up_uses v vs i [] w = refl
up_uses v vs i (r ∷ rs) w = (λ j. up_use v vs i r w j ∷ up_uses v vs i rs w j)

up_place : (n i k : ℕ) (b : Bool) → k < n → (if b then k + 1 else k) < n + 1
up_place n i k true h = omega arith
up_place n i k false h = omega arith

up_one : (v : Volume) (vs : List Volume) (i : ℕ) (r : Reference) → i ≤ length vs → IsWithin vs r → IsWithin (insert vs i v) (moved_up i r)
up_one v vs i r w h = rw (length-insert vs i v w) (up_place (length vs) i r.place (nat_le i r.place) h)

pub up_within : (v : Volume) (vs : List Volume) (i : ℕ) (rs : List Reference) → i ≤ length vs → All (IsWithin vs) rs → All (IsWithin (insert vs i v)) (map (moved_up i) rs)
up_within v vs i [] w all = All-nil _
up_within v vs i (r ∷ rs) w all =
    All-cons (IsWithin (insert vs i v)) (moved_up i r) (map (moved_up i) rs)
    (up_one v vs i r w (All-head (IsWithin vs) r rs all))
    (up_within v vs i rs w (All-tail (IsWithin vs) r rs all))

-- ---- a volume is taken away

left_behind : (vs : List Volume) (i k : ℕ) → i < length vs → i ≤ k → slice_get (remove vs i) k ≡ slice_get vs (suc k)
left_behind [] i k w h = absurd (omega arith)
left_behind (u ∷ us) zero k w h = refl
left_behind (u ∷ us) (suc i) zero w h = absurd (omega arith)
left_behind (u ∷ us) (suc i) (suc k) w h = left_behind us i k (omega arith) (omega arith)

left_before : (vs : List Volume) (i k : ℕ) → i < length vs → k < i → slice_get (remove vs i) k ≡ slice_get vs k
left_before [] i k w h = absurd (omega arith)
left_before (u ∷ us) zero k w h = absurd (omega arith)
left_before (u ∷ us) (suc i) zero w h = refl
left_before (u ∷ us) (suc i) (suc k) w h = left_before us i k (omega arith) (omega arith)

down_by : (vs : List Volume) (i k : ℕ) (b : Bool) → nat_lt i k ≡ b → eqb k i ≡ false → i < length vs → slice_get (remove vs i) (if b then k - 1 else k) ≡ slice_get vs k
down_by vs i k true e n w =
    let h : i < k = grind (arith, nat_tests, e) in
    subst (λ m. slice_get (remove vs i) (k - 1) ≡ slice_get vs m) {x = suc (k - 1)} (omega arith) (left_behind vs i (k - 1) w (omega arith))
down_by vs i k false e n w = left_before vs i k w (grind (arith, nat_tests, e, n))

down_use : (vs : List Volume) (i : ℕ) (r : Reference) → eqb r.place i ≡ false → i < length vs → use_in vs r ≡ use_in (remove vs i) (moved_down i r)
down_use vs i r n w = ap (λ (o : Option Volume). record { volume = name_of o; container = r.container }) (sym (down_by vs i r.place (nat_lt i r.place) refl n w))

neither : (a b : Bool) → (a || b) ≡ false → (a ≡ false) × (b ≡ false)
neither true b e = absurd (cc)
neither false b e = (refl, e)

pub down_uses : (vs : List Volume) (i : ℕ) (rs : List Reference) → list_any (λ (r : Reference). eqb r.place i) rs ≡ false → i < length vs
    → map (use_in vs) rs ≡ map (use_in (remove vs i)) (map (moved_down i) rs)
down_uses vs i [] none w = refl
down_uses vs i (r ∷ rs) none w =
    let q = neither (eqb r.place i) (list_any (λ (r : Reference). eqb r.place i) rs) none in
    (λ j. down_use vs i r q.0 w j ∷ down_uses vs i rs q.1 w j)

down_place : (n i k : ℕ) (b : Bool) → nat_lt i k ≡ b → eqb k i ≡ false → k < n → i < n → (if b then k - 1 else k) + 1 < n
down_place n i k true e d h w = grind (arith, nat_tests, e)
down_place n i k false e d h w = grind (arith, nat_tests, e, d)

down_one : (vs : List Volume) (i : ℕ) (r : Reference) → eqb r.place i ≡ false → i < length vs → IsWithin vs r → IsWithin (remove vs i) (moved_down i r)
down_one vs i r n w h =
    let shorter = length-remove vs i w in
    let low : (moved_down i r).place + 1 < length vs = down_place (length vs) i r.place (nat_lt i r.place) refl n h w in
    omega (arith, low, shorter)

pub down_within : (vs : List Volume) (i : ℕ) (rs : List Reference) → list_any (λ (r : Reference). eqb r.place i) rs ≡ false → i < length vs
    → All (IsWithin vs) rs → All (IsWithin (remove vs i)) (map (moved_down i) rs)
down_within vs i [] none w all = All-nil _
down_within vs i (r ∷ rs) none w all =
    let q = neither (eqb r.place i) (list_any (λ (r : Reference). eqb r.place i) rs) none in
    All-cons (IsWithin (remove vs i)) (moved_down i r) (map (moved_down i) rs)
    (down_one vs i r q.0 w (All-head (IsWithin vs) r rs all))
    (down_within vs i rs q.1 w (All-tail (IsWithin vs) r rs all))

-- ---- whether a volume is in use

module _ (name : List ℕ) (vs : List Volume) (sorted : IsStrictlySortedBy by_name vs) (i : ℕ) (at : position (is_named name) vs ≡ Some i) where
  there : (d : Volume) → (i < length vs) × (is_named name (get_or vs i d) ≡ true) × ((k : ℕ) → k < i → is_named name (get_or vs k d) ≡ false)
  there d = position-Some (is_named name) vs i d at

  equal : (o : Ordering) → is_eq o ≡ true → o ≡ Equal
  equal Less e = absurd (cc)
  equal Equal e = refl
  equal Greater e = absurd (cc)

  behind : (k : ℕ) (d : Volume) → i < k → k < length vs → is_named name (get_or vs k d) ≡ false
  behind k d h w =
      let here = equal _ (sym (same_name (get_or vs i d).name name) ∙ (there d).1) in
      let above = sym (nat_list_cmp_total.congr (get_or vs i d).name name (get_or vs k d).name here) ∙ Less-from_sorted by_name vs i k d sorted h w in
      same_name (get_or vs k d).name name ∙ ap is_eq (nat_list_cmp_total.antisymm (get_or vs k d).name name ∙ ap ordering_reverse above)

  at_place : (k : ℕ) (d : Volume) (b : Bool) → eqb k i ≡ b → k < length vs → is_named name (get_or vs k d) ≡ b
  at_place k d true e w = let same : k ≡ i = grind (arith, nat_tests, e) in rw same (there d).1
  at_place k d false e w = elim (cases_lt k i) [
    | inl low ↦ (there d).2 k low
    | inr high ↦ behind k d (grind (arith, nat_tests, e)) w
  ]

  refers : (r : Reference) → IsWithin vs r → same_bytes (use_in vs r).volume name ≡ eqb r.place i
  refers r w = by_list vs refl
    where
      by_list : (us : List Volume) → vs ≡ us → same_bytes (use_in vs r).volume name ≡ eqb r.place i
      by_list [] e = absurd (omega (arith, ap length e))
      by_list (u ∷ us) e = ap (λ (o : Option Volume). same_bytes (name_of o) name) (slice_get-get_or vs r.place u w) ∙ at_place r.place u (eqb r.place i) refl w

  -- It is in use exactly where a reference has its place.
  pub in_use : (rs : List Reference) → All (IsWithin vs) rs → is_in_use name (map (use_in vs) rs) ≡ list_any (λ (r : Reference). eqb r.place i) rs
  in_use [] all = refl
  in_use (r ∷ rs) all = (λ j. refers r (All-head (IsWithin vs) r rs all) j || in_use rs (All-tail (IsWithin vs) r rs all) j)

-- ---- a volume that doesn't stand

no_name : (name : List ℕ) (vs : List Volume) (k : ℕ) → ((d : Volume) → k < length vs → is_named name (get_or vs k d) ≡ false) → k < length vs → same_bytes (name_of (slice_get vs k)) name ≡ false
no_name name [] k none w = absurd (omega (arith, w))
no_name name (v ∷ vs) k none w = ap (λ (o : Option Volume). same_bytes (name_of o) name) (slice_get-get_or (v ∷ vs) k v w) ∙ none v w

-- Nothing refers to it.
pub unused : (name : List ℕ) (vs : List Volume) (rs : List Reference) → position (is_named name) vs ≡ None → All (IsWithin vs) rs → is_in_use name (map (use_in vs) rs) ≡ false
unused name vs [] none all = refl
unused name vs (r ∷ rs) none all =
    let here = no_name name vs r.place (λ d w. (nowhere (is_named name) vs none).at r.place d w) (All-head (IsWithin vs) r rs all) in
    ap (λ b. b || is_in_use name (map (use_in vs) rs)) here ∙ unused name vs rs none (All-tail (IsWithin vs) r rs all)

-- ---- references of a container

release_by : (vs : List Volume) (c : ℕ) (r : Reference) (rs : List Reference) (b : Bool) → map (use_in vs) (filter (λ (r : Reference). not (eqb r.container c)) rs) ≡ released c (map (use_in vs) rs)
    → map (use_in vs) (if b then r ∷ filter (λ (r : Reference). not (eqb r.container c)) rs else filter (λ (r : Reference). not (eqb r.container c)) rs) ≡ (if b then use_in vs r ∷ released c (map (use_in vs) rs) else released c (map (use_in vs) rs))
release_by vs c r rs true e = ap (λ us. use_in vs r ∷ us) e
release_by vs c r rs false e = e

-- The uses of the others are those that their references mean.
pub uses_left : (vs : List Volume) (c : ℕ) (rs : List Reference) → map (use_in vs) (filter (λ (r : Reference). not (eqb r.container c)) rs) ≡ released c (map (use_in vs) rs)
uses_left vs c [] = refl
uses_left vs c (r ∷ rs) = release_by vs c r rs (not (eqb r.container c)) (uses_left vs c rs)

-- One more reference.
pub uses_push : (vs : List Volume) (r : Reference) (rs : List Reference) → map (use_in vs) (rs ++ r ∷ []) ≡ map (use_in vs) rs ++ use_in vs r ∷ []
uses_push vs r [] = refl
uses_push vs r (q ∷ rs) = ap (λ us. use_in vs q ∷ us) (uses_push vs r rs)

-- The name at a volume's place.
pub name_there : (name : List ℕ) (vs : List Volume) (i : ℕ) → position (is_named name) vs ≡ Some i → name_of (slice_get vs i) ≡ name
name_there name [] i at = absurd (omega (arith, (position-Some (is_named name) [] i (record { name = []; labels = []; created = 0 }) at).0))
name_there name (u ∷ us) i at =
    let q = position-Some (is_named name) (u ∷ us) i u at in
    ap name_of (slice_get-get_or (u ∷ us) i u q.0) ∙ (bytes_eq-Decides (get_or (u ∷ us) i u).name name).0 q.1

-- One more reference is moved.
pub moved_more : (f : Reference → Reference) (xs ys : List Reference) (i : ℕ) (d y : Reference) → i < length xs → length ys ≡ length xs
    → ys ≡ map f (take i xs) ++ drop i xs → y ≡ f (get_or ys i d) → set ys i y ≡ map f (take (i + 1) xs) ++ drop (i + 1) xs
moved_more f xs ys i d y w l e is =
    ap (λ z. set ys i z) is ∙ map_over_more f xs ys i (get_or ys i d) w e (get_or_default ys i d (get_or ys i d) (omega arith))

-- Where the insertion was not refused, the volume stands there.
pub put_in : {T E : Type 0} (r : Result T E) (vs new : List Volume) (i : ℕ) (v : Volume) → new ≡ (if is_ok r then insert vs i v else vs) → is_ok r ≡ true → new ≡ insert vs i v
put_in r vs new i v e ok = e ∙ ap (λ (b : Bool). if b then insert vs i v else vs) ok
