-- own: volumes stay in byte order of names where one is put in its place or taken away.
use Rattle.std.proofs.Common.{◌≡◌, ℕ, ◌<◌, zero, suc, List, [], ◌∷◌, length, get_or, ap, ◌∙◌, refl, Result, Ok, Err, IfErr, arith}
use Rattle.std.specs.List.{AllByRecursion, insert, remove}
use Rattle.std.specs.List.Sorted.{IsStrictlySortedBy, IsBinarySearchResult, IsSearchInRange, IsPartitionPoint}
use Rattle.std.specs.Cmp.Lexicographic.{slice_cmp, texts_ties}
use Rattle.std.specs.Ordering.{nat_cmp, is_eq, ordering_reverse}
use Rattle.std.specs.declared.cmp.Ordering.{Ordering}
use Rattle.std.specs.declared.cmp.Ordering.TheVariants.{Less, Greater}
use Rattle.std.proofs.lemmas.Cmp.{nat_list_cmp_total}
use Rattle.engine_text.specs.Texts.{same_bytes}
use Rattle.engine_text.specs.declared.volume.Volume.{Volume}
use Rattle.engine_text.proofs.PlaceLemmas.{compared}
use Rattle.volume_table.specs.Volumes.{by_name, placed}
use Rattle.volume_table.specs.VolumesInside.{IsGapFor}

-- Two names are equal where their order says so.
pub same_name : (a b : List ℕ) → same_bytes a b ≡ is_eq (slice_cmp nat_cmp a b)
same_name = texts_ties

turned : (v w : Volume) (o : Ordering) → by_name w v ≡ o → by_name v w ≡ ordering_reverse o
turned v w o e = nat_list_cmp_total.antisymm v.name w.name ∙ ap ordering_reverse e

rest_gap : (name : List ℕ) (w : Volume) (ws : List Volume) (i : ℕ) → IsGapFor name (w ∷ ws) (suc i) → IsGapFor name ws i
rest_gap name w ws i p = record {
  within = omega (arith, p.within);
  before = λ k d b. p.before (suc k) d (omega arith);
  behind = λ k d b c. p.behind (suc k) d (omega arith) (omega arith);
}

-- In such a place it is put in byte order.
pub gives : (v : Volume) (vs : List Volume) (i : ℕ) → IsGapFor v.name vs i → insert vs i v ≡ placed v vs
gives v [] zero p = refl
gives v [] (suc i) p = absurd (omega (arith, p.within))
gives v (w ∷ ws) zero p = rw (turned v w Greater (p.behind 0 w (omega arith) (omega arith))) refl
gives v (w ∷ ws) (suc i) p = rw (turned v w Less (p.before 0 w (omega arith))) (ap (λ us. w ∷ us) (gives v ws i (rest_gap v.name w ws i p)))

all_by_place : (P : Volume → Type 0) (vs : List Volume) → ((k : ℕ) (d : Volume) → k < length vs → P (get_or vs k d)) → AllByRecursion P vs
all_by_place P [] at = tt
all_by_place P (v ∷ vs) at = (at 0 v (omega arith), all_by_place P vs (λ k d b. at (suc k) d (omega arith)))

all_insert : (P : Volume → Type 0) (v : Volume) (vs : List Volume) (i : ℕ) → P v → AllByRecursion P vs → AllByRecursion P (insert vs i v)
all_insert P v vs zero one all = (one, all)
all_insert P v [] (suc i) one all = (one, tt)
all_insert P v (w ∷ ws) (suc i) one all = (all.0, all_insert P v ws i one all.1)

pub sorted_insert : (v : Volume) (vs : List Volume) (i : ℕ) → IsGapFor v.name vs i → IsStrictlySortedBy by_name vs → IsStrictlySortedBy by_name (insert vs i v)
unfolding IsStrictlySortedBy
sorted_insert v vs zero p sorted = (all_by_place (λ w. by_name v w ≡ Less) vs (λ k d b. turned v (get_or vs k d) Greater (p.behind k d (omega arith) b)), sorted)
sorted_insert v [] (suc i) p sorted = absurd (omega (arith, p.within))
sorted_insert v (w ∷ ws) (suc i) p sorted =
    (all_insert (λ u. by_name w u ≡ Less) v ws i (p.before 0 w (omega arith)) sorted.0, sorted_insert v ws i (rest_gap v.name w ws i p) sorted.1)

all_remove : (P : Volume → Type 0) (vs : List Volume) (i : ℕ) → AllByRecursion P vs → AllByRecursion P (remove vs i)
all_remove P [] zero all = tt
all_remove P [] (suc i) all = tt
all_remove P (v ∷ vs) zero all = all.1
all_remove P (v ∷ vs) (suc i) all = (all.0, all_remove P vs i all.1)

pub sorted_remove : (vs : List Volume) (i : ℕ) → IsStrictlySortedBy by_name vs → IsStrictlySortedBy by_name (remove vs i)
unfolding IsStrictlySortedBy
sorted_remove [] zero sorted = tt
sorted_remove [] (suc i) sorted = tt
sorted_remove (v ∷ vs) zero sorted = sorted.1
sorted_remove (v ∷ vs) (suc i) sorted = (all_remove (λ w. by_name v w ≡ Less) vs i sorted.0, sorted_remove vs i sorted.1)

pub sorted_none : (vs : List Volume) → vs ≡ [] → IsStrictlySortedBy by_name vs
unfolding IsStrictlySortedBy
sorted_none vs e = rw e tt

parts_of : (name : List ℕ) (vs : List Volume) → IsStrictlySortedBy by_name vs → (i : ℕ)
    → IsBinarySearchResult (λ (v : Volume). slice_cmp nat_cmp v.name name) vs (Err i)
    → IsPartitionPoint (λ (v : Volume). slice_cmp nat_cmp v.name name ≡ Less) (λ (v : Volume). slice_cmp nat_cmp v.name name ≡ Greater) vs i
parts_of name vs sorted i parted = parted (compared (slice_cmp nat_cmp) nat_list_cmp_total (λ (w : Volume). w.name) vs sorted name)

-- Where halving ends without the name, a volume of that name has its place.
pub free : (name : List ℕ) (vs : List Volume) → IsStrictlySortedBy by_name vs → (r : Result ℕ ℕ) → IsSearchInRange r (length vs)
    → IsBinarySearchResult (λ (v : Volume). slice_cmp nat_cmp v.name name) vs r → IfErr r (IsGapFor name vs)
free name vs sorted (Ok i) within found = tt
free name vs sorted (Err i) within parted = record {
  within = within;
  before = λ k d b. (parts_of name vs sorted i parted).0 k d (omega arith) b;
  behind = λ k d b c. (parts_of name vs sorted i parted).1 k d b c;
}
