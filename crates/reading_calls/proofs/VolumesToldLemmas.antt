-- Calls that tell of volumes.
use Rattle.std.proofs.Common.{◌≡◌, ℕ, ◌+◌, ◌≤◌, Bool, true, false, List, [], ◌∷◌, ◌++◌, ap, sym, ◌∙◌, subst, arith, filter, map, take, if◌then◌else◌, All}
use Rattle.std.specs.List.{AllByRecursion}
use Rattle.std.proofs.lemmas.List.{map-append}
use Rattle.std.proofs.lemmas.List.Elements.{All-cons, All-nil, filter-append}
use Rattle.engine_text.specs.declared.listed.ListedVolume.{ListedVolume}
use Rattle.engine_text.specs.declared.volume.Volume.{Volume}
use Rattle.machine_model.specs.Consistency.{IsConsistent}
use Rattle.machine_model.specs.History.{greatest_moment}
use Rattle.machine_model.specs.State.{State}
use Rattle.machine_model.specs.Views.{listed_volume}

until_by : (v : Volume) (b : Bool) (rest : List Volume) → v.created ≤ 9000000000000 → All (λ (w : ListedVolume). w.created ≤ 9000000000000) (map listed_volume rest)
    → All (λ (w : ListedVolume). w.created ≤ 9000000000000) (map listed_volume (if b then v ∷ rest else rest))
until_by v true rest low all = All-cons (λ (w : ListedVolume). w.created ≤ 9000000000000) (listed_volume v) (map listed_volume rest) low all
until_by v false rest low all = all

listed_until : (clock : ℕ) (p : Volume → Bool) (vs : List Volume) → clock ≤ greatest_moment → AllByRecursion (λ (v : Volume). v.created ≤ clock) vs
    → All (λ (w : ListedVolume). w.created ≤ 9000000000000) (map listed_volume (filter p vs))
listed_until clock p [] low all = All-nil _
listed_until clock p (v ∷ vs) low all = until_by v (p v) (filter p vs) (omega (arith, low, all.0)) (listed_until clock p vs low all.1)

pub all_until : (s : State) (p : Volume → Bool) (items : List ListedVolume) → IsConsistent s → items ≡ map listed_volume (filter p s.volumes) → All (λ (w : ListedVolume). w.created ≤ 9000000000000) items
all_until s p items k is = subst (λ l. All (λ (w : ListedVolume). w.created ≤ 9000000000000) l) (sym is) (listed_until s.clock p s.volumes k.limits.clock k.ranges.volumes)

pub further : (p : Volume → Bool) (vs : List Volume) (i : ℕ) (v : Volume) → take (i + 1) vs ≡ take i vs ++ v ∷ []
    → map listed_volume (filter p (take i vs)) ++ map listed_volume (filter p (v ∷ [])) ≡ map listed_volume (filter p (take (i + 1) vs))
further p vs i v more =
    sym (ap (λ l. map listed_volume (filter p l)) more
    ∙ (ap (map listed_volume) (filter-append p (take i vs) (v ∷ [])) ∙ map-append listed_volume (filter p (take i vs)) (filter p (v ∷ []))))
