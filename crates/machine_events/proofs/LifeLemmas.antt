-- A container's life is changed at its place; a record comes into its log.
use Rattle.std.proofs.Common.{◌≡◌, ℕ, zero, suc, ◌<◌, ◌==◌, Bool, true, false, List, [], ◌∷◌, ◌++◌, Option, Some, None, refl, ap, sym, ◌∙◌, subst, find, length, get_or, position, if◌then◌else◌, inl, inr, arith}
use Rattle.std.specs.Prelude.{slice_get}
use Rattle.std.specs.List.{AllByRecursion}
use Rattle.std.proofs.Math.ListN.{set}
use Rattle.std.proofs.lemmas.List.Quantifiers.{position-Some}
use Rattle.std.proofs.lemmas.Option.{slice_get_cases}
use Rattle.engine_text.specs.declared.container.Container.{Container}
use Rattle.engine_text.specs.declared.container.Life.{Life}
use Rattle.engine_text.specs.declared.log.LogRecord.{LogRecord}
use Rattle.engine_text.specs.declared.script.Stream.{Stream}
use Rattle.engine_text.proofs.PlaceLemmas.{update_at, update_nowhere}
use Rattle.container_table.specs.Blank.{nothing_held}
use Rattle.container_table.specs.LifeChanges.{with_change, with_launch}
use Rattle.container_table.specs.Lists.{at_place, update_first}
use Rattle.container_table.specs.Logs.{container_in, recorded}
use Rattle.container_table.specs.declared.life_change.LifeChange.{LifeChange}
use Rattle.container_table.proofs.SearchLemmas.{all_at}
use Rattle.machine_model.specs.Effects.Meet.{logged, record_of}
use Rattle.machine_events.specs.ChangedLives.{launched_at, changed_life, renewed, with_life}

-- ---- at its place

set_place : {A : Type 0} (f : A → A) (xs : List A) (i : ℕ) (d : A) → i < length xs → at_place f i xs ≡ set xs i (f (get_or xs i d))
set_place f [] i d less = absurd (omega arith)
set_place f (x ∷ xs) zero d less = refl
set_place f (x ∷ xs) (suc i) d less = ap (λ l. x ∷ l) (set_place f xs i d (omega arith))

no_container : Container
no_container = container_in nothing_held

pub place_bound : (n : ℕ) (cs : List Container) (i : ℕ) → position (λ c. c.number == n) cs ≡ Some i → i < length cs
place_bound n cs i e = (position-Some (λ (c : Container). c.number == n) cs i no_container e).0

-- what is changed at its place is what its number names
by_place : (n : ℕ) (f : Container → Container) (cs : List Container) (i : ℕ) → position (λ c. c.number == n) cs ≡ Some i → at_place f i cs ≡ update_first (λ c. c.number == n) f cs
by_place n f cs i e = set_place f cs i no_container (place_bound n cs i e) ∙ update_at (λ (c : Container). c.number == n) f cs i no_container e

pub changed_here : (n : ℕ) (change : LifeChange) (cs : List Container) (i : ℕ) → position (λ c. c.number == n) cs ≡ Some i → at_place (with_change change) i cs ≡ with_life n (changed_life change) cs
changed_here n change cs i e = by_place n (with_change change) cs i e

pub launched_here : (n pid moment : ℕ) (cs : List Container) (i : ℕ) → position (λ c. c.number == n) cs ≡ Some i → at_place (with_launch pid moment) i cs ≡ with_life n (launched_at pid moment) cs
launched_here n pid moment cs i e = by_place n (with_launch pid moment) cs i e

pub changed_nowhere : (n : ℕ) (f : Life → Life) (cs : List Container) → position (λ c. c.number == n) cs ≡ None → cs ≡ with_life n f cs
changed_nowhere n f cs e = sym (update_nowhere (λ (c : Container). c.number == n) (renewed f) cs e)

-- what holds of each holds of the one at a place
pub all_got : (P : Container → Type 0) (cs : List Container) (i : ℕ) (c : Container) → AllByRecursion P cs → slice_get cs i ≡ Some c → P c
all_got P cs i c all e = elim (slice_get_cases cs i).1 [
  | inl q ↦ let same : Some q.0 ≡ Some c = sym q.2 ∙ e in let is : q.0 ≡ c = cc in subst P (q.3 ∙ is) (all_at P cs i q.0 all q.1)
  | inr q ↦ let none : None ≡ Some c = sym q.1 ∙ e in absurd (cc)
]

none_cons : {A : Type 0} (b : Bool) (x : A) (r : Option A) → (if b then Some x else r) ≡ None → (b ≡ false) × (r ≡ None)
none_cons true x r e = absurd (cc)
none_cons false x r e = (refl, e)

-- where no container has that number nothing is changed
pub untouched : (n : ℕ) (f : Life → Life) (cs : List Container) → find (λ c. c.number == n) cs ≡ None → cs ≡ with_life n f cs
untouched n f [] e = refl
untouched n f (c ∷ cs) e =
    let q = none_cons (c.number == n) c (find (λ d. d.number == n) cs) e in
    ap (λ l. c ∷ l) (untouched n f cs q.1) ∙ sym (ap (λ b. if b then renewed f c ∷ cs else c ∷ with_life n f cs) q.0)

-- a record of the run of the container with that number
pub recorded_is : (n : ℕ) (r : LogRecord) (stream : Stream) (payload : List ℕ) (moment : ℕ) (c : Container) (cs : List Container) → find (λ d. d.number == n) cs ≡ Some c
    → r ≡ record_of c.life.starts stream payload moment → recorded n r cs ≡ with_life n (logged stream payload moment) cs
recorded_is n r stream payload moment c [] found e = refl
recorded_is n r stream payload moment c (d ∷ ds) found e = go (d.number == n) found (λ f. recorded_is n r stream payload moment c ds f e)
  where
    added : Container → LogRecord → Container
    added x y = record x { life = record x.life { log = x.life.log ++ y ∷ [] } }

    go : (b : Bool) → (if b then Some d else find (λ x. x.number == n) ds) ≡ Some c
        → (find (λ x. x.number == n) ds ≡ Some c → recorded n r ds ≡ with_life n (logged stream payload moment) ds)
        → (if b then added d r ∷ ds else d ∷ recorded n r ds) ≡ (if b then renewed (logged stream payload moment) d ∷ ds else d ∷ with_life n (logged stream payload moment) ds)
    go true f rest =
        let same : d ≡ c = cc in
        ap (λ y. added d y ∷ ds) (e ∙ ap (λ (x : Container). record_of x.life.starts stream payload moment) (sym same))
    go false f rest = ap (λ l. d ∷ l) (rest f)
