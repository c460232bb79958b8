-- A change of a life leaves its log apart, and one by place is one by number.
use Rattle.std.proofs.Common.{◌≡◌, ℕ, suc, zero, ◌<◌, List, [], ◌∷◌, length, get_or, position, Some, None, refl, ◌∙◌, ap, arith}
use Rattle.std.specs.Prelude.{◌==◌, true, false, slice_get}
use Rattle.std.proofs.lemmas.Bool.Decides.{nat_tests}
use Rattle.std.specs.Ordering.{nat_cmp}
use Rattle.std.specs.declared.cmp.Ordering.TheVariants.{Less, Greater}
use Rattle.engine_text.specs.declared.container.Container.{Container}
use Rattle.engine_text.specs.declared.container.Life.{Life}
use Rattle.engine_text.specs.declared.log.LogRecord.{LogRecord}
use Rattle.engine_text.proofs.PlaceLemmas.{no_position}
use Rattle.container_table.specs.Lists.{at_place, update_first}
use Rattle.container_table.specs.LifeChanges.{changed}
use Rattle.container_table.specs.Order.{IsInOrder}
use Rattle.container_table.specs.Search.{HoldsOf, Parts}
use Rattle.std.proofs.lemmas.List.{length-map}
use Rattle.std.proofs.lemmas.Option.{slice_get-get_or}
use Rattle.std.proofs.Math.ListN.{get_or-map}
use Rattle.std.specs.declared.boxed.Box.{Box}
use Rattle.container_table.specs.Logs.{container_in}
use Rattle.container_table.specs.declared.held.Held.{Held}
use Rattle.container_table.specs.Held.{contents, is_numbered_before}
use Rattle.container_table.specs.declared.life_change.LifeChange.{LifeChange}
use Rattle.container_table.proofs.SearchLemmas.{all_at}
use Rattle.container_table.proofs.HeldLemmas.{numbers_alone, no_number}
use Rattle.container_table.proofs.BoxLemmas.{place_is}

pub log_apart : (change : LifeChange) (l : Life) (log : List LogRecord) → record (changed change l) { log = log } ≡ changed change (record l { log = log })
log_apart LifeChange.ByHand l log = refl
log_apart LifeChange.Running l log = refl
log_apart LifeChange.Paused l log = refl
log_apart LifeChange.Exited l log = refl
log_apart LifeChange.Cancelled l log = refl
log_apart LifeChange.Died l log = refl
log_apart LifeChange.Removing l log = refl
log_apart LifeChange.Stopping l log = refl
log_apart LifeChange.ToRestart l log = refl
log_apart LifeChange.Afresh l log = refl
log_apart LifeChange.NoGoal l log = refl
log_apart LifeChange.ToRemove l log = refl
log_apart (LifeChange.Restarted count) l log = refl
log_apart (LifeChange.Waiting delay) l log = refl
log_apart (LifeChange.Ended code moment) l log = refl
log_apart (LifeChange.Governed policy) l log = refl

own_number : (c : Container) → (c.number == c.number) ≡ true
own_number c = grind (arith, nat_tests)

lower_number : (c d : Container) → is_numbered_before c d ≡ true → (c.number == d.number) ≡ false
lower_number c d e = grind (arith, nat_tests, e)

-- what is changed at a place is changed of the number that stands there
pub by_number : (f : Container → Container) (cs : List Container) (i : ℕ) (d : Container) → IsInOrder is_numbered_before cs → i < length cs
    → at_place f i cs ≡ update_first (λ c. c.number == (get_or cs i d).number) f cs
by_number f [] i d h less = absurd (omega arith)
by_number f (c ∷ cs) zero d h less = rw (own_number c) refl
by_number f (c ∷ cs) (suc i) d h less =
    rw (lower_number c (get_or cs i d) (all_at (λ y. is_numbered_before c y ≡ true) cs i d h.0 (omega arith))) (ap (λ l. c ∷ l) (by_number f cs i d h.1 (omega arith)))

-- where a number stands, and where none does
pub number_position : (n : ℕ) (cs : List Container) (i : ℕ) (d : Container) → IsInOrder is_numbered_before cs → HoldsOf (λ c. (c.number == n) ≡ true) cs i
    → position (λ c. c.number == n) cs ≡ Some i
number_position n cs i d h at = place_is (λ c. c.number == n) cs i d (numbers_alone n cs h) at

pub no_number_position : (n : ℕ) (cs : List Container) (i : ℕ) → Parts (λ c. nat_cmp c.number n ≡ Less) (λ c. nat_cmp c.number n ≡ Greater) cs i
    → position (λ c. c.number == n) cs ≡ None
no_number_position n cs i parts =
    no_position (λ c. c.number == n) cs (record { at = λ k d less. all_at (λ c. (c.number == n) ≡ false) cs k d (no_number n cs i parts) less })

-- what stands at a place
pub value_at : {Z : Type 0} (bs : List (Box Held Z)) (i : ℕ) (d : Box Held Z) → i < length bs → slice_get (contents bs) i ≡ Some (container_in (get_or bs i d).value)
value_at bs i d less =
    let e : length (contents bs) ≡ length bs = simp length-map refl in
    slice_get-get_or (contents bs) i (container_in d.value) (omega (arith, less, e)) ∙ ap Some (get_or-map (λ b. container_in b.value) bs i d)
