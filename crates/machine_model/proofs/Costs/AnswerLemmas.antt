-- What the ways to answer a call cost.
use Rattle.std.specs.Option.{option_map_or}
use Rattle.std.proofs.Common.{◌≡◌, ℕ, true, List, Option, Some, None, refl, sym, subst}
use Rattle.container_table.specs.Reference.{container_by}
use Rattle.machine_model.specs.State.{State, container_numbered}
use Rattle.machine_model.specs.Chain.{Effect, still, change, and_then}
use Rattle.machine_model.specs.Outcome.{Outcome, by_found, at_reference, refused}
use Rattle.machine_model.specs.Tickets.{begun, begins}
use Rattle.machine_model.proofs.Fold.RowLemmas.{found_number}
use Rattle.machine_model.proofs.Costs.CostLemmas.{Cost, plus, is_most, most_of, IsPriced, Costs, costs_nothing}
use Rattle.engine_text.specs.declared.container.Container.{Container}
use Rattle.engine_text.specs.declared.container.Found.{Found}
use Rattle.engine_text.specs.declared.ticket.Asked.{Asked}
use Rattle.machine_model.specs.Refusals.{no_such_container}

abbrev pub full : Cost
full = record { told = 64; spawns = 1; makes = 1; asks = 1; retries = 1 }

abbrev ask_cost : Cost
ask_cost = record { told = 0; spawns = 0; makes = 0; asks = 1; retries = 0 }

-- ---- the ways to answer

pub idle : {P : Type 0} {E : ℕ → Type 0} (R : Cost → State → Effect → Type 0) → IsPriced P E R → (s : State) → R full s (still s)
idle R k s = costs_nothing full k s

pub top : {P : Type 0} {E : ℕ → Type 0} (R : Cost → State → Effect → Type 0) (x : Cost) → IsPriced P E R → (e : State → Effect) (s : State) → Costs R x e → is_most x full ≡ true → R full s (e s)
top R x k e s one low = k.on_more x full s (e s) (λ p. most_of x full low) (one.holds s)

pub ticket : {P : Type 0} {E : ℕ → Type 0} (R : Cost → State → Effect → Type 0) (x : Cost) → IsPriced P E R → (connection : ℕ) (c : Container) (asked : Asked) (e : State → Effect) (s : State) → container_numbered c.number s ≡ Some c → Costs R x e → is_most (plus ask_cost x) full ≡ true
    → R full s (begins connection c asked e s).effect
ticket R x k connection c asked e s found one low =
    let t : State = begun connection c.number asked s in
    k.on_more (plus ask_cost x) full s (and_then (change (begun connection c.number asked)) e s) (λ p. most_of (plus ask_cost x) full low) (k.on_after ask_cost x s (still t) (e t) (k.on_begun s connection c asked found) (one.holds t))

one_case : {P : Type 0} {E : ℕ → Type 0} (R : Cost → State → Effect → Type 0) → IsPriced P E R → (s : State) (n : ℕ) (target : List ℕ) (f : Container → State → Outcome) (o : Option Container) → container_numbered n s ≡ o
    → ((c : Container) → container_numbered c.number s ≡ Some c → R full s (f c s).effect) → R full s (option_map_or f o (refused 404 (no_such_container target)) s).effect
one_case R k s n target f None e one = idle R k s
one_case R k s n target f (Some c) e one = one c (subst (λ m. container_numbered m s ≡ Some c) (sym (found_number n c s.containers e)) e)

found_case : {P : Type 0} {E : ℕ → Type 0} (R : Cost → State → Effect → Type 0) → IsPriced P E R → (s : State) (found : Found) (target : List ℕ) (f : Container → State → Outcome)
    → ((c : Container) → container_numbered c.number s ≡ Some c → R full s (f c s).effect) → R full s (by_found found target f s).effect
found_case R k s (Found.One n) target f one = one_case R k s n target f (container_numbered n s) refl one
found_case R k s Found.None target f one = idle R k s
found_case R k s Found.Many target f one = idle R k s

pub at : {P : Type 0} {E : ℕ → Type 0} (R : Cost → State → Effect → Type 0) → IsPriced P E R → (s : State) (target : List ℕ) (f : Container → State → Outcome)
    → ((c : Container) → container_numbered c.number s ≡ Some c → R full s (f c s).effect) → R full s (at_reference target f s).effect
at R k s target f one = found_case R k s (container_by s.containers target) target f one
