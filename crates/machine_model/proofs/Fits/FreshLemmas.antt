-- What a create of a container or an exec needs beside; an event changes nothing of what fits.
use Rattle.std.proofs.Common.{ℕ, ◌<◌, [], ◌∷◌, Option, Some, None}
use Rattle.std.specs.List.{AllByRecursion}
use Rattle.machine_model.specs.State.{State, container_numbered, owner_number}
use Rattle.machine_model.specs.Chain.{tell, tell_of, with_found}
use Rattle.machine_model.proofs.Fits.CallLemmas.{PartsFit}
use Rattle.engine_text.specs.declared.container.Container.{Container}
use Rattle.engine_text.specs.declared.event.Event.{Event}

pub record Fresh (s : State) : Type 0 where
  pub below : AllByRecursion (λ c. c.number < s.next_number) s.containers
  pub execs_below : AllByRecursion (λ x. x.number < s.next_number) s.execs
  pub outputs_below : AllByRecursion (λ o. owner_number o.owner < s.next_number) s.outputs

told_by : (o : Option Container) (event : Container → ℕ → Event) (s : State) → PartsFit s → PartsFit (with_found o (λ c s. tell (event c s.clock ∷ []) s) s).state
told_by None event s h = h
told_by (Some c) event s h = h

pub mains_told : (n : ℕ) (event : Container → ℕ → Event) (s : State) → PartsFit s → PartsFit (tell_of event n s).state
mains_told n event s h = told_by (container_numbered n s) event s h
