-- What fits still fits behind a rename.
use Rattle.std.proofs.Common.{◌≡◌, ℕ, ◌==◌, Bool, true, false, List, Option, Some, None, refl, ap, sym, ◌∙◌, subst, inl, inr}
use Rattle.std.proofs.lemmas.Bool.Decides.{eqb_tells}
use Rattle.std.specs.Prelude.{option_map}
use Rattle.engine_text.specs.Texts.{same_bytes}
use Rattle.machine_model.specs.State.{State, container_numbered, change_container}
use Rattle.machine_model.specs.EventTexts.{rename_event}
use Rattle.machine_model.specs.Names.{holder}
use Rattle.machine_model.specs.Consistency.{AreDistinct}
use Rattle.machine_model.specs.Calls.Rename as rename
use Rattle.machine_model.specs.Calls.Rename.{named}
use Rattle.machine_model.proofs.ChangeLemmas.{map_updated}
use Rattle.machine_model.proofs.Fits.PartLemmas.{Roomy, Watches, execs_moved, parts_of, life_of, life_changed, other_changed}
use Rattle.machine_model.proofs.Fits.LaunchLemmas.{Local}
use Rattle.machine_model.proofs.Fits.CallLemmas.{PartsFit}
use Rattle.machine_model.proofs.Fits.FreshLemmas.{mains_told}
use Rattle.engine_text.specs.declared.container.Container.{Container}
use Rattle.engine_text.specs.declared.container.Life.{Life}
use Rattle.engine_text.specs.declared.status.Status.{Status}

same_life : (o : Option Life) → option_map (λ l. l) o ≡ o
same_life None = refl
same_life (Some l) = refl

mains_renamed : (n : ℕ) (name : List ℕ) (s : State) → PartsFit s → PartsFit (change_container n (named name) s)
mains_renamed n name s h =
    let t : State = change_container n (named name) s in
    let same : (m : ℕ) → parts_of m t ≡ parts_of m s = λ m. ap (λ l. record (parts_of m s) { life = l }) (lives m) in (
      (
        subst AreDistinct (sym (map_updated (λ (c : Container). c.number) (λ c. c.number == n) (named name) s.containers (λ c. refl))) h.0.0,
        h.0.1,
        h.0.2,
        h.0.3,
        h.0.4,
        h.0.5,
        execs_moved (λ j p. Watches (parts_of j s) p) (λ j p. Watches (parts_of j t) p) s.execs s.processes s.processes (λ m. refl) (λ j p w. subst (λ v. Watches v p) (sym (same j)) w) h.0.6,
        record { mains = λ m. subst Roomy (sym (same m)) (h.0.7.mains m); outputs = h.0.7.outputs; empty = h.0.7.empty },
      ),
      λ m. subst Local (sym (same m)) (h.1 m),
    )
  where
    lives : (m : ℕ) → life_of (container_numbered m (change_container n (named name) s)) ≡ life_of (container_numbered m s)
    lives m = elim (eqb_tells n m) [
      | inl e ↦ subst (λ k. life_of (container_numbered k (change_container n (named name) s)) ≡ life_of (container_numbered k s)) e.1
          (life_changed n (λ old. name) (λ l. l) s.containers ∙ same_life (life_of (container_numbered n s)))
      | inr e ↦ ap life_of (other_changed n m (λ old. name) (λ l. l) s.containers e.1)
    ]

rename_holder : (o : Option Container) (name : List ℕ) (c : Container) (s : State) → PartsFit s → PartsFit (rename.by_holder o name c s).effect.state
rename_holder (Some other) name c s h = h
rename_holder None name c s h = mains_told c.number (rename_event c.name) (change_container c.number (named name) s) (mains_renamed c.number name s h)

rename_own : (b : Bool) (name : List ℕ) (c : Container) (s : State) → PartsFit s → PartsFit (rename.by_own_name b name c s).effect.state
rename_own true name c s h = h
rename_own false name c s h = rename_holder (holder name s.containers) name c s h

pub rename_by : (u : Status) (name : List ℕ) (c : Container) (s : State) → PartsFit s → PartsFit (rename.by_status u name c s).effect.state
rename_by Status.Created name c s h = rename_own (same_bytes name c.name) name c s h
rename_by Status.Running name c s h = rename_own (same_bytes name c.name) name c s h
rename_by Status.Paused name c s h = rename_own (same_bytes name c.name) name c s h
rename_by Status.Restarting name c s h = rename_own (same_bytes name c.name) name c s h
rename_by Status.Removing name c s h = h
rename_by Status.Exited name c s h = rename_own (same_bytes name c.name) name c s h
rename_by Status.Dead name c s h = h
