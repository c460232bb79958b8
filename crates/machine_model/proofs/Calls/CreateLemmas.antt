-- What a create obeys.
use Rattle.std.proofs.Common.{◌≡◌, ℕ, Bool, true, false, List, [], ◌∷◌, Option, Some, None, refl, ap, sym, ◌∙◌, map, arith}
use Rattle.std.proofs.lemmas.List.{map_push}
use Rattle.machine_model.specs.State.{State}
use Rattle.machine_model.specs.Chain.{Effect, change, and_then, each, tell}
use Rattle.machine_model.specs.Call.{outcome_of}
use Rattle.machine_model.specs.EventTexts.{plain_event}
use Rattle.machine_model.specs.Names.{holder, chosen_name}
use Rattle.machine_model.specs.Filters.{is_image}
use Rattle.engine_text.specs.Soundness.{is_create, is_signal}
use Rattle.machine_model.specs.Summary.{fold_on, inspect_summary, summary_row}
use Rattle.machine_model.specs.Calls.Create.{volume_named, make_missing, unless_it_stands, new_container, with_new, add, by_holder, by_image}
use Rattle.machine_model.proofs.Fold.RowLemmas.{Same, exact, whole}
use Rattle.machine_model.proofs.Fold.TellLemmas.{Tells, Folded, tells_still, tells_at, tells_each, LifeInRange, fold_append}
use Rattle.machine_model.proofs.ObeyLemmas.{Stands, Obeys, obeys_answer, both_true, signal_range}
use Rattle.machine_model.proofs.ListLemmas.{all_append}
use Rattle.machine_model.proofs.Calls.VolumesLemmas.{tells_make_volume}
use Rattle.engine_text.specs.declared.call.Call.{Call}
use Rattle.engine_text.specs.declared.container.Container.{Container}
use Rattle.engine_text.specs.declared.call.CreateSpec.{CreateSpec}
use Rattle.engine_text.specs.declared.mounts.Mount.{Mount}
use Rattle.engine_text.specs.declared.volume.Volume.{Volume}
use Rattle.engine_text.specs.declared.event.Action.TheVariants as Action

-- ---- volumes

tells_unless : (o : Option Volume) (name : List ℕ) → Tells 0 Same (unless_it_stands o name) Same
tells_unless None name = tells_make_volume name []
tells_unless (Some v) name = tells_still

tells_missing : (ms : List Mount) → Tells 0 Same (each make_missing ms) Same
tells_missing ms = tells_each (λ (m : Mount). tells_at (λ s. unless_it_stands (volume_named m.volume s) m.volume) (λ s. tells_unless (volume_named m.volume s) m.volume)) ms

-- ---- the container

-- what comes behind the volumes
abbrev then_add : Container → State → Effect
then_add c = and_then (change (with_new c)) (λ s. tell (plain_event Action.Create c s.clock ∷ []) s)

folded_add : (name : List ℕ) (spec : CreateSpec) (s : State) → Stands s → is_signal spec.stop_signal ≡ true → Folded s (add (new_container name spec s) s)
folded_add name spec s h low =
    let c : Container = new_container name spec s in
    let a : Effect = each make_missing spec.mounts s in
    let volumes = (tells_missing spec.mounts).holds s (inspect_summary s) h.fit (whole 0 s.containers) in
    let same : fold_on (inspect_summary s) a.events ≡ map summary_row a.state.containers = exact 0 (fold_on (inspect_summary s) a.events) a.state.containers volumes.1 in
    let rows : fold_on (inspect_summary s) (add c s).events ≡ fold_on (map summary_row a.state.containers) (plain_event Action.Create c a.state.clock ∷ []) =
    fold_append (inspect_summary s) a.events (plain_event Action.Create c a.state.clock ∷ []) ∙ ap (λ rs. fold_on rs (plain_event Action.Create c a.state.clock ∷ [])) same in (
      rows ∙ sym (map_push summary_row a.state.containers c),
      (volumes.0.2, volumes.0.3, all_append LifeInRange a.state.containers (c ∷ []) volumes.0.4 ((omega arith, (signal_range spec.stop_signal low).0, (signal_range spec.stop_signal low).1), tt), volumes.0.5),
    )

signal_of : (spec : CreateSpec) → is_create spec ≡ true → is_signal spec.stop_signal ≡ true
signal_of spec e = (both_true _ _ (both_true _ _ (both_true _ _ (both_true _ _ (both_true _ _ (both_true _ _ e).0).0).0).0).0).1

held : (name : List ℕ) (spec : CreateSpec) (s : State) (o : Option Container) → holder name s.containers ≡ o → Obeys (Call.Create spec) s (by_holder o name spec s)
held name spec s (Some other) e = obeys_answer (Call.Create spec) s 409 _ refl
held name spec s None e = record {
  folds = λ h sound. folded_add name spec s h (signal_of spec sound);
  reply = λ h. refl;
}

imaged : (spec : CreateSpec) (s : State) (b : Bool) → Obeys (Call.Create spec) s (by_image b spec s)
imaged spec s true =
    let name : List ℕ = chosen_name spec.name s.next_number s.containers in
    held name spec s (holder name s.containers) refl
imaged spec s false = obeys_answer (Call.Create spec) s 404 _ refl

pub create_obeys : (spec : CreateSpec) (connection : ℕ) (s : State) → Obeys (Call.Create spec) s (outcome_of (Call.Create spec) connection s)
create_obeys spec connection s = imaged spec s (is_image spec.image)
