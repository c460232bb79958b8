-- What the calls of volumes obey.
use Rattle.std.proofs.Common.{◌≡◌, ℕ, Bool, true, false, List, [], ◌∷◌, Option, Some, None, refl}
use Rattle.machine_model.specs.State.{State}
use Rattle.machine_model.specs.Chain.{tell}
use Rattle.machine_model.specs.Outcome.{answers}
use Rattle.machine_model.specs.Call.{outcome_of}
use Rattle.machine_model.specs.EventTexts.{volume_event}
use Rattle.machine_model.specs.Calls.Create.{volume_named, make_volume, placed, new_volume}
use Rattle.machine_model.specs.Calls.Volumes.{by_standing, with_volume, without_volume, remove_volume, is_in_use, unless_in_use}
use Rattle.machine_model.specs.Views.{volume_body}
use Rattle.machine_model.proofs.Fold.TellLemmas.{Tells, tells_then, tells_apart}
use Rattle.machine_model.proofs.ObeyLemmas.{Obeys, obeys_answer, obeys_apart}
use Rattle.engine_text.specs.declared.call.Call.{Call}
use Rattle.engine_text.specs.declared.container.Container.{Container}
use Rattle.engine_text.specs.declared.event.FoldRow.{FoldRow}
use Rattle.engine_text.specs.declared.reply.Reply.{Reply}
use Rattle.engine_text.specs.declared.filter.FilterRow.{FilterRow}
use Rattle.engine_text.specs.declared.pairs.Pair.{Pair}
use Rattle.engine_text.specs.declared.volume.Volume.{Volume}
use Rattle.engine_text.specs.declared.event.Action.{Action}
use Rattle.engine_text.specs.declared.event.Action.TheVariants as Acts

tells_volume : {n : ℕ} {P : FoldRow → Container → Type 0} (a : Action) (name : List ℕ) → Tells n P (λ s. tell (volume_event a name s.clock ∷ []) s) P
tells_volume a name = record { holds = λ s rows fit beside. (fit, beside) }

pub tells_make_volume : {n : ℕ} {P : FoldRow → Container → Type 0} (name : List ℕ) (labels : List Pair) → Tells n P (make_volume name labels) P
tells_make_volume name labels =
    tells_then (tells_apart (λ s. record s { volumes = placed (new_volume name labels s.clock) s.volumes }) (λ s. refl) (λ s fit. fit)) (tells_volume Acts.Create name)

standing : (name : List ℕ) (labels : List Pair) (s : State) (o : Option Volume) → volume_named name s ≡ o → Obeys (Call.VolumeCreate name labels) s (by_standing o name labels s)
standing name labels s (Some v) e = obeys_answer (Call.VolumeCreate name labels) s 201 _ refl
standing name labels s None e =
    obeys_apart (Call.VolumeCreate name labels) s (Reply.Answer 201 _) (make_volume name labels) (λ h. refl) (λ sound. tells_make_volume name labels)

pub volume_create_obeys : (name : List ℕ) (labels : List Pair) (connection : ℕ) (s : State) → Obeys (Call.VolumeCreate name labels) s (outcome_of (Call.VolumeCreate name labels) connection s)
volume_create_obeys name labels connection s = standing name labels s (volume_named name s) refl

inspects : (name : List ℕ) (s : State) (o : Option Volume)
    → Obeys (Call.VolumeInspect name) s (with_volume o name (λ v. answers 200 (volume_body v)) s)
inspects name s None = obeys_answer (Call.VolumeInspect name) s 404 _ refl
inspects name s (Some v) = obeys_answer (Call.VolumeInspect name) s 200 _ refl

pub volume_inspect_obeys : (name : List ℕ) (connection : ℕ) (s : State) → Obeys (Call.VolumeInspect name) s (outcome_of (Call.VolumeInspect name) connection s)
volume_inspect_obeys name connection s = inspects name s (volume_named name s)

in_use : (name : List ℕ) (s : State) (b : Bool) → is_in_use name s ≡ b → Obeys (Call.VolumeRemove name) s (unless_in_use b name s)
in_use name s true e = obeys_answer (Call.VolumeRemove name) s 409 _ refl
in_use name s false e =
    obeys_apart (Call.VolumeRemove name) s (Reply.Answer 204 []) (remove_volume name) (λ h. refl)
    (λ sound. tells_then (tells_apart (without_volume name) (λ s. refl) (λ s fit. fit)) (tells_volume Acts.Destroy name))

removes : (name : List ℕ) (s : State) (o : Option Volume) → Obeys (Call.VolumeRemove name) s (with_volume o name (λ v s. unless_in_use (is_in_use name s) name s) s)
removes name s None = obeys_answer (Call.VolumeRemove name) s 404 _ refl
removes name s (Some v) = in_use name s (is_in_use name s) refl

pub volume_remove_obeys : (name : List ℕ) (connection : ℕ) (s : State) → Obeys (Call.VolumeRemove name) s (outcome_of (Call.VolumeRemove name) connection s)
volume_remove_obeys name connection s = removes name s (volume_named name s)

pub volume_list_obeys : (filters : List FilterRow) (connection : ℕ) (s : State) → Obeys (Call.VolumeList filters) s (outcome_of (Call.VolumeList filters) connection s)
volume_list_obeys filters connection s = obeys_answer (Call.VolumeList filters) s 200 _ refl
