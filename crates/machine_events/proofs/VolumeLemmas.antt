-- A volume that is made or taken away, in the table and in the state.
use Rattle.std.proofs.Common.{◌≡◌, ℕ, Bool, false, List, Option, Some, None, find, refl, ap, ◌∙◌}
use Rattle.std.specs.Prelude.{IsSome}
use Rattle.std.proofs.lemmas.Bool.{false≢true}
use Rattle.engine_text.specs.Lists.{remove_first}
use Rattle.engine_text.specs.Texts.{same_bytes}
use Rattle.engine_text.specs.declared.pairs.Pair.{Pair}
use Rattle.engine_text.specs.declared.volume.Volume.{Volume}
use Rattle.engine_text.specs.declared.volume.VolumeUse.{VolumeUse}
use Rattle.volume_table.specs.Volumes as table
use Rattle.volume_table.specs.declared.answers.Made.{Made}
use Rattle.volume_table.specs.declared.answers.Removed.{Removed}
use Rattle.machine_model.specs.Calls.Create.{make_volume, new_volume, placed}
use Rattle.machine_model.specs.Calls.Volumes.{without_volume}
use Rattle.machine_model.specs.State.{State}
use Rattle.machine_events.proofs.CreateLemmas.{same_placed}

-- one whose name is free is put in its place
pub made_new : (r : Made) (v : Volume) (vs new : List Volume) → find (λ w. same_bytes w.name v.name) vs ≡ None → r ≡ table.creation (find (λ w. same_bytes w.name v.name) vs)
    → new ≡ table.after_creation r v vs → new ≡ placed v vs
made_new r v vs new free answer is = is ∙ (ap (λ q. table.after_creation q v vs) (answer ∙ ap table.creation free) ∙ same_placed v vs)

-- a state with these volumes is the state after it
pub made_state : (s : State) (name : List ℕ) (labels : List Pair) (vs : List Volume) (us : List VolumeUse) → vs ≡ placed (new_volume name labels s.clock) s.volumes → us ≡ s.uses
    → record s { volumes = vs; uses = us } ≡ (make_volume name labels s).state
made_state s name labels vs us h1 h2 =
    ap (λ (l : List Volume). record s { volumes = l; uses = us }) h1
    ∙ ap (λ (l : List VolumeUse). record s { volumes = placed (new_volume name labels s.clock) s.volumes; uses = l }) h2

answered_ok : (o : Option Volume) → IsSome o → table.removal o false ≡ Removed.Ok
answered_ok None stands = absurd (false≢true stands)
answered_ok (Some v) stands = refl

-- one that stands, and to which nothing refers, is taken away
pub taken : (r : Removed) (name : List ℕ) (vs new : List Volume) (used : Bool) → IsSome (table.volume_named name vs) → used ≡ false → r ≡ table.removal (table.volume_named name vs) used
    → new ≡ table.after_removal r name vs → new ≡ remove_first (λ v. same_bytes v.name name) vs
taken r name vs new used stands unused answer is =
    is ∙ ap (λ q. table.after_removal q name vs) (answer ∙ (ap (table.removal (table.volume_named name vs)) unused ∙ answered_ok (table.volume_named name vs) stands))

-- a state with these volumes is the state after it
pub taken_state : (s : State) (name : List ℕ) (vs : List Volume) (us : List VolumeUse) → vs ≡ remove_first (λ v. same_bytes v.name name) s.volumes → us ≡ s.uses
    → record s { volumes = vs; uses = us } ≡ without_volume name s
taken_state s name vs us h1 h2 =
    ap (λ (l : List Volume). record s { volumes = l; uses = us }) h1
    ∙ ap (λ (l : List VolumeUse). record s { volumes = remove_first (λ v. same_bytes v.name name) s.volumes; uses = l }) h2
