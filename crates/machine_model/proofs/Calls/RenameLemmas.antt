-- What a rename obeys.
use Rattle.std.proofs.Common.{◌≡◌, ℕ, Bool, true, false, List, Option, Some, None, refl, ap}
use Rattle.engine_text.specs.Texts.{same_bytes, without_slash}
use Rattle.machine_model.specs.State.{State, container_numbered, change_container}
use Rattle.machine_model.specs.Chain.{change, tell_of}
use Rattle.machine_model.specs.Call.{outcome_of}
use Rattle.machine_model.specs.EventTexts.{rename_event}
use Rattle.machine_model.specs.Names.{holder}
use Rattle.machine_model.specs.Summary.{summary_row}
use Rattle.machine_model.specs.Calls.Rename.{named, rename, by_holder, by_own_name, by_status, rename_standing}
use Rattle.machine_model.proofs.Fold.RowLemmas.{Same, changed}
use Rattle.machine_model.proofs.Fold.TellLemmas.{Tells, tells_then, tells_from, tells_row, row_is, fit_changed, folded_at}
use Rattle.machine_model.proofs.ObeyLemmas.{Obeys, obeys_answer, obeys_at}
use Rattle.engine_text.specs.declared.call.Call.{Call}
use Rattle.engine_text.specs.declared.container.Container.{Container}
use Rattle.engine_text.specs.declared.event.FoldRow.{FoldRow}
use Rattle.engine_text.specs.declared.status.Status.{Status}

-- before its rename is told
abbrev Renamed : List ℕ → FoldRow → Container → Type 0
Renamed name r c = (r.live ≡ (summary_row c).live) × (r.paused ≡ (summary_row c).paused) × (r.code ≡ c.life.code)

tells_rename : (name : List ℕ) (c : Container) → Tells c.number Same (rename name c) Same
tells_rename name c =
    let names : Tells c.number Same (change (change_container c.number (named name))) (Renamed name) = record {
      holds = λ s rows fit beside. (
        fit_changed s c.number (λ old. name) (λ l. l) (λ l h. h) fit,
        changed c.number (λ old. name) (λ l. l) Same (Renamed name)
            (λ r c id h. (ap (λ (x : FoldRow). x.live) h, ap (λ (x : FoldRow). x.paused) h, ap (λ (x : FoldRow). x.code) h)) rows s.containers fit.1 beside,
      );
    } in
    let tells : Tells c.number (Renamed name) (tell_of (rename_event c.name) c.number) Same =
    tells_row (rename_event c.name) (λ d t r. record r { name = d.name }) (λ d t rs. refl)
    (λ r d t id h. (id, row_is (record r { name = d.name }) d id refl h.0 h.1 h.2)) in
    tells_then names tells

held : (target name : List ℕ) (s : State) (c : Container) (o : Option Container) → container_numbered c.number s ≡ Some c → holder (without_slash name) s.containers ≡ o
    → Obeys (Call.Rename target name) s (by_holder o (without_slash name) c s)
held target name s c (Some other) found e = obeys_answer (Call.Rename target name) s 409 _ refl
held target name s c None found e = record {
  folds = λ h sound. folded_at c Same (rename (without_slash name) c) s (λ r d id k. k) found
      (tells_from (λ r d id k. k.1) (tells_rename (without_slash name) c)) h.fit;
  reply = λ h. refl;
}

own : (target name : List ℕ) (s : State) (c : Container) (b : Bool) → container_numbered c.number s ≡ Some c → Obeys (Call.Rename target name) s (by_own_name b (without_slash name) c s)
own target name s c true found = obeys_answer (Call.Rename target name) s 400 _ refl
own target name s c false found = held target name s c (holder (without_slash name) s.containers) found refl

stands : (target name : List ℕ) (s : State) (c : Container) → container_numbered c.number s ≡ Some c → Obeys (Call.Rename target name) s (rename_standing (without_slash name) c s)
stands target name s c found = own target name s c (same_bytes (without_slash name) c.name) found

by : (target name : List ℕ) (s : State) (c : Container) (u : Status) → container_numbered c.number s ≡ Some c → Obeys (Call.Rename target name) s (by_status u (without_slash name) c s)
by target name s c Status.Created found = stands target name s c found
by target name s c Status.Running found = stands target name s c found
by target name s c Status.Paused found = stands target name s c found
by target name s c Status.Restarting found = stands target name s c found
by target name s c Status.Removing found = obeys_answer (Call.Rename target name) s 409 _ refl
by target name s c Status.Exited found = stands target name s c found
by target name s c Status.Dead found = obeys_answer (Call.Rename target name) s 409 _ refl

pub rename_obeys : (target name : List ℕ) (connection : ℕ) (s : State) → Obeys (Call.Rename target name) s (outcome_of (Call.Rename target name) connection s)
rename_obeys target name connection s =
    obeys_at (Call.Rename target name) s target (λ c. by_status c.life.status (without_slash name) c) refl refl (λ c found. by target name s c c.life.status found)
