-- What a pause obeys.
use Rattle.std.proofs.Common.{◌≡◌, ℕ, ◌==◌, true, not, List, [], Some, refl, ap, sym}
use Rattle.api_json.specs.Status.{is_paused}
use Rattle.proc_kernel.specs.Processes.{freeze}
use Rattle.machine_model.specs.State.{State, container_numbered, change_process, running_execs}
use Rattle.machine_model.specs.Chain.{each, renew, tell_of}
use Rattle.machine_model.specs.Call.{outcome_of}
use Rattle.machine_model.specs.EventTexts.{plain_event}
use Rattle.machine_model.specs.Calls.Pause.{paused, freeze_process, freeze_execs, pause, by_status}
use Rattle.machine_model.proofs.Fold.RowLemmas.{Same}
use Rattle.machine_model.proofs.Fold.TellLemmas.{Tells, tells_then, tells_from, tells_at, tells_row, tells_renew, tells_apart, tells_each, row_is}
use Rattle.machine_model.proofs.ObeyLemmas.{Obeys, obeys_answer, obeys_found, obeys_at}
use Rattle.machine_model.proofs.Processes.CodeLemmas.{all_changed, coded_freeze}
use Rattle.engine_text.specs.declared.call.Call.{Call}
use Rattle.engine_text.specs.declared.container.Container.{Container}
use Rattle.engine_text.specs.declared.event.FoldRow.{FoldRow}
use Rattle.engine_text.specs.declared.reply.Reply.{Reply}
use Rattle.engine_text.specs.declared.status.Status.{Status}
use Rattle.engine_text.specs.declared.owner.Owner.{Owner}
use Rattle.engine_text.specs.declared.owner.Owner.TheVariants.{Container as OfContainer, Exec as OfExec}
use Rattle.engine_text.specs.declared.exec.Exec.{Exec}
use Rattle.engine_text.specs.declared.event.Action.TheVariants as Action

tells_freeze : {n : ℕ} {P : FoldRow → Container → Type 0} (owner : Owner) → Tells n P (freeze_process owner) P
tells_freeze owner =
    tells_apart (λ s. change_process owner (freeze s.clock) s) (λ s. refl)
    (λ s fit. (fit.0, fit.1, fit.2, all_changed owner (freeze s.clock) (λ p h. coded_freeze s.clock p h) s.processes fit.3, fit.4, fit.5))

tells_freeze_execs : {n : ℕ} {P : FoldRow → Container → Type 0} (m : ℕ) → Tells n P (freeze_execs m) P
tells_freeze_execs m =
    tells_at (λ s. each (λ (x : Exec). freeze_process (OfExec x.number)) (running_execs m s)) (λ s. tells_each (λ (x : Exec). tells_freeze (OfExec x.number)) (running_execs m s))

-- before its pause is told
abbrev Pausing : FoldRow → Container → Type 0
Pausing r c = (r.name ≡ c.name) × (r.live ≡ not (c.life.pid == 0)) × (r.code ≡ c.life.code) × (is_paused c.life.status ≡ true)

tells_pause : (n : ℕ) → Tells n Same (pause n) Same
tells_pause n =
    let marks : Tells n Same (renew n paused) Pausing =
    tells_renew (λ s. paused) (λ s l h. h) (λ s fit r c id h. (ap (λ (x : FoldRow). x.name) h, ap (λ (x : FoldRow). x.live) h, ap (λ (x : FoldRow). x.code) h, refl)) in
    let tells : Tells n Pausing (tell_of (plain_event Action.Pause) n) Same =
    tells_row (plain_event Action.Pause) (λ c t r. record r { paused = true }) (λ c t rs. refl)
    (λ r c t id h. (id, row_is (record r { paused = true }) c id h.0 h.1 (sym h.3) h.2)) in
    tells_then (tells_freeze (OfContainer n)) (tells_then (tells_freeze_execs n) (tells_then marks tells))

by : (target : List ℕ) (s : State) (c : Container) (u : Status) → container_numbered c.number s ≡ Some c → Obeys (Call.Pause target) s (by_status u c s)
by target s c Status.Running found =
    obeys_found (Call.Pause target) s c (Reply.Answer 204 []) (pause c.number) Same found refl (λ r d id h. h)
    (λ h sound. tells_from (λ r d id h. h.1) (tells_pause c.number))
by target s c Status.Created found = obeys_answer (Call.Pause target) s 409 _ refl
by target s c Status.Paused found = obeys_answer (Call.Pause target) s 409 _ refl
by target s c Status.Restarting found = obeys_answer (Call.Pause target) s 409 _ refl
by target s c Status.Removing found = obeys_answer (Call.Pause target) s 409 _ refl
by target s c Status.Exited found = obeys_answer (Call.Pause target) s 409 _ refl
by target s c Status.Dead found = obeys_answer (Call.Pause target) s 409 _ refl

pub pause_obeys : (target : List ℕ) (connection : ℕ) (s : State) → Obeys (Call.Pause target) s (outcome_of (Call.Pause target) connection s)
pause_obeys target connection s =
    obeys_at (Call.Pause target) s target (λ c. by_status c.life.status c) refl refl (λ c found. by target s c c.life.status found)
