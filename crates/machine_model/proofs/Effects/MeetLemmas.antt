-- What steps of processes, signals and thaws tell.
use Rattle.std.proofs.Common.{◌≡◌, ℕ, ◌<◌, ◌==◌, Bool, true, false, not, refl, ap, ◌∙◌}
use Rattle.api_json.specs.Status.{is_paused}
use Rattle.proc_kernel.specs.Processes.{Process, ProcessStep, signal, thaw}
use Rattle.proc_kernel.specs.Tables.{effect_of, process_of}
use Rattle.machine_model.specs.Effects.Meet.{logged, put_output, by_effect, stepped, step_process, running, thaw_execs, wake_parts, thaw_container, send, woken, meet_signal}
use Rattle.machine_model.specs.State.{running_execs}
use Rattle.machine_model.specs.Chain.{and_then, in_order, each, change, renew, tell_of}
use Rattle.machine_model.specs.EventTexts.{plain_event}
use Rattle.machine_model.specs.Ranges.{IsCoded}
use Rattle.machine_model.proofs.Effects.EndMainLemmas.{tells_end_exec, tells_end_main, awake_mark}
use Rattle.machine_model.proofs.Processes.CodeLemmas.{StepsCoded, EndsCoded, all_changed, ends_coded, coded_thaw, coded_signal}
use Rattle.machine_model.proofs.Fold.RowLemmas.{Same, Is, made}
use Rattle.machine_model.proofs.Fold.TellLemmas.{Tells, tells_then, tells_from, tells_still, tells_each, tells_at, tells_with, tells_row, tells_renew, tells_apart, row_is}
use Rattle.machine_model.proofs.Effects.LaunchLemmas.{Awake}
use Rattle.engine_text.specs.declared.owner.Owner.{Owner}
use Rattle.engine_text.specs.declared.owner.Owner.TheVariants.{Container as OfContainer, Exec as OfExec}
use Rattle.engine_text.specs.declared.container.Container.{Container}
use Rattle.engine_text.specs.declared.event.FoldRow.{FoldRow}
use Rattle.engine_text.specs.declared.exec.Exec.{Exec}
use Rattle.engine_text.specs.declared.script.Effect.{Effect as ProcessEffect}
use Rattle.engine_text.specs.declared.script.Effect.TheVariants.{Lives, Wrote, Ended}
use Rattle.engine_text.specs.declared.status.Status.{Status}
use Rattle.engine_text.specs.declared.event.Action.TheVariants.{Unpause}

-- ---- steps of processes

-- a step that keeps codes those of a byte
abbrev pub KeepsCodes : (ℕ → Process → ProcessStep) → Type 0
KeepsCodes step = (t : ℕ) (p : Process) → IsCoded p → StepsCoded (step t p)

step_by : (n : ℕ) (P Q : FoldRow → Container → Type 0) (step : ℕ → Process → ProcessStep) (owner : Owner) → KeepsCodes step
    → ((e : ProcessEffect) → EndsCoded e → Tells n P (by_effect e owner) Q) → Tells n P (step_process step owner) Q
step_by n P Q step owner codes effects = record {
  holds = λ s rows fit beside.
      let e : ProcessEffect = effect_of (step s.clock) (process_of owner s.processes) in
      let moved : Tells n P (change (stepped step owner)) P =
      tells_apart (stepped step owner) (λ s. refl)
      (λ s fit. (fit.0, fit.1, fit.2, all_changed owner (λ p. (step s.clock p).process) (λ p h. (codes s.clock p h).process) s.processes fit.3, fit.4, fit.5)) in
      (tells_then moved (effects e (ends_coded owner (step s.clock) (codes s.clock) s.processes fit.3))).holds s rows fit beside;
}

exec_effect : {n : ℕ} {P : FoldRow → Container → Type 0} (m : ℕ) (e : ProcessEffect) → EndsCoded e → Tells n P (by_effect e (OfExec m)) P
exec_effect m Lives low = tells_still
exec_effect m (Wrote stream payload) low = tells_apart (put_output m stream payload) (λ s. refl) (λ s fit. fit)
exec_effect m (Ended code) low = tells_end_exec code m low

pub tells_exec_step : {n : ℕ} {P : FoldRow → Container → Type 0} (step : ℕ → Process → ProcessStep) (m : ℕ) → KeepsCodes step
    → Tells n P (step_process step (OfExec m)) P
tells_exec_step {n} {P} step m codes = step_by n P P step (OfExec m) codes (exec_effect m)

main_effect : (n : ℕ) (e : ProcessEffect) → EndsCoded e → Tells n Awake (by_effect e (OfContainer n)) Awake
main_effect n Lives low = tells_still
main_effect n (Wrote stream payload) low =
    tells_at (λ s. renew n (logged stream payload s.clock)) (λ s. awake_mark (logged stream payload s.clock) (λ l h. h) (λ c. refl) (λ l. refl))
main_effect n (Ended code) low = tells_end_main code n low

-- of a container that isn't paused
pub tells_main_step : (step : ℕ → Process → ProcessStep) (n : ℕ) → KeepsCodes step → Tells n Awake (step_process step (OfContainer n)) Awake
tells_main_step step n codes = step_by n Awake Awake step (OfContainer n) codes (main_effect n)

-- ---- thaws

pub tells_thaw_execs : {n : ℕ} {P : FoldRow → Container → Type 0} (m : ℕ) → Tells n P (thaw_execs m) P
tells_thaw_execs m =
    tells_at (λ s. each (λ (x : Exec). step_process thaw (OfExec x.number)) (running_execs m s))
    (λ s. tells_each (λ (x : Exec). tells_exec_step thaw x.number coded_thaw) (running_execs m s))

-- after an unpause
abbrev Waking : FoldRow → Container → Type 0
Waking r c = (r.name ≡ c.name) × (r.live ≡ not (c.life.pid == 0)) × (r.paused ≡ false) × (r.code ≡ c.life.code)

pub tells_wake : (n : ℕ) → Tells n Same (in_order (wake_parts n)) Awake
tells_wake n =
    let told : Tells n Same (tell_of (plain_event Unpause) n) Waking =
    tells_row (plain_event Unpause) (λ c t r. record r { paused = false }) (λ c t rs. refl)
    (λ r c t id h. (id, (ap (λ (x : FoldRow). x.name) h, ap (λ (x : FoldRow). x.live) h, refl, ap (λ (x : FoldRow). x.code) h))) in
    let runs : Tells n Waking (renew n running) Awake =
    tells_renew (λ s. running) (λ s l h. h) (λ s fit r c id h. (row_is r (made (λ name. name) running c) id h.0 h.1 h.2 h.3, refl)) in
    tells_then told (tells_then runs (tells_then (tells_thaw_execs n) tells_still))

pub tells_thaw : (n : ℕ) → Tells n Same (thaw_container n) Awake
tells_thaw n = tells_then (tells_wake n) (tells_main_step thaw n coded_thaw)

-- ---- signals

pub tells_send : (thaws : Bool) (number n : ℕ) → number < 128 → Tells n Awake (send thaws number n) Awake
tells_send thaws number n low = tells_main_step (signal number thaws) n (λ t p h. coded_signal number thaws low t p h)

-- a container that isn't paused is awake
pub awake_if : (u : Status) (c : Container) → c.life.status ≡ u → is_paused u ≡ false → (r : FoldRow) (d : Container) → r.id ≡ d.id → Is c Same r d → Awake r d
awake_if u c e calms r d id h =
    let status : d.life.status ≡ u = ap (λ (x : Container). x.life.status) h.0 ∙ e in
    (h.1, ap is_paused status ∙ calms)

-- it isn't paused behind it
pub tells_woken : (u : Status) (n : ℕ) (c : Container) → c.life.status ≡ u → Tells n (Is c Same) (woken u n) Awake
tells_woken Status.Paused n c e = tells_from (λ r d id h. h.1) (tells_wake n)
tells_woken Status.Created n c e = tells_from (awake_if Status.Created c e refl) tells_still
tells_woken Status.Running n c e = tells_from (awake_if Status.Running c e refl) tells_still
tells_woken Status.Restarting n c e = tells_from (awake_if Status.Restarting c e refl) tells_still
tells_woken Status.Removing n c e = tells_from (awake_if Status.Removing c e refl) tells_still
tells_woken Status.Exited n c e = tells_from (awake_if Status.Exited c e refl) tells_still
tells_woken Status.Dead n c e = tells_from (awake_if Status.Dead c e refl) tells_still

pub tells_meet : (number n : ℕ) → number < 128 → Tells n Same (meet_signal number n) Awake
tells_meet number n low =
    tells_with (λ (c : Container). and_then (woken c.life.status n) (send true number n))
    (λ (c : Container) is. tells_then (tells_woken c.life.status n c refl) (tells_send true number n low))
