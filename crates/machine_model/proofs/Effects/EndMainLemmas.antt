-- What the ends of execs and of main processes tell.
use Rattle.std.proofs.Common.{◌≡◌, ℕ, ◌+◌, ◌^◌, ◌<◌, ◌==◌, Bool, true, false, not, refl, ap, sym, ◌∙◌, arith, subst}
use Rattle.std.proofs.lemmas.Fmt.{decimal_is_IsNumeral}
use Rattle.api_json.specs.Status.{is_paused}
use Rattle.machine_model.specs.EventTexts.{plain_event, die_event, exec_die_event}
use Rattle.machine_model.specs.State.{State, set_timer, drop_process, exec_numbered, running_execs, change_exec}
use Rattle.machine_model.specs.Chain.{each, change, renew, tell_of, with_found, with_container}
use Rattle.machine_model.specs.Effects.EndMain.{end_exec, end_execs, exec_ended, ended, die, clear_deadlines, exited, no_goal, restarting, removed_if, follow, decision_at, by_goal, by_status, end_main}
use Rattle.machine_model.specs.Summary.{summary_row, exit_code}
use Rattle.machine_model.specs.Ranges.{IsLifeInRange}
use Rattle.machine_model.proofs.Effects.LaunchLemmas.{Awake, tells_launch_by_call}
use Rattle.machine_model.proofs.Effects.DestroyLemmas.{tells_destroy}
use Rattle.machine_model.proofs.Processes.CodeLemmas.{all_without}
use Rattle.machine_model.proofs.Fold.RowLemmas.{Is, made}
use Rattle.machine_model.proofs.Fold.TellLemmas.{Tells, tells_then, tells_from, tells_still, tells_each, tells_found, tells_at, tells_with, tells_row, tells_quiet, tells_mounts, tells_renew, tells_apart, row_is, HasByte}
use Rattle.machine_model.proofs.ChangeLemmas.{all_updated}
use Rattle.engine_text.specs.declared.event.Action.TheVariants.{Stop, Restart, Unmount}
use Rattle.restart_policy.specs.declared.decision.Decision.{Decision}
use Rattle.restart_policy.specs.declared.decision.Decision.TheVariants.{Stay, Again}
use Rattle.engine_text.specs.declared.owner.Owner.TheVariants.{Container as OfContainer, Exec as OfExec}
use Rattle.engine_text.specs.declared.container.Container.{Container}
use Rattle.engine_text.specs.declared.container.Goal.{Goal}
use Rattle.engine_text.specs.declared.container.Life.{Life}
use Rattle.engine_text.specs.declared.event.FoldRow.{FoldRow}
use Rattle.engine_text.specs.declared.exec.Exec.{Exec}
use Rattle.engine_text.specs.declared.status.Status.{Status}
use Rattle.container_table.specs.declared.rank.Rank.{Rank}

-- ---- execs

pub tells_end_exec : {n : ℕ} {P : FoldRow → Container → Type 0} (code number : ℕ) → code < 256 → Tells n P (end_exec code number) P
tells_end_exec code number low =
    tells_at (λ s. with_found (exec_numbered number s) _)
    (λ s. tells_found (exec_numbered number s)
    (λ (x : Exec). tells_then (tells_quiet x.container (exec_die_event x.id code) (λ c t rs. refl))
    (tells_then (tells_apart (drop_process (OfExec number)) (λ s. refl) (λ s fit. (fit.0, fit.1, fit.2, all_without (OfExec number) s.processes fit.3, fit.4, fit.5)))
    (tells_apart (change_exec number (exec_ended code)) (λ s. refl)
    (λ s fit. (fit.0, fit.1, fit.2, fit.3, fit.4, all_updated HasByte (λ x. x.number == number) (exec_ended code) (λ x h. low) s.execs fit.5))))))

pub tells_end_execs : {n : ℕ} {P : FoldRow → Container → Type 0} (m : ℕ) → Tells n P (end_execs m) P
tells_end_execs m = tells_at (λ s. each (λ (x : Exec). end_exec 137 x.number) (running_execs m s)) (λ s. tells_each (λ (x : Exec). tells_end_exec 137 x.number (omega arith)) (running_execs m s))

-- ---- the die

-- after a die with that code
abbrev Told : ℕ → FoldRow → Container → Type 0
Told code r c = (r.name ≡ c.name) × (r.live ≡ false) × (r.paused ≡ false) × (r.code ≡ code) × (is_paused c.life.status ≡ false)

die_read : (code : ℕ) → code < 2 ^ 64 → (c : Container) (t : ℕ) → exit_code (die_event code c t) ≡ code
die_read code low c t = (decimal_is_IsNumeral code low).1

tells_die_event : (code n : ℕ) → code < 2 ^ 64 → Tells n Awake (tell_of (die_event code) n) (Told code)
tells_die_event code n low =
    tells_row (die_event code) (λ c t r. record r { live = false; paused = false; code = exit_code (die_event code c t) }) (λ c t rs. refl)
    (λ r c t id h. (id, (ap (λ (x : FoldRow). x.name) h.0, refl, refl, die_read code low c t, h.1)))

died : (code : ℕ) (s : State) (r : FoldRow) (c : Container) → r.id ≡ c.id → Told code r c → Awake r (made (λ name. name) (ended code s.clock) c)
died code s r c id h = (row_is r (made (λ name. name) (ended code s.clock) c) id h.0 h.1 (h.2 ∙ sym h.4) h.3, h.4)

tells_die : (code n : ℕ) → code < 256 → Tells n (Told code) (die code n) Awake
tells_die code n low =
    let gone : Tells n (Told code) (change (drop_process (OfContainer n))) (Told code) =
    tells_apart (drop_process (OfContainer n)) (λ s. refl) (λ s fit. (fit.0, fit.1, fit.2, all_without (OfContainer n) s.processes fit.3, fit.4, fit.5)) in
    let ends : Tells n (Told code) (λ s. renew n (ended code s.clock) s) Awake =
    tells_renew (λ s. ended code s.clock) (λ s l h. (low, h.1, h.2)) (λ s fit r c id h. died code s r c id h) in
    let both = tells_then gone ends in
    record { holds = λ s rows fit beside. both.holds s rows fit beside }

-- ---- what follows

-- the summary of a container that isn't paused
pub calm : (c : Container) → is_paused c.life.status ≡ false
    → summary_row c ≡ record { id = c.id; name = c.name; live = not (c.life.pid == 0); paused = false; code = c.life.code }
calm c e = λ i. record { id = c.id; name = c.name; live = not (c.life.pid == 0); paused = e i; code = c.life.code }

-- a change to a status that isn't paused
pub awake_renew : {n : ℕ} (f : Life → Life) → ((l : Life) → IsLifeInRange l → IsLifeInRange (f l))
    → ((c : Container) → summary_row (made (λ name. name) f c) ≡ record { id = c.id; name = c.name; live = not (c.life.pid == 0); paused = false; code = c.life.code })
    → ((l : Life) → is_paused (f l).status ≡ false) → Tells n Awake (renew n f) Awake
awake_renew f keeps same calms = tells_renew (λ s. f) (λ s l. keeps l) (λ s fit r c id h. (h.0 ∙ (calm c h.1 ∙ sym (same c)), calms c.life))

-- a change that the summary doesn't see
pub awake_mark : {n : ℕ} (f : Life → Life) → ((l : Life) → IsLifeInRange l → IsLifeInRange (f l))
    → ((c : Container) → summary_row (made (λ name. name) f c) ≡ summary_row c) → ((l : Life) → (f l).status ≡ l.status) → Tells n Awake (renew n f) Awake
awake_mark f keeps same stays =
    tells_renew (λ s. f) (λ s l. keeps l) (λ s fit r c id h. (h.0 ∙ sym (same c), ap is_paused (stays c.life) ∙ h.1))

tells_removed_if : (auto : Bool) (n : ℕ) → Tells n Awake (removed_if auto n) Awake
tells_removed_if true n = tells_destroy n Awake Awake
tells_removed_if false n = tells_still

tells_follow : (d : Decision) (auto : Bool) (n : ℕ) → Tells n Awake (follow d auto n) Awake
tells_follow Stay auto n = tells_then (awake_renew exited (λ l h. h) (λ c. refl) (λ l. refl)) (tells_removed_if auto n)
tells_follow (Again delay) auto n =
    tells_then (awake_renew (restarting delay) (λ l h. h) (λ c. refl) (λ l. refl)) (tells_apart (λ s. set_timer Rank.RestartTimer n (s.clock + delay) s) (λ s. refl) (λ s fit. fit))

tells_by_goal : (g : Goal) (c : Container) → Tells c.number Awake (by_goal g c) Awake
tells_by_goal Goal.Remove c = tells_destroy c.number Awake Awake
tells_by_goal Goal.Stop c =
    tells_then (awake_renew exited (λ l h. h) (λ c. refl) (λ l. refl))
    (tells_then (tells_quiet c.number (plain_event Stop) (λ c t rs. refl)) (tells_removed_if c.life.auto_remove c.number))
tells_by_goal Goal.Restart c =
    tells_then (tells_quiet c.number (plain_event Stop) (λ c t rs. refl))
    (tells_then (tells_launch_by_call c.number) (tells_quiet c.number (plain_event Restart) (λ c t rs. refl)))
tells_by_goal Goal.None c =
    tells_at (λ s. follow (decision_at s.clock c.life) c.life.auto_remove c.number) (λ s. tells_follow (decision_at s.clock c.life) c.life.auto_remove c.number)

tells_by_status : (u : Status) (c : Container) → Tells c.number Awake (by_status u c) Awake
tells_by_status Status.Dead c = tells_still
tells_by_status Status.Created c = tells_by_goal c.life.goal c
tells_by_status Status.Running c = tells_by_goal c.life.goal c
tells_by_status Status.Paused c = tells_by_goal c.life.goal c
tells_by_status Status.Restarting c = tells_by_goal c.life.goal c
tells_by_status Status.Removing c = tells_by_goal c.life.goal c
tells_by_status Status.Exited c = tells_by_goal c.life.goal c

tells_decided : (n : ℕ) → Tells n Awake (with_container n (λ c. by_status c.life.status c)) Awake
tells_decided n =
    tells_with (λ c. by_status c.life.status c)
    (λ c is. subst (λ m. Tells m (Is c Awake) (by_status c.life.status c) Awake) is (tells_from (λ r d id h. h.1) (tells_by_status c.life.status c)))

pub tells_end_main : (code n : ℕ) → code < 256 → Tells n Awake (end_main code n) Awake
tells_end_main code n low =
    tells_then (tells_end_execs n)
    (tells_then (tells_die_event code n (omega (arith, low)))
    (tells_then (tells_die code n low)
    (tells_then (tells_apart (clear_deadlines n) (λ s. refl) (λ s fit. fit))
    (tells_then (tells_mounts n Unmount)
    (tells_then (tells_decided n)
    (tells_then (awake_mark no_goal (λ l h. h) (λ c. refl) (λ l. refl)) tells_still))))))
