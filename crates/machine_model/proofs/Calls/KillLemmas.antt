-- What a kill obeys.
use Rattle.std.proofs.Common.{◌≡◌, ℕ, ◌==◌, Bool, true, false, List, [], ◌∷◌, Option, Some, None, refl, ap, sym, ◌∙◌, subst, ◌<◌, if◌then◌else◌}
use Rattle.proc_kernel.specs.Processes.{Process, ProcessStep, signal as signalled, is_frozen, lives, set_waiting}
use Rattle.proc_kernel.specs.Tables.{effect_of, process_of}
use Rattle.api_json.specs.Status.{is_paused}
use Rattle.machine_model.specs.State.{State, container_numbered}
use Rattle.machine_model.specs.Chain.{Effect, still, change, and_then, each, renew, tell_of, after, tell, with_found}
use Rattle.machine_model.specs.Call.{outcome_of}
use Rattle.machine_model.specs.EventTexts.{kill_event}
use Rattle.machine_model.specs.Consistency.{IsFrozenAs, IsFrozenRight}
use Rattle.machine_model.specs.Effects.Cancel.{cancel_restart}
use Rattle.machine_model.specs.Effects.Meet.{send, stepped, by_effect}
use Rattle.machine_model.specs.Calls.Kill.{is_final, by_hand, deliver, kill_running, kill_restarting, by_status}
use Rattle.machine_model.proofs.Fold.RowLemmas.{Same}
use Rattle.machine_model.proofs.Fold.TellLemmas.{Tells, Folded, tells_then, tells_from, tells_quiet, folded_at}
use Rattle.machine_model.proofs.ObeyLemmas.{Stands, Obeys, obeys_answer, obeys_found, obeys_at, both_true, low_signal, found_all}
use Rattle.machine_model.proofs.Effects.LaunchLemmas.{Awake, awake_same}
use Rattle.machine_model.proofs.Effects.MeetLemmas.{awake_if, tells_send, tells_meet}
use Rattle.machine_model.proofs.Processes.CodeLemmas.{all_changed, coded_signal}
use Rattle.machine_model.proofs.Effects.CancelLemmas.{tells_cancel}
use Rattle.machine_model.proofs.Effects.HaltLemmas.{same_mark}
use Rattle.engine_text.specs.declared.call.Call.{Call}
use Rattle.engine_text.specs.declared.container.Container.{Container}
use Rattle.engine_text.specs.declared.reply.Reply.{Reply}
use Rattle.engine_text.specs.declared.status.Status.{Status}
use Rattle.engine_text.specs.declared.owner.Owner.TheVariants.{Container as OfContainer}
use Rattle.engine_text.specs.declared.script.Effect.{Effect as ProcessEffect}
use Rattle.engine_text.specs.declared.script.Effect.TheVariants.{Lives}
use Rattle.engine_text.specs.declared.signal.Signal.{Signal}

-- ---- a signal that waits in a frozen process

waits_by : (b : Bool) (number t : ℕ) (p : Process) (x : ProcessStep) → b ≡ true
    → (if b then lives (set_waiting number true p) else x).effect ≡ Lives
waits_by true number t p x e = refl
waits_by false number t p x e = absurd (cc)

waits : (number t : ℕ) (o : Option Process) → IsFrozenAs true o → effect_of (signalled number false t) o ≡ Lives
waits number t None h = refl
waits number t (Some p) h = waits_by (is_frozen p.pace) number t p _ h

-- the kill of a paused container by a signal that doesn't end it
folded_waiting : (s : State) (c : Container) (number : ℕ) → number < 128 → Stands s → container_numbered c.number s ≡ Some c → is_paused c.life.status ≡ true
    → Folded s (and_then (tell_of (kill_event number) c.number) (send false number c.number) s)
folded_waiting s c number low h found is =
    let n : ℕ = c.number in
    let frozen : IsFrozenAs (is_paused c.life.status) (process_of (OfContainer n) s.processes) = found_all (IsFrozenRight s) (λ d. d.number == n) c s.containers found h.frozen in
    let lives : effect_of (signalled number false s.clock) (process_of (OfContainer n) s.processes) ≡ Lives =
    waits number s.clock (process_of (OfContainer n) s.processes) (subst (λ b. IsFrozenAs b (process_of (OfContainer n) s.processes)) is frozen) in
    let told : tell_of (kill_event number) n s ≡ tell (kill_event number c s.clock ∷ []) s = ap (λ o. with_found o (λ c s. tell (kill_event number c s.clock ∷ []) s) s) found in
    let t : State = stepped (signalled number false) (OfContainer n) s in
    let coded = all_changed (OfContainer n) (λ p. (signalled number false s.clock p).process) (λ p k. (coded_signal number false low s.clock p k).process) s.processes h.fit.3 in
    let still : Folded s (after (tell (kill_event number c s.clock ∷ []) s) (after (still t) (by_effect Lives (OfContainer n) t))) = (refl, (h.fit.2, coded, h.fit.4, h.fit.5)) in
    let sent : Folded s (after (tell (kill_event number c s.clock ∷ []) s) (send false number n s)) =
    subst (λ (e : ProcessEffect). Folded s (after (tell (kill_event number c s.clock ∷ []) s) (after (Rattle.machine_model.specs.Chain.still t) (by_effect e (OfContainer n) t)))) (sym lives) still in
    subst (λ (x : Effect). Folded s (after x (send false number n x.state))) (sym told) sent

-- ---- the kill

abbrev the_kill : Signal → Container → Bool → State → Effect
the_kill signal c final = and_then (tell_of (kill_event signal.number) c.number) (deliver final signal.number c.number)

-- by whether the container is paused, and whether the signal ends it
folded_kill : (s : State) (c : Container) (signal : Signal) (final paused : Bool) → signal.number < 128 → Stands s → container_numbered c.number s ≡ Some c
    → is_paused c.life.status ≡ paused → Folded s (the_kill signal c final s)
folded_kill s c signal true paused low h found e =
    let marks : Tells c.number Same (renew c.number by_hand) Same = same_mark by_hand (λ l h. h) (λ c. refl) in
    folded_at c Awake (the_kill signal c true) s awake_same found
    (tells_from (λ r d id h. h.1)
    (tells_then (tells_quiet c.number (kill_event signal.number) (λ c t rs. refl)) (tells_then marks (tells_meet signal.number c.number low)))) h.fit
folded_kill s c signal false true low h found e = folded_waiting s c signal.number low h found e
folded_kill s c signal false false low h found e =
    folded_at c Awake (the_kill signal c false) s awake_same found
    (tells_from (λ r d id k. (k.1, ap (λ (x : Container). is_paused x.life.status) k.0 ∙ e))
    (tells_then (tells_quiet c.number (kill_event signal.number) (λ c t rs. refl)) (tells_send false signal.number c.number low))) h.fit

kills : (target : List ℕ) (signal : Signal) (s : State) (c : Container) → container_numbered c.number s ≡ Some c → Obeys (Call.Kill target signal) s (kill_running signal c s)
kills target signal s c found = record {
  folds = λ h sound. folded_kill s c signal (is_final signal c) (is_paused c.life.status) (low_signal signal (both_true _ _ sound).1) h found refl;
  reply = λ h. refl;
}

cancels : (target : List ℕ) (signal : Signal) (s : State) (c : Container) (final : Bool) → container_numbered c.number s ≡ Some c → c.life.status ≡ Status.Restarting
    → Obeys (Call.Kill target signal) s (kill_restarting final signal c s)
cancels target signal s c false found e = obeys_answer (Call.Kill target signal) s 409 _ refl
cancels target signal s c true found e =
    obeys_found (Call.Kill target signal) s c (Reply.Answer 204 []) (and_then (tell_of (kill_event signal.number) c.number) (cancel_restart c.number)) Awake found refl awake_same
    (λ h sound. tells_from (awake_if Status.Restarting c e refl) (tells_then (tells_quiet c.number (kill_event signal.number) (λ c t rs. refl)) (tells_cancel c.number)))

by : (target : List ℕ) (signal : Signal) (s : State) (c : Container) (u : Status) → container_numbered c.number s ≡ Some c → c.life.status ≡ u
    → Obeys (Call.Kill target signal) s (by_status u signal c s)
by target signal s c Status.Created found e = obeys_answer (Call.Kill target signal) s 409 _ refl
by target signal s c Status.Running found e = kills target signal s c found
by target signal s c Status.Paused found e = kills target signal s c found
by target signal s c Status.Restarting found e = cancels target signal s c (is_final signal c) found e
by target signal s c Status.Removing found e = obeys_answer (Call.Kill target signal) s 409 _ refl
by target signal s c Status.Exited found e = obeys_answer (Call.Kill target signal) s 409 _ refl
by target signal s c Status.Dead found e = obeys_answer (Call.Kill target signal) s 409 _ refl

pub kill_obeys : (target : List ℕ) (signal : Signal) (connection : ℕ) (s : State) → Obeys (Call.Kill target signal) s (outcome_of (Call.Kill target signal) connection s)
kill_obeys target signal connection s =
    obeys_at (Call.Kill target signal) s target (λ c. by_status c.life.status signal c) refl refl (λ c found. by target signal s c c.life.status found refl)
