-- What fits still fits behind a kill.
use Rattle.std.proofs.Common.{◌≡◌, ℕ, Bool, true, false, List, Option, Some, None, if◌then◌else◌, refl, ap, sym, ◌∙◌, subst, arith}
use Rattle.std.specs.Prelude.{option_map}
use Rattle.api_json.specs.Status.{is_paused}
use Rattle.proc_kernel.specs.Processes.{Process, ProcessStep, is_frozen, lives, set_waiting, signal as signalled}
use Rattle.proc_kernel.specs.Tables.{effect_of, process_of}
use Rattle.machine_model.specs.State.{State, container_numbered, change_process}
use Rattle.machine_model.specs.Outcome.{at_reference}
use Rattle.machine_model.specs.Chain.{change, and_then, renew, tell_of}
use Rattle.machine_model.specs.EventTexts.{kill_event}
use Rattle.machine_model.specs.Consistency.{IsFrozenAs}
use Rattle.machine_model.specs.Effects.Cancel.{cancel_restart}
use Rattle.machine_model.specs.Effects.Meet.{send, stepped, by_effect}
use Rattle.machine_model.specs.Calls.Kill as kill
use Rattle.machine_model.specs.Calls.Kill.{is_final, by_hand, deliver, kill_running, kill_restarting}
use Rattle.machine_model.specs.Calls.Pause.{paused}
use Rattle.machine_model.proofs.Fits.PartLemmas.{Parts, parts_of, Steady, Leads, leads_then, leads_from, leads_to, leads_tell, Stood}
use Rattle.machine_model.proofs.Fits.MainPartLemmas.{leads_process}
use Rattle.machine_model.proofs.Fits.LaunchLemmas.{Fine, Up, OnBy, On, Here, Local, on_weaker, on_here, here_renew, never}
use Rattle.machine_model.proofs.Fits.MeetLemmas.{Alive, Halted, marked, leads_meet, leads_send, leads_cancel}
use Rattle.machine_model.proofs.Processes.LimitLemmas.{signal_fits}
use Rattle.machine_model.proofs.Fits.CallLemmas.{PartsFit, mains_found, mains_at, fine_of, up_fine, to_alive, to_resting, cancelled_up}
use Rattle.engine_text.specs.declared.owner.Owner.TheVariants.{Container as OfContainer}
use Rattle.engine_text.specs.declared.container.Container.{Container}
use Rattle.engine_text.specs.declared.container.Life.{Life}
use Rattle.engine_text.specs.declared.script.Effect.{Effect as ProcessEffect}
use Rattle.engine_text.specs.declared.signal.Signal.{Signal}
use Rattle.engine_text.specs.declared.status.Status.{Status}

-- a signal that waits
waits_so : (number t : ℕ) (q : Process) → is_frozen q.pace ≡ true → signalled number false t q ≡ lives (set_waiting number true q)
waits_so number t q e = waits_by (is_frozen q.pace) _ e
  where
    waits_by : (b : Bool) (x : ProcessStep) → b ≡ true → (if b then lives (set_waiting number true q) else x) ≡ lives (set_waiting number true q)
    waits_by true x e = refl
    waits_by false x e = absurd (cc)

halted_frozen : (o : Option Life) (p : Option Process) (a b c : Bool) (q : Process) → p ≡ Some q → OnBy Halted o p a b c → is_frozen q.pace ≡ true
halted_frozen None p a b c q e h = let no_way : None ≡ Some q = sym h.0 ∙ e in absurd (cc)
halted_frozen (Some l) p a b c q e h = subst (λ u. IsFrozenAs (is_paused u) (Some q)) h.1 (subst (IsFrozenAs (is_paused l.status)) e h.0.0.frozen)

wait_by : (number n : ℕ) (s : State) (o : Option Process) → process_of (OfContainer n) s.processes ≡ o → Steady Local n (On Halted) s
    → Steady Local n (On Fine) (and_then (change (stepped (signalled number false) (OfContainer n))) (by_effect (effect_of (signalled number false s.clock) o) (OfContainer n)) s).state
wait_by number n s None e h =
    let moved : Leads Local n (λ v. On Fine v × (v.main ≡ None)) (change (λ s. change_process (OfContainer n) (λ p. (signalled number false s.clock p).process) s)) (On Fine) =
    leads_process (λ s p. (signalled number false s.clock p).process)
    (λ s v k. subst (λ x. OnBy Fine v.life x v.stop v.removal v.restart) (k.1 ∙ sym (ap (option_map (λ p. (signalled number false s.clock p).process)) k.1)) k.0)
    (λ s q. let r = (signal_fits number false s.clock q).room in omega (arith, r)) in
    moved.holds s (h.0, h.1, (on_weaker Halted Fine (λ l p a b c k. k.0) (parts_of n s) h.2, e))
wait_by number n s (Some q) e h =
    let f : Process → Process = λ p. (signalled number false s.clock p).process in
    let icy : is_frozen q.pace ≡ true = halted_frozen (parts_of n s).life (parts_of n s).main (parts_of n s).stop (parts_of n s).removal (parts_of n s).restart q e h.2 in
    let so : signalled number false s.clock q ≡ lives (set_waiting number true q) = waits_so number s.clock q icy in
    let t : State = change_process (OfContainer n) f s in
    let paces : is_frozen (f q).pace ≡ is_frozen q.pace = ap (λ (x : ProcessStep). is_frozen x.process.pace) so in
    let moved : Leads Local n (λ v. On Fine v × (v.main ≡ Some q) × (s.clock ≡ s.clock)) (change (λ x. change_process (OfContainer n) f x)) (On Fine) =
    leads_process (λ x. f) (λ x v k. one_paced v.life v.main v.stop v.removal v.restart f q paces k.1 k.0) (λ x p. let r = (signal_fits number false s.clock p).room in omega (arith, r)) in
    let after_move : Steady Local n (On Fine) t = moved.holds s (h.0, h.1, (on_weaker Halted Fine (λ l p a b c k. k.0) (parts_of n s) h.2, e, refl)) in
    subst (λ (x : ProcessEffect). Steady Local n (On Fine) (by_effect x (OfContainer n) t).state) (sym (ap (λ (x : ProcessStep). x.effect) so)) after_move
  where
    one_paced : (o : Option Life) (p : Option Process) (a b c : Bool) (f : Process → Process) (q : Process) → is_frozen (f q).pace ≡ is_frozen q.pace → p ≡ Some q → OnBy Fine o p a b c → OnBy Fine o (option_map f p) a b c
    one_paced None p a b c f q k e h = let no_way : None ≡ Some q = sym h.0 ∙ e in absurd (cc)
    one_paced (Some l) p a b c f q k e h =
        let fine : Fine l (Some q) a b c = subst (λ x. Fine l x a b c) e h in
        subst (λ x. Fine l x a b c) (sym (ap (option_map f) e)) ((
          record {
            status = fine.0.status;
            frozen = k ∙ fine.0.frozen;
            pid = fine.0.pid;
            stop = fine.0.stop;
            removal = fine.0.removal;
            restart = fine.0.restart;
            program = fine.0.program;
            again = fine.0.again;
            started = fine.0.started;
          },
          fine.1,
        ))

leads_wait : (number n : ℕ) → Leads Local n (On Halted) (send false number n) (On Fine)
leads_wait number n = record { holds = λ s h. wait_by number n s (process_of (OfContainer n) s.processes) refl h }

stood_up : (c : Container) (v : Parts) → is_paused c.life.status ≡ false → Stood c (On Fine) v → On Up v
stood_up c v calm h = on_here Up v (c.life, h.0, (fine_of c v h, calm))

kill_leads : (c : Container) (number : ℕ) (final icy : Bool) → is_paused c.life.status ≡ icy → (icy ≡ true → c.life.status ≡ Status.Paused) → ((v : Parts) → Stood c (On Fine) v → Here Alive v)
    → Leads Local c.number (Stood c (On Fine)) (and_then (tell_of (kill_event number) c.number) (deliver final number c.number)) (On Fine)
kill_leads c number true icy e paused alive =
    let marks : Leads Local c.number (Here Alive) (renew c.number by_hand) (Here Alive) =
    here_renew Alive Alive (λ s. by_hand) (λ s pid l p x y z k. marked by_hand (record { status = λ l. refl; pid = λ l. refl; words = λ l. refl; log = λ l. refl; starts = λ l. refl }) l p x y z k) (λ s l p x y z k. refl) (λ s l. refl) in
    leads_then (leads_tell c.number (kill_event number))
    (leads_from alive (leads_then marks (leads_to up_fine (leads_from (λ v h. on_weaker Alive Fine (λ l p x y z k. k.0) v (on_here Alive v h)) (leads_meet number c.number)))))
kill_leads c number false true e paused alive =
    leads_then (leads_tell c.number (kill_event number)) (leads_from (λ v h. on_here Halted v (c.life, h.0, (fine_of c v h, paused refl))) (leads_wait number c.number))
kill_leads c number false false e paused alive =
    leads_then (leads_tell c.number (kill_event number)) (leads_from (λ v h. stood_up c v e h) (leads_to up_fine (leads_send false number c.number)))

kill_rests : (s : State) (signal : Signal) (c : Container) (final : Bool) → container_numbered c.number s ≡ Some c → c.life.status ≡ Status.Restarting → PartsFit s
    → PartsFit (kill_restarting final signal c s).effect.state
kill_rests s signal c false found is h = h
kill_rests s signal c true found is h =
    mains_found s c (and_then (tell_of (kill_event signal.number) c.number) (cancel_restart c.number)) found
    (leads_then (leads_tell c.number (kill_event signal.number)) (leads_from (λ v k. to_resting c v is k) (leads_to cancelled_up (leads_cancel c.number)))) h

kill_by : (s : State) (signal : Signal) (c : Container) (u : Status) → container_numbered c.number s ≡ Some c → c.life.status ≡ u → PartsFit s → PartsFit (kill.by_status u signal c s).effect.state
kill_by s signal c Status.Running found is h =
    mains_found s c (and_then (tell_of (kill_event signal.number) c.number) (deliver (is_final signal c) signal.number c.number)) found
    (kill_leads c signal.number (is_final signal c) false (ap is_paused is) (λ e. never true (sym e) refl) (λ v k. to_alive c Status.Running v is (λ fits. fits) k)) h
kill_by s signal c Status.Paused found is h =
    mains_found s c (and_then (tell_of (kill_event signal.number) c.number) (deliver (is_final signal c) signal.number c.number)) found
    (kill_leads c signal.number (is_final signal c) true (ap is_paused is) (λ e. is) (λ v k. to_alive c Status.Paused v is (λ fits. fits) k)) h
kill_by s signal c Status.Restarting found is h = kill_rests s signal c (is_final signal c) found is h
kill_by s signal c Status.Created found is h = h
kill_by s signal c Status.Removing found is h = h
kill_by s signal c Status.Exited found is h = h
kill_by s signal c Status.Dead found is h = h

pub kill_mains : (target : List ℕ) (signal : Signal) (s : State) → PartsFit s → PartsFit (at_reference target (kill.kill_outcome signal) s).effect.state
kill_mains target signal s h = mains_at s target (λ c. kill.by_status c.life.status signal c) (λ c found. kill_by s signal c c.life.status found refl h) h
