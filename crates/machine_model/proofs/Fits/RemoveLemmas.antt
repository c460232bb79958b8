-- What fits still fits behind a removal.
use Rattle.std.specs.Option.{is_some}
use Rattle.std.proofs.Common.{◌≡◌, ℕ, ◌+◌, Bool, true, false, List, Option, Some, None, refl, ap, sym, ◌∙◌, subst}
use Rattle.api_json.specs.Status.{is_restarting}
use Rattle.container_table.specs.Timers.{with_timer}
use Rattle.proc_kernel.specs.Processes.{Process}
use Rattle.machine_model.specs.State.{State, container_numbered, is_live}
use Rattle.machine_model.specs.Outcome.{at_reference}
use Rattle.machine_model.specs.Chain.{change, and_then, renew}
use Rattle.machine_model.specs.EventTexts.{kill_event}
use Rattle.machine_model.specs.Tickets.{begun}
use Rattle.machine_model.specs.Consistency.{FitsStatus, IsFrozenAs, GoalStands}
use Rattle.machine_model.specs.Effects.Destroy.{destroy}
use Rattle.machine_model.specs.Effects.Cancel.{cancel_restart}
use Rattle.machine_model.specs.Calls.Remove as remove
use Rattle.machine_model.specs.Calls.Remove.{to_remove, removing, if_it_lives, kill_to_remove, remove_running, remove_restarting, remove_dead}
use Rattle.machine_model.proofs.Fits.PartLemmas.{Parts, parts_of, life_of, Steady, Leads, leads_then, leads_from, leads_to, leads_tell}
use Rattle.machine_model.proofs.Fits.TimerPartLemmas.{leads_set_2, timed}
use Rattle.machine_model.proofs.Fits.LaunchLemmas.{Calm, Fine, Up, Live, Bare, OnBy, On, Here, Local, on_weaker, on_here, here_renew, leads_destroy, goal_live, live_started}
use Rattle.machine_model.proofs.Fits.MeetLemmas.{Alive, marked, leads_meet, leads_cancel}
use Rattle.machine_model.proofs.Fits.EndMainLemmas.{live_rests}
use Rattle.machine_model.proofs.Fits.CallLemmas.{PartsFit, whole, mains_found, mains_at, to_bare, to_alive, to_resting, up_fine}
use Rattle.engine_text.specs.declared.owner.Owner.TheVariants.{Container as OfContainer}
use Rattle.engine_text.specs.declared.container.Container.{Container}
use Rattle.engine_text.specs.declared.container.Life.{Life}
use Rattle.engine_text.specs.declared.status.Status.{Status}
use Rattle.engine_text.specs.declared.ticket.Asked.{Asked}

removes_by : (l : Life) (p : Option Process) (a b c : Bool) → Live l p a b c → Up (removing l) p a true c
removes_by l p a b c h =
    let calm : Calm l p a b c = h.0.0.0 in (
      (
        record {
          status = h.1;
          frozen = subst (λ x. IsFrozenAs x p) h.0.1 calm.frozen;
          pid = calm.pid;
          stop = calm.stop;
          removal = λ e. (h.1, refl);
          restart = live_rests l.status c (subst (FitsStatus l.status) h.1 calm.status) calm.restart;
          program = calm.program;
          again = calm.again;
          started = λ other. live_started l (is_some p) h.1 calm.status calm.started;
        },
        subst (GoalStands l.goal) (sym h.1) (goal_live l.goal),
      ),
      refl,
    )

-- before its deadline is set
abbrev Going : Life → Option Process → Bool → Bool → Bool → Type 0
Going l p a b c = Up l p a true c

lives_by : (o : Option Life) (p : Option Process) (a b c : Bool) → is_some p ≡ true → OnBy Up o p a b c → (l : Life) × (o ≡ Some l) × Live l p a b c
lives_by None p a b c live h = let no_way : true ≡ false = sym live ∙ ap is_some h.0 in absurd (cc)
lives_by (Some l) p a b c live h = (l, refl, (h, live))

leads_if_it_lives : (b : Bool) (n : ℕ) (s : State) → is_live (OfContainer n) s ≡ b → Steady Local n (On Up) s → Steady Local n (On Up) (if_it_lives b n s).state
leads_if_it_lives false n s e h = h
leads_if_it_lives true n s e h =
    let marks : Leads Local n (Here Live) (renew n removing) (Here Going) = here_renew Live Going (λ s. removing) (λ s pid l p a b c k. removes_by l p a b c k) (λ s l p a b c k. sym k.0.1) (λ s l. refl) in
    let sets : Leads Local n (Here Going) (change (λ s. record s { timers = with_timer (s.clock + 10000) 2 n s.timers })) (On Up) =
    leads_set_2 (λ s. s.clock + 10000) (λ v k. on_here Up (timed v.stop true v.restart v) (k.0, k.1, k.2)) in
    (leads_then marks sets).holds s (h.0, h.1, lives_by (parts_of n s).life (parts_of n s).main (parts_of n s).stop (parts_of n s).removal (parts_of n s).restart e h.2)

leads_to_remove : (n : ℕ) → Leads Local n (Here Alive) (kill_to_remove n) (On Up)
leads_to_remove n =
    let marks : Leads Local n (Here Alive) (renew n to_remove) (Here Alive) =
    here_renew Alive Alive (λ s. to_remove) (λ s pid l p a b c k. marked to_remove (record { status = λ l. refl; pid = λ l. refl; words = λ l. refl; log = λ l. refl; starts = λ l. refl }) l p a b c k) (λ s l p a b c k. refl) (λ s l. refl) in
    let lives : Leads Local n (On Up) (λ s. if_it_lives (is_live (OfContainer n) s) n s) (On Up) = record { holds = λ s h. leads_if_it_lives (is_live (OfContainer n) s) n s refl h } in
    leads_then (leads_tell n (kill_event 9))
    (leads_then marks (leads_then (leads_from (λ v h. on_weaker Alive Fine (λ l p x y z k. k.0) v (on_here Alive v h)) (leads_meet 9 n)) lives))

remove_gone : (s : State) (c : Container) (u : Status) → container_numbered c.number s ≡ Some c → c.life.status ≡ u → ((v : Parts) → v.main ≡ (parts_of c.number s).main → FitsStatus u (is_some v.main) → is_some v.main ≡ false)
    → is_restarting u ≡ false → PartsFit s → PartsFit (destroy c.number s).state
remove_gone s c u found is dead calm h =
    let n : ℕ = c.number in
    whole n (destroy n s).state ((leads_destroy {R = Fine} n).holds s (h.0, λ m other. h.1 m, to_bare c u (parts_of n s) is (dead (parts_of n s) refl) calm (ap life_of found, h.1 n)))

remove_runs : (s : State) (force : Bool) (connection : ℕ) (c : Container) (u : Status) → container_numbered c.number s ≡ Some c → c.life.status ≡ u → ((live : Bool) → FitsStatus u live → live ≡ true)
    → PartsFit s → PartsFit (remove_running force connection c s).effect.state
remove_runs s false connection c u found is lives h = h
remove_runs s true connection c u found is lives h =
    let t : State = begun connection c.number Asked.Remove s in
    mains_found t c (kill_to_remove c.number) found (leads_from (λ v k. to_alive c u v is (λ fits. lives (is_some v.main) fits) k) (leads_to up_fine (leads_to_remove c.number))) h

remove_rests : (s : State) (force : Bool) (c : Container) → container_numbered c.number s ≡ Some c → c.life.status ≡ Status.Restarting → PartsFit s → PartsFit (remove_restarting force c s).effect.state
remove_rests s false c found is h = h
remove_rests s true c found is h =
    mains_found s c (and_then (cancel_restart c.number) (destroy c.number)) found
    (leads_from (λ v k. to_resting c v is k)
    (leads_then (leads_to (λ v k. on_here Bare v (k.0, k.1, (k.2.0.1, k.2.0.2, k.2.0.3, k.2.0.4))) (leads_cancel c.number)) (leads_destroy c.number))) h

remove_by_dead : (s : State) (c : Container) (b : Bool) → is_live (OfContainer c.number) s ≡ b → container_numbered c.number s ≡ Some c → c.life.status ≡ Status.Dead → PartsFit s
    → PartsFit (remove_dead b c s).effect.state
remove_by_dead s c true e found is h = h
remove_by_dead s c false e found is h = remove_gone s c Status.Dead found is (λ v same fits. ap is_some same ∙ e) refl h

remove_by : (s : State) (force : Bool) (connection : ℕ) (c : Container) (u : Status) → container_numbered c.number s ≡ Some c → c.life.status ≡ u → PartsFit s
    → PartsFit (remove.by_status u force connection c s).effect.state
remove_by s force connection c Status.Created found is h = remove_gone s c Status.Created found is (λ v same fits. fits) refl h
remove_by s force connection c Status.Running found is h = remove_runs s force connection c Status.Running found is (λ live fits. fits) h
remove_by s force connection c Status.Paused found is h = remove_runs s force connection c Status.Paused found is (λ live fits. fits) h
remove_by s force connection c Status.Restarting found is h = remove_rests s force c found is h
remove_by s force connection c Status.Removing found is h = h
remove_by s force connection c Status.Exited found is h = remove_gone s c Status.Exited found is (λ v same fits. fits) refl h
remove_by s force connection c Status.Dead found is h = remove_by_dead s c (is_live (OfContainer c.number) s) refl found is h

pub remove_mains : (connection : ℕ) (target : List ℕ) (force : Bool) (s : State) → PartsFit s → PartsFit (at_reference target (remove.remove_outcome connection force) s).effect.state
remove_mains connection target force s h =
    mains_at s target (λ c. remove.by_status c.life.status force connection c) (λ c found. remove_by s force connection c c.life.status found refl h) h
