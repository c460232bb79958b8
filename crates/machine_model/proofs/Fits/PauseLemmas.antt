-- What fits still fits behind a pause.
use Rattle.std.proofs.Common.{◌≡◌, ℕ, Bool, true, false, List, Option, Some, None, refl, ap, sym, ◌∙◌, subst}
use Rattle.std.specs.Prelude.{option_map, is_some}
use Rattle.api_json.specs.Status.{is_paused, is_restarting}
use Rattle.proc_kernel.specs.Processes.{Process, freeze, frozen_pace, is_frozen}
use Rattle.machine_model.specs.State.{State, container_numbered, change_process, change_life}
use Rattle.machine_model.specs.Outcome.{at_reference}
use Rattle.machine_model.specs.Chain.{change, tell_of}
use Rattle.machine_model.specs.EventTexts.{plain_event}
use Rattle.machine_model.specs.Consistency.{FitsStatus, IsFrozenAs}
use Rattle.machine_model.specs.Calls.Pause as pause
use Rattle.machine_model.specs.Calls.Pause.{paused, freeze_process, freeze_execs}
use Rattle.machine_model.proofs.Fits.PartLemmas.{parts_of, Steady, Leads, leads_from, IcyAs}
use Rattle.machine_model.proofs.Fits.MainPartLemmas.{leads_process}
use Rattle.machine_model.proofs.Fits.LaunchLemmas.{Fine, Up, OnBy, On, Local, on_weaker, on_here, never, mapped_by, live_started}
use Rattle.machine_model.proofs.Fits.MeetLemmas.{Halted, Loose, loose}
use Rattle.machine_model.proofs.Processes.LimitLemmas.{freeze_fits}
use Rattle.machine_model.proofs.Fits.ExecLoopLemmas.{told_state}
use Rattle.machine_model.proofs.Fits.ExecPhaseLemmas.{loosen, tighten, renew_loosely, freeze_all}
use Rattle.machine_model.proofs.Fits.CallLemmas.{PartsFit, mains_found, mains_at, fine_of}
use Rattle.engine_text.specs.declared.owner.Owner.TheVariants.{Container as OfContainer}
use Rattle.engine_text.specs.declared.container.Container.{Container}
use Rattle.engine_text.specs.declared.container.Life.{Life}
use Rattle.engine_text.specs.declared.script.Pace.{Pace}
use Rattle.engine_text.specs.declared.script.Pace.TheVariants.{Running as Goes, Frozen}
use Rattle.engine_text.specs.declared.status.Status.{Status}
use Rattle.engine_text.specs.declared.event.Action.TheVariants as Action

abbrev Ran : Life → Option Process → Bool → Bool → Bool → Type 0
Ran l p a b c = Up l p a b c × (l.status ≡ Status.Running)

abbrev Iced : Life → Option Process → Bool → Bool → Bool → Type 0
Iced l p a b c = Loose l p a b c × IsFrozenAs true p × (l.status ≡ Status.Running)

frozen_so : (t : ℕ) (pace : Pace) → is_frozen (frozen_pace t pace) ≡ true
frozen_so t (Goes due) = refl
frozen_so t (Frozen left) = refl

ices : (t : ℕ) (o : Option Life) (p : Option Process) (a b c : Bool) → OnBy Ran o p a b c → OnBy Iced o (option_map (freeze t) p) a b c
ices t None p a b c h = (ap (option_map (freeze t)) h.0, h.1, h.2, h.3)
ices t (Some l) None a b c h = (loose l None a b c h.0, tt, h.1)
ices t (Some l) (Some q) a b c h = (loose l (Some q) a b c h.0, frozen_so t q.pace, h.1)

apart : Status.Running ≡ Status.Removing → ⊥
apart e = let no_way : list_tells Status.Running ≡ list_tells Status.Removing = ap list_tells e in absurd (cc)
  where
    list_tells : Status → Bool
    list_tells Status.Running = true
    list_tells u = false

pauses : (l : Life) (p : Option Process) (a b c : Bool) → Iced l p a b c → Fine (paused l) p a b c
pauses l p a b c h =
    let k = h.0 in (
      record {
        status = subst (λ u. FitsStatus u (is_some p)) h.2 k.0;
        frozen = h.1;
        pid = k.1;
        stop = k.2;
        removal = λ e. absurd (apart (sym h.2 ∙ (k.3 e).1));
        restart = k.4 ∙ ap is_restarting h.2;
        program = k.5;
        again = k.6;
        started = λ other. live_started l (is_some p) (subst (λ u. FitsStatus u (is_some p)) h.2 k.0) k.0 k.9;
      },
      k.7,
    )

icy_halted : (o : Option Life) (p : Option Process) (a b c : Bool) (q : Process) → is_some p ≡ true → is_frozen q.pace ≡ true → OnBy Halted o p a b c → IcyAs o q
icy_halted None p a b c q live icy h = never (is_some p) (ap is_some h.0) live
icy_halted (Some l) p a b c q live icy h = icy ∙ sym (ap is_paused h.1)

leads_pause : (n : ℕ) → Leads Local n (On Ran) (pause.pause n) (On Fine)
leads_pause n =
    let main : Leads Local n (On Ran) (change (λ s. change_process (OfContainer n) (freeze s.clock) s)) (On Iced) =
    leads_process (λ s. freeze s.clock) (λ s v h. ices s.clock v.life v.main v.stop v.removal v.restart h) (λ s q. (freeze_fits s.clock q).room) in
    record {
      holds = λ s h.
          let t : State = change_process (OfContainer n) (freeze s.clock) s in
          let all = freeze_all Local n (On Iced) t (loosen Local n (On Iced) t (main.holds s h)) in
          let u : State = (freeze_execs n t).state in
          let w : State = change_life n paused u in
          let renewed = renew_loosely Local n (On Iced) (On Halted) paused
          (λ v k. mapped_by Iced Halted paused (λ l p a b c k. (pauses l p a b c k, refl)) v.life v.main v.stop v.removal v.restart k) (λ l. refl) u all.0 in
          let tight : Steady Local n (On Halted) w = tighten Local n (On Halted) w
          (λ m x q e c f live halted. icy_halted (parts_of n w).life (parts_of n w).main (parts_of n w).stop (parts_of n w).removal (parts_of n w).restart q live (all.1 m x e c q f) halted) renewed in
          let told : Steady Local n (On Halted) (tell_of (plain_event Action.Pause) n w).state = subst (Steady Local n (On Halted)) (sym (told_state (plain_event Action.Pause) n w)) tight in
          (told.0, told.1, on_weaker Halted Fine (λ l p a b c k. k.0) (parts_of n (tell_of (plain_event Action.Pause) n w).state) told.2);
    }

pause_by : (s : State) (c : Container) (u : Status) → container_numbered c.number s ≡ Some c → c.life.status ≡ u → PartsFit s → PartsFit (pause.by_status u c s).effect.state
pause_by s c Status.Running found is h =
    mains_found s c (pause.pause c.number) found (leads_from (λ v k. on_here Ran v (c.life, k.0, ((fine_of c v k, ap is_paused is), is))) (leads_pause c.number)) h
pause_by s c Status.Created found is h = h
pause_by s c Status.Paused found is h = h
pause_by s c Status.Restarting found is h = h
pause_by s c Status.Removing found is h = h
pause_by s c Status.Exited found is h = h
pause_by s c Status.Dead found is h = h

pub pause_mains : (target : List ℕ) (s : State) → PartsFit s → PartsFit (at_reference target pause.pause_outcome s).effect.state
pause_mains target s h = mains_at s target (λ c. pause.by_status c.life.status c) (λ c found. pause_by s c c.life.status found refl h) h
