-- The events of a step stand at its moment, and the moments of a history never fall.
use Rattle.std.specs.Option.{unwrap_or}
use Rattle.std.proofs.Common.{◌≡◌, ℕ, ◌≤◌, List, [], ◌∷◌, ◌++◌, Option, Some, None, map, not, refl, sym, ◌∙◌, arith}
use Rattle.std.specs.List.{AllByRecursion, list_any}
use Rattle.container_table.specs.Timers.{is_before}
use Rattle.machine_model.specs.State.{State}
use Rattle.machine_model.specs.Chain.{Effect, still}
use Rattle.machine_model.specs.Due.{due_actions, least_due, due_effect}
use Rattle.machine_model.specs.EventTexts.{mount_event}
use Rattle.machine_model.specs.History.{Charter, opening_state, after_step, events_from, events_of, IsLawfulCall, IsLawful, AreLawful, IsLegal}
use Rattle.machine_model.specs.Step.{at_moment, step_of, step_effect}
use Rattle.machine_model.specs.Laws.{NeverFall}
use Rattle.machine_model.specs.Call.{outcome_of}
use Rattle.machine_model.proofs.ListLemmas.{all_append, all_weaken, all_mapped}
use Rattle.machine_model.proofs.ClosureLemmas.{IsClosed}
use Rattle.machine_model.proofs.ObeyLemmas.{found_all}
use Rattle.machine_model.proofs.Fold.HistoryLemmas.{AreConsistent, ConsistencyLaw, all_consistent}
use Rattle.engine_text.specs.declared.call.Call.{Call}
use Rattle.engine_text.specs.declared.container.Container.{Container}
use Rattle.engine_text.specs.declared.event.Action.{Action}
use Rattle.engine_text.specs.declared.event.Event.{Event}
use Rattle.engine_text.specs.declared.mounts.Mount.{Mount}
use Rattle.engine_text.specs.declared.step.DueAction.{DueAction}
use Rattle.engine_text.specs.declared.step.Step.{Step}
use Rattle.machine_model.proofs.ClosureLemmas.{runs_call, runs_due}

-- ---- one step

-- every event at the state's clock, which stands
abbrev pub Stamped : State → Effect → Type 0
Stamped s e = AllByRecursion (λ v. v.moment ≡ s.clock) e.events × (e.state.clock ≡ s.clock)

stamped_after : (s : State) (a b : Effect) → Stamped s a → Stamped a.state b
    → AllByRecursion (λ v. v.moment ≡ s.clock) (a.events ++ b.events) × (b.state.clock ≡ s.clock)
stamped_after s a b first second = (
  all_append (λ v. v.moment ≡ s.clock) a.events b.events first.0
      (all_weaken (λ v. v.moment ≡ a.state.clock) (λ v. v.moment ≡ s.clock) (λ v e. e ∙ first.1) b.events second.0),
  second.1 ∙ first.1,
)

stamped_mounts : (a : Action) (c : Container) (t : ℕ) (ms : List Mount) → AllByRecursion (λ v. v.moment ≡ t) (map (λ m. mount_event a m.volume c t) ms)
stamped_mounts a c t [] = tt
stamped_mounts a c t (m ∷ ms) = (refl, stamped_mounts a c t ms)

pub stamped_closed : IsClosed Stamped
stamped_closed = record {
  on_still = λ s. (tt, refl);
  on_after = λ s a b first second. stamped_after s a b first second;
  on_told = λ s v at. ((at, tt), refl);
  on_mounts = λ s a c. (stamped_mounts a c s.clock c.life.mounts, refl);
  on_ended = λ s d. (tt, refl);
  on_renew = λ s n f mark. (tt, refl);
  on_log = λ s n stream payload. (tt, refl);
  on_output = λ s n stream payload. (tt, refl);
  on_process = λ s owner f. (tt, refl);
  on_drop = λ s owner. (tt, refl);
  on_spawn = λ s owner program stdin room. (tt, refl);
  on_timers = λ s timers. (tt, refl);
  on_exec = λ s n f mark. (tt, refl);
  on_destroyed = λ s c found. (tt, refl);
  on_begun = λ s connection c asked found. (tt, refl);
  on_time_out = λ s c. (tt, refl);
  on_end_ticket = λ s n. (tt, refl);
  on_made_volume = λ s name labels none. (tt, refl);
  on_gone_volume = λ s name unused. (tt, refl);
  on_made = λ s name spec free stand. (tt, refl);
  on_made_exec = λ s c words stdin out err found. (tt, refl);
  on_renamed = λ s c name found free. (tt, refl);
}

-- ---- along a history

-- a step's events stand at the moment to which it moves the clock, which isn't before
abbrev pub Moves : State → Effect → Type 0
Moves s e = AllByRecursion (λ v. v.moment ≡ e.state.clock) e.events × (s.clock ≤ e.state.clock)

moves_by : (s : State) (t : ℕ) (e : Effect) → s.clock ≤ t → Stamped (at_moment t s) e → Moves s e
moves_by s t e low h =
    (all_weaken (λ v. v.moment ≡ t) (λ v. v.moment ≡ e.state.clock) (λ v is. is ∙ sym h.1) e.events h.0, omega (arith, low, h.1))

due_moves : (s : State) (o : Option DueAction) → least_due s ≡ o → AllByRecursion (λ d. s.clock ≤ d.moment) (due_actions s) → Moves s (unwrap_or (step_of o s) (still s))
due_moves s None e dues = (tt, omega arith)
due_moves s (Some d) e dues =
    let low : s.clock ≤ d.moment = found_all (λ d. s.clock ≤ d.moment) (λ d. not (list_any (λ e. is_before e d) (due_actions s))) d (due_actions s) e dues in
    let one : Stamped (at_moment d.moment s) (due_effect d (at_moment d.moment s)) = runs_due stamped_closed d (at_moment d.moment s) in
    let all = moves_by s d.moment (due_effect d (at_moment d.moment s)) low one in
    (all.0, all.1)

-- a lawful call isn't before the last step
pub call_later : (s : State) (connection moment : ℕ) (c : Call) → IsLawfulCall s connection moment c → s.clock ≤ moment
call_later s connection moment (Call.Drop ticket) h = omega (arith, h.0)
call_later s connection moment (Call.Take ticket) h = h.0.0
call_later s connection moment c h = h.0.0

pub moves : (s : State) (x : Step) → AllByRecursion (λ d. s.clock ≤ d.moment) (due_actions s) → IsLawful s x → Moves s (step_effect x s)
moves s Step.Due dues lawful = due_moves s (least_due s) refl dues
moves s (Step.Call connection moment c) dues lawful =
    let o = outcome_of c connection (at_moment moment s) in
    let all = moves_by s moment o.effect (call_later s connection moment c lawful.1) (runs_call stamped_closed c connection (at_moment moment s)) in
    (all.0, all.1)

-- no event of a history is before its first state
pub none_before : (s : State) (h : List Step) → AreConsistent s h → AreLawful s h → AllByRecursion (λ v. s.clock ≤ v.moment) (events_from s h)
none_before s [] consistent lawful = tt
none_before s (x ∷ xs) consistent lawful =
    let one : Moves s (step_effect x s) = moves s x consistent.0.limits.dues lawful.0 in
    all_append (λ v. s.clock ≤ v.moment) (step_effect x s).events (events_from (after_step s x) xs)
    (all_weaken (λ v. v.moment ≡ (after_step s x).clock) (λ v. s.clock ≤ v.moment) (λ v e. omega (arith, e, one.1)) (step_effect x s).events one.0)
    (all_weaken (λ v. (after_step s x).clock ≤ v.moment) (λ v. s.clock ≤ v.moment) (λ v low. omega (arith, low, one.1)) (events_from (after_step s x) xs)
    (none_before (after_step s x) xs consistent.1 lawful.1))

-- events at one moment, and then such as aren't before it
fall_append : (t : ℕ) (a b : List Event) → AllByRecursion (λ v. v.moment ≡ t) a → AllByRecursion (λ v. t ≤ v.moment) b → NeverFall (map (λ v. v.moment) b)
    → NeverFall (map (λ v. v.moment) (a ++ b))
fall_append t [] b first second rest = rest
fall_append t (v ∷ a) b first second rest = (
  all_mapped (λ n. v.moment ≤ n) (λ (w : Event). w.moment) (a ++ b)
      (all_append (λ w. v.moment ≤ w.moment) a b
      (all_weaken (λ w. w.moment ≡ t) (λ w. v.moment ≤ w.moment) (λ w e. omega (arith, e, first.0)) a first.1)
      (all_weaken (λ w. t ≤ w.moment) (λ w. v.moment ≤ w.moment) (λ w low. omega (arith, low, first.0)) b second)),
  fall_append t a b first.1 second rest,
)

pub never_fall_from : (s : State) (h : List Step) → AreConsistent s h → AreLawful s h → NeverFall (map (λ v. v.moment) (events_from s h))
never_fall_from s [] consistent lawful = tt
never_fall_from s (x ∷ xs) consistent lawful =
    let one : Moves s (step_effect x s) = moves s x consistent.0.limits.dues lawful.0 in
    fall_append (after_step s x).clock (step_effect x s).events (events_from (after_step s x) xs) one.0
    (none_before (after_step s x) xs consistent.1 lawful.1) (never_fall_from (after_step s x) xs consistent.1 lawful.1)

pub never_fall : ConsistencyLaw → (charter : Charter) (h : List Step) → IsLegal charter h → NeverFall (map (λ v. v.moment) (events_of charter h))
never_fall law charter h legal = never_fall_from (opening_state charter) h (all_consistent law charter [] h legal) legal.1
