-- The laws of every legal history, and what a lawful step keeps.
use Rattle.std.proofs.Common.{ℕ, ◌≤◌, List, [], ◌∷◌, refl, arith, Some, ◌≡◌, ◌≢◌}
use Rattle.std.specs.List.{AllByRecursion}
use Rattle.proc_kernel.specs.Times as proc
use Rattle.proc_kernel.specs.Tables.{Entry}
use Rattle.machine_model.specs.State.{State}
use Rattle.machine_model.specs.Calls.Attach.{followed_run, run_of}
use Rattle.machine_model.specs.Consistency.{IsConsistent, HasStarted}
use Rattle.machine_model.specs.Due.{due_actions, least_due}
use Rattle.machine_model.specs.Step.{call_outcome}
use Rattle.machine_model.specs.History.{Charter, IsCharter, IsLawful, AreLawful, greatest_moment, opening_state, state_from, state_after, after_step}
use Rattle.machine_model.specs.Laws.{AttachLaw, FoldLaw, LogGrowsLaw, PastLaw, StatesLaw, StatusesLaw}
use Rattle.machine_model.proofs.Fold.HistoryLemmas.{ConsistencyLaw, fold_law as fold_law_by}
use Rattle.machine_model.proofs.MomentLemmas.{never_fall, call_later}
use Rattle.machine_model.proofs.Logs.HistoryLemmas.{log_grows_law as logs_grow_law}
use Rattle.machine_model.proofs.ReplyLemmas.{replies_law}
use Rattle.machine_model.proofs.ListLemmas.{all_weaken}
use Rattle.machine_model.proofs.Kept.TimeLemmas.{FitsAt}
use Rattle.machine_model.proofs.Kept.PastLemmas.{removals_tied, events_counted}
use Rattle.machine_model.proofs.Consistent.FormLemmas.{KeptForm, consistent, times_at}
use Rattle.machine_model.proofs.Consistent.BackLemmas.{form_of}
use Rattle.machine_model.proofs.Consistent.StepLemmas.{form_step, call_opens, due_later, due_low, due_until}
use Rattle.engine_text.specs.declared.call.Call.{Call}
use Rattle.engine_text.specs.declared.status.Status.{Status}
use Rattle.engine_text.specs.declared.status.Status.TheVariants.{Created, Running, Paused, Restarting, Removing, Exited, Dead}
use Rattle.engine_text.specs.declared.step.Step.{Step}
use Rattle.engine_text.specs.declared.step.DueAction.{DueAction}

-- ---- lawful steps

-- a lawful step keeps a state consistent
pub kept_step : (s : State) (x : Step) → IsConsistent s → IsLawful s x → IsConsistent (after_step s x)
kept_step s x h lawful = consistent (after_step s x) (form_step s x lawful (form_of s h))

-- so does a lawful call
pub kept_call : (s : State) (connection moment : ℕ) (c : Call) → IsConsistent s → IsLawful s (Step.Call connection moment c) → IsConsistent (call_outcome connection moment c s).effect.state
kept_call s connection moment c h lawful = kept_step s (Step.Call connection moment c) h lawful

-- and a lawful due step
pub kept_due : (s : State) → IsConsistent s → IsLawful s Step.Due → IsConsistent (after_step s Step.Due)
kept_due s h lawful = kept_step s Step.Due h lawful

-- a moment that isn't past the greatest, before which nothing is due, and from which no process's times lie more than a week ahead
pub record IsMomentOf (s : State) (moment : ℕ) : Type 0 where
  pub later : s.clock ≤ moment
  pub until : moment ≤ greatest_moment
  pub dues : AllByRecursion (λ d. moment ≤ d.moment) (due_actions s)
  pub times : AllByRecursion (λ e. proc.IsTimely moment e.process) s.processes

near : (moment : ℕ) (es : List Entry) → AllByRecursion (FitsAt moment) es → AllByRecursion (λ e. proc.IsTimely moment e.process) es
near moment es fits = all_weaken (FitsAt moment) (λ e. proc.IsTimely moment e.process) (λ e fit. fit.0) es fits

-- such is a lawful call's
pub timely_call : (s : State) (connection moment : ℕ) (c : Call) → IsConsistent s → IsLawful s (Step.Call connection moment c) → IsMomentOf s moment
timely_call s connection moment c h lawful =
    let opens = call_opens s connection moment c lawful.1 (form_of s h) in
    record { later = call_later s connection moment c lawful.1; until = opens.clock; dues = opens.dues; times = near moment s.processes opens.times.0 }

-- and a due step's
pub timely_due : (s : State) (d : DueAction) → IsConsistent s → IsLawful s Step.Due → least_due s ≡ Some d → IsMomentOf s d.moment
timely_due s d h lawful is =
    let form = form_of s h in
    let later = due_later s d is form in
    record { later = later; until = due_until s d is lawful.1; dues = due_low s d is; times = near d.moment s.processes (times_at s d.moment later (due_low s d is) form.times).0 }

-- ---- legal histories

opens : (charter : Charter) → IsCharter charter → KeptForm (opening_state charter)
opens charter is = record {
  names = (tt, tt, tt, tt, tt, tt, tt);
  mains = ((tt, tt, tt, tt, omega arith, tt, λ m. refl, record { mains = λ m. tt; outputs = tt; empty = λ m x e fresh. tt }), λ m. (refl, refl, refl, refl));
  volumes = (tt, refl, tt, tt);
  tickets = (tt, tt, tt);
  execs = (tt, refl, tt, tt);
  times = (tt, tt);
  clock = is.1;
  few = (tt, tt, tt);
  ranges = (omega arith, tt, tt, tt);
  past = (tt, tt);
  counts = record {
    tickets = omega arith;
    steps = omega arith;
    events = omega arith;
    calls = omega arith;
    next_number = omega arith;
    next_ticket = omega arith;
    next_pid = omega arith;
    starts = tt;
    restarts = tt;
  };
}

form_from : (s : State) (h : List Step) → AreLawful s h → KeptForm s → KeptForm (state_from s h)
form_from s [] lawful form = form
form_from s (x ∷ xs) lawful form = form_from (after_step s x) xs lawful.1 (form_step s x lawful.0 form)

-- each state of a legal history is consistent
pub consistency_law : ConsistencyLaw
consistency_law charter h legal = consistent (state_after charter h) (form_from (opening_state charter) h legal.1 (opens charter legal.0))

-- and the moments of its events never fall
pub states_law : StatesLaw
states_law charter h legal = (consistency_law charter h legal, never_fall consistency_law charter h legal)

-- its events fold to what inspect tells
pub fold_law : FoldLaw
fold_law = fold_law_by consistency_law

-- logs only grow
pub log_grows_law : LogGrowsLaw
log_grows_law = logs_grow_law

-- each operation answers only its own
pub statuses_law : StatusesLaw
statuses_law = replies_law

-- the kept logs and moments are the last ones
pub past_law : PastLaw
past_law charter h = (removals_tied charter h, (events_counted charter h).0, (events_counted charter h).1)

-- whatever its status, the run that an attach follows isn't 0
followed_least : (u : Status) (starts : ℕ) → (u ≢ Created → 1 ≤ starts) → 1 ≤ followed_run u starts
followed_least Created starts started = omega arith
followed_least Restarting starts started = omega arith
followed_least Running starts started = started (λ is. absurd (cc))
followed_least Paused starts started = started (λ is. absurd (cc))
followed_least Removing starts started = started (λ is. absurd (cc))
followed_least Exited starts started = started (λ is. absurd (cc))
followed_least Dead starts started = started (λ is. absurd (cc))

-- an attach never follows run 0
pub attach_law : AttachLaw
attach_law charter h legal =
    all_weaken (λ c. HasStarted c.life) (λ c. 1 ≤ run_of c) (λ c started. followed_least c.life.status c.life.starts started)
    (state_after charter h).containers (consistency_law charter h legal).counts.started
