-- Each lawful step keeps the form.
use Rattle.std.proofs.Common.{◌≡◌, ℕ, ◌+◌, ◌^◌, ◌<◌, ◌≤◌, List, Option, Some, None, map, length, refl, ap, sym, ◌∙◌, subst, arith, not}
use Rattle.std.proofs.lemmas.Bool.{leb-true}
use Rattle.std.proofs.lemmas.List.{length-map}
use Rattle.std.proofs.Math.Nat.{min-le_right}
use Rattle.std.specs.Prelude.{IsTrue, nat_le, false, unwrap_or}
use Rattle.std.specs.Option.{option_map_or, unwrap_or}
use Rattle.std.specs.List.{AllByRecursion, list_any}
use Rattle.container_table.proofs.LeastLemmas.{least_from}
use Rattle.container_table.specs.Timers.{is_before}
use Rattle.machine_model.specs.State.{State}
use Rattle.machine_model.specs.Chain.{Effect, still}
use Rattle.machine_model.specs.Call.{outcome_of}
use Rattle.machine_model.specs.Due.{due_actions, least_due, due_effect}
use Rattle.machine_model.specs.Step.{at_moment, step_of, finished}
use Rattle.machine_model.specs.Effects.Settle.{settled}
use Rattle.machine_model.specs.Ready.{is_ready, feed_is_ready, feed_end_is_ready}
use Rattle.machine_model.specs.Streams.{RunState, Coming, Live, Over, run_state}
use Rattle.machine_model.specs.History.{greatest_moment, latest, is_due, IsLawfulCall, IsLawful, after_step}
use Rattle.machine_model.proofs.ListLemmas.{all_weaken}
use Rattle.machine_model.proofs.Fold.RowLemmas.{same_some}
use Rattle.machine_model.proofs.Kept.TableLemmas.{names_step, volumes_step, tickets_step}
use Rattle.machine_model.proofs.Fits.StepLemmas.{mains_step}
use Rattle.machine_model.proofs.Costs.CostLemmas.{Cost, IsMost, most_of}
use Rattle.machine_model.proofs.Costs.EffectLemmas.{due_cost, costs_due}
use Rattle.machine_model.proofs.Costs.AnswerLemmas.{full}
use Rattle.machine_model.proofs.Costs.CallLemmas.{call_costs, ends_any}
use Rattle.machine_model.proofs.Kept.CountLemmas.{Counted, counted_priced}
use Rattle.machine_model.proofs.Kept.EventLemmas.{Few, Paid, paid_priced, paid_for}
use Rattle.machine_model.proofs.Kept.TimeLemmas.{Times, KeepsTimes, times_priced}
use Rattle.machine_model.proofs.Kept.ClockLemmas.{Past, KeepsPast, past_at, past_priced}
use Rattle.machine_model.proofs.MomentLemmas.{call_later}
use Rattle.machine_model.proofs.Consistent.FormLemmas.{Counts, KeptForm, consistent, fresh_of, times_at, Opens, timely_opens, drop_opens, one_less, StepsFit, few_steps}
use Rattle.machine_model.proofs.ObeyLemmas.{found_all}
use Rattle.machine_model.proofs.Fold.HistoryLemmas.{folded_step}
use Rattle.machine_model.proofs.Kept.ExecLemmas.{Execs, KeepsExecs, execs_closed}
use Rattle.engine_text.specs.declared.call.Call.{Call}
use Rattle.engine_text.specs.declared.container.Container.{Container}
use Rattle.engine_text.specs.declared.owner.Owner.{Owner}
use Rattle.engine_text.specs.declared.owner.Owner.TheVariants.{Container as OfContainer, Exec as OfExec}
use Rattle.engine_text.specs.declared.step.DueAction.{DueAction}
use Rattle.engine_text.specs.declared.step.Step.{Step}
use Rattle.engine_text.specs.declared.ticket.Ticket.{Ticket}
use Rattle.machine_model.proofs.ClosureLemmas.{runs_call, runs_due}

-- ---- counts

counts_after : (s : State) (t calls : ℕ) (x : Cost) (e : Effect) → calls ≤ 1 → IsMost x full → Counted x (at_moment t s) e → length e.events + paid_for e.state.processes ≤ paid_for s.processes + x.told
    → StepsFit s e.state.tickets → Counts s → Counts (finished calls e).state
counts_after s t calls x e once low counted paid fits h =
    let steps : e.state.step_count ≡ s.step_count = counted.steps in
    let events : e.state.event_count ≡ s.event_count = counted.events in
    let called : e.state.call_count ≡ s.call_count = counted.calls in
    let same : length (map (λ (u : Ticket). settled u.reply u e.died e.state) e.state.tickets) ≡ length e.state.tickets = length-map e.state.tickets (λ (u : Ticket). settled u.reply u e.died e.state) in
    record {
      tickets = omega (arith, same, steps, counted.tickets, low.asks, h.tickets);
      steps = omega (arith, same, steps, fits);
      events = omega (arith, steps, events, paid, low.told, h.events);
      calls = omega (arith, steps, called, once, h.calls);
      next_number = omega (arith, steps, counted.numbers, low.makes, h.next_number);
      next_ticket = omega (arith, steps, counted.next_ticket, low.asks, h.next_ticket);
      next_pid = omega (arith, steps, counted.pids, low.spawns, h.next_pid);
      starts = all_weaken (λ (c : Container). c.life.starts ≤ s.step_count + x.spawns) (λ c. c.life.starts ≤ e.state.step_count + 1) (λ c k. omega (arith, k, steps, low.spawns)) e.state.containers (counted.starts s.step_count h.starts);
      restarts = all_weaken (λ (c : Container). c.life.restarts ≤ s.step_count + x.retries) (λ c. c.life.restarts ≤ e.state.step_count + 1) (λ c k. omega (arith, k, steps, low.retries)) e.state.containers (counted.restarts s.step_count h.restarts);
    }

number_fits : (s : State) → Counts s → s.next_number < 2 ^ 64
number_fits s h = omega (arith, h.next_number, h.steps)

-- ---- a step, by its effect

form_after : (s : State) (t calls : ℕ) (x : Cost) (e : Effect) → calls ≤ 1 → IsMost x full → Counted x (at_moment t s) e → Paid x (at_moment t s) e → KeepsTimes x (at_moment t s) e → KeepsExecs (at_moment t s) e
    → KeepsPast x (at_moment t s) e → s.clock ≤ t → Times (at_moment t s) → t ≤ greatest_moment → StepsFit s e.state.tickets → KeptForm s
    → Counts (finished calls e).state × Times (finished calls e).state × ((finished calls e).state.clock ≤ greatest_moment) × Few (finished calls e).state × Execs (finished calls e).state × Past (finished calls e).state
form_after s t calls x e once low counted paid times execs past later now until fits h =
    let pays = paid h.few in
    let clock : e.state.clock ≡ t = counted.clock in
    (counts_after s t calls x e once low counted pays.1 fits h.counts, times now, omega (arith, clock, until), pays.0, execs h.execs, past (past_at s t later h.past))

-- ---- calls

run_same : (s : State) (t : ℕ) (owner : Owner) (run : ℕ) → run_state owner run (at_moment t s) ≡ run_state owner run s
run_same s t (OfContainer n) run = refl
run_same s t (OfExec n) run = refl

feed_same : (s : State) (t : ℕ) (owner : Owner) (bytes : List ℕ) (r : RunState) → feed_is_ready r (at_moment t s) owner bytes ≡ feed_is_ready r s owner bytes
feed_same s t owner bytes Live = refl
feed_same s t owner bytes Over = refl
feed_same s t owner bytes Coming = refl

pub same_ready : (s : State) (t : ℕ) (c : Call) → is_ready (at_moment t s) c ≡ is_ready s c
same_ready s t (Call.Take ticket) = refl
same_ready s t (Call.Feed owner run bytes) = feed_same s t owner bytes (run_state owner run (at_moment t s)) ∙ ap (λ r. feed_is_ready r s owner bytes) (run_same s t owner run)
same_ready s t (Call.FeedEnd owner run) = ap feed_end_is_ready (run_same s t owner run)
same_ready s t c = refl

pub call_opens : (s : State) (connection t : ℕ) (c : Call) → IsLawfulCall s connection t c → KeptForm s → Opens s t c
call_opens s connection t (Call.Drop ticket) lawful h = drop_opens s t ticket lawful.0 h
call_opens s connection t (Call.Take ticket) lawful h = timely_opens s t (Call.Take ticket) lawful.0 lawful.2 h.times
call_opens s connection t c lawful h = timely_opens s t c lawful.0 lawful.2 h.times

call_steps : (s : State) (connection t : ℕ) (c : Call) → IsLawfulCall s connection t c → Counts s → length (outcome_of c connection (at_moment t s)).effect.state.tickets ≤ length s.tickets + 1
    → StepsFit s (outcome_of c connection (at_moment t s)).effect.state.tickets
call_steps s connection t (Call.Drop ticket) lawful h more = let less = one_less s connection ticket lawful.1 in omega (arith, less, h.steps)
call_steps s connection t (Call.Take ticket) lawful h more = let less = one_less s connection ticket lawful.1 in omega (arith, less, h.steps)
call_steps s connection t c lawful h more = few_steps s (outcome_of c connection (at_moment t s)).effect.state.tickets lawful.1 more h.tickets

form_call : (s : State) (connection t : ℕ) (c : Call) → IsLawful s (Step.Call connection t c) → KeptForm s → KeptForm (after_step s (Step.Call connection t c))
form_call s connection t c lawful h =
    let m : State = at_moment t s in
    let e : Effect = (outcome_of c connection m).effect in
    let opens = call_opens s connection t c lawful.1 h in
    let ready : IsTrue (is_ready m c) = subst IsTrue (sym (same_ready s t c)) opens.ready in
    let counted : Counted full m e = call_costs Counted counted_priced c connection m (λ p. lawful.0) (λ p. ready) (ends_any c) in
    let all = form_after s t 1 full e (omega arith) (most_of full full refl) counted (call_costs Paid paid_priced c connection m (λ p. lawful.0) (λ p. ready) (ends_any c)) (call_costs KeepsTimes times_priced c connection m (λ p. lawful.0) (λ p. ready) (ends_any c))
    (runs_call execs_closed c connection m) (call_costs KeepsPast past_priced c connection m (λ p. lawful.0) (λ p. ready) (ends_any c)) (call_later s connection t c lawful.1) opens.times opens.clock (call_steps s connection t c lawful.1 h.counts counted.tickets) h in
    record {
      names = names_step s (Step.Call connection t c) (number_fits (finished 1 e).state all.0) h.names;
      mains = mains_step s (Step.Call connection t c) (consistent s h) (fresh_of s h.names h.execs) h.mains;
      volumes = volumes_step s (Step.Call connection t c) h.volumes;
      tickets = tickets_step s (Step.Call connection t c) h.tickets;
      execs = all.4;
      times = all.1;
      clock = all.2;
      few = all.3;
      ranges = (folded_step s (Step.Call connection t c) (consistent s h) lawful).1;
      past = all.5;
      counts = all.0;
    }

-- ---- due steps

pub due_low : (s : State) (d : DueAction) → least_due s ≡ Some d → AllByRecursion (λ e. d.moment ≤ e.moment) (due_actions s)
due_low s d e = least_from d.moment (due_actions s) (λ x is. let same : d.moment ≡ x.moment = ap (λ (y : DueAction). y.moment) (same_some d x (sym e ∙ is)) in omega (arith, same))

pub due_later : (s : State) (d : DueAction) → least_due s ≡ Some d → KeptForm s → s.clock ≤ d.moment
due_later s d e h =
    found_all (λ (x : DueAction). s.clock ≤ x.moment) (λ d. not (list_any (λ e. is_before e d) (due_actions s))) d (due_actions s) e (consistent s h).limits.dues

pub due_until : (s : State) (d : DueAction) → least_due s ≡ Some d → IsTrue (is_due s (latest s)) → d.moment ≤ greatest_moment
due_until s d e due =
    let by : d.moment ≤ latest s = leb-true d.moment (latest s) (subst (λ o. IsTrue (option_map_or (λ (d : DueAction). nat_le d.moment (latest s)) o false)) e due) in
    omega (arith, by, min-le_right (s.clock + 604800000) greatest_moment)

due_by : (s : State) (o : Option DueAction) → least_due s ≡ o → IsLawful s Step.Due → KeptForm s
    → Counts (unwrap_or (step_of o s) (still s)).state × Times (unwrap_or (step_of o s) (still s)).state × ((unwrap_or (step_of o s) (still s)).state.clock ≤ greatest_moment) × Few (unwrap_or (step_of o s) (still s)).state × Execs (unwrap_or (step_of o s) (still s)).state
    × Past (unwrap_or (step_of o s) (still s)).state
due_by s None e lawful h = (h.counts, h.times, h.clock, h.few, h.execs, h.past)
due_by s (Some d) e lawful h =
    let t : ℕ = d.moment in
    let m : State = at_moment t s in
    let x : Effect = due_effect d m in
    let counted : Counted due_cost m x = (costs_due counted_priced d).holds m in
    let more : length x.state.tickets ≤ length s.tickets + 0 = counted.tickets in
    form_after s t 0 due_cost x (omega arith) (most_of due_cost full refl) counted ((costs_due paid_priced d).holds m) ((costs_due times_priced d).holds m) (runs_due execs_closed d m)
    ((costs_due past_priced d).holds m) (due_later s d e h) (times_at s t (due_later s d e h) (due_low s d e) h.times) (due_until s d e lawful.1) (few_steps s x.state.tickets lawful.0 (omega (arith, more)) h.counts.tickets) h

form_due : (s : State) → IsLawful s Step.Due → KeptForm s → KeptForm (after_step s Step.Due)
form_due s lawful h =
    let all = due_by s (least_due s) refl lawful h in
    record {
      names = names_step s Step.Due (number_fits (after_step s Step.Due) all.0) h.names;
      mains = mains_step s Step.Due (consistent s h) (fresh_of s h.names h.execs) h.mains;
      volumes = volumes_step s Step.Due h.volumes;
      tickets = tickets_step s Step.Due h.tickets;
      execs = all.4;
      times = all.1;
      clock = all.2;
      few = all.3;
      ranges = (folded_step s Step.Due (consistent s h) lawful).1;
      past = all.5;
      counts = all.0;
    }

pub form_step : (s : State) (x : Step) → IsLawful s x → KeptForm s → KeptForm (after_step s x)
form_step s Step.Due lawful h = form_due s lawful h
form_step s (Step.Call connection t c) lawful h = form_call s connection t c lawful h
