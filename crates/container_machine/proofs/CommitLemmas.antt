-- A commit in its parts is the call's outcome.
use Rattle.std.proofs.Common.{◌≡◌, ℕ, ◌+◌, ◌*◌, ◌<◌, ◌≤◌, ◌^◌, List, ap, sym, ◌∙◌, subst, arith, Option, length}
use Rattle.engine_text.specs.declared.event.Event.{Event}
use Rattle.machine_model.specs.State.{State}
use Rattle.machine_model.specs.Chain.{Effect, Died, still}
use Rattle.std.specs.Prelude.{unwrap_or}
use Rattle.engine_text.specs.declared.step.Step.{Step}
use Rattle.machine_model.specs.Call.{outcome_of}
use Rattle.machine_model.specs.History.{after_step}
use Rattle.machine_model.specs.Step.{at_moment, counted, finished, step_of}
use Rattle.machine_model.specs.Effects.Settle.{settle_tickets}
use Rattle.machine_model.specs.Consistency.{live_execs}
use Rattle.container_machine.specs.DuePlans.{due_plan_effect}
use Rattle.call_plans.specs.Plans.{plan_effect}
use Rattle.machine_tables.specs.Settled.{deaths}
use Rattle.machine_model.specs.Consistency.{IsConsistent}
use Rattle.call_plans.specs.Parts.{MachineParts}
use Rattle.call_plans.specs.Prepared.{Asked, IsFor, step_of_call}
use Rattle.machine_tables.specs.declared.death.Death.{Death}
use Rattle.container_machine.specs.Dues.{IsForDue, due_at}
use Rattle.call_plans.specs.declared.prepared.Prepared.{Prepared}
use Rattle.container_machine.specs.declared.due.PreparedDue.{PreparedDue}

-- the state after all parts
pub after_parts : (e : Effect) (events : List Event) (died : List Died) (k : ℕ) (b d f : State) → b ≡ e.state → died ≡ e.died → events ≡ e.events → d ≡ settle_tickets died b → f ≡ counted events k d
    → f ≡ (finished k e).state
after_parts e events died k b d f h1 h2 h3 h4 h5 =
    h5 ∙ (ap (λ es. counted es k d) h3 ∙ ap (counted e.events k) (h4 ∙ (ap (λ ds. settle_tickets ds b) h2 ∙ ap (settle_tickets e.died) h1)))

-- of a prepared call
pub commit_parts : (p : Prepared) (w : MachineParts) (asked : Asked) (death : Option Death) (events : List Event) (a b d f : State) → IsFor p w asked → a ≡ at_moment p.moment w.memory.state
    → b ≡ (plan_effect p.plan a).state → deaths death ≡ (plan_effect p.plan a).died → d ≡ settle_tickets (deaths death) b → events ≡ p.events.items → f ≡ counted events 1 d
    → f ≡ after_step w.memory.state (step_of_call asked)
commit_parts p w asked death events a b d f for h0 h1 h2 h3 h4 h5 =
    let at : a ≡ at_moment asked.moment w.memory.state = h0 ∙ ap (λ m. at_moment m w.memory.state) for.makes.moment in
    let same : plan_effect p.plan a ≡ (outcome_of asked.call asked.connection (at_moment asked.moment w.memory.state)).effect = ap (plan_effect p.plan) at ∙ for.makes.effect in
    after_parts (outcome_of asked.call asked.connection (at_moment asked.moment w.memory.state)).effect events (deaths death) 1 b d f
    (h1 ∙ ap (λ (e : Effect). e.state) same) (h2 ∙ ap (λ (e : Effect). e.died) same) (h4 ∙ for.makes.events) h3 h5

-- what is kept is counted without an overflow
pub count_fits : (es : List Event) (n : ℕ) (d : State) → IsConsistent (counted es n d) → (d.call_count + n < 2 ^ 63) × (d.event_count + length es < 2 ^ 64)
count_fits es n d k =
    let calls : d.call_count + n ≤ d.step_count + 1 = k.counts.calls in
    let steps : length (counted es n d).tickets + (d.step_count + 1) ≤ 2 ^ 57 = k.counts.steps in
    let events : (d.event_count + length es) + length (live_execs (counted es n d)) ≤ 64 * (d.step_count + 1) = k.counts.events in
    (omega (arith, calls, steps), omega (arith, events, steps))

-- so in a commit
pub kept_parts : (p : Prepared) (w : MachineParts) (asked : Asked) (death : Option Death) (events : List Event) (a b d f : State) → IsFor p w asked → a ≡ at_moment p.moment w.memory.state
    → b ≡ (plan_effect p.plan a).state → deaths death ≡ (plan_effect p.plan a).died → d ≡ settle_tickets (deaths death) b → events ≡ p.events.items → f ≡ counted events 1 d
    → IsConsistent f
kept_parts p w asked death events a b d f for h0 h1 h2 h3 h4 h5 =
    subst (λ (s : State). IsConsistent s) (sym (commit_parts p w asked death events a b d f for h0 h1 h2 h3 h4 h5)) for.kept

-- ---- of a due step

pub due_parts : (p : PreparedDue) (w : MachineParts) (death : Option Death) (events : List Event) (a b d f : State) (h : IsForDue p w) → a ≡ at_moment p.moment w.memory.state
    → b ≡ (due_plan_effect p.plan a).state → deaths death ≡ (due_plan_effect p.plan a).died → d ≡ settle_tickets (deaths death) b → events ≡ p.events.items → f ≡ counted events 0 d
    → f ≡ after_step w.memory.state Step.Due
due_parts p w death events a b d f h h0 h1 h2 h3 h4 h5 =
    let at : a ≡ at_moment h.due.moment w.memory.state = h0 ∙ ap (λ m. at_moment m w.memory.state) h.makes.moment in
    let same : due_plan_effect p.plan a ≡ due_at h.due w.memory.state = ap (due_plan_effect p.plan) at ∙ h.makes.effect in
    after_parts (due_at h.due w.memory.state) events (deaths death) 0 b d f
    (h1 ∙ ap (λ (e : Effect). e.state) same) (h2 ∙ ap (λ (e : Effect). e.died) same) (h4 ∙ h.makes.events) h3 h5
    ∙ sym (ap (λ o. (unwrap_or (step_of o w.memory.state) (still w.memory.state)).state) h.least)

pub kept_due_parts : (p : PreparedDue) (w : MachineParts) (death : Option Death) (events : List Event) (a b d f : State) (h : IsForDue p w) → a ≡ at_moment p.moment w.memory.state
    → b ≡ (due_plan_effect p.plan a).state → deaths death ≡ (due_plan_effect p.plan a).died → d ≡ settle_tickets (deaths death) b → events ≡ p.events.items → f ≡ counted events 0 d
    → IsConsistent f
kept_due_parts p w death events a b d f h h0 h1 h2 h3 h4 h5 =
    subst (λ (s : State). IsConsistent s) (sym (due_parts p w death events a b d f h h0 h1 h2 h3 h4 h5)) h.kept
