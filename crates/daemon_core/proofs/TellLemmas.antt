-- That ring and journal go with the history: what a step adds to its events, when they are, and that there is room for them.
use Rattle.std.proofs.Common.{◌≡◌, ◌≢◌, ◌≤◌, ◌<◌, ◌+◌, ◌^◌, ℕ, List, [], ◌∷◌, ◌++◌, Option, refl, subst, sym, ◌∙◌, ap, append-nil, length, length-append, arith}
use Rattle.std.specs.Prelude.{IsFalse, unwrap_or}
use Rattle.std.specs.Option.{unwrap_or}
use Rattle.engine_text.specs.declared.call.Call.{Call}
use Rattle.engine_text.specs.declared.call.Call.TheVariants as call
use Rattle.engine_text.specs.declared.event.Event.{Event}
use Rattle.engine_text.specs.declared.reply.Reply.TheVariants as reply
use Rattle.engine_text.specs.declared.step.DueAction.{DueAction}
use Rattle.engine_text.specs.declared.step.Step.{Step}
use Rattle.event_ring.specs.Ring as event_ring
use Rattle.event_ring.specs.Ring.{ring_of}
use Rattle.journal_lines.specs.KeptJournal.{KeptJournal, steps_in}
use Rattle.machine_model.specs.State.{State}
use Rattle.machine_model.specs.Chain.{still}
use Rattle.machine_model.specs.Call.{outcome_of}
use Rattle.machine_model.specs.Consistency.{IsConsistent}
use Rattle.machine_model.specs.History.{Charter, IsLawful, after_step, events_of, is_drop, opening_state, state_after}
use Rattle.machine_model.specs.Step.{step_effect, step_of}
use Rattle.machine_model.proofs.Histories.{events_append, run_append}
use Rattle.machine_model.proofs.Kept.PastLemmas.{events_counted}
use Rattle.machine_model.proofs.Laws.{kept_step}
use Rattle.machine_model.proofs.ListLemmas.{all_weaken}
use Rattle.machine_model.proofs.MomentLemmas.{Moves, moves}
use Rattle.container_machine.specs.Dues.{IsForDue}
use Rattle.call_plans.specs.Parts.{MachineParts}
use Rattle.container_machine.specs.declared.due.PreparedDue.{PreparedDue}
use Rattle.daemon_core.specs.Keeping.{history_of}
use Rattle.daemon_core.specs.Telling.{AreTimed, HasEnds, IsLike, IsTold, IsToldBySome, KeepsTold, Plays}
use Rattle.daemon_core.specs.declared.stored.Stored.{Stored}
use Rattle.daemon_core.proofs.KeepLemmas.{HasEntries, entries_same, history_counted, history_same}

-- ---- the events of a step

-- they come behind those of the history
pub events_more : (ch : Charter) (h : List Step) (x : Step)
    → events_of ch (h ++ x ∷ []) ≡ events_of ch h ++ (step_effect x (state_after ch h)).events
events_more ch h x =
    events_append (opening_state ch) h (x ∷ [])
    ∙ ap (λ es. events_of ch h ++ es) (append-nil (step_effect x (state_after ch h)).events)

-- none lies past the greatest moment
pub timed_step : (s : State) (x : Step) → IsConsistent s → IsLawful s x → AreTimed (step_effect x s).events
timed_step s x kept lawful =
    let one : Moves s (step_effect x s) = moves s x kept.limits.dues lawful in
    let until = (kept_step s x kept lawful).limits.clock in
    all_weaken (λ (v : Event). v.moment ≡ (step_effect x s).state.clock) (λ (v : Event). v.moment ≤ 9000000000000)
    (λ v at. omega (arith, at, until)) (step_effect x s).events one.0

-- what is made ready has those of the due step
pub due_events : (p : PreparedDue) (w : MachineParts) → IsForDue p w → p.events.items ≡ (step_effect Step.Due w.memory.state).events
due_events p w ready =
    let s : State = w.memory.state in
    ready.makes.events ∙ sym (ap (λ (o : Option DueAction). (unwrap_or (step_of o s) (still s)).events) ready.least)

-- a drop has none
pub some_told : (c : Call) (k : ℕ) (s : State) → 0 < length (outcome_of c k s).effect.events → IsFalse (is_drop c)
some_told (call.Drop n) k s some = absurd (omega (arith, some))
some_told c k s some = refl

-- and is answered so
pub some_replied : (c : Call) (k : ℕ) (s : State) → (outcome_of c k s).reply ≢ reply.Dropped → IsFalse (is_drop c)
some_replied (call.Drop n) k s other = absurd (other refl)
some_replied c k s other = refl

-- ---- their count

pub few_events : (ch : Charter) (h : List Step) → IsConsistent (state_after ch h) → length (events_of ch h) ≤ 2 ^ 63
few_events ch h kept =
    let count = (events_counted ch h).1 in
    let events = kept.counts.events in
    let steps = kept.counts.steps in
    omega (arith, count, events, steps)

state_more : (ch : Charter) (h : List Step) (s : State) (x : Step) → s ≡ state_after ch h → after_step s x ≡ state_after ch (h ++ x ∷ [])
state_more ch h s x is = ap (λ (y : State). after_step y x) is ∙ sym (run_append ch h (x ∷ []))

-- so the ring can count them
pub room_for : (d : Stored) (x : Step) (events : List Event) → IsToldBySome d → IsConsistent d.machine.memory.state
    → IsLawful d.machine.memory.state x → events ≡ (step_effect x d.machine.memory.state).events → d.ring.count + length events ≤ 2 ^ 63
room_for d x events (ch, told) kept lawful are =
    let s : State = d.machine.memory.state in
    let h : List Step = (history_of d.journal) in
    let is : s ≡ state_after ch h = told.state in
    let more : length (events_of ch (h ++ x ∷ [])) ≤ 2 ^ 63 =
    few_events ch (h ++ x ∷ []) (subst IsConsistent (state_more ch h s x is) (kept_step s x kept lawful)) in
    let sum : length (events_of ch (h ++ x ∷ [])) ≡ length (events_of ch h) + length (step_effect x (state_after ch h)).events =
    ap length (events_more ch h x) ∙ length-append (events_of ch h) (step_effect x (state_after ch h)).events in
    let count : d.ring.count ≡ length (events_of ch h) = ap (λ (r : event_ring.Kept). r.count) told.ring in
    let these : length events ≡ length (step_effect x (state_after ch h)).events =
    ap length (are ∙ ap (λ (y : State). (step_effect x y).events) is) in
    omega (arith, more, sum, count, these)

-- ---- behind a step

-- its events came to the ring
pub played : (d d' : Stored) (x : Step) (events : List Event) → d'.machine.memory.state ≡ after_step d.machine.memory.state x
    → events ≡ (step_effect x d.machine.memory.state).events
    → ((all : List Event) → d.ring ≡ ring_of all → d'.ring ≡ ring_of (all ++ events)) → Plays x d d'
played d d' x events state are ring = record { state = state; ring = λ all is. ring all is ∙ ap (λ es. ring_of (all ++ es)) are }

-- all is told of a history that is longer by the step
pub told_more : (d d1 d' : Stored) (x : Step) → Plays x d d1 → d'.machine ≡ d1.machine → d'.ring ≡ d1.ring
    → history_of d'.journal ≡ history_of d.journal ++ x ∷ []
    → ((ch : Charter) → IsTold ch d → HasEntries ch d'.journal)
    → (after_step d.machine.memory.state x).step_count ≡ d.machine.memory.state.step_count + 1 → KeepsTold d d'
told_more d d1 d' x plays machine ring steps entries count ch told =
    let h : List Step = history_of d.journal in
    let s : State = d.machine.memory.state in
    let is : d'.machine.memory.state ≡ after_step s x = ap (λ (m : MachineParts). m.memory.state) machine ∙ plays.state in
    record {
      state = is ∙ state_more ch h s x told.state ∙ ap (state_after ch) (sym steps);
      ring = ring ∙ plays.ring (events_of ch h) told.ring
          ∙ ap ring_of (ap (λ (y : State). events_of ch h ++ (step_effect x y).events) told.state
          ∙ sym (events_more ch h x) ∙ ap (events_of ch) (sym steps));
      entries = entries ch told;
      steps = ap length steps ∙ length-append h (x ∷ []) ∙ ap (λ n. n + 1) told.steps ∙ sym count ∙ ap (λ (y : State). y.step_count) (sym is);
    }

pub told_on : (d d' d'' : Stored) → KeepsTold d d' → KeepsTold d' d'' → KeepsTold d d''
told_on d d' d'' first more ch told = more ch (first ch told)

-- by some charter
pub told_by : (d d' : Stored) → KeepsTold d d' → IsToldBySome d → IsToldBySome d'
told_by d d' keeps (ch, told) = (ch, keeps ch told)

-- where no step was made it stays told
pub told_same : (d d' : Stored) → d'.machine.memory.state ≡ d.machine.memory.state → IsLike d.journal d'.journal → d'.ring ≡ d.ring
    → KeepsTold d d'
told_same d d' state like ring ch told =
    let steps = history_same d.journal d'.journal like in
    record {
      state = state ∙ told.state ∙ ap (state_after ch) (sym steps);
      ring = ring ∙ told.ring ∙ ap (λ h. ring_of (events_of ch h)) (sym steps);
      entries = entries_same ch d.journal d'.journal like told.entries;
      steps = ap length steps ∙ told.steps ∙ ap (λ (y : State). y.step_count) (sym state);
    }

pub told_still : (d d' : Stored) → d'.machine ≡ d.machine → IsLike d.journal d'.journal → d'.ring ≡ d.ring → KeepsTold d d'
told_still d d' machine like ring = told_same d d' (ap (λ (m : MachineParts). m.memory.state) machine) like ring

-- a journal is like itself
pub like_same : (j j' : KeptJournal) → j' ≡ j → IsLike j j'
like_same j j' same = record {
  entries = ap (λ (x : KeptJournal). x.entries) same;
  since = ap (λ (x : KeptJournal). x.since) same;
  room = let e = ap (λ (x : KeptJournal). x.room) same in omega (arith, e);
}

pub like_on : (j j' j'' : KeptJournal) → IsLike j j' → j'' ≡ j' → IsLike j j''
like_on j j' j'' like same = record {
  entries = ap (λ (x : KeptJournal). x.entries) same ∙ like.entries;
  since = ap (λ (x : KeptJournal). x.since) same ∙ like.since;
  room = let e = ap (λ (x : KeptJournal). x.room) same in let le = like.room in omega (arith, e, le);
}

-- where fewer than 2^57 steps were made, the journal can count one more
pub few_told : (d : Stored) (j : KeptJournal) → IsToldBySome d → j ≡ d.journal → d.machine.memory.state.step_count < 2 ^ 57 → steps_in j < 2 ^ 57
few_told d j (ch, told) same few =
    let count = sym (history_counted j) ∙ ap (λ x. length (history_of x)) same in
    let steps = told.steps in
    omega (arith, count, steps, few)

-- ---- the ends of tickets

-- they have their places where no ticket came
pub ends_like : (d d' : Stored) → IsLike d.journal d'.journal → d'.machine.memory.state ≡ d.machine.memory.state → HasEnds d → HasEnds d'
ends_like d d' like state ends =
    let entries = ap length like.entries in
    let tickets = ap (λ (y : State). length y.tickets) state in
    let room = like.room in
    omega (arith, entries, tickets, room, ends)
