-- A step of a session, by what it touches: nothing, a turn, a drop, the source or the sink; and one step behind another.
use Rattle.std.proofs.Common.{arith, ◌≡◌, ◌≤◌, ◌+◌, inl, inr, ℕ, List, [], ◌∷◌, ◌++◌, length, refl, sym, ◌∙◌, ap, subst, append-nil}
use Rattle.std.specs.Prelude.{IsFalse}
use Rattle.engine_ports.specs.Clock.{untold_clock}
use Rattle.engine_ports.specs.Rose.{Rose}
use Rattle.engine_ports.specs.Sink.{SinkTook}
use Rattle.engine_ports.specs.Source.{SourceGave}
use Rattle.engine_ports.proofs.PortLemmas.{rose_since, sink_none}
use Rattle.engine_text.specs.declared.call.Call.{Call}
use Rattle.engine_text.specs.declared.reply.Reply.{Reply}
use Rattle.engine_text.specs.declared.step.Step.{Step}
use Rattle.machine_model.specs.Statuses.{is_feed}
use Rattle.machine_model.specs.History.{Charter, calls_of}
use Rattle.session_model.specs.declared.ending.Ending.{Ending}
use Rattle.session_model.specs.declared.ending.Ending.TheVariants as E
use Rattle.session_model.specs.declared.turned.Part.{Part}
use Rattle.session_model.specs.declared.turned.Turned.{Turned}
use Rattle.session_model.specs.Pass.{PassView}
use Rattle.session_model.specs.Session.{Span}
use Rattle.exchange_laws.specs.Turns.{TurnComes}
use Rattle.polled_steps.specs.Telling.{AsksPart, moments_of}
use Rattle.polled_steps.specs.Turning.{DropsSo}
use Rattle.polled_model.specs.declared.polled.Cause.{Cause}
use Rattle.polled_model.specs.Polls.{EndsNow, Ports, StandsAtPorts, Told, WantsTurn, outside_of}
use Rattle.polled_model.specs.Steps.{come_to}
use Rattle.session_poll.specs.declared.budget.Budget.{Budget}
use Rattle.session_poll.specs.declared.session.Session.{Session}
use Rattle.session_poll.specs.declared.state.Step.{Step as Came}
use Rattle.session_poll.specs.declared.state.Step.TheVariants as came
use Rattle.session_poll.specs.Going.{After, IsPolled, IsSpent, Spends, SpendsFor, Steps}
use Rattle.session_poll.proofs.GoingLemmas.{goes_as, goes_drop, goes_none, goes_on, goes_part, goes_read, goes_turn, goes_written, kept_by, spends_on}
use Rattle.session_poll.proofs.StepLemmas.{calls_by, drop_added, quiet_added, turn_added}
use Rattle.session_poll.proofs.ThereLemmas.{still_told}

-- nothing is spent
pub spends_none : (k : ℕ) (v : Ports) (b : Budget) → Spends k [] v v b b
spends_none k v b = record {
  turns = omega arith;
  reads = inl (omega arith);
  writes = inl (omega arith);
  source_waits = inl (omega arith);
  sink_waits = inl (omega arith);
}

-- a fault that rose in a later step rose in both
pub ends_since : (e : Ending) (u v w : Ports) → u.source.source.faults ≤ v.source.source.faults → u.sink.sink.faults ≤ v.sink.sink.faults
    → EndsNow e v w → EndsNow e u w
ends_since E.ReadFault u v w source sink rose = rose_since u.source.source.faults v.source.source.faults w.source.source.faults source rose
ends_since E.WriteFault u v w source sink rose = rose_since u.sink.sink.faults v.sink.sink.faults w.sink.sink.faults sink rose
ends_since e u v w source sink rose = tt

module _ (ch : Charter) (k : ℕ) (told : Told) where
  -- what is known of a span behind a step
  abbrev Comes : Came → Session → Session → PassView → Ports → Ports → Budget → (Span → Span) → Type 0
  Comes result x x' p v v' b behind =
      (s : Span) → s.to ≡ p.seen → StandsAtPorts s v → IsPolled ch k told.stop x s → After result ch k told x' p.seen v v' b (behind s)

  spends_for : (result : Came) (own : List Step) (v v' : Ports) (b b' : Budget) → Spends k own v v' b b' → SpendsFor result k own v v' b b'
  spends_for came.On own v v' b b' spent = spent
  spends_for (came.Pauses cause) own v v' b b' spent = spent
  spends_for (came.Ends e) own v v' b b' spent = tt

  -- calls were made, as many as the budget lost
  spends_calls : (own : List Step) (v : Ports) (b b' : Budget) → b.turns ≤ length (calls_of k own) + b'.turns → b'.reads ≡ b.reads → b'.writes ≡ b.writes
      → Spends k own v v b b'
  spends_calls own v b b' turns reads writes = record {
    turns = turns;
    reads = inl (omega (arith, reads));
    writes = inl (omega (arith, writes));
    source_waits = inl (omega arith);
    sink_waits = inl (omega arith);
  }

  -- no port was touched
  pub steps_still : (result : Came) (x x' : Session) (p : PassView) (v : Ports) (b : Budget) → Comes result x x' p v v b (λ s. s)
      → Steps ch k told result x x' p p v v b b
  unfolding goes_none goes_read
  steps_still result x x' p v b comes = record {
    goes = goes_none k told.handed (IsPolled ch k told.stop x) (After result ch k told x' p.seen v v b) p v comes;
    spends = spends_for result [] v v b b (spends_none k v b);
  }

  -- a turn came to that
  pub steps_turn : (step : Came) (x x' : Session) (c : Call) (result : Turned) (p q : PassView) (v : Ports) (b b' : Budget) → IsFalse (is_feed c)
      → TurnComes k told.handed c result p q untold_clock untold_clock → b'.reads ≡ b.reads → b'.writes ≡ b.writes → b.turns ≤ calls_by result + b'.turns
      → Comes step x x' p v v b' (λ s. come_to s q.seen (told.handed ∷ []))
      → Steps ch k told step x x' p q v v b b'
  unfolding goes_turn
  steps_turn step x x' c result p q v b b' kind f reads writes turns comes =
      let added = turn_added p.charter k told.handed c result p.seen q.seen kind f.came in
      record {
        goes = goes_turn k told.handed c result (IsPolled ch k told.stop x) (After step ch k told x' p.seen v v b') p q v kind f comes;
        spends = spends_for step added.own v v b b'
            (spends_calls added.own v b b' (let counted = added.counted in omega (arith, counted, turns)) reads writes);
      }

  -- a ticket was dropped
  pub steps_drop : (step : Came) (x x' : Session) (n : ℕ) (p q : PassView) (v : Ports) (b : Budget) → DropsSo k n p q
      → Comes step x x' p v v b (λ s. record s { to = q.seen })
      → Steps ch k told step x x' p q v v b b
  unfolding goes_drop
  steps_drop step x x' n p q v b d comes =
      let added = drop_added p.charter k told.handed n p.seen q.seen d.made.0 d.made.1 in
      record {
        goes = goes_drop k told.handed n (IsPolled ch k told.stop x) (After step ch k told x' p.seen v v b) p q v d comes;
        spends = spends_for step added.own v v b b (spends_calls added.own v b b (omega arith) refl refl);
      }

  -- a part of a stream was asked for
  pub steps_part : (step : Came) (x x' : Session) (given : Reply) (place : ℕ) (part : Part) (old new : List ℕ) (p q : PassView) (v : Ports) (b b' : Budget)
      → AsksPart k told.handed given place part old new p q → b'.turns ≡ b.turns → b'.reads ≡ b.reads → b'.writes ≡ b.writes
      → Comes step x x' p v v b' (λ s. come_to s q.seen (moments_of given told.handed))
      → Steps ch k told step x x' p q v v b b'
  unfolding goes_part
  steps_part step x x' given place part old new p q v b b' asks turns reads writes comes =
      let added = quiet_added p.charter k told.handed p.seen q.seen asks.quiet in
      record {
        goes = goes_part k told.handed given place part old new (IsPolled ch k told.stop x) (After step ch k told x' p.seen v v b') p q v asks comes;
        spends = spends_for step added.own v v b b' (spends_calls added.own v b b' (omega (arith, turns)) reads writes);
      }

  -- bytes were written, some or none
  pub steps_written : (result : Came) (x x' : Session) (part : List ℕ) (p : PassView) (v v' : Ports) (b b' : Budget)
      → SinkTook v.sink.sink part v'.sink.sink → v'.source.source ≡ v.source.source
      → SpendsFor result k [] v v' b b'
      → Comes result x x' p v v' b' (λ s. record s { written = s.written ++ part; new = outside_of v' s.new.clock.stops })
      → Steps ch k told result x x' p p v v' b b'
  unfolding goes_written
  steps_written result x x' part p v v' b b' took same spent comes = record {
    goes = goes_written k told.handed part (IsPolled ch k told.stop x) (After result ch k told x' p.seen v v' b') p v v' took same comes;
    spends = spent;
  }

  -- bytes were read, some or none
  pub steps_read : (result : Came) (x x' : Session) (more : List ℕ) (p : PassView) (v v' : Ports) (b b' : Budget)
      → SourceGave v.source.source more v'.source.source → v'.sink.sink ≡ v.sink.sink
      → SpendsFor result k [] v v' b b'
      → Comes result x x' p v v' b' (λ s. record s { read = s.read ++ more; new = outside_of v' s.new.clock.stops })
      → Steps ch k told result x x' p p v v' b b'
  unfolding goes_read
  steps_read result x x' more p v v' b b' gave same spent comes = record {
    goes = goes_read k told.handed more (IsPolled ch k told.stop x) (After result ch k told x' p.seen v v' b') p v v' gave same comes;
    spends = spent;
  }

  -- ---- one behind the other

  pub steps_on : (x y z : Session) (p q r : PassView) (u v w : Ports) (a b c : Budget) → Steps ch k told came.On x y p q u v a b
      → Steps ch k told came.On y z q r v w b c → Steps ch k told came.On x z p r u w a c
  unfolding goes_on
  steps_on x y z p q r u v w a b c f g = record {
    goes = goes_on k told.handed (IsPolled ch k told.stop x) (IsPolled ch k told.stop y) (IsPolled ch k told.stop z) p q r u v w f.goes g.goes;
    spends = spends_on k f.goes.own g.goes.own u v w a b c f.spends g.spends;
  }

  -- the last of them ends the session
  pub steps_end : (e : Ending) (x y z : Session) (p q r : PassView) (u v w : Ports) (a b c : Budget) → Steps ch k told came.On x y p q u v a b
      → Steps ch k told (came.Ends e) y z q r v w b c → Steps ch k told (came.Ends e) x z p r u w a c
  unfolding goes_on goes_as
  steps_end e x y z p q r u v w a b c f g = record {
    goes = goes_on k told.handed (IsPolled ch k told.stop x) (IsPolled ch k told.stop y) (After (came.Ends e) ch k told z p.seen u w c) p q r u v w f.goes
        (goes_as k told.handed (IsPolled ch k told.stop y) (After (came.Ends e) ch k told z q.seen v w c) (After (came.Ends e) ch k told z p.seen u w c) q r v w
        (λ s so. (so.0, ends_since e u v w f.goes.source.faults f.goes.sink.faults so.1)) g.goes);
    spends = tt;
  }

  -- ---- it does no more in this poll, or waits for its sink

  module _ (x : Session) (p : PassView) (b : Budget) where
    pub tired_of_reads : (v : Ports) → b.reads ≡ 0 → Steps ch k told (came.Pauses Cause.Yield) x x p p v v b b
    tired_of_reads v none = steps_still (came.Pauses Cause.Yield) x x p v b (λ s is ports so. (so, inr (inl none)))

    pub tired_of_writes : (v : Ports) → b.writes ≡ 0 → Steps ch k told (came.Pauses Cause.Yield) x x p p v v b b
    tired_of_writes v none = steps_still (came.Pauses Cause.Yield) x x p v b (λ s is ports so. (so, inr (inr none)))

    pub tired_of_turns : (v : Ports) → IsSpent x.state b → ((s : Span) → IsPolled ch k told.stop x s → WantsTurn ch k s)
        → Steps ch k told (came.Pauses Cause.Yield) x x p p v v b b
    tired_of_turns v none wants = steps_still (came.Pauses Cause.Yield) x x p v b (λ s is ports so. (so, inl (none, wants s so)))

    -- no byte goes yet, so nothing that is told of the session changes
    pub sink_waits : (v v' : Ports) → v'.source ≡ v.source → v'.sink.sink ≡ v.sink.sink → v'.sink.took ≡ v.sink.took
        → Rose v.sink.registered v'.sink.registered → Steps ch k told (came.Pauses Cause.Sink) x x p p v v' b b
    sink_waits v v' source sink took rose =
        steps_written (came.Pauses Cause.Sink) x x [] p v v' b b (subst (SinkTook v.sink.sink []) (sym sink) (sink_none v.sink.sink)) (ap (λ u. u.source) source)
        (record {
          turns = omega arith;
          reads = inl (omega (arith, ap (λ u. u.gave) source));
          writes = inl (omega (arith, took));
          source_waits = inl (omega (arith, ap (λ u. u.registered) source));
          sink_waits = kept_by v.sink.registered v'.sink.registered rose;
        })
        (λ s is ports so.
        let still = still_told s v v' ports (ap (λ u. u.source) source) sink in
        let is' = ap (λ l. record s { written = l }) (sym (append-nil s.written)) ∙ ap (λ n. record s { written = s.written ++ []; new = n }) still in
        (subst (IsPolled ch k told.stop x) is' so, rose))
