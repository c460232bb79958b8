-- The steps of a session that holds a ticket: it isn't ready, it is taken, or it is given up.
use Rattle.std.proofs.Common.{arith, ◌≡◌, ◌≤◌, ◌-◌, inl, inr, ℕ, Bool, List, [], ◌∷◌, refl, sym, ◌∙◌, ap, subst, append-nil, Ok}
use Rattle.std.specs.Prelude.{IsTrue}
use Rattle.engine_ports.specs.Clock.{untold_clock}
use Rattle.engine_ports.specs.Door.{Outside}
use Rattle.engine_ports.specs.Rose.{Rose}
use Rattle.engine_ports.specs.Sink.{SinkTook}
use Rattle.engine_ports.proofs.PortLemmas.{rose_since}
use Rattle.engine_text.specs.declared.call.Call.{Call}
use Rattle.engine_text.specs.declared.call.Call.TheVariants.{Drop, Take}
use Rattle.engine_text.specs.declared.reply.Reply.{Reply}
use Rattle.engine_text.specs.declared.reply.Reply.TheVariants as reply
use Rattle.machine_model.specs.History.{Charter}
use Rattle.http_edge.specs.Message.{Request}
use Rattle.session_model.specs.declared.ending.Ending.TheVariants as E
use Rattle.session_model.specs.declared.terms.Terms.{Terms}
use Rattle.session_model.specs.declared.turned.Turned.{Turned}
use Rattle.session_model.specs.declared.turned.Turned.TheVariants as T
use Rattle.session_model.specs.Exchange.{Flow, IsMade, IsMadeAt, IsQuiet, flow_of}
use Rattle.session_model.specs.Pass.{PassView}
use Rattle.session_model.specs.Responses.{answer_bytes, out_of_memory_response, stopping_response, terms_of}
use Rattle.session_model.specs.Session.{Cause, Span, is_pumped}
use Rattle.session_model.specs.Turning.{HasBegun}
use Rattle.session_model.proofs.HistoryLemmas.{made_before}
use Rattle.attach_hub.proofs.WaitLemmas.{begun_by, begun_rests}
use Rattle.exchange_laws.specs.Turns.{TurnComes}
use Rattle.polled_ports.specs.PollSink.{PollSinkView, PollProbeSays}
use Rattle.polled_ports.specs.PollSource.{PollSourceView}
use Rattle.exchange_laws.specs.Answers.{broken_flow}
use Rattle.polled_steps.specs.Answers.{AnswersReply, GoesBehind, IsAnswer}
use Rattle.session_model.specs.declared.followed.Followed.TheVariants as F
use Rattle.polled_steps.specs.Turning.{DropsSo}
use Rattle.polled_steps.specs.declared.answers.Answer.{Answer}
use Rattle.polled_model.specs.declared.polled.Cause.{Cause as Pause}
use Rattle.polled_model.specs.Polls.{Ports, Told, outside_of}
use Rattle.polled_model.specs.Progress.{HasEnded}
use Rattle.polled_model.specs.Stages as stage
use Rattle.polled_model.specs.Steps.{come_to}
use Rattle.polled_model.proofs.EndLemmas.{ending}
use Rattle.polled_model.proofs.WaitLemmas.{waiting}
use Rattle.session_poll.specs.declared.budget.Budget.{Budget}
use Rattle.session_poll.specs.declared.session.Session.{Session}
use Rattle.session_poll.specs.declared.state.State.{State}
use Rattle.session_poll.specs.declared.state.Step.TheVariants as came
use Rattle.session_poll.specs.declared.waiting.Over.{Over}
use Rattle.session_poll.specs.declared.waiting.Over.TheVariants as over
use Rattle.session_poll.specs.declared.waiting.Waited.TheVariants as waited
use Rattle.session_poll.specs.Going.{After, Goes, IsPolled, IsSpent, Steps, ports_of}
use Rattle.session_poll.specs.Standing.{IsAt, IsIn, unread}
use Rattle.session_poll.specs.Waiting.{AnswersOver, IsWaiting, OverSays, WaitedSays, calls_by as over_calls}
use Rattle.session_poll.proofs.GoingLemmas.{goes_drop, goes_on, goes_written}
use Rattle.session_poll.proofs.MoveLemmas.{steps_drop, steps_on, steps_turn, tired_of_turns}
use Rattle.session_poll.proofs.ReadMoveLemmas.{decided_whole}
use Rattle.session_poll.proofs.ThereLemmas.{sends_there}

-- ---- of every ticket

-- it is one that its connection has begun
pub begun_held : (ch : Charter) (k n : ℕ) (r : Request) (c : Call) (behind bytes : List ℕ) (s : Span) → stage.HoldsTicket ch k n r c behind bytes s → HasBegun ch k n s.to
begun_held ch k n r c behind bytes s x =
    begun_by ch k n c x.mid s.to (made_before ch k k c x.mid x.at s.to (reply.Begun n) x.made.0 x.quiet)

-- a sink that was asked and is as it was
pub same_sink : (u u' : PollSinkView) → PollProbeSays (Ok tt) u u' → u' ≡ u
same_sink u u' (sink, took, waits) =
    ap (λ x. record { sink = x; took = u'.took; registered = u'.registered }) sink
    ∙ ap (λ n. record { sink = u.sink; took = n; registered = u'.registered }) took
    ∙ ap (λ n. record { sink = u.sink; took = u.took; registered = n }) waits

-- a turn with a take that made no call
abbrev pub IsLeft : Turned → Type 0
IsLeft T.NotYet = Unit {0}
IsLeft T.NoMemory = Unit {0}
IsLeft turned = ⊥

pub left_quiet : (k handed n : ℕ) (turned : Turned) (p q : PassView) → IsLeft turned → TurnComes k handed (Take n) turned p q untold_clock untold_clock
    → IsQuiet k p.seen q.seen
left_quiet k handed n T.NotYet p q left f = f.came.0
left_quiet k handed n T.NoMemory p q left f = f.came
left_quiet k handed n (T.Replied r) p q left f = absurd left
left_quiet k handed n (T.Begun m) p q left f = absurd left
left_quiet k handed n T.Nothing p q left f = absurd left
left_quiet k handed n T.JournalFull p q left f = absurd left

-- the ticket is held still
pub still_begun : (k handed n : ℕ) (turned : Turned) (p q : PassView) → IsLeft turned → TurnComes k handed (Take n) turned p q untold_clock untold_clock
    → HasBegun p.charter k n p.seen → HasBegun q.charter k n q.seen
still_begun k handed n turned p q left f begun =
    begun_rests k n p q untold_clock untold_clock begun (record { moves = f.moves; quiet = left_quiet k handed n turned p q left f })

-- it was dropped, of the session's charter
pub drop_made : (ch : Charter) (k n : ℕ) (q r : PassView) → q.charter ≡ ch → DropsSo k n q r → (x : Reply) × IsMade ch k k (Drop n) q.seen r.seen x
drop_made ch k n q r same d = subst (λ c. (x : Reply) × IsMade c k k (Drop n) q.seen r.seen x) same d.made

-- ---- the peer is gone

-- behind a drop an answer is decided of which nothing more is written
pub record Unsent (ch : Charter) (k : ℕ) (s : Span) : Type 0 where
  pub r : Request
  pub flow : Flow
  pub behind : List ℕ
  pub rest : List ℕ
  pub sends : stage.Sends ch k flow r behind rest s
  pub cause : (o : Outside) → Rose s.old.sink.faults o.sink.faults → Cause flow s.old o
  pub faults : s.old.sink.faults ≤ s.new.sink.faults

module _ (k : ℕ) (told : Told) (x x' : Session) (p q : PassView) (v v' : Ports) (b b' : Budget) where
  pub ends_gone : Goes k told.handed (IsPolled p.charter k told.stop x) (Unsent p.charter k) p q v v → SinkTook v.sink.sink [] v'.sink.sink
      → Rose v.sink.sink.faults v'.sink.sink.faults → v'.source.source ≡ v.source.source → Steps p.charter k told (came.Ends E.WriteFault) x x' p q v v' b b'
  ends_gone goes took rose same = record {
    goes = goes_on k told.handed (IsPolled p.charter k told.stop x) (Unsent p.charter k) (After (came.Ends E.WriteFault) p.charter k told x' p.seen v v' b') p q q v v v' goes
        (goes_written k told.handed [] (Unsent p.charter k) (After (came.Ends E.WriteFault) p.charter k told x' p.seen v v' b') q v v' took same
        (λ s is ports un.
        let o = outside_of v' s.new.clock.stops in
        let sink : s.new.sink ≡ v.sink.sink = ap (λ (y : Outside). y.sink) ports in
        let since : Rose s.old.sink.faults v'.sink.sink.faults =
        rose_since s.old.sink.faults s.new.sink.faults v'.sink.sink.faults un.faults (subst (λ y. Rose y.faults v'.sink.sink.faults) (sym sink) rose) in
        let there = sends_there p.charter k s o un.flow un.r un.behind un.rest un.sends in
        let ended : (pumps : Bool) × HasEnded p.charter k E.WriteFault pumps (record s { new = o }) =
        (is_pumped un.flow, (ending p.charter k (record s { new = o })).unsent un.flow un.r un.behind un.rest there (un.cause o since) since) in
        (subst (λ l. (pumps : Bool) × HasEnded p.charter k E.WriteFault pumps (record s { written = l; new = o })) (sym (append-nil s.written)) ended, rose)));
    spends = tt;
  }

-- ---- where nothing is written of the answer

module _ (k : ℕ) (told : Told) (x : Session) (n : ℕ) (terms : Terms) (p : PassView) (waits : x.state ≡ State.Waits n terms) where
  -- the ticket that it holds, behind the request that it answers
  waits_at : (s : Span) → IsAt p.charter k x s → IsIn p.charter k (State.Waits n terms) x s
  waits_at s at = subst (λ state. IsIn p.charter k state x s) waits at.stands

  -- a turn more is wanted
  pub wait_wanted : (v : Ports) (b : Budget) → b.turns ≡ 0 → Steps p.charter k told (came.Pauses Pause.Yield) x x p p v v b b
  wait_wanted v b none = tired_of_turns p.charter k told x p b v (subst (λ y. IsSpent y b) (sym waits) none)
      (λ s so. let here = waits_at s so.0 in inr (inl (n, here.0, here.3.0, unread x, s.written, here.3.2)))

  -- it waits on, behind a turn that made no call
  waits_on : (q : PassView) (s : Span) → s.to ≡ p.seen → IsQuiet k p.seen q.seen → IsAt p.charter k x s → IsAt p.charter k x (come_to s q.seen (told.handed ∷ []))
  waits_on q s is quiet at =
      let here = waits_at s at in
      let more : IsQuiet k s.to q.seen = subst (λ a. IsQuiet k a q.seen) (sym is) quiet in
      let on = (waiting p.charter k n here.0 (unread x) s).waits_on (told.handed ∷ []) q.seen here.3 more in
      record {
        stands = subst (λ state. IsIn p.charter k state x (come_to s q.seen (told.handed ∷ []))) (sym waits) (here.0, here.1, here.2, on);
        moved = at.moved;
        piece = at.piece;
      }

  -- it isn't ready
  pub ticket_late : (q : PassView) (v : Ports) (b : Budget) → HasBegun p.charter k n p.seen → TurnComes k told.handed (Take n) T.NotYet p q untold_clock untold_clock
      → Steps p.charter k told (came.Pauses Pause.NotYet) x x p q v v b b
  ticket_late q v b begun f =
      let held : HasBegun p.charter k n q.seen = subst (λ c. HasBegun c k n q.seen) f.moves.stays.charter (still_begun k told.handed n T.NotYet p q tt f begun) in
      steps_turn p.charter k told (came.Pauses Pause.NotYet) x x (Take n) T.NotYet p q v b b refl f refl refl (omega arith)
      (λ s is ports (at, rose). ((waits_on q s is f.came.0 at, rose), inl (n, held, f.came.1)))

  -- it is taken
  pub ticket_taken : (q : PassView) (v : Ports) (b b' : Budget) (r : Reply) (answer : Answer) → 1 ≤ b.turns → b' ≡ record b { turns = b.turns - 1 }
      → TurnComes k told.handed (Take n) (T.Replied r) p q untold_clock untold_clock → AnswersReply terms r answer
      → Steps p.charter k told came.On x (record x { state = State.Sends answer }) p q v v b b'
  ticket_taken q v b b' r answer some spent f (status, body, whole, gives) =
      steps_turn p.charter k told came.On x (record x { state = State.Sends answer }) (Take n) (T.Replied r) p q v b b' refl f
      (ap (λ (y : Budget). y.reads) spent) (ap (λ (y : Budget). y.writes) spent) (let e = ap (λ (y : Budget). y.turns) spent in omega (arith, some, e))
      (λ s is ports (at, rose).
      let here = waits_at s at in
      let made : IsMadeAt p.charter k told.handed (Take n) s.to q.seen (reply.Answer status body) =
      subst (λ a. IsMadeAt p.charter k told.handed (Take n) a q.seen (reply.Answer status body)) (sym is)
      (subst (IsMadeAt p.charter k told.handed (Take n) p.seen q.seen) whole f.came.0) in
      let sends = (waiting p.charter k n here.0 (unread x) s).taken told.handed status body q.seen here.3 made in (
        record {
          stands = (
            here.0,
            flow_of (terms_of here.0),
            here.2,
            subst (λ w. stage.Sends p.charter k (flow_of (terms_of here.0)) here.0 (unread x) w (come_to s q.seen (told.handed ∷ [])))
                (sym (gives.bytes_are ∙ ap (λ t. answer_bytes t status body) here.1)) sends,
            subst (λ t. GoesBehind answer.next (flow_of t)) here.1 gives.behind,
            decided_whole (terms_of here.0) (come_to s q.seen (told.handed ∷ [])),
          );
          moved = at.moved;
          piece = at.piece;
        },
        rose,
      ))

  -- ---- it is given up

  module _ (q r : PassView) (v : Ports) (b : Budget) (turned : Turned) (left : IsLeft turned) (f : TurnComes k told.handed (Take n) turned p q untold_clock untold_clock)
      (d : DropsSo k n q r) where
    -- up to the drop
    taken_first : Steps p.charter k told came.On x x p q v v b b
    taken_first = steps_turn p.charter k told came.On x x (Take n) turned p q v b b refl f refl refl (omega arith)
        (λ s is ports (at, rose). (waits_on q s is (left_quiet k told.handed n turned p q left f) at, rose))

    -- for want of memory
    pub given_up : (answer : Answer) → IsAnswer answer (flow_of terms) (out_of_memory_response terms)
        → Steps p.charter k told came.On x (record x { state = State.Sends answer }) p r v v b b
    given_up answer gives = steps_on p.charter k told x x (record x { state = State.Sends answer }) p q r v v v b b b taken_first
        (steps_drop p.charter k told came.On x (record x { state = State.Sends answer }) n q r v b d
        (λ s is ports (at, rose).
        let here = waits_at s at in
        let made = subst (λ a. (y : Reply) × IsMade p.charter k k (Drop n) a r.seen y) (sym is) (drop_made p.charter k n q r f.moves.stays.charter d) in
        let sends = (waiting p.charter k n here.0 (unread x) s).given_up made.0 r.seen here.3 made.1 in (
          record {
            stands = (
              here.0,
              flow_of (terms_of here.0),
              here.2,
              subst (λ w. stage.Sends p.charter k (flow_of (terms_of here.0)) here.0 (unread x) w (record s { to = r.seen }))
                  (sym (gives.bytes_are ∙ ap out_of_memory_response here.1)) sends,
              subst (λ t. GoesBehind answer.next (flow_of t)) here.1 gives.behind,
              decided_whole (terms_of here.0) (record s { to = r.seen }),
            );
            moved = at.moved;
            piece = at.piece;
          },
          rose,
        )))

    -- since the daemon stops
    pub wait_stopped : (answer : Answer) → IsTrue told.stop → IsAnswer answer (broken_flow F.Stopped) (stopping_response terms)
        → Steps p.charter k told came.On x (record x { state = State.Sends answer }) p r v v b b
    wait_stopped answer stops gives = steps_on p.charter k told x x (record x { state = State.Sends answer }) p q r v v v b b b taken_first
        (steps_drop p.charter k told came.On x (record x { state = State.Sends answer }) n q r v b d
        (λ s is ports (at, rose).
        let here = waits_at s at in
        let made = subst (λ a. (y : Reply) × IsMade p.charter k k (Drop n) a r.seen y) (sym is) (drop_made p.charter k n q r f.moves.stays.charter d) in
        let sends = (waiting p.charter k n here.0 (unread x) s).stopped made.0 r.seen here.3 made.1 in (
          record {
            stands = (
              here.0,
              broken_flow F.Stopped,
              here.2,
              subst (λ w. stage.Sends p.charter k (broken_flow F.Stopped) here.0 (unread x) w (record s { to = r.seen }))
                  (sym (gives.bytes_are ∙ ap stopping_response here.1)) sends,
              gives.behind,
              (refl, tt, (rose stops, tt)),
            );
            moved = at.moved;
            piece = at.piece;
          },
          rose,
        )))

    -- since the peer is gone
    pub wait_gone : (x' : Session) (v' : Ports) (b' : Budget) → SinkTook v.sink.sink [] v'.sink.sink → Rose v.sink.sink.faults v'.sink.sink.faults
        → v'.source.source ≡ v.source.source → Steps p.charter k told (came.Ends E.WriteFault) x x' p r v v' b b'
    wait_gone x' v' b' took rose same = ends_gone k told x x' p r v v' b b'
        (goes_on k told.handed (IsPolled p.charter k told.stop x) (IsPolled p.charter k told.stop x) (Unsent p.charter k) p q r v v v taken_first.goes
        (goes_drop k told.handed n (IsPolled p.charter k told.stop x) (Unsent p.charter k) q r v d
        (λ s is ports (at, stops).
        let here = waits_at s at in
        let made = subst (λ a. (y : Reply) × IsMade p.charter k k (Drop n) a r.seen y) (sym is) (drop_made p.charter k n q r f.moves.stays.charter d) in
        record {
          r = here.0;
          flow = flow_of (terms_of here.0);
          behind = unread x;
          rest = out_of_memory_response (terms_of here.0);
          sends = (waiting p.charter k n here.0 (unread x) s).given_up made.0 r.seen here.3 made.1;
          cause = λ o since. (decided_whole (terms_of here.0) (record s { new = o })).2;
          faults = at.moved.sink.faults;
        })))
        took rose same

-- ---- by what the wait came to

none_spent : {b b' : Budget} → b' ≡ record b { turns = b.turns - 0 } → b' ≡ b
none_spent {b} {b'} is = let e : b.turns - 0 ≡ b.turns = omega arith in is ∙ ap (λ n. record b { turns = n }) e

module _ (k : ℕ) (told : Told) (x : Session) (n : ℕ) (terms : Terms) (p q : PassView) (u u' : PollSinkView) (b b' : Budget) (waits : IsWaiting n terms x.state)
    (s : PollSourceView) where
  pub waited_late : HasBegun p.charter k n p.seen → WaitedSays k told.handed n told.stop waited.NotYet p q u u'
      → Steps p.charter k told (came.Pauses Pause.NotYet) x x p q (ports_of s u) (ports_of s u') b b
  waited_late begun (once, probed) =
      subst (λ w. Steps p.charter k told (came.Pauses Pause.NotYet) x x p q (ports_of s u) (ports_of s w) b b) (sym (same_sink u u' probed))
      (ticket_late k told x n terms p waits q (ports_of s u) b begun once.comes)

  pub waited_gone : (x' : Session) → WaitedSays k told.handed n told.stop waited.Gone p q u u'
      → Steps p.charter k told (came.Ends E.WriteFault) x x' p q (ports_of s u) (ports_of s u') b b'
  waited_gone x' (gives, (fault, ((took, rose), counted, waits'))) =
      wait_gone k told x n terms p waits gives.mid q (ports_of s u) b T.NotYet tt gives.take gives.drop x' (ports_of s u') b' took rose refl

  -- it is over, and its answer on its way
  over_so : (o : Over) (answer : Answer) → OverSays k told.handed n told.stop o p q → 1 ≤ b.turns → b' ≡ record b { turns = b.turns - over_calls o }
      → AnswersOver terms o answer → Steps p.charter k told came.On x (record x { state = State.Sends answer }) p q (ports_of s u) (ports_of s u) b b'
  over_so (over.Replied r) answer says some spent gives = ticket_taken k told x n terms p waits q (ports_of s u) b b' r answer some spent says.comes gives
  over_so over.NoMemory answer says some spent gives =
      subst (Steps p.charter k told came.On x (record x { state = State.Sends answer }) p q (ports_of s u) (ports_of s u) b) (sym (none_spent spent))
      (given_up k told x n terms p waits says.mid q (ports_of s u) b T.NoMemory tt says.take says.drop answer gives)
  over_so over.Stopped answer (says, stops) some spent gives =
      subst (Steps p.charter k told came.On x (record x { state = State.Sends answer }) p q (ports_of s u) (ports_of s u) b) (sym (none_spent spent))
      (wait_stopped k told x n terms p waits says.mid q (ports_of s u) b T.NotYet tt says.take says.drop answer stops gives)

  pub waited_over : (o : Over) (answer : Answer) → WaitedSays k told.handed n told.stop (waited.Over o) p q u u' → 1 ≤ b.turns
      → b' ≡ record b { turns = b.turns - over_calls o } → AnswersOver terms o answer
      → Steps p.charter k told came.On x (record x { state = State.Sends answer }) p q (ports_of s u) (ports_of s u') b b'
  waited_over o answer (says, same) some spent gives =
      subst (λ w. Steps p.charter k told came.On x (record x { state = State.Sends answer }) p q (ports_of s u) (ports_of s w) b b') (sym same)
      (over_so o answer says some spent gives)
