-- The steps of a session that holds a ticket behind a head that came early.
use Rattle.std.proofs.Common.{arith, ◌≡◌, ◌≤◌, ◌-◌, inl, inr, ℕ, false, List, [], ◌∷◌, ◌++◌, refl, sym, ◌∙◌, ap, subst, None, Some}
use Rattle.std.specs.Prelude.{IsTrue}
use Rattle.std.proofs.lemmas.Bool.{false≢true}
use Rattle.engine_ports.specs.Clock.{untold_clock}
use Rattle.engine_ports.specs.Rose.{Rose}
use Rattle.engine_ports.specs.Sink.{SinkTook}
use Rattle.engine_text.specs.declared.call.Call.{Call}
use Rattle.engine_text.specs.declared.call.Call.TheVariants.{Drop, Take, Wait}
use Rattle.engine_text.specs.declared.reply.Reply.{Reply}
use Rattle.engine_text.specs.declared.reply.Reply.TheVariants as reply
use Rattle.engine_text.specs.declared.step.Step.{Step}
use Rattle.machine_model.specs.History.{Charter, IsLegal}
use Rattle.http_edge.specs.Chunks.{last_chunk}
use Rattle.http_edge.specs.Message.{Request}
use Rattle.session_model.specs.declared.ending.Ending.{Ending}
use Rattle.session_model.specs.declared.ending.Ending.TheVariants as E
use Rattle.session_model.specs.declared.followed.Followed.{Followed}
use Rattle.session_model.specs.declared.followed.Followed.TheVariants as F
use Rattle.session_model.specs.declared.terms.Terms.{Terms}
use Rattle.session_model.specs.declared.turned.Turned.{Turned}
use Rattle.session_model.specs.declared.turned.Turned.TheVariants as T
use Rattle.session_model.specs.Exchange.{BreaksWait, Leaves, IsMade, IsMadeAt, IsQuiet, flow_of, is_early}
use Rattle.session_model.specs.Pass.{PassView}
use Rattle.session_model.specs.Responses.{terms_of}
use Rattle.session_model.specs.Session.{Cause, Span, ending_of}
use Rattle.session_model.specs.Turning.{HasBegun}
use Rattle.session_model.proofs.HistoryLemmas.{made_before}
use Rattle.attach_hub.proofs.StatusLemmas.{wait_status}
use Rattle.exchange_laws.specs.Answers.{one_chunk}
use Rattle.exchange_laws.specs.Turns.{TurnComes}
use Rattle.exchange_laws.proofs.EarlyLemmas.{is_chunked}
use Rattle.polled_ports.specs.PollSink.{PollSinkView}
use Rattle.polled_ports.specs.PollSource.{PollSourceView}
use Rattle.polled_steps.specs.Answers.{AnswersChunk, GoesBehind}
use Rattle.polled_steps.specs.Bytes.{rest_of}
use Rattle.polled_steps.specs.Turning.{DropsSo}
use Rattle.polled_steps.specs.declared.answers.Answer.{Answer}
use Rattle.polled_steps.specs.declared.outgoing.Outgoing.{Outgoing}
use Rattle.polled_model.specs.declared.polled.Cause.{Cause as Pause}
use Rattle.polled_model.specs.Polls.{EndsNow, Ports, Told}
use Rattle.polled_model.specs.Stages as stage
use Rattle.polled_model.specs.Steps.{come_to}
use Rattle.polled_model.proofs.EndLemmas.{ending}
use Rattle.polled_model.proofs.StageLemmas.{writing}
use Rattle.polled_model.proofs.WaitLemmas.{waiting_early}
use Rattle.session_poll.specs.declared.budget.Budget.{Budget}
use Rattle.session_poll.specs.declared.session.Session.{Session}
use Rattle.session_poll.specs.declared.state.State.{State}
use Rattle.session_poll.specs.declared.state.Step.{Step as Came}
use Rattle.session_poll.specs.declared.state.Step.TheVariants as came
use Rattle.session_poll.specs.declared.waiting.Over.TheVariants as over
use Rattle.session_poll.specs.declared.waiting.Waited.TheVariants as waited
use Rattle.session_poll.specs.declared.writing.Wrote.TheVariants as wrote
use Rattle.session_poll.specs.Going.{IsPolled, IsSpent, Steps, StepsBySink, ports_of}
use Rattle.session_poll.specs.Standing.{IsAt, IsIn, unread}
use Rattle.session_poll.specs.Waiting.{HasOpened, WaitedSays}
use Rattle.session_poll.specs.Writing.{WroteSays}
use Rattle.session_poll.proofs.GoingLemmas.{goes_drop, goes_on}
use Rattle.session_poll.proofs.MoveLemmas.{steps_drop, steps_end, steps_turn, tired_of_turns}
use Rattle.session_poll.proofs.ReadMoveLemmas.{decided_whole}
use Rattle.session_poll.proofs.SendMoveLemmas.{steps_some, tired_so, waits_so}
use Rattle.session_poll.proofs.WaitMoveLemmas.{IsLeft, Unsent, drop_made, ends_gone, left_quiet, same_sink, still_begun}

-- only a wait's head comes early, and its ticket is answered with 200
status_so : (ch : Charter) (k n : ℕ) (r : Request) (c : Call) (a b d : List Step) (status : ℕ) (body : List ℕ) → IsTrue (is_early r c)
    → IsLegal ch b → IsMade ch k k c a b (reply.Begun n) → IsMade ch k k (Take n) b d (reply.Answer status body) → status ≡ 200
status_so ch k n r (Wait target until) a b d status body early legal begun took = wait_status ch k n target until a b d status body legal begun took
status_so ch k n r c a b d status body early legal begun took = absurd (false≢true early)

-- ---- the head is written on

module _ (k : ℕ) (x : Session) (n : ℕ) (terms : Terms) (out out' : Outgoing) (opens : x.state ≡ State.WaitsEarly n terms out) (u u' : PollSinkView) (b b' : Budget) where
  same_head : out' ≡ out → x.state ≡ State.WaitsEarly n terms out'
  same_head is = opens ∙ ap (λ o. State.WaitsEarly n terms o) (sym is)

  pub head_some : WroteSays wrote.Some out out' u u' b b' → StepsBySink k came.On x (record x { state = State.WaitsEarly n terms out' }) u u' b b'
  head_some ((some, waits), left, spent) ch told p s =
      subst (Steps ch k told came.On x (record x { state = State.WaitsEarly n terms out' }) p p (ports_of s u) (ports_of s u') b) (sym spent)
      (steps_some ch k told x p s u u' b out out' (State.WaitsEarly n terms out') some waits left
      (λ span part is at.
      let here = subst (λ state. IsIn ch k state x span) opens at.stands in
      (here.0, here.1, here.2, (writing ch k part (rest_of out') span).early n here.0 (unread x) (subst (λ w. stage.WaitsEarly ch k n here.0 (unread x) w span) is here.3))))

  pub head_waits : WroteSays wrote.Waits out out' u u' b b'
      → StepsBySink k (came.Pauses Pause.Sink) x (record x { state = State.WaitsEarly n terms out' }) u u' b b'
  head_waits ((same, sink, took, rose), spent) = waits_so k x u u' b b' (State.WaitsEarly n terms out') (same_head same) sink took rose spent

  pub head_tired : WroteSays wrote.Tired out out' u u' b b'
      → StepsBySink k (came.Pauses Pause.Yield) x (record x { state = State.WaitsEarly n terms out' }) u u' b b'
  head_tired (none, same, still, spent) = tired_so k x u u' b b' (State.WaitsEarly n terms out') (same_head same) still none spent

-- ---- behind the head, or inside of it

module _ (k : ℕ) (told : Told) (x : Session) (n : ℕ) (terms : Terms) (out : Outgoing) (p : PassView) (opens : x.state ≡ State.WaitsEarly n terms out) where
  early_at : (s : Span) → IsAt p.charter k x s → IsIn p.charter k (State.WaitsEarly n terms out) x s
  early_at s at = subst (λ state. IsIn p.charter k state x s) opens at.stands

  -- a turn more is wanted
  pub early_wanted : (v : Ports) (b : Budget) → b.turns ≡ 0 → Steps p.charter k told (came.Pauses Pause.Yield) x x p p v v b b
  early_wanted v b none = tired_of_turns p.charter k told x p b v (subst (λ y. IsSpent y b) (sym opens) none)
      (λ s so. let here = early_at s so.0 in inr (inl (n, here.0, here.3.c, unread x, here.3.bytes, here.3.ticket)))

  -- it waits on, behind a turn that made no call
  early_on : (q : PassView) (s : Span) → s.to ≡ p.seen → IsQuiet k p.seen q.seen → IsAt p.charter k x s → IsAt p.charter k x (come_to s q.seen (told.handed ∷ []))
  early_on q s is quiet at =
      let here = early_at s at in
      let more : IsQuiet k s.to q.seen = subst (λ a. IsQuiet k a q.seen) (sym is) quiet in
      let on = (waiting_early p.charter k n here.0 (unread x) (rest_of out) s).waits_on (told.handed ∷ []) q.seen here.3 more in
      record {
        stands = subst (λ state. IsIn p.charter k state x (come_to s q.seen (told.handed ∷ []))) (sym opens) (here.0, here.1, here.2, on);
        moved = at.moved;
        piece = at.piece;
      }

  -- it isn't ready
  pub early_late : (q : PassView) (v : Ports) (b : Budget) → HasBegun p.charter k n p.seen → TurnComes k told.handed (Take n) T.NotYet p q untold_clock untold_clock
      → Steps p.charter k told (came.Pauses Pause.NotYet) x x p q v v b b
  early_late q v b begun f =
      let held : HasBegun p.charter k n q.seen = subst (λ c. HasBegun c k n q.seen) f.moves.stays.charter (still_begun k told.handed n T.NotYet p q tt f begun) in
      steps_turn p.charter k told (came.Pauses Pause.NotYet) x x (Take n) T.NotYet p q v b b refl f refl refl (omega arith)
      (λ s is ports (at, rose). ((early_on q s is f.came.0 at, rose), inl (n, held, f.came.1)))

  -- it is taken, behind a head that is written
  pub early_taken : (q : PassView) (v : Ports) (b b' : Budget) (r : Reply) (answer : Answer) → rest_of out ≡ [] → IsLegal p.charter p.seen → 1 ≤ b.turns
      → b' ≡ record b { turns = b.turns - 1 } → TurnComes k told.handed (Take n) (T.Replied r) p q untold_clock untold_clock → AnswersChunk terms r answer
      → Steps p.charter k told came.On x (record x { state = State.Sends answer }) p q v v b b'
  early_taken q v b b' r answer none legal some spent f (status, body, whole, gives) =
      steps_turn p.charter k told came.On x (record x { state = State.Sends answer }) (Take n) (T.Replied r) p q v b b' refl f
      (ap (λ (y : Budget). y.reads) spent) (ap (λ (y : Budget). y.writes) spent) (let e = ap (λ (y : Budget). y.turns) spent in omega (arith, some, e))
      (λ s is ports (at, rose).
      let here = early_at s at in
      let stands : IsLegal p.charter s.to = subst (IsLegal p.charter) (sym is) legal in
      let took : IsMadeAt p.charter k told.handed (Take n) s.to q.seen (reply.Answer status body) =
      subst (λ a. IsMadeAt p.charter k told.handed (Take n) a q.seen (reply.Answer status body)) (sym is)
      (subst (IsMadeAt p.charter k told.handed (Take n) p.seen q.seen) whole f.came.0) in
      let begun : IsMade p.charter k k here.3.c here.3.ticket.mid s.to (reply.Begun n) =
      made_before p.charter k k here.3.c here.3.ticket.mid here.3.ticket.at s.to (reply.Begun n) here.3.ticket.made.0 here.3.ticket.quiet in
      let fine : status ≡ 200 = status_so p.charter k n here.0 here.3.c here.3.ticket.mid s.to q.seen status body here.3.soon stands begun took.0 in
      let made = subst (λ y. IsMadeAt p.charter k told.handed (Take n) s.to q.seen (reply.Answer y body)) fine took in
      let sends = (waiting_early p.charter k n here.0 (unread x) (rest_of out) s).taken told.handed body (one_chunk body) q.seen here.3 made (is_chunked body) in (
        record {
          stands = (
            here.0,
            flow_of (terms_of here.0),
            here.2,
            subst (λ w. stage.Sends p.charter k (flow_of (terms_of here.0)) here.0 (unread x) w (come_to s q.seen (told.handed ∷ [])))
                (ap (λ l. l ++ one_chunk body ++ last_chunk) none ∙ sym gives.bytes_are) sends,
            subst (λ t. GoesBehind answer.next (flow_of t)) here.1 gives.behind,
            decided_whole (terms_of here.0) (come_to s q.seen (told.handed ∷ [])),
          );
          moved = at.moved;
          piece = at.piece;
        },
        rose,
      ))

  -- ---- it is given up

  -- what the drop leaves
  broken : (g : Followed) (q r : PassView) (s : Span) → BreaksWait g → q.charter ≡ p.charter → DropsSo k n q r → s.to ≡ q.seen → (at : IsAt p.charter k x s)
      → (y : Request) × stage.Sends p.charter k (Leaves g None) y (unread x) (rest_of out) (record s { to = r.seen })
  broken g q r s breaks same d is at =
      let here = early_at s at in
      let made = subst (λ a. (y : Reply) × IsMade p.charter k k (Drop n) a r.seen y) (sym is) (drop_made p.charter k n q r same d) in
      (here.0, (waiting_early p.charter k n here.0 (unread x) (rest_of out) s).broken g made.0 r.seen here.3 breaks made.1)

  -- since the sink failed, or the peer is gone
  unsent : (q r : PassView) (s : Span) → q.charter ≡ p.charter → DropsSo k n q r → s.to ≡ q.seen → IsAt p.charter k x s → Unsent p.charter k (record s { to = r.seen })
  unsent q r s same d is at =
      let left = broken F.WriteFault q r s tt same d is at in record {
        r = left.0;
        flow = Leaves F.WriteFault None;
        behind = unread x;
        rest = rest_of out;
        sends = left.1;
        cause = λ o since. (since, tt);
        faults = at.moved.sink.faults;
      }

  -- as its head was written
  pub head_fault : (x' : Session) (q : PassView) (v v' : Ports) (b b' : Budget) → DropsSo k n p q → SinkTook v.sink.sink [] v'.sink.sink
      → Rose v.sink.sink.faults v'.sink.sink.faults → v'.source.source ≡ v.source.source → Steps p.charter k told (came.Ends E.WriteFault) x x' p q v v' b b'
  head_fault x' q v v' b b' d took rose same = ends_gone k told x x' p q v v' b b'
      (goes_drop k told.handed n (IsPolled p.charter k told.stop x) (Unsent p.charter k) p q v d (λ s is ports so. unsent p q s refl d is so.0))
      took rose same

  module _ (q r : PassView) (v : Ports) (b : Budget) (turned : Turned) (left : IsLeft turned) (f : TurnComes k told.handed (Take n) turned p q untold_clock untold_clock)
      (d : DropsSo k n q r) where
    -- up to the drop
    early_first : Steps p.charter k told came.On x x p q v v b b
    early_first = steps_turn p.charter k told came.On x x (Take n) turned p q v b b refl f refl refl (omega arith)
        (λ s is ports (at, rose). (early_on q s is (left_quiet k told.handed n turned p q left f) at, rose))

    pub early_gone : (x' : Session) (v' : Ports) (b' : Budget) → SinkTook v.sink.sink [] v'.sink.sink → Rose v.sink.sink.faults v'.sink.sink.faults
        → v'.source.source ≡ v.source.source → Steps p.charter k told (came.Ends E.WriteFault) x x' p r v v' b b'
    early_gone x' v' b' took rose same = ends_gone k told x x' p r v v' b b'
        (goes_on k told.handed (IsPolled p.charter k told.stop x) (IsPolled p.charter k told.stop x) (Unsent p.charter k) p q r v v v early_first.goes
        (goes_drop k told.handed n (IsPolled p.charter k told.stop x) (Unsent p.charter k) q r v d
        (λ s is ports so. unsent q r s f.moves.stays.charter d is so.0)))
        took rose same

    -- for want of memory, or since the daemon stops
    early_ends : (g : Followed) (e : Ending) (x' : Session) → rest_of out ≡ [] → BreaksWait g → ending_of (Leaves g None) ≡ Some e → EndsNow e v v
        → ((s : Span) → IsPolled p.charter k told.stop x s → Cause (Leaves g None) s.old s.new)
        → Steps p.charter k told (came.Ends e) x x' p r v v b b
    early_ends g e x' none breaks ends now cause = steps_end p.charter k told e x x x' p q r v v v b b b early_first
        (steps_drop p.charter k told (came.Ends e) x x' n q r v b d
        (λ s is ports so.
        let left = broken g q r s breaks f.moves.stays.charter d is so.0 in
        let all = subst (λ w. stage.Sends p.charter k (Leaves g None) left.0 (unread x) w (record s { to = r.seen })) none left.1 in
        ((false, (ending p.charter k (record s { to = r.seen })).behind (Leaves g None) e left.0 (unread x) all ends (cause s so)), now)))

    pub early_short : (x' : Session) → rest_of out ≡ [] → Steps p.charter k told (came.Ends E.NoMemory) x x' p r v v b b
    early_short x' none = early_ends F.NoMemory E.NoMemory x' none tt refl tt (λ s so. (tt, tt))

    pub early_stopped : (x' : Session) → rest_of out ≡ [] → IsTrue told.stop → Steps p.charter k told (came.Ends E.Stopped) x x' p r v v b b
    early_stopped x' none stops = early_ends F.Stopped E.Stopped x' none tt refl tt (λ s so. (so.1 stops, tt))

-- ---- by what the wait came to

module _ (k : ℕ) (told : Told) (x : Session) (n : ℕ) (terms : Terms) (p q : PassView) (u u' : PollSinkView) (b b' : Budget) (opened : HasOpened n terms x.state)
    (s : PollSourceView) where
  pub behind_late : HasBegun p.charter k n p.seen → WaitedSays k told.handed n told.stop waited.NotYet p q u u'
      → Steps p.charter k told (came.Pauses Pause.NotYet) x x p q (ports_of s u) (ports_of s u') b b
  behind_late begun (once, probed) =
      subst (λ w. Steps p.charter k told (came.Pauses Pause.NotYet) x x p q (ports_of s u) (ports_of s w) b b) (sym (same_sink u u' probed))
      (early_late k told x n terms opened.0 p opened.1 q (ports_of s u) b begun once.comes)

  pub behind_gone : (x' : Session) → WaitedSays k told.handed n told.stop waited.Gone p q u u'
      → Steps p.charter k told (came.Ends E.WriteFault) x x' p q (ports_of s u) (ports_of s u') b b'
  behind_gone x' (gives, (fault, ((took, rose), counted, waits'))) =
      early_gone k told x n terms opened.0 p opened.1 gives.mid q (ports_of s u) b T.NotYet tt gives.take gives.drop x' (ports_of s u') b' took rose refl

  pub behind_short : (x' : Session) → WaitedSays k told.handed n told.stop (waited.Over over.NoMemory) p q u u'
      → Steps p.charter k told (came.Ends E.NoMemory) x x' p q (ports_of s u) (ports_of s u') b b
  behind_short x' (gives, same) =
      subst (λ w. Steps p.charter k told (came.Ends E.NoMemory) x x' p q (ports_of s u) (ports_of s w) b b) (sym same)
      (early_short k told x n terms opened.0 p opened.1 gives.mid q (ports_of s u) b T.NoMemory tt gives.take gives.drop x' opened.2)

  pub behind_stopped : (x' : Session) → WaitedSays k told.handed n told.stop (waited.Over over.Stopped) p q u u'
      → Steps p.charter k told (came.Ends E.Stopped) x x' p q (ports_of s u) (ports_of s u') b b
  behind_stopped x' ((gives, stops), same) =
      subst (λ w. Steps p.charter k told (came.Ends E.Stopped) x x' p q (ports_of s u) (ports_of s w) b b) (sym same)
      (early_stopped k told x n terms opened.0 p opened.1 gives.mid q (ports_of s u) b T.NotYet tt gives.take gives.drop x' opened.2 stops)

  pub behind_taken : (r : Reply) (answer : Answer) → IsLegal p.charter p.seen → 1 ≤ b.turns → WaitedSays k told.handed n told.stop (waited.Over (over.Replied r)) p q u u'
      → AnswersChunk terms r answer
      → Steps p.charter k told came.On x (record x { state = State.Sends answer }) p q (ports_of s u) (ports_of s u') b (record b { turns = b.turns - 1 })
  behind_taken r answer legal some (once, same) gives =
      subst (λ w. Steps p.charter k told came.On x (record x { state = State.Sends answer }) p q (ports_of s u) (ports_of s w) b (record b { turns = b.turns - 1 })) (sym same)
      (early_taken k told x n terms opened.0 p opened.1 q (ports_of s u) b (record b { turns = b.turns - 1 }) r answer opened.2 legal some refl once.comes gives)

-- behind a head that was written already
pub behind_head : (ch : Charter) (k : ℕ) (told : Told) (result : Came) (x x' : Session) (n : ℕ) (terms : Terms) (out out' : Outgoing) (p q : PassView) (s : PollSourceView)
    (u v w : PollSinkView) (a b c : Budget) → x.state ≡ State.WaitsEarly n terms out → WroteSays wrote.All out out' u v a b
    → Steps ch k told result (record x { state = State.WaitsEarly n terms out' }) x' p q (ports_of s v) (ports_of s w) b c
    → Steps ch k told result x x' p q (ports_of s u) (ports_of s w) a c
behind_head ch k told result x x' n terms out out' p q s u v w a b c opens (none, same, still, spent) f =
    subst (λ d. Steps ch k told result x x' p q (ports_of s u) (ports_of s w) d c) spent
    (subst (λ y. Steps ch k told result x x' p q (ports_of s y) (ports_of s w) b c) still
    (subst (λ y. Steps ch k told result (record x { state = y }) x' p q (ports_of s v) (ports_of s w) b c)
    (ap (λ o. State.WaitsEarly n terms o) same ∙ sym opens) f))
