-- The steps of a session that is asked for a stream: its call was made, or not; and of one that tells a stream.
use Rattle.std.proofs.Common.{arith, ◌≡◌, ◌<◌, ◌≤◌, ◌+◌, inl, ℕ, false, List, [], ◌∷◌, refl, sym, ◌∙◌, ap, subst, Some, None}
use Rattle.engine_text.specs.declared.call.Call.{Call}
use Rattle.engine_text.specs.declared.reply.Reply.{Reply}
use Rattle.engine_text.specs.declared.reply.Reply.TheVariants as reply
use Rattle.engine_text.specs.declared.step.Step.{Step}
use Rattle.machine_model.specs.Statuses.{is_feed}
use Rattle.machine_model.specs.History.{Charter}
use Rattle.api_routes.specs.Class.{class_of}
use Rattle.api_routes.specs.declared.class.Takeover.{Takeover}
use Rattle.session_model.specs.declared.ending.Ending.TheVariants as E
use Rattle.session_model.specs.declared.terms.Terms.{Terms}
use Rattle.session_model.specs.Exchange.{IsMadeAt, IsQuiet, call_of, flow_of}
use Rattle.session_model.specs.Pass.{PassView}
use Rattle.session_model.specs.Responses.{answer_bytes, head_of_stream, journal_full_response, out_of_memory_response, terms_of}
use Rattle.session_model.specs.Session.{Span}
use Rattle.polled_ports.specs.PollSink.{PollSinkView}
use Rattle.polled_ports.specs.PollSource.{PollSourceView}
use Rattle.polled_steps.specs.Answers.{GoesBehind, IsAnswer}
use Rattle.polled_steps.specs.Bytes.{rest_of}
use Rattle.polled_steps.specs.Opening.{IsOpenedSo, OpensOnce, opened_as}
use Rattle.polled_steps.specs.declared.answers.Answer.{Answer}
use Rattle.polled_steps.specs.declared.opening.Opened.{Opened}
use Rattle.polled_steps.specs.declared.outgoing.Outgoing.{Outgoing}
use Rattle.polled_model.specs.declared.polled.Cause.{Cause as Pause}
use Rattle.polled_model.specs.Places.{first_place}
use Rattle.polled_model.specs.Polls.{Ports, Told, WantsTurn, outside_of}
use Rattle.polled_model.specs.Stages as stage
use Rattle.polled_model.specs.Steps.{come_to}
use Rattle.polled_model.proofs.EndLemmas.{ending}
use Rattle.polled_model.proofs.StageLemmas.{reading, writing}
use Rattle.session_poll.specs.declared.budget.Budget.{Budget}
use Rattle.session_poll.specs.declared.session.Session.{Session}
use Rattle.session_poll.specs.declared.state.State.{State}
use Rattle.session_poll.specs.declared.state.Step.{Step as Came}
use Rattle.session_poll.specs.declared.state.Step.TheVariants as came
use Rattle.session_poll.specs.declared.writing.Wrote.TheVariants as wrote
use Rattle.session_poll.specs.Going.{IsSpent, Steps, StepsBySink, TellsBy, ports_of}
use Rattle.session_poll.specs.Left.{left_of, steps_left}
use Rattle.session_poll.specs.Standing.{IsIn, unread}
use Rattle.session_poll.specs.Streaming.{IsOpenedWhole, IsOpening, OpensBy, left_behind}
use Rattle.session_poll.specs.Writing.{WroteSays}
use Rattle.session_poll.proofs.AskMoveLemmas.{is_called}
use Rattle.session_poll.proofs.LeftLemmas.{answered_less, begun_less, steps_of, turn_less}
use Rattle.session_poll.proofs.MoveLemmas.{steps_turn, tired_of_turns}
use Rattle.session_poll.proofs.PlaceLemmas.{up_to_first}
use Rattle.session_poll.proofs.ReadMoveLemmas.{decided_whole}
use Rattle.session_poll.proofs.SendMoveLemmas.{steps_fault, steps_some, tired_so, waits_so}
use Rattle.session_poll.proofs.StepLemmas.{calls_by}
use Rattle.session_poll.proofs.ThereLemmas.{streams_there}

-- ---- where the session stands behind the call

module _ (k handed : ℕ) (x : Session) (c : Call) (terms : Terms) (p q : PassView) (s : Span) (is : s.to ≡ p.seen) where
  abbrev behind : Span
  behind = come_to s q.seen (handed ∷ [])

  -- this answer is on its way, of these bytes
  sends_so : (bytes : Terms → List ℕ) (answer : Answer) (here : IsIn p.charter k (State.Opens c terms) x s)
      → stage.Sends p.charter k (flow_of (terms_of here.0)) here.0 (unread x) (bytes (terms_of here.0)) behind
      → IsAnswer answer (flow_of terms) (bytes terms) → IsIn p.charter k (State.Sends answer) (record x { state = State.Sends answer }) behind
  sends_so bytes answer here sends gives = (
    here.0,
    flow_of (terms_of here.0),
    here.2,
    subst (λ w. stage.Sends p.charter k (flow_of (terms_of here.0)) here.0 (unread x) w behind) (sym (gives.bytes_are ∙ ap bytes here.6)) sends,
    subst (λ t. GoesBehind answer.next (flow_of t)) here.6 gives.behind,
    decided_whole (terms_of here.0) behind,
  )

  made_here : (r : Reply) → IsMadeAt p.charter k handed c p.seen q.seen r → IsMadeAt p.charter k handed c s.to q.seen r
  made_here r made = subst (λ a. IsMadeAt p.charter k handed c a q.seen r) (sym is) made

  quiet_here : IsQuiet k p.seen q.seen → IsQuiet k s.to q.seen
  quiet_here quiet = subst (λ a. IsQuiet k a q.seen) (sym is) quiet

  stands_by : (opened : Opened) (state : State) → IsIn p.charter k (State.Opens c terms) x s → OpensOnce k handed c opened p q
      → OpensBy opened terms state → IsIn p.charter k state (record x { state = state }) behind
  stands_by (Opened.Streams given) state here once (out, at, head) =
      subst (λ y. IsIn p.charter k y (record x { state = y }) behind) (sym at) (
        here.0,
        [],
        here.6,
        here.2,
        subst (λ w. stage.Streams p.charter k here.0 (unread x) given (first_place given) [] w behind)
            (sym (head ∙ ap (λ t. head_of_stream t Takeover.None given) here.6))
            ((reading p.charter k here.1 s).streamed (unread x) handed here.0 c given q.seen here.3 here.4 here.5 once.so.0
            (made_here given once.comes.came.0) (up_to_first given p.charter q.seen once.so.1)),
      )
  stands_by (Opened.Replied r) state here once (answer, at, (status, body, whole, gives)) =
      let came : IsMadeAt p.charter k handed c p.seen q.seen (reply.Answer status body) = subst (IsMadeAt p.charter k handed c p.seen q.seen) whole once.comes.came.0 in
      subst (λ y. IsIn p.charter k y (record x { state = y }) behind) (sym at)
      (sends_so (λ t. answer_bytes t status body) answer here
      ((reading p.charter k here.1 s).called (unread x) handed here.0 c status body q.seen here.3 here.4 (ap call_of here.5) (made_here (reply.Answer status body) came)) gives)
  stands_by Opened.JournalFull state here once (answer, at, gives) =
      subst (λ y. IsIn p.charter k y (record x { state = y }) behind) (sym at)
      (sends_so journal_full_response answer here
      ((reading p.charter k here.1 s).full (unread x) handed here.0 c q.seen here.3 here.4 (ap call_of here.5) (quiet_here once.comes.came.0) once.comes.came.1) gives)
  stands_by Opened.NoMemory state here once (answer, at, gives) =
      subst (λ y. IsIn p.charter k y (record x { state = y }) behind) (sym at)
      (sends_so out_of_memory_response answer here
      ((reading p.charter k here.1 s).short (unread x) (handed ∷ []) here.0 q.seen here.3 here.4 (quiet_here once.comes.came)
      (λ none. absurd (is_called (call_of (class_of here.0)) c (ap call_of here.5) none)) (omega arith)) gives)

-- a reply that gives no stream is a whole answer
pub opened_whole : (opened : Opened) (ch : Charter) (h : List Step) → IsOpenedSo opened ch h → IsOpenedWhole opened
opened_whole (Opened.Streams given) ch h so = tt
opened_whole (Opened.Replied r) ch h so = so
opened_whole Opened.JournalFull ch h so = tt
opened_whole Opened.NoMemory ch h so = tt

-- the call was made as often as is counted
counted_by : (opened : Opened) (b : Budget) → 1 ≤ b.turns → b.turns ≤ calls_by (opened_as opened) + (left_behind b opened).turns
counted_by (Opened.Streams r) b some = omega (arith, some)
counted_by (Opened.Replied r) b some = omega (arith, some)
counted_by Opened.JournalFull b some = omega (arith, some)
counted_by Opened.NoMemory b some = omega (arith, some)

-- nothing was read or written
same_reads : (opened : Opened) (b : Budget) → (left_behind b opened).reads ≡ b.reads
same_reads (Opened.Streams r) b = refl
same_reads (Opened.Replied r) b = refl
same_reads Opened.JournalFull b = refl
same_reads Opened.NoMemory b = refl

same_writes : (opened : Opened) (b : Budget) → (left_behind b opened).writes ≡ b.writes
same_writes (Opened.Streams r) b = refl
same_writes (Opened.Replied r) b = refl
same_writes Opened.JournalFull b = refl
same_writes Opened.NoMemory b = refl

-- where it streams, the call began the stream
pub called_tells : (opened : Opened) (terms : Terms) (old state : State) (b : Budget) → IsOpening old → OpensBy opened terms state → 1 ≤ b.turns
    → TellsBy old state b (left_behind b opened)
called_tells (Opened.Streams given) terms (State.Opens c terms') state b opening (out, at, head) some =
    subst (λ y. TellsBy (State.Opens c terms') y b (left_behind b (Opened.Streams given))) (sym at) (omega arith, (refl, omega (arith, some), refl))
called_tells (Opened.Streams given) terms old state b opening by some = absurd opening
called_tells (Opened.Replied r) terms old state b opening (answer, at, gives) some =
    subst (λ y. TellsBy old y b (left_behind b (Opened.Replied r))) (sym at) (omega arith)
called_tells Opened.JournalFull terms old state b opening (answer, at, gives) some = subst (λ y. TellsBy old y b b) (sym at) (omega arith)
called_tells Opened.NoMemory terms old state b opening (answer, at, gives) some = subst (λ y. TellsBy old y b b) (sym at) (omega arith)

-- and less is left
pub called_less : (x : Session) (opened : Opened) (terms : Terms) (state : State) (b : Budget) → IsOpening x.state → OpensBy opened terms state → 1 ≤ b.turns
    → left_of (record x { state = state }) (left_behind b opened) < left_of x b
called_less x (Opened.Streams given) terms state b opening by some = begun_less x state b some
called_less x (Opened.Replied r) terms state b opening by some = turn_less x state b some
called_less x Opened.JournalFull terms state b opening (answer, at, gives) some = answered_less x state b (steps_of x.state opening) (ap steps_left at)
called_less x Opened.NoMemory terms state b opening (answer, at, gives) some = answered_less x state b (steps_of x.state opening) (ap steps_left at)

module _ (k : ℕ) (told : Told) (x : Session) (c : Call) (terms : Terms) (p q : PassView) (b : Budget) where
  pub stream_called : (opened : Opened) (state : State) → x.state ≡ State.Opens c terms → is_feed c ≡ false → OpensOnce k told.handed c opened p q
      → OpensBy opened terms state → 1 ≤ b.turns → (v : Ports) → Steps p.charter k told came.On x (record x { state = state }) p q v v b (left_behind b opened)
  stream_called opened state opens kind once by some v =
      steps_turn p.charter k told came.On x (record x { state = state }) c (opened_as opened) p q v b (left_behind b opened) kind once.comes
      (same_reads opened b) (same_writes opened b) (counted_by opened b some)
      (λ s is ports (at, rose).
      let here = subst (λ y. IsIn p.charter k y x s) opens at.stands in
      (record { stands = stands_by k told.handed x c terms p q s is opened state here once by; moved = at.moved; piece = at.piece }, rose))

-- a turn more is wanted
pub stream_wanted : (k : ℕ) (told : Told) (x : Session) (p : PassView) (b : Budget) → IsOpening x.state → b.turns ≡ 0
    → (v : Ports) → Steps p.charter k told (came.Pauses Pause.Yield) x x p p v v b b
stream_wanted k told x p b opening none v = tired_of_turns p.charter k told x p b v (spent x.state opening) (λ s so. wants x.state opening s so.0.stands)
  where
    spent : (state : State) → IsOpening state → IsSpent state b
    spent (State.Opens c terms) opening = none
    spent State.Reads opening = absurd opening
    spent (State.Asks c terms early) opening = absurd opening
    spent (State.Waits ticket terms) opening = absurd opening
    spent (State.WaitsEarly ticket terms out) opening = absurd opening
    spent (State.Streams given terms place out) opening = absurd opening
    spent (State.Sends answer) opening = absurd opening
    spent (State.Refuses out status) opening = absurd opening

    wants : (state : State) → IsOpening state → (s : Span) → IsIn p.charter k state x s → WantsTurn p.charter k s
    wants (State.Opens c terms) opening s (r, tail, read, reads, begins, class, is) = inl (tail, r, unread x, c, reads, begins, ap call_of class)
    wants State.Reads opening s stands = absurd opening
    wants (State.Asks c terms early) opening s stands = absurd opening
    wants (State.Waits ticket terms) opening s stands = absurd opening
    wants (State.WaitsEarly ticket terms out) opening s stands = absurd opening
    wants (State.Streams given terms place out) opening s stands = absurd opening
    wants (State.Sends answer) opening s stands = absurd opening
    wants (State.Refuses out status) opening s stands = absurd opening

-- ---- what is told is written on

module _ (k : ℕ) (x : Session) (given : Reply) (terms : Terms) (place : ℕ) (out out' : Outgoing) (streams : x.state ≡ State.Streams given terms place out)
    (u u' : PollSinkView) (b b' : Budget) where
  same_stream : out' ≡ out → x.state ≡ State.Streams given terms place out'
  same_stream is = streams ∙ ap (λ o. State.Streams given terms place o) (sym is)

  pub part_some : WroteSays wrote.Some out out' u u' b b' → StepsBySink k came.On x (record x { state = State.Streams given terms place out' }) u u' b b'
  part_some ((some, waits), left, spent) ch told p s =
      subst (Steps ch k told came.On x (record x { state = State.Streams given terms place out' }) p p (ports_of s u) (ports_of s u') b) (sym spent)
      (steps_some ch k told x p s u u' b out out' (State.Streams given terms place out') some waits left
      (λ span part is at.
      let here = subst (λ state. IsIn ch k state x span) streams at.stands in (
        here.0,
        here.1,
        here.2,
        here.3,
        (writing ch k part (rest_of out') span).streams here.0 (unread x) given place here.1
            (subst (λ w. stage.Streams ch k here.0 (unread x) given place here.1 w span) is here.4),
      )))

  pub part_waits : WroteSays wrote.Waits out out' u u' b b'
      → StepsBySink k (came.Pauses Pause.Sink) x (record x { state = State.Streams given terms place out' }) u u' b b'
  part_waits ((same, sink, took, rose), spent) = waits_so k x u u' b b' (State.Streams given terms place out') (same_stream same) sink took rose spent

  pub part_tired : WroteSays wrote.Tired out out' u u' b b'
      → StepsBySink k (came.Pauses Pause.Yield) x (record x { state = State.Streams given terms place out' }) u u' b b'
  part_tired (none, same, still, spent) = tired_so k x u u' b b' (State.Streams given terms place out') (same_stream same) still none spent

  pub part_fault : (x' : Session) → WroteSays wrote.Fault out out' u u' b b' → StepsBySink k (came.Ends E.WriteFault) x x' u u' b b'
  part_fault x' ((took, rose), spent) ch told p s =
      subst (Steps ch k told (came.Ends E.WriteFault) x x' p p (ports_of s u) (ports_of s u') b) (sym spent)
      (steps_fault ch k told x p s u u' b x' took rose
      (λ span at more since.
      let here = subst (λ state. IsIn ch k state x span) streams at.stands in
      let o = outside_of (ports_of s u') span.new.clock.stops in (
        false,
        (ending ch k (record span { new = o })).untold here.0 (unread x) given place here.1 (rest_of out)
            (streams_there ch k span o here.0 (unread x) given place here.1 (rest_of out) here.4) since,
      )))

-- behind a part that was written already
pub behind_part : (ch : Charter) (k : ℕ) (told : Told) (result : Came) (x x' : Session) (given : Reply) (terms : Terms) (place : ℕ) (out out' : Outgoing) (p q : PassView)
    (s : PollSourceView) (u v w : PollSinkView) (a b c : Budget) → x.state ≡ State.Streams given terms place out → WroteSays wrote.All out out' u v a b
    → Steps ch k told result (record x { state = State.Streams given terms place out' }) x' p q (ports_of s v) (ports_of s w) b c
    → Steps ch k told result x x' p q (ports_of s u) (ports_of s w) a c
behind_part ch k told result x x' given terms place out out' p q s u v w a b c streams (none, same, still, spent) f =
    subst (λ d. Steps ch k told result x x' p q (ports_of s u) (ports_of s w) d c) spent
    (subst (λ y. Steps ch k told result x x' p q (ports_of s y) (ports_of s w) b c) still
    (subst (λ y. Steps ch k told result (record x { state = y }) x' p q (ports_of s v) (ports_of s w) b c)
    (ap (λ o. State.Streams given terms place o) same ∙ sym streams) f))
