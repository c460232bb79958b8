-- The steps of a session whose request is whole: its call was made, or not.
use Rattle.std.proofs.Common.{arith, ◌≡◌, ◌<◌, ◌≤◌, ◌+◌, ◌-◌, inl, ℕ, Bool, true, false, List, [], ◌∷◌, refl, sym, ◌∙◌, ap, subst, None, Some, Option}
use Rattle.std.specs.Prelude.{IsFalse, IsSome}
use Rattle.std.proofs.lemmas.Bool.{false≢true}
use Rattle.engine_text.specs.declared.call.Call.{Call}
use Rattle.engine_text.specs.declared.reply.Reply.{Reply}
use Rattle.engine_text.specs.declared.reply.Reply.TheVariants as reply
use Rattle.machine_model.specs.Statuses.{is_feed}
use Rattle.api_routes.specs.Class.{class_of}
use Rattle.session_model.specs.declared.terms.Terms.{Terms}
use Rattle.session_model.specs.Exchange.{IsMadeAt, IsQuiet, call_of, flow_of}
use Rattle.session_model.specs.Pass.{PassView}
use Rattle.session_model.specs.Responses.{answer_bytes, early_head, journal_full_response, out_of_memory_response, terms_of}
use Rattle.session_model.specs.Session.{Span}
use Rattle.polled_steps.specs.Answers.{GoesBehind, IsAnswer}
use Rattle.polled_steps.specs.Turning.{AsksOnce, asked_as}
use Rattle.polled_steps.specs.declared.answers.Answer.{Answer}
use Rattle.polled_steps.specs.declared.turning.Asked.{Asked}
use Rattle.polled_model.specs.declared.polled.Cause.{Cause as Pause}
use Rattle.polled_model.specs.Polls.{Ports, Told, WantsTurn}
use Rattle.polled_model.specs.Stages as stage
use Rattle.polled_model.specs.Steps.{come_to}
use Rattle.polled_model.proofs.StageLemmas.{reading}
use Rattle.session_poll.specs.declared.budget.Budget.{Budget}
use Rattle.session_poll.specs.declared.session.Session.{Session}
use Rattle.session_poll.specs.declared.state.State.{State}
use Rattle.session_poll.specs.declared.state.Step.TheVariants as came
use Rattle.session_poll.specs.Asking.{GoesBy, IsAsking, calls_of}
use Rattle.session_poll.specs.Going.{IsSpent, Steps, TellsBy}
use Rattle.session_poll.specs.Left.{left_of, steps_left}
use Rattle.session_poll.specs.Standing.{IsIn, unread}
use Rattle.session_poll.proofs.LeftLemmas.{turn_less, uncalled_less}
use Rattle.session_poll.proofs.MoveLemmas.{steps_turn, tired_of_turns}
use Rattle.session_poll.proofs.ReadMoveLemmas.{decided_whole}
use Rattle.session_poll.proofs.StepLemmas.{calls_by}

pub is_called : {A : Type 0} (o : Option A) (c : A) → o ≡ Some c → o ≡ None → ⊥
is_called o c some none = false≢true (subst IsSome (sym some ∙ none) refl)

-- ---- where the session stands behind the call

module _ (k handed : ℕ) (x : Session) (c : Call) (terms : Terms) (p q : PassView) (s : Span) (is : s.to ≡ p.seen) where
  abbrev behind : Span
  behind = come_to s q.seen (handed ∷ [])

  -- this answer is on its way, of these bytes
  sends_so : (early : Bool) (bytes : Terms → List ℕ) (answer : Answer) (here : IsIn p.charter k (State.Asks c terms early) x s)
      → stage.Sends p.charter k (flow_of (terms_of here.0)) here.0 (unread x) (bytes (terms_of here.0)) behind
      → IsAnswer answer (flow_of terms) (bytes terms) → IsIn p.charter k (State.Sends answer) (record x { state = State.Sends answer }) behind
  sends_so early bytes answer here sends gives = (
    here.0,
    flow_of (terms_of here.0),
    here.2,
    subst (λ w. stage.Sends p.charter k (flow_of (terms_of here.0)) here.0 (unread x) w behind) (sym (gives.bytes_are ∙ ap bytes here.6)) sends,
    subst (λ t. GoesBehind answer.next (flow_of t)) here.6 gives.behind,
    decided_whole (terms_of here.0) behind,
  )

  made_here : (r : Reply) → IsMadeAt p.charter k handed c p.seen q.seen r → IsMadeAt p.charter k handed c s.to q.seen r
  made_here r made = subst (λ a. IsMadeAt p.charter k handed c a q.seen r) (sym is) made

  quiet_here : IsQuiet k p.seen q.seen → IsQuiet k s.to q.seen
  quiet_here quiet = subst (λ a. IsQuiet k a q.seen) (sym is) quiet

  stands_by : (early : Bool) (asked : Asked) (state : State) → IsIn p.charter k (State.Asks c terms early) x s → AsksOnce k handed c asked p q
      → GoesBy asked terms early state → IsIn p.charter k state (record x { state = state }) behind
  stands_by early (Asked.Replied r) state here once (answer, at, (status, body, whole, gives)) =
      let came : IsMadeAt p.charter k handed c p.seen q.seen (reply.Answer status body) = subst (IsMadeAt p.charter k handed c p.seen q.seen) whole once.comes.came.0 in
      subst (λ y. IsIn p.charter k y (record x { state = y }) behind) (sym at)
      (sends_so early (λ t. answer_bytes t status body) answer here
      ((reading p.charter k here.1 s).called (unread x) handed here.0 c status body q.seen here.3 here.4 (ap call_of here.5) (made_here (reply.Answer status body) came)) gives)
  stands_by true (Asked.Begun n) state here once (out, at, bytes) =
      let made = made_here (reply.Begun n) once.comes.came in
      subst (λ y. IsIn p.charter k y (record x { state = y }) behind) (sym at) (
        here.0,
        here.6,
        here.2,
        subst (λ w. stage.WaitsEarly p.charter k n here.0 (unread x) w behind) (sym (bytes ∙ ap early_head here.6))
            ((reading p.charter k here.1 s).begun_early (unread x) handed here.0 c n q.seen here.3 here.4 here.5 (sym here.7) made),
      )
  stands_by false (Asked.Begun n) state here once at =
      let made = made_here (reply.Begun n) once.comes.came in
      subst (λ y. IsIn p.charter k y (record x { state = y }) behind) (sym at)
      (here.0, here.6, here.2, (reading p.charter k here.1 s).begun (unread x) handed here.0 c n q.seen here.3 here.4 here.5 (sym here.7) made)
  stands_by early Asked.JournalFull state here once (answer, at, gives) =
      subst (λ y. IsIn p.charter k y (record x { state = y }) behind) (sym at)
      (sends_so early journal_full_response answer here
      ((reading p.charter k here.1 s).full (unread x) handed here.0 c q.seen here.3 here.4 (ap call_of here.5) (quiet_here once.comes.came.0) once.comes.came.1) gives)
  stands_by early Asked.NoMemory state here once (answer, at, gives) =
      subst (λ y. IsIn p.charter k y (record x { state = y }) behind) (sym at)
      (sends_so early out_of_memory_response answer here
      ((reading p.charter k here.1 s).short (unread x) (handed ∷ []) here.0 q.seen here.3 here.4 (quiet_here once.comes.came)
      (λ none. absurd (is_called (call_of (class_of here.0)) c (ap call_of here.5) none)) (omega arith)) gives)

-- ---- steps

-- the call was made as often as is counted
counted_by : (asked : Asked) (turns left : ℕ) → 1 ≤ turns → left ≡ turns - calls_of asked → turns ≤ calls_by (asked_as asked) + left
counted_by (Asked.Replied r) turns left some is = omega (arith, some, is)
counted_by (Asked.Begun n) turns left some is = omega (arith, some, is)
counted_by Asked.JournalFull turns left some is = omega (arith, some, is)
counted_by Asked.NoMemory turns left some is = omega (arith, some, is)

-- it streams nothing
pub call_tells : (asked : Asked) (terms : Terms) (early : Bool) (old state : State) (b b' : Budget) → GoesBy asked terms early state → b'.turns ≤ b.turns
    → TellsBy old state b b'
call_tells (Asked.Replied r) terms early old state b b' (answer, at, gives) fewer = subst (λ y. TellsBy old y b b') (sym at) fewer
call_tells (Asked.Begun n) terms true old state b b' (out, at, bytes) fewer = subst (λ y. TellsBy old y b b') (sym at) fewer
call_tells (Asked.Begun n) terms false old state b b' at fewer = subst (λ y. TellsBy old y b b') (sym at) fewer
call_tells Asked.JournalFull terms early old state b b' (answer, at, gives) fewer = subst (λ y. TellsBy old y b b') (sym at) fewer
call_tells Asked.NoMemory terms early old state b b' (answer, at, gives) fewer = subst (λ y. TellsBy old y b b') (sym at) fewer

-- and less is left
pub call_less : (x : Session) (asked : Asked) (c : Call) (terms : Terms) (early : Bool) (state : State) (b : Budget) → x.state ≡ State.Asks c terms early
    → GoesBy asked terms early state → 1 ≤ b.turns
    → left_of (record x { state = state }) (record b { turns = b.turns - calls_of asked }) < left_of x b
call_less x (Asked.Replied r) c terms early state b asks by some = turn_less x state b some
call_less x (Asked.Begun n) c terms early state b asks by some = turn_less x state b some
call_less x Asked.JournalFull c terms early state b asks (answer, at, gives) some =
    uncalled_less x state b (let e = ap steps_left asks in omega (arith, e)) (ap steps_left at)
call_less x Asked.NoMemory c terms early state b asks (answer, at, gives) some =
    uncalled_less x state b (let e = ap steps_left asks in omega (arith, e)) (ap steps_left at)

module _ (k : ℕ) (told : Told) (x : Session) (c : Call) (terms : Terms) (early : Bool) (p q : PassView) (b b' : Budget) where
  pub call_made : (asked : Asked) (state : State) → x.state ≡ State.Asks c terms early → IsFalse (is_feed c) → AsksOnce k told.handed c asked p q
      → GoesBy asked terms early state → 1 ≤ b.turns → b' ≡ record b { turns = b.turns - calls_of asked }
      → (v : Ports) → Steps p.charter k told came.On x (record x { state = state }) p q v v b b'
  call_made asked state asks kind once by some spent v =
      steps_turn p.charter k told came.On x (record x { state = state }) c (asked_as asked) p q v b b' kind once.comes
      (ap (λ (y : Budget). y.reads) spent) (ap (λ (y : Budget). y.writes) spent) (counted_by asked b.turns b'.turns some (ap (λ (y : Budget). y.turns) spent))
      (λ s is ports (at, rose).
      let here = subst (λ y. IsIn p.charter k y x s) asks at.stands in
      (record { stands = stands_by k told.handed x c terms p q s is early asked state here once by; moved = at.moved; piece = at.piece }, rose))

-- a turn more is wanted
pub call_wanted : (k : ℕ) (told : Told) (x : Session) (p : PassView) (b : Budget) → IsAsking x.state → b.turns ≡ 0
    → (v : Ports) → Steps p.charter k told (came.Pauses Pause.Yield) x x p p v v b b
call_wanted k told x p b asking none v = tired_of_turns p.charter k told x p b v (spent x.state asking) (λ s so. wants x.state asking s so.0.stands)
  where
    spent : (state : State) → IsAsking state → IsSpent state b
    spent (State.Asks c terms early) asking = none
    spent State.Reads asking = absurd asking
    spent (State.Waits ticket terms) asking = absurd asking
    spent (State.WaitsEarly ticket terms out) asking = absurd asking
    spent (State.Opens c terms) asking = absurd asking
    spent (State.Streams given terms place out) asking = absurd asking
    spent (State.Sends answer) asking = absurd asking
    spent (State.Refuses out status) asking = absurd asking

    wants : (state : State) → IsAsking state → (s : Span) → IsIn p.charter k state x s → WantsTurn p.charter k s
    wants (State.Asks c terms early) asking s (r, tail, read, reads, begins, class, is, is') = inl (tail, r, unread x, c, reads, begins, ap call_of class)
    wants State.Reads asking s stands = absurd asking
    wants (State.Waits ticket terms) asking s stands = absurd asking
    wants (State.WaitsEarly ticket terms out) asking s stands = absurd asking
    wants (State.Opens c terms) asking s stands = absurd asking
    wants (State.Streams given terms place out) asking s stands = absurd asking
    wants (State.Sends answer) asking s stands = absurd asking
    wants (State.Refuses out status) asking s stands = absurd asking
