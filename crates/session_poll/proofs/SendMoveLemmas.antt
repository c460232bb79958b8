-- The steps of a session that writes: an answer, or a refusal.
use Rattle.std.proofs.Common.{arith, ◌≡◌, ◌≤◌, ◌-◌, ℕ, Bool, false, List, [], ◌++◌, inl, refl, sym, ◌∙◌, ap, subst, append-nil, Option, None, Some}
use Rattle.std.specs.Prelude.{IsFalse}
use Rattle.std.proofs.lemmas.Bool.{false≢true}
use Rattle.engine_ports.specs.Rose.{Rose}
use Rattle.engine_ports.specs.Sink.{SinkTook}
use Rattle.engine_ports.proofs.PortLemmas.{rose_since}
use Rattle.machine_model.specs.History.{Charter}
use Rattle.session_model.specs.declared.ending.Ending.{Ending}
use Rattle.session_model.specs.declared.ending.Ending.TheVariants as E
use Rattle.session_model.specs.declared.followed.Followed.TheVariants as F
use Rattle.session_model.specs.Exchange.{Flow, GoesOn, Closes, Leaves}
use Rattle.session_model.specs.Pass.{PassView}
use Rattle.session_model.specs.Session.{Span, ending_of, is_pumped}
use Rattle.polled_ports.specs.PollSink.{PollSinkView}
use Rattle.polled_ports.specs.PollSource.{PollSourceView}
use Rattle.polled_steps.specs.Answers.{GoesBehind}
use Rattle.polled_steps.specs.Bytes.{rest_of}
use Rattle.polled_steps.specs.Sending.{SendsSome}
use Rattle.polled_steps.specs.declared.answers.Answer.{Answer}
use Rattle.polled_steps.specs.declared.answers.Behind.{Behind}
use Rattle.polled_steps.specs.declared.outgoing.Outgoing.{Outgoing}
use Rattle.polled_model.specs.declared.polled.Cause.{Cause as Pause}
use Rattle.polled_model.specs.Polls.{EndsNow, Ports, Told, outside_of}
use Rattle.polled_model.specs.Progress.{HasEnded}
use Rattle.polled_model.specs.Stages as stage
use Rattle.polled_model.specs.Steps.{wrote_more}
use Rattle.polled_model.proofs.EndLemmas.{ending}
use Rattle.polled_model.proofs.StageLemmas.{writing}
use Rattle.session_poll.specs.declared.budget.Budget.{Budget}
use Rattle.session_poll.specs.declared.session.Session.{Session}
use Rattle.session_poll.specs.declared.state.State.{State}
use Rattle.session_poll.specs.declared.state.Step.TheVariants as came
use Rattle.session_poll.specs.declared.writing.Wrote.TheVariants as wrote
use Rattle.session_poll.specs.Going.{Steps, StepsBySink, ports_of}
use Rattle.session_poll.specs.Standing.{HasNoFault, IsAt, IsIn, unread}
use Rattle.session_poll.specs.Writing.{WroteSays}
use Rattle.session_poll.proofs.GoingLemmas.{once_more}
use Rattle.session_poll.proofs.MoveLemmas.{sink_waits, steps_still, steps_written, tired_of_writes}
use Rattle.session_poll.proofs.ThereLemmas.{at_written, cause_on, refuses_there, sends_there}

-- ---- an ending that is no fault

abbrev EndsSome : Option Ending → Ports → Type 0
EndsSome None v = Unit {0}
EndsSome (Some e) v = EndsNow e v v

-- behind an answer no fault is told where none was
by_flow : (flow : Flow) (v : Ports) → IsFalse (is_pumped flow) → HasNoFault flow → EndsSome (ending_of flow) v
by_flow GoesOn v none fine = tt
by_flow Closes v none fine = tt
by_flow (Leaves F.Whole None) v none fine = tt
by_flow (Leaves F.Stopped None) v none fine = tt
by_flow (Leaves (F.Lagged next first) None) v none fine = tt
by_flow (Leaves F.NoMemory None) v none fine = tt
by_flow (Leaves F.WriteFault None) v none fine = absurd fine
by_flow (Leaves f (Some end)) v none fine = absurd (false≢true (sym none))

no_fault : (flow : Flow) (e : Ending) (v : Ports) → IsFalse (is_pumped flow) → HasNoFault flow → ending_of flow ≡ Some e → EndsNow e v v
no_fault flow e v none fine is = subst (λ o. EndsSome o v) is (by_flow flow v none fine)

-- ---- a write of some

module _ (ch : Charter) (k : ℕ) (told : Told) (x : Session) (p : PassView) (s : PollSourceView) (u u' : PollSinkView) (b : Budget) where
  abbrev fewer_writes : Budget
  fewer_writes = record b { writes = b.writes - 1 }

  -- some bytes went, behind which the session stands so
  pub steps_some : (out out' : Outgoing) (state : State) → SendsSome out out' u u' → u'.registered ≡ u.registered → 1 ≤ b.writes
      → ((span : Span) (part : List ℕ) → rest_of out ≡ part ++ rest_of out' → IsAt ch k x span
      → IsIn ch k state (record x { state = state }) (wrote_more span part))
      → Steps ch k told came.On x (record x { state = state }) p p (ports_of s u) (ports_of s u') b fewer_writes
  steps_some out out' state (part, some, is, took, counted) waits left stands =
      steps_written ch k told came.On x (record x { state = state }) part p (ports_of s u) (ports_of s u') b fewer_writes took refl
      (record {
        turns = omega arith;
        reads = inl (omega arith);
        writes = once_more b.writes u.took u'.took left counted;
        source_waits = inl (omega arith);
        sink_waits = inl (omega (arith, waits));
      })
      (λ span at_seen ports (at, rose).
      (at_written ch k (record x { state = state }) span (ports_of s u) (ports_of s u') part ports took refl (stands span part is at) at.moved at.piece, rose))

  -- the sink failed
  pub steps_fault : (x' : Session) → SinkTook u.sink [] u'.sink → Rose u.sink.faults u'.sink.faults
      → ((span : Span) → IsAt ch k x span → span.new.sink.faults ≤ u'.sink.faults → Rose span.old.sink.faults u'.sink.faults
      → (pumps : Bool) × HasEnded ch k E.WriteFault pumps (record span { new = outside_of (ports_of s u') span.new.clock.stops }))
      → Steps ch k told (came.Ends E.WriteFault) x x' p p (ports_of s u) (ports_of s u') b b
  steps_fault x' took rose ends =
      steps_written ch k told (came.Ends E.WriteFault) x x' [] p (ports_of s u) (ports_of s u') b b took refl tt
      (λ span at_seen ports (at, stopped).
      let now : Span = record span { new = outside_of (ports_of s u') span.new.clock.stops } in
      let sink : span.new.sink ≡ u.sink = ap (λ o. o.sink) ports in
      let more : span.new.sink.faults ≤ u'.sink.faults = subst (λ v. v.faults ≤ u'.sink.faults) (sym sink) took.faults in
      let since : Rose span.old.sink.faults u'.sink.faults =
      rose_since span.old.sink.faults span.new.sink.faults u'.sink.faults at.moved.sink.faults
      (subst (λ v. Rose v.faults u'.sink.faults) (sym sink) rose) in (
        subst (λ l. (pumps : Bool) × HasEnded ch k E.WriteFault pumps (record now { written = l })) (sym (append-nil span.written)) (ends span at more since),
        rose,
      ))

-- ---- by what a write came to

module _ (k : ℕ) (x : Session) (u u' : PollSinkView) (b b' : Budget) where
  -- no byte went, and the session stands as it did
  pub waits_so : (state : State) → x.state ≡ state → u'.sink ≡ u.sink → u'.took ≡ u.took → Rose u.registered u'.registered → b' ≡ b
      → StepsBySink k (came.Pauses Pause.Sink) x (record x { state = state }) u u' b b'
  waits_so state same sink took rose spent ch told p s =
      subst (Steps ch k told (came.Pauses Pause.Sink) x (record x { state = state }) p p (ports_of s u) (ports_of s u') b) (sym spent)
      (subst (λ y. Steps ch k told (came.Pauses Pause.Sink) x (record x { state = y }) p p (ports_of s u) (ports_of s u') b b) same
      (sink_waits ch k told x p b (ports_of s u) (ports_of s u') refl sink took rose))

  -- nor may one
  pub tired_so : (state : State) → x.state ≡ state → u' ≡ u → b.writes ≡ 0 → b' ≡ b
      → StepsBySink k (came.Pauses Pause.Yield) x (record x { state = state }) u u' b b'
  tired_so state same still none spent ch told p s =
      subst (Steps ch k told (came.Pauses Pause.Yield) x (record x { state = state }) p p (ports_of s u) (ports_of s u') b) (sym spent)
      (subst (λ w. Steps ch k told (came.Pauses Pause.Yield) x (record x { state = state }) p p (ports_of s u) (ports_of s w) b b) (sym still)
      (subst (λ y. Steps ch k told (came.Pauses Pause.Yield) x (record x { state = y }) p p (ports_of s u) (ports_of s u) b b) same
      (tired_of_writes ch k told x p b (ports_of s u) none)))

  -- ---- of an answer

  module _ (answer later : Answer) (sends : x.state ≡ State.Sends answer) (kept : later.next ≡ answer.next) where
    same_answer : later.out ≡ answer.out → x.state ≡ State.Sends later
    same_answer is = sends ∙ ap (λ o. State.Sends (record answer { out = o })) (sym is) ∙ ap (λ n. State.Sends (record later { next = n })) (sym kept)

    pub answer_some : WroteSays wrote.Some answer.out later.out u u' b b' → StepsBySink k came.On x (record x { state = State.Sends later }) u u' b b'
    answer_some ((some, waits), left, spent) ch told p s =
        subst (Steps ch k told came.On x (record x { state = State.Sends later }) p p (ports_of s u) (ports_of s u') b) (sym spent)
        (steps_some ch k told x p s u u' b answer.out later.out (State.Sends later) some waits left
        (λ span part is at.
        let here = subst (λ state. IsIn ch k state x span) sends at.stands in
        let sent = (writing ch k part (rest_of later.out) span).sends here.1 here.0 (unread x)
        (subst (λ w. stage.Sends ch k here.1 here.0 (unread x) w span) is here.3) in
        (here.0, here.1, here.2, sent, subst (λ n. GoesBehind n here.1) (sym kept) here.4, here.5)))

    pub answer_waits : WroteSays wrote.Waits answer.out later.out u u' b b' → StepsBySink k (came.Pauses Pause.Sink) x (record x { state = State.Sends later }) u u' b b'
    answer_waits ((same, sink, took, rose), spent) = waits_so (State.Sends later) (same_answer same) sink took rose spent

    pub answer_tired : WroteSays wrote.Tired answer.out later.out u u' b b' → StepsBySink k (came.Pauses Pause.Yield) x (record x { state = State.Sends later }) u u' b b'
    answer_tired (none, same, still, spent) = tired_so (State.Sends later) (same_answer same) still none spent

    pub answer_fault : (x' : Session) → WroteSays wrote.Fault answer.out later.out u u' b b' → StepsBySink k (came.Ends E.WriteFault) x x' u u' b b'
    answer_fault x' ((took, rose), spent) ch told p s =
        subst (Steps ch k told (came.Ends E.WriteFault) x x' p p (ports_of s u) (ports_of s u') b) (sym spent)
        (steps_fault ch k told x p s u u' b x' took rose
        (λ span at more since.
        let here = subst (λ state. IsIn ch k state x span) sends at.stands in
        let o = outside_of (ports_of s u') span.new.clock.stops in
        let there = sends_there ch k span o here.1 here.0 (unread x) (rest_of answer.out) here.3 in (
          is_pumped here.1,
          (ending ch k (record span { new = o })).unsent here.1 here.0 (unread x) (rest_of answer.out) there
              (cause_on here.1 span.old span.new o here.5.0 more (omega arith) here.5.2) since,
        )))

    -- it is written, and the next request is read
    pub answer_written : later.next ≡ Behind.Reads → WroteSays wrote.All answer.out later.out u u' b b'
        → StepsBySink k came.On x (record x { state = State.Reads }) u u' b b'
    answer_written next (none, same, still, spent) ch told p s =
        subst (Steps ch k told came.On x (record x { state = State.Reads }) p p (ports_of s u) (ports_of s u') b) (sym spent)
        (subst (λ w. Steps ch k told came.On x (record x { state = State.Reads }) p p (ports_of s u) (ports_of s w) b b) (sym still)
        (steps_still ch k told came.On x (record x { state = State.Reads }) p (ports_of s u) b
        (λ span is ports (at, rose).
        let here = subst (λ state. IsIn ch k state x span) sends at.stands in
        let flow : here.1 ≡ GoesOn = subst (λ n. GoesBehind n here.1) (sym kept ∙ next) here.4 in
        let all = subst (λ f. stage.Sends ch k f here.0 (unread x) [] span) flow
        (subst (λ w. stage.Sends ch k here.1 here.0 (unread x) w span) none here.3) in
        (record { stands = ([], here.2, (writing ch k [] [] span).goes_on here.0 (unread x) all); moved = at.moved; piece = at.piece }, rose))))

    -- or the session ends
    pub answer_ends : (e : Ending) (x' : Session) → later.next ≡ Behind.Ends e → WroteSays wrote.All answer.out later.out u u' b b'
        → StepsBySink k (came.Ends e) x x' u u' b b'
    answer_ends e x' next (none, same, still, spent) ch told p s =
        subst (Steps ch k told (came.Ends e) x x' p p (ports_of s u) (ports_of s u') b) (sym spent)
        (subst (λ w. Steps ch k told (came.Ends e) x x' p p (ports_of s u) (ports_of s w) b b) (sym still)
        (steps_still ch k told (came.Ends e) x x' p (ports_of s u) b
        (λ span is ports (at, rose).
        let here = subst (λ state. IsIn ch k state x span) sends at.stands in
        let all = subst (λ w. stage.Sends ch k here.1 here.0 (unread x) w span) none here.3 in
        let flow : ending_of here.1 ≡ Some e = subst (λ n. GoesBehind n here.1) (sym kept ∙ next) here.4 in
        ((is_pumped here.1, (ending ch k span).behind here.1 e here.0 (unread x) all flow here.5.2), no_fault here.1 e (ports_of s u) here.5.0 here.5.1 flow))))

  -- ---- of a refusal

  module _ (out out' : Outgoing) (status : ℕ) (refuses : x.state ≡ State.Refuses out status) where
    same_refusal : out' ≡ out → x.state ≡ State.Refuses out' status
    same_refusal is = refuses ∙ ap (λ o. State.Refuses o status) (sym is)

    pub refusal_some : WroteSays wrote.Some out out' u u' b b' → StepsBySink k came.On x (record x { state = State.Refuses out' status }) u u' b b'
    refusal_some ((some, waits), left, spent) ch told p s =
        subst (Steps ch k told came.On x (record x { state = State.Refuses out' status }) p p (ports_of s u) (ports_of s u') b) (sym spent)
        (steps_some ch k told x p s u u' b out out' (State.Refuses out' status) some waits left
        (λ span part is at.
        let here = subst (λ state. IsIn ch k state x span) refuses at.stands in
        (writing ch k part (rest_of out') span).refuses status (subst (λ w. stage.Refuses ch k status w span) is here)))

    pub refusal_waits : WroteSays wrote.Waits out out' u u' b b'
        → StepsBySink k (came.Pauses Pause.Sink) x (record x { state = State.Refuses out' status }) u u' b b'
    refusal_waits ((same, sink, took, rose), spent) = waits_so (State.Refuses out' status) (same_refusal same) sink took rose spent

    pub refusal_tired : WroteSays wrote.Tired out out' u u' b b'
        → StepsBySink k (came.Pauses Pause.Yield) x (record x { state = State.Refuses out' status }) u u' b b'
    refusal_tired (none, same, still, spent) = tired_so (State.Refuses out' status) (same_refusal same) still none spent

    pub refusal_fault : (x' : Session) → WroteSays wrote.Fault out out' u u' b b' → StepsBySink k (came.Ends E.WriteFault) x x' u u' b b'
    refusal_fault x' ((took, rose), spent) ch told p s =
        subst (Steps ch k told (came.Ends E.WriteFault) x x' p p (ports_of s u) (ports_of s u') b) (sym spent)
        (steps_fault ch k told x p s u u' b x' took rose
        (λ span at more since.
        let here = subst (λ state. IsIn ch k state x span) refuses at.stands in
        let o = outside_of (ports_of s u') span.new.clock.stops in
        (false, (ending ch k (record span { new = o })).unrefused status (rest_of out) (refuses_there ch k span o status (rest_of out) here) since)))

    pub refusal_written : (x' : Session) → WroteSays wrote.All out out' u u' b b' → StepsBySink k (came.Ends (E.Refused status)) x x' u u' b b'
    refusal_written x' (none, same, still, spent) ch told p s =
        subst (Steps ch k told (came.Ends (E.Refused status)) x x' p p (ports_of s u) (ports_of s u') b) (sym spent)
        (subst (λ w. Steps ch k told (came.Ends (E.Refused status)) x x' p p (ports_of s u) (ports_of s w) b b) (sym still)
        (steps_still ch k told (came.Ends (E.Refused status)) x x' p (ports_of s u) b
        (λ span is ports (at, rose).
        let here = subst (λ state. IsIn ch k state x span) refuses at.stands in
        ((false, (ending ch k span).refused status (subst (λ w. stage.Refuses ch k status w span) none here)), tt))))
