-- The steps of a session that tells a stream, of which all that is told is written: a part was asked for.
use Rattle.std.proofs.Common.{arith, ◌≡◌, ◌<◌, ◌≤◌, ◌-◌, inl, inr, ℕ, false, List, [], ◌++◌, refl, sym, ◌∙◌, ap, subst, Some, None}
use Rattle.std.specs.Prelude.{IsFalse, IsTrue, Vec}
use Rattle.std.specs.declared.alloc.Global.{Global}
use Rattle.engine_ports.specs.Rose.{Rose}
use Rattle.engine_ports.specs.Sink.{SinkTook}
use Rattle.engine_text.specs.declared.reply.Reply.{Reply}
use Rattle.http_edge.specs.Chunks.{last_chunk}
use Rattle.http_edge.specs.Message.{Request}
use Rattle.machine_model.specs.History.{Extends, IsLegal}
use Rattle.session_model.specs.declared.ending.Ending.{Ending}
use Rattle.session_model.specs.declared.ending.Ending.TheVariants as E
use Rattle.session_model.specs.declared.followed.Followed.{Followed}
use Rattle.session_model.specs.declared.followed.Followed.TheVariants as F
use Rattle.session_model.specs.declared.terms.Terms.{Terms}
use Rattle.session_model.specs.declared.turned.Part.{Part}
use Rattle.session_model.specs.declared.turned.Part.TheVariants as P
use Rattle.session_model.specs.Exchange.{IsQuiet, Leaves, flow_of}
use Rattle.session_model.specs.Pass.{PassView}
use Rattle.session_model.specs.Responses.{terms_of}
use Rattle.session_model.specs.Session.{Cause, Span, ending_of}
use Rattle.exchange_laws.specs.Answers.{one_chunk}
use Rattle.polled_ports.specs.PollSink.{PollSinkView}
use Rattle.polled_ports.specs.PollSource.{PollSourceView}
use Rattle.polled_steps.specs.Answers.{GoesBehind, IsAnswer}
use Rattle.polled_steps.specs.Bytes.{rest_of}
use Rattle.polled_steps.specs.Telling.{AsksPart, EndsWhole, IsAskedLate, PartTells, is_last, moments_of}
use Rattle.polled_steps.specs.declared.answers.Answer.{Answer}
use Rattle.polled_steps.specs.declared.outgoing.Outgoing.{Outgoing}
use Rattle.polled_model.specs.declared.polled.Cause.{Cause as Pause}
use Rattle.polled_model.specs.Polls.{EndsNow, Ports, Told}
use Rattle.polled_model.specs.Stages as stage
use Rattle.polled_model.specs.Steps.{come_to}
use Rattle.polled_model.proofs.EndLemmas.{ending}
use Rattle.session_poll.specs.declared.budget.Budget.{Budget}
use Rattle.session_poll.specs.declared.session.Session.{Session}
use Rattle.session_poll.specs.declared.state.State.{State}
use Rattle.session_poll.specs.declared.state.Step.TheVariants as came
use Rattle.session_poll.specs.declared.streaming.Telling.TheVariants as telling
use Rattle.session_poll.specs.Going.{IsPolled, IsSpent, Steps, TellsBy, ports_of}
use Rattle.session_poll.specs.Left.{left_of, steps_left}
use Rattle.session_poll.specs.Standing.{IsAt, IsIn, unread}
use Rattle.session_poll.specs.Streaming.{IsWritten, TellingSays}
use Rattle.session_poll.proofs.GoingLemmas.{goes_part}
use Rattle.session_poll.proofs.MoveLemmas.{steps_part, tired_of_turns}
use Rattle.session_poll.proofs.PlaceLemmas.{further_on}
use Rattle.session_poll.proofs.ReadMoveLemmas.{decided_whole}
use Rattle.session_poll.proofs.TellLemmas.{ends_all, ends_gone, ends_lagged, ends_out, ends_stop, goes_on, rests, rests_told, stream_extends}
use Rattle.session_poll.proofs.WaitMoveLemmas.{Unsent, ends_gone as ends_unsent, same_sink}

module _ (k : ℕ) (told : Told) (x : Session) (given : Reply) (terms : Terms) (place : ℕ) (out : Outgoing) (p : PassView)
    (streams : x.state ≡ State.Streams given terms place out) (written : rest_of out ≡ []) where
  -- what the session tells of a span
  abbrev Here : Span → Type 0
  Here s = IsIn p.charter k (State.Streams given terms place out) x s

  told_at : (s : Span) → IsAt p.charter k x s → Here s
  told_at s at = subst (λ state. IsIn p.charter k state x s) streams at.stands

  all_at : (s : Span) (here : Here s) → stage.Streams p.charter k here.0 (unread x) given place here.1 [] s
  all_at s here = subst (λ w. stage.Streams p.charter k here.0 (unread x) given place here.1 w s) written here.4

  -- one part more is wanted
  pub part_wanted : (v : Ports) (b : Budget) → b.parts ≡ 0 → Steps p.charter k told (came.Pauses Pause.Yield) x x p p v v b b
  part_wanted v b none = tired_of_turns p.charter k told x p b v (subst (λ y. IsSpent y b) (sym streams) none)
      (λ s so. let here = told_at s so.0 in inr (inr (inl (given, place, (here.0, unread x, here.1, rest_of out, here.4)))))

  module _ (q : PassView) (part : Part) (new : List ℕ) (asks : AsksPart k told.handed given place part [] new p q) (sound : IsLegal q.charter q.seen) where
    legal : IsLegal p.charter q.seen
    legal = subst (λ c. IsLegal c q.seen) asks.moves.stays.charter sound

    quiet_here : (s : Span) → s.to ≡ p.seen → IsQuiet k s.to q.seen
    quiet_here s is = subst (λ a. IsQuiet k a q.seen) (sym is) asks.quiet

    abbrev later : Span → Span
    later s = come_to s q.seen (moments_of given told.handed)

    seen_since : (s : Span) → s.to ≡ p.seen → (here : Here s) → Extends (all_at s here).at p.seen
    seen_since s is here = subst (Extends (all_at s here).at) is (stream_extends p.charter k here.0 (unread x) given place here.1 [] s (all_at s here))

    says_as : (other : Part) → part ≡ other → PartTells given told.handed place other [] new p.charter q.seen
    says_as other is = subst (λ y. PartTells given told.handed place y [] new p.charter q.seen) is asks.says

    -- more of it is told, and on its way
    pub part_more : (next : ℕ) (out' : Outgoing) (v : Ports) (b b' : Budget) → part ≡ P.More next → IsFalse (is_last given next) → rest_of out' ≡ one_chunk new
        → b'.turns ≡ b.turns → b'.reads ≡ b.reads → b'.writes ≡ b.writes
        → Steps p.charter k told came.On x (record x { state = State.Streams given terms next out' }) p q v v b b'
    part_more next out' v b b' is other bytes turns reads writes =
        steps_part p.charter k told came.On x (record x { state = State.Streams given terms next out' }) given place part [] new p q v b b' asks turns reads writes
        (λ s at_seen ports (at, rose).
        let here = told_at s at in
        let stands = goes_on p.charter k told.handed here.0 (unread x) given place here.1 s (all_at s here) q.seen (quiet_here s at_seen) legal next new
        (says_as (P.More next) is) other in (
          record {
            stands = (
              here.0,
              here.1 ++ new,
              here.2,
              here.3,
              subst (λ w. stage.Streams p.charter k here.0 (unread x) given next (here.1 ++ new) w (later s)) (sym bytes) stands,
            );
            moved = at.moved;
            piece = at.piece;
          },
          rose,
        ))

    -- it is whole, and its last bytes on their way
    pub part_whole : (answer : Answer) (v : Ports) (b : Budget) → EndsWhole given part → IsAnswer answer (flow_of terms) (one_chunk new ++ last_chunk)
        → Steps p.charter k told came.On x (record x { state = State.Sends answer }) p q v v b b
    part_whole answer v b end gives =
        steps_part p.charter k told came.On x (record x { state = State.Sends answer }) given place part [] new p q v b b asks refl refl refl
        (λ s at_seen ports (at, rose).
        let here = told_at s at in
        let sends = ends_all p.charter k told.handed here.0 (unread x) given place here.1 s (all_at s here) q.seen (quiet_here s at_seen) legal part new asks.says end in (
          record {
            stands = (
              here.0,
              flow_of (terms_of here.0),
              here.3,
              subst (λ w. stage.Sends p.charter k (flow_of (terms_of here.0)) here.0 (unread x) w (later s)) (sym gives.bytes_are) sends,
              subst (λ t. GoesBehind answer.next (flow_of t)) here.2 gives.behind,
              decided_whole (terms_of here.0) (later s),
            );
            moved = at.moved;
            piece = at.piece;
          },
          rose,
        ))

    -- it is up to date
    pub part_late : (v : Ports) (b : Budget) → part ≡ P.UpToDate → Steps p.charter k told (came.Pauses Pause.NotYet) x x p q v v b b
    part_late v b is =
        steps_part p.charter k told (came.Pauses Pause.NotYet) x x given place part [] new p q v b b asks refl refl refl
        (λ s at_seen ports (at, rose).
        let here = told_at s at in
        let all = all_at s here in
        let quiet = quiet_here s at_seen in
        let late = subst (λ y. IsAskedLate given y told.handed p.charter p.seen q.seen) is asks.late in
        let before = seen_since s at_seen here in
        let stays = rests p.charter k told.handed here.0 (unread x) given place here.1 s all q.seen quiet legal new (says_as P.UpToDate is) p.seen before late in (
          (
            record {
              stands = subst (λ state. IsIn p.charter k state x (later s)) (sym streams) (
                here.0,
                here.1 ++ [],
                here.2,
                here.3,
                subst (λ w. stage.Streams p.charter k here.0 (unread x) given place (here.1 ++ []) w (later s)) (sym written) stays,
              );
              moved = at.moved;
              piece = at.piece;
            },
            rose,
          ),
          inr (rests_told p.charter k told.handed here.0 (unread x) given place here.1 s all q.seen quiet legal new (says_as P.UpToDate is) p.seen before late),
        ))

    -- ---- it ends here

    part_ends : (f : Followed) (e : Ending) (x' : Session) (v : Ports) (b b' : Budget) → ending_of (Leaves f None) ≡ Some e → EndsNow e v v
        → ((s : Span) → s.to ≡ p.seen → IsPolled p.charter k told.stop x s
        → ((r : Request) × stage.Sends p.charter k (Leaves f None) r (unread x) [] (later s)) × Cause (Leaves f None) s.old s.new)
        → b'.turns ≡ b.turns → b'.reads ≡ b.reads → b'.writes ≡ b.writes → Steps p.charter k told (came.Ends e) x x' p q v v b b'
    part_ends f e x' v b b' ends now comes turns reads writes =
        steps_part p.charter k told (came.Ends e) x x' given place part [] new p q v b b' asks turns reads writes
        (λ s at_seen ports so.
        let left = comes s at_seen so in
        ((false, (ending p.charter k (later s)).behind (Leaves f None) e left.0.0 (unread x) left.0.1 ends left.1), now))

    -- as the daemon stops
    pub part_stopped : (x' : Session) (v : Ports) (b : Budget) → part ≡ P.UpToDate → IsTrue told.stop → Steps p.charter k told (came.Ends E.Stopped) x x' p q v v b b
    part_stopped x' v b is stops =
        part_ends F.Stopped E.Stopped x' v b b refl tt
        (λ s at_seen so.
        let here = told_at s so.0 in
        let late = subst (λ y. IsAskedLate given y told.handed p.charter p.seen q.seen) is asks.late in (
          (
            here.0,
            ends_stop p.charter k told.handed here.0 (unread x) given place here.1 s (all_at s here) q.seen (quiet_here s at_seen) legal new (says_as P.UpToDate is)
                p.seen (seen_since s at_seen here) late,
          ),
          (so.1 stops, tt),
        ))
        refl refl refl

    -- since what comes next isn't kept
    pub part_lagged : (next first : ℕ) (x' : Session) (v : Ports) (b : Budget) → part ≡ P.Gone next first
        → Steps p.charter k told (came.Ends (E.Lagged next first)) x x' p q v v b b
    part_lagged next first x' v b is =
        part_ends (F.Lagged next first) (E.Lagged next first) x' v b b refl tt
        (λ s at_seen so.
        let here = told_at s so.0 in (
          (
            here.0,
            ends_lagged p.charter k told.handed here.0 (unread x) given place here.1 s (all_at s here) q.seen (quiet_here s at_seen) legal next first new
                (says_as (P.Gone next first) is),
          ),
          (tt, tt),
        ))
        refl refl refl

    -- for want of memory
    pub part_short : (x' : Session) (v : Ports) (b : Budget) → Steps p.charter k told (came.Ends E.NoMemory) x x' p q v v b b
    part_short x' v b =
        part_ends F.NoMemory E.NoMemory x' v b b refl tt
        (λ s at_seen so.
        let here = told_at s so.0 in
        ((here.0, ends_out p.charter k told.handed here.0 (unread x) given place here.1 s (all_at s here) q.seen (quiet_here s at_seen) legal), (tt, tt)))
        refl refl refl

    -- since its peer is gone
    pub part_gone : (x' : Session) (v v' : Ports) (b b' : Budget) → SinkTook v.sink.sink [] v'.sink.sink → Rose v.sink.sink.faults v'.sink.sink.faults
        → v'.source.source ≡ v.source.source → Steps p.charter k told (came.Ends E.WriteFault) x x' p q v v' b b'
    part_gone x' v v' b b' took rose same = ends_unsent k told x x' p q v v' b b'
        (goes_part k told.handed given place part [] new (IsPolled p.charter k told.stop x) (Unsent p.charter k) p q v asks
        (λ s at_seen ports so.
        let here = told_at s so.0 in
        record {
          r = here.0;
          flow = Leaves F.WriteFault None;
          behind = unread x;
          rest = [];
          sends = ends_gone p.charter k told.handed here.0 (unread x) given place here.1 s (all_at s here) q.seen (quiet_here s at_seen) legal;
          cause = λ o since. (since, tt);
          faults = so.0.moved.sink.faults;
        }))
        took rose same

-- ---- by what telling it on came to

module _ (k : ℕ) (told : Told) (x : Session) (given : Reply) (terms : Terms) (place : ℕ) (out : Outgoing) (p q : PassView) (u u' : PollSinkView) (b : Budget)
    (streams : x.state ≡ State.Streams given terms place out) (written : rest_of out ≡ []) (sound : IsLegal q.charter q.seen) (s : PollSourceView) where
  pub telling_more : (next : ℕ) (bytes : Vec ℕ Global) (out' : Outgoing) → TellingSays k told.handed told.stop given place (telling.More next bytes) p q u u'
      → rest_of out' ≡ one_chunk bytes.items
      → Steps p.charter k told came.On x (record x { state = State.Streams given terms next out' }) p q (ports_of s u) (ports_of s u') b
      (record b { parts = b.parts - 1 })
  telling_more next bytes out' ((part, new, (is, other, are), asks), same) chunk =
      subst (λ w. Steps p.charter k told came.On x (record x { state = State.Streams given terms next out' }) p q (ports_of s u) (ports_of s w) b (record b { parts = b.parts - 1 })) (sym same)
      (part_more k told x given terms place out p streams written q part new asks sound next out' (ports_of s u) b (record b { parts = b.parts - 1 }) is other
      (chunk ∙ ap one_chunk are) refl refl refl)

  pub telling_whole : (bytes : Vec ℕ Global) (answer : Answer) → TellingSays k told.handed told.stop given place (telling.Whole bytes) p q u u'
      → IsAnswer answer (flow_of terms) (one_chunk bytes.items ++ last_chunk)
      → Steps p.charter k told came.On x (record x { state = State.Sends answer }) p q (ports_of s u) (ports_of s u') b b
  telling_whole bytes answer ((part, new, (end, are), asks), same) gives =
      subst (λ w. Steps p.charter k told came.On x (record x { state = State.Sends answer }) p q (ports_of s u) (ports_of s w) b b) (sym same)
      (part_whole k told x given terms place out p streams written q part new asks sound answer (ports_of s u) b end
      (subst (λ l. IsAnswer answer (flow_of terms) (one_chunk l ++ last_chunk)) are gives))

  pub telling_late : TellingSays k told.handed told.stop given place telling.UpToDate p q u u'
      → Steps p.charter k told (came.Pauses Pause.NotYet) x x p q (ports_of s u) (ports_of s u') b b
  telling_late ((part, new, is, asks), probed) =
      subst (λ w. Steps p.charter k told (came.Pauses Pause.NotYet) x x p q (ports_of s u) (ports_of s w) b b) (sym (same_sink u u' probed))
      (part_late k told x given terms place out p streams written q part new asks sound (ports_of s u) b is)

  still : (e : Ending) (x' : Session) → u' ≡ u → Steps p.charter k told (came.Ends e) x x' p q (ports_of s u) (ports_of s u) b b
      → Steps p.charter k told (came.Ends e) x x' p q (ports_of s u) (ports_of s u') b b
  still e x' same f = subst (λ w. Steps p.charter k told (came.Ends e) x x' p q (ports_of s u) (ports_of s w) b b) (sym same) f

  pub telling_ends : (e : Ending) (x' : Session) → TellingSays k told.handed told.stop given place (telling.Ends e) p q u u'
      → Steps p.charter k told (came.Ends e) x x' p q (ports_of s u) (ports_of s u') b b
  telling_ends E.Stopped x' ((part, new, is, asks), stops, same) =
      still E.Stopped x' same (part_stopped k told x given terms place out p streams written q part new asks sound x' (ports_of s u) b is stops)
  telling_ends E.WriteFault x' ((part, new, is, asks), (fault, ((took, rose), counted, waits))) =
      part_gone k told x given terms place out p streams written q part new asks sound x' (ports_of s u) (ports_of s u') b b took rose refl
  telling_ends (E.Lagged next first) x' ((part, new, is, asks), same) =
      still (E.Lagged next first) x' same (part_lagged k told x given terms place out p streams written q part new asks sound next first x' (ports_of s u) b is)
  telling_ends E.NoMemory x' ((part, new, is, asks), same) =
      still E.NoMemory x' same (part_short k told x given terms place out p streams written q part new asks sound x' (ports_of s u) b)
  telling_ends e x' says = absurd says

-- its place is further on by a part at least
pub telling_tells : (k : ℕ) (told : Told) (x : Session) (given : Reply) (terms : Terms) (place : ℕ) (out : Outgoing) (p q : PassView) (u u' : PollSinkView) (b : Budget)
    → x.state ≡ State.Streams given terms place out → (next : ℕ) (bytes : Vec ℕ Global) (out' : Outgoing)
    → TellingSays k told.handed told.stop given place (telling.More next bytes) p q u u' → 1 ≤ b.parts
    → TellsBy x.state (State.Streams given terms next out') b (record b { parts = b.parts - 1 })
telling_tells k told x given terms place out p q u u' b streams next bytes out' ((part, new, (is, other, are), asks), same) some =
    let more = further_on given p.charter q.seen place next told.handed new (subst (λ y. PartTells given told.handed place y [] new p.charter q.seen) is asks.says) in
    subst (λ y. TellsBy y (State.Streams given terms next out') b (record b { parts = b.parts - 1 })) (sym streams)
    (omega arith, (refl, refl, omega (arith, more, some)))

-- and less is left
module _ (x : Session) (given : Reply) (terms : Terms) (place : ℕ) (out : Outgoing) (b : Budget) (streams : x.state ≡ State.Streams given terms place out) where
  pub telling_less : (next : ℕ) (out' : Outgoing) → 1 ≤ b.parts
      → left_of (record x { state = State.Streams given terms next out' }) (record b { parts = b.parts - 1 }) < left_of x b
  telling_less next out' some = let same = ap steps_left streams in omega (arith, same, some)

  pub whole_less : (answer : Answer) → left_of (record x { state = State.Sends answer }) b < left_of x b
  whole_less answer = let same = ap steps_left streams in omega (arith, same)

-- a part more is wanted of a stream that is written
pub wanted_by : (k : ℕ) (told : Told) (x : Session) (p : PassView) → IsWritten x.state → (v : Ports) (b : Budget) → b.parts ≡ 0
    → Steps p.charter k told (came.Pauses Pause.Yield) x x p p v v b b
wanted_by k told x p written v b none = by x.state refl written
  where
    by : (state : State) → x.state ≡ state → IsWritten state → Steps p.charter k told (came.Pauses Pause.Yield) x x p p v v b b
    by (State.Streams given terms place out) is all = part_wanted k told x given terms place out p is all v b none
    by State.Reads is all = absurd all
    by (State.Asks call terms early) is all = absurd all
    by (State.Waits ticket terms) is all = absurd all
    by (State.WaitsEarly ticket terms out) is all = absurd all
    by (State.Opens call terms) is all = absurd all
    by (State.Sends answer) is all = absurd all
    by (State.Refuses out status) is all = absurd all
