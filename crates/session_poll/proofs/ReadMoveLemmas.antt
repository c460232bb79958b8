-- The steps of a session that reads: of the piece, and of its source.
use Rattle.std.proofs.Common.{arith, ◌≡◌, ◌<◌, ◌≤◌, ◌+◌, ◌-◌, inl, inr, ℕ, zero, suc, Bool, true, false, List, [], ◌++◌, length, length-take, slice_range, take, drop, drop-drop, if◌then◌else◌, refl, sym, ◌∙◌, ap, subst, append_assoc, append-nil, None}
use Rattle.std.proofs.lemmas.Bool.{false≢true}
use Rattle.std.proofs.lemmas.List.{drop-take, take-append-drop}
use Rattle.engine_ports.specs.Rose.{Rose, raised}
use Rattle.engine_ports.specs.Source.{SourceEnded, SourceGave}
use Rattle.engine_ports.proofs.PortLemmas.{rose_since, source_none}
use Rattle.machine_model.specs.History.{Charter}
use Rattle.http_edge.specs.Message.{Request}
use Rattle.http_edge.specs.Response.{refusal_bytes}
use Rattle.http_edge.specs.Refusal.{AwaitsMore}
use Rattle.http_edge.specs.Spelling.{Begins}
use Rattle.http_edge.proofs.EndLemmas.{unfinished_none}
use Rattle.http_edge.proofs.ReadingLemmas.{behind_less}
use Rattle.polled_steps.specs.Bytes.{rest_of}
use Rattle.polled_steps.specs.declared.outgoing.Outgoing.{Outgoing}
use Rattle.request_pieces.specs.Begun.{Begun as Reader}
use Rattle.request_pieces.specs.Pushing.{PushFrom, PushOf, PushSays, request_in, stopped_by}
use Rattle.request_pieces.specs.Standing.{HasTaken}
use Rattle.request_pieces.specs.declared.reader.Pushed.{Pushed}
use Rattle.request_pieces.specs.declared.reader.Pushed.TheVariants as pushed
use Rattle.session_model.specs.declared.ending.Ending.TheVariants as E
use Rattle.session_model.specs.declared.terms.Terms.{Terms}
use Rattle.session_model.specs.Exchange.{Closes, GoesOn, flow_of}
use Rattle.session_model.specs.Pass.{PassView}
use Rattle.session_model.specs.Responses.{out_of_memory_response, terms_of}
use Rattle.session_model.specs.Session.{Span}
use Rattle.session_model.proofs.HistoryLemmas.{quiet_same}
use Rattle.session_model.proofs.SessionLemmas.{begins_more}
use Rattle.polled_model.specs.declared.polled.Cause.{Cause as Pause}
use Rattle.polled_model.specs.Polls.{Ports, Told, outside_of}
use Rattle.polled_model.specs.Progress.{IsIdle, Nothing}
use Rattle.polled_model.specs.Stages as stage
use Rattle.polled_model.proofs.EndLemmas.{ending}
use Rattle.polled_model.proofs.StageLemmas.{reading}
use Rattle.session_poll.specs.declared.budget.Budget.{Budget}
use Rattle.session_poll.specs.declared.session.Session.{Session}
use Rattle.session_poll.specs.declared.state.State.{State}
use Rattle.session_poll.specs.declared.state.Step.TheVariants as came
use Rattle.session_poll.specs.Asking.{BeginsBy}
use Rattle.session_poll.specs.Going.{IsPolled, Steps}
use Rattle.session_poll.specs.Standing.{HasMoved, HasPiece, HasRead, IsAt, IsDecided, IsIn, unread}
use Rattle.session_poll.proofs.GoingLemmas.{kept_by, once_more}
use Rattle.session_poll.proofs.MoveLemmas.{steps_read, steps_still}
use Rattle.session_poll.proofs.ThereLemmas.{at_read, reads_there, still_told}

-- ---- pieces

pub none_between : (l : List ℕ) (n : ℕ) → slice_range l n n ≡ []
none_between l n = let e : n - n ≡ 0 = omega arith in ap (λ m. take m (drop n l)) e

-- of a piece that is all taken nothing is unread, whatever stands in it
pub all_read : (x : Session) → x.from ≡ x.to → unread x ≡ []
all_read x none = ap (λ n. slice_range x.piece.items n x.to) none ∙ none_between x.piece.items x.to

-- from the first on
from_first : (l : List ℕ) (n : ℕ) → slice_range l 0 n ≡ take n l
from_first l n = let e : n - 0 ≡ n = omega arith in ap (λ m. take m l) e

-- behind so many bytes of a piece
further : (l : List ℕ) (from to n : ℕ) → n ≤ length (slice_range l from to) → slice_range l (from + n) to ≡ drop n (slice_range l from to)
further l from to n fits =
    let len = length-take (to - from) (drop from l) in
    let count : to - (from + n) ≡ to - from - n = omega arith in
    let whole : n + (to - from - n) ≡ to - from = omega (arith, fits, len) in
    ap (λ c. take c (drop (from + n) l)) count ∙ ap (take (to - from - n)) (sym (drop-drop n from l))
    ∙ sym (drop-take n (to - from - n) (drop from l)) ∙ ap (λ c. drop n (take c (drop from l))) whole

-- a place of the same length has it still
pub still_fits : (from to len len' : ℕ) → len' ≡ len → HasPiece from to len → HasPiece from to len'
still_fits from to len len' same piece = record { unread = piece.unread; inside = let fits = piece.inside in omega (arith, fits, same); size = same ∙ piece.size }

-- ---- how a session goes on behind a whole answer

if_decided : (close : Bool) (s : Span) → IsDecided (if close then Closes else GoesOn) s
if_decided true s = (refl, tt, tt)
if_decided false s = (refl, tt, tt)

pub decided_whole : (terms : Terms) (s : Span) → IsDecided (flow_of terms) s
decided_whole terms s = if_decided terms.close s

-- ---- what awaits more has no request

awaits_none : (bytes : List ℕ) (r : Request) (behind : List ℕ) → AwaitsMore bytes → Begins bytes r behind → ⊥
awaits_none bytes r behind (inr unfinished) begins = unfinished_none bytes unfinished r behind begins
awaits_none bytes r behind (inl none) begins =
    let less = behind_less bytes behind r begins in let e = ap length none in absurd (omega (arith, less, e))

-- what a push told, of a reader that goes on
pub told_by_push : (old new : Reader) (piece : List ℕ) (end : Bool) (result : Pushed) → old.stopped ≡ None → PushSays old new piece end result
    → (new.stopped ≡ stopped_by result) × ((bytes : List ℕ) → HasTaken old.intake bytes → PushOf result old new bytes piece end)
told_by_push old new piece end result none says = subst (λ o. PushFrom o old new piece end result) none says.1

-- what a push of the part that isn't taken told
pub pushed_so : (x : Session) (reader : Reader) (items : List ℕ) (result told : Pushed) → items ≡ x.piece.items → result ≡ told
    → PushSays x.reader reader (slice_range items x.from x.to) x.ended result → PushSays x.reader reader (unread x) x.ended told
pushed_so x reader items result told is was says =
    subst (PushSays x.reader reader (unread x) x.ended) was (subst (λ l. PushSays x.reader reader (slice_range l x.from x.to) x.ended result) is says)

-- a request takes some bytes of the piece
pub takes_some : (old new : Reader) (bytes piece : List ℕ) (n : ℕ) → AwaitsMore bytes → Begins (bytes ++ take n piece) (request_in new) [] → 0 < n
takes_some old new bytes piece zero awaits begins =
    absurd (awaits_none bytes (request_in new) [] awaits (subst (λ l. Begins l (request_in new) []) (append-nil bytes) begins))
takes_some old new bytes piece (suc n) awaits begins = omega arith

-- ---- of the piece

module _ (ch : Charter) (k : ℕ) (told : Told) (x : Session) (p : PassView) (v : Ports) (b : Budget) where
  -- where it reads, the reader has taken these bytes, and behind them stand those that it hasn't
  reads_at : (s : Span) → x.state ≡ State.Reads → IsAt ch k x s → (bytes : List ℕ) × HasRead x bytes × stage.Reads ch k (bytes ++ unread x) s
  reads_at s reads at = subst (λ state. IsIn ch k state x s) reads at.stands

  -- what a push told of the bytes taken before
  push_at : (reader : Reader) (result : Pushed) (bytes : List ℕ) → HasRead x bytes → PushSays x.reader reader (unread x) x.ended result
      → (reader.stopped ≡ stopped_by result) × PushOf result x.reader reader bytes (unread x) x.ended
  push_at reader result bytes read says =
      let told = told_by_push x.reader reader (unread x) x.ended result read.0 says in (told.0, told.1 bytes read.1)

  -- the whole piece was taken, and more is wanted
  pub more_wanted : (reader : Reader) → x.state ≡ State.Reads → PushSays x.reader reader (unread x) x.ended pushed.More
      → Steps ch k told came.On x (record x { reader = reader; from = x.to }) p p v v b b
  more_wanted reader reads says = steps_still ch k told came.On x (record x { reader = reader; from = x.to }) p v b
      (λ s is ports (at, rose).
      let here = reads_at s reads at in
      let tells = push_at reader pushed.More here.0 here.1 says in
      let bytes : List ℕ = here.0 ++ unread x in (
        record {
          stands = subst (λ state. IsIn ch k state (record x { reader = reader; from = x.to }) s) (sym reads)
              (bytes, (tells.0, tells.1.1), subst (λ t. stage.Reads ch k t s) (sym (ap (λ l. bytes ++ l) (none_between x.piece.items x.to) ∙ append-nil bytes)) here.2);
          moved = at.moved;
          piece = record { unread = omega arith; inside = at.piece.inside; size = at.piece.size };
        },
        rose,
      ))

  -- the input ended between two requests
  pub input_ended : (reader : Reader) (x' : Session) → x.state ≡ State.Reads → PushSays x.reader reader (unread x) x.ended pushed.End
      → Steps ch k told (came.Ends E.Closed) x x' p p v v b b
  input_ended reader x' reads says = steps_still ch k told (came.Ends E.Closed) x x' p v b
      (λ s is ports (at, rose).
      let here = reads_at s reads at in
      let tells = (push_at reader pushed.End here.0 here.1 says).1 in
      ((false, (ending ch k s).closed (subst (λ t. stage.Reads ch k t s) tells.1 here.2) (at.moved.ends tells.0)), tt))

  -- or inside one
  pub input_cut : (reader : Reader) (x' : Session) → x.state ≡ State.Reads → PushSays x.reader reader (unread x) x.ended pushed.CutShort
      → Steps ch k told (came.Ends E.CutShort) x x' p p v v b b
  input_cut reader x' reads says = steps_still ch k told (came.Ends E.CutShort) x x' p v b
      (λ s is ports (at, rose).
      let here = reads_at s reads at in
      let tells = (push_at reader pushed.CutShort here.0 here.1 says).1 in
      ((false, (ending ch k s).cut (here.0 ++ unread x) here.2 tells.1 (at.moved.ends tells.0)), tt))

  -- it is refused
  pub refused_at_once : (reader : Reader) (status at : ℕ) (out : Outgoing) → x.state ≡ State.Reads → rest_of out ≡ refusal_bytes status
      → PushSays x.reader reader (unread x) x.ended (pushed.Bad status at)
      → Steps ch k told came.On x (record x { reader = reader; state = State.Refuses out status }) p p v v b b
  refused_at_once reader status place out reads bytes says =
      steps_still ch k told came.On x (record x { reader = reader; state = State.Refuses out status }) p v b
      (λ s at_seen ports (at, rose).
      let here = reads_at s reads at in
      let refused = (push_at reader (pushed.Bad status place) here.0 here.1 says).1.0 in (
        record {
          stands = subst (λ w. stage.Refuses ch k status w s) (sym bytes) ((reading ch k (here.0 ++ unread x) s).refused status here.2 refused);
          moved = at.moved;
          piece = at.piece;
        },
        rose,
      ))

  -- a request is whole
  record IsWhole (reader : Reader) (n : ℕ) (s : Span) : Type 0 where
    tail : List ℕ
    reads : stage.Reads ch k tail s
    begins : Begins tail (request_in reader) (slice_range x.piece.items (x.from + n) x.to)
    read : (reader.stopped ≡ None) × HasTaken reader.intake []
    piece : HasPiece (x.from + n) x.to (length x.piece.items)

  whole_request : (reader : Reader) (n : ℕ) (s : Span) → x.state ≡ State.Reads → PushSays x.reader reader (unread x) x.ended (pushed.Request n)
      → IsAt ch k x s → IsWhole reader n s
  whole_request reader n s reads says at =
      let here = reads_at s reads at in
      let tells = push_at reader (pushed.Request n) here.0 here.1 says in
      let fits : n ≤ length (unread x) = says.0.1 in
      let joined = append_assoc here.0 (take n (unread x)) (drop n (unread x)) ∙ ap (λ l. here.0 ++ l) (take-append-drop n (unread x)) in
      let begins = begins_more (here.0 ++ take n (unread x)) (request_in reader) [] (drop n (unread x)) tells.1.0 in
      record {
        tail = here.0 ++ unread x;
        reads = here.2;
        begins = subst (λ l. Begins (here.0 ++ unread x) (request_in reader) l) (sym (further x.piece.items x.from x.to n fits))
            (subst (λ l. Begins l (request_in reader) (drop n (unread x))) joined begins);
        read = (tells.0, tells.1.1);
        piece = record {
          unread = let len = length-take (x.to - x.from) (drop x.from x.piece.items) in let before = at.piece.unread in omega (arith, len, fits, before);
          inside = at.piece.inside;
          size = at.piece.size;
        };
      }

  -- the state behind it
  abbrev behind_request : Reader → ℕ → State → Session
  behind_request reader n state = record x { reader = reader; from = x.from + n; state = state }

  begins_so : (reader : Reader) (n : ℕ) (state : State) (s : Span) (w : IsWhole reader n s) → BeginsBy (request_in reader) state
      → IsIn ch k state (behind_request reader n state) s
  begins_so reader n (State.Asks c terms early) s w (class, is, is') =
      (request_in reader, w.tail, w.read, w.reads, w.begins, class, is, is')
  begins_so reader n (State.Opens c terms) s w (class, is) = (request_in reader, w.tail, w.read, w.reads, w.begins, class, is)
  begins_so reader n (State.Sends answer) s w (inl (direct, class, gives)) = (
    request_in reader,
    flow_of (terms_of (request_in reader)),
    w.read,
    subst (λ l. stage.Sends ch k (flow_of (terms_of (request_in reader))) (request_in reader) (slice_range x.piece.items (x.from + n) x.to) l s) (sym gives.bytes_are)
        ((reading ch k w.tail s).direct (slice_range x.piece.items (x.from + n) x.to) (request_in reader) direct w.reads w.begins class),
    gives.behind,
    decided_whole (terms_of (request_in reader)) s,
  )
  begins_so reader n (State.Sends answer) s w (inr gives) = (
    request_in reader,
    flow_of (terms_of (request_in reader)),
    w.read,
    subst (λ l. stage.Sends ch k (flow_of (terms_of (request_in reader))) (request_in reader) (slice_range x.piece.items (x.from + n) x.to) l s) (sym gives.bytes_are)
        (refused_memory reader n s w),
    gives.behind,
    decided_whole (terms_of (request_in reader)) s,
  )
    where
      refused_memory : (reader : Reader) (n : ℕ) (s : Span) (w : IsWhole reader n s)
          → stage.Sends ch k (flow_of (terms_of (request_in reader))) (request_in reader) (slice_range x.piece.items (x.from + n) x.to)
          (out_of_memory_response (terms_of (request_in reader))) s
      refused_memory reader n s w =
          let sends = (reading ch k w.tail s).short (slice_range x.piece.items (x.from + n) x.to) [] (request_in reader) s.to w.reads w.begins (quiet_same k s.to) (λ none. refl) (omega arith) in
          subst (stage.Sends ch k (flow_of (terms_of (request_in reader))) (request_in reader) (slice_range x.piece.items (x.from + n) x.to)
          (out_of_memory_response (terms_of (request_in reader)))) (ap (λ l. record s { handed = l }) (append-nil s.handed)) sends
  begins_so reader n State.Reads s w none = absurd none
  begins_so reader n (State.Waits ticket terms) s w none = absurd none
  begins_so reader n (State.WaitsEarly ticket terms out) s w none = absurd none
  begins_so reader n (State.Streams given terms place out) s w none = absurd none
  begins_so reader n (State.Refuses out status) s w none = absurd none

  -- its call is to be made, or it is answered at once
  pub request_taken : (reader : Reader) (n : ℕ) (state : State) → x.state ≡ State.Reads → PushSays x.reader reader (unread x) x.ended (pushed.Request n)
      → BeginsBy (request_in reader) state
      → Steps ch k told came.On x (behind_request reader n state) p p v v b b
  request_taken reader n state reads says begins = steps_still ch k told came.On x (behind_request reader n state) p v b
      (λ s at_seen ports (at, rose).
      let w = whole_request reader n s reads says at in
      (record { stands = begins_so reader n state s w begins; moved = at.moved; piece = w.piece }, rose))

-- ---- of the source

module _ (ch : Charter) (k : ℕ) (told : Told) (x : Session) (p : PassView) (v v' : Ports) (b : Budget) where
  -- where all of the piece is taken, these are the bytes since the last request
  all_taken : (s : Span) → x.state ≡ State.Reads → x.from ≡ x.to → IsAt ch k x s → (bytes : List ℕ) × HasRead x bytes × stage.Reads ch k bytes s
  all_taken s reads none at =
      let here : (bytes : List ℕ) × HasRead x bytes × stage.Reads ch k (bytes ++ unread x) s = subst (λ state. IsIn ch k state x s) reads at.stands in
      let empty : unread x ≡ [] = ap (λ n. slice_range x.piece.items n x.to) none ∙ none_between x.piece.items x.to in
      (here.0, here.1, subst (λ t. stage.Reads ch k t s) (ap (λ l. here.0 ++ l) empty ∙ append-nil here.0) here.2)

  -- it gave bytes
  pub bytes_read : (x' : Session) (n : ℕ) → x.state ≡ State.Reads → x.from ≡ x.to → x.ended ≡ false → 1 ≤ b.reads
      → x'.state ≡ State.Reads → x'.reader ≡ x.reader → x'.ended ≡ false → x'.from ≡ 0 → x'.to ≡ n → n ≤ length x'.piece.items → length x'.piece.items ≡ length x.piece.items
      → SourceGave v.source.source (take n x'.piece.items) v'.source.source → v'.source.gave ≡ raised v.source.gave → v'.source.registered ≡ v.source.registered
      → v'.sink ≡ v.sink
      → Steps ch k told came.On x x' p p v v' b (record b { reads = b.reads - 1 })
  bytes_read x' n reads none goes_on some reads' reader ended' from to fits size gave counted waits sink =
      steps_read ch k told came.On x x' (take n x'.piece.items) p v v' b (record b { reads = b.reads - 1 }) gave (ap (λ u. u.sink) sink)
      (record {
        turns = omega arith;
        reads = once_more b.reads v.source.gave v'.source.gave some counted;
        writes = inl (omega (arith, ap (λ u. u.took) sink));
        source_waits = inl (omega (arith, waits));
        sink_waits = inl (omega (arith, ap (λ u. u.registered) sink));
      })
      (λ s is ports (at, rose).
      let here = all_taken s reads none at in
      let unread' : unread x' ≡ take n x'.piece.items =
      ap (λ m. slice_range x'.piece.items m x'.to) from ∙ ap (λ m. slice_range x'.piece.items 0 m) to ∙ from_first x'.piece.items n in
      let more = (reading ch k here.0 s).reads_on (take n x'.piece.items) here.2 in
      let stands : IsIn ch k x'.state x' (record s { read = s.read ++ take n x'.piece.items }) =
      subst (λ state. IsIn ch k state x' (record s { read = s.read ++ take n x'.piece.items })) (sym reads') (
        here.0,
        subst (λ r. (r.stopped ≡ None) × HasTaken r.intake here.0) (sym reader) here.1,
        subst (λ l. stage.Reads ch k (here.0 ++ l) (record s { read = s.read ++ take n x'.piece.items })) (sym unread') more,
      ) in
      let piece : HasPiece x'.from x'.to (length x'.piece.items) =
      record { unread = omega (arith, from); inside = omega (arith, to, fits); size = size ∙ at.piece.size } in
      (at_read ch k x' s v v' (take n x'.piece.items) x.ended ports gave (ap (λ u. u.sink) sink) (λ over. absurd (false≢true (sym ended' ∙ over))) stands at.moved piece, rose))

  -- it has none yet, and the place may have been written over
  same_reads : (x' : Session) (s : Span) → x.state ≡ State.Reads → x'.state ≡ State.Reads → x'.reader ≡ x.reader → x'.ended ≡ x.ended → unread x' ≡ unread x
      → HasPiece x'.from x'.to (length x'.piece.items) → IsAt ch k x s → IsAt ch k x' s
  same_reads x' s reads reads' reader ended same piece at =
      let here : (bytes : List ℕ) × HasRead x bytes × stage.Reads ch k (bytes ++ unread x) s = subst (λ state. IsIn ch k state x s) reads at.stands in
      record {
        stands = subst (λ state. IsIn ch k state x' s) (sym reads')
            (here.0, subst (λ r. (r.stopped ≡ None) × HasTaken r.intake here.0) (sym reader) here.1, subst (λ l. stage.Reads ch k (here.0 ++ l) s) (sym same) here.2);
        moved = subst (λ e. HasMoved e s.read s.written s.old s.new) (sym ended) at.moved;
        piece = piece;
      }

  pub source_waits : (x' : Session) → x.state ≡ State.Reads → x'.state ≡ State.Reads → x'.reader ≡ x.reader → x'.ended ≡ x.ended → unread x' ≡ unread x
      → HasPiece x'.from x'.to (length x'.piece.items) → x.from ≡ x.to → v'.source.source ≡ v.source.source → v'.source.gave ≡ v.source.gave
      → Rose v.source.registered v'.source.registered → v'.sink ≡ v.sink → Steps ch k told (came.Pauses Pause.Source) x x' p p v v' b b
  source_waits x' reads reads' reader ended here' piece none same gave rose sink =
      steps_read ch k told (came.Pauses Pause.Source) x x' [] p v v' b b
      (subst (SourceGave v.source.source []) (sym same) (source_none v.source.source)) (ap (λ u. u.sink) sink)
      (record {
        turns = omega arith;
        reads = inl (omega (arith, gave));
        writes = inl (omega (arith, ap (λ u. u.took) sink));
        source_waits = kept_by v.source.registered v'.source.registered rose;
        sink_waits = inl (omega (arith, ap (λ u. u.registered) sink));
      })
      (λ s is ports (at, stopped).
      let still = still_told s v v' ports same (ap (λ u. u.sink) sink) in
      let is' = ap (λ l. record s { read = l }) (sym (append-nil s.read)) ∙ ap (λ n. record s { read = s.read ++ []; new = n }) still in
      let here = all_taken s reads none at in (
        subst (IsPolled ch k told.stop x') is' (same_reads x' s reads reads' reader ended here' piece at, stopped),
        (rose, subst (IsIdle ch k) is' (idle here.0 s here.2 here.1.1.awaits)),
      ))
    where
      idle : (tail : List ℕ) (s : Span) → stage.Reads ch k tail s → AwaitsMore tail → IsIdle ch k s
      idle tail s r awaits = (
        record {
          done = r.stands.done;
          tail = tail;
          mid = r.mid;
          bytes = s.written;
          last = [];
          early = s.handed;
          late = [];
          requests = r.stands.requests;
          answered = r.stands.answered;
          underway = Nothing refl refl r.quiet;
          wrote = sym (append-nil s.written);
          handed = sym (append-nil s.handed);
        },
        tt,
        awaits,
      )

  -- it ended
  pub source_ended : (x' : Session) → x.state ≡ State.Reads → x'.state ≡ State.Reads → x'.reader ≡ x.reader → unread x' ≡ unread x
      → HasPiece x'.from x'.to (length x'.piece.items)
      → SourceGave v.source.source [] v'.source.source → SourceEnded v.source.source v'.source.source → v'.source.gave ≡ v.source.gave
      → v'.source.registered ≡ v.source.registered → v'.sink ≡ v.sink → Steps ch k told came.On x x' p p v v' b b
  source_ended x' reads reads' reader same piece gave over counted waits sink =
      steps_read ch k told came.On x x' [] p v v' b b gave (ap (λ u. u.sink) sink)
      (record {
        turns = omega arith;
        reads = inl (omega (arith, counted));
        writes = inl (omega (arith, ap (λ u. u.took) sink));
        source_waits = inl (omega (arith, waits));
        sink_waits = inl (omega (arith, ap (λ u. u.registered) sink));
      })
      (λ s is ports (at, rose).
      let here : (bytes : List ℕ) × HasRead x bytes × stage.Reads ch k (bytes ++ unread x) s = subst (λ state. IsIn ch k state x s) reads at.stands in
      let more = (reading ch k (here.0 ++ unread x) s).reads_on [] here.2 in
      let stands : IsIn ch k x'.state x' (record s { read = s.read ++ [] }) =
      subst (λ state. IsIn ch k state x' (record s { read = s.read ++ [] })) (sym reads') (
        here.0,
        subst (λ r. (r.stopped ≡ None) × HasTaken r.intake here.0) (sym reader) here.1,
        subst (λ l. stage.Reads ch k (here.0 ++ l) (record s { read = s.read ++ [] })) (sym same)
            (subst (λ l. stage.Reads ch k l (record s { read = s.read ++ [] })) (append-nil (here.0 ++ unread x)) more),
      ) in
      (at_read ch k x' s v v' [] x.ended ports gave (ap (λ u. u.sink) sink) (λ is. over) stands at.moved piece, rose))

  -- it failed
  pub source_failed : (x' : Session) → x.state ≡ State.Reads → x.from ≡ x.to → SourceGave v.source.source [] v'.source.source
      → Rose v.source.source.faults v'.source.source.faults → v'.sink ≡ v.sink → Steps ch k told (came.Ends E.ReadFault) x x' p p v v' b b
  source_failed x' reads none gave rose sink =
      steps_read ch k told (came.Ends E.ReadFault) x x' [] p v v' b b gave (ap (λ u. u.sink) sink) tt
      (λ s is ports (at, stopped).
      let here = all_taken s reads none at in
      let now : Span = record s { read = s.read ++ []; new = outside_of v' s.new.clock.stops } in
      let more : stage.Reads ch k here.0 now =
      reads_there ch k (record s { read = s.read ++ [] }) (outside_of v' s.new.clock.stops) here.0
      (subst (λ l. stage.Reads ch k l (record s { read = s.read ++ [] })) (append-nil here.0) ((reading ch k here.0 s).reads_on [] here.2)) in
      let since : Rose s.old.source.faults v'.source.source.faults =
      rose_since s.old.source.faults s.new.source.faults v'.source.source.faults at.moved.source.faults
      (subst (λ o. Rose o.source.faults v'.source.source.faults) (sym ports) rose) in
      ((false, (ending ch k now).unread here.0 more here.1.1.awaits since), rose))
