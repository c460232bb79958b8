-- Each step leaves less of a poll.
use Rattle.std.proofs.Common.{arith, ◌≡◌, ◌<◌, ◌≤◌, ◌+◌, ◌-◌, ◌⊎◌, inl, inr, ℕ, zero, suc, List, length, length-take, drop, refl, sym, ◌∙◌, ap}
use Rattle.std.specs.Prelude.{IsTrue}
use Rattle.std.proofs.lemmas.Bool.{false≢true}
use Rattle.http_edge.specs.Message.{Request}
use Rattle.request_pieces.specs.Begun.{Begun as Reader}
use Rattle.request_pieces.specs.Pushing.{PushSays, request_in}
use Rattle.request_pieces.specs.declared.reader.Pushed.TheVariants as pushed
use Rattle.session_model.specs.declared.terms.Terms.{Terms}
use Rattle.session_poll.specs.declared.budget.Budget.{Budget}
use Rattle.session_poll.specs.declared.session.Session.{Session}
use Rattle.session_poll.specs.declared.state.State.{State}
use Rattle.session_poll.specs.Asking.{BeginsBy}
use Rattle.session_poll.specs.Left.{left_of, steps_left, weight}
use Rattle.session_poll.specs.Streaming.{IsOpening}
use Rattle.session_poll.specs.Waiting.{calls_by}
use Rattle.session_poll.specs.declared.waiting.Over.{Over}
use Rattle.session_poll.specs.declared.waiting.Over.TheVariants as ends
use Rattle.polled_steps.specs.declared.answers.Answer.{Answer}
use Rattle.session_poll.specs.Standing.{HasPiece, HasRead, unread}
use Rattle.session_poll.proofs.ReadMoveLemmas.{takes_some, told_by_push}

-- ---- a call outweighs whatever it leads to

weight_on : (n : ℕ) → 1 ≤ n → weight n ≡ weight (n - 1) + n
weight_on zero some = absurd (omega (arith, some))
weight_on (suc n) some = let e : suc n - 1 ≡ n = omega arith in ap (λ m. weight m + suc n) (sym e)

few_steps : (state : State) → steps_left state ≤ 4
few_steps State.Reads = omega arith
few_steps (State.Asks call terms early) = omega arith
few_steps (State.Waits ticket terms) = omega arith
few_steps (State.WaitsEarly ticket terms out) = omega arith
few_steps (State.Opens call terms) = omega arith
few_steps (State.Streams given terms place out) = omega arith
few_steps (State.Sends answer) = omega arith
few_steps (State.Refuses out status) = omega arith

module _ (x : Session) (state : State) (b : Budget) where
  -- a call was made
  pub turn_less : 1 ≤ b.turns → left_of (record x { state = state }) (record b { turns = b.turns - 1 }) < left_of x b
  turn_less some = let w = weight_on b.turns some in let few = few_steps state in omega (arith, some, w, few)

  -- which began a stream
  pub begun_less : 1 ≤ b.turns → left_of (record x { state = state }) (record b { turns = b.turns - 1; parts = b.turns - 1 }) < left_of x b
  begun_less some = let w = weight_on b.turns some in let few = few_steps state in omega (arith, some, w, few)

  -- or none, and it was answered
  pub answered_less : 3 ≤ steps_left x.state → steps_left state ≡ 2 → left_of (record x { state = state }) b < left_of x b
  answered_less before behind = omega (arith, before, behind)

  pub uncalled_less : 3 ≤ steps_left x.state → steps_left state ≡ 2 → left_of (record x { state = state }) (record b { turns = b.turns - 0 }) < left_of x b
  uncalled_less before behind = let e : b.turns - 0 ≡ b.turns = omega arith in let w = ap weight e in omega (arith, before, behind, w)

-- a wait that is over
pub over_less : (x : Session) (o : Over) (n : ℕ) (terms : Terms) (answer : Answer) (b : Budget) → x.state ≡ State.Waits n terms → 1 ≤ b.turns
    → left_of (record x { state = State.Sends answer }) (record b { turns = b.turns - calls_by o }) < left_of x b
over_less x (ends.Replied r) n terms answer b waits some = turn_less x (State.Sends answer) b some
over_less x ends.NoMemory n terms answer b waits some = uncalled_less x (State.Sends answer) b (let e = ap steps_left waits in omega (arith, e)) refl
over_less x ends.Stopped n terms answer b waits some = uncalled_less x (State.Sends answer) b (let e = ap steps_left waits in omega (arith, e)) refl

-- what may be left where a call is to be made
pub steps_of : (state : State) → IsOpening state → 3 ≤ steps_left state
steps_of (State.Opens call terms) opening = omega arith
steps_of State.Reads opening = absurd opening
steps_of (State.Asks call terms early) opening = absurd opening
steps_of (State.Waits ticket terms) opening = absurd opening
steps_of (State.WaitsEarly ticket terms out) opening = absurd opening
steps_of (State.Streams given terms place out) opening = absurd opening
steps_of (State.Sends answer) opening = absurd opening
steps_of (State.Refuses out status) opening = absurd opening

-- ---- of the piece

module _ (x : Session) (b : Budget) (reads : x.state ≡ State.Reads) (read : (bytes : List ℕ) × HasRead x bytes) (piece : HasPiece x.from x.to (length x.piece.items)) where
  at_reads : steps_left x.state ≡ 1
  at_reads = ap steps_left reads

  -- the whole piece was taken, of which there was some since its input goes on
  pub less_more : (reader : Reader) → ((x.from < x.to) ⊎ IsTrue x.ended) → PushSays x.reader reader (unread x) x.ended pushed.More
      → left_of (record x { reader = reader; from = x.to }) b < left_of x b
  less_more reader (inl some) says = omega (arith, some)
  less_more reader (inr over) says =
      let told = told_by_push x.reader reader (unread x) x.ended pushed.More read.1.0 says in
      absurd (false≢true (sym (told.1 read.0 read.1.1).0 ∙ over))

  begun_within : (r : Request) (state : State) → BeginsBy r state → steps_left state ≤ 4
  begun_within r (State.Asks call terms early) begins = omega arith
  begun_within r (State.Opens call terms) begins = omega arith
  begun_within r (State.Sends answer) begins = omega arith
  begun_within r State.Reads begins = absurd begins
  begun_within r (State.Waits ticket terms) begins = absurd begins
  begun_within r (State.WaitsEarly ticket terms out) begins = absurd begins
  begun_within r (State.Streams given terms place out) begins = absurd begins
  begun_within r (State.Refuses out status) begins = absurd begins

  -- a request takes some bytes of the piece, which has them
  pub request_fits : (reader : Reader) (n : ℕ) → PushSays x.reader reader (unread x) x.ended (pushed.Request n) → (0 < n) × (x.from + n ≤ x.to)
  request_fits reader n says =
      let told = told_by_push x.reader reader (unread x) x.ended (pushed.Request n) read.1.0 says in
      let some = takes_some x.reader reader read.0 (unread x) n read.1.1.awaits (told.1 read.0 read.1.1).0 in
      let len = length-take (x.to - x.from) (drop x.from x.piece.items) in
      let fits : n ≤ length (unread x) = says.0.1 in
      let before = piece.unread in
      (some, omega (arith, len, fits, before))

  pub less_request : (reader : Reader) (n : ℕ) (state : State) → PushSays x.reader reader (unread x) x.ended (pushed.Request n) → BeginsBy (request_in reader) state
      → left_of (record x { reader = reader; from = x.from + n; state = state }) b < left_of x b
  less_request reader n state says begins =
      let fits = request_fits reader n says in
      let some = fits.0 in let within = fits.1 in
      let steps = begun_within (request_in reader) state begins in
      omega (arith, at_reads, some, within, steps)
