-- How far a poll told its stream.
use Rattle.std.proofs.Common.{arith, ◌≡◌, ◌<◌, ◌≤◌, ◌+◌, ◌-◌, inl, inr, ℕ, Bool, true, false, cond, ◌||◌, List, [], ◌∷◌, length, refl, sym, ◌∙◌, ap, subst}
use Rattle.std.specs.Prelude.{◌⊎◌, leb}
use Rattle.std.proofs.lemmas.Bool.Decides.{leb_tells}
use Rattle.engine_text.specs.declared.reply.Reply.{Reply}
use Rattle.engine_text.specs.declared.step.Step.{Step}
use Rattle.http_edge.specs.Message.{Request}
use Rattle.machine_model.specs.History.{Charter, bears, calls_of, input_of, own_calls}
use Rattle.session_model.specs.declared.terms.Terms.{Terms}
use Rattle.session_model.specs.Session.{Span}
use Rattle.polled_model.specs.Places.{first_place}
use Rattle.polled_model.specs.Polls.{IsToldTo, TellsOn}
use Rattle.polled_steps.specs.Bytes.{rest_of}
use Rattle.polled_steps.specs.declared.outgoing.Outgoing.{Outgoing}
use Rattle.session_poll.specs.declared.budget.Budget.{Budget}
use Rattle.session_poll.specs.declared.session.Session.{Session}
use Rattle.session_poll.specs.declared.state.State.{State}
use Rattle.session_poll.specs.Asking.{BeginsBy}
use Rattle.session_poll.specs.Going.{HasTold, TellsBy, TellsFrom, whole_budget}
use Rattle.session_poll.specs.Standing.{IsIn, unread}
use Rattle.session_poll.proofs.PlaceLemmas.{from_first}

-- ---- calls of the connection are own calls

among : (a b : Bool) (x : Step) (xs ys : List Step) → length xs ≤ length ys → length (cond a (x ∷ xs) xs) ≤ length (cond (a || b) (x ∷ ys) ys)
among true b x xs ys le = omega (arith, le)
among false true x xs ys le = omega (arith, le)
among false false x xs ys le = le

pub calls_among : (k : ℕ) (xs : List Step) → length (calls_of k xs) ≤ length (own_calls k xs)
calls_among k [] = omega arith
calls_among k (x ∷ xs) = among (bears k x) (bears (input_of k) x) x (calls_of k xs) (own_calls k xs) (calls_among k xs)

-- ---- a step tells

-- where it stays as it is
pub tells_same : (state : State) (b b' : Budget) → b'.turns ≡ b.turns → b'.parts ≡ b.parts → TellsBy state state b b'
tells_same (State.Streams given terms place out) b b' turns parts = (omega (arith, turns), (refl, turns, omega (arith, parts)))
tells_same State.Reads b b' turns parts = omega (arith, turns)
tells_same (State.Asks call terms early) b b' turns parts = omega (arith, turns)
tells_same (State.Waits ticket terms) b b' turns parts = omega (arith, turns)
tells_same (State.WaitsEarly ticket terms out) b b' turns parts = omega (arith, turns)
tells_same (State.Opens call terms) b b' turns parts = omega (arith, turns)
tells_same (State.Sends answer) b b' turns parts = omega (arith, turns)
tells_same (State.Refuses out status) b b' turns parts = omega (arith, turns)

-- a request that is whole streams nothing yet
pub begun_tells : (r : Request) (old state : State) (b : Budget) → BeginsBy r state → TellsBy old state b b
begun_tells r old (State.Asks call terms early) b begins = omega arith
begun_tells r old (State.Opens call terms) b begins = omega arith
begun_tells r old (State.Sends answer) b begins = omega arith
begun_tells r old State.Reads b begins = absurd begins
begun_tells r old (State.Waits ticket terms) b begins = absurd begins
begun_tells r old (State.WaitsEarly ticket terms out) b begins = absurd begins
begun_tells r old (State.Streams given terms place out) b begins = absurd begins
begun_tells r old (State.Refuses out status) b begins = absurd begins

-- what is written of it doesn't count
pub early_tells : (n : ℕ) (terms : Terms) (out out' : Outgoing) (state : State) (b b' : Budget) → TellsBy (State.WaitsEarly n terms out') state b b'
    → TellsBy (State.WaitsEarly n terms out) state b b'
early_tells n terms out out' (State.Streams given terms' place later) b b' tells = tells
early_tells n terms out out' state b b' tells = tells

pub stream_tells : (given : Reply) (terms : Terms) (place : ℕ) (out out' : Outgoing) (state : State) (b b' : Budget)
    → TellsBy (State.Streams given terms place out') state b b' → TellsBy (State.Streams given terms place out) state b b'
stream_tells given terms place out out' (State.Streams given' terms' place' later) b b' tells = tells
stream_tells given terms place out out' state b b' tells = tells

-- by another name
pub tells_as : (x y x' y' : State) (b b' : Budget) → x ≡ y → x' ≡ y' → TellsBy y y' b b' → TellsBy x x' b b'
tells_as x y x' y' b b' is is' tells = subst (λ z. TellsBy z x' b b') (sym is) (subst (λ z. TellsBy y z b b') (sym is') tells)

-- ---- and all steps of a poll

pub told_none : (state : State) → HasTold state state whole_budget
told_none (State.Streams given terms place out) = (omega arith, λ enough. (refl, refl, omega arith), λ fewer. absurd (omega (arith, fewer)))
told_none State.Reads = omega arith
told_none (State.Asks call terms early) = omega arith
told_none (State.Waits ticket terms) = omega arith
told_none (State.WaitsEarly ticket terms out) = omega arith
told_none (State.Opens call terms) = omega arith
told_none (State.Sends answer) = omega arith
told_none (State.Refuses out status) = omega arith

told_turns : (was state : State) (b : Budget) → HasTold was state b → b.turns ≤ 16
told_turns was (State.Streams given terms place out) b told = told.0
told_turns was State.Reads b told = told
told_turns was (State.Asks call terms early) b told = told
told_turns was (State.Waits ticket terms) b told = told
told_turns was (State.WaitsEarly ticket terms out) b told = told
told_turns was (State.Opens call terms) b told = told
told_turns was (State.Sends answer) b told = told
told_turns was (State.Refuses out status) b told = told

-- the stream that a poll found, further on
found_on : (was : State) (given given' : Reply) (from to : ℕ) (b c : Budget) → given' ≡ given → c.turns ≡ b.turns → from + (b.parts - c.parts) ≤ to
    → 16 ≤ b.turns → TellsFrom was given from whole_budget b → TellsFrom was given' to whole_budget c
found_on (State.Streams found terms first out) given given' from to b c same turns on enough told =
    let before = told.2 in (same ∙ told.0, turns ∙ told.1, omega (arith, before, on))
found_on State.Reads given given' from to b c same turns on enough told = absurd (omega (arith, enough, told.1))
found_on (State.Asks call terms early) given given' from to b c same turns on enough told = absurd (omega (arith, enough, told.1))
found_on (State.Waits ticket terms) given given' from to b c same turns on enough told = absurd (omega (arith, enough, told.1))
found_on (State.WaitsEarly ticket terms out) given given' from to b c same turns on enough told = absurd (omega (arith, enough, told.1))
found_on (State.Opens call terms) given given' from to b c same turns on enough told = absurd (omega (arith, enough, told.1))
found_on (State.Sends answer) given given' from to b c same turns on enough told = absurd (omega (arith, enough, told.1))
found_on (State.Refuses out status) given given' from to b c same turns on enough told = absurd (omega (arith, enough, told.1))

-- a stream behind one step more
module _ (was : State) (given : Reply) (terms : Terms) (to : ℕ) (out : Outgoing) (b c : Budget) where
  begun_told : b.turns ≤ 16 → (to ≡ first_place given) × (c.turns < b.turns) × (c.parts ≡ c.turns) → HasTold was (State.Streams given terms to out) c
  begun_told few (is, less, all) = (
    omega (arith, few, less),
    λ enough. absurd (omega (arith, few, less, enough)),
    λ fewer. omega (arith, is, all),
  )

  stream_told : (state : State) → HasTold was state b → TellsFrom state given to b c → HasTold was (State.Streams given terms to out) c
  stream_told (State.Streams given' terms' from out') told (same, turns, on) = (
    let few = told.0 in omega (arith, few, turns),
    λ enough. let more : 16 ≤ b.turns = omega (arith, enough, turns) in found_on was given' given from to b c same turns on more (told.1 more),
    λ fewer.
        let less : b.turns < 16 = omega (arith, fewer, turns) in
        let before = told.2 less in
        let e = ap first_place same in omega (arith, before, on, turns, e),
  )
  stream_told State.Reads told begun = begun_told told begun
  stream_told (State.Asks call terms' early) told begun = begun_told told begun
  stream_told (State.Waits ticket terms') told begun = begun_told told begun
  stream_told (State.WaitsEarly ticket terms' out') told begun = begun_told told begun
  stream_told (State.Opens call terms') told begun = begun_told told begun
  stream_told (State.Sends answer) told begun = begun_told told begun
  stream_told (State.Refuses out' status) told begun = begun_told told begun

pub told_on : (was y z : State) (b c : Budget) → HasTold was y b → TellsBy y z b c → HasTold was z c
told_on was y (State.Streams given terms to out) b c told tells = stream_told was given terms to out b c y told tells.1
told_on was y State.Reads b c told tells = let few = told_turns was y b told in omega (arith, few, tells)
told_on was y (State.Asks call terms early) b c told tells = let few = told_turns was y b told in omega (arith, few, tells)
told_on was y (State.Waits ticket terms) b c told tells = let few = told_turns was y b told in omega (arith, few, tells)
told_on was y (State.WaitsEarly ticket terms out) b c told tells = let few = told_turns was y b told in omega (arith, few, tells)
told_on was y (State.Opens call terms) b c told tells = let few = told_turns was y b told in omega (arith, few, tells)
told_on was y (State.Sends answer) b c told tells = let few = told_turns was y b told in omega (arith, few, tells)
told_on was y (State.Refuses out status) b c told tells = let few = told_turns was y b told in omega (arith, few, tells)

-- ---- what that tells of spans

module _ (ch : Charter) (k : ℕ) where
  told_to : (given : Reply) (terms : Terms) (place : ℕ) (out : Outgoing) (x : Session) (s : Span) → IsIn ch k (State.Streams given terms place out) x s
      → IsToldTo ch k given place s
  told_to given terms place out x s (r, body, is, read, streams) = (r, unread x, body, rest_of out, streams)

  -- the stream that a poll found, of which it told all parts that it may
  record Found (given : Reply) (to n : ℕ) (was : Span) : Type 0 where
    from : ℕ
    stood : IsToldTo ch k given from was
    begins : first_place given ≤ from
    on : from + n ≤ to

  found : (state : State) (x : Session) (was : Span) (given : Reply) (to : ℕ) (left : Budget) → IsIn ch k state x was → TellsFrom state given to whole_budget left
      → 16 ≤ left.turns → left.parts ≡ 0 → Found given to left.turns was
  found (State.Streams given' terms from out) x was given to left here (same, turns, on) enough none = record {
    from = from;
    stood = subst (λ y. IsToldTo ch k y from was) (sym same) (told_to given' terms from out x was here);
    begins =
        let first = from_first given' ch here.4.at here.4.now from here.1 here.4.reaches in
        let e = ap first_place same in omega (arith, first, e);
    on = omega (arith, on, none, turns);
  }
  found State.Reads x was given to left here told enough none = absurd (omega (arith, enough, told.1))
  found (State.Asks call terms early) x was given to left here told enough none = absurd (omega (arith, enough, told.1))
  found (State.Waits ticket terms) x was given to left here told enough none = absurd (omega (arith, enough, told.1))
  found (State.WaitsEarly ticket terms out) x was given to left here told enough none = absurd (omega (arith, enough, told.1))
  found (State.Opens call terms) x was given to left here told enough none = absurd (omega (arith, enough, told.1))
  found (State.Sends answer) x was given to left here told enough none = absurd (omega (arith, enough, told.1))
  found (State.Refuses out status) x was given to left here told enough none = absurd (omega (arith, enough, told.1))

  pub tells_on : (calls : List Step) (x z : Session) (was s : Span) (given : Reply) (terms : Terms) (to : ℕ) (out : Outgoing) (left : Budget)
      → 16 ≤ length calls + left.turns → left.parts ≡ 0 → IsIn ch k x.state x was → IsIn ch k (State.Streams given terms to out) z s
      → HasTold x.state (State.Streams given terms to out) left → TellsOn ch k left.turns calls was s
  tells_on [] x z was s given terms to out left all none before here told =
      let enough : 16 ≤ left.turns = omega (arith, all) in
      let f = found x.state x was given to left before (told.1 enough) enough none in
      (given, f.from, to, f.stood, told_to given terms to out z s here, f.on)
  tells_on (c ∷ calls) x z was s given terms to out left all none before here told =
      (given, to, told_to given terms to out z s here, reached (leb_tells 16 left.turns))
    where
      reached : ((leb 16 left.turns ≡ true) × (16 ≤ left.turns)) ⊎ ((leb 16 left.turns ≡ false) × (left.turns < 16)) → first_place given + left.turns ≤ to
      reached (inl (tells, enough)) =
          let f = found x.state x was given to left before (told.1 enough) enough none in
          omega (arith, f.begins, f.on)
      reached (inr (tells, fewer)) = let far = told.2 fewer in omega (arith, far, none)
