-- Waiting for a ticket goes on and ends, by what its connection stands on.
use Rattle.std.proofs.Common.{◌≡◌, ◌⊎◌, ℕ, [], refl, sym, ◌∙◌, ap, subst, Some}
use Rattle.std.specs.Prelude.{IsTrue}
use Rattle.engine_ports.specs.Rose.{Rose}
use Rattle.engine_ports.specs.Clock.{ClockView, ClockStood}
use Rattle.engine_ports.specs.Sink.{SinkView, SinkTook}
use Rattle.engine_text.specs.declared.call.Call.TheVariants.{Take, Drop}
use Rattle.engine_text.specs.declared.reply.Reply.{Reply}
use Rattle.session_model.specs.declared.turned.Turned.{Turned}
use Rattle.session_model.specs.declared.turned.Turned.TheVariants as T
use Rattle.session_model.specs.declared.turned.Awaited.TheVariants as A
use Rattle.session_model.specs.Pass.{PassView, IsNumber}
use Rattle.session_model.specs.Progress.{Moves}
use Rattle.session_model.specs.Turning.{HasBegun, MayAsk, Turn}
use Rattle.attach_hub.specs.Connection.{ConnectionView, HasNumbers, TakesTurn, Who}
use Rattle.attach_hub.specs.Polling.{PollSays}
use Rattle.attach_hub.specs.Waiting.{Awaits, Drops}
use Rattle.attach_hub.specs.declared.polling.Polled.TheVariants.{Again, Stopped, WriteFault}
use Rattle.attach_hub.proofs.WaitLemmas.{GivesUp, Rests, begun_rests, drop_never, drop_says, given_up, no_memory, not_yet, rests_on, rests_pause, rests_same, stopped, take_never, taken, unread, unread_by}

-- where the connection rests, with a ticket that it has begun
pub record Waits (n : ℕ) (x y : ConnectionView) : Type 0 where
  pub who : y.who ≡ x.who
  pub numbers : HasNumbers y
  pub begun : HasBegun y.pass.charter y.who.number n y.pass.seen
  pub sink : y.sink ≡ x.sink
  pub rests : Rests x.who.number x.pass y.pass x.clock y.clock

pub waits : (n : ℕ) (x : ConnectionView) → HasNumbers x → HasBegun x.pass.charter x.who.number n x.pass.seen → Waits n x x
waits n x numbers begun = record { who = refl; numbers = numbers; begun = begun; sink = refl; rests = rests_same x.who.number x.pass x.clock }

-- it rests further
rests_more : (n : ℕ) (x y z : ConnectionView) → Waits n x y → z ≡ record y { pass = z.pass; clock = z.clock }
    → Rests y.who.number y.pass z.pass y.clock z.clock → Waits n x z
rests_more n x y z w same rests =
    let who : z.who ≡ y.who = ap (λ (v : ConnectionView). v.who) same in
    let stays = rests.moves.stays in record {
      who = who ∙ w.who;
      numbers = record {
        number = subst (λ (v : Who). IsNumber z.pass.number v.number) (sym who) (subst (λ n. IsNumber n y.who.number) (sym stays.number) w.numbers.number);
        pair = subst IsTrue (sym stays.pair) w.numbers.pair;
      };
      begun = subst (λ (v : Who). HasBegun z.pass.charter v.number n z.pass.seen) (sym who) (begun_rests y.who.number n y.pass z.pass y.clock z.clock w.begun rests);
      sink = ap (λ (v : ConnectionView). v.sink) same ∙ w.sink;
      rests = rests_on x.who.number x.pass y.pass z.pass x.clock y.clock z.clock w.rests (subst (λ (v : Who). Rests v.number y.pass z.pass y.clock z.clock) w.who rests);
    }

-- the ticket isn't ready yet
pub waits_on : (n : ℕ) (x y z : ConnectionView) → Waits n x y → TakesTurn (Take n) T.NotYet y z → Waits n x z
waits_on n x y z w t =
    rests_more n x y z w t.same (not_yet y.who.number t.handed n y.pass z.pass y.clock z.clock w.numbers.pair t.clock t.turn)

pub waits_short : (n : ℕ) (x y z : ConnectionView) → Waits n x y → TakesTurn (Take n) T.NoMemory y z → Waits n x z
waits_short n x y z w t =
    rests_more n x y z w t.same (no_memory y.who.number t.handed n y.pass z.pass y.clock z.clock w.numbers.pair t.clock t.turn)

pub waits_pause : (n : ℕ) (x y z : ConnectionView) → Waits n x y → PollSays Again y z → Waits n x z
waits_pause n x y z w (same, stood) =
    subst (Waits n x) (sym same) (record {
      who = w.who;
      numbers = record { number = w.numbers.number; pair = w.numbers.pair };
      begun = w.begun;
      sink = w.sink;
      rests = rests_pause x.who.number x.pass y.pass x.clock y.clock z.clock w.rests stood;
    })

-- the peer is gone, and the ticket is still to be dropped
pub unread_numbers : (n : ℕ) (x y z : ConnectionView) → Waits n x y → PollSays WriteFault y z → HasNumbers z
unread_numbers n x y z w (same, took, rose) = subst HasNumbers (sym same) (record { number = w.numbers.number; pair = w.numbers.pair })

pub unread_begun : (n : ℕ) (x y z : ConnectionView) → Waits n x y → PollSays WriteFault y z → HasBegun z.pass.charter z.who.number n z.pass.seen
unread_begun n x y z w (same, took, rose) = subst (λ (v : ConnectionView). HasBegun v.pass.charter v.who.number n v.pass.seen) (sym same) w.begun

-- behind a clock that stopped it is
pub stopped_waits : (n : ℕ) (x y z : ConnectionView) → Waits n x y → PollSays Stopped y z → Waits n x z
stopped_waits n x y z w (same, stood, rose) = waits_pause n x y z w (same, stood)

-- ---- it ends

-- the drop, of the connection that waited
given : (k n : ℕ) (x y : ConnectionView) → x.who.number ≡ k → Drops n x y → GivesUp k n x.pass y.pass x.clock
given k n x y is d =
    subst (λ m. GivesUp m n x.pass y.pass x.clock) is
    (record { made = d.made; moves = subst (Moves x.who.number x.pass y.pass x.clock) (ap (λ (v : ConnectionView). v.clock) d.same) d.moves })

pub ends_replied : (n : ℕ) (r : Reply) (x y z : ConnectionView) → Waits n x y → TakesTurn (Take n) (T.Replied r) y z → Awaits n (A.Replied r) x z
ends_replied n r x y z w t =
    let so = taken x.who.number t.handed n r x.pass y.pass z.pass x.clock y.clock z.clock w.numbers.pair w.rests t.clock
    (subst (λ (v : Who). Turn v.number t.handed (Some (Take n)) (T.Replied r) y.pass z.pass) w.who t.turn) in
    record { moves = so.moves; says = so.says; sink = ap (λ (v : ConnectionView). v.sink) t.same ∙ w.sink }

pub ends_short : (n : ℕ) (x y z : ConnectionView) → Waits n x y → Drops n y z → Awaits n A.NoMemory x z
ends_short n x y z w d =
    let so = given_up x.who.number n x.pass y.pass z.pass x.clock y.clock w.rests (given x.who.number n y z (ap (λ (v : Who). v.number) w.who) d) in
    subst (Awaits n A.NoMemory x) (sym d.same) (record { moves = so.moves; says = so.says; sink = w.sink })

-- of a clock that was stopped
stopped_by : (n : ℕ) (x y z : ConnectionView) (v : ClockView) → Waits n x y → ClockStood y.clock v → Rose y.clock.stops v.stops
    → Drops n (record y { clock = v }) z → Awaits n A.Stopped x z
stopped_by n x y z v w stood rose d =
    let so = stopped x.who.number n x.pass y.pass z.pass x.clock y.clock v w.rests stood rose
    (given x.who.number n (record y { clock = v }) z (ap (λ (o : Who). o.number) w.who) d) in
    subst (Awaits n A.Stopped x) (sym d.same) (record { moves = so.moves; says = so.says; sink = w.sink })

pub ends_stopped : (n : ℕ) (x y y' z : ConnectionView) → Waits n x y → PollSays Stopped y y' → Drops n y' z → Awaits n A.Stopped x z
ends_stopped n x y y' z w (same, stood, rose) d = stopped_by n x y z y'.clock w stood rose (subst (λ v. Drops n v z) same d)

-- of a peer that is gone
unread_to : (n : ℕ) (x y z : ConnectionView) (u : SinkView) → Waits n x y → SinkTook y.sink [] u → Rose y.sink.faults u.faults
    → Drops n (record y { sink = u }) z → Awaits n A.WriteFault x z
unread_to n x y z u w took rose d =
    let so = unread x.who.number n x.pass y.pass z.pass x.clock y.clock w.rests
    (given x.who.number n (record y { sink = u }) z (ap (λ (v : Who). v.number) w.who) d) in
    subst (Awaits n A.WriteFault x) (sym d.same) (record { moves = so.moves; says = so.says; sink = unread_by x.sink y.sink u w.sink took rose })

pub ends_unread : (n : ℕ) (x y y' z : ConnectionView) → Waits n x y → PollSays WriteFault y y' → Drops n y' z → Awaits n A.WriteFault x z
ends_unread n x y y' z w (same, took, rose) d = unread_to n x y z y'.sink w took rose (subst (λ v. Drops n v z) same d)

-- ---- what a take never comes to

pub never : (n : ℕ) (r : Turned) (x y : ConnectionView) → TakesTurn (Take n) r x y
    → ((m : ℕ) × (r ≡ T.Begun m)) ⊎ ((r ≡ T.Nothing) ⊎ (r ≡ T.JournalFull)) → ⊥
never n r x y t other = take_never x.who.number t.handed n r x.pass y.pass t.turn other

-- ---- a take and a drop

pub take_may : (n : ℕ) (x : ConnectionView) → HasBegun x.pass.charter x.who.number n x.pass.seen
    → MayAsk x.pass.charter x.who.number x.pass.seen (Some (Take n))
take_may n x begun = (refl, begun)

pub drop_may : (n : ℕ) (x y : ConnectionView) → x ≡ y → HasBegun y.pass.charter y.who.number n y.pass.seen
    → MayAsk x.pass.charter x.who.number x.pass.seen (Some (Drop n))
drop_may n x y is begun = (refl, subst (λ (v : ConnectionView). HasBegun v.pass.charter v.who.number n v.pass.seen) (sym is) begun)

-- x is seen from inside
pub drops : (n : ℕ) (r : Reply) (x y : ConnectionView) (q : PassView) → x ≡ y → HasNumbers y
    → Turn x.who.number 0 (Some (Drop n)) (T.Replied r) x.pass q → Drops n y (record x { pass = q })
drops n r x y q is numbers turn =
    let pair : IsTrue x.pass.pair = subst (λ (v : ConnectionView). IsTrue v.pass.pair) (sym is) numbers.pair in
    let so = drop_says x.who.number n 0 r x.pass q x.clock pair turn in
    subst (λ v. Drops n v (record x { pass = q })) is (record { made = so.made; moves = so.moves; same = refl })

pub drops_never : (n : ℕ) (r : Turned) (k : ℕ) (p q : PassView) → Turn k 0 (Some (Drop n)) r p q
    → ((m : ℕ) × (r ≡ T.Begun m)) ⊎ ((r ≡ T.NotYet) ⊎ ((r ≡ T.Nothing) ⊎ ((r ≡ T.JournalFull) ⊎ (r ≡ T.NoMemory)))) → ⊥
drops_never n r k p q turn other = drop_never k 0 n r p q turn other
