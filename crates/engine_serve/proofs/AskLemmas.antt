-- What answers a request, by what its connection stands on: x before a turn, y behind it, and z is y as it is seen from inside.
use Rattle.std.proofs.Common.{◌≡◌, ℕ, inr, refl, sym, ◌∙◌, ap, subst, [], Bool, true, Some, Err}
use Rattle.std.specs.Prelude.{IsTrue, IsFalse}
use Rattle.engine_ports.specs.Sink.{SinkView, SinkTook, WriteSays}
use Rattle.engine_ports.specs.declared.ports.Failed.{Failed}
use Rattle.engine_text.specs.declared.call.Call.{Call}
use Rattle.engine_text.specs.declared.reply.LogSpec.{LogSpec}
use Rattle.engine_text.specs.declared.reply.Reply.{Reply}
use Rattle.machine_model.specs.Statuses.{ends_ticket}
use Rattle.http_edge.specs.Message.{Request}
use Rattle.http_edge.specs.declared.head.Form.{Form}
use Rattle.api_routes.specs.Class.{class_of}
use Rattle.api_routes.specs.RouteClass.{takeover}
use Rattle.api_routes.specs.declared.class.Class.TheVariants.{Direct, Ask, Stream}
use Rattle.api_routes.specs.declared.class.DirectAnswer.{DirectAnswer}
use Rattle.api_routes.specs.declared.class.Takeover.{Takeover}
use Rattle.session_model.specs.declared.ending.Ending.{Ending}
use Rattle.session_model.specs.declared.followed.Followed.{Followed}
use Rattle.session_model.specs.declared.terms.Terms.{Terms}
use Rattle.session_model.specs.declared.turned.Awaited.{Awaited}
use Rattle.session_model.specs.declared.turned.Turned.{Turned}
use Rattle.session_model.specs.declared.turned.Turned.TheVariants as T
use Rattle.session_model.specs.Exchange.{call_of, flow_of, is_early}
use Rattle.session_model.specs.Pass.{IsNumber}
use Rattle.session_model.specs.Progress.{Moves}
use Rattle.session_model.specs.Responses.{terms_of, chunked_form, early_head, journal_full_response, out_of_memory_response}
use Rattle.session_model.specs.Turning.{HasBegun}
use Rattle.attach_hub.specs.Connection.{ConnectionView, HasNumbers, TakesTurn, Who}
use Rattle.attach_hub.specs.Following.{Follows}
use Rattle.attach_hub.specs.Waiting.{AwaitSays, Awaits, Drops}
use Rattle.exchange_laws.specs.Kinds.{IsAttaching, IsStreamed, stream_of}
use Rattle.exchange_laws.specs.Turns.{TurnComes}
use Rattle.exchange_laws.proofs.AttachLemmas.{attach_follows, attach_made, ends_none}
use Rattle.exchange_laws.proofs.CallLemmas.{no_drop, ticket_begun}
use Rattle.exchange_laws.proofs.ReplyLemmas.{streams_end_none}
use Rattle.exchange_laws.proofs.TurnLemmas.{turn_comes}
use Rattle.engine_serve.specs.declared.went.Went.{Went}
use Rattle.engine_serve.specs.Answering.{SendsAwaited, SendsDirect, SendsReply, WasAnswered}
use Rattle.engine_serve.specs.Early.{SendsBehind, WaitsEarly, Waited, HeadWasLost}
use Rattle.engine_serve.specs.Overtaking.{OpensOver}
use Rattle.engine_serve.specs.Serving.{Sends, Tries}
use Rattle.engine_serve.specs.Streaming.{EndsStream, SendsStream}
use Rattle.engine_serve.proofs.AnswerLemmas.{direct, full, no_memory, replied, sent_since, unclassed, waited_so}
use Rattle.engine_serve.proofs.EarlyLemmas.{behind_wait, early_by}
use Rattle.engine_serve.proofs.StreamLemmas.{head_by, stream_lost, stream_sent, streamed}

-- ---- by a turn

-- the numbers stay
pub turned_numbers : (c : Call) (r : Turned) (x y : ConnectionView) → HasNumbers x → TakesTurn c r x y → HasNumbers y
turned_numbers c r x y has t = record {
  number = subst (λ (w : Who). IsNumber y.pass.number w.number) (sym (ap (λ (v : ConnectionView). v.who) t.same))
      (subst (λ n. IsNumber n x.who.number) (sym t.turn.turns.stays.number) has.number);
  pair = subst IsTrue (sym t.turn.turns.stays.pair) has.pair;
}

-- it came to that
comes_at : (c : Call) (result : Turned) (x y : ConnectionView) → HasNumbers x → IsFalse (ends_ticket c) → (t : TakesTurn c result x y)
    → TurnComes x.who.number t.handed c result x.pass y.pass x.clock y.clock
comes_at c result x y has kind t =
    turn_comes x.who.number t.handed c result x.pass y.pass x.clock y.clock has.pair (no_drop c kind) t.clock t.turn

pub replied_at : (r : Request) (terms : Terms) (c : Call) (given : Reply) (result : Went) (x y z : ConnectionView) (u : SinkView) → terms ≡ terms_of r
    → HasNumbers x → call_of (class_of r) ≡ Some c → IsFalse (ends_ticket c) → TakesTurn c (T.Replied given) x y → z ≡ y
    → SendsReply terms given result z.sink u → Tries r result x (record z { sink = u })
replied_at r terms c given result x y z u is has class kind t same sends =
    let at : z ≡ record x { pass = y.pass; clock = y.clock } = same ∙ t.same in
    subst (λ v. Tries r result x (record v { sink = u })) (sym at)
    (replied x.who.number t.handed r c given result x.pass y.pass x.sink u x.clock y.clock class (comes_at c (T.Replied given) x y has kind t)
    (subst (λ o. SendsReply o given result x.sink u) is (subst (λ (v : ConnectionView). SendsReply terms given result v.sink u) at sends)))

pub full_at : (r : Request) (terms : Terms) (c : Call) (result : Went) (x y z : ConnectionView) (u : SinkView) → terms ≡ terms_of r → HasNumbers x
    → call_of (class_of r) ≡ Some c → IsFalse (ends_ticket c) → TakesTurn c T.JournalFull x y → z ≡ y → Sends (flow_of terms) result (journal_full_response terms) z.sink u
    → Tries r result x (record z { sink = u })
full_at r terms c result x y z u is has class kind t same sends =
    let at : z ≡ record x { pass = y.pass; clock = y.clock } = same ∙ t.same in
    subst (λ v. Tries r result x (record v { sink = u })) (sym at)
    (full x.who.number t.handed r c result x.pass y.pass x.sink u x.clock y.clock class (comes_at c T.JournalFull x y has kind t)
    (subst (λ o. Sends (flow_of o) result (journal_full_response o) x.sink u) is
    (subst (λ (v : ConnectionView). Sends (flow_of terms) result (journal_full_response terms) v.sink u) at sends)))

pub short_at : (r : Request) (terms : Terms) (c : Call) (result : Went) (x y z : ConnectionView) (u : SinkView) → terms ≡ terms_of r → HasNumbers x
    → call_of (class_of r) ≡ Some c → IsFalse (ends_ticket c) → TakesTurn c T.NoMemory x y → z ≡ y → Sends (flow_of terms) result (out_of_memory_response terms) z.sink u
    → Tries r result x (record z { sink = u })
short_at r terms c result x y z u is has class kind t same sends =
    let at : z ≡ record x { pass = y.pass; clock = y.clock } = same ∙ t.same in
    subst (λ v. Tries r result x (record v { sink = u })) (sym at)
    (no_memory x.who.number t.handed r c result x.pass y.pass x.sink u x.clock y.clock class (comes_at c T.NoMemory x y has kind t)
    (subst (λ o. Sends (flow_of o) result (out_of_memory_response o) x.sink u) is
    (subst (λ (v : ConnectionView). Sends (flow_of terms) result (out_of_memory_response terms) v.sink u) at sends)))

-- ---- without a turn: z is x as it is seen from inside

pub decided_at : (r : Request) (terms : Terms) (answer : DirectAnswer) (result : Went) (x z : ConnectionView) (u : SinkView) → terms ≡ terms_of r
    → class_of r ≡ Direct answer → z ≡ x → SendsDirect terms answer result z.sink u → Tries r result x (record z { sink = u })
decided_at r terms answer result x z u is class same sends =
    subst (λ v. Tries r result v (record z { sink = u })) same
    (direct z.who.number r answer result z.pass z.sink u z.clock class (subst (λ o. SendsDirect o answer result z.sink u) is sends))

pub undecided_at : (r : Request) (terms : Terms) (result : Went) (x z : ConnectionView) (u : SinkView) → terms ≡ terms_of r → z ≡ x
    → Sends (flow_of terms) result (out_of_memory_response terms) z.sink u → Tries r result x (record z { sink = u })
undecided_at r terms result x z u is same sends =
    subst (λ v. Tries r result v (record z { sink = u })) same
    (unclassed z.who.number r result z.pass z.sink u z.clock (subst (λ o. Sends (flow_of o) result (out_of_memory_response o) z.sink u) is sends))

-- ---- by a ticket

pub begun_at : (n : ℕ) (c : Call) (x y : ConnectionView) → HasNumbers x → IsFalse (ends_ticket c) → TakesTurn c (T.Begun n) x y
    → HasBegun y.pass.charter y.who.number n y.pass.seen
begun_at n c x y has kind t =
    subst (λ (w : Who). HasBegun y.pass.charter w.number n y.pass.seen) (sym (ap (λ (v : ConnectionView). v.who) t.same))
    (ticket_begun x.who.number t.handed n c x.pass y.pass x.clock y.clock (comes_at c (T.Begun n) x y has kind t))

-- as it is seen from inside
pub begun_inside : (n : ℕ) (x x' : ConnectionView) → x' ≡ x → HasBegun x.pass.charter x.who.number n x.pass.seen
    → HasBegun x'.pass.charter x'.who.number n x'.pass.seen
begun_inside n x x' same begun = subst (λ (v : ConnectionView). HasBegun v.pass.charter v.who.number n v.pass.seen) (sym same) begun

-- what it came to is a whole answer, if it is a reply
pub was_answered : (n : ℕ) (awaited : Awaited) (x y : ConnectionView) → Awaits n awaited x y → WasAnswered awaited
was_answered n (Awaited.Replied given) x y awaits = awaits.says.4
was_answered n Awaited.Stopped x y awaits = tt
was_answered n Awaited.WriteFault x y awaits = tt
was_answered n Awaited.NoMemory x y awaits = tt

-- a wait from y to y2, of which z is seen from inside
pub waited_at : (n : ℕ) (r : Request) (terms : Terms) (c : Call) (awaited : Awaited) (result : Went) (x y y2 z : ConnectionView) (u : SinkView)
    → terms ≡ terms_of r → HasNumbers x → class_of r ≡ Ask c → IsFalse (ends_ticket c) → IsFalse (is_early r c) → TakesTurn c (T.Begun n) x y
    → Awaits n awaited y y2 → z ≡ y2 → SendsAwaited terms awaited result z.sink u → Tries r result x (record z { sink = u })
waited_at n r terms c awaited result x y y2 z u is has class kind late t awaits same sends =
    let k : ℕ = x.who.number in
    let waits : Awaits n awaited (record x { pass = y.pass; clock = y.clock }) y2 = subst (λ v. Awaits n awaited v y2) t.same awaits in
    subst (λ v. Tries r result x (record v { sink = u })) (sym same)
    (waited_so k t.handed n r c awaited result x.pass y.pass y2.pass x.sink u x.clock y.clock y2.clock class late
    (comes_at c (T.Begun n) x y has kind t) waits.moves
    (subst (λ ch. AwaitSays ch k n y.pass.seen y2.pass.seen awaited waits.moves.handed y.clock y2.clock) t.turn.turns.stays.charter waits.says)
    (sent_since (terms_of r) awaited result x.sink y2.sink u waits.sink
    (subst (λ o. SendsAwaited o awaited result y2.sink u) is (subst (λ (v : ConnectionView). SendsAwaited terms awaited result v.sink u) same sends))))

pub waited_early_at : (n : ℕ) (r : Request) (terms : Terms) (c : Call) (result : Went) (x y z : ConnectionView) → terms ≡ terms_of r → HasNumbers x
    → class_of r ≡ Ask c → IsFalse (ends_ticket c) → IsTrue (is_early r c) → TakesTurn c (T.Begun n) x y → WaitsEarly n terms result y z
    → Tries r result x z
waited_early_at n r terms c result x y z is has class kind early t waits =
    early_by x.who.number t.handed n r c result x.pass y.pass z.pass x.sink z.sink x.clock y.clock z.clock class early
    (comes_at c (T.Begun n) x y has kind t) t.turn.turns.legal
    (subst (λ o. WaitsEarly n o result (record x { pass = y.pass; clock = y.clock }) z) is (subst (λ v. WaitsEarly n terms result v z) t.same waits))

-- ---- a wait whose head comes early: x' is x as it is seen from inside, and y behind the wait

pub early_at : (n : ℕ) (terms : Terms) (awaited : Awaited) (result : Went) (x x' y z : ConnectionView) (u w : SinkView) → x' ≡ x
    → SinkTook x'.sink (early_head terms) u → Awaits n awaited (record x' { sink = u }) y → z ≡ y → SendsBehind terms [] awaited result z.sink w
    → WaitsEarly n terms result x (record z { sink = w })
early_at n terms awaited result x x' y z u w is took awaits same sends =
    let says = behind_wait terms awaited result (early_head terms) x'.sink u y.sink w took awaits.sink
    (subst (λ (v : ConnectionView). SendsBehind terms [] awaited result v.sink w) same sends) in
    subst (λ v. WaitsEarly n terms result v (record z { sink = w })) is
    (subst (λ v. WaitsEarly n terms result x' (record v { sink = w })) (sym same) (Waited awaited awaits.moves awaits.says says.0 says.1))

pub early_lost : (n : ℕ) (terms : Terms) (f : Failed) (x x' y : ConnectionView) (u : SinkView) → x' ≡ x
    → WriteSays (Err f) (early_head terms) x'.sink u → Drops n (record x' { sink = u }) y → WaitsEarly n terms (Went.Ends Ending.WriteFault) x y
early_lost n terms f x x' y u is (part, front, took, rose) d =
    subst (λ v. WaitsEarly n terms (Went.Ends Ending.WriteFault) v y) is
    (subst (WaitsEarly n terms (Went.Ends Ending.WriteFault) x') (sym d.same)
    (HeadWasLost d.made (subst (Moves x'.who.number x'.pass y.pass x'.clock) (ap (λ (v : ConnectionView). v.clock) d.same) d.moves) rose
    (part, took, inr (refl, front, rose))))

-- ---- a stream in chunks

pub lost_at : (terms : Terms) (given : Reply) (form : Form) (f : Failed) (x x' : ConnectionView) (u : SinkView) → x' ≡ x → chunked_form given ≡ Some form
    → WriteSays (Err f) (head_by terms form) x'.sink u → SendsStream terms given (Went.Ends Ending.WriteFault) x (record x' { sink = u })
lost_at terms given form f x x' u same is says =
    subst (λ v. SendsStream terms given (Went.Ends Ending.WriteFault) v (record x' { sink = u })) same
    (stream_lost x'.who.number terms given form f x'.pass x'.sink u x'.clock is says)

pub sent_at : (terms : Terms) (given : Reply) (form : Form) (f : Followed) (result : Went) (x x' y z : ConnectionView) (u w : SinkView) → x' ≡ x
    → HasNumbers x → chunked_form given ≡ Some form → SinkTook x'.sink (head_by terms form) u → Follows given true f (record x' { sink = u }) y
    → z ≡ y → EndsStream terms f result z.sink w → SendsStream terms given result x (record z { sink = w })
sent_at terms given form f result x x' y z u w is has chunked took follows same ends =
    subst (λ v. SendsStream terms given result v (record z { sink = w })) is
    (subst (λ v. SendsStream terms given result x' (record v { sink = w })) (sym same)
    (stream_sent x'.who.number terms given form f result x'.pass y.pass x'.sink u y.sink w x'.clock y.clock
    (subst (λ (v : ConnectionView). IsTrue v.pass.pair) (sym is) has.pair) chunked took follows
    (subst (λ (v : ConnectionView). EndsStream terms f result v.sink w) same ends)))

pub streamed_at : (r : Request) (terms : Terms) (c : Call) (given : Reply) (form : Form) (result : Went) (x y z : ConnectionView) → terms ≡ terms_of r
    → HasNumbers x → class_of r ≡ Stream c Takeover.None → IsStreamed c → chunked_form given ≡ Some form → TakesTurn c (T.Replied given) x y
    → SendsStream terms given result y z → Tries r result x z
streamed_at r terms c given form result x y z is has class streams some t sends =
    streamed x.who.number t.handed r c given form result x.pass y.pass z.pass x.sink z.sink x.clock y.clock z.clock class some
    (comes_at c (T.Replied given) x y has (streams_end_none c streams) t)
    (subst (λ o. SendsStream o given result (record x { pass = y.pass; clock = y.clock }) z) is (subst (λ v. SendsStream terms given result v z) t.same sends))

-- ---- a takeover begins

pub opened_at : (r : Request) (c : Call) (upgrade : Bool) (given : Reply) (spec : LogSpec) (x y : ConnectionView) → HasNumbers x
    → class_of r ≡ Stream c (takeover upgrade) → IsAttaching c → stream_of given ≡ Some spec → TakesTurn c (T.Replied given) x y
    → OpensOver r upgrade spec x y × (y.sink ≡ x.sink)
opened_at r c upgrade given spec x y has class attaching is t =
    let k : ℕ = x.who.number in
    let comes : TurnComes k t.handed c (T.Replied given) x.pass y.pass x.clock y.clock = comes_at c (T.Replied given) x y has (ends_none c attaching) t in (
      record {
        call = c;
        class = class;
        handed = t.handed;
        made = attach_made k t.handed c given spec x.pass y.pass x.clock y.clock is comes;
        may = attach_follows k t.handed c given spec x.pass y.pass attaching is t.turn;
        moves = comes.moves;
        one = comes.one;
      },
      ap (λ (v : ConnectionView). v.sink) t.same,
    )
