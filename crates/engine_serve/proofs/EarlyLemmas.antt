-- What answers a wait whose head comes before it is over.
use Rattle.std.proofs.Common.{◌≡◌, ◌≤◌, ◌<◌, length, inl, inr, ℕ, List, [], ◌∷◌, ◌++◌, append-nil, append_assoc, refl, ap, ◌∙◌, subst, arith, Result, Ok}
use Rattle.std.specs.Prelude.{IsTrue, IsFalse}
use Rattle.engine_ports.specs.Sink.{SinkView, SinkTook, WriteSays}
use Rattle.engine_ports.specs.Source.{SourceView}
use Rattle.engine_ports.specs.Clock.{ClockView}
use Rattle.engine_ports.specs.Door.{outside}
use Rattle.engine_ports.specs.declared.ports.Failed.{Failed}
use Rattle.engine_ports.proofs.PortLemmas.{rose_since, rose_until, sink_on, written_on}
use Rattle.engine_text.specs.declared.call.Call.{Call}
use Rattle.engine_text.specs.declared.step.Step.{Step}
use Rattle.machine_model.specs.History.{Charter, IsLegal}
use Rattle.http_edge.specs.Chunks.{chunk_text, last_chunk}
use Rattle.http_edge.specs.Message.{Request}
use Rattle.api_routes.specs.Class.{class_of}
use Rattle.api_routes.specs.declared.class.Class.TheVariants.{Ask}
use Rattle.session_model.specs.declared.followed.Followed.TheVariants as F
use Rattle.session_model.specs.declared.terms.Terms.{Terms}
use Rattle.session_model.specs.declared.turned.Awaited.{Awaited}
use Rattle.session_model.specs.declared.turned.Turned.TheVariants as T
use Rattle.session_model.specs.Exchange.{Flow, is_early}
use Rattle.session_model.specs.Pass.{PassView}
use Rattle.session_model.specs.Progress.{Moves}
use Rattle.session_model.specs.Responses.{terms_of, early_head}
use Rattle.session_model.specs.Session.{Cause, is_pumped}
use Rattle.attach_hub.specs.Connection.{view_of}
use Rattle.attach_hub.specs.Waiting.{AwaitSays, AwaitsBy, IsDropped}
use Rattle.exchange_laws.specs.Answers.{IsOfEarlyWait, broken_flow, early_flow, one_chunk}
use Rattle.exchange_laws.specs.Turns.{TurnComes}
use Rattle.exchange_laws.proofs.EarlyLemmas.{waited_early}
use Rattle.engine_serve.specs.declared.went.Went.{Went}
use Rattle.engine_serve.specs.Early.{SendsBehind, HasLost, WaitsEarly, Waited, HeadWasLost}
use Rattle.engine_serve.specs.Serving.{Sends, GoesSo, Tries}
use Rattle.engine_serve.proofs.AnswerLemmas.{if_cause, if_pumped, tries}

-- ---- what was sent

its_chunk : (body : List ℕ) → 0 < length body → chunk_text body ≡ one_chunk body
its_chunk [] h = absurd (omega (arith, h))
its_chunk (b ∷ bytes) h = refl

pub behind_chunk : (body : List ℕ) (x : Unit {0}) (r : Result (Unit {0}) Failed) (u v w : SinkView) → 0 < length body
    → WriteSays (Ok x) (chunk_text body) u v → WriteSays r last_chunk v w → WriteSays r (one_chunk body ++ last_chunk) u w
behind_chunk body x r u v w some took last =
    written_on x r (one_chunk body) last_chunk u v w (subst (λ y. SinkTook u y v) (its_chunk body some) took) last

goes_behind : (result : Went) (flow : Flow) (head rest part : List ℕ) (u v w : SinkView) → u.faults ≤ v.faults
    → GoesSo flow result rest part v w → GoesSo flow result (head ++ rest) (head ++ part) u w
goes_behind Went.On flow head rest part u v w le (is, whole) = (is, ap (λ x. head ++ x) whole)
goes_behind (Went.Ends e) flow head rest part u v w le (inl (is, whole)) = inl (is, ap (λ x. head ++ x) whole)
goes_behind (Went.Ends e) flow head rest part u v w le (inr (is, (cut, front), rose)) =
    inr (is, (cut, append_assoc head part cut ∙ ap (λ x. head ++ x) front), rose_since u.faults v.faults w.faults le rose)

-- behind a head that was written
pub sends_behind : (result : Went) (flow : Flow) (head rest : List ℕ) (u v w : SinkView) → SinkTook u head v
    → Sends flow result rest v w → Sends flow result (head ++ rest) u w
sends_behind result flow head rest u v w took (part, more, goes) =
    (head ++ part, sink_on u v w head part took more, goes_behind result flow head rest part u v w took.faults goes)

pub behind_head : (terms : Terms) (awaited : Awaited) (result : Went) (head : List ℕ) (u v w : SinkView) → SinkTook u head v
    → SendsBehind terms [] awaited result v w → SendsBehind terms head awaited result u w
behind_head terms (Awaited.Replied given) result head u v w took (status, body, is, sends) =
    (status, body, is, sends_behind result _ head _ u v w took sends)
behind_head terms Awaited.Stopped result head u v w took sends =
    subst (λ x. Sends (broken_flow F.Stopped) result x u w) (append-nil head) (sends_behind result _ head [] u v w took sends)
behind_head terms Awaited.WriteFault result head u v w took sends =
    subst (λ x. Sends (broken_flow F.WriteFault) result x u w) (append-nil head) (sends_behind result _ head [] u v w took sends)
behind_head terms Awaited.NoMemory result head u v w took sends =
    subst (λ x. Sends (broken_flow F.NoMemory) result x u w) (append-nil head) (sends_behind result _ head [] u v w took sends)

-- and behind a wait, in which nothing was written
pub behind_wait : (terms : Terms) (awaited : Awaited) (result : Went) (head : List ℕ) (u v v' w : SinkView) → SinkTook u head v
    → AwaitsBy awaited v v' → SendsBehind terms [] awaited result v' w
    → SendsBehind terms head awaited result u w × HasLost awaited u w
behind_wait terms (Awaited.Replied given) result head u v v' w took same sends =
    (behind_head terms (Awaited.Replied given) result head u v w took (subst (λ x. SendsBehind terms [] (Awaited.Replied given) result x w) same sends), tt)
behind_wait terms Awaited.Stopped result head u v v' w took same sends =
    (behind_head terms Awaited.Stopped result head u v w took (subst (λ x. SendsBehind terms [] Awaited.Stopped result x w) same sends), tt)
behind_wait terms Awaited.WriteFault result head u v v' w took (none, rose) sends =
    let rest : Sends (broken_flow F.WriteFault) result [] v w = sends_behind result (broken_flow F.WriteFault) [] [] v v' w none sends in (
      behind_head terms Awaited.WriteFault result head u v w took rest,
      rose_until u.faults v'.faults w.faults (rose_since u.faults v.faults v'.faults took.faults rose) sends.1.faults,
    )
behind_wait terms Awaited.NoMemory result head u v v' w took same sends =
    (behind_head terms Awaited.NoMemory result head u v w took (subst (λ x. SendsBehind terms [] Awaited.NoMemory result x w) same sends), tt)

-- ---- the wait

-- what is sent of it is its answer
abbrev pub SentEarly : Terms → Awaited → Went → SinkView → SinkView → Type 0
SentEarly terms awaited result u u' = (whole : List ℕ) × IsOfEarlyWait terms awaited whole × Sends (early_flow terms awaited) result whole u u'

sent_early : (terms : Terms) (awaited : Awaited) (result : Went) (u u' : SinkView) → SendsBehind terms (early_head terms) awaited result u u'
    → SentEarly terms awaited result u u'
sent_early terms (Awaited.Replied given) result u u' (status, body, is, sends) = (_, (status, body, is, refl), sends)
sent_early terms Awaited.Stopped result u u' sends = (early_head terms, refl, sends)
sent_early terms Awaited.WriteFault result u u' sends = (early_head terms, refl, sends)
sent_early terms Awaited.NoMemory result u u' sends = (early_head terms, refl, sends)

-- one that was stopped is a stop that the clock told, and a peer that is gone a fault of the sink
early_cause : (ch : Charter) (k n : ℕ) (a b : List Step) (terms : Terms) (awaited : Awaited) (ms : List ℕ) (u u' : SinkView) (t v w : ClockView)
    → AwaitSays ch k n a b awaited ms v w → HasLost awaited u u' → t.stops ≤ v.stops
    → (s s' : SourceView) → Cause (early_flow terms awaited) (outside s u t) (outside s' u' w)
early_cause ch k n a b terms (Awaited.Replied given) ms u u' t v w says lost le s s' = if_cause terms.close (outside s u t) (outside s' u' w)
early_cause ch k n a b terms Awaited.Stopped ms u u' t v w says lost le s s' = (rose_since t.stops v.stops w.stops le says.1, tt)
early_cause ch k n a b terms Awaited.WriteFault ms u u' t v w says rose le s s' = (rose, tt)
early_cause ch k n a b terms Awaited.NoMemory ms u u' t v w says lost le s s' = (tt, tt)

early_pumped : (terms : Terms) (awaited : Awaited) → IsFalse (is_pumped (early_flow terms awaited))
early_pumped terms (Awaited.Replied given) = if_pumped terms.close
early_pumped terms Awaited.Stopped = refl
early_pumped terms Awaited.WriteFault = refl
early_pumped terms Awaited.NoMemory = refl

early_so : {i : ℕ} {l1 : ℕ × ℕ × ℕ} {l2 : ℕ × ℕ × ℕ} (k handed n : ℕ) (r : Request) (c : Call) (awaited : Awaited) (result : Went) (p q s : PassView) (u u' : SinkView) (v w x : ClockView)
    → class_of r ≡ Ask c → IsTrue (is_early r c) → TurnComes k handed c (T.Begun n) p q v w → IsLegal p.charter q.seen
    → (last : Moves k q s w x) → AwaitSays p.charter k n q.seen s.seen awaited last.handed w x
    → SendsBehind (terms_of r) (early_head (terms_of r)) awaited result u u' → HasLost awaited u u' → Tries r result (view_of k l1 p u v) (view_of i l2 s u' x)
early_so k handed n r c awaited result p q s u u' v w x class early first legal last says sends lost =
    let sent : SentEarly (terms_of r) awaited result u u' = sent_early (terms_of r) awaited result u u' sends in
    tries k r (early_flow (terms_of r) awaited) result sent.0 p s u u' v x sent.2
    (early_cause p.charter k n q.seen s.seen (terms_of r) awaited last.handed u u' v w x says lost first.moves.clock.stops)
    (early_pumped (terms_of r) awaited)
    (waited_early k handed n r c awaited sent.0 p q s v w x class early first legal last says sent.1)

-- where the head wasn't written, the ticket was dropped as for a peer that is gone
pub early_by : {i : ℕ} {j : ℕ} {l1 : ℕ × ℕ × ℕ} {l2 : ℕ × ℕ × ℕ} {l3 : ℕ × ℕ × ℕ} {l4 : ℕ × ℕ × ℕ} (k handed n : ℕ) (r : Request) (c : Call) (result : Went) (p q s : PassView) (u u' : SinkView) (v w x : ClockView)
    → class_of r ≡ Ask c → IsTrue (is_early r c) → TurnComes k handed c (T.Begun n) p q v w
    → IsLegal q.charter q.seen → WaitsEarly n (terms_of r) result (view_of k l3 q u w) (view_of j l4 s u' x)
    → Tries r result (view_of k l1 p u v) (view_of i l2 s u' x)
early_by k handed n r c result p q s u u' v w x class early first legal (Waited awaited moves says sends lost) =
    early_so k handed n r c awaited result p q s u u' v w x class early first (subst (λ ch. IsLegal ch q.seen) first.moves.stays.charter legal) moves
    (subst (λ ch. AwaitSays ch k n q.seen s.seen awaited moves.handed w x) first.moves.stays.charter says) sends lost
early_by k handed n r c result p q s u u' v w x class early first legal (HeadWasLost dropped moves rose sends) =
    early_so k handed n r c Awaited.WriteFault result p q s u u' v w x class early first (subst (λ ch. IsLegal ch q.seen) first.moves.stays.charter legal) moves
    (subst (λ ch. IsDropped ch k n q.seen s.seen) first.moves.stays.charter dropped) sends rose
