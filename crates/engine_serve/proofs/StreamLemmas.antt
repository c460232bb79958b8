-- What answers a request for a log, for events or for the journal: the stream that its call gives, by chunks, or its refusal.
use Rattle.std.proofs.Common.{◌≡◌, inl, inr, ℕ, List, [], ◌∷◌, ◌++◌, append-nil, append_assoc, refl, sym, ◌∙◌, ap, subst, arith, Bool, true, false, if◌then◌else◌, Some, None, Err}
use Rattle.std.specs.Prelude.{IsSome, IsTrue, unwrap_or}
use Rattle.engine_ports.specs.Sink.{SinkView, SinkTook, IsFront, WriteSays}
use Rattle.engine_ports.specs.Source.{SourceView}
use Rattle.engine_ports.specs.Clock.{ClockView}
use Rattle.engine_ports.specs.Door.{outside}
use Rattle.engine_ports.specs.declared.ports.Failed.{Failed}
use Rattle.engine_ports.proofs.PortLemmas.{rose_since, sink_on}
use Rattle.engine_text.specs.declared.call.Call.{Call}
use Rattle.engine_text.specs.declared.reply.Reply.{Reply}
use Rattle.engine_text.specs.declared.step.Step.{Step}
use Rattle.machine_model.specs.History.{Charter}
use Rattle.http_edge.specs.Chunks.{last_chunk}
use Rattle.http_edge.specs.Message.{Request}
use Rattle.http_edge.specs.Response.{head_text}
use Rattle.http_edge.specs.declared.head.Form.{Form}
use Rattle.api_routes.specs.Class.{class_of}
use Rattle.api_routes.specs.declared.class.Class.TheVariants.{Stream}
use Rattle.api_routes.specs.declared.class.Takeover.{Takeover}
use Rattle.session_model.specs.declared.ending.Ending.{Ending}
use Rattle.session_model.specs.declared.followed.Followed.{Followed}
use Rattle.session_model.specs.declared.followed.Followed.TheVariants as F
use Rattle.session_model.specs.declared.terms.Terms.{Terms}
use Rattle.session_model.specs.declared.turned.Turned.TheVariants as T
use Rattle.session_model.specs.Exchange.{Flow, Leaves, flow_behind, flow_of, is_whole, IsBody, IsMadeAt, IsQuiet, IsAnswered, InChunks, OfStream, HeadIsLost}
use Rattle.session_model.specs.Moments.{ComesTo}
use Rattle.session_model.specs.Pass.{PassView}
use Rattle.session_model.specs.Responses.{chunked_form, terms_of, head_of_stream}
use Rattle.session_model.specs.Session.{FollowCause, IsWritten}
use Rattle.session_model.proofs.CauseLemmas.{IsLater, cause_since}
use Rattle.session_model.proofs.HistoryLemmas.{quiet_same}
use Rattle.session_model.proofs.TurnLemmas.{moves_on, moves_same}
use Rattle.attach_hub.specs.Following.{Follows}
use Rattle.attach_hub.proofs.TellLemmas.{ends_whole}
use Rattle.exchange_laws.specs.Turns.{TurnComes}
use Rattle.exchange_laws.proofs.AnswerLemmas.{as_told}
use Rattle.engine_serve.specs.declared.went.Went.{Went}
use Rattle.engine_serve.specs.Serving.{Sends, Tries}
use Rattle.engine_serve.specs.Streaming.{EndsStream, IsSentAs, SendsStream}
use Rattle.engine_serve.proofs.EarlyLemmas.{sends_behind}
use Rattle.engine_serve.proofs.AnswerLemmas.{if_cause, if_pumped}
use Rattle.attach_hub.specs.Connection.{view_of}

-- ---- what was sent of the stream

abbrev head_of : Terms → Reply → List ℕ
head_of terms x = head_of_stream terms Takeover.None x

-- the head of this form is the stream's
abbrev pub head_by : Terms → Form → List ℕ
head_by terms form = head_text (record { status = 200; form = form; close = terms.close })

head_is : (terms : Terms) (x : Reply) (form : Form) → chunked_form x ≡ Some form → head_by terms form ≡ head_of terms x
head_is terms x form is = ap (λ o. head_by terms (unwrap_or o Form.Empty)) (sym is)

-- the head's write failed
lost : {i : ℕ} {l1 : ℕ × ℕ × ℕ} {l2 : ℕ × ℕ × ℕ} (k : ℕ) (terms : Terms) (x : Reply) (f : Failed) (p : PassView) (u u' : SinkView) (t : ClockView)
    → WriteSays (Err f) (head_of terms x) u u' → SendsStream terms x (Went.Ends Ending.WriteFault) (view_of k l1 p u t) (view_of i l2 p u' t)
unfolding moves_same
lost k terms x f p u u' t (part, front, took, rose) = record {
  flow = Leaves F.WriteFault None;
  whole = head_of terms x;
  part = part;
  told = inl (refl, refl, refl, refl);
  goes = inr (refl, front, rose);
  sink = took;
  cause = λ s s'. (rose, tt);
  quiet = quiet_same k p.seen;
  moves = moves_same k p t;
  pumped = refl;
}

pub stream_lost : {i : ℕ} {l1 : ℕ × ℕ × ℕ} {l2 : ℕ × ℕ × ℕ} (k : ℕ) (terms : Terms) (x : Reply) (form : Form) (f : Failed) (p : PassView) (u u' : SinkView) (t : ClockView)
    → chunked_form x ≡ Some form → WriteSays (Err f) (head_by terms form) u u'
    → SendsStream terms x (Went.Ends Ending.WriteFault) (view_of k l1 p u t) (view_of i l2 p u' t)
stream_lost k terms x form f p u u' t is says =
    lost k terms x f p u u' t (subst (λ y. WriteSays (Err f) y u u') (head_is terms x form is) says)

-- the stream broke off behind its head: nothing more is written
broke_off : {i : ℕ} {j : ℕ} {l1 : ℕ × ℕ × ℕ} {l2 : ℕ × ℕ × ℕ} {l3 : ℕ × ℕ × ℕ} {l4 : ℕ × ℕ × ℕ} (k : ℕ) (terms : Terms) (g : Reply) (f : Followed) (e : Ending) (result : Went) (p q : PassView)
    (u v w x : SinkView) (t t' : ClockView) → IsTrue p.pair → is_whole f ≡ false → SinkTook u (head_of terms g) v
    → (sent : Follows g true f (view_of k l3 p v t) (view_of j l4 q w t')) → IsBody p.charter g (is_whole f) p.seen q.seen sent.body → ComesTo g f sent.moves.handed → result ≡ Went.Ends e → x ≡ w
    → IsWritten e (Leaves f None) (head_of terms g ++ sent.sent) (head_of terms g ++ sent.part) u w
    → ((s s' : SourceView) → FollowCause f (outside s u t) (outside s' w t'))
    → SendsStream terms g result (view_of k l1 p u t) (view_of i l2 q x t')
broke_off {i = i} {l1 = l1} {l2 = l2} k terms g f e result p q u v w x t t' pair broken head sent tells comes is same written cause =
    let last : (if is_whole f then last_chunk else []) ≡ [] = ap (λ b. if b then last_chunk else []) broken in
    let flow : flow_behind terms f ≡ Leaves f None = ap (λ b. if b then flow_of terms else Leaves f None) broken in
    let whole : List ℕ = head_of terms g ++ sent.sent in
    let all : whole ≡ whole ++ (if is_whole f then last_chunk else []) = sym (ap (λ y. whole ++ y) last ∙ append-nil whole) in
    subst (λ y. SendsStream terms g y (view_of k l1 p u t) (view_of i l2 q x t')) (sym is)
    (subst (λ y. SendsStream terms g (Went.Ends e) (view_of k l1 p u t) (view_of i l2 q y t')) (sym same) (record {
      flow = Leaves f None;
      whole = whole;
      part = head_of terms g ++ sent.part;
      told = inr (f, sent.body, sent.sent, tells, sent.ends, comes, sent.pieces, sym flow, all);
      goes = written;
      sink = sink_on u v w (head_of terms g) sent.part head sent.sink;
      cause = λ s s'. (cause s s', tt);
      quiet = sent.quiet pair;
      moves = sent.moves;
      pumped = refl;
    }))

-- what was told, as the stream was followed
told_by : {j : ℕ} {l3 : ℕ × ℕ × ℕ} {l4 : ℕ × ℕ × ℕ} (k : ℕ) (g : Reply) (f : Followed) (p q : PassView) (v w : SinkView) (t t' : ClockView) (sent : Follows g true f (view_of k l3 p v t) (view_of j l4 q w t'))
    → sent.whole ≡ is_whole f → IsBody p.charter g (is_whole f) p.seen q.seen sent.body
told_by k g f p q v w t t' sent is = subst (λ b. IsBody p.charter g b p.seen q.seen sent.body) is sent.tells

comes_by : {j : ℕ} {l3 : ℕ × ℕ × ℕ} {l4 : ℕ × ℕ × ℕ} (k : ℕ) (g : Reply) (f : Followed) (p q : PassView) (v w : SinkView) (t t' : ClockView) (sent : Follows g true f (view_of k l3 p v t) (view_of j l4 q w t'))
    → sent.whole ≡ is_whole f → ComesTo g (if is_whole f then F.Whole else f) sent.moves.handed
comes_by k g f p q v w t t' sent is = subst (λ b. ComesTo g (if b then F.Whole else f) sent.moves.handed) is sent.comes

-- a write failed in it: of a whole stream, or of one that isn't
failed_so : {i : ℕ} {j : ℕ} {l1 : ℕ × ℕ × ℕ} {l2 : ℕ × ℕ × ℕ} {l3 : ℕ × ℕ × ℕ} {l4 : ℕ × ℕ × ℕ} (k : ℕ) (terms : Terms) (g : Reply) (result : Went) (p q : PassView)
    (u v w x : SinkView) (t t' : ClockView) → IsTrue p.pair → SinkTook u (head_of terms g) v
    → (sent : Follows g true F.WriteFault (view_of k l3 p v t) (view_of j l4 q w t')) → result ≡ Went.Ends Ending.WriteFault → x ≡ w
    → (whole : Bool) → sent.whole ≡ whole → SendsStream terms g result (view_of k l1 p u t) (view_of i l2 q x t')
failed_so {i = i} {l1 = l1} {l2 = l2} k terms g result p q u v w x t t' pair head sent is same false told =
    let rose = rose_since u.faults v.faults w.faults head.faults sent.cause in
    let front : IsFront (head_of terms g ++ sent.part) (head_of terms g ++ sent.sent) =
    (sent.taken.0, append_assoc (head_of terms g) sent.part sent.taken.0 ∙ ap (λ y. head_of terms g ++ y) sent.taken.1) in
    broke_off k terms g F.WriteFault Ending.WriteFault result p q u v w x t t' pair refl head sent (told_by k g F.WriteFault p q v w t t' sent told) (comes_by k g F.WriteFault p q v w t t' sent told) is same
    (inr (refl, front, rose)) (λ s s'. rose)
failed_so {i = i} {l1 = l1} {l2 = l2} k terms g result p q u v w x t t' pair head sent is same true told =
    let rose = rose_since u.faults v.faults w.faults head.faults sent.cause in
    let part : List ℕ = head_of terms g ++ sent.part in
    let whole : List ℕ = head_of terms g ++ sent.sent ++ last_chunk in
    let front : IsFront part whole = (
      sent.taken.0 ++ last_chunk,
      sym (append_assoc part sent.taken.0 last_chunk)
          ∙ ap (λ y. y ++ last_chunk) (append_assoc (head_of terms g) sent.part sent.taken.0 ∙ ap (λ y. head_of terms g ++ y) sent.taken.1),
    ) in
    subst (λ y. SendsStream terms g y (view_of k l1 p u t) (view_of i l2 q x t')) (sym is)
    (subst (λ y. SendsStream terms g (Went.Ends Ending.WriteFault) (view_of k l1 p u t) (view_of i l2 q y t')) (sym same) (record {
      flow = flow_of terms;
      whole = whole;
      part = part;
      told = inr (
        F.Whole,
        sent.body,
        sent.sent,
        subst (λ b. IsBody p.charter g b p.seen q.seen sent.body) told sent.tells,
        ends_whole g p.charter sent.body sent.moves.handed p.seen q.seen,
        subst (λ b. ComesTo g (if b then F.Whole else F.WriteFault) sent.moves.handed) told sent.comes,
        sent.pieces,
        refl,
        refl,
      );
      goes = inr (refl, front, rose);
      sink = sink_on u v w (head_of terms g) sent.part head sent.sink;
      cause = λ s s'. if_cause terms.close (outside s u t) (outside s' w t');
      quiet = sent.quiet pair;
      moves = sent.moves;
      pumped = if_pumped terms.close;
    }))

-- behind its head it was followed, and ended by the last chunk exactly where it is whole
sent_so : {i : ℕ} {j : ℕ} {l1 : ℕ × ℕ × ℕ} {l2 : ℕ × ℕ × ℕ} {l3 : ℕ × ℕ × ℕ} {l4 : ℕ × ℕ × ℕ} (k : ℕ) (terms : Terms) (g : Reply) (f : Followed) (result : Went) (p q : PassView)
    (u v w x : SinkView) (t t' : ClockView) → IsTrue p.pair → SinkTook u (head_of terms g) v
    → Follows g true f (view_of k l3 p v t) (view_of j l4 q w t') → EndsStream terms f result w x
    → SendsStream terms g result (view_of k l1 p u t) (view_of i l2 q x t')
sent_so k terms g F.Whole result p q u v w x t t' pair head sent ends =
    let took : SinkTook u (head_of terms g ++ sent.sent) w =
    subst (λ y. SinkTook u (head_of terms g ++ y) w) sent.taken (sink_on u v w (head_of terms g) sent.part head sent.sink) in
    let all : Sends (flow_of terms) result (head_of terms g ++ sent.sent ++ last_chunk) u x =
    sends_behind result (flow_of terms) (head_of terms g ++ sent.sent) last_chunk u w x took ends in record {
      flow = flow_of terms;
      whole = head_of terms g ++ sent.sent ++ last_chunk;
      part = all.0;
      told = inr (F.Whole, sent.body, sent.sent, told_by k g F.Whole p q v w t t' sent sent.by_end, sent.ends, comes_by k g F.Whole p q v w t t' sent sent.by_end, sent.pieces, refl, refl);
      goes = all.2;
      sink = all.1;
      cause = λ s s'. if_cause terms.close (outside s u t) (outside s' x t');
      quiet = sent.quiet pair;
      moves = sent.moves;
      pumped = if_pumped terms.close;
    }
sent_so k terms g F.Stopped result p q u v w x t t' pair head sent ends =
    broke_off k terms g F.Stopped Ending.Stopped result p q u v w x t t' pair refl head sent (told_by k g F.Stopped p q v w t t' sent sent.by_end)
    (comes_by k g F.Stopped p q v w t t' sent sent.by_end) ends.0 ends.1
    (inl (refl, ap (λ y. head_of terms g ++ y) sent.taken)) (λ s s'. sent.cause)
sent_so k terms g (F.Lagged next first) result p q u v w x t t' pair head sent ends =
    broke_off k terms g (F.Lagged next first) (Ending.Lagged next first) result p q u v w x t t' pair refl head sent (told_by k g (F.Lagged next first) p q v w t t' sent sent.by_end)
    (comes_by k g (F.Lagged next first) p q v w t t' sent sent.by_end) ends.0 ends.1
    (inl (refl, ap (λ y. head_of terms g ++ y) sent.taken)) (λ s s'. tt)
sent_so k terms g F.NoMemory result p q u v w x t t' pair head sent ends =
    broke_off k terms g F.NoMemory Ending.NoMemory result p q u v w x t t' pair refl head sent (told_by k g F.NoMemory p q v w t t' sent sent.by_end)
    (comes_by k g F.NoMemory p q v w t t' sent sent.by_end) ends.0 ends.1
    (inl (refl, ap (λ y. head_of terms g ++ y) sent.taken)) (λ s s'. tt)
sent_so k terms g F.WriteFault result p q u v w x t t' pair head sent ends = failed_so k terms g result p q u v w x t t' pair head sent ends.0 ends.1 sent.whole refl

pub stream_sent : {i : ℕ} {j : ℕ} {l1 : ℕ × ℕ × ℕ} {l2 : ℕ × ℕ × ℕ} {l3 : ℕ × ℕ × ℕ} {l4 : ℕ × ℕ × ℕ} (k : ℕ) (terms : Terms) (g : Reply) (form : Form) (f : Followed) (result : Went) (p q : PassView)
    (u v w x : SinkView) (t t' : ClockView) → IsTrue p.pair → chunked_form g ≡ Some form → SinkTook u (head_by terms form) v
    → Follows g true f (view_of k l3 p v t) (view_of j l4 q w t') → EndsStream terms f result w x → SendsStream terms g result (view_of k l1 p u t) (view_of i l2 q x t')
stream_sent k terms g form f result p q u v w x t t' pair is head sent ends =
    sent_so k terms g f result p q u v w x t t' pair (subst (λ y. SinkTook u y v) (head_is terms g form is) head) sent ends

-- ---- the rows

row : (ch : Charter) (k : ℕ) (r : Request) (behind : List ℕ) (c : Call) (x : Reply) (form : Form) (flow : Flow) (whole : List ℕ) (handed : ℕ) (hs ms : List ℕ)
    (a b d : List Step) → class_of r ≡ Stream c Takeover.None → chunked_form x ≡ Some form → hs ≡ handed ∷ [] → IsMadeAt ch k handed c a b x → IsQuiet k b d
    → IsSentAs ch (terms_of r) x flow whole b d ms → IsAnswered ch k r behind a d flow whole (hs ++ ms)
row ch k r behind c x form flow whole handed hs ms a b d class some one made quiet (inl (same, none, flows, is)) =
    as_told ch k r behind a d flow _ whole _ (hs ++ ms) _ flows is (ap (λ l. l ++ ms) one ∙ ap (λ l. handed ∷ l) none)
    (HeadIsLost c Takeover.None x handed class (subst (λ h. IsMadeAt ch k handed c a h x) same made) (subst (λ o. IsSome o) (sym some) refl))
row ch k r behind c x form flow whole handed hs ms a b d class some one made quiet (inr (f, body, chunks, tells, ends, comes, cut, flows, is)) =
    as_told ch k r behind a d flow _ whole _ (hs ++ ms) _ flows is (ap (λ l. l ++ ms) one)
    (InChunks f _ body chunks _ (OfStream c x f b handed body ms class made quiet tells ends comes) cut)

pub streamed : {i : ℕ} {j : ℕ} {l1 : ℕ × ℕ × ℕ} {l2 : ℕ × ℕ × ℕ} {l3 : ℕ × ℕ × ℕ} {l4 : ℕ × ℕ × ℕ} (k handed : ℕ) (r : Request) (c : Call) (x : Reply) (form : Form) (result : Went) (p q s : PassView) (u u' : SinkView)
    (v w y : ClockView) → class_of r ≡ Stream c Takeover.None → chunked_form x ≡ Some form → TurnComes k handed c (T.Replied x) p q v w
    → SendsStream (terms_of r) x result (view_of k l3 q u w) (view_of j l4 s u' y) → Tries r result (view_of k l1 p u v) (view_of i l2 s u' y)
unfolding moves_on
streamed k handed r c x form result p q s u u' v w y class some f sends =
    let told : IsSentAs p.charter (terms_of r) x sends.flow sends.whole q.seen s.seen sends.moves.handed =
    subst (λ ch. IsSentAs ch (terms_of r) x sends.flow sends.whole q.seen s.seen sends.moves.handed) f.moves.stays.charter sends.told in
    let later : (o : SourceView) → IsLater (outside o u v) (outside o u w) =
    λ o. record { reads = omega arith; ends = omega arith; writes = omega arith; stops = f.moves.clock.stops } in record {
      flow = sends.flow;
      whole = sends.whole;
      part = sends.part;
      moves = moves_on k p q s v w y f.moves sends.moves;
      answer = λ behind. row p.charter k r behind c x form sends.flow sends.whole handed f.moves.handed sends.moves.handed p.seen q.seen s.seen class some f.one f.came.0
          sends.quiet told;
      goes = sends.goes;
      sink = sends.sink;
      cause = λ o o'. cause_since sends.flow (outside o u v) (outside o u w) (outside o' u' y) (later o) (sends.cause o o');
      pumped = sends.pumped;
    }
