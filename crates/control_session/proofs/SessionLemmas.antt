-- How a connection of control goes on and ends.
use Rattle.std.proofs.Common.{◌≡◌, ◌⊎◌, ℕ, List, [], ◌∷◌, ◌++◌, refl, sym, ◌∙◌, ap, subst, append_assoc, append-nil, inl, inr, Bool, true, false, Option, Some, None, Result, Ok, Err, if◌then◌else◌}
use Rattle.std.specs.Prelude.{◌||◌}
use Rattle.engine_ports.specs.Source.{SourceView, SourceGave, SourceEnded}
use Rattle.engine_ports.specs.Sink.{SinkView, SinkTook, IsFront, WriteSays}
use Rattle.engine_ports.specs.declared.ports.Failed.{Failed}
use Rattle.engine_ports.proofs.PortLemmas.{rose_since, source_none, source_on, sink_none, sink_on}
use Rattle.http_edge.specs.Message.{Request}
use Rattle.http_edge.specs.Spelling.{Begins, ReadsRequests}
use Rattle.http_edge.specs.Reading.{Reached}
use Rattle.http_edge.specs.Outcome.{BeginsBy}
use Rattle.http_edge.specs.Response.{refusal_bytes}
use Rattle.http_edge.specs.Held.{Reading}
use Rattle.http_edge.specs.Reader.{NextSays, Stops, request_of}
use Rattle.http_edge.specs.declared.reader.Stopped.{Stopped}
use Rattle.http_edge.specs.declared.reader.Next.{Next}
use Rattle.http_edge.specs.declared.reader.Next.TheVariants as next
use Rattle.http_edge.specs.declared.view.RequestView.{RequestView}
use Rattle.lab_control.specs.Asking.{asked_of}
use Rattle.lab_control.specs.declared.asking.Asked.{Asked}
use Rattle.json_answer.specs.Answer.{terms_of}
use Rattle.json_answer.specs.declared.asking.Terms.{Terms}
use Rattle.control_session.specs.Answering.{terms_by, way_by, Answers}
use Rattle.control_session.specs.Controls.{AreAnswered, NoneYet, OneMore, ControlSays, EndsAt, EndsSo, IsWritten, terms_asked}
use Rattle.control_session.specs.declared.way.Way.{Way}
use Rattle.control_session.specs.declared.way.Way.TheVariants as way

-- ---- requests

reads_more : (bytes : List ℕ) (rs : List Request) (tail more : List ℕ) → ReadsRequests bytes rs tail → ReadsRequests (bytes ++ more) rs (tail ++ more)
reads_more bytes [] tail more h = ap (λ x. x ++ more) h
reads_more bytes (r ∷ rs) tail more (behind, (front, spells, is), onward) =
    (behind ++ more, (front, spells, ap (λ x. x ++ more) is ∙ append_assoc front behind more), reads_more behind rs tail more onward)

reads_on : (bytes : List ℕ) (rs : List Request) (tail : List ℕ) (r : Request) (behind : List ℕ) → ReadsRequests bytes rs tail → Begins tail r behind
    → ReadsRequests bytes (rs ++ r ∷ []) behind
reads_on bytes [] tail r behind h s = (behind, subst (λ x. Begins x r behind) (sym h) s, refl)
reads_on bytes (q ∷ qs) tail r behind (over, spells, onward) s = (over, spells, reads_on over qs tail r behind onward s)

-- ---- a reader that has not stopped

abbrev IsNoWhy : Option Stopped → Type 0
IsNoWhy None = Unit {0}
IsNoWhy (Some why) = ⊥

stopped_now : (old new : Reading) (why : Stopped) (s s' : SourceView) (fact : Type 0) → old.stopped ≡ None → Stops old new why s s' fact → fact
stopped_now old new why s s' fact reads (is, inl (was, same)) = absurd (subst IsNoWhy (sym reads ∙ was) tt)
stopped_now old new why s s' fact reads (is, inr (was, holds)) = holds

-- ---- the connection

module _ {T : Type 0} (time : Option T) where
  -- where it stands between two requests
  pub record Stands (s s' : SourceView) (u u' : SinkView) (reader : Reading) : Type 0 where
    pub reads_on : reader.stopped ≡ None
    pub read : List ℕ
    pub done : List Request
    pub bytes : List ℕ
    pub source : SourceGave s read s'
    pub sink : SinkTook u bytes u'
    pub requests : ReadsRequests read done reader.ahead
    pub answered : AreAnswered time done bytes

  pub begins : (s : SourceView) (u : SinkView) (reader : Reading) → reader.stopped ≡ None → reader.ahead ≡ [] → Stands s s u u reader
  begins s u reader unstopped none = record {
    reads_on = unstopped;
    read = [];
    done = [];
    bytes = [];
    source = source_none s;
    sink = sink_none u;
    requests = sym none;
    answered = NoneYet;
  }

  -- it reads on, up to bytes of which something holds
  record Reads (s s' : SourceView) (u u' : SinkView) (P : List ℕ → Type 0) : Type 0 where
    pub read : List ℕ
    pub done : List Request
    pub bytes : List ℕ
    pub tail : List ℕ
    pub source : SourceGave s read s'
    pub sink : SinkTook u bytes u'
    pub requests : ReadsRequests read done tail
    pub answered : AreAnswered time done bytes
    pub holds : P tail

  reads : (s s1 s2 : SourceView) (u u' : SinkView) (reader : Reading) (P : List ℕ → Type 0) → Stands s s1 u u' reader → Reached reader.ahead s1 s2 P
      → Reads s s2 u u' P
  reads s s1 s2 u u' reader P st x = record {
    read = st.read ++ x.read;
    done = st.done;
    bytes = st.bytes;
    tail = reader.ahead ++ x.read;
    source = source_on s s1 s2 st.read x.read st.source x.gave;
    sink = st.sink;
    requests = reads_more st.read st.done reader.ahead x.read st.requests;
    answered = st.answered;
    holds = x.holds;
  }

  -- ---- it goes on

  lost_ends : (stop close : Bool) → (if stop then way.Stops else if close || true then way.Closes else way.On) ≡ way.On → ⊥
  lost_ends true close e = absurd (cc e)
  lost_ends false true e = absurd (cc e)
  lost_ends false false e = absurd (cc e)

  -- what was asked for was answered, and the connection goes on by that
  abbrev Tried : Result (Unit {0}) Failed → Way → Asked → Terms → SinkView → SinkView → Type 0
  Tried w go asked terms u u' = Answers time asked terms w u u' × (go ≡ way_by asked terms w)

  tried_by : (r : Request) (w : Result (Unit {0}) Failed) (go : Way) (asked : Asked) (own terms : Terms) (u u' : SinkView) → asked ≡ asked_of r → own ≡ terms_of r
      → terms ≡ terms_by asked own → Tried w go asked terms u u' → Tried w go (asked_of r) (terms_asked r) u u'
  tried_by r w go asked own terms u u' a o t tried =
      let e : terms ≡ terms_asked r = t ∙ ap (λ x. terms_by asked x) o ∙ ap (λ x. terms_by x (terms_of r)) a in
      subst (λ x. Tried w go (asked_of r) x u u') e (subst (λ x. Tried w go x terms u u') a tried)

  went_on : (view : RequestView) (w : Result (Unit {0}) Failed) (go : Way) (s s1 s2 : SourceView) (u u1 u2 : SinkView) (old new : Reading)
      → Stands s s1 u u1 old → NextSays old new (next.Request view) s1 s2 → Tried w go (asked_of (request_of view)) (terms_asked (request_of view)) u1 u2
      → go ≡ way.On → Stands s s2 u u2 new
  went_on view (Ok o) go s s1 s2 u u1 u2 old new st says ((whole, answer, took), is) on =
      let x = reads s s1 s2 u u1 old (BeginsBy (request_of view) _ new.ahead) st says.2 in
      record {
        reads_on = says.0.1;
        read = x.read;
        done = x.done ++ request_of view ∷ [];
        bytes = x.bytes ++ whole;
        source = x.source;
        sink = sink_on u u1 u2 x.bytes whole x.sink took;
        requests = reads_on x.read x.done x.tail (request_of view) new.ahead x.requests x.holds.0;
        answered = OneMore x.done (request_of view) x.bytes whole x.answered answer;
      }
  went_on view (Err o) go s s1 s2 u u1 u2 old new st says (answers, is) on =
      absurd (lost_ends _ (terms_asked (request_of view)).close (sym is ∙ on))

  pub goes : (view : RequestView) (n : Next) (w : Result (Unit {0}) Failed) (go : Way) (asked : Asked) (own terms : Terms) (s s1 s2 : SourceView)
      (u u1 u2 : SinkView) (old new : Reading) → Stands s s1 u u1 old → n ≡ next.Request view → NextSays old new n s1 s2
      → asked ≡ asked_of (request_of view) → own ≡ terms_of (request_of view) → terms ≡ terms_by asked own
      → Answers time asked terms w u1 u2 → go ≡ way_by asked terms w → go ≡ way.On → Stands s s2 u u2 new
  goes view n w go asked own terms s s1 s2 u u1 u2 old new st at says a o t answers is on =
      went_on view w go s s1 s2 u u1 u2 old new st (subst (λ o. NextSays old new o s1 s2) at says)
      (tried_by (request_of view) w go asked own terms u1 u2 a o t (answers, is)) on

  -- ---- it ends

  since : (w : Result (Unit {0}) Failed) (before whole : List ℕ) (u u1 u2 : SinkView) → SinkTook u before u1 → WriteSays w whole u1 u2
      → (part : List ℕ) × SinkTook u1 part u2 × IsWritten w whole part u u2
  since (Ok x) before whole u u1 u2 so_far took = (whole, took, refl)
  since (Err x) before whole u u1 u2 so_far (part, front, took, rose) = (part, took, (front, rose_since u.faults u1.faults u2.faults so_far.faults rose))

  last_by : (view : RequestView) (w : Result (Unit {0}) Failed) (go : Way) (stops : Bool) (s s1 s2 : SourceView) (u u1 u2 : SinkView) (old new : Reading)
      → Stands s s1 u u1 old → NextSays old new (next.Request view) s1 s2 → Tried w go (asked_of (request_of view)) (terms_asked (request_of view)) u1 u2
      → EndsSo go stops → ControlSays time stops s s2 u u2
  last_by view w go stops s s1 s2 u u1 u2 old new st says ((whole, answer, wrote), is) so =
      let x = reads s s1 s2 u u1 old (BeginsBy (request_of view) _ new.ahead) st says.2 in
      let (part, took, written) = since w x.bytes whole u u1 u2 x.sink wrote in
      inl (record {
        read = x.read;
        done = x.done;
        tail = x.tail;
        bytes = x.bytes;
        part = part;
        source = x.source;
        sink = sink_on u u1 u2 x.bytes part x.sink took;
        requests = x.requests;
        answered = x.answered;
        ends = inr (
          request_of view,
          new.ahead,
          x.holds.0,
          record {
            written = w;
            whole = whole;
            answer = answer;
            is_written = written;
            ends = subst (λ g. EndsSo g stops) is so;
          },
        );
      })

  pub ends_by : (view : RequestView) (n : Next) (w : Result (Unit {0}) Failed) (go known : Way) (stops : Bool) (asked : Asked) (own terms : Terms)
      (s s1 s2 : SourceView) (u u1 u2 : SinkView) (old new : Reading) → Stands s s1 u u1 old → n ≡ next.Request view → NextSays old new n s1 s2
      → asked ≡ asked_of (request_of view) → own ≡ terms_of (request_of view) → terms ≡ terms_by asked own
      → Answers time asked terms w u1 u2 → go ≡ way_by asked terms w → go ≡ known → EndsSo known stops → ControlSays time stops s s2 u u2
  ends_by view n w go known stops asked own terms s s1 s2 u u1 u2 old new st at says a o t answers is on so =
      last_by view w go stops s s1 s2 u u1 u2 old new st (subst (λ o. NextSays old new o s1 s2) at says)
      (tried_by (request_of view) w go asked own terms u1 u2 a o t (answers, is)) (subst (λ g. EndsSo g stops) (sym on) so)

  -- nothing more is written
  quiet : (s s1 s2 : SourceView) (u u1 : SinkView) (old : Reading) (P : List ℕ → Type 0) → Stands s s1 u u1 old → Reached old.ahead s1 s2 P
      → ((tail : List ℕ) → P tail → EndsAt tail [] s s2) → ControlSays time false s s2 u u1
  quiet s s1 s2 u u1 old P st reached ends =
      let x = reads s s1 s2 u u1 old P st reached in
      inl (record {
        read = x.read;
        done = x.done;
        tail = x.tail;
        bytes = x.bytes;
        part = [];
        source = x.source;
        sink = subst (λ b. SinkTook u b u1) (sym (append-nil x.bytes)) x.sink;
        requests = x.requests;
        answered = x.answered;
        ends = inl (ends x.tail x.holds, refl);
      })

  ended_since : (s s1 s2 : SourceView) (read : List ℕ) → SourceGave s read s1 → SourceEnded s1 s2 → SourceEnded s s2
  ended_since s s1 s2 read before ended = record { rose = rose_since s.ends s1.ends s2.ends before.ends ended.rose; spent = ended.spent }

  ends_closed : (n : Next) (s s1 s2 : SourceView) (u u1 : SinkView) (old new : Reading) → Stands s s1 u u1 old → n ≡ next.End
      → NextSays old new n s1 s2 → ControlSays time false s s2 u u1
  ends_closed n s s1 s2 u u1 old new st at says =
      let h : NextSays old new next.End s1 s2 = subst (λ o. NextSays old new o s1 s2) at says in
      quiet s s1 s2 u u1 old _ st h.2 (λ tail none. inr (refl, inl (inl none, ended_since s s1 s2 st.read st.source h.4)))

  ends_cut : (n : Next) (s s1 s2 : SourceView) (u u1 : SinkView) (old new : Reading) → Stands s s1 u u1 old → n ≡ next.CutShort
      → NextSays old new n s1 s2 → ControlSays time false s s2 u u1
  ends_cut n s s1 s2 u u1 old new st at says =
      let h : NextSays old new next.CutShort s1 s2 = subst (λ o. NextSays old new o s1 s2) at says in
      let f = stopped_now old new _ s1 s2 _ st.reads_on h in
      quiet s s1 s2 u u1 old _ st f.0 (λ tail cut. inr (refl, inl (inr cut, ended_since s s1 s2 st.read st.source f.1)))

  ends_fault : (n : Next) (s s1 s2 : SourceView) (u u1 : SinkView) (old new : Reading) → Stands s s1 u u1 old → n ≡ next.ReadFault
      → NextSays old new n s1 s2 → ControlSays time false s s2 u u1
  ends_fault n s s1 s2 u u1 old new st at says =
      let h : NextSays old new next.ReadFault s1 s2 = subst (λ o. NextSays old new o s1 s2) at says in
      let f = stopped_now old new _ s1 s2 _ st.reads_on h in
      quiet s s1 s2 u u1 old _ st f.0 (λ tail awaits. inr (refl, inr (awaits, rose_since s.faults s1.faults s2.faults st.source.faults f.1)))

  -- where no request is read, and none is refused
  pub ends_unread : (n : Next) (s s1 s2 : SourceView) (u u1 : SinkView) (old new : Reading) → Stands s s1 u u1 old
      → (n ≡ next.End) ⊎ ((n ≡ next.CutShort) ⊎ (n ≡ next.ReadFault)) → NextSays old new n s1 s2 → ControlSays time false s s2 u u1
  ends_unread n s s1 s2 u u1 old new st (inl at) says = ends_closed n s s1 s2 u u1 old new st at says
  ends_unread n s s1 s2 u u1 old new st (inr (inl at)) says = ends_cut n s s1 s2 u u1 old new st at says
  ends_unread n s s1 s2 u u1 old new st (inr (inr at)) says = ends_fault n s s1 s2 u u1 old new st at says

  front_of : (w : Result (Unit {0}) Failed) (whole : List ℕ) (u u' : SinkView) → WriteSays w whole u u'
      → (part : List ℕ) × SinkTook u part u' × IsFront part whole
  front_of (Ok x) whole u u' took = (whole, took, ([], append-nil whole))
  front_of (Err x) whole u u' (part, front, took, rose) = (part, took, front)

  pub ends_bad : (n : Next) (w : Result (Unit {0}) Failed) (status at : ℕ) (s s1 s2 : SourceView) (u u1 u2 : SinkView) (old new : Reading) → Stands s s1 u u1 old
      → n ≡ next.Bad status at → NextSays old new n s1 s2 → WriteSays w (refusal_bytes status) u1 u2 → ControlSays time false s s2 u u2
  ends_bad n w status at s s1 s2 u u1 u2 old new st is says wrote =
      let h : NextSays old new (next.Bad status at) s1 s2 = subst (λ o. NextSays old new o s1 s2) is says in
      let f = stopped_now old new _ s1 s2 _ st.reads_on h in
      let x = reads s s1 s2 u u1 old _ st f.1 in
      let (part, took, front) = front_of w (refusal_bytes status) u1 u2 wrote in
      inl (record {
        read = x.read;
        done = x.done;
        tail = x.tail;
        bytes = x.bytes;
        part = part;
        source = x.source;
        sink = sink_on u u1 u2 x.bytes part x.sink took;
        requests = x.requests;
        answered = x.answered;
        ends = inl (inl (status, x.holds, front), refl);
      })
