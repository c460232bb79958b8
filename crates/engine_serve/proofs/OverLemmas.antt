-- A session that ends by a takeover.
use Rattle.std.proofs.Common.{◌≡◌, inl, inr, ℕ, List, [], ◌∷◌, ◌++◌, append_assoc, refl, sym, ◌∙◌, ap, subst, arith, Bool, true, false, Option, None, Err}
use Rattle.std.specs.Prelude.{IsTrue}
use Rattle.engine_ports.specs.Clock.{ClockView}
use Rattle.engine_ports.specs.Door.{Outside, outside}
use Rattle.engine_ports.specs.Sink.{SinkView, SinkTook, WriteSays}
use Rattle.engine_ports.specs.Source.{SourceView}
use Rattle.engine_ports.specs.declared.ports.Failed.{Failed}
use Rattle.engine_ports.proofs.PortLemmas.{clock_none, clock_on, rose_since, sink_on, source_none}
use Rattle.engine_text.specs.declared.call.Call.{Call}
use Rattle.engine_text.specs.declared.reply.LogSpec.{LogSpec}
use Rattle.engine_text.specs.declared.reply.Reply.{Reply}
use Rattle.engine_text.specs.declared.reply.Reply.TheVariants.{LogStream}
use Rattle.engine_text.specs.declared.step.Step.{Step}
use Rattle.machine_model.specs.History.{Charter, IsLegal}
use Rattle.http_edge.specs.Held.{Reading}
use Rattle.http_edge.specs.Message.{Request}
use Rattle.http_edge.specs.Reader.{NextSays, request_of}
use Rattle.http_edge.specs.Reading.{Reached}
use Rattle.http_edge.specs.Spelling.{Begins}
use Rattle.http_edge.specs.declared.reader.Next.TheVariants as next
use Rattle.http_edge.specs.declared.view.RequestView.{RequestView}
use Rattle.api_routes.specs.Class.{class_of}
use Rattle.api_routes.specs.RouteClass.{takeover}
use Rattle.api_routes.specs.declared.class.Class.TheVariants.{Stream}
use Rattle.api_routes.specs.declared.class.Takeover.TheVariants as takes
use Rattle.session_model.specs.declared.ending.Ending.{Ending}
use Rattle.session_model.specs.declared.ending.Ending.TheVariants as E
use Rattle.session_model.specs.declared.followed.Followed.{Followed}
use Rattle.session_model.specs.declared.followed.Followed.TheVariants as F
use Rattle.session_model.specs.declared.followed.PumpEnd.{PumpEnd}
use Rattle.session_model.specs.declared.terms.Terms.{Terms}
use Rattle.session_model.specs.Exchange.{Flow, Leaves, IsMadeAt, IsAnswered, HeadIsLost, TakenOver}
use Rattle.session_model.specs.Guarantee.{Serves}
use Rattle.session_model.specs.Moments.{StaysWithin}
use Rattle.session_model.specs.Progress.{GoesOver}
use Rattle.session_model.specs.Pass.{PassView, Stays}
use Rattle.session_model.specs.Responses.{takeover_head, head_of_stream, terms_of}
use Rattle.session_model.specs.Session.{FollowCause, IsWritten, ending_of_ends, is_pumped}
use Rattle.session_model.proofs.CauseLemmas.{IsLater, cause_since, written_since}
use Rattle.session_model.proofs.HistoryLemmas.{extends_same, extends_on}
use Rattle.session_model.proofs.MomentLemmas.{within_on}
use Rattle.session_model.proofs.SessionLemmas.{begins_more}
use Rattle.session_model.proofs.AddsLemmas.{adds_none, adds_on, owns, owns_on}
use Rattle.session_model.proofs.TurnLemmas.{stays_on, stays_same, same_pass}
use Rattle.attach_hub.specs.Following.{IsTaken}
use Rattle.attach_hub.specs.Sides.{RunsOver}
use Rattle.exchange_laws.proofs.AnswerLemmas.{as_told}
use Rattle.engine_serve.specs.Overtaking.{IsTakenSo, OpensOver, Overtakes}
use Rattle.engine_serve.proofs.ServeLemmas.{SoFar, read_on}
use Rattle.engine_serve.proofs.NextLemmas.{Stands, begun}
use Rattle.attach_hub.specs.Connection.{view_of}

-- ---- the row

none_not : (upgrade : Bool) → takeover upgrade ≡ takes.None → ⊥
none_not true h = cc
none_not false h = cc

head_is : (terms : Terms) (upgrade : Bool) (x : Reply) → takeover_head (takeover upgrade) ≡ head_of_stream terms (takeover upgrade) x
head_is terms true x = refl
head_is terms false x = refl

-- the call was made, and then the connection was taken over, or the head was lost
answered_over : (ch : Charter) (k : ℕ) (r : Request) (upgrade : Bool) (spec : LogSpec) (flow : Flow) (whole behind : List ℕ) (a b d : List Step)
    (m : ℕ) (ns : List ℕ) (c : Call) → class_of r ≡ Stream c (takeover upgrade) → IsMadeAt ch k m c a b (LogStream spec)
    → IsTakenSo ch k upgrade spec flow whole b d ns behind → IsAnswered ch k r behind a d flow whole (m ∷ ns)
answered_over ch k r upgrade spec flow whole behind a b d m ns c class made (inl (same, none, flows, is)) =
    as_told ch k r behind a d flow _ whole _ (m ∷ ns) _ flows (is ∙ head_is (terms_of r) upgrade (LogStream spec)) (ap (λ x. m ∷ x) none)
    (HeadIsLost c (takeover upgrade) (LogStream spec) m class (subst (λ h. IsMadeAt ch k m c a h (LogStream spec)) same made) refl)
answered_over ch k r upgrade spec flow whole behind a b d m ns c class made (inr (f, end, body, pumps, tells, ends, flows, is)) =
    as_told ch k r behind a d flow _ whole _ (m ∷ ns) _ flows is refl
    (TakenOver c (takeover upgrade) spec f end b m body ns class (none_not upgrade) made pumps tells ends)

-- ---- the session

-- a takeover ends it: what was read behind the request is the takeover's
ended_over : {i : ℕ} {j : ℕ} {l1 : ℕ × ℕ × ℕ} {l2 : ℕ × ℕ × ℕ} {l3 : ℕ × ℕ × ℕ} {l4 : ℕ × ℕ × ℕ} {v1 : SinkView} {v2 : SinkView} (k : ℕ) (r : Request) (upgrade : Bool) (spec : LogSpec) (e : Ending) (p q m n : PassView) (s s1 s2 s3 : SourceView)
    (u u1 u3 : SinkView) (t t1 t2 t3 : ClockView) (held ahead : List ℕ) → SoFar k p q s s1 u u1 t t1 held
    → Reached held s1 s2 (λ all. Begins all r ahead) → OpensOver r upgrade spec (view_of k l1 q v1 t1) (view_of i l2 m v2 t2)
    → Overtakes upgrade spec e (view_of k l3 m u1 t2) (view_of j l4 n u3 t3) ahead s2 s3 → IsLegal n.charter n.seen
    → Serves k e p n (outside s u t) (outside s3 u3 t3)
ended_over k r upgrade spec e p q m n s s1 s2 s3 u u1 u3 t t1 t2 t3 held ahead so next opens over legal =
    let now = read_on k p q s s1 s2 u u1 t t1 held next.read (held ++ next.read) so next.gave refl in
    let more : List ℕ = over.told.read in
    let all = read_on k p q s s2 s3 u u1 t t1 (held ++ next.read) more ((held ++ next.read) ++ more) now over.told.gave refl in
    let late : List ℕ = opens.moves.handed ++ over.goes.handed in
    let stays : Stays p m = stays_on p q m all.stays opens.moves.stays in
    let later : IsLater (outside s u t) (outside s2 u1 t2) = record {
      reads = now.source.faults;
      ends = now.source.ends;
      writes = now.sink.faults;
      stops = omega (arith, now.clock.stops, opens.moves.clock.stops);
    } in
    record {
      read = all.read;
      written = all.written ++ over.part;
      source = all.source;
      sink = sink_on u u1 u3 all.written over.part all.sink over.sink;
      pumps = is_pumped over.flow;
      goes = record {
        handed = all.handed ++ late;
        clock = clock_on t t1 t3 all.handed late all.clock (clock_on t1 t2 t3 opens.moves.handed over.goes.handed opens.moves.clock over.goes.clock);
        extends = extends_on p.seen q.seen n.seen all.extends (extends_on q.seen m.seen n.seen opens.moves.extends over.goes.extends);
        same = record {
          joined_calls = refl;
          number = over.goes.same.number ∙ stays.number;
          pair = refl;
          charter = over.goes.same.charter ∙ stays.charter;
          alone = over.goes.same.alone ∙ stays.alone;
          home = over.goes.same.home ∙ stays.home;
        };
        adds = λ every. owns_on k p m n (owns k p m (adds_on k p q m all.adds opens.moves.adds)) (over.goes.adds (stays.number ∙ every));
        stays = λ b. stays_on p m n stays (over.goes.stays b);
        input = over.goes.input;
        within = λ h b. within_on p.charter p.seen q.seen n.seen all.handed late (all.within h)
            (within_on p.charter q.seen m.seen n.seen opens.moves.handed over.goes.handed
            (subst (λ ch. StaysWithin ch q.seen m.seen opens.moves.handed) all.stays.charter (opens.moves.within (all.stays.alone ∙ h)))
            (subst (λ ch. StaysWithin ch m.seen n.seen over.goes.handed) stays.charter (over.goes.within (stays.alone ∙ h) b)));
      };
      legal = legal;
      before = λ h. all.within h;
      session = record {
        done = all.done;
        tail = (held ++ next.read) ++ more;
        mid = q.seen;
        bytes = all.written;
        last = over.part;
        early = all.handed;
        late = late;
        requests = all.requests;
        answered = all.answered;
        ends = inr (
          r,
          ahead ++ more,
          begins_more (held ++ next.read) r ahead more next.holds,
          record {
            flow = over.flow;
            whole = over.whole;
            answered = subst (IsAnswered p.charter k r (ahead ++ more) q.seen n.seen over.flow over.whole)
                (sym (ap (λ x. x ++ over.goes.handed) opens.one))
                (answered_over p.charter k r upgrade spec over.flow over.whole (ahead ++ more) q.seen m.seen n.seen
                opens.handed over.goes.handed opens.call opens.class
                (subst (λ ch. IsMadeAt ch k opens.handed opens.call q.seen m.seen (LogStream spec)) all.stays.charter opens.made)
                (subst (λ ch. IsTakenSo ch k upgrade spec over.flow over.whole m.seen n.seen over.goes.handed (ahead ++ more)) stays.charter over.told.holds));
            written = written_since e over.flow over.whole over.part u u1 u3 now.sink.faults over.written;
            cause = cause_since over.flow (outside s u t) (outside s2 u1 t2) (outside s3 u3 t3) later over.cause;
            pumped = refl;
          },
        );
        wrote = refl;
        handed = refl;
      };
    }

pub ends_over : {i : ℕ} {j : ℕ} {l1 : ℕ × ℕ × ℕ} {l2 : ℕ × ℕ × ℕ} {l3 : ℕ × ℕ × ℕ} {l4 : ℕ × ℕ × ℕ} {v1 : SinkView} {v2 : SinkView} (k : ℕ) (view : RequestView) (upgrade : Bool) (spec : LogSpec) (e : Ending) (p q m n : PassView) (s s1 s2 s3 : SourceView)
    (u u1 u2 u3 : SinkView) (t t1 t2 t3 : ClockView) (old new : Reading) → Stands k p q s s1 u u1 t t1 old
    → NextSays old new (next.Request view) s1 s2 → OpensOver (request_of view) upgrade spec (view_of k l1 q v1 t1) (view_of i l2 m v2 t2) → u2 ≡ u1
    → Overtakes upgrade spec e (view_of k l3 m u2 t2) (view_of j l4 n u3 t3) new.ahead s2 s3 → IsLegal n.charter n.seen
    → Serves k e p n (outside s u t) (outside s3 u3 t3)
ends_over {j = j} {l3 = l3} {l4 = l4} k view upgrade spec e p q m n s s1 s2 s3 u u1 u2 u3 t t1 t2 t3 old new st says opens same over legal =
    ended_over k (request_of view) upgrade spec e p q m n s s1 s2 s3 u u1 u3 t t1 t2 t3 old.ahead new.ahead st.so_far
    (begun old.ahead s1 s2 (request_of view) _ new.ahead says.2) opens
    (subst (λ x. Overtakes upgrade spec e (view_of k l3 m x t2) (view_of j l4 n u3 t3) new.ahead s2 s3) same over) legal

-- ---- the takeover

goes_same : (k : ℕ) (pumped : Bool) (p : PassView) (v : ClockView) → IsTrue p.pair → GoesOver k pumped p p v v
goes_same k pumped p v pair = record {
  handed = [];
  clock = clock_none v;
  extends = extends_same p.seen;
  same = same_pass p p (stays_same p);
  adds = λ every. owns k p p (adds_none k p);
  stays = λ b. stays_same p;
  input = λ b. inl pair;
  within = λ h b. omega arith;
}

-- the head's write failed
pub head_lost : {j : ℕ} {l3 : ℕ × ℕ × ℕ} {l4 : ℕ × ℕ × ℕ} (k : ℕ) (upgrade : Bool) (spec : LogSpec) (f : Failed) (p : PassView) (ahead : List ℕ) (s : SourceView) (u u' : SinkView)
    (t : ClockView) → IsTrue p.pair → WriteSays (Err f) (takeover_head (takeover upgrade)) u u'
    → Overtakes upgrade spec E.WriteFault (view_of k l3 p u t) (view_of j l4 p u' t) ahead s s
unfolding goes_same
head_lost k upgrade spec f p ahead s u u' t pair (part, front, took, rose) = record {
  flow = Leaves F.WriteFault None;
  whole = takeover_head (takeover upgrade);
  part = part;
  told = record { read = []; gave = source_none s; holds = inl (refl, refl, refl, refl) };
  written = inr (refl, front, rose);
  sink = took;
  cause = (rose, tt);
  goes = goes_same k false p t pair;
}

-- behind the head as much was written as the sink took
written_over : (f : Followed) (end : Option PumpEnd) (head body part : List ℕ) (o o' : Outside) (u : SinkView) → SinkTook u head o.sink
    → IsTaken f part body → FollowCause f o o' → IsWritten (ending_of_ends f end) (Leaves f end) (head ++ body) (head ++ part) u o'.sink
written_over F.Whole end head body part o o' u took taken cause = inl (refl, ap (λ x. head ++ x) taken)
written_over F.Stopped end head body part o o' u took taken cause = inl (refl, ap (λ x. head ++ x) taken)
written_over (F.Lagged next first) end head body part o o' u took taken cause = inl (refl, ap (λ x. head ++ x) taken)
written_over F.NoMemory end head body part o o' u took taken cause = inl (refl, ap (λ x. head ++ x) taken)
written_over F.WriteFault end head body part o o' u took (cut, front) cause =
    inr (refl, (cut, append_assoc head part cut ∙ ap (λ x. head ++ x) front), rose_since u.faults o.sink.faults o'.sink.faults took.faults cause)

-- the head was written, and the stream followed
pub taken_over : {i : ℕ} {j : ℕ} {l1 : ℕ × ℕ × ℕ} {l2 : ℕ × ℕ × ℕ} {l3 : ℕ × ℕ × ℕ} {l4 : ℕ × ℕ × ℕ} (k : ℕ) (upgrade : Bool) (spec : LogSpec) (f : Followed) (end : Option PumpEnd) (e : Ending) (p q : PassView) (ahead : List ℕ)
    (s s' : SourceView) (u v u' : SinkView) (t t' : ClockView) → SinkTook u (takeover_head (takeover upgrade)) v
    → RunsOver spec f end (view_of k l1 p v t) (view_of i l2 q u' t') ahead s s' → e ≡ ending_of_ends f end
    → Overtakes upgrade spec e (view_of k l3 p u t) (view_of j l4 q u' t') ahead s s'
taken_over k upgrade spec f end e p q ahead s s' u v u' t t' head runs is =
    let bytes : List ℕ = takeover_head (takeover upgrade) in
    let later : IsLater (outside s u t) (outside s v t) = record { reads = omega arith; ends = omega arith; writes = head.faults; stops = omega arith } in
    record {
      flow = Leaves f end;
      whole = bytes ++ runs.body;
      part = bytes ++ runs.part;
      told = record { read = runs.pumps.read; gave = runs.pumps.gave; holds = inr (f, end, runs.body, runs.pumps.holds, runs.tells, runs.ends, refl, refl) };
      written = subst (λ x. IsWritten x (Leaves f end) (bytes ++ runs.body) (bytes ++ runs.part) u u') (sym is)
          (written_over f end bytes runs.body runs.part (outside s v t) (outside s' u' t') u head runs.taken runs.cause.0);
      sink = sink_on u v u' bytes runs.part head runs.sink;
      cause = cause_since (Leaves f end) (outside s u t) (outside s v t) (outside s' u' t') later runs.cause;
      goes = runs.goes;
    }
