-- A session that is polled begins, goes on beside others, and is on its way in each of its states.
use Rattle.std.proofs.Common.{◌≡◌, ℕ, List, [], ◌∷◌, ◌++◌, None, Some, false, inl, inr, refl, sym, ◌∙◌, ap, subst, append_assoc, append-nil}
use Rattle.engine_text.specs.declared.call.Call.{Call}
use Rattle.engine_text.specs.declared.reply.Reply.{Reply}
use Rattle.engine_text.specs.declared.reply.Reply.TheVariants as R
use Rattle.engine_text.specs.declared.step.Step.{Step}
use Rattle.machine_model.specs.History.{Charter}
use Rattle.http_edge.specs.Message.{Request}
use Rattle.api_routes.specs.declared.class.Takeover.{Takeover}
use Rattle.session_model.specs.declared.followed.Followed.TheVariants as F
use Rattle.session_model.specs.Responses.{terms_of, head_of_stream, out_of_memory_response}
use Rattle.session_model.specs.Exchange.{EndsSo, Flow, Leaves, flow_of, IsQuiet, IsBody, IsMadeAt, IsAnswered, AtOnce, InChunks, HeadIsLost, DroppedForMemory, OfStream}
use Rattle.session_model.specs.Session.{NoneYet, Span}
use Rattle.session_model.proofs.HistoryLemmas.{quiet_same, quiet_on, none_append}
use Rattle.polled_model.specs.Progress.{IsBegun, IsProgress, Underway, Nothing, One, Refusal, law_beginnings, law_others}
use Rattle.polled_model.specs.Stages.{HoldsTicket, Reads, Waits, WaitsEarly, Streams, Sends, Refuses}
use Rattle.polled_model.specs.Steps.{ProgressLaws}
use Rattle.polled_model.proofs.AnswerLemmas.{drop_step, drop_reply, drops, drops_alone, gives_up, no_chunks}
use Rattle.polled_model.proofs.WaitLemmas.{broken_row}

-- ---- beginnings, and steps of others

pub begun : law_beginnings
begun ch k a o = (
  record {
    done = [];
    tail = [];
    mid = a;
    bytes = [];
    last = [];
    early = [];
    late = [];
    requests = refl;
    answered = NoneYet a;
    underway = Nothing refl refl (quiet_same k a);
    wrote = refl;
    handed = refl;
  },
  tt,
  inl refl,
)

-- what is under way stays so
underway_on : (ch : Charter) (k : ℕ) (tail : List ℕ) (a b c : List Step) (w ms : List ℕ) → IsQuiet k b c → Underway ch k tail a b w ms → Underway ch k tail a c w ms
underway_on ch k tail a b c w ms q (Nothing none unasked quiet) = Nothing none unasked (quiet_on k a b c quiet q)
underway_on ch k tail a b c w ms q (One r behind at begins is quiet) = One r behind at begins is (quiet_on k at b c quiet q)
underway_on ch k tail a b c w ms q (Refusal status refused front unasked quiet) = Refusal status refused front unasked (quiet_on k a b c quiet q)

pub others_on : law_others
others_on ch k s b q x = record {
  done = x.done;
  tail = x.tail;
  mid = x.mid;
  bytes = x.bytes;
  last = x.last;
  early = x.early;
  late = x.late;
  requests = x.requests;
  answered = x.answered;
  underway = underway_on ch k x.tail x.mid s.to b x.last x.late q x.underway;
  wrote = x.wrote;
  handed = x.handed;
}

-- a stream of which a write failed says nothing of its end
ends_lost : (ch : Charter) (reply : Reply) (body ms : List ℕ) (a b : List Step) → EndsSo ch reply F.WriteFault body ms a b
ends_lost ch (R.LogStream spec) body ms a b = tt
ends_lost ch (R.EventStream first until filter) body ms a b = tt
ends_lost ch reply body ms a b = tt

module _ (ch : Charter) (k : ℕ) where
  -- ---- what may come of each state

  -- a call before steps of others
  made_before_at : (a b d : List Step) (m : ℕ) (c : Call) (r : Reply) → IsMadeAt ch k m c a b r → IsQuiet k b d → IsMadeAt ch k m c a d r
  made_before_at a b d m c r ((before, behind, t, none, none', at, room, reply), (mid, from, to, used)) (xs, f, is) = (
    (
      before,
      behind ++ xs,
      t,
      none,
      none_append k behind xs none' f,
      is ∙ ap (λ x. x ++ xs) at ∙ append_assoc (a ++ before) (Step.Call k t c ∷ behind) xs,
      room,
      reply,
    ),
    (mid, from, to, used),
  )

  -- a stream of which a write failed, told in part
  stream_so : (r : Request) (behind : List ℕ) (reply : Reply) (place : ℕ) (body rest : List ℕ) (s : Span) → (x : Streams ch k r behind reply place body rest s)
      → IsBody ch reply false x.at x.now body → IsAnswered ch k r behind x.mid x.now (Leaves F.WriteFault None) (x.sent ++ rest) (x.m ∷ x.late)
  stream_so r behind reply place body rest s x told =
      subst (λ w. IsAnswered ch k r behind x.mid x.now (Leaves F.WriteFault None) w (x.m ∷ x.late))
      (append-nil (head_of_stream (terms_of r) Takeover.None reply ++ x.chunks) ∙ x.whole)
      (InChunks F.WriteFault (head_of_stream (terms_of r) Takeover.None reply) body x.chunks (x.m ∷ x.late)
      (OfStream x.c reply F.WriteFault x.at x.m body x.late x.asks x.made x.since told (ends_lost ch reply body x.late x.at x.now) x.comes) x.cut)

  pub stream_row : (r : Request) (behind : List ℕ) (reply : Reply) (place : ℕ) (body rest : List ℕ) (s : Span) → (x : Streams ch k r behind reply place body rest s)
      → IsAnswered ch k r behind x.mid x.now (Leaves F.WriteFault None) (x.sent ++ rest) (x.m ∷ x.late)
  stream_row r behind reply place body rest s x = elim (x.told) [
    | inl h ↦ subst (λ ms. IsAnswered ch k r behind x.mid x.now (Leaves F.WriteFault None) (x.sent ++ rest) (x.m ∷ ms)) (sym h.1)
        (subst (λ w. IsAnswered ch k r behind x.mid x.now (Leaves F.WriteFault None) w (x.m ∷ []))
        (sym (append-nil (head_of_stream (terms_of r) Takeover.None reply))
        ∙ ap (λ y. head_of_stream (terms_of r) Takeover.None reply ++ y) (sym (no_chunks body x.chunks h.0 x.cut)) ∙ x.whole)
        (HeadIsLost x.c Takeover.None reply x.m x.asks (made_before_at x.mid x.at x.now x.m x.c reply x.made x.since) x.form))
    | inr told ↦ stream_so r behind reply place body rest s x told
  ]

  -- a ticket that is held may be dropped, for want of memory
  may_drop : (n : ℕ) (r : Request) (behind : List ℕ) (s : Span) → (x : Waits ch k n r behind s)
      → IsBegun ch k r behind x.2.mid x.2.at [] (x.2.m ∷ x.2.others)
  may_drop n r behind s (c, plain, x) = record {
    more = drop_step ch k n;
    rest = out_of_memory_response (terms_of r);
    later = [];
    flow = flow_of (terms_of r);
    own = drops_alone ch k n;
    answered = subst (IsAnswered ch k r behind x.mid (x.at ++ drop_step ch k n) (flow_of (terms_of r)) (out_of_memory_response (terms_of r)))
        (sym (append-nil (x.m ∷ x.others)))
        (AtOnce (out_of_memory_response (terms_of r)) (x.m ∷ x.others) (DroppedForMemory c (x.m ∷ x.others) x.asks plain
        (gives_up ch k n r c behind s.written s (x.at ++ drop_step ch k n) (drop_reply ch k n x.at) x (drops ch k n x.at))));
  }

  may_break : (n : ℕ) (r : Request) (behind rest : List ℕ) (s : Span) → (x : WaitsEarly ch k n r behind rest s)
      → IsBegun ch k r behind x.ticket.mid x.ticket.at x.sent (x.ticket.m ∷ x.ticket.others)
  may_break n r behind rest s x = record {
    more = drop_step ch k n;
    rest = rest;
    later = [];
    flow = Leaves F.NoMemory None;
    own = drops_alone ch k n;
    answered = subst (IsAnswered ch k r behind x.ticket.mid (x.ticket.at ++ drop_step ch k n) (Leaves F.NoMemory None) (x.sent ++ rest))
        (sym (append-nil (x.ticket.m ∷ x.ticket.others)))
        (subst (λ w. IsAnswered ch k r behind x.ticket.mid (x.ticket.at ++ drop_step ch k n) (Leaves F.NoMemory None) w (x.ticket.m ∷ x.ticket.others)) x.head
        (broken_row ch k r x.c behind (x.ticket.m ∷ x.ticket.others) F.NoMemory x.ticket.mid (x.ticket.at ++ drop_step ch k n) x.ticket.asks x.soon tt
        (gives_up ch k n r x.c behind x.bytes s (x.ticket.at ++ drop_step ch k n) (drop_reply ch k n x.ticket.at) x.ticket (drops ch k n x.ticket.at))));
  }

  -- what is answered wants no call more
  decided : (r : Request) (behind : List ℕ) (a b : List Step) (flow : Flow) (sent rest ms : List ℕ)
      → IsAnswered ch k r behind a b flow (sent ++ rest) ms → IsBegun ch k r behind a b sent ms
  decided r behind a b flow sent rest ms row = record {
    more = [];
    rest = rest;
    later = [];
    flow = flow;
    own = refl;
    answered = subst (λ y. IsAnswered ch k r behind a y flow (sent ++ rest) (ms ++ [])) (sym (append-nil b))
        (subst (IsAnswered ch k r behind a b flow (sent ++ rest)) (sym (append-nil ms)) row);
  }

  -- ---- each state is on its way

  reads_so : (tail : List ℕ) (s : Span) → Reads ch k tail s → IsProgress ch k s
  reads_so tail s x = record {
    done = x.stands.done;
    tail = tail;
    mid = x.mid;
    bytes = s.written;
    last = [];
    early = s.handed;
    late = [];
    requests = x.stands.requests;
    answered = x.stands.answered;
    underway = Nothing refl refl x.quiet;
    wrote = sym (append-nil s.written);
    handed = sym (append-nil s.handed);
  }

  waits_so : (n : ℕ) (r : Request) (behind : List ℕ) (s : Span) → Waits ch k n r behind s → IsProgress ch k s
  waits_so n r behind s x = record {
    done = x.2.stands.done;
    tail = x.2.tail;
    mid = x.2.mid;
    bytes = s.written;
    last = [];
    early = x.2.early;
    late = x.2.m ∷ x.2.others;
    requests = x.2.stands.requests;
    answered = x.2.stands.answered;
    underway = One r behind x.2.at x.2.begins (may_drop n r behind s x) x.2.quiet;
    wrote = sym (append-nil s.written);
    handed = x.2.handed;
  }

  waits_early_so : (n : ℕ) (r : Request) (behind rest : List ℕ) (s : Span) → WaitsEarly ch k n r behind rest s → IsProgress ch k s
  waits_early_so n r behind rest s x = record {
    done = x.ticket.stands.done;
    tail = x.ticket.tail;
    mid = x.ticket.mid;
    bytes = x.bytes;
    last = x.sent;
    early = x.ticket.early;
    late = x.ticket.m ∷ x.ticket.others;
    requests = x.ticket.stands.requests;
    answered = x.ticket.stands.answered;
    underway = One r behind x.ticket.at x.ticket.begins (may_break n r behind rest s x) x.ticket.quiet;
    wrote = x.wrote;
    handed = x.ticket.handed;
  }

  streams_so : (r : Request) (behind : List ℕ) (reply : Reply) (place : ℕ) (body rest : List ℕ) (s : Span) → Streams ch k r behind reply place body rest s → IsProgress ch k s
  streams_so r behind reply place body rest s x = record {
    done = x.stands.done;
    tail = x.tail;
    mid = x.mid;
    bytes = x.bytes;
    last = x.sent;
    early = x.early;
    late = x.m ∷ x.late;
    requests = x.stands.requests;
    answered = x.stands.answered;
    underway = One r behind x.now x.begins
        (decided r behind x.mid x.now (Leaves F.WriteFault None) x.sent rest (x.m ∷ x.late) (stream_row r behind reply place body rest s x)) x.quiet;
    wrote = x.wrote;
    handed = x.handed;
  }

  sends_so : (flow : Flow) (r : Request) (behind rest : List ℕ) (s : Span) → Sends ch k flow r behind rest s → IsProgress ch k s
  sends_so flow r behind rest s x = record {
    done = x.stands.done;
    tail = x.tail;
    mid = x.mid;
    bytes = x.bytes;
    last = x.sent;
    early = x.early;
    late = x.late;
    requests = x.stands.requests;
    answered = x.stands.answered;
    underway = One r behind x.at x.begins (decided r behind x.mid x.at flow x.sent rest x.late (x.answer behind)) x.quiet;
    wrote = x.wrote;
    handed = x.handed;
  }

  refuses_so : (status : ℕ) (rest : List ℕ) (s : Span) → Refuses ch k status rest s → IsProgress ch k s
  refuses_so status rest s x = record {
    done = x.stands.done;
    tail = x.tail;
    mid = x.mid;
    bytes = x.bytes;
    last = x.sent;
    early = s.handed;
    late = [];
    requests = x.stands.requests;
    answered = x.stands.answered;
    underway = Refusal status x.refused (rest, sym x.whole) refl x.quiet;
    wrote = x.wrote;
    handed = sym (append-nil s.handed);
  }

  pub progress : (s : Span) → ProgressLaws ch k s
  progress s = record {
    reads = λ tail x. reads_so tail s x;
    waits = λ n r behind x. waits_so n r behind s x;
    early = λ n r behind rest x. waits_early_so n r behind rest s x;
    streams = λ r behind reply place body rest x. streams_so r behind reply place body rest s x;
    sends = λ flow r behind rest x. sends_so flow r behind rest s x;
    refuses = λ status rest x. refuses_so status rest s x;
  }
