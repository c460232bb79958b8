-- A session reads and writes, beside steps of others: each step leads from one state to the next.
use Rattle.std.proofs.Common.{◌≡◌, ℕ, List, [], ◌∷◌, ◌++◌, inl, refl, sym, ◌∙◌, ap, subst, append_assoc, append-nil}
use Rattle.engine_text.specs.declared.call.Call.{Call}
use Rattle.engine_text.specs.declared.reply.Reply.TheVariants.{Answer, Begun}
use Rattle.engine_text.specs.declared.step.Step.{Step}
use Rattle.machine_model.specs.History.{Charter}
use Rattle.http_edge.specs.Message.{Request}
use Rattle.http_edge.specs.Spelling.{Begins}
use Rattle.api_routes.specs.Class.{class_of}
use Rattle.api_routes.specs.declared.class.Class.TheVariants.{Direct, Ask}
use Rattle.api_routes.specs.declared.class.DirectAnswer.{DirectAnswer}
use Rattle.api_routes.specs.declared.class.Takeover.{Takeover}
use Rattle.session_model.specs.Responses.{terms_of, direct_bytes, head_of_stream}
use Rattle.session_model.specs.Exchange.{GoesOn, flow_of, IsQuiet, IsMadeAt, IsAnswered, IsAnsweredWhole, AtOnce, FromItsBytes, ByItsCall, JournalIsFull, OutOfMemory}
use Rattle.session_model.specs.Session.{AreAnswered, OneMore, Span}
use Rattle.session_model.proofs.HistoryLemmas.{quiet_same, quiet_on, made_behind_at}
use Rattle.session_model.proofs.MomentLemmas.{none_handed}
use Rattle.session_model.proofs.SessionLemmas.{reads_more, reads_on}
use Rattle.polled_model.specs.Stages.{HoldsTicket, Reads, Sends}
use Rattle.polled_model.specs.Steps.{StaysBeside, StepsOfReads, StepsOfWrites, come_to}
use Rattle.polled_model.proofs.AnswerLemmas.{none_chunked}

module _ (ch : Charter) (k : ℕ) where
  -- ---- beside steps of others

  pub ticket_beside : (n : ℕ) (r : Request) (c : Call) (behind bytes ms : List ℕ) (s : Span) (b : List Step) → IsQuiet k s.to b
      → HoldsTicket ch k n r c behind bytes s → HoldsTicket ch k n r c behind bytes (come_to s b ms)
  ticket_beside n r c behind bytes ms s b quiet x = record {
    tail = x.tail;
    mid = x.mid;
    at = x.at;
    early = x.early;
    m = x.m;
    others = x.others ++ ms;
    stands = x.stands;
    begins = x.begins;
    asks = x.asks;
    made = x.made;
    quiet = quiet_on k x.at s.to b x.quiet quiet;
    handed = ap (λ y. y ++ ms) x.handed ∙ append_assoc x.early (x.m ∷ x.others) ms;
  }

  ticket_to : (n : ℕ) (r : Request) (c : Call) (behind bytes : List ℕ) (s : Span) (b : List Step) → IsQuiet k s.to b
      → HoldsTicket ch k n r c behind bytes s → HoldsTicket ch k n r c behind bytes (record s { to = b })
  ticket_to n r c behind bytes s b quiet x = record {
    tail = x.tail;
    mid = x.mid;
    at = x.at;
    early = x.early;
    m = x.m;
    others = x.others;
    stands = x.stands;
    begins = x.begins;
    asks = x.asks;
    made = x.made;
    quiet = quiet_on k x.at s.to b x.quiet quiet;
    handed = x.handed;
  }

  pub beside : (s : Span) (b : List Step) → IsQuiet k s.to b → StaysBeside ch k s b
  beside s b quiet = record {
    reads = λ tail x. record { mid = x.mid; stands = x.stands; quiet = quiet_on k x.mid s.to b x.quiet quiet };
    waits = λ n r behind x. (x.0, x.1, ticket_to n r x.0 behind s.written s b quiet x.2);
    early = λ n r behind rest x. record {
      c = x.c;
      bytes = x.bytes;
      sent = x.sent;
      soon = x.soon;
      ticket = ticket_to n r x.c behind x.bytes s b quiet x.ticket;
      head = x.head;
      wrote = x.wrote;
    };
    streams = λ r behind reply place body rest x. record {
      c = x.c;
      tail = x.tail;
      mid = x.mid;
      at = x.at;
      now = x.now;
      bytes = x.bytes;
      sent = x.sent;
      chunks = x.chunks;
      early = x.early;
      m = x.m;
      late = x.late;
      stands = x.stands;
      begins = x.begins;
      asks = x.asks;
      form = x.form;
      made = x.made;
      told = x.told;
      reaches = x.reaches;
      comes = x.comes;
      cut = x.cut;
      since = x.since;
      quiet = quiet_on k x.now s.to b x.quiet quiet;
      whole = x.whole;
      wrote = x.wrote;
      handed = x.handed;
    };
    sends = λ flow r behind rest x. record {
      tail = x.tail;
      mid = x.mid;
      at = x.at;
      bytes = x.bytes;
      sent = x.sent;
      early = x.early;
      late = x.late;
      stands = x.stands;
      begins = x.begins;
      answer = x.answer;
      quiet = quiet_on k x.at s.to b x.quiet quiet;
      wrote = x.wrote;
      handed = x.handed;
    };
    refuses = λ status rest x. record {
      tail = x.tail;
      mid = x.mid;
      bytes = x.bytes;
      sent = x.sent;
      stands = x.stands;
      refused = x.refused;
      whole = x.whole;
      quiet = quiet_on k x.mid s.to b x.quiet quiet;
      wrote = x.wrote;
    };
  }

  -- ---- reading

  -- a request behind what is answered is answered by this row, up to a history b
  at_once : (tail behind w ms : List ℕ) (r : Request) (s : Span) (b : List Step) → (x : Reads ch k tail s) → Begins tail r behind
      → ((more : List ℕ) → IsAnsweredWhole ch k r more x.mid b w ms)
      → Sends ch k (flow_of (terms_of r)) r behind w (come_to s b ms)
  at_once tail behind w ms r s b x begins row = record {
    tail = tail;
    mid = x.mid;
    at = b;
    bytes = s.written;
    sent = [];
    early = s.handed;
    late = ms;
    stands = x.stands;
    begins = begins;
    answer = λ more. AtOnce w ms (row more);
    quiet = quiet_same k b;
    wrote = sym (append-nil s.written);
    handed = refl;
  }

  direct' : (tail behind : List ℕ) (r : Request) (answer : DirectAnswer) (s : Span) → Reads ch k tail s → Begins tail r behind
      → class_of r ≡ Direct answer → Sends ch k (flow_of (terms_of r)) r behind (direct_bytes (terms_of r) answer) s
  direct' tail behind r answer s x begins class = record {
    tail = tail;
    mid = x.mid;
    at = x.mid;
    bytes = s.written;
    sent = [];
    early = s.handed;
    late = [];
    stands = x.stands;
    begins = begins;
    answer = λ more. AtOnce _ [] (FromItsBytes answer class (quiet_same k x.mid));
    quiet = x.quiet;
    wrote = sym (append-nil s.written);
    handed = sym (append-nil s.handed);
  }

  holds : (tail behind : List ℕ) (m : ℕ) (r : Request) (c : Call) (n : ℕ) (s : Span) (b : List Step) → Reads ch k tail s
      → Begins tail r behind → class_of r ≡ Ask c → IsMadeAt ch k m c s.to b (Begun n)
      → HoldsTicket ch k n r c behind s.written (come_to s b (m ∷ []))
  holds tail behind m r c n s b x begins asks made = record {
    tail = tail;
    mid = x.mid;
    at = b;
    early = s.handed;
    m = m;
    others = [];
    stands = x.stands;
    begins = begins;
    asks = asks;
    made = made_behind_at ch k m c x.mid s.to b (Begun n) x.quiet made;
    quiet = quiet_same k b;
    handed = refl;
  }

  pub reading : (tail : List ℕ) (s : Span) → StepsOfReads ch k tail s
  reading tail s = record {
    reads_on = λ more x. record {
      mid = x.mid;
      stands = record {
        done = x.stands.done;
        requests = reads_more s.read x.stands.done tail more x.stands.requests;
        answered = x.stands.answered;
      };
      quiet = x.quiet;
    };
    direct = λ behind r answer. direct' tail behind r answer s;
    short = λ behind ms r b x begins quiet unasked once.
        at_once tail behind _ ms r s b x begins (λ more. OutOfMemory ms (quiet_on k x.mid s.to b x.quiet quiet) unasked once);
    full = λ behind m r c b x begins asks quiet none.
        at_once tail behind _ (m ∷ []) r s b x begins (λ more. JournalIsFull c m asks (quiet_on k x.mid s.to b x.quiet quiet) none);
    called = λ behind m r c status body b x begins asks made.
        at_once tail behind _ (m ∷ []) r s b x begins
        (λ more. ByItsCall c status m body asks (made_behind_at ch k m c x.mid s.to b (Answer status body) x.quiet made));
    begun = λ behind m r c n b x begins asks plain made. (c, plain, holds tail behind m r c n s b x begins asks made);
    begun_early = λ behind m r c n b x begins asks soon made. record {
      c = c;
      bytes = s.written;
      sent = [];
      soon = soon;
      ticket = holds tail behind m r c n s b x begins asks made;
      head = refl;
      wrote = sym (append-nil s.written);
    };
    streamed = λ behind m r c reply b x begins asks form made reaches. record {
      c = c;
      tail = tail;
      mid = x.mid;
      at = b;
      now = b;
      bytes = s.written;
      sent = [];
      chunks = [];
      early = s.handed;
      m = m;
      late = [];
      stands = x.stands;
      begins = begins;
      asks = asks;
      form = form;
      made = made_behind_at ch k m c x.mid s.to b reply x.quiet made;
      told = inl (refl, refl);
      reaches = reaches;
      comes = none_handed reply;
      cut = none_chunked;
      since = quiet_same k b;
      quiet = quiet_same k b;
      whole = append-nil (head_of_stream (terms_of r) Takeover.None reply);
      wrote = sym (append-nil s.written);
      handed = refl;
    };
    refused = λ status x refused. record {
      tail = tail;
      mid = x.mid;
      bytes = s.written;
      sent = [];
      stands = x.stands;
      refused = refused;
      whole = refl;
      quiet = x.quiet;
      wrote = sym (append-nil s.written);
    };
  }

  -- ---- writing

  pub writing : (part rest : List ℕ) (s : Span) → StepsOfWrites ch k part rest s
  writing part rest s = record {
    early = λ n r behind x. record {
      c = x.c;
      bytes = x.bytes;
      sent = x.sent ++ part;
      soon = x.soon;
      ticket = record {
        tail = x.ticket.tail;
        mid = x.ticket.mid;
        at = x.ticket.at;
        early = x.ticket.early;
        m = x.ticket.m;
        others = x.ticket.others;
        stands = x.ticket.stands;
        begins = x.ticket.begins;
        asks = x.ticket.asks;
        made = x.ticket.made;
        quiet = x.ticket.quiet;
        handed = x.ticket.handed;
      };
      head = x.head ∙ sym (append_assoc x.sent part rest);
      wrote = ap (λ w. w ++ part) x.wrote ∙ append_assoc x.bytes x.sent part;
    };
    streams = λ r behind reply place body x. record {
      c = x.c;
      tail = x.tail;
      mid = x.mid;
      at = x.at;
      now = x.now;
      bytes = x.bytes;
      sent = x.sent ++ part;
      chunks = x.chunks;
      early = x.early;
      m = x.m;
      late = x.late;
      stands = x.stands;
      begins = x.begins;
      asks = x.asks;
      form = x.form;
      made = x.made;
      told = x.told;
      reaches = x.reaches;
      comes = x.comes;
      cut = x.cut;
      since = x.since;
      quiet = x.quiet;
      whole = x.whole ∙ sym (append_assoc x.sent part rest);
      wrote = ap (λ w. w ++ part) x.wrote ∙ append_assoc x.bytes x.sent part;
      handed = x.handed;
    };
    sends = λ flow r behind x. record {
      tail = x.tail;
      mid = x.mid;
      at = x.at;
      bytes = x.bytes;
      sent = x.sent ++ part;
      early = x.early;
      late = x.late;
      stands = x.stands;
      begins = x.begins;
      answer = λ more. subst (λ w. IsAnswered ch k r more x.mid x.at flow w x.late) (sym (append_assoc x.sent part rest)) (x.answer more);
      quiet = x.quiet;
      wrote = ap (λ w. w ++ part) x.wrote ∙ append_assoc x.bytes x.sent part;
      handed = x.handed;
    };
    refuses = λ status x. record {
      tail = x.tail;
      mid = x.mid;
      bytes = x.bytes;
      sent = x.sent ++ part;
      stands = x.stands;
      refused = x.refused;
      whole = x.whole ∙ sym (append_assoc x.sent part rest);
      quiet = x.quiet;
      wrote = ap (λ w. w ++ part) x.wrote ∙ append_assoc x.bytes x.sent part;
    };
    goes_on = λ r behind x. record {
      mid = x.at;
      stands = record {
        done = x.stands.done ++ r ∷ [];
        requests = reads_on s.read x.stands.done x.tail r behind x.stands.requests x.begins;
        answered = subst (λ w. AreAnswered ch k (x.stands.done ++ r ∷ []) s.from x.at w s.handed) (sym x.wrote)
            (subst (λ ms. AreAnswered ch k (x.stands.done ++ r ∷ []) s.from x.at (x.bytes ++ x.sent) ms) (sym x.handed)
            (OneMore x.stands.done r s.from x.mid x.at x.bytes x.sent x.early x.late x.stands.answered
            (subst (λ w. IsAnswered ch k r [] x.mid x.at GoesOn w x.late) (append-nil x.sent) (x.answer []))));
      };
      quiet = x.quiet;
    };
  }
