-- A session ends.
use Rattle.std.proofs.Common.{◌≡◌, ℕ, List, [], ◌∷◌, ◌++◌, Option, Some, None, inl, inr, refl, sym, ◌∙◌, ap, subst, append-nil, Bool, false}
use Rattle.engine_ports.specs.Rose.{Rose}
use Rattle.engine_text.specs.declared.reply.Reply.{Reply}
use Rattle.engine_text.specs.declared.step.Step.{Step}
use Rattle.machine_model.specs.History.{Charter}
use Rattle.http_edge.specs.Message.{Request}
use Rattle.http_edge.specs.Spelling.{Begins}
use Rattle.session_model.specs.declared.ending.Ending.{Ending}
use Rattle.session_model.specs.declared.ending.Ending.TheVariants as E
use Rattle.session_model.specs.declared.followed.Followed.TheVariants as F
use Rattle.session_model.specs.Exchange.{Flow, Leaves, IsAnswered}
use Rattle.session_model.specs.Session.{Cause, EndsAt, IsWritten, Span, ending_of, is_pumped}
use Rattle.polled_model.specs.Progress.{HasEnded}
use Rattle.polled_model.specs.Stages.{Reads, Streams, Sends, Refuses}
use Rattle.polled_model.specs.Steps.{Endings}
use Rattle.polled_model.proofs.ProgressLemmas.{stream_row}

module _ (ch : Charter) (k : ℕ) where
  -- where nothing is under way
  at_end : (e : Ending) (tail : List ℕ) (s : Span) → (x : Reads ch k tail s)
      → EndsAt e tail (record s { from = x.mid; to = x.mid; written = []; handed = [] }) → HasEnded ch k e false s
  at_end e tail s x ends = (
    x.mid,
    x.quiet,
    record {
      done = x.stands.done;
      tail = tail;
      mid = x.mid;
      bytes = s.written;
      last = [];
      early = s.handed;
      late = [];
      requests = x.stands.requests;
      answered = x.stands.answered;
      ends = inl (ends, refl, refl, refl);
      wrote = sym (append-nil s.written);
      handed = sym (append-nil s.handed);
    },
  )

  -- behind an answer, or inside of one
  by_answer : (flow : Flow) (e : Ending) (r : Request) (behind rest : List ℕ) (s : Span) → (x : Sends ch k flow r behind rest s)
      → IsWritten e flow (x.sent ++ rest) x.sent s.old.sink s.new.sink → Cause flow s.old s.new → HasEnded ch k e (is_pumped flow) s
  by_answer flow e r behind rest s x written cause = (
    x.at,
    x.quiet,
    record {
      done = x.stands.done;
      tail = x.tail;
      mid = x.mid;
      bytes = x.bytes;
      last = x.sent;
      early = x.early;
      late = x.late;
      requests = x.stands.requests;
      answered = x.stands.answered;
      ends = inr (
        r,
        behind,
        x.begins,
        record {
          flow = flow;
          whole = x.sent ++ rest;
          answered = x.answer behind;
          written = written;
          cause = cause;
          pumped = refl;
        },
      );
      wrote = x.wrote;
      handed = x.handed;
    },
  )

  -- behind a refusal, or inside of one
  by_refusal : (e : Ending) (status : ℕ) (rest : List ℕ) (s : Span) → (x : Refuses ch k status rest s)
      → EndsAt e x.tail (record s { from = x.mid; to = x.mid; written = x.sent; handed = [] }) → HasEnded ch k e false s
  by_refusal e status rest s x ends = (
    x.mid,
    x.quiet,
    record {
      done = x.stands.done;
      tail = x.tail;
      mid = x.mid;
      bytes = x.bytes;
      last = x.sent;
      early = s.handed;
      late = [];
      requests = x.stands.requests;
      answered = x.stands.answered;
      ends = inl (ends, refl, refl, refl);
      wrote = x.wrote;
      handed = sym (append-nil s.handed);
    },
  )

  -- inside of a stream: its head was lost, or a write of it
  in_stream : (r : Request) (behind : List ℕ) (reply : Reply) (place : ℕ) (body rest : List ℕ) (s : Span) → (x : Streams ch k r behind reply place body rest s)
      → Rose s.old.sink.faults s.new.sink.faults → HasEnded ch k E.WriteFault false s
  in_stream r behind reply place body rest s x rose = (
    x.now,
    x.quiet,
    record {
      done = x.stands.done;
      tail = x.tail;
      mid = x.mid;
      bytes = x.bytes;
      last = x.sent;
      early = x.early;
      late = x.m ∷ x.late;
      requests = x.stands.requests;
      answered = x.stands.answered;
      ends = inr (
        r,
        behind,
        x.begins,
        record {
          flow = Leaves F.WriteFault None;
          whole = x.sent ++ rest;
          answered = stream_row ch k r behind reply place body rest s x;
          written = inr (refl, (rest, refl), rose);
          cause = (rose, tt);
          pumped = refl;
        },
      );
      wrote = x.wrote;
      handed = x.handed;
    },
  )

  pub ending : (s : Span) → Endings ch k s
  ending s = record {
    closed = λ x ended. at_end E.Closed [] s x (refl, refl, ended);
    cut = λ tail x unfinished ended. at_end E.CutShort tail s x (unfinished, refl, ended);
    unread = λ tail x none rose. at_end E.ReadFault tail s x (none, refl, rose);
    behind = λ flow e r behind x brings cause. by_answer flow e r behind [] s x (inl (brings, sym (append-nil x.sent))) cause;
    refused = λ status x. by_refusal (E.Refused status) status [] s x (x.refused, sym (x.whole ∙ append-nil x.sent));
    unsent = λ flow r behind rest x cause rose. by_answer flow E.WriteFault r behind rest s x (inr (refl, (rest, refl), rose)) cause;
    untold = λ r behind reply place body rest x rose. in_stream r behind reply place body rest s x rose;
    unrefused = λ status rest x rose. by_refusal E.WriteFault status rest s x (status, x.refused, (rest, sym x.whole), rose);
  }
