-- A connection that was taken over: its input is fed, its stream told, and both end.
use Rattle.std.proofs.Common.{◌≡◌, ℕ, List, [], ◌∷◌, ◌++◌, Option, None, Some, Bool, true, false, inl, inr, refl, sym, ◌∙◌, ap, subst, append_assoc, append-nil}
use Rattle.std.specs.List.{concat}
use Rattle.std.specs.Prelude.{unwrap_or}
use Rattle.engine_ports.specs.Rose.{Rose}
use Rattle.engine_text.specs.declared.call.Call.{Call}
use Rattle.engine_text.specs.declared.call.Call.TheVariants.{Feed, FeedEnd}
use Rattle.engine_text.specs.declared.owner.Owner.{Owner}
use Rattle.engine_text.specs.declared.reply.LogSpec.{LogSpec}
use Rattle.engine_text.specs.declared.reply.Reply.{Reply}
use Rattle.engine_text.specs.declared.reply.Reply.TheVariants.{LogStream, Fed}
use Rattle.engine_text.specs.declared.step.Step.{Step}
use Rattle.machine_model.specs.History.{Charter, Extends, input_of}
use Rattle.http_edge.specs.Message.{Request}
use Rattle.http_edge.specs.Spelling.{Begins}
use Rattle.api_routes.specs.Class.{class_of}
use Rattle.api_routes.specs.declared.class.Class.TheVariants.{Stream}
use Rattle.api_routes.specs.declared.class.Takeover.{Takeover}
use Rattle.session_model.specs.declared.ending.Ending.{Ending}
use Rattle.session_model.specs.declared.ending.Ending.TheVariants as E
use Rattle.session_model.specs.declared.followed.Followed.{Followed}
use Rattle.session_model.specs.declared.followed.Followed.TheVariants as F
use Rattle.session_model.specs.declared.followed.PumpEnd.{PumpEnd}
use Rattle.session_model.specs.declared.followed.PumpEnd.TheVariants as P
use Rattle.session_model.specs.Exchange.{AtSome, AtLast, EndsSo, Feeds, Flow, IsAnswered, IsBody, IsMade, IsMadeAt, IsQuiet, Leaves, Pumps, PumpsOut, TakenOver, is_whole}
use Rattle.session_model.specs.Responses.{takeover_head}
use Rattle.session_model.specs.Session.{Cause, IsWritten, Span, ending_of, ending_of_ends, is_pumped}
use Rattle.session_model.proofs.HistoryLemmas.{extends_on, extends_same, made_behind, made_behind_at, made_extends, quiet_same, quiet_on, quiet_extends}
use Rattle.session_model.proofs.SessionLemmas.{begins_more, reads_more}
use Rattle.polled_model.specs.Progress.{IsProgress, HasEnded, One}
use Rattle.polled_model.specs.Stages.{Answered, Reads}
use Rattle.polled_model.specs.Steps.{come_to}
use Rattle.polled_model.specs.Takeovers.{Input, NoInput, Open, Over, end_of, InputSays, Tells, Takes, Takings, StepsOfTakeovers, EndsOfTakeovers, TakeoverLaws, followed_or_lost, law_takeovers}
use Rattle.polled_model.proofs.InputLemmas.{concat_on, some_on, body_on, out_behind, out_extends, feeds_on, input_on, input_ends, last_at}

module _ (ch : Charter) (k : ℕ) where
  -- ---- the row of a takeover that ends now

  row : (r : Request) (t : Takeover) (spec : LogSpec) (behind : List ℕ) (input : Input) (f : Followed) (body w ms : List ℕ) (c : Call) (m : ℕ) (a at b : List Step)
      → class_of r ≡ Stream c t → (t ≡ Takeover.None → ⊥) → IsMadeAt ch k m c a at (LogStream spec) → InputSays ch k spec input behind at b
      → IsBody ch (LogStream spec) (is_whole f) at b body → AtLast (end_of input) at b (EndsSo ch (LogStream spec) f body ms at)
      → takeover_head t ++ body ≡ w → IsAnswered ch k r behind a b (Leaves f (end_of input)) w (m ∷ ms)
  row r t spec behind input f body w ms c m a at b asks over made input_is told ends whole =
      subst (λ v. IsAnswered ch k r behind a b (Leaves f (end_of input)) v (m ∷ ms)) whole
      (TakenOver c t spec f (end_of input) at m body ms asks over made (input_ends ch k spec input behind at b input_is) told ends)

  module _ (r : Request) (t : Takeover) (spec : LogSpec) (behind : List ℕ) (input : Input) (body rest : List ℕ) (s : Span) where
    -- where the stream isn't ended, a write of it may fail
    told_row : (x : Takes ch k r t spec behind input None body rest s) → Extends x.at x.now
        → IsAnswered ch k r behind x.mid x.now (Leaves F.WriteFault (end_of input)) (x.sent ++ rest) (x.m ∷ x.late)
    told_row x from =
        row r t spec behind input F.WriteFault body (x.sent ++ rest) x.late x.c x.m x.mid x.at x.now x.asks x.over x.made x.input_is x.told
        (last_at ch k (end_of input) x.at x.now (EndsSo ch (LogStream spec) F.WriteFault body x.late x.at) from tt) x.whole

    ended_row : (f : Followed) (x : Takes ch k r t spec behind input (Some f) body rest s)
        → IsAnswered ch k r behind x.mid x.now (Leaves f (end_of input)) (x.sent ++ rest) (x.m ∷ x.late)
    ended_row f x = row r t spec behind input f body (x.sent ++ rest) x.late x.c x.m x.mid x.at x.now x.asks x.over x.made x.input_is x.told.0 x.told.1 x.whole

    -- a part of a stream was told at some history since the call
    body_extends : (whole : Bool) (at b : List Step) (bytes : List ℕ) → IsBody ch (LogStream spec) whole at b bytes → Extends at b
    body_extends whole at b bytes (now, from, to, says) = extends_on at now b from to

    any_row : (followed : Option Followed) (x : Takes ch k r t spec behind input followed body rest s)
        → IsAnswered ch k r behind x.mid x.now (Leaves (followed_or_lost followed) (end_of input)) (x.sent ++ rest) (x.m ∷ x.late)
    any_row None x = told_row x (body_extends false x.at x.now body x.told)
    any_row (Some f) x = ended_row f x

    ended_by : (followed : Option Followed) (e : Ending) (x : Takes ch k r t spec behind input followed body rest s)
        → IsWritten e (Leaves (followed_or_lost followed) (end_of input)) (x.sent ++ rest) x.sent s.old.sink s.new.sink
        → Cause (Leaves (followed_or_lost followed) (end_of input)) s.old s.new
        → HasEnded ch k e (is_pumped (Leaves (followed_or_lost followed) (end_of input))) s
    ended_by followed e x written cause = (
      x.now,
      x.quiet,
      record {
        done = x.stands.done;
        tail = x.tail;
        mid = x.mid;
        bytes = x.bytes;
        last = x.sent;
        early = x.early;
        late = x.m ∷ x.late;
        requests = x.stands.requests;
        answered = x.stands.answered;
        ends = inr (
          r,
          behind,
          x.begins,
          record {
            flow = Leaves (followed_or_lost followed) (end_of input);
            whole = x.sent ++ rest;
            answered = any_row followed x;
            written = written;
            cause = cause;
            pumped = refl;
          },
        );
        wrote = x.wrote;
        handed = x.handed;
      },
    )

    progress_of : (followed : Option Followed) → Takes ch k r t spec behind input followed body rest s → IsProgress ch k s
    progress_of followed x = record {
      done = x.stands.done;
      tail = x.tail;
      mid = x.mid;
      bytes = x.bytes;
      last = x.sent;
      early = x.early;
      late = x.m ∷ x.late;
      requests = x.stands.requests;
      answered = x.stands.answered;
      underway = One r behind x.now x.begins
          (record {
            more = [];
            rest = rest;
            later = [];
            flow = Leaves (followed_or_lost followed) (end_of input);
            own = refl;
            answered = subst (λ y. IsAnswered ch k r behind x.mid y (Leaves (followed_or_lost followed) (end_of input)) (x.sent ++ rest) ((x.m ∷ x.late) ++ [])) (sym (append-nil x.now))
                (subst (IsAnswered ch k r behind x.mid x.now (Leaves (followed_or_lost followed) (end_of input)) (x.sent ++ rest)) (sym (append-nil (x.m ∷ x.late)))
                (any_row followed x));
          })
          x.quiet;
      wrote = x.wrote;
      handed = x.handed;
    }

  ends_of : (r : Request) (t : Takeover) (spec : LogSpec) (behind : List ℕ) (input : Input) (body : List ℕ) (s : Span) → EndsOfTakeovers ch k r t spec behind input body s
  ends_of r t spec behind input body s = record {
    whole = λ f x cause. ended_by r t spec behind input body [] s (Some f) (ending_of_ends f (end_of input)) x (inl (refl, sym (append-nil x.sent))) cause;
    unsent = λ followed rest x cause rose. ended_by r t spec behind input body rest s followed E.WriteFault x (inr (refl, (rest, refl), rose)) cause;
    progress = λ followed rest x. progress_of r t spec behind input body rest s followed x;
  }

  -- ---- steps

  takings : (r : Request) (t : Takeover) (spec : LogSpec) (behind : List ℕ) (s : Span) → Takings ch k r t spec behind s
  takings r t spec behind s = record {
    unfed = λ tail m c b x begins asks over made told feed. begun tail m c b x begins asks over made told NoInput (feed, quiet_same k b);
    fed = λ tail m n c b x begins asks over made told feed. begun tail m c b x begins asks over made told (Open behind) (n, feed, ([], b, refl, refl, quiet_same k b));
  }
    where
      begun : (tail : List ℕ) (m : ℕ) (c : Call) (b : List Step) → Reads ch k tail s → Begins tail r behind → class_of r ≡ Stream c t
          → (t ≡ Takeover.None → ⊥) → IsMadeAt ch k m c s.to b (LogStream spec) → IsBody ch (LogStream spec) false b b []
          → (input : Input) → InputSays ch k spec input behind b b → Takes ch k r t spec behind input None [] (takeover_head t) (come_to s b (m ∷ []))
      begun tail m c b x begins asks over made told input says = record {
        c = c;
        tail = tail;
        mid = x.mid;
        at = b;
        now = b;
        bytes = s.written;
        sent = [];
        early = s.handed;
        m = m;
        late = [];
        stands = x.stands;
        begins = begins;
        asks = asks;
        over = over;
        made = made_behind_at ch k m c x.mid s.to b (LogStream spec) x.quiet made;
        input_is = says;
        told = told;
        quiet = quiet_same k b;
        whole = append-nil (takeover_head t);
        wrote = sym (append-nil s.written);
        handed = refl;
      }

  -- what is told of a stream beside an input, at a later history
  told_on : (spec : LogSpec) (input input' : Input) (end : PumpEnd) (followed : Option Followed) (at b c : List Step) (body ms : List ℕ) → end_of input ≡ Some end
      → (end' : PumpEnd) → end_of input' ≡ Some end' → Extends b c → Tells ch k spec input followed at b body ms → Tells ch k spec input' followed at c body ms
  told_on spec input input' end None at b c body ms is end' is' e told = body_on ch spec false at b c body e told
  told_on spec input input' end (Some f) at b c body ms is end' is' e told = (
    body_on ch spec (is_whole f) at b c body e told.0,
    subst (λ o. AtLast o at c (EndsSo ch (LogStream spec) f body ms at)) (sym is')
        (some_on at b c (EndsSo ch (LogStream spec) f body ms at) e (subst (λ o. AtLast o at b (EndsSo ch (LogStream spec) f body ms at)) is told.1)),
  )

  steps_of : (r : Request) (t : Takeover) (spec : LogSpec) (behind : List ℕ) (followed : Option Followed) (body rest : List ℕ) (s : Span)
      → StepsOfTakeovers ch k r t spec behind followed body rest s
  steps_of r t spec behind followed body rest s = record {
    reads_on = λ left more x.
        let i = x.input_is in record {
          c = x.c;
          tail = x.tail ++ more;
          mid = x.mid;
          at = x.at;
          now = x.now;
          bytes = x.bytes;
          sent = x.sent;
          early = x.early;
          m = x.m;
          late = x.late;
          stands = record {
            done = x.stands.done;
            requests = reads_more s.read x.stands.done x.tail more x.stands.requests;
            answered = x.stands.answered;
          };
          begins = begins_more x.tail r behind more x.begins;
          asks = x.asks;
          over = x.over;
          made = x.made;
          input_is = (i.0, i.1, (i.2.0, i.2.1, ap (λ l. l ++ more) i.2.2 ∙ append_assoc (concat i.2.0) left more, i.2.3, i.2.4));
          told = told_on spec (Open left) (Open (left ++ more)) P.NoMemory followed x.at x.now x.now body x.late refl P.NoMemory refl (extends_same x.now) x.told;
          quiet = x.quiet;
          whole = x.whole;
          wrote = x.wrote;
          handed = x.handed;
        };
    feeds = λ n piece left b x feed made.
        let i = x.input_is in
        let same : i.0 ≡ n = ap (λ o. unwrap_or o 0) (sym i.1 ∙ feed) in
        let made' : IsMade ch k (input_of k) (Feed spec.owner i.0 piece) s.to b (Fed true) =
        subst (λ y. IsMade ch k (input_of k) (Feed spec.owner y piece) s.to b (Fed true)) (sym same) made in
        let here = made_behind ch k (input_of k) (Feed spec.owner i.0 piece) i.2.1 s.to b (Fed true) (quiet_on k i.2.1 x.now s.to i.2.4 x.quiet) made' in
        let e : Extends x.now b = extends_on x.now s.to b (quiet_extends k x.now s.to x.quiet) (made_extends ch k (input_of k) (Feed spec.owner i.0 piece) s.to b (Fed true) made') in
        record {
          c = x.c;
          tail = x.tail;
          mid = x.mid;
          at = x.at;
          now = b;
          bytes = x.bytes;
          sent = x.sent;
          early = x.early;
          m = x.m;
          late = x.late;
          stands = x.stands;
          begins = x.begins;
          asks = x.asks;
          over = x.over;
          made = x.made;
          input_is = (
            i.0,
            i.1,
            (
              i.2.0 ++ piece ∷ [],
              b,
              i.2.2 ∙ sym (append_assoc (concat i.2.0) piece left) ∙ ap (λ l. l ++ left) (sym (concat_on i.2.0 piece)),
              feeds_on ch k spec.owner i.0 i.2.0 piece x.at i.2.1 b i.2.3 here,
              quiet_same k b,
            ),
          );
          told = told_on spec (Open (piece ++ left)) (Open left) P.NoMemory followed x.at x.now b body x.late refl P.NoMemory refl e x.told;
          quiet = quiet_same k b;
          whole = x.whole;
          wrote = x.wrote;
          handed = x.handed;
        };
    pump_ends = λ n left end b x feed out.
        let i = x.input_is in
        let same : i.0 ≡ n = ap (λ o. unwrap_or o 0) (sym i.1 ∙ feed) in
        let out' : PumpsOut ch k spec.owner i.0 left end s.to b = subst (λ y. PumpsOut ch k spec.owner y left end s.to b) (sym same) out in
        let e : Extends x.now b = extends_on x.now s.to b (quiet_extends k x.now s.to x.quiet) (out_extends ch k spec.owner i.0 left end s.to b out') in record {
          c = x.c;
          tail = x.tail;
          mid = x.mid;
          at = x.at;
          now = b;
          bytes = x.bytes;
          sent = x.sent;
          early = x.early;
          m = x.m;
          late = x.late;
          stands = x.stands;
          begins = x.begins;
          asks = x.asks;
          over = x.over;
          made = x.made;
          input_is = (
            i.0,
            i.1,
            (
              i.2.0,
              left,
              i.2.1,
              i.2.2,
              i.2.3,
              out_behind ch k spec.owner i.0 left end i.2.1 s.to b (quiet_on k i.2.1 x.now s.to i.2.4 x.quiet) out',
            ),
          );
          told = told_on spec (Open left) (Over end) P.NoMemory followed x.at x.now b body x.late refl end refl e x.told;
          quiet = quiet_same k b;
          whole = x.whole;
          wrote = x.wrote;
          handed = x.handed;
        };
    tells = λ input part ms b x quiet told. record {
      c = x.c;
      tail = x.tail;
      mid = x.mid;
      at = x.at;
      now = b;
      bytes = x.bytes;
      sent = x.sent;
      early = x.early;
      m = x.m;
      late = x.late ++ ms;
      stands = x.stands;
      begins = x.begins;
      asks = x.asks;
      over = x.over;
      made = x.made;
      input_is = input_on ch k spec input behind x.at x.now b (quiet_on k x.now s.to b x.quiet quiet) x.input_is;
      told = told;
      quiet = quiet_same k b;
      whole = sym (append_assoc (takeover_head t) body part) ∙ ap (λ l. l ++ part) x.whole ∙ append_assoc x.sent rest part;
      wrote = x.wrote;
      handed = ap (λ y. y ++ ms) x.handed ∙ append_assoc x.early (x.m ∷ x.late) ms;
    };
    ends = λ input f part ms b x quiet told ends. record {
      c = x.c;
      tail = x.tail;
      mid = x.mid;
      at = x.at;
      now = b;
      bytes = x.bytes;
      sent = x.sent;
      early = x.early;
      m = x.m;
      late = x.late ++ ms;
      stands = x.stands;
      begins = x.begins;
      asks = x.asks;
      over = x.over;
      made = x.made;
      input_is = input_on ch k spec input behind x.at x.now b (quiet_on k x.now s.to b x.quiet quiet) x.input_is;
      told = (told, last_at ch k (end_of input) x.at b (EndsSo ch (LogStream spec) f (body ++ part) (x.late ++ ms) x.at) (extends_on x.at told.0 b told.1 told.2) ends);
      quiet = quiet_same k b;
      whole = sym (append_assoc (takeover_head t) body part) ∙ ap (λ l. l ++ part) x.whole ∙ append_assoc x.sent rest part;
      wrote = x.wrote;
      handed = ap (λ y. y ++ ms) x.handed ∙ append_assoc x.early (x.m ∷ x.late) ms;
    };
    writes = λ input part more is x. record {
      c = x.c;
      tail = x.tail;
      mid = x.mid;
      at = x.at;
      now = x.now;
      bytes = x.bytes;
      sent = x.sent ++ part;
      early = x.early;
      m = x.m;
      late = x.late;
      stands = x.stands;
      begins = x.begins;
      asks = x.asks;
      over = x.over;
      made = x.made;
      input_is = x.input_is;
      told = x.told;
      quiet = x.quiet;
      whole = x.whole ∙ ap (λ l. x.sent ++ l) is ∙ sym (append_assoc x.sent part more);
      wrote = ap (λ w. w ++ part) x.wrote ∙ append_assoc x.bytes x.sent part;
      handed = x.handed;
    };
    beside = λ input b x quiet. record {
      c = x.c;
      tail = x.tail;
      mid = x.mid;
      at = x.at;
      now = x.now;
      bytes = x.bytes;
      sent = x.sent;
      early = x.early;
      m = x.m;
      late = x.late;
      stands = x.stands;
      begins = x.begins;
      asks = x.asks;
      over = x.over;
      made = x.made;
      input_is = x.input_is;
      told = x.told;
      quiet = quiet_on k x.now s.to b x.quiet quiet;
      whole = x.whole;
      wrote = x.wrote;
      handed = x.handed;
    };
  }

pub all_takeovers : law_takeovers
all_takeovers ch k r t spec behind body s = record {
  takes = takings ch k r t spec behind s;
  steps = λ followed rest. steps_of ch k r t spec behind followed body rest s;
  ends = λ input. ends_of ch k r t spec behind input body s;
}
