-- A session tells a stream, part by part, to its end.
use Rattle.std.proofs.Common.{◌≡◌, ℕ, List, [], ◌∷◌, ◌++◌, inr, refl, sym, ◌∙◌, ap, subst, append_assoc, if◌then◌else◌}
use Rattle.engine_text.specs.declared.reply.Reply.{Reply}
use Rattle.engine_text.specs.declared.step.Step.{Step}
use Rattle.machine_model.specs.History.{Charter}
use Rattle.http_edge.specs.Chunks.{IsChunked, last_chunk}
use Rattle.http_edge.specs.Message.{Request}
use Rattle.api_routes.specs.declared.class.Takeover.{Takeover}
use Rattle.session_model.specs.declared.followed.Followed.{Followed}
use Rattle.session_model.specs.Responses.{terms_of, head_of_stream}
use Rattle.session_model.specs.Exchange.{flow_behind, is_whole, EndsSo, IsBody, IsQuiet, IsAnswered, InChunks, OfStream}
use Rattle.session_model.specs.Moments.{ComesTo}
use Rattle.session_model.specs.Session.{Span}
use Rattle.session_model.proofs.HistoryLemmas.{quiet_same, quiet_on}
use Rattle.polled_model.specs.Stages.{Streams, Sends}
use Rattle.polled_model.specs.Steps.{StepsOfStreams, come_to}
use Rattle.polled_model.proofs.AnswerLemmas.{chunked_on}

module _ (ch : Charter) (k : ℕ) where
  -- what is sent and still to be sent, with these bytes more
  pub more_bytes : (head chunks sent rest more : List ℕ) → head ++ chunks ≡ sent ++ rest → head ++ (chunks ++ more) ≡ sent ++ (rest ++ more)
  more_bytes head chunks sent rest more is =
      sym (append_assoc head chunks more) ∙ ap (λ y. y ++ more) is ∙ append_assoc sent rest more

  unfoldable pub streaming : (r : Request) (behind : List ℕ) (reply : Reply) (place : ℕ) (body rest : List ℕ) (s : Span) → StepsOfStreams ch k r behind reply place body rest s
  streaming r behind reply place body rest s = record {
    tells = λ next part chunks ms b x quiet tells reaches comes cut. record {
      c = x.c;
      tail = x.tail;
      mid = x.mid;
      at = x.at;
      now = b;
      bytes = x.bytes;
      sent = x.sent;
      chunks = x.chunks ++ chunks;
      early = x.early;
      m = x.m;
      late = x.late ++ ms;
      stands = x.stands;
      begins = x.begins;
      asks = x.asks;
      form = x.form;
      made = x.made;
      told = inr tells;
      reaches = reaches;
      comes = comes;
      cut = chunked_on body part x.chunks chunks x.cut cut;
      since = quiet_on k x.at x.now b x.since (quiet_on k x.now s.to b x.quiet quiet);
      quiet = quiet_same k b;
      whole = more_bytes (head_of_stream (terms_of r) Takeover.None reply) x.chunks x.sent rest chunks x.whole;
      wrote = x.wrote;
      handed = ap (λ y. y ++ ms) x.handed ∙ append_assoc x.early (x.m ∷ x.late) ms;
    };
    ends = λ f part chunks ms b x quiet tells ends comes cut.
        let last : List ℕ = if is_whole f then last_chunk else [] in
        let head : List ℕ = head_of_stream (terms_of r) Takeover.None reply in
        let is : head ++ (x.chunks ++ chunks) ++ last ≡ x.sent ++ (rest ++ chunks ++ last) =
        ap (λ y. y ++ last) (more_bytes head x.chunks x.sent rest chunks x.whole) ∙ append_assoc x.sent (rest ++ chunks) last in record {
          tail = x.tail;
          mid = x.mid;
          at = b;
          bytes = x.bytes;
          sent = x.sent;
          early = x.early;
          late = (x.m ∷ x.late) ++ ms;
          stands = x.stands;
          begins = x.begins;
          answer = λ more. subst (λ w. IsAnswered ch k r more x.mid b (flow_behind (terms_of r) f) w ((x.m ∷ x.late) ++ ms)) is
              (InChunks f head (body ++ part) (x.chunks ++ chunks) ((x.m ∷ x.late) ++ ms)
              (OfStream x.c reply f x.at x.m (body ++ part) (x.late ++ ms) x.asks x.made
              (quiet_on k x.at x.now b x.since (quiet_on k x.now s.to b x.quiet quiet)) tells ends comes)
              (chunked_on body part x.chunks chunks x.cut cut));
          quiet = quiet_same k b;
          wrote = x.wrote;
          handed = ap (λ y. y ++ ms) x.handed ∙ append_assoc x.early (x.m ∷ x.late) ms;
        };
  }
