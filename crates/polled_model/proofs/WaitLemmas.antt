-- A session waits for a ticket, with its head sent early or not, until it is taken or given up.
use Rattle.std.proofs.Common.{◌≡◌, ℕ, List, [], ◌∷◌, ◌++◌, None, refl, sym, ◌∙◌, ap, subst, append_assoc, append-nil, if◌then◌else◌}
use Rattle.std.specs.Prelude.{IsTrue}
use Rattle.engine_text.specs.declared.call.Call.{Call}
use Rattle.engine_text.specs.declared.call.Call.TheVariants.{Take, Drop}
use Rattle.engine_text.specs.declared.reply.Reply.{Reply}
use Rattle.engine_text.specs.declared.reply.Reply.TheVariants.{Answer}
use Rattle.engine_text.specs.declared.step.Step.{Step}
use Rattle.machine_model.specs.History.{Charter}
use Rattle.http_edge.specs.Chunks.{last_chunk}
use Rattle.http_edge.specs.Message.{Request}
use Rattle.api_routes.specs.Class.{class_of}
use Rattle.api_routes.specs.declared.class.Class.TheVariants.{Ask}
use Rattle.session_model.specs.declared.followed.Followed.{Followed}
use Rattle.session_model.specs.declared.followed.Followed.TheVariants as F
use Rattle.session_model.specs.declared.terms.Terms.{Terms}
use Rattle.session_model.specs.Responses.{terms_of, early_head}
use Rattle.session_model.specs.Exchange.{Flow, Leaves, flow_behind, is_early, is_whole, BreaksWait, IsMade, IsMadeAt, IsAnswered, IsGivenUp, IsWaited, AtOnce, InChunks, WaitIsStopped, ByItsTicket, DroppedForMemory, OfWait, OfBrokenWait}
use Rattle.session_model.specs.Session.{Span}
use Rattle.session_model.proofs.HistoryLemmas.{quiet_same, made_behind, made_behind_at}
use Rattle.polled_model.specs.Stages.{HoldsTicket, Sends}
use Rattle.polled_model.specs.Steps.{StepsOfWaits, StepsOfEarlyWaits, come_to}
use Rattle.polled_model.proofs.AnswerLemmas.{gives_up, none_chunked}
use Rattle.polled_model.proofs.StageLemmas.{ticket_beside}

-- how the connection goes on behind a wait that is broken off, and what ends its chunks
broken_flow : (terms : Terms) (f : Followed) → BreaksWait f → flow_behind terms f ≡ Leaves f None
broken_flow terms F.Stopped breaks = refl
broken_flow terms F.WriteFault breaks = refl
broken_flow terms F.NoMemory breaks = refl
broken_flow terms F.Whole breaks = absurd breaks
broken_flow terms (F.Lagged next first) breaks = absurd breaks

broken_end : (f : Followed) → BreaksWait f → (if is_whole f then last_chunk else []) ≡ []
broken_end F.Stopped breaks = refl
broken_end F.WriteFault breaks = refl
broken_end F.NoMemory breaks = refl
broken_end F.Whole breaks = absurd breaks
broken_end (F.Lagged next first) breaks = absurd breaks

module _ (ch : Charter) (k : ℕ) where
  -- ---- waiting

  -- the row by which a ticket that is held is answered, up to a history b, with these moments more
  behind_ticket : (n : ℕ) (r : Request) (c : Call) (behind bytes sent rest w ms : List ℕ) (flow : Flow) (s : Span) (b : List Step)
      → (x : HoldsTicket ch k n r c behind bytes s) → s.written ≡ bytes ++ sent → w ≡ sent ++ rest
      → ((more : List ℕ) → IsAnswered ch k r more x.mid b flow w ((x.m ∷ x.others) ++ ms))
      → Sends ch k flow r behind rest (come_to s b ms)
  behind_ticket n r c behind bytes sent rest w ms flow s b x wrote is row = record {
    tail = x.tail;
    mid = x.mid;
    at = b;
    bytes = bytes;
    sent = sent;
    early = x.early;
    late = (x.m ∷ x.others) ++ ms;
    stands = x.stands;
    begins = x.begins;
    answer = λ more. subst (λ v. IsAnswered ch k r more x.mid b flow v ((x.m ∷ x.others) ++ ms)) is (row more);
    quiet = quiet_same k b;
    wrote = wrote;
    handed = ap (λ y. y ++ ms) x.handed ∙ append_assoc x.early (x.m ∷ x.others) ms;
  }

  -- the same with no moment more
  behind_drop : (n : ℕ) (r : Request) (c : Call) (behind bytes sent rest w : List ℕ) (flow : Flow) (s : Span) (b : List Step)
      → (x : HoldsTicket ch k n r c behind bytes s) → s.written ≡ bytes ++ sent → w ≡ sent ++ rest
      → ((more : List ℕ) → IsAnswered ch k r more x.mid b flow w (x.m ∷ x.others))
      → Sends ch k flow r behind rest (record s { to = b })
  behind_drop n r c behind bytes sent rest w flow s b x wrote is row = record {
    tail = x.tail;
    mid = x.mid;
    at = b;
    bytes = bytes;
    sent = sent;
    early = x.early;
    late = x.m ∷ x.others;
    stands = x.stands;
    begins = x.begins;
    answer = λ more. subst (λ v. IsAnswered ch k r more x.mid b flow v (x.m ∷ x.others)) is (row more);
    quiet = quiet_same k b;
    wrote = wrote;
    handed = x.handed;
  }

  -- a ticket that is held is taken
  waited : (n : ℕ) (r : Request) (c : Call) (behind bytes : List ℕ) (m : ℕ) (s : Span) (b : List Step) (reply : Reply)
      → (x : HoldsTicket ch k n r c behind bytes s) → IsMadeAt ch k m (Take n) s.to b reply
      → IsWaited ch k c ((x.m ∷ x.others) ++ m ∷ []) x.mid b reply
  waited n r c behind bytes m s b reply x taken =
      (n, x.m, m, x.others, x.at, refl, x.made, made_behind_at ch k m (Take n) x.at s.to b reply x.quiet taken)

  -- or dropped
  dropped : (n : ℕ) (r : Request) (c : Call) (behind bytes : List ℕ) (s : Span) (b : List Step) (reply : Reply)
      → (x : HoldsTicket ch k n r c behind bytes s) → IsMade ch k k (Drop n) s.to b reply
      → IsMade ch k k (Drop n) x.at b reply
  dropped n r c behind bytes s b reply x made = made_behind ch k k (Drop n) x.at s.to b reply x.quiet made

  pub waiting : (n : ℕ) (r : Request) (behind : List ℕ) (s : Span) → StepsOfWaits ch k n r behind s
  waiting n r behind s = record {
    waits_on = λ ms b x quiet. (x.0, x.1, ticket_beside ch k n r x.0 behind s.written ms s b quiet x.2);
    taken = λ m status body b x taken.
        behind_ticket n r x.0 behind s.written [] _ _ (m ∷ []) _ s b x.2 (sym (append-nil s.written)) refl
        (λ more. AtOnce _ _ (ByItsTicket x.0 status body _ x.2.asks x.1 (waited n r x.0 behind s.written m s b (Answer status body) x.2 taken)));
    stopped = λ reply b x made.
        behind_drop n r x.0 behind s.written [] _ _ _ s b x.2 (sym (append-nil s.written)) refl
        (λ more. WaitIsStopped x.0 _ x.2.asks x.1
        (gives_up ch k n r x.0 behind s.written s b reply x.2 (dropped n r x.0 behind s.written s b reply x.2 made)));
    given_up = λ reply b x made.
        behind_drop n r x.0 behind s.written [] _ _ _ s b x.2 (sym (append-nil s.written)) refl
        (λ more. AtOnce _ _ (DroppedForMemory x.0 _ x.2.asks x.1
        (gives_up ch k n r x.0 behind s.written s b reply x.2 (dropped n r x.0 behind s.written s b reply x.2 made))));
  }

  -- an early head alone, where the wait is broken off
  pub broken_row : (r : Request) (c : Call) (more ms : List ℕ) (f : Followed) (a b : List Step) → class_of r ≡ Ask c → IsTrue (is_early r c)
      → BreaksWait f → IsGivenUp ch k c ms a b → IsAnswered ch k r more a b (Leaves f None) (early_head (terms_of r)) ms
  broken_row r c more ms f a b asks soon breaks given =
      subst (λ flow. IsAnswered ch k r more a b flow (early_head (terms_of r)) ms) (broken_flow (terms_of r) f breaks)
      (subst (λ w. IsAnswered ch k r more a b (flow_behind (terms_of r) f) w ms)
      (ap (λ y. early_head (terms_of r) ++ [] ++ y) (broken_end f breaks) ∙ append-nil (early_head (terms_of r) ++ []) ∙ append-nil (early_head (terms_of r)))
      (InChunks f (early_head (terms_of r)) [] [] ms (OfBrokenWait c f ms asks soon breaks given) none_chunked))

  pub waiting_early : (n : ℕ) (r : Request) (behind rest : List ℕ) (s : Span) → StepsOfEarlyWaits ch k n r behind rest s
  waiting_early n r behind rest s = record {
    waits_on = λ ms b x quiet. record {
      c = x.c;
      bytes = x.bytes;
      sent = x.sent;
      soon = x.soon;
      ticket = ticket_beside ch k n r x.c behind x.bytes ms s b quiet x.ticket;
      head = x.head;
      wrote = x.wrote;
    };
    taken = λ m body chunks b x taken cut.
        behind_ticket n r x.c behind x.bytes x.sent (rest ++ chunks ++ last_chunk) (early_head (terms_of r) ++ chunks ++ last_chunk) (m ∷ [])
        (flow_behind (terms_of r) F.Whole) s b x.ticket x.wrote
        (ap (λ y. y ++ chunks ++ last_chunk) x.head ∙ ap (λ y. y ++ last_chunk) (append_assoc x.sent rest chunks) ∙ append_assoc x.sent (rest ++ chunks) last_chunk)
        (λ more. InChunks F.Whole (early_head (terms_of r)) body chunks _
        (OfWait x.c body _ x.ticket.asks x.soon (waited n r x.c behind x.bytes m s b (Answer 200 body) x.ticket taken)) cut);
    broken = λ f reply b x breaks made.
        behind_drop n r x.c behind x.bytes x.sent rest (early_head (terms_of r)) (Leaves f None) s b x.ticket x.wrote x.head
        (λ more. broken_row r x.c more _ f x.ticket.mid b x.ticket.asks x.soon breaks
        (gives_up ch k n r x.c behind x.bytes s b reply x.ticket (dropped n r x.c behind x.bytes s b reply x.ticket made)));
  }
