-- A request whose call gave a ticket, and whose head came before the wait for it was over.
use Rattle.std.proofs.Common.{◌≡◌, ◌<◌, length, ℕ, List, [], ◌∷◌, ◌++◌, append-nil, append_assoc, refl, sym, ◌∙◌, subst, arith, if◌then◌else◌}
use Rattle.std.specs.Prelude.{IsTrue}
use Rattle.std.proofs.lemmas.Bool.{false≢true}
use Rattle.std.proofs.lemmas.List.Elements.{All-nil, All-cons}
use Rattle.engine_ports.specs.Clock.{ClockView}
use Rattle.engine_text.specs.declared.call.Call.{Call}
use Rattle.engine_text.specs.declared.call.Call.TheVariants as call
use Rattle.engine_text.specs.declared.reply.Reply.TheVariants as reply
use Rattle.engine_text.specs.declared.step.Step.{Step}
use Rattle.machine_model.specs.History.{Charter, IsLegal}
use Rattle.http_edge.specs.Chunks.{chunk_text, last_chunk, IsChunked}
use Rattle.http_edge.specs.Message.{Request}
use Rattle.api_routes.specs.Class.{class_of}
use Rattle.api_routes.specs.declared.class.Class.TheVariants.{Ask}
use Rattle.session_model.specs.declared.followed.Followed.{Followed}
use Rattle.session_model.specs.declared.followed.Followed.TheVariants as F
use Rattle.session_model.specs.declared.turned.Awaited.{Awaited}
use Rattle.session_model.specs.declared.turned.Turned.TheVariants as T
use Rattle.session_model.specs.Exchange.{flow_behind, is_early, is_whole, BreaksWait, IsMade, IsAnswered, IsSentInChunks, InChunks, OfWait, OfBrokenWait}
use Rattle.session_model.specs.Pass.{PassView}
use Rattle.session_model.specs.Progress.{Moves}
use Rattle.session_model.specs.Responses.{terms_of, early_head}
use Rattle.session_model.proofs.TurnLemmas.{moves_on}
use Rattle.attach_hub.specs.Waiting.{AwaitSays, IsDropped}
use Rattle.attach_hub.proofs.StatusLemmas.{wait_status}
use Rattle.exchange_laws.specs.Answers.{Answers, broken_flow, one_chunk}
use Rattle.exchange_laws.specs.Laws.{law_early_waits}
use Rattle.exchange_laws.specs.Turns.{TurnComes}
use Rattle.exchange_laws.proofs.AnswerLemmas.{as_told}
use Rattle.exchange_laws.proofs.WaitLemmas.{wait_dropped, wait_taken}

-- ---- its body

abbrev IsSome : List ℕ → Type 0
IsSome piece = 0 < length piece

-- a body is its own chunk
pub is_chunked : (body : List ℕ) → IsChunked body (one_chunk body)
is_chunked [] = ([], All-nil IsSome, refl, refl)
is_chunked (b ∷ bytes) =
    let some : IsSome (b ∷ bytes) = omega arith in (
      (b ∷ bytes) ∷ [],
      All-cons IsSome (b ∷ bytes) [] some (All-nil IsSome),
      append-nil (b ∷ bytes),
      append-nil (chunk_text (b ∷ bytes)),
    )

-- only a wait's head comes early, and its ticket is answered with 200
early_status : (ch : Charter) (k n : ℕ) (r : Request) (c : Call) (a b d : List Step) (status : ℕ) (body : List ℕ) → IsTrue (is_early r c)
    → IsLegal ch b → IsMade ch k k c a b (reply.Begun n) → IsMade ch k k (call.Take n) b d (reply.Answer status body) → status ≡ 200
early_status ch k n r (call.Wait target until) a b d status body early legal begun took =
    wait_status ch k n target until a b d status body legal begun took
early_status ch k n r c a b d status body early legal begun took = absurd (false≢true early)

-- ---- the rows

-- what is sent in chunks, with these bytes
in_chunks : (ch : Charter) (k : ℕ) (r : Request) (behind : List ℕ) (a b : List Step) (f : Followed) (head body chunks w ms : List ℕ)
    → w ≡ head ++ chunks ++ (if is_whole f then last_chunk else []) → IsSentInChunks ch k r behind a b f head body ms → IsChunked body chunks
    → IsAnswered ch k r behind a b (flow_behind (terms_of r) f) w ms
in_chunks ch k r behind a b f head body chunks w ms is row cut =
    as_told ch k r behind a b _ _ w _ ms ms refl is refl (InChunks f head body chunks ms row cut)

-- nothing but the head
bare : (head : List ℕ) → head ≡ head ++ [] ++ []
bare head = sym (append-nil (head ++ []) ∙ append-nil head)

-- a wait that was broken off isn't whole, and has no body
broken_row : (ch : Charter) (k : ℕ) (r : Request) (behind : List ℕ) (a b : List Step) (f : Followed) (head ms : List ℕ) → BreaksWait f
    → IsSentInChunks ch k r behind a b f head [] ms → IsAnswered ch k r behind a b (broken_flow f) head ms
broken_row ch k r behind a b F.Stopped head ms broke row = in_chunks ch k r behind a b F.Stopped head [] [] head ms (bare head) row (is_chunked [])
broken_row ch k r behind a b F.WriteFault head ms broke row = in_chunks ch k r behind a b F.WriteFault head [] [] head ms (bare head) row (is_chunked [])
broken_row ch k r behind a b F.NoMemory head ms broke row = in_chunks ch k r behind a b F.NoMemory head [] [] head ms (bare head) row (is_chunked [])
broken_row ch k r behind a b F.Whole head ms broke row = absurd broke
broken_row ch k r behind a b (F.Lagged next first) head ms broke row = absurd broke

-- it was broken off, and its ticket dropped
pub broke_off : (k handed n : ℕ) (r : Request) (c : Call) (f : Followed) (whole : List ℕ) (p q s : PassView) (u v w : ClockView)
    → class_of r ≡ Ask c → IsTrue (is_early r c) → TurnComes k handed c (T.Begun n) p q u v → Moves k q s v w
    → IsDropped p.charter k n q.seen s.seen → BreaksWait f → whole ≡ early_head (terms_of r)
    → Answers k r (broken_flow f) whole p s u w
unfolding moves_on
broke_off k handed n r c f whole p q s u v w class early first last dropped breaks bytes = record {
  moves = moves_on k p q s u v w first.moves last;
  answer = λ behind. as_told p.charter k r behind p.seen s.seen _ _ whole _ _ _ refl bytes refl
      (broken_row p.charter k r behind p.seen s.seen f (early_head (terms_of r)) (first.moves.handed ++ last.handed) breaks
      (OfBrokenWait c f (first.moves.handed ++ last.handed) class early breaks (wait_dropped k handed n c p q s u v last.handed first dropped)));
}

pub waited_early : law_early_waits
unfolding moves_on
waited_early k handed n r c (Awaited.Replied given) whole p q s u v w class early first legal last says (status, body, is, bytes) =
    let took : AwaitSays p.charter k n q.seen s.seen (Awaited.Replied (reply.Answer status body)) last.handed v w =
    subst (λ y. AwaitSays p.charter k n q.seen s.seen (Awaited.Replied y) last.handed v w) is says in
    let fine : status ≡ 200 = early_status p.charter k n r c p.seen q.seen s.seen status body early legal first.came.0 took.3.0 in
    record {
      moves = moves_on k p q s u v w first.moves last;
      answer = λ behind. in_chunks p.charter k r behind p.seen s.seen F.Whole (early_head (terms_of r)) body (one_chunk body) whole
          (first.moves.handed ++ last.handed) (bytes ∙ sym (append_assoc (early_head (terms_of r)) (one_chunk body) last_chunk))
          (OfWait c body _ class early
          (wait_taken k handed n c p q s u v w last.handed (reply.Answer 200 body) first
          (subst (λ y. AwaitSays p.charter k n q.seen s.seen (Awaited.Replied (reply.Answer y body)) last.handed v w) fine took)))
          (is_chunked body);
    }
waited_early k handed n r c Awaited.Stopped whole p q s u v w class early first legal last says bytes =
    broke_off k handed n r c F.Stopped whole p q s u v w class early first last says.0 tt bytes
waited_early k handed n r c Awaited.WriteFault whole p q s u v w class early first legal last says bytes =
    broke_off k handed n r c F.WriteFault whole p q s u v w class early first last says tt bytes
waited_early k handed n r c Awaited.NoMemory whole p q s u v w class early first legal last says bytes =
    broke_off k handed n r c F.NoMemory whole p q s u v w class early first last says tt bytes
