-- Rows of answers that a session that waits or streams can always come to.
use Rattle.std.proofs.Common.{◌≡◌, ◌<◌, ℕ, List, [], ◌∷◌, ◌++◌, Option, Some, None, length, refl, sym, ◌∙◌, ap, subst, append_assoc, append-nil, arith, Bool, true, false, ◌==◌, ◌||◌}
use Rattle.std.specs.Prelude.{IsFalse, IsTrue}
use Rattle.std.specs.List.{flat_map}
use Rattle.std.proofs.lemmas.Grind.{flat_map-append}
use Rattle.std.proofs.lemmas.List.Elements.{All-append, All-from_recursion}
use Rattle.std.specs.List.{All}
use Rattle.engine_text.specs.declared.call.Call.{Call}
use Rattle.engine_text.specs.declared.call.Call.TheVariants.{Drop}
use Rattle.engine_text.specs.declared.reply.Reply.{Reply}
use Rattle.engine_text.specs.declared.reply.Reply.TheVariants.{Begun}
use Rattle.engine_text.specs.declared.step.Step.{Step}
use Rattle.machine_model.specs.History.{Charter, own_calls, is_own, state_after, reply_of}
use Rattle.http_edge.specs.Chunks.{IsChunked, chunk_text}
use Rattle.http_edge.specs.Message.{Request}
use Rattle.session_model.specs.Exchange.{IsGivenUp, IsMade, IsMadeAt, IsQuiet}
use Rattle.session_model.proofs.HistoryLemmas.{made_behind}
use Rattle.polled_model.specs.Stages.{HoldsTicket}
use Rattle.session_model.specs.Session.{Span}

-- ---- bodies in chunks

abbrev IsPiece : List ℕ → Type 0
IsPiece piece = 0 < length piece

-- chunks behind chunks
pub chunked_on : (body part chunks more : List ℕ) → IsChunked body chunks → IsChunked part more → IsChunked (body ++ part) (chunks ++ more)
chunked_on body part chunks more (ps, some, joined, is) (qs, some', joined', is') = (
  ps ++ qs,
  All-append IsPiece ps qs some some',
  flat_map-append (λ p. p) ps qs ∙ ap (λ y. y ++ flat_map (λ p. p) qs) joined ∙ ap (λ y. body ++ y) joined',
  flat_map-append chunk_text ps qs ∙ ap (λ y. y ++ flat_map chunk_text qs) is ∙ ap (λ y. chunks ++ y) is',
)

pub none_chunked : IsChunked [] []
none_chunked = ([], All-from_recursion IsPiece [] tt, refl, refl)

piece_is_some : (p : List ℕ) (ps : List (List ℕ)) → All IsPiece (p ∷ ps) → IsPiece p
piece_is_some p ps some = some 0 p (omega arith)

joined_is_some : (p rest : List ℕ) → IsPiece p → p ++ rest ≡ [] → ⊥
joined_is_some [] rest some is = absurd (omega (arith, some))
joined_is_some (x ∷ p) rest some is = absurd (omega (arith, ap length is))

chunks_of_none : (ps : List (List ℕ)) (chunks : List ℕ) → All IsPiece ps → flat_map (λ (p : List ℕ). p) ps ≡ [] → flat_map chunk_text ps ≡ chunks → chunks ≡ []
chunks_of_none [] chunks some joined is = sym is
chunks_of_none (p ∷ ps) chunks some joined is = absurd (joined_is_some p (flat_map (λ (q : List ℕ). q) ps) (piece_is_some p ps some) joined)

-- a body of no byte has no chunk
pub no_chunks : (body chunks : List ℕ) → body ≡ [] → IsChunked body chunks → chunks ≡ []
no_chunks body chunks none (ps, some, joined, is) = chunks_of_none ps chunks some (joined ∙ none) is

-- ---- tickets that are given up

own_drop : (k t n : ℕ) → own_calls k (Step.Call k t (Drop n) ∷ []) ≡ Step.Call k t (Drop n) ∷ []
own_drop k t n = let e : (k == k) ≡ true = grind arith in rw e refl

module _ (ch : Charter) (k : ℕ) where
  abbrev pub drop_step : ℕ → List Step
  drop_step n = Step.Call k 0 (Drop n) ∷ []

  abbrev pub drop_reply : ℕ → List Step → Reply
  drop_reply n at = reply_of (state_after ch (at ++ [])) k 0 (Drop n)

  -- a ticket can always be dropped
  pub drops : (n : ℕ) (at : List Step) → IsMade ch k k (Drop n) at (at ++ drop_step n) (drop_reply n at)
  drops n at = ([], [], 0, refl, refl, ap (λ y. y ++ drop_step n) (sym (append-nil at)), refl, refl)

  pub drops_alone : (n : ℕ) → own_calls k (drop_step n) ≡ drop_step n
  drops_alone n = own_drop k 0 n

  -- the moments of a ticket so far
  abbrev pub its_moments : {n : ℕ} {r : Request} {c : Call} {behind bytes : List ℕ} {s : Span} → HoldsTicket ch k n r c behind bytes s → List ℕ
  its_moments x = x.m ∷ x.others

  -- a ticket that is dropped behind all is given up
  pub gives_up : (n : ℕ) (r : Request) (c : Call) (behind bytes : List ℕ) (s : Span) (b : List Step) (reply : Reply)
      → (x : HoldsTicket ch k n r c behind bytes s) → IsMade ch k k (Drop n) x.at b reply → IsGivenUp ch k c (its_moments x) x.mid b
  gives_up n r c behind bytes s b reply x dropped = (n, x.m, x.others, x.at, reply, refl, x.made, dropped)
