-- Pieces of a body as they are written.
use Rattle.std.proofs.Common.{◌≡◌, ◌<◌, ℕ, List, [], ◌∷◌, ◌++◌, refl, sym, ◌∙◌, ap, subst, append-nil, arith, Bool, true, false, length}
use Rattle.std.proofs.lemmas.Grind.{flat_map-append}
use Rattle.std.proofs.lemmas.List.Elements.{All-append, All-from_recursion}
use Rattle.engine_ports.specs.Sink.{SinkView, SinkTook}
use Rattle.engine_ports.proofs.PortLemmas.{sink_none}
use Rattle.http_edge.specs.Chunks.{IsChunked, chunk_text}
use Rattle.attach_hub.specs.Following.{IsSent, written_of}

-- one more piece is written
pub sent_more : (chunked : Bool) (body sent piece : List ℕ) → IsSent chunked body sent
    → IsSent chunked (body ++ piece) (sent ++ written_of chunked piece)
sent_more true body sent [] h = subst (λ x. IsChunked x (sent ++ [])) (sym (append-nil body)) (subst (IsChunked body) (sym (append-nil sent)) h)
sent_more true body sent (x ∷ piece) (pieces, full, joined, is) = (
  pieces ++ (x ∷ piece) ∷ [],
  All-append (λ (p : List ℕ). 0 < length p) pieces ((x ∷ piece) ∷ []) full
      (All-from_recursion (λ (p : List ℕ). 0 < length p) ((x ∷ piece) ∷ []) (omega arith, tt)),
  flat_map-append (λ p. p) pieces ((x ∷ piece) ∷ []) ∙ ap (λ y. y ++ (x ∷ piece ++ [])) joined ∙ ap (λ y. body ++ x ∷ y) (append-nil piece),
  flat_map-append chunk_text pieces ((x ∷ piece) ∷ []) ∙ ap (λ y. y ++ (chunk_text (x ∷ piece) ++ [])) is
      ∙ ap (λ y. sent ++ y) (append-nil (chunk_text (x ∷ piece))),
)
sent_more false body sent piece h = ap (λ y. y ++ piece) h

pub sent_none : (chunked : Bool) → IsSent chunked [] []
sent_none true = ([], All-from_recursion (λ (p : List ℕ). 0 < length p) [] tt, refl, refl)
sent_none false = refl

-- what is written of a piece
pub nothing_written : (chunked : Bool) (piece : List ℕ) (u : SinkView) → piece ≡ [] → SinkTook u (written_of chunked piece) u
nothing_written true piece u is = subst (λ x. SinkTook u (written_of true x) u) (sym is) (sink_none u)
nothing_written false piece u is = subst (λ x. SinkTook u x u) (sym is) (sink_none u)

pub chunk_written : (piece : List ℕ) → 0 < length piece → written_of true piece ≡ chunk_text piece
chunk_written [] some = absurd (omega (arith, some))
chunk_written (x ∷ piece) some = refl
