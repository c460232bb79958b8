-- What is refused or unfinished begins with no request.
use Rattle.std.proofs.Common.{arith, ◌≡◌, append_assoc, ℕ, List, [], length, ◌+◌, ◌-◌, ◌++◌, take, sym, ap, subst, ◌∙◌, length-append}
use Rattle.std.proofs.lemmas.List.{append-nil, take-append-le}
use Rattle.std.proofs.Math.Seq.{take-append-add}
use Rattle.httparse.proofs.GrammarLemmas.{request_unique, ReadsRequest-append}
use Rattle.httparse.specs.Grammar.{print_request, ReadsRequest, NeverHasRequest, MayBecomeRequest}
use Rattle.http_edge.specs.Message.{Request}
use Rattle.http_edge.specs.Spelling.{head_framing, SpellsBody, Begins, HasNoRequest}
use Rattle.http_edge.specs.Refusal.{window, RefusesBody, CutsBody, IsRefused, never, too_long, by_framing, IsUnfinished, in_head, in_body}
use Rattle.http_edge.specs.declared.framing.Framing.{Framing}
use Rattle.http_edge.specs.declared.framing.Framing.TheVariants.{Length, Chunked, Refused}
use Rattle.http_edge.proofs.PartLemmas.{window_longer}
use Rattle.http_edge.proofs.ChunkedLemmas.{refused_body, cut_body, chunks_longer}
use Rattle.http_edge.proofs.StreamLemmas.{begins_head}

-- a request's head stands in the window
in_window : (bytes behind : List ℕ) (r : Request) (b : Begins bytes r behind)
    → ReadsRequest (window bytes) b.1.head (take (16384 - length (print_request b.1.head)) (b.1.coded ++ behind))
in_window bytes behind r b =
    let small = b.1.small in
    let n : 16384 ≡ length (print_request b.1.head) + (16384 - length (print_request b.1.head)) = omega arith in (
      b.1.valid,
      ap (take 16384) (begins_head bytes behind r b).1 ∙ ap (λ k. take k (print_request b.1.head ++ (b.1.coded ++ behind))) n
          ∙ take-append-add (print_request b.1.head) (b.1.coded ++ behind) (16384 - length (print_request b.1.head)),
    )

-- a framing that is refused spells no body
refuses_body : (f : Framing) (behind coded body rest : List ℕ) (status : ℕ) → RefusesBody f behind status → SpellsBody f coded body → behind ≡ coded ++ rest → ⊥
refuses_body (Length n) behind coded body rest status u v e = u
refuses_body Chunked behind coded body rest status u v e = refused_body behind coded body rest status u v e
refuses_body (Refused s) behind coded body rest status u v e = v

-- a part of a body is no body
cuts_body : (f : Framing) (behind coded body rest : List ℕ) → CutsBody f behind → SpellsBody f coded body → behind ≡ coded ++ rest → ⊥
cuts_body (Length n) behind coded body rest u v e = omega (arith, u, v.1, ap length e, length-append coded rest)
cuts_body Chunked behind coded body rest u v e = cut_body behind coded body rest u v e
cuts_body (Refused s) behind coded body rest u v e = v

-- what is refused begins with no request
pub refused_none : (bytes : List ℕ) (status : ℕ) → IsRefused bytes status → HasNoRequest bytes
refused_none bytes status (never is lacks) r behind b =
    lacks [] b.1.head (take (16384 - length (print_request b.1.head)) (b.1.coded ++ behind))
    (subst (λ l. ReadsRequest l b.1.head (take (16384 - length (print_request b.1.head)) (b.1.coded ++ behind))) (sym (append-nil (window bytes))) (in_window bytes behind r b))
refused_none bytes status (too_long is long lacks may) r behind b =
    lacks b.1.head (take (16384 - length (print_request b.1.head)) (b.1.coded ++ behind)) (in_window bytes behind r b)
refused_none bytes status (by_framing h rest begins refuses) r behind b =
    let same = request_unique bytes h b.1.head rest (b.1.coded ++ behind) begins.0 (begins_head bytes behind r b) in
    refuses_body (head_framing h) rest b.1.coded r.body behind status refuses
    (subst (λ k. SpellsBody (head_framing k) b.1.coded r.body) (sym same.0) b.1.body) same.1

-- what is unfinished begins with no request
pub unfinished_none : (bytes : List ℕ) → IsUnfinished bytes → HasNoRequest bytes
unfinished_none bytes (in_head some short lacks may) r behind b =
    lacks b.1.head (b.1.coded ++ behind) (begins_head bytes behind r b)
unfinished_none bytes (in_body h rest begins cuts) r behind b =
    let same = request_unique bytes h b.1.head rest (b.1.coded ++ behind) begins.0 (begins_head bytes behind r b) in
    cuts_body (head_framing h) rest b.1.coded r.body behind cuts
    (subst (λ k. SpellsBody (head_framing k) b.1.coded r.body) (sym same.0) b.1.body) same.1

-- what has no head begins with no request
pub headless_none : (bytes : List ℕ) → Rattle.httparse.specs.Grammar.HasNoRequest bytes → HasNoRequest bytes
headless_none bytes lacks r behind b = lacks b.1.head (b.1.coded ++ behind) (begins_head bytes behind r b)

longer_refuses : (f : Framing) (behind more : List ℕ) (status : ℕ) → RefusesBody f behind status → RefusesBody f (behind ++ more) status
longer_refuses (Length n) behind more status u = u
longer_refuses Chunked behind more status u = chunks_longer behind more status u
longer_refuses (Refused s) behind more status u = u

-- what is refused stays refused
pub refused_stays : (bytes more : List ℕ) (status : ℕ) → IsRefused bytes status → IsRefused (bytes ++ more) status
refused_stays bytes more status (never is lacks) =
    let w = window_longer 16384 bytes more in
    never is (subst NeverHasRequest (sym w.1) (λ later h rest reads. lacks (w.0 ++ later) h rest (subst (λ l. ReadsRequest l h rest) (append_assoc (window bytes) w.0 later) reads)))
refused_stays bytes more status (too_long is long lacks may) =
    let same : window (bytes ++ more) ≡ window bytes = take-append-le 16384 bytes more long in
    too_long is (omega (arith, long, length-append bytes more)) (subst Rattle.httparse.specs.Grammar.HasNoRequest (sym same) lacks) (subst MayBecomeRequest (sym same) may)
refused_stays bytes more status (by_framing h behind begins refuses) =
    by_framing h (behind ++ more) (ReadsRequest-append bytes h behind more begins.0, begins.1) (longer_refuses (head_framing h) behind more status refuses)
