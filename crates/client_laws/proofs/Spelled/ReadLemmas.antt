-- What was sent is read as the request that was asked.
use Rattle.std.proofs.Common.{ℕ, List, [], ◌∷◌, ◌++◌, length, cond, refl, ap, ◌∙◌, arith, length-append}
use Rattle.httparse.specs.Grammar.{print_blank, print_version, print_end, print_section, HasNoRequest as HasNoHead}
use Rattle.httparse.proofs.GrammarLemmas.{print_request-append}
use Rattle.http_edge.proofs.EndLemmas.{headless_none}
use Rattle.http_edge.proofs.StreamLemmas.{one_reading}
use Rattle.http_edge.proofs.ReadingLemmas.{reading_of}
use Rattle.client_model.specs.Plans.{Asked}
use Rattle.client_laws.specs.Sent.{AreReadFirst, AreReadAlone}

-- what stands behind the request
abbrev behind_of : List ℕ → Asked → List ℕ
behind_of input asked = cond asked.input input []

pub read_first : AreReadFirst
read_first input sent rest asked requests is reads =
    let behind = behind_of input asked in
    let whole = reading_of sent behind (asked.request ∷ []) (behind, is, refl) in
    (whole.0, (one_reading requests (asked.request ∷ whole.0) sent rest whole.1 reads whole.2).0)

no_head : HasNoHead []
no_head h rest reads =
    let size = ap length (reads.1 ∙ print_request-append h rest) in
    let behind = print_section h.fields h.last ++ rest in
    let line = print_version h.minor ++ (print_end h.line_end ++ behind) in
    omega (
      arith,
      size,
      length-append (print_blank h.blank) (h.method ++ 32 ∷ (h.target ++ 32 ∷ line)),
      length-append h.method (32 ∷ (h.target ++ 32 ∷ line)),
    )

pub read_alone : AreReadAlone
read_alone input sent asked none is = (
  (behind_of input asked, is, ap (λ t. cond t input []) none),
  headless_none [] no_head,
)
