use Rattle.std.proofs.Common.{◌≡◌, ℕ, ◌-◌, Some, None, ap, ◌∙◌, List, take, arith, slice_range}
use Rattle.std.proofs.lemmas.Str.Pattern.{find_char}
use Rattle.matchit.specs.Seek.{slash}
use Rattle.api_routes.proofs.CutLemmas.{cut-pieces, all-pieces}
use Rattle.api_routes.proofs.path.cut_segment.Goals as goal

front : (bs : List ℕ) (i : ℕ) → slice_range bs 0 i ≡ take i bs
front bs i = let e : i - 0 ≡ i = omega arith in ap (λ n. take n bs) e

pub returns-in-Some : goal.returns-in-Some
returns-in-Some c =
    let text = c.in_ok-text.text.now in
    let f = find_char slash text (Some c.in-Some.i) c.in-Some.ensures.cases (omega arith) in
    rw (c.range.ensures.value, front text c.in-Some.i, c.range_from.ensures.value)
    (c.in_ok-text.ensures ∙ cut-pieces text c.in-Some.i f.0 f.1 f.2)

pub returns-in-None : goal.returns-in-None
returns-in-None c =
    let text = c.in_ok-text.text.now in
    c.in_ok-text.ensures ∙ all-pieces text (find_char slash text None c.in-None.ensures.cases (omega arith))
