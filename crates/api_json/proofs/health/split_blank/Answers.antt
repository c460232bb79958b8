use Rattle.std.proofs.Common.{◌≡◌, ◌<◌, ℕ, ◌-◌, List, take, sym, ap, ◌∙◌, arith, slice_range}
use Rattle.std.specs.List.{position, slice_index}
use Rattle.engine_text.specs.Query.{is_blank}
use Rattle.std.proofs.lemmas.Str.{IsCharBoundary-after_ascii}
use Rattle.api_json.proofs.HealthLemmas.{at_blank, blank_low, no_blank}
use Rattle.api_json.proofs.health.split_blank.Goals as goal

front : (bs : List ℕ) (i : ℕ) → slice_range bs 0 i ≡ take i bs
front bs i = let e : i - 0 ≡ i = omega arith in ap (λ n. take n bs) e

pub range-requires-clause-end_boundary : goal.range-requires-clause-end_boundary
range-requires-clause-end_boundary c =
    let low = blank_low c.args.text.now c.in-Some.place (sym (c.in-Some.ensures ∙ ap (position is_blank) c.as_bytes.ensures.value)) in
    let small : slice_index c.args.text.now c.in-Some.place < 128 = low.1 in
    (omega (arith, low.0), λ inside high. absurd (omega (arith, high, small)))

pub range_from-requires : goal.range_from-requires
range_from-requires c some =
    let low = blank_low c.args.text.now c.in-Some.place (sym (c.in-Some.ensures ∙ ap (position is_blank) c.as_bytes.ensures.value)) in
    IsCharBoundary-after_ascii c.args.text.now c.in-Some.place c.utf8.text low.0 low.1

pub returns-in-Some-clause-parts : goal.returns-in-Some-clause-parts
returns-in-Some-clause-parts c =
    rw (c.range.ensures.value, front c.args.text.now c.in-Some.place, c.range_from.ensures.value) (sym (at_blank c.args.text.now c.in-Some.place (sym (c.in-Some.ensures ∙ ap (position is_blank) c.as_bytes.ensures.value))))

pub returns-in-None-clause-parts : goal.returns-in-None-clause-parts
returns-in-None-clause-parts c = sym (no_blank c.args.text.now (sym (c.in-None.ensures ∙ ap (position is_blank) c.as_bytes.ensures.value)))

pub returns-in-Some-clause-texts : goal.returns-in-Some-clause-texts
returns-in-Some-clause-texts c = (c.range.utf8, c.range_from.utf8)
