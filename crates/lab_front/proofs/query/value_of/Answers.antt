use Rattle.std.proofs.Common.{arith, ◌<◌, ◌≤◌, ◌+◌, ◌==◌, length, take, drop, sym, ap, ◌∙◌}
use Rattle.std.specs.List.{slice_split, position_or_len}
use Rattle.lab_front.specs.Queries.{value_in, first_value}
use Rattle.lab_front.proofs.QueryLemmas.{this_pair, last_pair, next_pair}
use Rattle.lab_front.proofs.query.value_of.Goals as goal

pub returns-in-Some : goal.returns-in-Some
returns-in-Some c =
    let place = c.place_in-place.ensures.place in
    let le : position_or_len (λ b. b == 38) c.pairs.rest.now ≤ length c.pairs.rest.now = omega (arith, place, c.place_in-place.ensures.within) in
    sym (this_pair (λ b. b == 38) c.args.name.now c.pairs.rest.now c.in-Some.value.now le
    (ap (λ n. value_in c.args.name.now (take n c.pairs.rest.now)) (sym place) ∙ sym c.in-Some.ensures))
    ∙ c.pairs.invariant

pub returns-then-place-rest : goal.returns-then-place-rest
returns-then-place-rest c =
    let place = c.place_in-place.ensures.place in
    let le : length c.pairs.rest.now ≤ position_or_len (λ b. b == 38) c.pairs.rest.now = omega (arith, place) in
    sym (last_pair (λ b. b == 38) c.args.name.now c.pairs.rest.now le
    (ap (λ n. value_in c.args.name.now (take n c.pairs.rest.now)) (sym place) ∙ sym c.in_default.ensures))
    ∙ c.pairs.invariant

pub pairs-preserved : goal.pairs-preserved
pairs-preserved c =
    let place = c.place_in-place.ensures.place in
    let less : position_or_len (λ b. b == 38) c.pairs.rest.now < length c.pairs.rest.now = omega (arith, place, c.place_in-place.ensures.within) in
    ap (λ l. first_value c.args.name.now (slice_split (λ b. b == 38) l)) (c.behind-rest.ensures ∙ ap (λ n. drop (n + 1) c.pairs.rest.now) place)
    ∙ sym (next_pair (λ b. b == 38) c.args.name.now c.pairs.rest.now less
    (ap (λ n. value_in c.args.name.now (take n c.pairs.rest.now)) (sym place) ∙ sym c.in_default.ensures))
    ∙ c.pairs.invariant
