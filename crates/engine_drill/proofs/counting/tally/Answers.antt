use Rattle.std.proofs.Common.{arith, rules, ◌≡◌, ◌≤◌, ◌<◌, ◌+◌, ℕ, List, get_or, set, length, subst, sym, ap, ◌∙◌}
use Rattle.std.proofs.lemmas.List.{get_or_read}
use Rattle.engine_drill.proofs.TallyLemmas.{Tallied, none_seen, one_seen, count_fits, tallied_long, all_seen}
use Rattle.engine_drill.proofs.counting.tally.Goals as goal

pub answers-init : goal.answers-init
answers-init c = none_seen c.args.bytes.now c.in_ok-counts.counts.items (c.in_ok-counts.ensures.items_if_clones_equal (λ y h. h))

pub index_mut-requires : goal.index_mut-requires
index_mut-requires c =
    let long : length c.answers.counts.items ≡ 600 = tallied_long _ _ _ c.answers.invariant in
    omega (arith, c.from.ensures, c.in-Some.ensures.known.1, long, c.answers.counts.ok.0)

pub overflow_add-index_mut : goal.overflow_add-index_mut
overflow_add-index_mut c =
    let counts = c.answers.counts.items in
    let long : length counts ≡ 600 = tallied_long _ _ _ c.answers.invariant in
    let below : c.from.result < length counts = omega (arith, c.from.ensures, c.in-Some.ensures.known.1, long) in
    let value : c.index_mut.result.now ≡ get_or counts c.in-Some.status 0 =
    get_or_read counts c.from.result c.index_mut.result.now below c.index_mut.ensures.value 0 ∙ ap (λ (i : ℕ). get_or counts i 0) c.from.ensures in
    let some : 0 < length c.answers.rest.now = omega (arith, c.in-Some.ensures.shorter) in
    let few = count_fits c.args.bytes.now c.answers.rest.now counts c.in-Some.status c.answers.invariant c.in-Some.ensures.known.1 some in
    let most : c.index_mut.result.now + 1 ≤ length c.args.bytes.now = omega (arith, value, few) in
    first_of (search (rules, most), omega (arith, most), grind (arith, most))

pub answers-preserved : goal.answers-preserved
answers-preserved c =
    let status = c.in-Some.status in
    let counts : List ℕ = c.answers.counts.items in
    let now : ℕ = c.index_mut.result.now in
    let long : length counts ≡ 600 = tallied_long _ _ _ c.answers.invariant in
    let below : c.from.result < length counts = omega (arith, c.from.ensures, c.in-Some.ensures.known.1, long) in
    let value : now ≡ get_or counts status 0 =
    get_or_read counts c.from.result now below c.index_mut.ensures.value 0 ∙ ap (λ (i : ℕ). get_or counts i 0) c.from.ensures in
    subst (λ (l : List ℕ). Tallied c.args.bytes.now c.in-Some.behind.now l)
    (sym (ap (λ (i : ℕ). set counts i (now + 1)) c.from.ensures ∙ ap (λ (n : ℕ). set counts status (n + 1)) value))
    (one_seen c.args.bytes.now c.answers.rest.now counts status c.in-Some.behind.now c.answers.invariant c.in-Some.ensures.known.1 c.in-Some.ensures.some c.in-Some.ensures.shorter)

pub returns : goal.returns
returns c = all_seen c.args.bytes.now c.answers.rest.now c.answers.counts.items c.answers.invariant c.in_default.ensures.none
