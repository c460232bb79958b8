use Rattle.std.proofs.Common.{◌<◌, ◌^◌, ◌++◌, ap, ◌∙◌, arith, List, ℕ}
use Rattle.rand_chacha.specs.ChaCha.{ChaCha}
use Rattle.drill_model.specs.Requests.{drill_stream, request_of}
use Rattle.engine_drill.proofs.MakingLemmas.{next_request, word_made}
use Rattle.engine_drill.proofs.making.requests.Goals as goal

pub loop-place-init : goal.loop-place-init
loop-place-init c =
    (c.new-bytes.ensures.items, c.set_stream.ensures ∙ ap (λ (g : ChaCha). record g { stream = drill_stream }) c.from_seed-rng.ensures)

pub loop-place-preserved : goal.loop-place-preserved
loop-place-preserved c =
    let i = c.loop-place._place in
    let below = c.loop-place-test.true in
    let small : i < 2 ^ 32 = omega (arith, below, c.ranges.count) in
    let word = word_made c.args.seed i c.next_word-word.result c.loop-place.rng c.next_word-word.new.self small c.loop-place.invariant.1 c.next_word-word.ensures in
    let request = c.as_bytes.ensures.value ∙ c.in_ok-request.ensures ∙ ap request_of word.0 in (
      c.in_ok-extend_from_slice.ensures.items ∙ ap (λ (l : List ℕ). c.loop-place.bytes.items ++ l) request ∙ next_request c.args.seed i c.loop-place.bytes.items c.loop-place.invariant.0,
      word.1,
    )
