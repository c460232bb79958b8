use Rattle.std.proofs.Common.{◌≡◌, ℕ, ◌<◌, length, false, sym, ◌∙◌, subst, arith}
use Rattle.std.specs.Prelude.{◌==◌}
use Rattle.std.proofs.lemmas.Bool.Decides.{nat_tests}
use Rattle.stream_frame.specs.Steps.{IsNextOf}
use Rattle.stream_frame.proofs.ChunkLemmas.{pass_held, pass_shorter, pass_over}
use Rattle.stream_frame.proofs.demux.Demux.pass.Goals as goal

some_length : (n : ℕ) → (n == 0) ≡ false → 0 < n
some_length n e = grind (arith, nat_tests)

pub loop-missing-smaller : goal.loop-missing-smaller
loop-missing-smaller c =
    let at = subst (λ n. IsNextOf n c.loop-missing.self.rest) c.in-Payload.is c.next.ensures in
    let some = some_length (length c.loop-missing.rest.now) (sym c.is_empty.ensures ∙ c.if-is_empty.false) in
    let less = pass_shorter c.loop-missing.self c.take_part.new.self c.loop-missing.rest.now c.part_of.result.0.now c.part_of.result.1.now
    c.in-Payload.field-0 c.in-Payload.missing at.0 at.1 some c.part_of.ensures.joined c.part_of.ensures.within c.part_of.ensures.all (c.take_part.ensures _ _ at.0) in
    let short = c.past_headers-rest-in-Payload.ensures.shorter in omega arith

pub loop-missing-preserved : goal.loop-missing-preserved
loop-missing-preserved c =
    let at = subst (λ n. IsNextOf n c.loop-missing.self.rest) c.in-Payload.is c.next.ensures in
    let some = some_length (length c.loop-missing.rest.now) (sym c.is_empty.ensures ∙ c.if-is_empty.false) in
    let held = pass_held c.loop-missing.self c.take_part.new.self c.loop-missing.rest.now c.part_of.result.0.now c.part_of.result.1.now
    c.in-Payload.field-0 c.in-Payload.missing at.0 at.1 some c.part_of.ensures.joined c.part_of.ensures.within c.part_of.ensures.all (c.take_part.ensures _ _ at.0) in
    (c.past_headers-rest-in-Payload.ensures.after ∙ (sym held ∙ c.loop-missing.invariant.0), c.past_headers-rest-in-Payload.ensures.past)

pub returns : goal.returns
returns c = pass_over c.loop-missing.self c.loop-missing.rest.now c.next.result c.next.ensures c.loop-missing.invariant.1 c.in_default.not-Payload ∙ c.loop-missing.invariant.0
