use Rattle.std.proofs.Common.{arith, ◌∙◌, sym}
use Rattle.polled_steps.proofs.AnswerLemmas.{no_part, part_chunk}
use Rattle.polled_steps.proofs.chunks.chunk.Goals as goal

pub returns-then-len-eq0 : goal.returns-then-len-eq0
returns-then-len-eq0 c = c.none.ensures ∙ sym (no_part c.args.bytes.items (omega (arith, c.if-len-eq0.true, c.len-len.ensures, c.args.bytes.ok.0)))

pub returns : goal.returns
returns c =
    part_chunk c.args.bytes.items c.len-len.result c.chunk_front.result _ (omega (arith, c.if-len-eq0.false)) (c.len-len.ensures ∙ c.args.bytes.ok.0) c.chunk_front.ensures c.new.ensures
