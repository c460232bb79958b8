use Rattle.std.proofs.Common.{arith, ◌∙◌}
use Rattle.polled_steps.proofs.AnswerLemmas.{last_alone, last_part}
use Rattle.polled_steps.proofs.chunks.last.Goals as goal

pub returns-then-len-eq0 : goal.returns-then-len-eq0
returns-then-len-eq0 c = record {
  bytes_are = c.sends.ensures.bytes_are
      ∙ last_alone c.args.bytes.items c.last_front.result _ (omega (arith, c.if-len-eq0.true, c.len-len.ensures, c.args.bytes.ok.0)) c.last_front.ensures c.new.ensures;
  behind = c.sends.ensures.behind;
}

pub returns : goal.returns
returns c = record {
  bytes_are = c.sends-2.ensures.bytes_are
      ∙ last_part c.args.bytes.items c.len-len.result c.chunk_front.result _ (omega (arith, c.if-len-eq0.false)) (c.len-len.ensures ∙ c.args.bytes.ok.0) c.chunk_front.ensures
      c.new-out.ensures;
  behind = c.sends-2.ensures.behind;
}
