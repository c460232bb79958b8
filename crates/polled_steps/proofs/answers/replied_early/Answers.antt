use Rattle.std.proofs.Common.{arith, ◌<◌, ◌∙◌, ap, length}
use Rattle.polled_steps.specs.Bytes.{reply_bytes}
use Rattle.polled_steps.proofs.AnswerLemmas.{gives_chunk}
use Rattle.polled_steps.proofs.answers.replied_early.Goals as goal

pub returns : goal.returns
returns c =
    let some : 0 < length (reply_bytes c.args.reply) = omega (arith, c.if-len-eq0.false, ap length c.answer_body-len.ensures) in
    gives_chunk c.args.terms c.args.reply c.sends-2.result c.chunk_front.result c.answer_body-len.result.now c.requires some c.answer_body-len.ensures
    c.chunk_front.ensures (c.sends-2.ensures.bytes_are ∙ c.new-out.ensures) c.sends-2.ensures.behind
