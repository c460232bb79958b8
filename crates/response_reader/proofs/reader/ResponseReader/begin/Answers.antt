use Rattle.std.proofs.Common.{arith, ap, drop, refl, ◌∙◌}
use Rattle.response_reader.specs.declared.got.Answered.TheVariants as head
use Rattle.response_reader.proofs.reader.ResponseReader.begin.Goals as goal

pub returns : goal.returns
returns c = record {
  fits = omega (arith, c.ranges.len.fits);
  got_is = ap (λ f. head.Head c.args.head.status f) c.first_in.ensures;
  ahead_is = c.skip.ensures ∙ ap (λ r. drop c.args.len r.ahead) c.self.view_is;
  taken_is = refl;
  from_is = refl;
  left = c.left_of.result;
  stage_is = refl;
  carries = c.left_of.ensures;
}
