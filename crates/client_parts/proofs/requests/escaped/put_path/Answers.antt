use Rattle.std.proofs.Common.{◌∙◌}
use Rattle.client_parts.proofs.RequestLemmas.{all_segments}
use Rattle.client_parts.proofs.requests.escaped.put_path.Goals as goal

pub returns : goal.returns
returns c = c.path.invariant ∙ all_segments c.args.out.now.items c.args.path.now c.path.segment-index c.path-test.false
