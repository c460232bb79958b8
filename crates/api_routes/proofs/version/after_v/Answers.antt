use Rattle.std.proofs.Common.{arith}
use Rattle.std.proofs.lemmas.Str.Pattern.{strip_prefix_char}
use Rattle.api_routes.proofs.version.after_v.Goals as goal

pub returns : goal.returns
returns c = strip_prefix_char 118 c.args.segment.now c.strip_prefix.result c.strip_prefix.ensures.cases (omega arith)
