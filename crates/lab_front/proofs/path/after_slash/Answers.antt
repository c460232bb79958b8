use Rattle.std.proofs.Common.{arith}
use Rattle.std.proofs.lemmas.Str.Pattern.{strip_prefix_char}
use Rattle.lab_front.proofs.PathLemmas.{stripped}
use Rattle.lab_front.proofs.path.after_slash.Goals as goal

pub returns : goal.returns
returns c =
    stripped c.args.path.now c.strip_prefix.result
    (strip_prefix_char 47 c.args.path.now c.strip_prefix.result c.strip_prefix.ensures.cases (omega arith))
