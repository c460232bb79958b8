use Rattle.std.proofs.Common.{◌∙◌}
use Rattle.clap.specs.Matches.{found_of}
use Rattle.engine_line.proofs.LineLemmas.{value_told}
use Rattle.lab_line.proofs.read.value.Goals as goal

pub returns : goal.returns
returns c = c.get_str.ensures ∙ value_told (found_of c.args.matches.now).entries.items c.args.name.now
