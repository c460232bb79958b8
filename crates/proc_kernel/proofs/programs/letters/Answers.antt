use Rattle.std.proofs.Common.{◌∙◌}
use Rattle.std.proofs.lemmas.List.{take-replicate}
use Rattle.proc_kernel.specs.Catalogue.{letters}
use Rattle.proc_kernel.proofs.programs.letters.Goals as goal

pub returns : goal.returns
unfolding letters
returns c = c.lent.ensures ∙ take-replicate c.args.n 32768 120 c.requires
