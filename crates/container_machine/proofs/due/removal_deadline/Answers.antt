use Rattle.std.proofs.Common.{refl}
use Rattle.container_machine.proofs.DueMakeLemmas.{makes_removal_deadline}
use Rattle.container_machine.proofs.due.removal_deadline.Goals as goal

pub returns : goal.returns
returns c = λ s. makes_removal_deadline _ c.args.due s c.requires refl refl c.new.ensures.items
