use Rattle.event_ring.proofs.CodeLemmas.{die_fits}
use Rattle.event_ring.proofs.fold.Fold.fold_action.Goals as goal

pub exit_code-requires : goal.exit_code-requires
exit_code-requires c = die_fits c.args.event.now.attributes (rw (c.requires.kind, c.in-Die.is) at c.requires.line.1)
