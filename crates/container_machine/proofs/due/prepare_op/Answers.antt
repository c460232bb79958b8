use Rattle.std.proofs.Common.{refl, subst, sym}
use Rattle.machine_model.specs.Consistency.{HasOwner}
use Rattle.container_machine.proofs.DueFoundLemmas.{due_stands}
use Rattle.container_machine.proofs.DueMakeLemmas.{makes_op}
use Rattle.container_machine.proofs.due.prepare_op.Goals as goal

pub owner_memory-requires-clause-stands : goal.owner_memory-requires-clause-stands
owner_memory-requires-clause-stands c = subst (HasOwner c.args.tables.now.state) (sym c.owner_at-owner.ensures) ((due_stands c.args.tables.now.state c.args.due c.requires.kept c.requires.least).0 c.requires.rank).owner

pub returns : goal.returns
returns c = makes_op _ c.args.due c.args.tables.now.state c.owner_at-owner.result c.in_ok-brought.brought c.due_code-code.result c.new-events.result.items
    c.requires.kept c.requires.least c.requires.rank c.owner_at-owner.ensures c.in_ok-brought.ensures c.due_code-code.ensures refl refl c.new-events.ensures.items c.in_ok-tell_op.ensures
