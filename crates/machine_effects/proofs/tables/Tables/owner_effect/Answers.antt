use Rattle.machine_events.proofs.OpLemmas.{end_known}
use Rattle.machine_effects.proofs.tables.Tables.owner_effect.Goals as goal

pub end_owner-requires : goal.end_owner-requires
end_owner-requires c = end_known c.args.owner c.args.brought c.in-Ended.code c.args.effect c.args.self.now c.in-Ended.is c.requires.end
