use Rattle.std.proofs.Common.{sym, ap, ◌∙◌}
use Rattle.engine_text.specs.declared.owner.Owner.{Owner}
use Rattle.engine_text.specs.declared.script.Effect.{Effect}
use Rattle.machine_model.specs.Effects.Meet.{by_effect}
use Rattle.machine_events.proofs.DiedLemmas.{died_end_main, main_ended}
use Rattle.machine_effects.proofs.tables.Tables.main_effect.Goals as goal

pub returns-in-Ended-clause-died : goal.returns-in-Ended-clause-died
returns-in-Ended-clause-died c = died_end_main c.in-Ended.code c.args.number c.args.self.now.state ∙ ap (λ (e : Effect). (by_effect e (Owner.Container c.args.number) c.args.self.now.state).died) (sym c.in-Ended.is)

pub end_main-requires-clause-fit : goal.end_main-requires-clause-fit
end_main-requires-clause-fit c = c.requires.end (main_ended c.args.effect c.in-Ended.code c.args.number c.args.self.now.state c.in-Ended.is)
