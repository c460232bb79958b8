use Rattle.std.proofs.Common.{sym, ap, ◌∙◌}
use Rattle.engine_text.specs.declared.owner.Owner.{Owner}
use Rattle.machine_model.specs.State.{owner_number}
use Rattle.machine_model.specs.Effects.Meet.{end_of}
use Rattle.machine_events.specs.Fit.{died_of}
use Rattle.std.proofs.Common.{Some}
use Rattle.machine_events.proofs.DiedLemmas.{died_end_main}
use Rattle.machine_events.proofs.OpLemmas.{end_main_known}
use Rattle.machine_effects.proofs.tables.Tables.end_owner.Goals as goal

pub end_main-requires-clause-fit : goal.end_main-requires-clause-fit
end_main-requires-clause-fit c = (end_main_known c.args.owner c.in-Container.number c.args.brought c.args.code c.args.self.now c.in-Container.is c.requires).0

pub end_main-requires-clause-spare : goal.end_main-requires-clause-spare
end_main-requires-clause-spare c = (end_main_known c.args.owner c.in-Container.number c.args.brought c.args.code c.args.self.now c.in-Container.is c.requires).1

pub returns-in-Container-clause-died : goal.returns-in-Container-clause-died
returns-in-Container-clause-died c =
    ap (λ (o : Owner). died_of (owner_number o) (Some c.args.code)) c.in-Container.is
    ∙ (died_end_main c.args.code c.in-Container.number c.args.self.now.state ∙ sym (ap (λ (o : Owner). (end_of o c.args.code c.args.self.now.state).died) c.in-Container.is))
