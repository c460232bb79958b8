use Rattle.std.proofs.Common.{◌∙◌, sym}
use Rattle.machine_events.specs.ChangedLives.{changed_life}
use Rattle.machine_events.proofs.LifeLemmas.{changed_here, changed_nowhere, place_bound}
use Rattle.machine_events.proofs.lives.renew.Goals as goal

pub change-requires : goal.change-requires
change-requires c = place_bound c.args.number c.args.table.now.containers c.in-Some.place (sym c.place_of.ensures ∙ c.in-Some.is)

pub returns-in-Some-clause-containers : goal.returns-in-Some-clause-containers
returns-in-Some-clause-containers c =
    c.change.ensures.containers ∙ changed_here c.args.number c.args.noted c.args.table.now.containers c.in-Some.place (sym c.place_of.ensures ∙ c.in-Some.is)

pub returns-in_default-clause-containers : goal.returns-in_default-clause-containers
returns-in_default-clause-containers c = changed_nowhere c.args.number (changed_life c.args.noted) c.args.table.now.containers (sym c.place_of.ensures ∙ c.in_default.is)
