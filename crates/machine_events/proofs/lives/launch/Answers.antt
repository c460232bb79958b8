use Rattle.std.proofs.Common.{◌<◌, ◌^◌, ◌∙◌, sym}
use Rattle.engine_text.specs.declared.container.Container.{Container}
use Rattle.machine_events.specs.ChangedLives.{launched_at}
use Rattle.machine_events.proofs.LifeLemmas.{all_got, changed_nowhere, launched_here, place_bound}
use Rattle.machine_events.proofs.lives.launch.Goals as goal

pub launch-requires-clause-place : goal.launch-requires-clause-place
launch-requires-clause-place c = place_bound c.args.number c.args.table.now.containers c.in-Some.place (sym c.place_of.ensures ∙ c.in-Some.is)

pub launch-requires-clause-few : goal.launch-requires-clause-few
launch-requires-clause-few c = λ d e. all_got (λ (x : Container). x.life.starts < 2 ^ 63) c.args.table.now.containers c.in-Some.place d c.requires e

pub returns-in-Some-clause-containers : goal.returns-in-Some-clause-containers
returns-in-Some-clause-containers c =
    c.launch.ensures.containers ∙ launched_here c.args.number c.args.pid c.args.moment c.args.table.now.containers c.in-Some.place (sym c.place_of.ensures ∙ c.in-Some.is)

pub returns-in_default-clause-containers : goal.returns-in_default-clause-containers
returns-in_default-clause-containers c = changed_nowhere c.args.number (launched_at c.args.pid c.args.moment) c.args.table.now.containers (sym c.place_of.ensures ∙ c.in_default.is)
