use Rattle.container_table.specs.Logs.{container_in}
use Rattle.call_plans.proofs.MakeLemmas.{few_found}
use Rattle.call_plans.proofs.ReadyLemmas.{few}
use Rattle.call_plans.proofs.RunEndLemmas.{owner_memory_of}
use Rattle.container_machine.proofs.due.owner_memory.Goals as goal

pub end_memory-requires : goal.end_memory-requires
end_memory-requires c = few_found c.in-Container.number c.args.tables.now.state.containers (container_in c.standing-h.result.now) (few c.args.tables.now.state c.requires.kept) c.standing-h.ensures

pub returns-in-Container : goal.returns-in-Container
returns-in-Container c = owner_memory_of _ c.args.code c.in-Container.number c.args.owner (container_in c.standing-h.result.now) c.args.tables.now.state c.in-Container.is c.standing-h.ensures c.end_memory.ensures
