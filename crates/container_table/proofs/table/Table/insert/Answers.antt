use Rattle.std.proofs.Common.{◌<◌, List, ap, sym, subst, arith}
use Rattle.std.specs.List.{AllByRecursion}
use Rattle.engine_text.specs.declared.container.Container.{Container}
use Rattle.container_table.specs.Order.{IsInOrder}
use Rattle.container_table.specs.Tables.{Holdings}
use Rattle.container_table.specs.Logs.{container_in}
use Rattle.container_table.specs.Held.{contents, is_numbered_before, IsIndex}
use Rattle.container_table.specs.declared.entries.Key.TheVariants.{Id, Name}
use Rattle.container_table.proofs.KeptLemmas.{fresh_for, numbers_more}
use Rattle.container_table.proofs.table.Table.insert.Goals as goal

pub file-requires-clause-fresh : goal.file-requires-clause-fresh
file-requires-clause-fresh c = fresh_for Id c.args.held.container.id (contents c.self.inside.boxes.list.items) c.args.self.now.containers (ap (λ (k : Holdings). k.containers) c.self.view_is) c.requires.id

pub file-requires-2-clause-fresh : goal.file-requires-2-clause-fresh
file-requires-2-clause-fresh c = fresh_for Name c.args.held.container.name (contents c.self.inside.boxes.list.items) c.args.self.now.containers (ap (λ (k : Holdings). k.containers) c.self.view_is) c.requires.name

pub invariant_of-self : goal.invariant_of-self
invariant_of-self c = record {
  boxed = record {
    order = subst (λ (cs : List Container). IsInOrder is_numbered_before cs) (sym c.put.ensures.contents)
        (numbers_more (contents c.self.inside.boxes.list.items) (container_in c.args.held) c.self.invariant.boxed.order
        (subst (λ (cs : List Container). AllByRecursion (λ d. d.number < c.args.held.container.number) cs) (sym (ap (λ (k : Holdings). k.containers) c.self.view_is)) c.requires.above));
    numbers = c.put.ensures.numbers;
  };
  ids = subst (λ (cs : List Container). IsIndex Id cs c.file.new.entries.items) (sym c.put.ensures.contents) c.file.ensures.index;
  names = subst (λ (cs : List Container). IsIndex Name cs c.file-2.new.entries.items) (sym c.put.ensures.contents) c.file-2.ensures.index;
  numbers_len = omega arith;
  ids_len = omega arith;
  names_len = omega arith;
  list_room = omega arith;
  numbers_room = omega arith;
  spare_room = omega arith;
  ids_room = omega arith;
  names_room = omega arith;
}
