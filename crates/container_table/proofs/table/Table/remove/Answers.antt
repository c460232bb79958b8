use Rattle.std.proofs.Common.{List, ap, sym, subst, arith}
use Rattle.std.specs.Prelude.{◌==◌}
use Rattle.engine_text.specs.declared.container.Container.{Container}
use Rattle.container_table.specs.Order.{IsInOrder}
use Rattle.container_table.specs.Tables.{Holdings}
use Rattle.container_table.specs.Held.{contents, is_numbered_before, IsIndex}
use Rattle.container_table.specs.declared.entries.Key.TheVariants.{Id, Name}
use Rattle.container_table.proofs.SearchLemmas.{find_none}
use Rattle.container_table.proofs.BoxLemmas.{unnumbered, remove_none, rooms_all}
use Rattle.container_table.proofs.KeptLemmas.{in_order_less}
use Rattle.container_table.proofs.table.Table.remove.Goals as goal

pub returns-in_default-clause-value : goal.returns-in_default-clause-value
returns-in_default-clause-value c = sym (find_none (λ d. d.number == c.args.number) c.args.self.now.containers (unnumbered c.args.number (contents c.self.inside.boxes.list.items) c.args.self.now.containers c.in_default.field-0 (ap (λ (k : Holdings). k.containers) c.self.view_is) c.in_default.ensures.place))

pub returns-in_default-clause-containers : goal.returns-in_default-clause-containers
returns-in_default-clause-containers c = sym (remove_none (λ d. d.number == c.args.number) c.args.self.now.containers (unnumbered c.args.number (contents c.self.inside.boxes.list.items) c.args.self.now.containers c.in_default.field-0 (ap (λ (k : Holdings). k.containers) c.self.view_is) c.in_default.ensures.place))

pub returns-in_default-clause-logs : goal.returns-in_default-clause-logs
returns-in_default-clause-logs c = sym (rooms_all c.args.number c.args.self.now.containers c.args.self.now.logs (unnumbered c.args.number (contents c.self.inside.boxes.list.items) c.args.self.now.containers c.in_default.field-0 (ap (λ (k : Holdings). k.containers) c.self.view_is) c.in_default.ensures.place))

pub invariant_of-self : goal.invariant_of-self
invariant_of-self c = record {
  boxed = record {
    order = subst (λ (cs : List Container). IsInOrder is_numbered_before cs) (sym c.take.ensures.contents)
        (in_order_less is_numbered_before (λ d. d.number == c.args.number) (contents c.self.inside.boxes.list.items) c.self.invariant.boxed.order);
    numbers = c.take.ensures.numbers;
  };
  ids = subst (λ (cs : List Container). IsIndex Id cs c.unfile.new.entries.items) (sym c.take.ensures.contents) c.unfile.ensures.index;
  names = subst (λ (cs : List Container). IsIndex Name cs c.unfile-2.new.entries.items) (sym c.take.ensures.contents) c.unfile-2.ensures.index;
  numbers_len = omega arith;
  ids_len = omega arith;
  names_len = omega arith;
  list_room = omega arith;
  numbers_room = omega arith;
  spare_room = omega arith;
  ids_room = omega arith;
  names_room = omega arith;
}
