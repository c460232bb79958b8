use Rattle.std.proofs.Common.{List, [], ◌∷◌, ◌++◌, ◌∙◌, ap, sym, subst, arith, refl, length}
use Rattle.std.specs.Prelude.{◌==◌}
use Rattle.engine_text.specs.declared.container.Container.{Container}
use Rattle.container_table.specs.Tables.{Holdings}
use Rattle.container_table.specs.Held.{contents, IsIndex}
use Rattle.container_table.specs.declared.entries.Key.TheVariants.{Id, Name}
use Rattle.container_table.proofs.BoxLemmas.{unnumbered, update_none, rooms_unused}
use Rattle.container_table.proofs.KeptLemmas.{index_kept, boxed_kept}
use Rattle.container_table.proofs.table.Table.push_record.Goals as goal

pub invariant_of-self : goal.invariant_of-self
invariant_of-self c =
    let f : Container → Container = λ d. record d { life = record d.life { log = d.life.log ++ c.args.item ∷ [] } } in
    record {
      boxed = boxed_kept c.args.number f c.self.inside.boxes c.push_record.new.boxes (λ d. refl) c.self.invariant.boxed c.push_record.ensures.numbers c.push_record.ensures.contents;
      ids = subst (λ (cs : List Container). IsIndex Id cs c.self.inside.ids.items) (sym c.push_record.ensures.contents)
          (index_kept Id c.args.number f (contents c.self.inside.boxes.list.items) c.self.inside.ids.items (λ d. refl) (λ d. refl) c.self.invariant.boxed.order c.self.invariant.ids);
      names = subst (λ (cs : List Container). IsIndex Name cs c.self.inside.names.items) (sym c.push_record.ensures.contents)
          (index_kept Name c.args.number f (contents c.self.inside.boxes.list.items) c.self.inside.names.items (λ d. refl) (λ d. refl) c.self.invariant.boxed.order c.self.invariant.names);
      numbers_len = ap (λ l. length l.items) c.push_record.ensures.numbers ∙ c.self.invariant.numbers_len ∙ sym c.push_record.ensures.len;
      ids_len = omega arith;
      names_len = omega arith;
      list_room = omega arith;
      numbers_room = omega (arith, ap (λ l. l.places) c.push_record.ensures.numbers);
      spare_room = omega arith;
      ids_room = omega arith;
      names_room = omega arith;
    }

pub returns-in_default-clause-containers : goal.returns-in_default-clause-containers
returns-in_default-clause-containers c =
    sym (update_none (λ d. d.number == c.args.number) (λ d. record d { life = record d.life { log = d.life.log ++ c.args.item ∷ [] } }) c.args.self.now.containers (unnumbered c.args.number (contents c.self.inside.boxes.list.items) c.args.self.now.containers c.in_default.field-0 (ap (λ (k : Holdings). k.containers) c.self.view_is) c.in_default.ensures.place))

pub returns-in_default-clause-logs : goal.returns-in_default-clause-logs
returns-in_default-clause-logs c = sym (rooms_unused c.args.number c.args.self.now.containers c.args.self.now.logs (unnumbered c.args.number (contents c.self.inside.boxes.list.items) c.args.self.now.containers c.in_default.field-0 (ap (λ (k : Holdings). k.containers) c.self.view_is) c.in_default.ensures.place))
