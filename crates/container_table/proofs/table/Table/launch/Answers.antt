use Rattle.std.proofs.Common.{◌≡◌, ◌<◌, List, ◌∙◌, ap, sym, subst, arith, refl, length, get_or}
use Rattle.std.specs.Prelude.{◌==◌, slice_get}
use Rattle.engine_text.specs.declared.container.Container.{Container}
use Rattle.container_table.specs.Blank.{nothing_held}
use Rattle.container_table.specs.LifeChanges.{with_launch}
use Rattle.container_table.specs.Lists.{update_first}
use Rattle.container_table.specs.Logs.{container_in}
use Rattle.container_table.specs.Tables.{Holdings}
use Rattle.container_table.specs.Held.{contents, IsIndex}
use Rattle.container_table.specs.declared.entries.Key.TheVariants.{Id, Name}
use Rattle.container_table.proofs.LifeLemmas.{by_number}
use Rattle.container_table.proofs.KeptLemmas.{index_kept, boxed_kept}
use Rattle.container_table.proofs.table.Table.launch.Goals as goal

pub launch-requires-clause-few : goal.launch-requires-clause-few
launch-requires-clause-few c = λ d e. c.requires.few d (ap (λ (k : Holdings). slice_get k.containers c.args.place) (sym c.self.view_is) ∙ e)

pub invariant_of-self : goal.invariant_of-self
invariant_of-self c =
    let f : Container → Container = with_launch c.args.pid c.args.moment in
    let cs : List Container = contents c.self.inside.boxes.list.items in
    let d : Container = get_or cs c.args.place (container_in nothing_held) in
    let low : c.args.place < length cs = subst (λ (k : Holdings). c.args.place < length k.containers) (sym c.self.view_is) c.requires.place in
    let new : contents c.launch.new.boxes.list.items ≡ update_first (λ x. x.number == d.number) f cs =
    c.launch.ensures.contents ∙ by_number f cs c.args.place (container_in nothing_held) c.self.invariant.boxed.order low in
    record {
      boxed = boxed_kept d.number f c.self.inside.boxes c.launch.new.boxes (λ x. refl) c.self.invariant.boxed c.launch.ensures.numbers new;
      ids = subst (λ (cs : List Container). IsIndex Id cs c.self.inside.ids.items) (sym new)
          (index_kept Id d.number f cs c.self.inside.ids.items (λ x. refl) (λ x. refl) c.self.invariant.boxed.order c.self.invariant.ids);
      names = subst (λ (cs : List Container). IsIndex Name cs c.self.inside.names.items) (sym new)
          (index_kept Name d.number f cs c.self.inside.names.items (λ x. refl) (λ x. refl) c.self.invariant.boxed.order c.self.invariant.names);
      numbers_len = ap (λ l. length l.items) c.launch.ensures.numbers ∙ c.self.invariant.numbers_len ∙ sym c.launch.ensures.len;
      ids_len = omega arith;
      names_len = omega arith;
      list_room = omega arith;
      numbers_room = omega (arith, ap (λ l. l.places) c.launch.ensures.numbers);
      spare_room = omega arith;
      ids_room = omega arith;
      names_room = omega arith;
    }
