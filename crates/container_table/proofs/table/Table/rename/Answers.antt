use Rattle.std.proofs.Common.{◌≡◌, ℕ, List, ◌∙◌, ap, sym, subst, arith, refl, length}
use Rattle.std.specs.Prelude.{◌==◌}
use Rattle.engine_text.specs.declared.container.Container.{Container}
use Rattle.container_table.specs.Tables.{Holdings, renamed}
use Rattle.container_table.specs.Held.{contents, IsIndex, IsFresh}
use Rattle.container_table.specs.declared.entries.Key.TheVariants.{Id, Name}
use Rattle.container_table.proofs.BoxLemmas.{unnumbered, update_none}
use Rattle.container_table.proofs.KeptLemmas.{fresh_for, index_kept, boxed_kept}
use Rattle.container_table.proofs.table.Table.rename.Goals as goal

pub refile-requires-clause-fresh : goal.refile-requires-clause-fresh
refile-requires-clause-fresh c =
    subst (λ (t : List ℕ). IsFresh Name t (contents c.self.inside.boxes.list.items)) (sym c.as_str.ensures)
    (fresh_for Name c.args.name (contents c.self.inside.boxes.list.items) c.args.self.now.containers (ap (λ (k : Holdings). k.containers) c.self.view_is) c.requires)

pub invariant_of-self : goal.invariant_of-self
invariant_of-self c =
    let f : Container → Container = λ d. record d { name = c.args.name } in
    let more : renamed c.held_at-held.result.now.container.number c.as_str.result.now (contents c.self.inside.boxes.list.items) ≡ contents c.rename.new.boxes.list.items =
    rw (c.held_at-held.ensures.number, c.as_str.ensures) (sym c.rename.ensures.contents) in record {
      boxed = boxed_kept c.args.number f c.self.inside.boxes c.rename.new.boxes (λ d. refl) c.self.invariant.boxed c.rename.ensures.numbers c.rename.ensures.contents;
      ids = subst (λ (cs : List Container). IsIndex Id cs c.self.inside.ids.items) (sym c.rename.ensures.contents)
          (index_kept Id c.args.number f (contents c.self.inside.boxes.list.items) c.self.inside.ids.items (λ d. refl) (λ d. refl) c.self.invariant.boxed.order c.self.invariant.ids);
      names = subst (λ (cs : List Container). IsIndex Name cs c.refile.new.entries.items) more c.refile.ensures.index;
      numbers_len = ap (λ l. length l.items) c.rename.ensures.numbers ∙ c.self.invariant.numbers_len ∙ sym c.rename.ensures.len;
      ids_len = omega arith;
      names_len = omega arith;
      list_room = omega arith;
      numbers_room = omega (arith, ap (λ l. l.places) c.rename.ensures.numbers);
      spare_room = omega arith;
      ids_room = omega arith;
      names_room = omega arith;
    }

pub returns-in_default-clause-containers : goal.returns-in_default-clause-containers
returns-in_default-clause-containers c = sym (update_none (λ d. d.number == c.args.number) (λ d. record d { name = c.args.name }) c.args.self.now.containers (unnumbered c.args.number (contents c.self.inside.boxes.list.items) c.args.self.now.containers c.in_default.field-0 (ap (λ (k : Holdings). k.containers) c.self.view_is) c.in_default.ensures.place))
