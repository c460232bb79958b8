use Rattle.std.proofs.Common.{ℕ, ◌∙◌, ap, List}
use Rattle.std.specs.List.{insert, remove}
use Rattle.container_table.specs.Held.{contents}
use Rattle.container_table.specs.Logs.{container_in}
use Rattle.container_table.specs.declared.entries.Entry.{Entry}
use Rattle.container_table.specs.declared.entries.Key.TheVariants.{Name}
use Rattle.container_table.proofs.IndexLemmas.{refiled, held_below, none_fresh}
use Rattle.container_table.proofs.entries.refile.Goals as goal

pub returns-clause-index : goal.returns-clause-index
returns-clause-index c =
    refiled (contents c.args.held.now.list.items) (container_in c.args.one.now) c.args.name.now c.args.entries.now.items c.insert.new.self.items c.in-Ok.i c.in-Err.j c.place_behind.result
    c.requires.boxed.order c.requires.index c.requires.held c.requires.fresh
    (rw c.as_str.ensures at c.in-Ok.ensures.place) c.in-Err.ensures.place c.place_behind.ensures.above c.place_behind.ensures.below
    (c.insert.ensures.items
    ∙ ap (λ (es : List Entry). insert es c.place_behind.result (record { start = c.start_of.result; number = c.args.one.now.container.number })) c.remove.ensures.items
    ∙ ap (λ (s : List ℕ). insert (remove c.args.entries.now.items c.in-Ok.i) c.place_behind.result (record { start = s; number = c.args.one.now.container.number })) c.start_of.ensures)

pub returns-in_default-clause-index : goal.returns-in_default-clause-index
returns-in_default-clause-index c =
    absurd (held_below Name (contents c.args.held.now.list.items) c.args.one.now.container.number (container_in c.args.one.now) c.in_default.field-0 c.requires.held (rw c.as_str.ensures at c.in_default.ensures.place))

pub returns-in_default-locate-clause-index : goal.returns-in_default-locate-clause-index
returns-in_default-locate-clause-index c =
    absurd (none_fresh Name (contents c.args.held.now.list.items) c.args.name.now c.in_default-locate.field-0 c.requires.fresh c.in_default-locate.ensures.place)
