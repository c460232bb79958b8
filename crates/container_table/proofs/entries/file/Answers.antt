use Rattle.std.proofs.Common.{◌∙◌, ap}
use Rattle.std.specs.List.{insert}
use Rattle.container_table.specs.Held.{contents}
use Rattle.container_table.specs.Logs.{container_in}
use Rattle.container_table.specs.declared.entries.Entry.{Entry}
use Rattle.container_table.proofs.IndexLemmas.{filed, none_fresh}
use Rattle.container_table.proofs.entries.file.Goals as goal

pub returns-in-Err-clause-index : goal.returns-in-Err-clause-index
returns-in-Err-clause-index c =
    filed c.args.key (contents c.args.held.now.list.items) (container_in c.args.one.now) c.args.entries.now.items c.insert.new.self.items c.in-Err.i c.requires.index c.requires.fresh
    (rw c.text_of.ensures at c.in-Err.ensures.place)
    (c.insert.ensures.items ∙ ap (λ (e : Entry). insert c.args.entries.now.items c.in-Err.i e) c.entry_of.ensures)

pub returns-in_default-clause-index : goal.returns-in_default-clause-index
returns-in_default-clause-index c =
    absurd (none_fresh c.args.key (contents c.args.held.now.list.items) _ c.in_default.field-0 c.requires.fresh (rw c.text_of.ensures at c.in_default.ensures.place))

pub returns-in_default-clause-len : goal.returns-in_default-clause-len
returns-in_default-clause-len c =
    absurd (none_fresh c.args.key (contents c.args.held.now.list.items) _ c.in_default.field-0 c.requires.fresh (rw c.text_of.ensures at c.in_default.ensures.place))
