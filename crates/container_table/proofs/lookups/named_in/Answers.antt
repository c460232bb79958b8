use Rattle.std.proofs.Common.{◌∙◌, ap, sym}
use Rattle.container_table.specs.Tables.{numbered}
use Rattle.container_table.specs.Held.{contents}
use Rattle.container_table.specs.declared.entries.Entry.{Entry}
use Rattle.container_table.specs.declared.entries.Key.TheVariants.{Name}
use Rattle.container_table.proofs.PrefixLemmas.{located_is, located_none}
use Rattle.container_table.proofs.lookups.named_in.Goals as goal

pub returns-in-Ok : goal.returns-in-Ok
returns-in-Ok c =
    c.numbered_in.ensures
    ∙ ap (λ (e : Entry). numbered e.number (contents c.args.held.now.list.items)) c.at.ensures
    ∙ located_is Name (contents c.args.held.now.list.items) c.args.name.now c.args.names.now.items c.in-Ok.i c.at.result.now c.requires.boxed.order c.requires.names c.in-Ok.ensures.place

pub returns-in-Err : goal.returns-in-Err
returns-in-Err c = sym (located_none Name (contents c.args.held.now.list.items) c.args.name.now c.in-Err.field-0 c.in-Err.ensures.place)
