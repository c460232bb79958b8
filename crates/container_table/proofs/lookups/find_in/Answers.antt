use Rattle.std.proofs.Common.{ℕ, List, ◌∙◌, ap, sym, None}
use Rattle.container_table.specs.Held.{contents}
use Rattle.container_table.specs.Tables.{named}
use Rattle.container_table.specs.declared.entries.Entry.{Entry}
use Rattle.engine_text.specs.declared.container.Found.{Found}
use Rattle.container_table.specs.declared.entries.Key.TheVariants.{Name}
use Rattle.container_table.proofs.PrefixLemmas.{found_by_id, found_by_name, found_named, located_none}
use Rattle.container_table.proofs.lookups.find_in.Goals as goal

pub returns-in-Ok : goal.returns-in-Ok
returns-in-Ok c =
    ap (λ (e : Entry). Found.One e.number) c.at.ensures
    ∙ found_by_id (contents c.args.held.now.list.items) c.args.reference.now c.args.ids.now.items c.in-Ok.i c.at.result.now c.requires.boxed.order c.requires.ids c.in-Ok.ensures.place

pub returns-in-Ok-locate : goal.returns-in-Ok-locate
returns-in-Ok-locate c =
    ap (λ (e : Entry). Found.One e.number) c.at-in-Ok-locate.ensures
    ∙ found_named (contents c.args.held.now.list.items) c.args.reference.now c.without_slash.result.now c.args.names.now.items c.in-Err.i c.in-Ok-locate.j c.at-in-Ok-locate.result.now c.requires.boxed.order c.requires.names c.without_slash.ensures
    c.in-Err.ensures.place c.in-Ok-locate.ensures.place

pub returns-in-Err-locate : goal.returns-in-Err-locate
returns-in-Err-locate c =
    c.prefixed.ensures
    ∙ found_by_name (contents c.args.held.now.list.items) c.args.reference.now c.in-Err.i None c.in-Err.ensures.place
    (sym (located_none Name (contents c.args.held.now.list.items) c.without_slash.result.now c.in-Err-locate.field-0 c.in-Err-locate.ensures.place) ∙ ap (λ (t : List ℕ). named t (contents c.args.held.now.list.items)) c.without_slash.ensures)
