use Rattle.std.proofs.Common.{◌∙◌, ap, sym}
use Rattle.container_table.specs.Held.{contents}
use Rattle.container_table.specs.declared.entries.Entry.{Entry}
use Rattle.engine_text.specs.declared.container.Found.{Found}
use Rattle.container_table.proofs.PrefixLemmas.{prefixed_here}
use Rattle.container_table.proofs.lookups.prefixed.Goals as goal

pub returns-then-not-begins_at : goal.returns-then-not-begins_at
returns-then-not-begins_at c =
    let told = prefixed_here (contents c.args.held.now.list.items) c.args.reference.now c.args.entries.now.items c.args.i c.requires.index c.requires.place in
    told.none (sym c.begins_at.ensures.value ∙ c.if-not-begins_at.true)

pub returns-then-begins_at : goal.returns-then-begins_at
returns-then-begins_at c =
    let told = prefixed_here (contents c.args.held.now.list.items) c.args.reference.now c.args.entries.now.items c.args.i c.requires.index c.requires.place in
    told.many (sym c.begins_at.ensures.value ∙ c.if-not-begins_at.false) (sym c.begins_at-2.ensures.value ∙ c.if-begins_at.true)

pub at-requires : goal.at-requires
at-requires c =
    let told = prefixed_here (contents c.args.held.now.list.items) c.args.reference.now c.args.entries.now.items c.args.i c.requires.index c.requires.place in
    told.bound (sym c.begins_at.ensures.value ∙ c.if-not-begins_at.false)

pub returns : goal.returns
returns c =
    let told = prefixed_here (contents c.args.held.now.list.items) c.args.reference.now c.args.entries.now.items c.args.i c.requires.index c.requires.place in
    ap (λ (e : Entry). Found.One e.number) c.at.ensures ∙ told.one c.at.result.now (sym c.begins_at.ensures.value ∙ c.if-not-begins_at.false) (sym c.begins_at-2.ensures.value ∙ c.if-begins_at.false)
