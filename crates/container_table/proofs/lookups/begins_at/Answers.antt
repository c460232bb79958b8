use Rattle.std.proofs.Common.{◌∙◌, ap, sym, arith}
use Rattle.engine_text.specs.Texts.{begins_with}
use Rattle.container_table.specs.Tables.{numbered}
use Rattle.container_table.specs.Held.{contents, found_text}
use Rattle.container_table.specs.declared.entries.Entry.{Entry}
use Rattle.container_table.specs.declared.entries.Key.TheVariants.{Id}
use Rattle.container_table.proofs.PrefixLemmas.{begun_here, none_here}
use Rattle.container_table.proofs.lookups.begins_at.Goals as goal

pub returns-then-i-len-clause-value : goal.returns-then-i-len-clause-value
returns-then-i-len-clause-value c =
    (rw (c.as_bytes.ensures.value, c.text_at-id.ensures, c.as_bytes-then-i-len.ensures.value) at c.starts_with.ensures.value)
    ∙ ap (λ (e : Entry). begins_with (found_text Id (numbered e.number (contents c.args.held.now.list.items))) c.args.reference.now) c.at.ensures
    ∙ begun_here (contents c.args.held.now.list.items) c.args.reference.now c.args.entries.now.items c.args.i c.at.result.now c.requires.boxed.order c.requires.index (omega arith)

pub returns-clause-value : goal.returns-clause-value
returns-clause-value c = sym (none_here (contents c.args.held.now.list.items) c.args.reference.now c.args.entries.now.items c.args.i c.requires.index (omega arith))
