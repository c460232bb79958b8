use Rattle.std.proofs.Common.{arith, List, subst}
use Rattle.std.specs.Prelude.{All}
use Rattle.std.proofs.lemmas.List.{take_all}
use Rattle.std.proofs.lemmas.List.Elements.{All-more}
use Rattle.engine_text.specs.declared.entry.Entry.{Entry}
use Rattle.journal_lines.specs.FitsTypes.{EntryFitsTypes}
use Rattle.journal_lines.proofs.reading.carried.entries_texts.Goals as goal

pub loop-entry-preserved : goal.loop-entry-preserved
loop-entry-preserved c =
    let entry = c.entry-item.result in
    All-more EntryFitsTypes c.args.entries.now c.loop-entry.entry-index entry c.loop-entry-test.true c.loop-entry.invariant
    (subst EntryFitsTypes c.entry-item.is c.entry_texts.ensures)

pub returns : goal.returns
returns c =
    let all : List Entry = c.args.entries.now in
    subst (λ (es : List Entry). All EntryFitsTypes es) (take_all c.loop-entry.entry-index all (omega arith)) c.loop-entry.invariant
