use Rattle.std.proofs.Common.{take}
use Rattle.std.specs.Prelude.{All}
use Rattle.journal_lines.specs.FitsTypes.{EntryFitsTypes}
use Rattle.journal_lines.proofs.reading.carried.entries_texts.Given as goal

abbrev pub invariant-loop-entry : goal.invariant-loop-entry
invariant-loop-entry l = All EntryFitsTypes (take l.entry-index l.entries)
