use Rattle.std.proofs.Common.{◌∙◌}
use Rattle.journal_lines.specs.JournalLines.{format_of}
use Rattle.journal_lines.proofs.EntryLemmas.{reads_back}
use Rattle.journal_lines.proofs.reading.line.law_line_reads_back.Goals as goal

pub returns : goal.returns
returns c =
    let line = c.as_slice.ensures ∙ c.in_ok-line.ensures in
    let (same, refused) = reads_back (format_of c.args.format) c.args.entry.now _ c.read_line.result c.requires.line line c.read_line.ensures.taken c.read_line.ensures.refused in
    record { same = same; refused = refused }
