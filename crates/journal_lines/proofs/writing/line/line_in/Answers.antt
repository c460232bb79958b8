use Rattle.std.proofs.Common.{ap, ◌∙◌}
use Rattle.serde_json.specs.Written.{has_float}
use Rattle.journal_lines.proofs.FloatLemmas.{no_float-entry}
use Rattle.journal_lines.proofs.writing.line.line_in.Goals as goal

pub line_of_value-requires : goal.line_of_value-requires
line_of_value-requires c = ap has_float c.in_ok-value.ensures ∙ no_float-entry c.args.format c.args.entry.now
