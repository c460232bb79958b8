use Rattle.std.proofs.Common.{ap, ◌∙◌}
use Rattle.serde_json.specs.Written.{has_float}
use Rattle.journal_lines.proofs.HeaderLemmas.{no_float}
use Rattle.journal_lines.proofs.writing.header.header_of.Goals as goal

pub line_of_value-requires : goal.line_of_value-requires
line_of_value-requires c = ap has_float c.in_ok-value.ensures ∙ no_float c.args.seed.now c.args.moment
