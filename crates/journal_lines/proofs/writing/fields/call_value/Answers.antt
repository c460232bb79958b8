use Rattle.std.proofs.Common.{ap, ◌∙◌}
use Rattle.serde_json.specs.Data.{object}
use Rattle.journal_lines.specs.CallFields.{fields_of}
use Rattle.journal_lines.proofs.CallLemmas.{told}
use Rattle.journal_lines.proofs.FieldLemmas.{placed}
use Rattle.journal_lines.proofs.writing.fields.call_value.Goals as goal

pub returns : goal.returns
returns c =
    let call = c.args.call.now in
    c.in_ok-value.ensures ∙ ap object (placed c.args.format (fields_of call) ((told call).1 c.args.format))
