use Rattle.std.proofs.Common.{◌∙◌}
use Rattle.response_reader.proofs.StatusLemmas.{status_tested}
use Rattle.response_reader.proofs.heads.may_begin.Goals as goal

pub returns : goal.returns
returns c =
    status_tested c.eq.result c.args.bytes.now c.as_bytes-digits.result.now c.args.status c.min-len.result
    (c.as_bytes-digits.ensures.value ∙ c.format.ensures.text) c.min-len.ensures c.eq.ensures
