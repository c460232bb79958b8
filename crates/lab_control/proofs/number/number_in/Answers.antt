use Rattle.std.proofs.Common.{◌∙◌, sym}
use Rattle.lab_control.proofs.NumberLemmas.{number_read}
use Rattle.lab_control.proofs.number.number_in.Goals as goal

pub returns : goal.returns
returns c =
    c.ok.ensures.value
    ∙ number_read c.args.word.now _ c.parse.ensures.value.0 (sym c.is_number.ensures ∙ c.if-not-is_number.false)
