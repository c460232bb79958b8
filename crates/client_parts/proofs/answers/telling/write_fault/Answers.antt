use Rattle.std.proofs.Common.{◌++◌, ◌∙◌, ap₂}
use Rattle.client_parts.proofs.TellingLemmas.{line_written, line_failed}
use Rattle.client_parts.proofs.answers.telling.write_fault.Goals as goal

pub returns-in-Ok : goal.returns-in-Ok
returns-in-Ok g c =
    line_written c.args.words.now c.args.fault.now _ c.in-Ok.field-0 c.write_behind.result _ _ _
    (ap₂ (λ x y. x ++ y) (ap₂ (λ x y. x ++ y) c.as_bytes.ensures.value c.as_bytes-2.ensures.value) c.as_bytes-3.ensures.value ∙ c.fault_line.ensures) c.in-Ok.ensures c.write_behind.ensures

pub returns-in-Err : goal.returns-in-Err
returns-in-Err g c =
    line_failed c.args.words.now c.args.fault.now _ c.in-Err.failed _ _
    (ap₂ (λ x y. x ++ y) (ap₂ (λ x y. x ++ y) c.as_bytes.ensures.value c.as_bytes-2.ensures.value) c.as_bytes-3.ensures.value ∙ c.fault_line.ensures) c.in-Err.ensures
