use Rattle.std.proofs.Common.{sym, ap, ◌∙◌}
use Rattle.client_model.specs.declared.fault.Fault.TheVariants as F
use Rattle.client_parts.proofs.TellingLemmas.{behind_so, behind_none}
use Rattle.client_parts.proofs.answers.telling.write_behind.Goals as goal

pub returns-in-AnswerTo : goal.returns-in-AnswerTo
returns-in-AnswerTo g c =
    behind_so c.args.fault.now (F.AnswerTo c.as_slice.result.now c.in-AnswerTo.status) c.write_answer.result _ _
    (c.in-AnswerTo.is ∙ ap (λ r. F.AnswerTo r c.in-AnswerTo.status) (sym c.as_slice.ensures)) c.write_answer.ensures

pub returns-in_default : goal.returns-in_default
returns-in_default g c = behind_none c.args.fault.now tt _ c.in_default.not-AnswerTo
