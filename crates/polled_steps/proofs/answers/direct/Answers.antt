use Rattle.std.proofs.Common.{◌∙◌, List, ℕ, ap, length}
use Rattle.api_routes.specs.declared.class.DirectKind.{DirectKind}
use Rattle.http_edge.specs.declared.head.Form.{Form}
use Rattle.session_model.specs.Responses.{json_bytes, whole_bytes}
use Rattle.polled_steps.proofs.AnswerLemmas.{direct_by}
use Rattle.polled_steps.proofs.answers.direct.Goals as goal

pub returns-in-Ok : goal.returns-in-Ok
returns-in-Ok c =
    direct_by c.args.terms c.args.answer DirectKind.Message _ c.in-Message.is
    (record { bytes_are = c.sends.ensures.bytes_are ∙ c.json.ensures ∙ ap (json_bytes c.args.terms c.args.answer.status) c.in-Ok.ensures; behind = c.sends.ensures.behind })

pub returns : goal.returns
returns c =
    direct_by c.args.terms c.args.answer DirectKind.Plain _ c.in-Plain.is
    (record {
      bytes_are = c.sends-in-Plain.ensures.bytes_are ∙ c.whole.ensures
          ∙ ap (λ (l : List ℕ). whole_bytes c.args.terms c.args.answer.status (Form.Plain (length l)) c.args.answer.text) c.as_slice.ensures;
      behind = c.sends-in-Plain.ensures.behind;
    })
