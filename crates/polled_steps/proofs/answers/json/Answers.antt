use Rattle.std.proofs.Common.{◌∙◌, List, ℕ, ap, length}
use Rattle.http_edge.specs.declared.head.Form.{Form}
use Rattle.session_model.specs.Responses.{whole_bytes}
use Rattle.polled_steps.specs.Bytes.{body_bytes}
use Rattle.polled_steps.proofs.answers.json.Goals as goal

pub returns : goal.returns
returns c =
    c.whole.ensures
    ∙ ap (λ (l : List ℕ). whole_bytes c.args.terms c.args.status (Form.Json (length l)) (body_bytes c.args.body)) c.as_slice.ensures
