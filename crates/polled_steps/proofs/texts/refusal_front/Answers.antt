use Rattle.std.proofs.Common.{◌++◌, ◌∙◌, List, ℕ, ap, true}
use Rattle.http_edge.specs.Response.{head_by, refusal_body}
use Rattle.http_edge.specs.declared.head.Form.TheVariants.{Json}
use Rattle.polled_steps.proofs.texts.refusal_front.Goals as goal

pub returns : goal.returns
returns c =
    let head = c.head_front-front.ensures.text ∙ ap (λ (n : ℕ). head_by (Json n) c.args.status true) c.refusal_size.ensures in
    c.push_body.ensures ∙ ap (λ (l : List ℕ). l ++ refusal_body c.args.status) head
