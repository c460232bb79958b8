use Rattle.std.proofs.Common.{◌≡◌, ◌∙◌, ap, subst, [], codes, IfOk}
use Rattle.serde_json.specs.Data.{Data}
use Rattle.serde_json.specs.Written.{has_float}
use Rattle.client_model.specs.Requests.{request_bytes, post_body, operation_path}
use Rattle.client_parts.proofs.BodyLemmas.{update_no_float}
use Rattle.client_parts.proofs.requests.containers.update_request.Goals as goal

pub post_body-requires : goal.post_body-requires
post_body-requires c = ap has_float c.in_ok-body.ensures ∙ update_no_float c.args.restart.now

pub returns : goal.returns
returns c =
    subst (λ (body : Data). IfOk c.post_body.result (λ r. r.items ≡ request_bytes (post_body (operation_path c.args.target.now (codes "update")) [] body)))
    c.in_ok-body.ensures c.post_body.ensures
