use Rattle.std.proofs.Common.{◌≡◌, ◌∙◌, ap, subst, ◌++◌, ◌∷◌, [], codes, IfOk}
use Rattle.serde_json.specs.Data.{Data}
use Rattle.serde_json.specs.Written.{has_float}
use Rattle.client_model.specs.Requests.{Query, request_bytes, post_body, key_if}
use Rattle.client_model.specs.Commands.Container.{container_data}
use Rattle.client_parts.proofs.BodyLemmas.{container_no_float}
use Rattle.client_parts.proofs.requests.containers.create_request.Goals as goal

pub post_body-requires : goal.post_body-requires
post_body-requires c = ap has_float c.in_ok-body.ensures ∙ container_no_float c.args.c.now

pub returns : goal.returns
returns c =
    let name = key_if (codes "name") c.args.c.now.name in
    let query : c.as_slice.result.now ≡ name = c.as_slice.ensures ∙ c.in_ok-key_if.ensures ∙ ap (λ (q : Query). q ++ name) c.new-query.ensures in
    let path = codes "containers" ∷ codes "create" ∷ [] in
    subst (λ (q : Query). IfOk c.post_body.result (λ r. r.items ≡ request_bytes (post_body path q (container_data c.args.c.now)))) query
    (subst (λ (body : Data). IfOk c.post_body.result (λ r. r.items ≡ request_bytes (post_body path c.as_slice.result.now body)))
    c.in_ok-body.ensures c.post_body.ensures)
