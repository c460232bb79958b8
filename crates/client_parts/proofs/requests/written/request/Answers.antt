use Rattle.std.proofs.Common.{◌∙◌, codes, map, flat_map}
use Rattle.client_model.specs.Requests.{path_text, query_text, field_line, body_fields}
use Rattle.client_parts.specs.Heads.{behind_target}
use Rattle.client_parts.proofs.RequestLemmas.{spelled, added_8, added_as}
use Rattle.client_parts.proofs.requests.written.request.Goals as goal

pub returns : goal.returns
returns c =
    let method = c.args.method.now in
    let manner = c.args.manner in
    let path = map (λ s. s.now) c.args.path.now in
    let query = c.args.query.now in
    let body = c.args.body.now in
    let first = added_as c.put.new.out.items c.new-out.result.items c.as_bytes.result.now method c.in_ok-put.ensures c.as_bytes.ensures.value in
    let head = added_as c.put-3.new.out.items c.put_query.new.out.items c.behind_target.result.now (behind_target manner) c.in_ok-put-3.ensures c.behind_target.ensures in
    added_8 method (codes " /v1.43") (path_text path) (query_text query) (behind_target manner) (flat_map field_line (body_fields body)) (codes "\r\n") body
    c.new-out.result.items c.put.new.out.items c.put-2.new.out.items c.put_path.new.out.items c.put_query.new.out.items c.put-3.new.out.items
    c.put_body_fields.new.out.items c.put-4.new.out.items c.put-5.new.out.items
    c.new-out.ensures.items first c.in_ok-put-2.ensures c.in_ok-put_path.ensures c.in_ok-put_query.ensures head c.in_ok-put_body_fields.ensures
    c.in_ok-put-4.ensures c.in_ok-put-5.ensures
    ∙ spelled method manner path query body
