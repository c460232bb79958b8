use Rattle.std.proofs.Common.{◌∙◌, codes, decimal, length}
use Rattle.client_parts.proofs.RequestLemmas.{body_spelled, added_3, added_as}
use Rattle.client_parts.proofs.requests.written.put_sized.Goals as goal

pub returns : goal.returns
returns c =
    let before = c.args.out.now.items in
    let body = c.args.body.now in
    let digits = added_as c.put-2.new.out.items c.put.new.out.items c.as_bytes.result.now (decimal (length body)) c.in_ok-put-2.ensures (c.as_bytes.ensures.value ∙ c.format.ensures.text) in
    added_3 before (codes "Content-Length: ") (decimal (length body)) (codes "\r\nContent-Type: application/json\r\n") c.put.new.out.items c.put-2.new.out.items c.put-3.new.out.items
    c.in_ok-put.ensures digits c.in_ok-put-3.ensures
    ∙ body_spelled before body c.requires
