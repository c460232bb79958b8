use Rattle.std.proofs.Common.{◌≡◌, ℕ, List, codes, subst, length}
use Rattle.std.specs.Prelude.{IfOk, string_bytes, decimal}
use Rattle.engine_drill.proofs.MakingLemmas.{pieces_6}
use Rattle.engine_drill.proofs.request.post_create.Goals as goal

pub returns : goal.returns
returns c =
    let body = c.args.body.now in
    let text = pieces_6 (codes "POST /v1.43/containers/create?name=box-") (decimal c.args.k) (codes " HTTP/1.1\r\nHost: x\r\nContent-Length: ") (decimal (length body)) (codes "\r\n\r\n") body in
    subst (λ (l : List ℕ). IfOk c.format.result (λ s. string_bytes s ≡ l)) text c.format.ensures.ok
