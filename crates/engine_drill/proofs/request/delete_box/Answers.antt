use Rattle.std.proofs.Common.{◌≡◌, ℕ, List, codes, subst}
use Rattle.std.specs.Prelude.{IfOk, string_bytes, decimal}
use Rattle.drill_model.specs.Requests.{bare_end}
use Rattle.engine_drill.proofs.MakingLemmas.{pieces_4}
use Rattle.engine_drill.proofs.request.delete_box.Goals as goal

pub returns : goal.returns
returns c =
    subst (λ (l : List ℕ). IfOk c.format.result (λ s. string_bytes s ≡ l))
    (pieces_4 (codes "DELETE /v1.43/containers/box-") (decimal c.args.k) c.args.query.now bare_end) c.format.ensures.ok
