use Rattle.std.proofs.Common.{◌≡◌, ℕ, List, codes, subst}
use Rattle.std.specs.Prelude.{IfOk, string_bytes, decimal}
use Rattle.drill_model.specs.Requests.{bare_end}
use Rattle.engine_drill.proofs.MakingLemmas.{pieces_5}
use Rattle.engine_drill.proofs.request.post_rename.Goals as goal

pub returns : goal.returns
returns c =
    subst (λ (l : List ℕ). IfOk c.format.result (λ s. string_bytes s ≡ l))
    (pieces_5 (codes "POST /v1.43/containers/box-") (decimal c.args.k) (codes "/rename?name=box-") (decimal c.args.next) bare_end) c.format.ensures.ok
