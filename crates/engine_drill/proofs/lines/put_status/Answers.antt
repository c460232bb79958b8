use Rattle.std.proofs.Common.{◌≡◌, ◌++◌, ℕ, List, subst}
use Rattle.std.specs.Prelude.{OnOk, string_bytes}
use Rattle.engine_drill.proofs.LineLemmas.{was_answered}
use Rattle.engine_drill.proofs.lines.put_status.Goals as goal

pub returns : goal.returns
returns c =
    subst (λ (l : List ℕ). OnOk c.put_answered.result (string_bytes c.put_answered.new.out ≡ string_bytes c.args.out.now ++ l))
    (was_answered c.args.status c.args.count c.if-count-eq0.false) c.put_answered.ensures
