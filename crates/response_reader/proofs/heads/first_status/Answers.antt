use Rattle.std.proofs.Common.{arith, ◌≡◌, inl, inr, subst}
use Rattle.std.specs.Prelude.{decimal}
use Rattle.std.proofs.lemmas.Bool.{cases_lt}
use Rattle.response_reader.specs.Matching.{MayMeet}
use Rattle.response_reader.proofs.StatusLemmas.{unmet}
use Rattle.response_reader.proofs.heads.first_status.Goals as goal

pub loop-status-preserved : goal.loop-status-preserved
loop-status-preserved c = λ s low high meet. elim (cases_lt s c.loop-status.status) [
  | inl less ↦ c.loop-status.invariant s low less meet
  | inr ge ↦
      let same : s ≡ c.loop-status.status = omega (arith, high, ge) in
      unmet c.may_begin.result c.loop-status.status c.args.bytes.now c.may_begin.ensures c.if-may_begin.false (subst (λ n. MayMeet c.args.bytes.now (decimal n)) same meet)
]

pub returns : goal.returns
returns c = λ status final meet. c.loop-status.invariant status final.0 (omega (arith, final.1, c.loop-status-test.false)) meet
