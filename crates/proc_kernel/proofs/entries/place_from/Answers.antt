use Rattle.std.proofs.Common.{sym, ◌∙◌, arith}
use Rattle.engine_text.specs.Owner.{same_owner}
use Rattle.proc_kernel.proofs.EntryLemmas.{position_is, position_none}
use Rattle.proc_kernel.proofs.entries.place_from.Goals as goal

pub returns-then-same_owner : goal.returns-then-same_owner
returns-then-same_owner c =
    sym (position_is (λ r. same_owner r.owner c.args.owner) c.args.rows.now c.loop-i.i _ (omega arith) (sym c.same_owner.ensures ∙ c.if-same_owner.true) (λ k lt. c.loop-i.invariant k _ lt))

pub returns : goal.returns
returns c = sym (position_none (λ r. same_owner r.owner c.args.owner) c.args.rows.now (λ k d lt. c.loop-i.invariant k d (omega arith)))
