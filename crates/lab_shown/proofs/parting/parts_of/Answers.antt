use Rattle.std.proofs.Common.{arith, ◌+◌, length}
use Rattle.lab_shown.specs.Shown.{more}
use Rattle.lab_shown.proofs.ShownLemmas.{shown_some}
use Rattle.lab_shown.proofs.parting.parts_of.Goals as goal

pub returns-clause-some : goal.returns-clause-some
returns-clause-some c =
    shown_some c.parts_by.result (λ p. p.close) (λ p. more p.before.now p.behind.now) (λ p. length p.before.now + length p.behind.now)
    c.args.piece.now _ _ c.brace_in.result c.in-Some.close c.brace_in.ensures.place c.split_at.ensures.front c.split_at.ensures.back
    (omega (arith, c.split_at.ensures.back_len)) c.in-Some.ensures c.parts_by.ensures.some
