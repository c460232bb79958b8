use Rattle.std.proofs.Common.{sym, subst, is_ok}
use Rattle.engine_text.specs.Pairs.{ArePairsUtf8}
use Rattle.engine_text.proofs.Utf8Lemmas.{ArePairsUtf8-try}
use Rattle.engine_text.proofs.pairs.Pairs.push.Goals as goal

pub invariant_of-self : goal.invariant_of-self
invariant_of-self c =
    let before = c.self.inside.items.items in
    subst ArePairsUtf8 (sym c.push.ensures.items) (ArePairsUtf8-try (is_ok c.push.result) before c.args.item c.self.invariant c.utf8-2.ensures c.utf8-2-2.ensures)
