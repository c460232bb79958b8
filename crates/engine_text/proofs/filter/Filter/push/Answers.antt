use Rattle.std.proofs.Common.{sym, subst, is_ok}
use Rattle.engine_text.specs.Filter.{AreRowsUtf8}
use Rattle.engine_text.proofs.Utf8Lemmas.{AreRowsUtf8-try}
use Rattle.engine_text.proofs.filter.Filter.push.Goals as goal

pub invariant_of-self : goal.invariant_of-self
invariant_of-self c =
    let before = c.self.inside.items.items in
    subst AreRowsUtf8 (sym c.push.ensures.items) (AreRowsUtf8-try (is_ok c.push.result) before c.args.item c.self.invariant c.utf8-2.ensures)
