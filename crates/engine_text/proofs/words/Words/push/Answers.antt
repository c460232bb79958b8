use Rattle.std.proofs.Common.{sym, subst, is_ok}
use Rattle.engine_text.specs.Words.{AreUtf8}
use Rattle.engine_text.proofs.Utf8Lemmas.{AreUtf8-try}
use Rattle.engine_text.proofs.words.Words.push.Goals as goal

pub invariant_of-self : goal.invariant_of-self
invariant_of-self c =
    let before = c.self.inside.items.items in
    subst AreUtf8 (sym c.push.ensures.items) (AreUtf8-try (is_ok c.push.result) before c.args.item c.self.invariant c.utf8-2.ensures)
