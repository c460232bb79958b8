use Rattle.std.proofs.Common.{◌≡◌, ℕ, List, codes, subst}
use Rattle.std.specs.Prelude.{IfOk, string_bytes, decimal}
use Rattle.one_program.proofs.TextLemmas.{pieces_7}
use Rattle.one_program.proofs.refusing.illegal_text.Goals as goal

pub returns : goal.returns
returns c =
    subst (λ (l : List ℕ). IfOk c.format.result (λ s. string_bytes s ≡ l))
    (pieces_7 (codes "illegal line ") (decimal c.args.line) (codes "\nkept ") c.args.kept.now (codes "\nfound ") c.args.found.now (codes "\n")) c.format.ensures.ok
