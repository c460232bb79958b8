use Rattle.std.proofs.Common.{◌≡◌, ◌≢◌, ℕ, List, [], ◌∷◌, Option, Some, None, MatchOption, ap, Bor, arith}
use Rattle.matchit.specs.Seek.{slash}
use Rattle.route_laws.specs.Segments.{segments, pieces}
use Rattle.std.proofs.lemmas.Str.Pattern.{strip_prefix_char}
use Rattle.api_routes.proofs.CutLemmas.{no-segments}
use Rattle.api_routes.proofs.path.after_slash.Goals as goal

told : (bs : List ℕ) (r : Option (Bor (List ℕ))) → MatchOption r ((rest : List ℕ) → bs ≢ slash ∷ rest) (λ x. bs ≡ slash ∷ x.now)
    → MatchOption r (segments bs ≡ []) (λ rest. segments bs ≡ pieces rest.now)
told bs None h = no-segments bs h
told bs (Some x) h = ap segments h

pub returns : goal.returns
returns c = told c.args.path.now c.strip_prefix.result (strip_prefix_char slash c.args.path.now c.strip_prefix.result c.strip_prefix.ensures.cases (omega arith))
