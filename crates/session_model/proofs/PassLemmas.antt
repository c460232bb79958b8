-- What passes stand for.
use Rattle.std.proofs.Common.{◌≡◌, ℕ, List, [], arith}
use Rattle.std.specs.Prelude.{All}
use Rattle.engine_text.specs.declared.step.Step.{Step}
use Rattle.machine_model.specs.History.{calls_of}

pub none_joined : (h : List Step) → All (λ (c : ℕ × List Step). c.1 ≡ calls_of c.0 h) []
none_joined h i c less = absurd (omega (arith, less))
