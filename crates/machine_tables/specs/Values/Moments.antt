-- own: the moments of the last events, as contracts see them.
use Rattle.std.specs.Prelude.{ℕ, List}

-- The moments in order, and how many may stand.
pub record MomentRows : Type 0 where
  pub moments : List ℕ
  pub room : ℕ
