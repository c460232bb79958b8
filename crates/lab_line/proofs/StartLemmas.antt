-- The pieces of the starting line, joined one behind the other.
use Rattle.std.proofs.Common.{◌≡◌, ℕ, ◌++◌, List, append_assoc}

pub start_joined : (a l b c d s e m f : List ℕ) → a ++ (l ++ (b ++ (c ++ (d ++ (s ++ (e ++ (m ++ f))))))) ≡ a ++ l ++ b ++ c ++ d ++ s ++ e ++ m ++ f
start_joined a l b c d s e m f = simp append_assoc
