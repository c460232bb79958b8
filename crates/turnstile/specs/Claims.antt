-- Which numbers a pass stands for, with the steps of each (own: numbers of connections and of their input).
use Rattle.std.specs.Prelude.{◌≡◌, ◌≢◌, ℕ, zero, suc, ◌+◌, ◌≤◌, ◌==◌, List, [], ◌∷◌, ◌++◌, length, Bool, true, false, Option, if◌then◌else◌, nat_lt}
use Rattle.turnstile.specs.Steps.{steps_by}

-- a number, with all steps of that number
abbrev pub Claim : Type 0 → Type 0
Claim S = ℕ × List S

abbrev pub bit : Bool → ℕ
bit true = 1
bit false = 0

module _ {S : Type 0} where
  -- while the pair is on, the number of the pass's input has no steps
  abbrev pub pair_claim : Bool → ℕ → List (Claim S)
  pair_claim true n = (n + 2147483648, []) ∷ []
  pair_claim false n = []

  -- how often the number is claimed
  abbrev pub times : ℕ → List (Claim S) → ℕ
  times n [] = 0
  times n (c ∷ cs) = bit (c.0 == n) + times n cs

  -- the n numbers from a on, each with the number of its input, none with a step
  abbrev pub passed : ℕ → ℕ → List (Claim S)
  passed a zero = []
  passed a (suc n) = (a + n, []) ∷ (a + n + 2147483648, []) ∷ passed a n

  -- the longer of two lists
  abbrev pub longer : List S → List S → List S
  longer a b = if nat_lt (length a) (length b) then b else a

  -- each of the lists begins this one
  abbrev pub EachFront : List S → List (List S) → Type 0
  EachFront seen [] = Unit {0}
  EachFront seen (e ∷ es) = ((more : List S) × (seen ≡ e ++ more)) × EachFront seen es

  -- each claim has the property
  abbrev pub Each : (Claim S → Type 0) → List (Claim S) → Type 0
  Each P [] = Unit {0}
  Each P (c ∷ cs) = P c × Each P cs

-- a number that the root hasn't admitted, and that isn't the input of one that it has
pub record Fresh (next n : ℕ) : Type 0 where
  pub not_root : n ≢ 4294967295
  pub not_below : next ≤ n
  pub no_pair : 2147483648 ≤ n → next + 2147483648 ≤ n

-- the claim has the steps of its number that the history has, and its later part has none of them
abbrev pub Stands : {S : Type 0} → (S → Option ℕ) → List S → List S → Claim S → Type 0
Stands author now more c = (c.1 ≡ steps_by author c.0 now) × (steps_by author c.0 more ≡ [])
