-- What bytes begin with, where they come piece by piece (RFC 9112, section 2.1: a message is a sequence of octets).
use Rattle.std.specs.Prelude.{ℕ, ◌≡◌, List, ◌++◌}

-- the bytes are such a text, and behind it stand these
abbrev pub BeginsWith : (List ℕ → Type 0) → List ℕ → List ℕ → Type 0
BeginsWith IsText bytes behind = (text : List ℕ) × IsText text × (bytes ≡ text ++ behind)

-- they begin with none
abbrev pub HasNone : (List ℕ → Type 0) → List ℕ → Type 0
HasNone IsText bytes = (behind : List ℕ) → ¬ (BeginsWith IsText bytes behind)

-- they begin with none, whatever follows
abbrev pub NeverHas : (List ℕ → Type 0) → List ℕ → Type 0
NeverHas IsText bytes = (more : List ℕ) → HasNone IsText (bytes ++ more)

-- they begin with none yet, and are a part of one
abbrev pub IsPartOf : (List ℕ → Type 0) → List ℕ → Type 0
IsPartOf IsText bytes = HasNone IsText bytes × ((more : List ℕ) × IsText (bytes ++ more))
