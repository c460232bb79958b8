-- own: the owners of processes in the order in which these began, and where each stands.
use Rattle.std.specs.Prelude.{◌≡◌, ℕ, ◌+◌, ◌*◌, ◌≤◌, ◌==◌, ◌&&◌, ◌||◌, nat_lt, Bool, false, List, All, AllPairs, count_by, position, Option}
use Rattle.engine_text.specs.declared.owner.Owner.{Owner}
use Rattle.engine_text.specs.declared.owner.Owner.TheVariants.{Container, Exec}
use Rattle.engine_text.specs.Owner.{same_owner}
use Rattle.proc_kernel.specs.declared.entries.Row.{Row}

-- The owners, and how many more have a place.
pub record EntryList : Type 0 where
  pub owners : List Owner
  pub room : ℕ

-- Where the first process of that owner stands.
abbrev pub place_in : Owner → List Owner → Option ℕ
place_in o owners = position (λ x. same_owner x o) owners

-- A number for each owner: rows stand by it, and a container before an exec.
abbrev pub rank_of : Owner → ℕ
rank_of (Container n) = 2 * n
rank_of (Exec n) = 2 * n + 1

-- Whether a row comes before another: by owner, and then by the turn in which its process began.
abbrev pub stands_before : Row → Row → Bool
stands_before a b =
    nat_lt (rank_of a.owner) (rank_of b.owner) || ((rank_of a.owner == rank_of b.owner) && nat_lt a.born b.born)

-- Whether it is the row of that owner and turn.
abbrev pub is_row : Row → Row → Bool
is_row a b = (rank_of a.owner == rank_of b.owner) && (a.born == b.born)

-- Rows by owner and turn.
abbrev pub AreByOwner : List Row → Type 0
AreByOwner rows = AllPairs (λ a b. stands_before b a ≡ false) rows

-- Rows by turn.
abbrev pub AreByTurn : List Row → Type 0
AreByTurn rows = AllPairs (λ a b. a.born ≤ b.born) rows

-- No turn is past that one.
abbrev pub AreBorn : ℕ → List Row → Type 0
AreBorn turn rows = All (λ r. r.born ≤ turn) rows

-- Each of the first rows is among the second as often.
abbrev pub AreAmong : List Row → List Row → Type 0
AreAmong entries rows = (r : Row) → count_by (is_row r) entries ≤ count_by (is_row r) rows

-- Both tables are in order, and each entry has a row among those by owner.
pub record AreEntries (turn : ℕ) (entries rows : List Row) : Type 0 where
  pub owners : AreByOwner rows
  pub turns : AreByTurn entries
  pub born_owners : AreBorn turn rows
  pub born_turns : AreBorn turn entries
  pub among : AreAmong entries rows
