-- The two orders of timers (own: by rank and number, and by moment before these).
use Rattle.std.specs.Prelude.{List, Result, ℕ, ◌≡◌, MatchResult}
use Rattle.std.specs.Ordering.{nat_cmp, ordering_then}
use Rattle.std.specs.declared.cmp.Ordering.{Ordering}
use Rattle.std.specs.declared.cmp.Ordering.TheVariants.{Less, Equal, Greater}
use Rattle.engine_text.specs.declared.step.DueAction.{DueAction}
use Rattle.container_table.specs.Search.{HoldsOf, Parts}

-- By rank, then by number.
abbrev pub listed_order : DueAction → DueAction → Ordering
listed_order a b = ordering_then (nat_cmp a.rank b.rank) (nat_cmp a.number b.number)

-- By moment, then by rank, then by number.
abbrev pub due_order : DueAction → DueAction → Ordering
due_order a b = ordering_then (nat_cmp a.moment b.moment) (listed_order a b)

-- Where a timer was found in an order, or would stand.
abbrev pub IsFound : (DueAction → DueAction → Ordering) → List DueAction → DueAction → Result ℕ ℕ → Type 0
IsFound order ds t r =
    MatchResult r (HoldsOf (λ d. order d t ≡ Equal) ds) (Parts (λ d. order d t ≡ Less) (λ d. order d t ≡ Greater) ds)
