-- What is printed at the end of a plan (own).
use Rattle.std.specs.Prelude.{ℕ, ◌≡◌, ◌⊎◌, Result, Ok, Err}
use Rattle.client_model.specs.Plans.{Plan, Done}
use Rattle.client_model.specs.declared.fault.Fault.{Fault}
use Rattle.client_model.specs.declared.fault.Fault.TheVariants as F
use Rattle.client_exchange.specs.Exchanges.{Reach}
use Rattle.client_exchange.specs.Walks.{Finishes, StopsBefore}

-- the plan ended so, and all that it writes was written; or fronts of that, and standard output failed
abbrev pub Prints : Plan → Result ℕ Fault → Reach → Reach → Type 0
Prints plan (Ok status) o o' = Finishes plan (Done status) o o'
Prints plan (Err fault) o o' = (fault ≡ F.Output) × StopsBefore plan fault o o'

-- that, or nothing was printed for want of memory
abbrev pub PrintsOrLacks : Plan → Result ℕ Fault → Reach → Reach → Type 0
PrintsOrLacks plan result o o' = Prints plan result o o' ⊎ ((result ≡ Err F.NoMemory) × (o' ≡ o))
