-- What reading a part of a request answers (own).
use Rattle.std.specs.Prelude.{◌≡◌, Result, Ok, Err}
use Rattle.api_routes.specs.declared.fault.Fault.{Fault}
use Rattle.api_routes.specs.declared.refused.Refused.{Refused}
use Rattle.api_routes.specs.declared.refused.Refused.TheVariants as refused

-- the reading is this one, seen so, or this fault; want of memory may come in its place
abbrev pub ReadsAs : {A B : Type 0} → (A → B) → Result A Refused → Result B Fault → Type 0
ReadsAs view (Ok x) read = read ≡ Ok (view x)
ReadsAs view (Err (refused.Fault fault)) read = read ≡ Err fault
ReadsAs view (Err refused.NoMemory) read = Unit {0}

abbrev pub Reads : {A : Type 0} → Result A Refused → Result A Fault → Type 0
Reads result read = ReadsAs (λ x. x) result read
