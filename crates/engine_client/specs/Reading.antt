-- What is read of a body that is kept (own).
use Rattle.std.specs.Prelude.{◌≡◌, ⊤, List, Option, Some, None, Result, Ok, Err, Vec}
use Rattle.std.specs.declared.alloc.Global.{Global}
use Rattle.client_model.specs.declared.fault.Fault.{Fault}
use Rattle.client_model.specs.declared.fault.Fault.TheVariants as F

-- this was read, and is what is meant; or nothing is meant, or memory was refused
abbrev pub ReadsOrFails : {A : Type 0} → Result A Fault → Option A → Type 0
ReadsOrFails (Ok x) meaning = meaning ≡ Some x
ReadsOrFails (Err F.Answer) meaning = meaning ≡ None
ReadsOrFails (Err F.NoMemory) meaning = ⊤
ReadsOrFails (Err fault) meaning = ⊥

-- the same of a list
abbrev pub ReadsList : {A : Type 0} → Result (Vec A Global) Fault → Option (List A) → Type 0
ReadsList (Ok xs) meaning = meaning ≡ Some xs.items
ReadsList (Err F.Answer) meaning = meaning ≡ None
ReadsList (Err F.NoMemory) meaning = ⊤
ReadsList (Err fault) meaning = ⊥
