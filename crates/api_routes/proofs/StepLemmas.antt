-- Steps of reading a request: what is true of what they give.
use Rattle.std.proofs.Common.{Bool, true, false, cond, ◌≡◌, Option, Some, None, IfSome, Result, Ok, Err, refl, IfOk}
use Rattle.api_json.specs.declared.fault.BodyFault.{BodyFault}
use Rattle.api_routes.specs.Fault.{and_then}
use Rattle.api_routes.specs.Keys.{or_fault}
use Rattle.api_routes.specs.Calls.{of_body}
use Rattle.api_routes.specs.declared.fault.Fault.{Fault}

-- the next step, of which this is true where that is true of what the first gave
pub goes-on : {A B : Type 0} (P : A → Type 0) (Q : B → Type 0) (e : Result A Fault) (next : A → Result B Fault)
    → IfOk e P → ((x : A) → P x → IfOk (next x) Q) → IfOk (and_then e next) Q
goes-on P Q (Ok x) next h step = step x h
goes-on P Q (Err fault) next h step = tt

-- the next step, whatever the first gave
pub goes-by : {A B : Type 0} (Q : B → Type 0) (e : Result A Fault) (next : A → Result B Fault)
    → ((x : A) → IfOk (next x) Q) → IfOk (and_then e next) Q
goes-by Q (Ok x) next step = step x
goes-by Q (Err fault) next step = tt

pub or-else : {A : Type 0} (P : A → Type 0) (fault : Fault) (o : Option A) → IfSome o P → IfOk (or_fault fault o) P
or-else P fault None h = tt
or-else P fault (Some x) h = h

pub from-body : {A : Type 0} (P : A → Type 0) (e : Result A BodyFault) → IfOk e P → IfOk (of_body e) P
from-body P (Ok x) h = h
from-body P (Err fault) h = tt

-- where a test decides between a value and a fault
pub by-test : {A : Type 0} (P : A → Type 0) (fault : Fault) (b : Bool) (x : A) → (b ≡ true → P x) → IfOk (cond b (Ok x) (Err fault)) P
by-test P fault true x h = h refl
by-test P fault false x h = tt
