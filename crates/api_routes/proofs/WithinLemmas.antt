-- Steps of reading that go on where the one before gave a value: what is true of what they give.
use Rattle.std.proofs.Common.{◌≡◌, Bool, true, false, ◌&&◌, cond, Option, Some, None, IfSome, Result, Ok, Err, refl, IfOk}
use Rattle.std.proofs.lemmas.Bool.{false≢true}
use Rattle.api_json.specs.Fault.{and_then, or_fault}
use Rattle.api_json.specs.declared.fault.BodyFault.{BodyFault}

-- nothing is asked of it
abbrev pub Any : {A : Type 0} → A → Type 0
Any x = Unit {0}

pub any : {A E : Type 0} (e : Result A E) → IfOk e Any
any (Ok x) = tt
any (Err fault) = tt

-- what is true of each value that it may give is true of what it gives
pub gives : {A E : Type 0} (P : A → Type 0) (e : Result A E) → ((x : A) → e ≡ Ok x → P x) → IfOk e P
gives P (Ok x) h = h x refl
gives P (Err fault) h = tt

-- the next step, of which this is true where that is true of what the first gave
pub goes_on : {A B : Type 0} (P : A → Type 0) (Q : B → Type 0) (e : Result A BodyFault) (next : A → Result B BodyFault)
    → IfOk e P → ((x : A) → P x → IfOk (next x) Q) → IfOk (and_then e next) Q
goes_on P Q (Ok x) next h step = step x h
goes_on P Q (Err fault) next h step = tt

-- the next step, whatever the first gave
pub goes_by : {A B : Type 0} (Q : B → Type 0) (e : Result A BodyFault) (next : A → Result B BodyFault)
    → ((x : A) → IfOk (next x) Q) → IfOk (and_then e next) Q
goes_by Q (Ok x) next step = step x
goes_by Q (Err fault) next step = tt

pub or_else : {A : Type 0} (P : A → Type 0) (fault : BodyFault) (o : Option A) → IfSome o P → IfOk (or_fault fault o) P
or_else P fault None h = tt
or_else P fault (Some x) h = h

-- where a test decides between a value and a fault
pub by_test : {A : Type 0} (P : A → Type 0) (fault : BodyFault) (b : Bool) (x : A) → (b ≡ true → P x)
    → IfOk (cond b (Ok x) (Err fault)) P
by_test P fault true x h = h refl
by_test P fault false x h = tt

pub some_by_test : {A : Type 0} (P : A → Type 0) (b : Bool) (x : A) → (b ≡ true → P x) → IfSome (cond b (Some x) None) P
some_by_test P true x h = h refl
some_by_test P false x h = tt

pub both_true : (a b : Bool) → a ≡ true → b ≡ true → (a && b) ≡ true
both_true true b h k = k
both_true false b h k = absurd (false≢true h)
