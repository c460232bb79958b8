-- What is read, by what it is to be (own: it is just that, but for want of memory).
use Rattle.std.specs.Prelude.{◌≡◌, Option, Some, None, Result, Ok, Err, ⊤}
use Rattle.client_parts.specs.declared.unread.Unread.{Unread}
use Rattle.client_parts.specs.declared.unread.Unread.TheVariants.{NoForm, NoMemory}

-- what was read is this, of what a view shows
abbrev pub ReadsAs : {A B : Type 0} → (A → B) → Result A Unread → Option B → Type 0
ReadsAs view (Ok x) meaning = meaning ≡ Some (view x)
ReadsAs view (Err NoForm) meaning = meaning ≡ None
ReadsAs view (Err NoMemory) meaning = ⊤

-- what was read is this
abbrev pub Reads : {A : Type 0} → Result A Unread → Option A → Type 0
Reads (Ok x) meaning = meaning ≡ Some x
Reads (Err NoForm) meaning = meaning ≡ None
Reads (Err NoMemory) meaning = ⊤
