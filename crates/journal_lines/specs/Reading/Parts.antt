-- What a line's value says at its keys (own; RFC 8259, sections 3 to 7).
use Rattle.std.specs.Prelude.{◌≡◌, ℕ, ℤ, List, nat_le, Bool, is_some, if◌then◌else◌, Option, Some, None, Result, Ok, Err, option_map, option_and_then, ⊤}
use Rattle.serde_json.specs.Data.{Data}
use Rattle.serde_json.specs.Find.{get, as_null, as_bool, as_number, as_str, as_u64, as_i64}
use Rattle.engine_text.specs.Soundness.{is_seconds}
use Rattle.engine_text.specs.declared.signal.Signal.{Signal}
use Rattle.journal_lines.specs.declared.fault.LineFault.{LineFault}
use Rattle.journal_lines.specs.declared.fault.LineFault.TheVariants.{BadLine, NoMemory}

-- What follows of a part, where it is there.
abbrev pub and_then : {A B : Type 0} → Option A → (A → Option B) → Option B
and_then part next = option_and_then next part

-- Nothing is meant, and that is told; or there was no memory.
abbrev pub IsRefusal : {A : Type 0} → Option A → LineFault → Type 0
IsRefusal meaning BadLine = meaning ≡ None
IsRefusal meaning NoMemory = ⊤

-- What is read is what is meant.
abbrev pub Reads : {A : Type 0} → Option A → Result A LineFault → Type 0
Reads meaning (Ok a) = meaning ≡ Some a
Reads meaning (Err fault) = IsRefusal meaning fault

-- ---- at a key

-- A text.
abbrev pub text_at : List ℕ → Data → Option (List ℕ)
text_at key d = and_then (get key d) as_str

-- A truth value.
abbrev pub flag_at : List ℕ → Data → Option Bool
flag_at key d = and_then (get key d) as_bool

-- A whole number of 64 bits that isn't below 0.
abbrev pub natural_of : Data → Option ℕ
natural_of d = and_then (as_number d) as_u64

abbrev pub natural_at : List ℕ → Data → Option ℕ
natural_at key d = and_then (get key d) natural_of

-- One of 32 bits, of 16, of 8.
abbrev pub at_most : ℕ → ℕ → Option ℕ
at_most most n = if nat_le n most then Some n else None

abbrev pub count_of : Data → Option ℕ
count_of d = and_then (natural_of d) (at_most 4294967295)

abbrev pub count_at : List ℕ → Data → Option ℕ
count_at key d = and_then (get key d) count_of

abbrev pub status_at : List ℕ → Data → Option ℕ
status_at key d = and_then (natural_at key d) (at_most 65535)

-- A signal's number.
abbrev pub signal_of : Data → Option Signal
signal_of d = option_map (λ n. record { number = n }) (and_then (natural_of d) (at_most 255))

abbrev pub signal_at : List ℕ → Data → Option Signal
signal_at key d = and_then (get key d) signal_of

-- A whole number of 64 bits, below 0 too.
abbrev pub integer_of : Data → Option ℤ
integer_of d = and_then (as_number d) as_i64

-- The seconds of a stop.
abbrev pub if_seconds : ℤ → Option ℤ
if_seconds z = if is_seconds z then Some z else None

abbrev pub seconds_of : Data → Option ℤ
seconds_of d = and_then (integer_of d) if_seconds

abbrev pub seconds_at : List ℕ → Data → Option ℤ
seconds_at key d = and_then (get key d) seconds_of

-- Null is none, and another value is read so.
abbrev pub or_null : {A : Type 0} → (Data → Option A) → Data → Option (Option A)
or_null read d = if is_some (as_null d) then Some None else option_map Some (read d)

abbrev pub optional_at : {A : Type 0} → (Data → Option A) → List ℕ → Data → Option (Option A)
optional_at read key d = and_then (get key d) (or_null read)
