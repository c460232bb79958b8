-- What the keys of queries may have (Docker Engine API v1.43, the query parameters of each operation; own: their bounds and messages).
use Rattle.std.specs.Prelude.{ℕ, ℤ, pos, negsuc, ◌+◌, ◌-◌, ◌*◌, ◌==◌, ◌&&◌, ◌||◌, leb, length, Bool, List, [], ◌∷◌, Option, Some, None, option_map, codes, if◌then◌else◌, Result, Ok, Err}
use Rattle.std.specs.List.{before_first, after_first}
use Rattle.std.specs.Str.{all_ascii_digits}
use Rattle.engine_text.specs.Texts.{same_bytes}
use Rattle.engine_text.specs.Name.{is_name}
use Rattle.engine_text.specs.Query.{query_bool}
use Rattle.engine_text.specs.Signal.{read_signal}
use Rattle.engine_text.specs.declared.signal.Signal.{Signal}
use Rattle.engine_text.specs.declared.call.Until.{Until}
use Rattle.engine_text.specs.declared.call.Until.TheVariants.{NotRunning, NextExit, Removed}
use Rattle.api_routes.specs.Numeral.{number_of}
use Rattle.api_routes.specs.Version.{dot}
use Rattle.api_routes.specs.Query.{value_of, value_or_empty}
use Rattle.api_routes.specs.declared.fault.Fault.{Fault}
use Rattle.api_routes.specs.declared.fault.Fault.TheVariants.{InvalidName, InvalidSignal, BadSeconds, BadLimit, BadTail, BadCondition, BadTime}

-- what was read, or the fault
abbrev pub or_fault : {A : Type 0} → Fault → Option A → Result A Fault
or_fault fault None = Err fault
or_fault fault (Some x) = Ok x

-- a truth value; an absent key is false
abbrev pub flag : List ℕ → List ℕ → Bool
flag key query = query_bool (value_or_empty key query)

-- ---- names and signals

-- the name of a create; an absent or an empty one means none
abbrev pub optional_name : List ℕ → Result (Option (List ℕ)) Fault
optional_name [] = Ok None
optional_name (c ∷ cs) = if is_name (c ∷ cs) then Ok (Some (c ∷ cs)) else Err (InvalidName (c ∷ cs))

abbrev pub create_name : List ℕ → Result (Option (List ℕ)) Fault
create_name query = optional_name (value_or_empty (codes "name") query)

-- the new name of a rename, which is needed
abbrev pub new_name : List ℕ → Result (List ℕ) Fault
new_name query =
    let name : List ℕ = value_or_empty (codes "name") query in
    if is_name name then Ok name else Err (InvalidName name)

-- a signal; an absent or an empty one means none
abbrev pub optional_signal : List ℕ → Result (Option Signal) Fault
optional_signal [] = Ok None
optional_signal (c ∷ cs) = or_fault (InvalidSignal (c ∷ cs)) (option_map Some (read_signal (c ∷ cs)))

abbrev pub signal_in : List ℕ → Result (Option Signal) Fault
signal_in query = optional_signal (value_or_empty (codes "signal") query)

-- SIGKILL
abbrev pub kill_signal : Signal
kill_signal = record { number = 9 }

-- ---- numbers

-- at most 2,147,483
abbrev pub up_to_greatest : Option ℕ → Option ℤ
up_to_greatest None = None
up_to_greatest (Some n) = if leb n 2147483 then Some (pos n) else None

-- -1, or one to seven digits
abbrev pub read_seconds : List ℕ → Option ℤ
read_seconds text = if same_bytes text (codes "-1") then Some (negsuc 0) else up_to_greatest (number_of 7 text)

abbrev pub optional_seconds : Option (List ℕ) → Result (Option ℤ) Fault
optional_seconds None = Ok None
optional_seconds (Some text) = or_fault BadSeconds (option_map Some (read_seconds text))

-- `t`
abbrev pub seconds_in : List ℕ → Result (Option ℤ) Fault
seconds_in query = optional_seconds (value_of (codes "t") query)

-- -1, or one to nine digits, of which 0 means none
abbrev pub read_limit : List ℕ → Option (Option ℕ)
read_limit text =
    if same_bytes text (codes "-1") then Some None else option_map (λ n. if n == 0 then None else Some n) (number_of 9 text)

abbrev pub optional_limit : Option (List ℕ) → Result (Option ℕ) Fault
optional_limit None = Ok None
optional_limit (Some text) = or_fault BadLimit (read_limit text)

abbrev pub limit_in : List ℕ → Result (Option ℕ) Fault
limit_in query = optional_limit (value_of (codes "limit") query)

-- nothing or `all`, or one to nine digits
abbrev pub read_tail : List ℕ → Option (Option ℕ)
read_tail text =
    if same_bytes text [] || same_bytes text (codes "all") then Some None else option_map Some (number_of 9 text)

abbrev pub tail_in : List ℕ → Result (Option ℕ) Fault
tail_in query = or_fault BadTail (read_tail (value_or_empty (codes "tail") query))

-- ---- what a wait waits for

abbrev pub read_condition : List ℕ → Option Until
read_condition text =
    if same_bytes text [] || same_bytes text (codes "not-running") then Some NotRunning
    else if same_bytes text (codes "next-exit") then Some NextExit
    else if same_bytes text (codes "removed") then Some Removed
    else None

abbrev pub condition_in : List ℕ → Result Until Fault
condition_in query = or_fault BadCondition (read_condition (value_or_empty (codes "condition") query))

-- ---- times

-- the value of a digit
abbrev pub digit : ℕ → ℕ
digit b = b - 48

-- the whole thousandths that decimals write
abbrev pub thousandths : List ℕ → ℕ
thousandths [] = 0
thousandths (a ∷ []) = 100 * digit a
thousandths (a ∷ b ∷ []) = 100 * digit a + 10 * digit b
thousandths (a ∷ b ∷ c ∷ rest) = 100 * digit a + 10 * digit b + digit c

-- at most nine decimals, or none
abbrev pub read_decimals : List ℕ → Option ℕ
read_decimals text = if leb (length text) 9 && all_ascii_digits text then Some (thousandths text) else None

-- seconds of one to ten digits with their decimals, counted down to milliseconds
abbrev pub milliseconds : Option ℕ → Option ℕ → Option ℕ
milliseconds (Some seconds) (Some thousandths) = Some (1000 * seconds + thousandths)
milliseconds _ _ = None

abbrev pub read_time : List ℕ → Option ℕ
read_time text = milliseconds (number_of 10 (before_first (λ b. b == dot) text)) (read_decimals (after_first (λ b. b == dot) text))

abbrev pub optional_time : Option (List ℕ) → Result (Option ℕ) Fault
optional_time None = Ok None
optional_time (Some text) = or_fault BadTime (option_map Some (read_time text))

-- `since` or `until`
abbrev pub time_in : List ℕ → List ℕ → Result (Option ℕ) Fault
time_in key query = optional_time (value_of key query)
