-- What the keys of a query say lies within the bounds of calls.
use Rattle.std.proofs.Common.{◌≡◌, ◌<◌, ◌≤◌, ◌==◌, ◌+◌, ◌*◌, ◌^◌, ◌&&◌, ◌||◌, leb, nat_le, ℕ, ℤ, pos, negsuc, List, [], ◌∷◌, length, Bool, true, false, cond, codes, Option, Some, None, IfSome, option_map, refl, arith, IfOk, if◌then◌else◌}
use Rattle.std.specs.Prelude.{IsTrue}
use Rattle.std.specs.List.{before_first, after_first}
use Rattle.std.specs.Str.{all_ascii_digits}
use Rattle.std.proofs.lemmas.Bool.{and_parts}
use Rattle.std.proofs.lemmas.Bool.Decides.{nat_tests}
use Rattle.engine_text.specs.Name.{is_name}
use Rattle.engine_text.specs.Texts.{same_bytes}
use Rattle.engine_text.specs.declared.signal.Signal.{Signal}
use Rattle.engine_text.specs.Signal.{read_signal}
use Rattle.engine_text.specs.Soundness.{if_given, is_signal, is_seconds, is_limit, is_count, is_time}
use Rattle.api_routes.proofs.SignalLemmas.{IsSignal, signal_read}
use Rattle.api_routes.specs.Numeral.{number_of}
use Rattle.api_routes.specs.Version.{dot}
use Rattle.api_routes.specs.Query.{value_of, value_or_empty}
use Rattle.api_routes.specs.Keys.{optional_name, create_name, new_name, optional_signal, signal_in, up_to_greatest, read_seconds, optional_seconds, seconds_in, read_limit, optional_limit, limit_in, read_tail, tail_in, digit, thousandths, read_decimals, milliseconds, read_time, optional_time, time_in}
use Rattle.api_routes.specs.declared.fault.Fault.TheVariants.{InvalidName, InvalidSignal, BadSeconds, BadLimit, BadTail, BadTime}
use Rattle.api_routes.proofs.NumeralLemmas.{number-small}
use Rattle.api_routes.proofs.StepLemmas.{or-else, by-test}

abbrev pub IfGiven : {A : Type 0} → (A → Bool) → Option A → Type 0
IfGiven p o = IsTrue (if_given p o)

-- ---- names and signals

abbrev pub IsName : List ℕ → Type 0
IsName name = IsTrue (is_name name)

name-by : (text : List ℕ) → IfOk (optional_name text) (IfGiven is_name)
name-by [] = refl
name-by (c ∷ cs) = by-test (IfGiven is_name) (InvalidName (c ∷ cs)) (is_name (c ∷ cs)) (Some (c ∷ cs)) (λ h. h)

pub name-within : (query : List ℕ) → IfOk (create_name query) (IfGiven is_name)
name-within query = name-by (value_or_empty (codes "name") query)

pub new-within : (query : List ℕ) → IfOk (new_name query) IsName
new-within query =
    let text = value_or_empty (codes "name") query in
    by-test IsName (InvalidName text) (is_name text) text (λ h. h)

given-signal : (o : Option Signal) → IfSome o IsSignal → IfSome (option_map Some o) (IfGiven is_signal)
given-signal None h = tt
given-signal (Some signal) h = h

signal-by : (text : List ℕ) → IfOk (optional_signal text) (IfGiven is_signal)
signal-by [] = refl
signal-by (c ∷ cs) =
    or-else (IfGiven is_signal) (InvalidSignal (c ∷ cs)) (option_map Some (read_signal (c ∷ cs))) (given-signal (read_signal (c ∷ cs)) (signal_read (c ∷ cs)))

pub signal-within : (query : List ℕ) → IfOk (signal_in query) (IfGiven is_signal)
signal-within query = signal-by (value_or_empty (codes "signal") query)

-- ---- numbers

abbrev IsSeconds : ℤ → Type 0
IsSeconds z = IsTrue (is_seconds z)

greatest-seconds : (o : Option ℕ) → IfSome (up_to_greatest o) IsSeconds
greatest-seconds None = tt
greatest-seconds (Some n) = by (leb n 2147483) refl
  where
    by : (b : Bool) → leb n 2147483 ≡ b → IfSome (cond b (Some (pos n)) None) IsSeconds
    by true e = grind (arith, nat_tests)
    by false e = tt

seconds-by : (text : List ℕ) → IfSome (read_seconds text) IsSeconds
seconds-by text = by (same_bytes text (codes "-1"))
  where
    by : (b : Bool) → IfSome (cond b (Some (negsuc 0)) (up_to_greatest (number_of 7 text))) IsSeconds
    by true = refl
    by false = greatest-seconds (number_of 7 text)

given-seconds : (o : Option ℤ) → IfSome o IsSeconds → IfSome (option_map Some o) (IfGiven is_seconds)
given-seconds None h = tt
given-seconds (Some z) h = h

pub seconds-within : (query : List ℕ) → IfOk (seconds_in query) (IfGiven is_seconds)
seconds-within query = by (value_of (codes "t") query)
  where
    by : (o : Option (List ℕ)) → IfOk (optional_seconds o) (IfGiven is_seconds)
    by None = refl
    by (Some text) = or-else (IfGiven is_seconds) BadSeconds (option_map Some (read_seconds text)) (given-seconds (read_seconds text) (seconds-by text))

abbrev IsBelow : ℕ → ℕ → Type 0
IsBelow most n = n < 10 ^ most

small : (most : ℕ) (text : List ℕ) → IfSome (number_of most text) (IsBelow most)
small most text = number-small most text (number_of most text) refl

unless-zero : (n : ℕ) → n < 1000000000 → IfGiven is_limit (if n == 0 then None else Some n)
unless-zero n few = by (n == 0) refl
  where
    by : (b : Bool) → (n == 0) ≡ b → IfGiven is_limit (cond b None (Some n))
    by true e = refl
    by false e = grind (arith, nat_tests)

limit-of : (o : Option ℕ) → IfSome o (IsBelow 9) → IfSome (option_map (λ n. if n == 0 then None else Some n) o) (IfGiven is_limit)
limit-of None few = tt
limit-of (Some n) few = unless-zero n few

limit-by : (text : List ℕ) → IfSome (read_limit text) (IfGiven is_limit)
limit-by text = by (same_bytes text (codes "-1"))
  where
    by : (b : Bool) → IfSome (cond b (Some None) (option_map (λ n. if n == 0 then None else Some n) (number_of 9 text))) (IfGiven is_limit)
    by true = refl
    by false = limit-of (number_of 9 text) (small 9 text)

pub limit-within : (query : List ℕ) → IfOk (limit_in query) (IfGiven is_limit)
limit-within query = by (value_of (codes "limit") query)
  where
    by : (o : Option (List ℕ)) → IfOk (optional_limit o) (IfGiven is_limit)
    by None = refl
    by (Some text) = or-else (IfGiven is_limit) BadLimit (read_limit text) (limit-by text)

is-few : (n : ℕ) → n < 1000000000 → IsTrue (is_count n)
is-few n few = grind (arith, nat_tests)

count-of : (o : Option ℕ) → IfSome o (IsBelow 9) → IfSome (option_map Some o) (IfGiven is_count)
count-of None few = tt
count-of (Some n) few = is-few n few

pub tail-within : (query : List ℕ) → IfOk (tail_in query) (IfGiven is_count)
tail-within query =
    let text = value_or_empty (codes "tail") query in
    or-else (IfGiven is_count) BadTail (read_tail text) (by text (same_bytes text [] || same_bytes text (codes "all")))
  where
    by : (text : List ℕ) (b : Bool) → IfSome (cond b (Some None) (option_map Some (number_of 9 text))) (IfGiven is_count)
    by text true = refl
    by text false = count-of (number_of 9 text) (small 9 text)

-- ---- times

abbrev IsThousandth : ℕ → Type 0
IsThousandth n = n ≤ 999

first-digit : (c : ℕ) (cs : List ℕ) → all_ascii_digits (c ∷ cs) ≡ true → (digit c ≤ 9) × (all_ascii_digits cs ≡ true)
first-digit c cs h =
    let parts = and_parts (nat_le 48 c && nat_le c 57) (all_ascii_digits cs) h in
    (grind (arith, nat_tests, and_parts (nat_le 48 c) (nat_le c 57) parts.0), parts.1)

below-second : (text : List ℕ) → all_ascii_digits text ≡ true → IsThousandth (thousandths text)
below-second [] h = omega arith
below-second (a ∷ []) h = let d = first-digit a [] h in omega (arith, d.0)
below-second (a ∷ b ∷ []) h =
    let d = first-digit a (b ∷ []) h in
    let e = first-digit b [] d.1 in
    omega (arith, d.0, e.0)
below-second (a ∷ b ∷ c ∷ rest) h =
    let d = first-digit a (b ∷ c ∷ rest) h in
    let e = first-digit b (c ∷ rest) d.1 in
    let f = first-digit c rest e.1 in
    omega (arith, d.0, e.0, f.0)

decimals-by : (text : List ℕ) → IfSome (read_decimals text) IsThousandth
decimals-by text = by (leb (length text) 9 && all_ascii_digits text) refl
  where
    by : (b : Bool) → (leb (length text) 9 && all_ascii_digits text) ≡ b → IfSome (cond b (Some (thousandths text)) None) IsThousandth
    by true e = below-second text (and_parts (leb (length text) 9) (all_ascii_digits text) e).1
    by false e = tt

abbrev pub IsTime : ℕ → Type 0
IsTime moment = IsTrue (is_time moment)

at-most : (moment : ℕ) → moment ≤ 9999999999999 → IsTime moment
at-most moment h = grind (arith, nat_tests)

milliseconds-of : (seconds decimals : Option ℕ) → IfSome seconds (IsBelow 10) → IfSome decimals IsThousandth
    → IfSome (milliseconds seconds decimals) IsTime
milliseconds-of None decimals few less = tt
milliseconds-of (Some s) None few less = tt
milliseconds-of (Some s) (Some d) few less = at-most (1000 * s + d) (omega (arith, few, less))

time-by : (text : List ℕ) → IfSome (read_time text) IsTime
time-by text =
    milliseconds-of (number_of 10 (before_first (λ b. b == dot) text)) (read_decimals (after_first (λ b. b == dot) text))
    (small 10 (before_first (λ b. b == dot) text)) (decimals-by (after_first (λ b. b == dot) text))

given-time : (o : Option ℕ) → IfSome o IsTime → IfSome (option_map Some o) (IfGiven is_time)
given-time None h = tt
given-time (Some moment) h = h

pub time-within : (key query : List ℕ) → IfOk (time_in key query) (IfGiven is_time)
time-within key query = by (value_of key query)
  where
    by : (o : Option (List ℕ)) → IfOk (optional_time o) (IfGiven is_time)
    by None = refl
    by (Some text) = or-else (IfGiven is_time) BadTime (option_map Some (read_time text)) (given-time (read_time text) (time-by text))
