-- A signal that is read is from 1 to 31.
use Rattle.std.proofs.Common.{◌≡◌, ◌<◌, ◌+◌, ℕ, List, [], true, ◌&&◌, nat_le, Option, Some, None, IfSome, option_map, refl, arith}
use Rattle.std.specs.List.{position}
use Rattle.std.specs.Prelude.{IsTrue}
use Rattle.std.proofs.lemmas.Bool.Decides.{nat_tests}
use Rattle.std.proofs.lemmas.List.Quantifiers.{position-Some}
use Rattle.engine_text.specs.Signal.{number_named, without_sig, small_number, signal_of, read_by, read_signal, signal_names}
use Rattle.engine_text.specs.Texts.{same_letters}
use Rattle.engine_text.specs.declared.signal.Signal.{Signal}
use Rattle.engine_text.specs.Soundness.{is_signal}
use Rattle.api_routes.proofs.WithinLemmas.{some_by_test}

abbrev pub IsSignal : Signal → Type 0
IsSignal s = IsTrue (is_signal s)

at_place : (i : ℕ) → i < 31 → (nat_le 1 (i + 1) && nat_le (i + 1) 31) ≡ true
at_place i h = grind (arith, nat_tests)

from_name : (name : List ℕ) (o : Option ℕ) → position (same_letters name) signal_names ≡ o
    → IfSome (option_map signal_of (option_map (λ (place : ℕ). place + 1) o)) IsSignal
from_name name None e = tt
from_name name (Some i) e = at_place i (position-Some (same_letters name) signal_names i [] e).0

by_either : (o : Option ℕ) (text : List ℕ) → IfSome (read_by o text) IsSignal
unfolding number_named
by_either (Some n) text = some_by_test IsSignal (nat_le 1 n && nat_le n 31) (signal_of n) (λ h. h)
by_either None text = from_name (without_sig text) (position (same_letters (without_sig text)) signal_names) refl

pub signal_read : (text : List ℕ) → IfSome (read_signal text) IsSignal
signal_read text = by_either (small_number text) text
