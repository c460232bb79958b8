-- The signal of a sound call is one below 32.
use Rattle.std.proofs.Common.{◌<◌, ◌&&◌, Bool, true, false, Option, Some, None, arith}
use Rattle.std.specs.Prelude.{IfSome, IsTrue, nat_le}
use Rattle.std.proofs.lemmas.Bool.Decides.{nat_tests}
use Rattle.engine_text.specs.Soundness.{if_given, is_signal}
use Rattle.engine_text.specs.declared.signal.Signal.{Signal}

both_true : (a b : Bool) → IsTrue (a && b) → IsTrue b
both_true true b h = h
both_true false b h = absurd (cc)

low_given : (x : Signal) → IsTrue (is_signal x) → x.number < 32
low_given x h =
    let low : IsTrue (nat_le x.number 31) = both_true (nat_le 1 x.number) (nat_le x.number 31) h in
    grind (arith, nat_tests, low)

if_low : (o : Option Signal) → IsTrue (if_given is_signal o) → IfSome o (λ (x : Signal). x.number < 32)
if_low None h = tt
if_low (Some x) h = low_given x h

-- the signal of a sound call
pub low_signal : (a b : Bool) (o : Option Signal) → IsTrue (a && b && if_given is_signal o) → IfSome o (λ (x : Signal). x.number < 32)
low_signal a b o h = if_low o (both_true (a && b) (if_given is_signal o) h)
