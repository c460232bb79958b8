use Rattle.std.proofs.Common.{◌≡◌, ◌≤◌, ◌&&◌, ℕ, Bool, true, false, nat_le, arith, refl}
use Rattle.std.proofs.lemmas.Bool.{false≢true}
use Rattle.std.proofs.lemmas.Bool.Decides.{nat_tests}
use Rattle.engine_text.specs.Soundness.{is_full, is_span}
use Rattle.health_watch.proofs.laws.law_checks.Goals as goal

-- of these tests, all of which pass, the second and the fifth
two_of : (a b c d e f g h : Bool) → (a && b && c && d && e && f && g && h) ≡ true → (b ≡ true) × (e ≡ true)
two_of true true true true true f g h all = (refl, refl)
two_of true true true true false f g h all = absurd (false≢true all)
two_of true true true false e f g h all = absurd (false≢true all)
two_of true true false d e f g h all = absurd (false≢true all)
two_of true false c d e f g h all = absurd (false≢true all)
two_of false b c d e f g h all = absurd (false≢true all)

by_test : (m n : ℕ) → nat_le m n ≡ true → m ≤ n
by_test m n e = grind (arith, nat_tests)

pub returns : goal.returns
returns c spec h =
    let parts = two_of (is_full spec.words) (nat_le 1 spec.interval) (is_span spec.interval) (nat_le 1 spec.timeout)
    (is_span spec.timeout) (is_span spec.start_period) (nat_le 1 spec.retries) (nat_le spec.retries 1000) h in
    record {
      interval = by_test 1 spec.interval parts.0;
      timeout = by_test spec.timeout 3600000 parts.1;
    }
