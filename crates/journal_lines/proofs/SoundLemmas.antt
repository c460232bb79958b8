-- The tests of a call in the order of its keys.
use Rattle.std.proofs.Common.{◌≡◌, Bool, true, false, ◌&&◌, nat_le, Option, Some, None, option_map, refl}
use Rattle.engine_text.specs.Soundness.{if_given, is_signal, is_policy}
use Rattle.api_json.specs.Container.{most_retries}
use Rattle.engine_text.specs.declared.policy.Policy.{Policy}
use Rattle.engine_text.specs.declared.signal.Signal.{Signal}

none : (a : Bool) → (a && false) ≡ false
none true = refl
none false = refl

pub one : (a : Bool) → a ≡ (a && true && true)
one true = refl
one false = refl

-- of two, the second first, or in their order
pub two : (a b : Bool) → (a && b) ≡ ((b && (a && true)) && true)
two true true = refl
two true false = refl
two false true = refl
two false false = refl

pub two_so : (a b : Bool) → (a && b) ≡ ((a && (b && true)) && true)
two_so true true = refl
two_so true false = refl
two_so false b = refl

-- of three
pub stop_order : (a t s : Bool) → (a && t && s) ≡ ((a && (s && (t && true))) && true)
stop_order true true true = refl
stop_order true true false = refl
stop_order true false true = refl
stop_order true false false = refl
stop_order false t s = refl

pub last_first : (a b f : Bool) → (a && b && f) ≡ ((f && (a && (b && true))) && true)
last_first true true true = refl
last_first true true false = refl
last_first true false true = refl
last_first true false false = refl
last_first false b true = refl
last_first false b false = refl

pub feed_order : (r b m : Bool) → (r && b && m) ≡ (((b && m) && (r && true)) && true)
feed_order true true true = refl
feed_order true true false = refl
feed_order true false m = refl
feed_order false true true = refl
feed_order false true false = refl
feed_order false false m = refl

-- of logs: a reference, a stream, a tail, and two moments
pub logs_order : (a o t l g : Bool) → (a && (o && t && l && g)) ≡ ((g && (l && (a && (t && true)))) && o)
logs_order true true true true true = refl
logs_order true true true true false = refl
logs_order true true true false true = refl
logs_order true true true false false = refl
logs_order true true false l true = rw (none l) refl
logs_order true true false l false = refl
logs_order true false t l g = rw (none (g && (l && (true && (t && true))))) refl
logs_order false o t l true = rw (none l) refl
logs_order false o t l false = refl

-- of a create: a name, a policy, a signal, seconds, labels, mounts, whether it may be removed by itself, and a check
pub create_order : (n p s w l m a h : Bool) → (n && p && s && w && l && m && a && h) ≡ ((w && (h && (l && (p && (m && (n && (s && true))))))) && a)
create_order n p s false l m a h = rw (none (n && p && s)) refl
create_order n p s true l m a false = rw (none (n && p && s && true && l && m && a)) refl
create_order n p s true false m a true = rw (none (n && p && s && true)) refl
create_order n false s true true m a true = rw (none n) refl
create_order n true s true true false a true = rw (none (n && true && s && true && true)) refl
create_order false true s true true true a true = refl
create_order true true false true true true a true = refl
create_order true true true true true true true true = refl
create_order true true true true true true false true = refl

-- ---- tests of parts

pub signal_test : (signal : Option Signal) → if_given is_signal signal ≡ if_given (λ n. nat_le 1 n && nat_le n 31) (option_map (λ s. s.number) signal)
signal_test None = refl
signal_test (Some s) = refl

pub policy_test : (p : Policy) → is_policy p ≡ nat_le (most_retries p) 2147483647
policy_test Policy.No = refl
policy_test Policy.Always = refl
policy_test Policy.UnlessStopped = refl
policy_test (Policy.OnFailure most) = refl

pub given_test : (policy : Option Policy) → if_given is_policy policy ≡ if_given (λ n. nat_le n 2147483647) (option_map most_retries policy)
given_test None = refl
given_test (Some p) = policy_test p
