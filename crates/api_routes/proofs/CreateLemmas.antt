-- What the body of a create says lies within the bounds of calls.
use Rattle.std.proofs.Common.{if◌then◌else◌, arith, ◌≡◌, ◌==◌, ◌≤◌, ◌/◌, ℕ, ℤ, pos, negsuc, List, [], ◌∷◌, Bool, true, false, ◌&&◌, ◌||◌, nat_le, codes, cond, unwrap_or, Option, Some, None, IfSome, Ok, Err, refl, IfOk}
use Rattle.std.specs.Prelude.{IsTrue}
use Rattle.serde_json.specs.Data.{Data}
use Rattle.serde_json.specs.Find.{get}
use Rattle.engine_text.specs.Policy.{read_policy, on_failure, without_maximum}
use Rattle.engine_text.specs.Texts.{same_bytes}
use Rattle.engine_text.specs.declared.call.CreateSpec.{CreateSpec}
use Rattle.engine_text.specs.declared.pairs.Pair.{Pair}
use Rattle.engine_text.specs.declared.policy.Policy.{Policy}
use Rattle.engine_text.specs.declared.policy.Policy.TheVariants.{No, Always, UnlessStopped, OnFailure}
use Rattle.api_json.specs.Fault.{and_then, or_fault, key_text}
use Rattle.api_json.specs.Fields.{body_of, field, text_field, needed_text, whole_field, object_field, flag}
use Rattle.api_json.specs.Lists.{labels_of, pairs_in, read_or_else}
use Rattle.engine_text.specs.declared.health.HealthSpec.{HealthSpec}
use Rattle.api_json.specs.declared.fault.BodyKey.{BodyKey}
use Rattle.api_json.specs.Health.{test_of, span_in, span_of, retries_in, retries_of, checked, health_in, health_if_present, health_of}
use Rattle.api_json.specs.HostConfig.{policy_or_fault, policy_in, policy_if_present, policy_of, unless_restarted, auto_remove_of, host_in, host_if_present, host_of}
use Rattle.api_json.specs.MountForms.{mounts_of}
use Rattle.api_json.specs.Create.{words_of, console_of, stop_of, signal_in, seconds_in, no_volumes, create_in, create_of}
use Rattle.api_json.specs.declared.create.Stop.{Stop}
use Rattle.api_json.specs.declared.host_config.Host.{Host}
use Rattle.api_json.specs.declared.fault.BodyKey.TheVariants as Key
use Rattle.api_json.specs.declared.fault.BodyFault.TheVariants.{BadField, AutoRemoveExcludes}
use Rattle.engine_text.specs.Soundness.{is_seconds, is_policy, is_signal, are_labels, are_mounts, allows_auto_remove, is_health, is_create, if_given}
use Rattle.engine_text.specs.Name.{is_name}
use Rattle.std.proofs.lemmas.Bool.{false≢true, leb-true, le-leb}
use Rattle.std.proofs.lemmas.Bool.Decides.{nat_tests}
use Rattle.api_routes.proofs.RiseLemmas.{IfOrdered, IsOrdered, body_ordered, value_found, then_unless, labels_in}
use Rattle.api_routes.proofs.SignalLemmas.{IsSignal, signal_read}
use Rattle.api_routes.proofs.MountLemmas.{AreMounts, mounts_read}
use Rattle.api_routes.proofs.WithinLemmas.{gives, goes_on, goes_by, or_else, some_by_test, both_true}

-- ---- how it is stopped

abbrev IsSeconds : ℤ → Type 0
IsSeconds z = IsTrue (is_seconds z)

record IsStop (stop : Stop) : Type 0 where
  signal : IsSignal stop.signal
  seconds : IsSeconds stop.after

any_signal : (name : Option (List ℕ)) → IfSome (signal_in name) IsSignal
any_signal None = refl
any_signal (Some []) = refl
any_signal (Some (c ∷ cs)) = signal_read (c ∷ cs)

any_seconds : (o : Option ℤ) → IfSome (seconds_in o) IsSeconds
any_seconds None = refl
any_seconds (Some (pos n)) = some_by_test IsSeconds (nat_le n 2147483) (pos n) (λ h. h)
any_seconds (Some (negsuc n)) = some_by_test IsSeconds (n == 0) (negsuc n) (λ h. h)

stop_read : (d : Data) → IfOk (stop_of d) IsStop
stop_read d =
    goes_on IsSignal IsStop (and_then (text_field Key.StopSignal d) (λ name. or_fault (BadField Key.StopSignal) (signal_in name))) _
    (goes_by IsSignal (text_field Key.StopSignal d) _ (λ name. or_else IsSignal (BadField Key.StopSignal) (signal_in name) (any_signal name)))
    (λ signal is.
    goes_on IsSeconds IsStop (and_then (whole_field Key.StopTimeout d) (λ seconds. or_fault (BadField Key.StopTimeout) (seconds_in seconds))) _
    (goes_by IsSeconds (whole_field Key.StopTimeout d) _ (λ o. or_else IsSeconds (BadField Key.StopTimeout) (seconds_in o) (any_seconds o)))
    (λ after within. record { signal = is; seconds = within }))

-- ---- its labels

abbrev pub AreLabels : List Pair → Type 0
AreLabels ps = IsTrue (are_labels ps)

labels_rise : (o : Option Data) → IfOrdered o → IfOk (read_or_else [] pairs_in Key.Labels o) AreLabels
labels_rise None h = refl
labels_rise (Some d) h = or_else AreLabels (BadField Key.Labels) (pairs_in d) (by (pairs_in d) refl)
  where
    by : (o : Option (List Pair)) → pairs_in d ≡ o → IfSome o AreLabels
    by None e = tt
    by (Some ps) e = labels_in d ps h e

pub labels_read : (d : Data) → IsOrdered d → IfOk (labels_of d) AreLabels
labels_read d rises =
    labels_rise (field Key.Labels d) (then_unless (get (key_text Key.Labels) d) (value_found (key_text Key.Labels) d rises))

-- ---- what it asks of the host

abbrev pub IsPolicy : Policy → Type 0
IsPolicy p = IsTrue (is_policy p)

abbrev Allows : Policy → Bool → Type 0
Allows policy auto = IsTrue (allows_auto_remove policy auto)

record IsHost (host : Host) : Type 0 where
  policy : IsPolicy host.policy
  mounts : AreMounts host.mounts
  auto : Allows host.policy host.auto_remove

auto_allowed : (policy : Policy) (auto : Bool) → IfOk (unless_restarted policy auto) (Allows policy)
auto_allowed policy auto = by (allows_auto_remove policy auto) refl
  where
    by : (b : Bool) → allows_auto_remove policy auto ≡ b → IfOk (if b then Ok auto else Err AutoRemoveExcludes) (Allows policy)
    by true e = e
    by false e = tt

on_failure_read : (maximum : ℤ) → IfOk (policy_or_fault (on_failure maximum)) IsPolicy
on_failure_read (pos n) = by (nat_le n 2147483647) refl
  where
    by : (b : Bool) → nat_le n 2147483647 ≡ b → IfOk (policy_or_fault (cond b (Ok (OnFailure n)) (Err (record {})))) IsPolicy
    by true e = e
    by false e = tt
on_failure_read (negsuc n) = tt

without_read : (p : Policy) (maximum : ℤ) → IsPolicy p → IfOk (policy_or_fault (without_maximum p maximum)) IsPolicy
without_read p (pos n) is = by (n == 0)
  where
    by : (b : Bool) → IfOk (policy_or_fault (cond b (Ok p) (Err (record {})))) IsPolicy
    by true = is
    by false = tt
without_read p (negsuc n) is = tt

named_read : (a b c d : Bool) (maximum : ℤ)
    → IfOk (policy_or_fault (cond a (on_failure maximum) (cond b (without_maximum Always maximum)
    (cond c (without_maximum UnlessStopped maximum) (cond d (without_maximum No maximum) (Err (record {}))))))) IsPolicy
named_read true b c d maximum = on_failure_read maximum
named_read false true c d maximum = without_read Always maximum refl
named_read false false true d maximum = without_read UnlessStopped maximum refl
named_read false false false true maximum = without_read No maximum refl
named_read false false false false maximum = tt

pub policy_read : (name : List ℕ) (maximum : ℤ) → IfOk (policy_or_fault (read_policy name maximum)) IsPolicy
policy_read name maximum =
    named_read (same_bytes name (codes "on-failure")) (same_bytes name (codes "always")) (same_bytes name (codes "unless-stopped"))
    (same_bytes name (codes "no") || same_bytes name (codes "")) maximum

object_read : (d : Data) → IfOk (policy_in d) IsPolicy
object_read d =
    goes_by IsPolicy (text_field Key.Name d) _ (λ name.
    goes_by IsPolicy (whole_field Key.MaximumRetryCount d) _ (λ maximum.
    policy_read (unwrap_or name []) (unwrap_or maximum (pos 0))))

present_read : (o : Option Data) → IfOk (policy_if_present o) IsPolicy
present_read None = refl
present_read (Some d) = object_read d

fields_read : (d : Data) → IfOk (host_in d) IsHost
fields_read d =
    goes_on AreMounts IsHost (mounts_of d) _ (mounts_read d) (λ mounts are.
    goes_on IsPolicy IsHost (policy_of d) _ (goes_by IsPolicy (object_field Key.RestartPolicy d) policy_if_present present_read) (λ policy is.
    goes_on (Allows policy) IsHost (auto_remove_of policy d) _ (goes_by (Allows policy) (flag Key.AutoRemove d) (unless_restarted policy) (auto_allowed policy)) (λ auto allowed.
    record { policy = is; mounts = are; auto = allowed })))

if_present_read : (o : Option Data) → IfOk (host_if_present o) IsHost
if_present_read None = record { policy = refl; mounts = refl; auto = refl }
if_present_read (Some d) = fields_read d

host_read : (d : Data) → IfOk (host_of d) IsHost
host_read d = goes_by IsHost (object_field Key.HostConfig d) host_if_present if_present_read

-- ---- its health check

abbrev IsCheck : Option HealthSpec → Type 0
IsCheck o = IsTrue (if_given is_health o)

-- a number of at least this, and at most an hour's milliseconds
abbrev IsSpan : ℕ → ℕ → Type 0
IsSpan least n = IsTrue (nat_le least n && nat_le n 3600000)

span_read : (least default : ℕ) → least ≤ 1 → IsSpan least default → (z : ℤ) → IfSome (span_in default z) (IsSpan least)
span_read least default low is (negsuc n) = tt
span_read least default low is (pos n) = by (n == 0) (nat_le 1000000 n) (nat_le n 3600000000000) refl refl
  where
    by : (a b c : Bool) → nat_le 1000000 n ≡ b → nat_le n 3600000000000 ≡ c → IfSome (if a then Some default else (if b && c then Some (n / 1000000) else None)) (IsSpan least)
    by true b c e h = is
    by false true true e h =
        let few : least ≤ n / 1000000 = omega (arith, low, leb-true 1000000 n e) in
        let most : n / 1000000 ≤ 3600000 = omega (arith, leb-true n 3600000000000 h) in
        both_true _ _ (le-leb least (n / 1000000) few) (le-leb (n / 1000000) 3600000 most)
    by false true false e h = tt
    by false false c e h = tt

span_within : (least default : ℕ) → least ≤ 1 → IsSpan least default → (key : BodyKey) (d : Data) → IfOk (span_of default key d) (IsSpan least)
span_within least default low is key d =
    goes_by (IsSpan least) (whole_field key d) _ (λ found.
    or_else (IsSpan least) (BadField key) (span_in default (unwrap_or found (pos 0))) (span_read least default low is (unwrap_or found (pos 0))))

abbrev AreRetries : ℕ → Type 0
AreRetries n = IsTrue (nat_le 1 n && nat_le n 1000)

retries_read : (z : ℤ) → IfSome (retries_in z) AreRetries
retries_read (negsuc n) = tt
retries_read (pos n) = by (n == 0) refl
  where
    by : (a : Bool) → (n == 0) ≡ a → IfSome (if a then Some 3 else (if nat_le n 1000 then Some n else None)) AreRetries
    by true e = refl
    by false e = let some : nat_le 1 n ≡ true = grind (arith, nat_tests, e) in some_by_test AreRetries (nat_le n 1000) n (λ h. both_true _ _ some h)

retries_within : (d : Data) → IfOk (retries_of d) AreRetries
retries_within d =
    goes_by AreRetries (whole_field Key.Retries d) _ (λ found.
    or_else AreRetries (BadField Key.Retries) (retries_in (unwrap_or found (pos 0))) (retries_read (unwrap_or found (pos 0))))

left_true : (a b : Bool) → (a && b) ≡ true → a ≡ true
left_true true b h = refl
left_true false b h = h

right_true : (a b : Bool) → (a && b) ≡ true → b ≡ true
right_true true b h = h
right_true false b h = absurd (false≢true h)

check_of : (interval timeout start retries : ℕ) (words : List (List ℕ)) → IsSpan 1 interval → IsSpan 1 timeout → IsSpan 0 start → AreRetries retries
    → IsCheck (checked interval timeout start retries words)
check_of i t s r [] hi ht hs hr = refl
check_of i t s r (word ∷ words) hi ht hs hr =
    rw (
      left_true (nat_le 1 i) (nat_le i 3600000) hi,
      right_true (nat_le 1 i) (nat_le i 3600000) hi,
      left_true (nat_le 1 t) (nat_le t 3600000) ht,
      right_true (nat_le 1 t) (nat_le t 3600000) ht,
      right_true (nat_le 0 s) (nat_le s 3600000) hs,
      left_true (nat_le 1 r) (nat_le r 1000) hr,
      right_true (nat_le 1 r) (nat_le r 1000) hr,
    ) refl

check_read : (d : Data) → IfOk (health_in d) IsCheck
check_read d =
    goes_by IsCheck (test_of d) _ (λ words.
    goes_on (IsSpan 1) IsCheck (span_of 30000 Key.Interval d) _ (span_within 1 30000 (omega arith) refl Key.Interval d) (λ interval hi.
    goes_on (IsSpan 1) IsCheck (span_of 30000 Key.Timeout d) _ (span_within 1 30000 (omega arith) refl Key.Timeout d) (λ timeout ht.
    goes_on (IsSpan 0) IsCheck (span_of 0 Key.StartPeriod d) _ (span_within 0 0 (omega arith) refl Key.StartPeriod d) (λ start hs.
    goes_on AreRetries IsCheck (retries_of d) _ (retries_within d) (λ retries hr.
    check_of interval timeout start retries words hi ht hs hr)))))

health_read : (d : Data) → IfOk (health_of d) IsCheck
health_read d = goes_by IsCheck (object_field Key.Healthcheck d) health_if_present by
  where
    by : (o : Option Data) → IfOk (health_if_present o) IsCheck
    by None = refl
    by (Some d) = check_read d

-- ---- the whole

-- the bounds of a create but for its name
abbrev pub is_within : CreateSpec → Bool
is_within spec = is_policy spec.policy && is_signal spec.stop_signal && is_seconds spec.stop_after && are_labels spec.labels && are_mounts spec.mounts
    && allows_auto_remove spec.policy spec.auto_remove && if_given is_health spec.health

abbrev pub IsWithin : CreateSpec → Type 0
IsWithin spec = IsTrue (is_within spec)

fields_within : (name : Option (List ℕ)) (d : Data) → IsOrdered d → IfOk (create_in name d) IsWithin
fields_within name d rises =
    goes_by IsWithin (needed_text Key.Image d) _ (λ image.
    goes_by IsWithin (words_of d) _ (λ words.
    goes_by IsWithin (console_of d) _ (λ console.
    goes_on IsStop IsWithin (stop_of d) _ (stop_read d) (λ stop s.
    goes_on AreLabels IsWithin (labels_of d) _ (labels_read d rises) (λ labels l.
    goes_by IsWithin (no_volumes d) _ (λ none.
    goes_on IsHost IsWithin (host_of d) _ (host_read d) (λ host h.
    goes_on IsCheck IsWithin (health_of d) _ (health_read d) (λ health k.
    both_true _ (if_given is_health health) (both_true _ (allows_auto_remove host.policy host.auto_remove) (both_true _ (are_mounts host.mounts) (both_true _ (are_labels labels) (both_true _ (is_seconds stop.after)
    (both_true (is_policy host.policy) (is_signal stop.signal) h.policy s.signal) s.seconds) l) h.mounts) h.auto) k))))))))

-- a name beside them
pub named_within : (spec : CreateSpec) (name : Option (List ℕ)) → IsTrue (if_given is_name name) → IsWithin spec
    → IsTrue (is_create (record spec { name = name }))
named_within spec name is within =
    by (if_given is_name name) (is_policy spec.policy) (is_signal spec.stop_signal) (is_seconds spec.stop_after) (are_labels spec.labels)
    (are_mounts spec.mounts) (allows_auto_remove spec.policy spec.auto_remove) (if_given is_health spec.health) is within
  where
    by : (n p s z l m a k : Bool) → n ≡ true → IsTrue (p && s && z && l && m && a && k) → IsTrue (n && p && s && z && l && m && a && k)
    by true p s z l m a k is h = h
    by false p s z l m a k is h = absurd (false≢true is)

pub create_within : (name : Option (List ℕ)) (body : List ℕ) → IfOk (create_of name body) IsWithin
unfolding create_of
create_within name body =
    goes_on IsOrdered IsWithin (body_of body) (create_in name) (gives IsOrdered (body_of body) (body_ordered body)) (λ d rises. fields_within name d rises)
