-- What holds of each call: its soundness by its fields, its keys, and that its value says it.
use Rattle.std.proofs.Common.{◌≡◌, ◌<◌, ◌^◌, ◌≤◌, ℕ, ℤ, List, Bool, true, false, ◌&&◌, ◌||◌, nat_le, Option, Some, None, option_map, refl, sym, ◌∙◌, length, arith}
use Rattle.std.specs.Option.{option_map_or}
use Rattle.std.proofs.lemmas.Bool.{and_parts, and_from}
use Rattle.hex.proofs.HexLemmas.{decode_of-encode_lower}
use Rattle.json_laws.proofs.Sound.{has_fine_keys}
use Rattle.serde_json.specs.Data.{null}
use Rattle.serde_json.specs.Find.{as_str}
use Rattle.api_json.specs.Values.{text, natural, integer}
use Rattle.engine_text.specs.Soundness.{IsSound, is_sound, if_given, is_seconds, is_signal, is_full, is_count, is_limit, is_time, is_create, is_health, is_policy, allows_auto_remove, is_log_ask, are_labels, are_mounts, is_list_key, is_event_key, is_volume_key, is_filter}
use Rattle.engine_text.specs.Name.{is_name, is_volume_name}
use Rattle.api_json.specs.Container.{most_retries}
use Rattle.journal_lines.specs.CallFields.{create_fields, condition_word, kind_of_owner, fields_of, do_fields_agree}
use Rattle.journal_lines.specs.Fields.{check_entry, filter_value, field_members, fields_value, are_fields_sound}
use Rattle.journal_lines.specs.JournalLines.{call_value}
use Rattle.machine_model.specs.State.{owner_number}
use Rattle.engine_text.specs.declared.call.Call.{Call}
use Rattle.engine_text.specs.declared.call.CreateSpec.{CreateSpec}
use Rattle.engine_text.specs.declared.call.LogAsk.{LogAsk}
use Rattle.engine_text.specs.declared.call.Until.{Until}
use Rattle.engine_text.specs.declared.call.Until.TheVariants.{NotRunning, NextExit, Removed}
use Rattle.engine_text.specs.declared.filter.FilterKey.{FilterKey}
use Rattle.engine_text.specs.declared.filter.FilterRow.{FilterRow}
use Rattle.engine_text.specs.declared.health.HealthSpec.{HealthSpec}
use Rattle.engine_text.specs.declared.owner.Owner.{Owner}
use Rattle.engine_text.specs.declared.owner.Owner.TheVariants.{Container, Exec}
use Rattle.engine_text.specs.declared.policy.Policy.{Policy}
use Rattle.engine_text.specs.declared.signal.Signal.{Signal}
use Rattle.journal_lines.specs.FitsTypes.{FitsTypes}
use Rattle.journal_lines.specs.declared.format.Format.{Format}
use Rattle.journal_lines.specs.declared.format.Format.TheVariants.{First, Second}
use Rattle.journal_lines.specs.Reading.Parts.{or_null, natural_of, count_of, seconds_of, signal_of}
use Rattle.journal_lines.specs.Reading.Lists.{filter_in}
use Rattle.journal_lines.specs.Reading.Calls.{call_in, check_of, named_call, looking_call, other_call, own_call, owner_of, until_of}
use Rattle.journal_lines.proofs.TestLemmas.{le_of, lt_of}
use Rattle.journal_lines.proofs.FieldLemmas.{are_words_plain, is_fine}
use Rattle.journal_lines.proofs.SoundLemmas.{one, two, two_so, stop_order, last_first, feed_order, logs_order, create_order, signal_test, policy_test, given_test}
use Rattle.journal_lines.proofs.WordLemmas.{words_back, mounts_back}
use Rattle.journal_lines.proofs.PartLemmas.{count_back, signal_back, seconds_back, seconds_here, given_back, labels_back, filter_back, most_back, policy_back}

count_low : (n : ℕ) → is_count n ≡ true → n < 2 ^ 32
count_low n e = omega (arith, lt_of n 1000000000 e)

limit_low : (n : ℕ) → is_limit n ≡ true → n < 2 ^ 32
limit_low n e = count_low n (and_parts (nat_le 1 n) (is_count n) e).1

wait_back : (wait : Option ℤ) → if_given is_seconds wait ≡ true → or_null seconds_of (option_map_or integer wait null) ≡ Some wait
wait_back wait e = given_back integer seconds_of is_seconds wait seconds_here seconds_back e

end_back : (signal : Option Signal) → if_given is_signal signal ≡ true
    → or_null signal_of (option_map_or natural (option_map (λ s. s.number) signal) null) ≡ Some signal
end_back None e = refl
end_back (Some s) e = rw (signal_back s e) refl

tail_back : (tail : Option ℕ) → if_given is_count tail ≡ true → or_null count_of (option_map_or natural tail null) ≡ Some tail
tail_back tail e = given_back natural count_of is_count tail (λ n. refl) (λ n low. count_back n (count_low n low)) e

limit_back : (limit : Option ℕ) → if_given is_limit limit ≡ true → or_null count_of (option_map_or natural limit null) ≡ Some limit
limit_back limit e = given_back natural count_of is_limit limit (λ n. refl) (λ n low. count_back n (limit_low n low)) e

time_back : (moment : Option ℕ) → or_null natural_of (option_map_or natural moment null) ≡ Some moment
time_back None = refl
time_back (Some n) = refl

name_back : (name : Option (List ℕ)) → or_null as_str (option_map_or text name null) ≡ Some name
name_back None = refl
name_back (Some n) = refl

rows_back : (is_key : FilterKey → Bool) (rows : List FilterRow) → is_filter is_key rows ≡ true → filter_in (filter_value rows) ≡ Some rows
rows_back is_key rows e = filter_back rows (and_parts _ _ e).0

until_back : (until : Until) → until_of (condition_word until) ≡ Some until
until_back NotRunning = refl
until_back NextExit = refl
until_back Removed = refl

owner_back : (owner : Owner) → owner_of (kind_of_owner owner) (owner_number owner) ≡ Some owner
owner_back (Container n) = refl
owner_back (Exec n) = refl

-- a check is read back
check_back : (h : HealthSpec) → is_health h ≡ true → check_of (check_entry h) ≡ Some h
check_back h e =
    let few : h.retries ≤ 1000 = le_of h.retries 1000 (and_parts _ _ e).1 in
    rw (words_back h.words, count_back h.retries (omega (arith, few))) refl

-- a create that is removed by itself or not, with such a check
abbrev with_checks : Bool → Option HealthSpec → CreateSpec → CreateSpec
with_checks auto health spec = record spec { auto_remove = auto; health = health }

create_by : (format : Format) (auto : Bool) (health : Option HealthSpec) (spec : CreateSpec) → is_policy spec.policy ≡ true → is_signal spec.stop_signal ≡ true → is_seconds spec.stop_after ≡ true
    → are_labels spec.labels ≡ true → if_given is_health health ≡ true
    → call_in (fields_value format (create_fields (with_checks auto health spec))) ≡ Some (Call.Create (with_checks auto health spec))
unfolding named_call
create_by First true None spec p s z l h = rw (most_back spec.policy p, policy_back spec.policy p, signal_back spec.stop_signal s, seconds_back spec.stop_after z, name_back spec.name, words_back spec.words, labels_back spec.labels l, mounts_back spec.mounts) refl
create_by First false None spec p s z l h = rw (most_back spec.policy p, policy_back spec.policy p, signal_back spec.stop_signal s, seconds_back spec.stop_after z, name_back spec.name, words_back spec.words, labels_back spec.labels l, mounts_back spec.mounts) refl
create_by First true (Some k) spec p s z l h = rw (most_back spec.policy p, policy_back spec.policy p, signal_back spec.stop_signal s, seconds_back spec.stop_after z, name_back spec.name, words_back spec.words, labels_back spec.labels l, mounts_back spec.mounts, check_back k h) refl
create_by First false (Some k) spec p s z l h = rw (most_back spec.policy p, policy_back spec.policy p, signal_back spec.stop_signal s, seconds_back spec.stop_after z, name_back spec.name, words_back spec.words, labels_back spec.labels l, mounts_back spec.mounts, check_back k h) refl
create_by Second auto None spec p s z l h = rw (most_back spec.policy p, policy_back spec.policy p, signal_back spec.stop_signal s, seconds_back spec.stop_after z, name_back spec.name, words_back spec.words, labels_back spec.labels l, mounts_back spec.mounts) refl
create_by Second auto (Some k) spec p s z l h = rw (most_back spec.policy p, policy_back spec.policy p, signal_back spec.stop_signal s, seconds_back spec.stop_after z, name_back spec.name, words_back spec.words, labels_back spec.labels l, mounts_back spec.mounts, check_back k h) refl

create_back : (format : Format) (spec : CreateSpec) → is_create spec ≡ true → call_in (fields_value format (create_fields spec)) ≡ Some (Call.Create spec)
create_back format spec e =
    let checks = and_parts _ _ e in
    let allows = and_parts _ _ checks.0 in
    let mounts = and_parts _ _ allows.0 in
    let labels = and_parts _ _ mounts.0 in
    let seconds = and_parts _ _ labels.0 in
    let signals = and_parts _ _ seconds.0 in
    let policies = and_parts _ _ signals.0 in
    create_by format spec.auto_remove spec.health spec policies.1 signals.1 seconds.1 labels.1 checks.1

-- an update's policy, if there is one
update_back : (format : Format) (target : List ℕ) (policy : Option Policy) → if_given is_policy policy ≡ true
    → call_in (call_value format (Call.Update target policy)) ≡ Some (Call.Update target policy)
unfolding named_call
update_back format target None e = refl
update_back format target (Some p) e = rw (most_back p e, policy_back p e) refl

-- the parts of a stop's value
stop_back : (full : Bool) (wait : Option ℤ) (signal : Option Signal) → (full && if_given is_seconds wait && if_given is_signal signal) ≡ true
    → (or_null seconds_of (option_map_or integer wait null) ≡ Some wait) × (or_null signal_of (option_map_or natural (option_map (λ s. s.number) signal) null) ≡ Some signal)
stop_back full wait signal e =
    let p = and_parts (full && if_given is_seconds wait) (if_given is_signal signal) e in
    (wait_back wait (and_parts full (if_given is_seconds wait) p.0).1, end_back signal p.1)

-- the tail of logs
logs_back : (ask : LogAsk) → is_log_ask ask ≡ true → or_null count_of (option_map_or natural ask.tail null) ≡ Some ask.tail
logs_back ask e =
    let given = if_given is_count ask.tail in
    let p = and_parts ((ask.out || ask.err) && given && is_time ask.least) (is_time ask.greatest) e in
    let q = and_parts ((ask.out || ask.err) && given) (is_time ask.least) p.0 in
    tail_back ask.tail (and_parts (ask.out || ask.err) given q.0).1

-- ---- calls

fine_keys : (format : Format) (auto : Bool) (health : Option HealthSpec) (spec : CreateSpec) → has_fine_keys (field_members format (create_fields (with_checks auto health spec))) ≡ true
fine_keys First true None spec = refl
fine_keys First false None spec = refl
fine_keys First true (Some h) spec = refl
fine_keys First false (Some h) spec = refl
fine_keys Second auto None spec = refl
fine_keys Second auto (Some h) spec = refl

plain_words : (spec : CreateSpec) (p : Policy) → spec.policy ≡ p → are_words_plain (create_fields spec) ≡ true
plain_words spec Policy.No e = rw e refl
plain_words spec Policy.Always e = rw e refl
plain_words spec Policy.UnlessStopped e = rw e refl
plain_words spec (Policy.OnFailure most) e = rw e refl

fine_create : (format : Format) (spec : CreateSpec) → is_fine format (create_fields spec) ≡ true
fine_create format spec = and_from _ _ (fine_keys format spec.auto_remove spec.health spec) (plain_words spec spec.policy refl)

fine_update : (format : Format) (target : List ℕ) (policy : Option Policy) → is_fine format (fields_of (Call.Update target policy)) ≡ true
fine_update format target None = refl
fine_update format target (Some Policy.No) = refl
fine_update format target (Some Policy.Always) = refl
fine_update format target (Some Policy.UnlessStopped) = refl
fine_update format target (Some (Policy.OnFailure most)) = refl

fine_wait : (format : Format) (target : List ℕ) (until : Until) → is_fine format (fields_of (Call.Wait target until)) ≡ true
fine_wait format target NotRunning = refl
fine_wait format target NextExit = refl
fine_wait format target Removed = refl

fine_feed : (format : Format) (owner : Owner) (run : ℕ) (bytes : List ℕ) → is_fine format (fields_of (Call.Feed owner run bytes)) ≡ true
fine_feed format (Container n) run bytes = refl
fine_feed format (Exec n) run bytes = refl

fine_end : (format : Format) (owner : Owner) (run : ℕ) → is_fine format (fields_of (Call.FeedEnd owner run)) ≡ true
fine_end format (Container n) run = refl
fine_end format (Exec n) run = refl

-- A request can make it where it can give each of its fields; its keys are fine, and its value says it, in each format.
abbrev pub IsTold : Call → Type 0
IsTold c =
    (is_sound c ≡ (are_fields_sound (fields_of c) && do_fields_agree c)) ×
    ((format : Format) → is_fine format (fields_of c) ≡ true) ×
    ((format : Format) → IsSound c → FitsTypes c → call_in (call_value format c) ≡ Some c)

pub told : (c : Call) → IsTold c
unfolding named_call looking_call other_call own_call
told (Call.Create spec) = (
  rw (policy_test spec.policy)
      (create_order (if_given is_name spec.name) (nat_le (most_retries spec.policy) 2147483647) (is_signal spec.stop_signal) (is_seconds spec.stop_after) (are_labels spec.labels) (are_mounts spec.mounts)
      (allows_auto_remove spec.policy spec.auto_remove) (if_given is_health spec.health)),
  λ format. fine_create format spec,
  λ format h fits. create_back format spec h,
)
told (Call.Start target) = (one (is_full target), λ format. refl, λ format h fits. refl)
told (Call.Pause target) = (one (is_full target), λ format. refl, λ format h fits. refl)
told (Call.Unpause target) = (one (is_full target), λ format. refl, λ format h fits. refl)
told (Call.Inspect target) = (one (is_full target), λ format. refl, λ format h fits. refl)
told (Call.Stop target wait signal) = (
  rw (signal_test signal)
      (stop_order (is_full target) (if_given is_seconds wait) (if_given (λ n. nat_le 1 n && nat_le n 31) (option_map (λ s. s.number) signal))),
  λ format. refl,
  λ format h fits. let (waits, ends) = stop_back (is_full target) wait signal h in
      rw (waits, ends) refl,
)
told (Call.Restart target wait signal) = (
  rw (signal_test signal)
      (stop_order (is_full target) (if_given is_seconds wait) (if_given (λ n. nat_le 1 n && nat_le n 31) (option_map (λ s. s.number) signal))),
  λ format. refl,
  λ format h fits. let (waits, ends) = stop_back (is_full target) wait signal h in
      rw (waits, ends) refl,
)
told (Call.Kill target signal) = (
  two_so (is_full target) (is_signal signal),
  λ format. refl,
  λ format h fits. rw (signal_back signal (and_parts (is_full target) (is_signal signal) h).1) refl,
)
told (Call.Rename target name) = (two (is_full target) (is_name name), λ format. refl, λ format h fits. refl)
told (Call.Update target policy) = (
  rw (given_test policy) (two (is_full target) (if_given (λ n. nat_le n 2147483647) (option_map most_retries policy))),
  λ format. fine_update format target policy,
  λ format h fits. update_back format target policy (and_parts (is_full target) (if_given is_policy policy) h).1,
)
told (Call.Remove target force) = (one (is_full target), λ format. refl, λ format h fits. refl)
told (Call.Wait target until) = (one (is_full target), λ format. fine_wait format target until, λ format h fits. rw (until_back until) refl)
told (Call.List all limit filter) = (
  two (if_given is_limit limit) (is_filter is_list_key filter),
  λ format. refl,
  λ format h fits. let p = and_parts (if_given is_limit limit) (is_filter is_list_key filter) h in
      rw (limit_back limit p.0, rows_back is_list_key filter p.1) refl,
)
told (Call.Logs target ask) = (
  logs_order (is_full target) (ask.out || ask.err) (if_given is_count ask.tail) (is_time ask.least) (is_time ask.greatest),
  λ format. refl,
  λ format h fits. rw (logs_back ask (and_parts (is_full target) (is_log_ask ask) h).1) refl,
)
told (Call.Attach target ask) = (one (is_full target), λ format. refl, λ format h fits. refl)
told (Call.ExecCreate target words stdin out err) = (
  two_so (is_full target) (is_full words),
  λ format. refl,
  λ format h fits. rw (words_back words) refl,
)
told (Call.ExecStart id detach) = (one (is_full id), λ format. refl, λ format h fits. refl)
told (Call.ExecInspect id) = (one (is_full id), λ format. refl, λ format h fits. refl)
told (Call.VolumeCreate name labels) = (
  two (is_volume_name name) (are_labels labels),
  λ format. refl,
  λ format h fits. rw (labels_back labels (and_parts (is_volume_name name) (are_labels labels) h).1) refl,
)
told (Call.VolumeInspect name) = (one (is_full name), λ format. refl, λ format h fits. refl)
told (Call.VolumeRemove name) = (one (is_full name), λ format. refl, λ format h fits. refl)
told (Call.VolumeList filter) = (
  one (is_filter is_volume_key filter),
  λ format. refl,
  λ format h fits. rw (rows_back is_volume_key filter h) refl,
)
told (Call.Events since until filter) = (
  last_first (if_given is_time since) (if_given is_time until) (is_filter is_event_key filter),
  λ format. refl,
  λ format h fits. let p = and_parts (if_given is_time since && if_given is_time until) (is_filter is_event_key filter) h in
      rw (time_back since, time_back until, rows_back is_event_key filter p.1) refl,
)
told Call.JournalRead = (refl, λ format. refl, λ format h fits. refl)
told (Call.Feed owner run bytes) = (
  feed_order (nat_le 1 run) (is_full bytes) (nat_le (length bytes) 32768),
  λ format. fine_feed format owner run bytes,
  λ format h fits. rw (owner_back owner, decode_of-encode_lower bytes fits.0) refl,
)
told (Call.FeedEnd owner run) = (one (nat_le 1 run), λ format. fine_end format owner run, λ format h fits. rw (owner_back owner) refl)
told (Call.Take ticket) = (refl, λ format. refl, λ format h fits. refl)
told (Call.Drop ticket) = (refl, λ format. refl, λ format h fits. refl)

pub sound_by_field : (c : Call) → is_sound c ≡ (are_fields_sound (fields_of c) && do_fields_agree c)
sound_by_field c = (told c).0

-- so where a request can make it, it can give each field
pub sound_fields : (c : Call) → IsSound c → are_fields_sound (fields_of c) ≡ true
sound_fields c h = (and_parts (are_fields_sound (fields_of c)) (do_fields_agree c) (sym (sound_by_field c) ∙ h)).0

pub call_back : (format : Format) (c : Call) → IsSound c → FitsTypes c → call_in (call_value format c) ≡ Some c
call_back format c = (told c).2 format
