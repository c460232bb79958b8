-- Which calls a request can make (Docker Engine API v1.43, the parameters of each operation; own: their bounds).
use Rattle.std.specs.Prelude.{ℕ, ℤ, pos, negsuc, ◌==◌, ◌&&◌, ◌||◌, nat_le, nat_lt, Bool, true, false, not, IsTrue, List, [], ◌∷◌, Option, Some, None, length, map}
use Rattle.std.specs.List.{list_all}
use Rattle.std.specs.Ordering.{nat_cmp, is_lt}
use Rattle.std.specs.Cmp.Lexicographic.{slice_cmp}
use Rattle.engine_text.specs.Name.{is_name, is_volume_name}
use Rattle.engine_text.specs.Mounts.{is_path}
use Rattle.engine_text.specs.Filter.{filter_word}
use Rattle.engine_text.specs.Policy.{is_no}
use Rattle.engine_text.specs.declared.call.Call.{Call}
use Rattle.engine_text.specs.declared.call.CreateSpec.{CreateSpec}
use Rattle.engine_text.specs.declared.call.LogAsk.{LogAsk}
use Rattle.engine_text.specs.declared.filter.FilterRow.{FilterRow}
use Rattle.engine_text.specs.declared.filter.FilterKey.{FilterKey}
use Rattle.engine_text.specs.declared.filter.FilterKey.TheVariants as Key
use Rattle.engine_text.specs.declared.health.HealthSpec.{HealthSpec}
use Rattle.engine_text.specs.declared.mounts.Mount.{Mount}
use Rattle.engine_text.specs.declared.pairs.Pair.{Pair}
use Rattle.engine_text.specs.declared.policy.Policy.{Policy}
use Rattle.engine_text.specs.declared.signal.Signal.{Signal}

-- ---- parts of calls

-- Whether what is given, if it is, passes.
abbrev pub if_given : {A : Type 0} → (A → Bool) → Option A → Bool
if_given p None = true
if_given p (Some x) = p x

-- Whether there is an item: a reference is any text that isn't empty.
abbrev pub is_full : {A : Type 0} → List A → Bool
is_full [] = false
is_full (x ∷ xs) = true

-- Signals 1 to 31.
abbrev pub is_signal : Signal → Bool
is_signal signal = nat_le 1 signal.number && nat_le signal.number 31

-- A greatest number of restarts of at most 2,147,483,647.
abbrev pub is_policy : Policy → Bool
is_policy Policy.No = true
is_policy Policy.Always = true
is_policy Policy.UnlessStopped = true
is_policy (Policy.OnFailure most) = nat_le most 2147483647

-- The greatest moment that a request can write: ten digits of seconds, and three of milliseconds.
abbrev pub far : ℕ
far = 9999999999999

-- Moments of at most that.
abbrev pub is_time : ℕ → Bool
is_time moment = nat_le moment far

-- Seconds of a stop: -1, or at most 2,147,483.
abbrev pub is_seconds : ℤ → Bool
is_seconds (pos n) = nat_le n 2147483
is_seconds (negsuc k) = k == 0

-- Counts below a thousand million.
abbrev pub is_count : ℕ → Bool
is_count n = nat_lt n 1000000000

-- A limit is such a count, and isn't 0.
abbrev pub is_limit : ℕ → Bool
is_limit n = nat_le 1 n && is_count n

-- Each text is below the next in byte order.
abbrev pub are_rising : List (List ℕ) → Bool
are_rising [] = true
are_rising (t ∷ []) = true
are_rising (t ∷ u ∷ ts) = is_lt (slice_cmp nat_cmp t u) && are_rising (u ∷ ts)

-- The keys of labels rise.
abbrev pub are_labels : List Pair → Bool
are_labels pairs = are_rising (map (λ p. p.key) pairs)

-- ---- mounts and filters

-- A mount's volume has a volume's name, and its target is a path.
abbrev pub is_mount : Mount → Bool
is_mount m = is_volume_name m.volume && is_path m.target

-- At most 16 mounts.
abbrev pub are_mounts : List Mount → Bool
are_mounts mounts = nat_le (length mounts) 16 && list_all is_mount mounts

-- The keys of a list of containers.
abbrev pub is_list_key : FilterKey → Bool
is_list_key Key.Id = true
is_list_key Key.Name = true
is_list_key Key.State = true
is_list_key Key.Exited = true
is_list_key Key.Ancestor = true
is_list_key Key.Label = true
is_list_key Key.Volume = true
is_list_key _ = false

-- The keys of events.
abbrev pub is_event_key : FilterKey → Bool
is_event_key Key.Kind = true
is_event_key Key.Action = true
is_event_key Key.Container = true
is_event_key Key.Image = true
is_event_key Key.Volume = true
is_event_key _ = false

-- The key of a list of volumes.
abbrev pub is_volume_key : FilterKey → Bool
is_volume_key Key.Name = true
is_volume_key _ = false

-- A filter's keys rise, and are those of its call.
abbrev pub is_filter : (FilterKey → Bool) → List FilterRow → Bool
is_filter is_key rows = are_rising (map (λ r. filter_word r.key) rows) && list_all (λ r. is_key r.key) rows

-- ---- calls

-- Whether a container with this policy may be removed by itself: only where it is never restarted.
abbrev pub allows_auto_remove : Policy → Bool → Bool
allows_auto_remove policy auto = not auto || is_no policy

-- Milliseconds of a health check: an hour at most.
abbrev pub is_span : ℕ → Bool
is_span n = nat_le n 3600000

-- A health check has at least one word, an interval and a timeout of at least a millisecond, and 1 to 1,000 retries.
abbrev pub is_health : HealthSpec → Bool
is_health h =
    is_full h.words && nat_le 1 h.interval && is_span h.interval && nat_le 1 h.timeout && is_span h.timeout
    && is_span h.start_period && nat_le 1 h.retries && nat_le h.retries 1000

-- The values of a create.
abbrev pub is_create : CreateSpec → Bool
is_create spec =
    if_given is_name spec.name && is_policy spec.policy && is_signal spec.stop_signal && is_seconds spec.stop_after
    && are_labels spec.labels && are_mounts spec.mounts && allows_auto_remove spec.policy spec.auto_remove
    && if_given is_health spec.health

-- Logs ask for at least one stream.
abbrev pub is_log_ask : LogAsk → Bool
is_log_ask ask = (ask.out || ask.err) && if_given is_count ask.tail && is_time ask.least && is_time ask.greatest

-- Whether a call's values lie within what a request can give.
abbrev pub is_sound : Call → Bool
is_sound (Call.Create spec) = is_create spec
is_sound (Call.Start target) = is_full target
is_sound (Call.Pause target) = is_full target
is_sound (Call.Unpause target) = is_full target
is_sound (Call.Inspect target) = is_full target
is_sound (Call.Stop target wait signal) = is_full target && if_given is_seconds wait && if_given is_signal signal
is_sound (Call.Restart target wait signal) = is_full target && if_given is_seconds wait && if_given is_signal signal
is_sound (Call.Kill target signal) = is_full target && is_signal signal
is_sound (Call.Rename target name) = is_full target && is_name name
is_sound (Call.Update target policy) = is_full target && if_given is_policy policy
is_sound (Call.Remove target force) = is_full target
is_sound (Call.Wait target until) = is_full target
is_sound (Call.List all limit filter) = if_given is_limit limit && is_filter is_list_key filter
is_sound (Call.Logs target ask) = is_full target && is_log_ask ask
is_sound (Call.Attach target ask) = is_full target
is_sound (Call.ExecCreate target words stdin out err) = is_full target && is_full words
is_sound (Call.ExecStart id detach) = is_full id
is_sound (Call.ExecInspect id) = is_full id
is_sound (Call.VolumeCreate name labels) = is_volume_name name && are_labels labels
is_sound (Call.VolumeInspect name) = is_full name
is_sound (Call.VolumeRemove name) = is_full name
is_sound (Call.VolumeList filter) = is_filter is_volume_key filter
is_sound (Call.Events since until filter) = if_given is_time since && if_given is_time until && is_filter is_event_key filter
is_sound Call.JournalRead = true
is_sound (Call.Feed owner run bytes) = nat_le 1 run && is_full bytes && nat_le (length bytes) 32768
is_sound (Call.FeedEnd owner run) = nat_le 1 run
is_sound (Call.Take ticket) = true
is_sound (Call.Drop ticket) = true

-- A call that a request can make.
abbrev pub IsSound : Call → Type 0
IsSound c = IsTrue (is_sound c)
