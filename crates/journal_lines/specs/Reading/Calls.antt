-- The call that a line's value says (own; Docker Engine API v1.43, its operations).
use Rattle.std.specs.Prelude.{ℕ, ℤ, Bool, false, List, codes, if◌then◌else◌, Option, Some, None, option_map}
use Rattle.std.specs.Result.{result_ok}
use Rattle.serde_json.specs.Data.{Data}
use Rattle.serde_json.specs.Find.{get, as_bool, as_str}
use Rattle.hex.specs.Hex.{decode_of}
use Rattle.engine_text.specs.Policy.{read_policy}
use Rattle.engine_text.specs.Texts.{same_bytes}
use Rattle.engine_text.specs.declared.call.Call.{Call}
use Rattle.engine_text.specs.declared.call.LogAsk.{LogAsk}
use Rattle.engine_text.specs.declared.call.AttachAsk.{AttachAsk}
use Rattle.engine_text.specs.declared.call.Until.{Until}
use Rattle.engine_text.specs.declared.call.Until.TheVariants.{NotRunning, NextExit, Removed}
use Rattle.engine_text.specs.declared.health.HealthSpec.{HealthSpec}
use Rattle.engine_text.specs.declared.owner.Owner.{Owner}
use Rattle.engine_text.specs.declared.owner.Owner.TheVariants.{Container as OfContainer, Exec as OfExec}
use Rattle.engine_text.specs.declared.policy.Policy.{Policy}
use Rattle.engine_text.specs.declared.signal.Signal.{Signal}
use Rattle.journal_lines.specs.Reading.Parts.{and_then, text_at, flag_at, natural_of, natural_at, count_of, count_at, signal_of, signal_at, integer_of, seconds_of, seconds_at, or_null, optional_at}
use Rattle.journal_lines.specs.Reading.Lists.{words_at, pairs_at, mounts_at, filter_at}
use Rattle.journal_lines.specs.declared.reading.create.Settings.{Settings}

-- ---- parts

-- A policy by its name and its greatest number of restarts.
abbrev pub policy_in : Data → Option Policy
policy_in d =
    and_then (text_at (codes "policy") d) (λ name.
    and_then (and_then (get (codes "maximum") d) integer_of) (λ maximum.
    result_ok (read_policy name maximum)))

-- What of a create is neither text nor list.
abbrev pub settings_in : Data → Option Settings
settings_in d =
    and_then (policy_in d) (λ policy.
    and_then (signal_at (codes "signal") d) (λ signal.
    and_then (seconds_at (codes "after") d) (λ after.
    and_then (flag_at (codes "stdin") d) (λ stdin.
    and_then (flag_at (codes "once") d) (λ once.
    Some (record { policy = policy; signal = signal; after = after; stdin = stdin; once = once }))))))

-- A policy, or none where the name of one is null.
abbrev pub policy_if_given : Data → Option (Option Policy)
policy_if_given d = optional_at (λ name. policy_in d) (codes "policy") d

-- A flag, or false where there is no key.
abbrev pub flag_if_there : Option Data → Option Bool
flag_if_there None = Some false
flag_if_there (Some d) = as_bool d

-- A health check.
abbrev pub check_of : Data → Option HealthSpec
check_of d =
    and_then (words_at (codes "words") d) (λ words.
    and_then (natural_at (codes "interval") d) (λ interval.
    and_then (natural_at (codes "timeout") d) (λ timeout.
    and_then (count_at (codes "retries") d) (λ retries.
    and_then (natural_at (codes "start") d) (λ start.
    Some (record { words = words; interval = interval; timeout = timeout; retries = retries; start_period = start }))))))

-- A check, or none where there is no key, or null.
abbrev pub check_if_there : Option Data → Option (Option HealthSpec)
check_if_there None = Some None
check_if_there (Some d) = or_null check_of d

-- What a wait waits for.
abbrev pub until_of : List ℕ → Option Until
until_of word =
    if same_bytes word (codes "not-running") then Some NotRunning else
    if same_bytes word (codes "next-exit") then Some NextExit else
    if same_bytes word (codes "removed") then Some Removed else
    None

-- What is asked of logs.
abbrev pub log_ask_in : Data → Option LogAsk
log_ask_in d =
    and_then (flag_at (codes "follow") d) (λ follow.
    and_then (flag_at (codes "out") d) (λ out.
    and_then (flag_at (codes "err") d) (λ err.
    and_then (flag_at (codes "stamps") d) (λ stamps.
    and_then (optional_at count_of (codes "tail") d) (λ tail.
    and_then (natural_at (codes "least") d) (λ least.
    and_then (natural_at (codes "greatest") d) (λ greatest.
    Some (record {
      follow = follow;
      out = out;
      err = err;
      stamps = stamps;
      tail = tail;
      least = least;
      greatest = greatest;
    }))))))))

-- What is asked of an attach.
abbrev pub attach_ask_in : Data → Option AttachAsk
attach_ask_in d =
    and_then (flag_at (codes "logs") d) (λ logs.
    and_then (flag_at (codes "stream") d) (λ stream.
    and_then (flag_at (codes "stdin") d) (λ stdin.
    and_then (flag_at (codes "out") d) (λ out.
    and_then (flag_at (codes "err") d) (λ err.
    Some (record { logs = logs; stream = stream; stdin = stdin; out = out; err = err }))))))

-- Whose input it is.
abbrev pub owner_of : List ℕ → ℕ → Option Owner
owner_of kind number =
    if same_bytes kind (codes "container") then Some (OfContainer number) else
    if same_bytes kind (codes "exec") then Some (OfExec number) else
    None

abbrev pub owner_in : Data → Option Owner
owner_in d =
    and_then (text_at (codes "kind") d) (λ kind.
    and_then (natural_at (codes "number") d) (λ number.
    owner_of kind number))

-- Bytes in hexadecimal.
abbrev pub bytes_at : List ℕ → Data → Option (List ℕ)
bytes_at key d = and_then (text_at key d) (λ digits. result_ok (decode_of digits))

-- ---- calls

abbrev pub create_in : Data → Option Call
create_in d =
    and_then (settings_in d) (λ settings.
    and_then (optional_at as_str (codes "name") d) (λ name.
    and_then (text_at (codes "image") d) (λ image.
    and_then (words_at (codes "words") d) (λ words.
    and_then (pairs_at (codes "labels") d) (λ labels.
    and_then (mounts_at (codes "mounts") d) (λ mounts.
    and_then (flag_if_there (get (codes "auto") d)) (λ auto.
    and_then (check_if_there (get (codes "health") d)) (λ health.
    Some (Call.Create (record {
      name = name;
      image = image;
      words = words;
      policy = settings.policy;
      stop_signal = settings.signal;
      stop_after = settings.after;
      open_stdin = settings.stdin;
      stdin_once = settings.once;
      labels = labels;
      mounts = mounts;
      auto_remove = auto;
      health = health;
    }))))))))))

-- Of a reference alone.
abbrev pub named_in : (List ℕ → Call) → Data → Option Call
named_in call d = option_map call (text_at (codes "ref") d)

-- A stop or a restart.
abbrev pub stop_in : (List ℕ → Option ℤ → Option Signal → Call) → Data → Option Call
stop_in call d =
    and_then (text_at (codes "ref") d) (λ target.
    and_then (optional_at seconds_of (codes "t") d) (λ wait.
    and_then (optional_at signal_of (codes "signal") d) (λ signal.
    Some (call target wait signal))))

abbrev pub kill_in : Data → Option Call
kill_in d =
    and_then (text_at (codes "ref") d) (λ target.
    and_then (signal_at (codes "signal") d) (λ signal.
    Some (Call.Kill target signal)))

abbrev pub rename_in : Data → Option Call
rename_in d =
    and_then (text_at (codes "ref") d) (λ target.
    and_then (text_at (codes "name") d) (λ name.
    Some (Call.Rename target name)))

abbrev pub update_in : Data → Option Call
update_in d =
    and_then (text_at (codes "ref") d) (λ target.
    and_then (policy_if_given d) (λ policy.
    Some (Call.Update target policy)))

abbrev pub remove_in : Data → Option Call
remove_in d =
    and_then (text_at (codes "ref") d) (λ target.
    and_then (flag_at (codes "force") d) (λ force.
    Some (Call.Remove target force)))

abbrev pub wait_in : Data → Option Call
wait_in d =
    and_then (text_at (codes "ref") d) (λ target.
    and_then (text_at (codes "condition") d) (λ word.
    and_then (until_of word) (λ until.
    Some (Call.Wait target until))))

abbrev pub list_in : Data → Option Call
list_in d =
    and_then (flag_at (codes "all") d) (λ all.
    and_then (optional_at count_of (codes "limit") d) (λ limit.
    and_then (filter_at (codes "filters") d) (λ filter.
    Some (Call.List all limit filter))))

abbrev pub logs_in : Data → Option Call
logs_in d =
    and_then (text_at (codes "ref") d) (λ target.
    and_then (log_ask_in d) (λ ask.
    Some (Call.Logs target ask)))

abbrev pub attach_in : Data → Option Call
attach_in d =
    and_then (text_at (codes "ref") d) (λ target.
    and_then (attach_ask_in d) (λ ask.
    Some (Call.Attach target ask)))

abbrev pub exec_create_in : Data → Option Call
exec_create_in d =
    and_then (text_at (codes "ref") d) (λ target.
    and_then (words_at (codes "words") d) (λ words.
    and_then (flag_at (codes "stdin") d) (λ stdin.
    and_then (flag_at (codes "out") d) (λ out.
    and_then (flag_at (codes "err") d) (λ err.
    Some (Call.ExecCreate target words stdin out err))))))

abbrev pub exec_start_in : Data → Option Call
exec_start_in d =
    and_then (text_at (codes "id") d) (λ id.
    and_then (flag_at (codes "detach") d) (λ detach.
    Some (Call.ExecStart id detach)))

abbrev pub exec_inspect_in : Data → Option Call
exec_inspect_in d = option_map Call.ExecInspect (text_at (codes "id") d)

abbrev pub volume_create_in : Data → Option Call
volume_create_in d =
    and_then (text_at (codes "name") d) (λ name.
    and_then (pairs_at (codes "labels") d) (λ labels.
    Some (Call.VolumeCreate name labels)))

-- The inspect or the removal of a volume.
abbrev pub volume_in : (List ℕ → Call) → Data → Option Call
volume_in call d = option_map call (text_at (codes "name") d)

abbrev pub volume_list_in : Data → Option Call
volume_list_in d = option_map Call.VolumeList (filter_at (codes "filters") d)

abbrev pub events_in : Data → Option Call
events_in d =
    and_then (optional_at natural_of (codes "since") d) (λ since.
    and_then (optional_at natural_of (codes "until") d) (λ until.
    and_then (filter_at (codes "filters") d) (λ filter.
    Some (Call.Events since until filter))))

abbrev pub feed_in : Data → Option Call
feed_in d =
    and_then (owner_in d) (λ owner.
    and_then (natural_at (codes "run") d) (λ run.
    and_then (bytes_at (codes "bytes") d) (λ bytes.
    Some (Call.Feed owner run bytes))))

abbrev pub feed_end_in : Data → Option Call
feed_end_in d =
    and_then (owner_in d) (λ owner.
    and_then (natural_at (codes "run") d) (λ run.
    Some (Call.FeedEnd owner run)))

-- The take or the drop of a ticket.
abbrev pub ticket_in : (ℕ → Call) → Data → Option Call
ticket_in call d = option_map call (natural_at (codes "ticket") d)

-- ---- by their ops

-- Of the journal, of input and of tickets.
unfoldable pub own_call : List ℕ → Data → Option Call
own_call op d =
    if same_bytes op (codes "events") then events_in d else
    if same_bytes op (codes "journal") then Some Call.JournalRead else
    if same_bytes op (codes "feed") then feed_in d else
    if same_bytes op (codes "feed_end") then feed_end_in d else
    if same_bytes op (codes "take") then ticket_in Call.Take d else
    if same_bytes op (codes "drop") then ticket_in Call.Drop d else
    None

-- Of execs and volumes, or one of these.
unfoldable pub other_call : List ℕ → Data → Option Call
other_call op d =
    if same_bytes op (codes "exec_create") then exec_create_in d else
    if same_bytes op (codes "exec_start") then exec_start_in d else
    if same_bytes op (codes "exec_inspect") then exec_inspect_in d else
    if same_bytes op (codes "volume_create") then volume_create_in d else
    if same_bytes op (codes "volume_inspect") then volume_in Call.VolumeInspect d else
    if same_bytes op (codes "volume_remove") then volume_in Call.VolumeRemove d else
    if same_bytes op (codes "volume_list") then volume_list_in d else
    own_call op d

-- That looks at containers, or one of these.
unfoldable pub looking_call : List ℕ → Data → Option Call
looking_call op d =
    if same_bytes op (codes "wait") then wait_in d else
    if same_bytes op (codes "inspect") then named_in Call.Inspect d else
    if same_bytes op (codes "list") then list_in d else
    if same_bytes op (codes "logs") then logs_in d else
    if same_bytes op (codes "attach") then attach_in d else
    other_call op d

-- That changes containers, or one of these.
unfoldable pub named_call : List ℕ → Data → Option Call
named_call op d =
    if same_bytes op (codes "create") then create_in d else
    if same_bytes op (codes "start") then named_in Call.Start d else
    if same_bytes op (codes "stop") then stop_in Call.Stop d else
    if same_bytes op (codes "restart") then stop_in Call.Restart d else
    if same_bytes op (codes "kill") then kill_in d else
    if same_bytes op (codes "pause") then named_in Call.Pause d else
    if same_bytes op (codes "unpause") then named_in Call.Unpause d else
    if same_bytes op (codes "rename") then rename_in d else
    if same_bytes op (codes "update") then update_in d else
    if same_bytes op (codes "remove") then remove_in d else
    looking_call op d

-- The call of a value, by its op.
abbrev pub call_in : Data → Option Call
call_in d = and_then (text_at (codes "op") d) (λ op. named_call op d)
