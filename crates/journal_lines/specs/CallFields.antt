-- The journal's calls, each told by its fields in the order of their keys (own).
use Rattle.std.specs.Prelude.{ℕ, ℤ, ◌&&◌, ◌||◌, nat_le, Bool, true, List, [], ◌∷◌, Option, Some, option_map, codes}
use Rattle.machine_model.specs.State.{owner_number}
use Rattle.api_json.specs.Container.{policy_word, most_retries}
use Rattle.engine_text.specs.Name.{is_name, is_volume_name}
use Rattle.engine_text.specs.Soundness.{is_full, is_time, is_count, is_limit, is_list_key, is_event_key, is_volume_key, allows_auto_remove}
use Rattle.engine_text.specs.declared.call.Call.{Call}
use Rattle.engine_text.specs.declared.call.CreateSpec.{CreateSpec}
use Rattle.engine_text.specs.declared.call.LogAsk.{LogAsk}
use Rattle.engine_text.specs.declared.call.AttachAsk.{AttachAsk}
use Rattle.engine_text.specs.declared.call.Until.{Until}
use Rattle.engine_text.specs.declared.call.Until.TheVariants.{NotRunning, NextExit, Removed}
use Rattle.engine_text.specs.declared.owner.Owner.{Owner}
use Rattle.engine_text.specs.declared.owner.Owner.TheVariants.{Container as OfContainer, Exec as OfExec}
use Rattle.engine_text.specs.declared.policy.Policy.{Policy}
use Rattle.engine_text.specs.declared.signal.Signal.{Signal}
use Rattle.journal_lines.specs.Fields.{Field, Word, WordOrNone, TextOrNone, NumberOrNone, SecondsOrNone, Flag, TextList, LabelPairs, MountList, FilterRows, HexBytes, FlagIfSet, CheckIfGiven, KeyedField}

-- ---- fields

-- Which call it is.
abbrev pub op_field : List ℕ → KeyedField
op_field word = (codes "op", Word word)

-- A reference: any text that isn't empty.
abbrev pub reference_field : List ℕ → Field
reference_field t = TextOrNone is_full (Some t)

-- A container's name.
abbrev pub name_field : Option (List ℕ) → Field
name_field = TextOrNone is_name

-- A number that isn't bounded but by its type.
abbrev pub number_field : ℕ → Field
number_field n = NumberOrNone (λ n. true) (Some n)

-- The number of a run: at least 1.
abbrev pub run_field : ℕ → Field
run_field n = NumberOrNone (nat_le 1) (Some n)

-- A greatest number of restarts: at most 2,147,483,647.
abbrev pub retries_field : Option Policy → Field
retries_field policy = NumberOrNone (λ n. nat_le n 2147483647) (option_map most_retries policy)

-- A moment that a request can write, in milliseconds.
abbrev pub moment_field : Option ℕ → Field
moment_field = NumberOrNone is_time

-- Signals 1 to 31.
abbrev pub signal_field : Option Signal → Field
signal_field s = NumberOrNone (λ n. nat_le 1 n && nat_le n 31) (option_map (λ s. s.number) s)

-- What a wait waits for.
abbrev pub condition_word : Until → List ℕ
condition_word NotRunning = codes "not-running"
condition_word NextExit = codes "next-exit"
condition_word Removed = codes "removed"

-- Whose input it is.
abbrev pub kind_of_owner : Owner → List ℕ
kind_of_owner (OfContainer n) = codes "container"
kind_of_owner (OfExec n) = codes "exec"

-- Those of a call with a reference alone.
abbrev pub named_fields : List ℕ → List ℕ → List KeyedField
named_fields word target = op_field word ∷ (codes "ref", reference_field target) ∷ []

-- Those of an inspect or a removal of a volume.
abbrev pub volume_fields : List ℕ → List ℕ → List KeyedField
volume_fields word target = (codes "name", reference_field target) ∷ op_field word ∷ []

-- Those of the take or the drop of a ticket.
abbrev pub ticket_fields : List ℕ → ℕ → List KeyedField
ticket_fields word ticket = op_field word ∷ (codes "ticket", number_field ticket) ∷ []

-- Those of an end of input, and of a feed but for its bytes.
abbrev pub feed_fields : List ℕ → Owner → ℕ → List KeyedField
feed_fields word owner run =
    (codes "kind", Word (kind_of_owner owner)) ∷ (codes "number", number_field (owner_number owner)) ∷ op_field word
    ∷ (codes "run", run_field run) ∷ []

-- Those of a stop or a restart.
abbrev pub stop_fields : List ℕ → List ℕ → Option ℤ → Option Signal → List KeyedField
stop_fields word target wait signal =
    op_field word ∷ (codes "ref", reference_field target) ∷ (codes "signal", signal_field signal) ∷ (codes "t", SecondsOrNone wait) ∷ []

-- ---- the table

-- The fields of a create.
abbrev pub create_fields : CreateSpec → List KeyedField
create_fields spec =
    (codes "after", SecondsOrNone (Some spec.stop_after))
    ∷ (codes "auto", FlagIfSet spec.auto_remove)
    ∷ (codes "health", CheckIfGiven spec.health)
    ∷ (codes "image", TextOrNone (λ t. true) (Some spec.image))
    ∷ (codes "labels", LabelPairs spec.labels)
    ∷ (codes "maximum", retries_field (Some spec.policy))
    ∷ (codes "mounts", MountList spec.mounts)
    ∷ (codes "name", name_field spec.name)
    ∷ (codes "once", Flag spec.stdin_once)
    ∷ op_field (codes "create")
    ∷ (codes "policy", Word (policy_word spec.policy))
    ∷ (codes "signal", signal_field (Some spec.stop_signal))
    ∷ (codes "stdin", Flag spec.open_stdin)
    ∷ (codes "words", TextList (λ ws. true) spec.words) ∷ []

-- The fields of logs.
abbrev pub logs_fields : List ℕ → LogAsk → List KeyedField
logs_fields target ask =
    (codes "err", Flag ask.err) ∷ (codes "follow", Flag ask.follow)
    ∷ (codes "greatest", moment_field (Some ask.greatest)) ∷ (codes "least", moment_field (Some ask.least))
    ∷ op_field (codes "logs") ∷ (codes "out", Flag ask.out) ∷ (codes "ref", reference_field target) ∷ (codes "stamps", Flag ask.stamps)
    ∷ (codes "tail", NumberOrNone is_count ask.tail) ∷ []

-- The fields of an attach.
abbrev pub attach_fields : List ℕ → AttachAsk → List KeyedField
attach_fields target ask =
    (codes "err", Flag ask.err) ∷ (codes "logs", Flag ask.logs) ∷ op_field (codes "attach") ∷ (codes "out", Flag ask.out)
    ∷ (codes "ref", reference_field target) ∷ (codes "stdin", Flag ask.stdin) ∷ (codes "stream", Flag ask.stream) ∷ []

-- The fields of a call, in the order of their keys.
abbrev pub fields_of : Call → List KeyedField
fields_of (Call.Create spec) = create_fields spec
fields_of (Call.Start target) = named_fields (codes "start") target
fields_of (Call.Pause target) = named_fields (codes "pause") target
fields_of (Call.Unpause target) = named_fields (codes "unpause") target
fields_of (Call.Inspect target) = named_fields (codes "inspect") target
fields_of (Call.Stop target wait signal) = stop_fields (codes "stop") target wait signal
fields_of (Call.Restart target wait signal) = stop_fields (codes "restart") target wait signal
fields_of (Call.Kill target signal) =
    op_field (codes "kill") ∷ (codes "ref", reference_field target) ∷ (codes "signal", signal_field (Some signal)) ∷ []
fields_of (Call.Rename target new) =
    (codes "name", name_field (Some new)) ∷ op_field (codes "rename") ∷ (codes "ref", reference_field target) ∷ []
fields_of (Call.Update target policy) =
    (codes "maximum", retries_field policy) ∷ op_field (codes "update") ∷ (codes "policy", WordOrNone (option_map policy_word policy))
    ∷ (codes "ref", reference_field target) ∷ []
fields_of (Call.Remove target force) =
    (codes "force", Flag force) ∷ op_field (codes "remove") ∷ (codes "ref", reference_field target) ∷ []
fields_of (Call.Wait target until) =
    (codes "condition", Word (condition_word until)) ∷ op_field (codes "wait") ∷ (codes "ref", reference_field target) ∷ []
fields_of (Call.List all limit filter) =
    (codes "all", Flag all) ∷ (codes "filters", FilterRows is_list_key filter) ∷ (codes "limit", NumberOrNone is_limit limit)
    ∷ op_field (codes "list") ∷ []
fields_of (Call.Logs target ask) = logs_fields target ask
fields_of (Call.Attach target ask) = attach_fields target ask
fields_of (Call.ExecCreate target words stdin out err) =
    (codes "err", Flag err) ∷ op_field (codes "exec_create") ∷ (codes "out", Flag out) ∷ (codes "ref", reference_field target)
    ∷ (codes "stdin", Flag stdin) ∷ (codes "words", TextList is_full words) ∷ []
fields_of (Call.ExecStart id detach) = (codes "detach", Flag detach) ∷ (codes "id", reference_field id) ∷ op_field (codes "exec_start") ∷ []
fields_of (Call.ExecInspect id) = (codes "id", reference_field id) ∷ op_field (codes "exec_inspect") ∷ []
fields_of (Call.VolumeCreate new labels) =
    (codes "labels", LabelPairs labels) ∷ (codes "name", TextOrNone is_volume_name (Some new)) ∷ op_field (codes "volume_create") ∷ []
fields_of (Call.VolumeInspect target) = volume_fields (codes "volume_inspect") target
fields_of (Call.VolumeRemove target) = volume_fields (codes "volume_remove") target
fields_of (Call.VolumeList filter) = (codes "filters", FilterRows is_volume_key filter) ∷ op_field (codes "volume_list") ∷ []
fields_of (Call.Events since until filter) =
    (codes "filters", FilterRows is_event_key filter) ∷ op_field (codes "events") ∷ (codes "since", moment_field since)
    ∷ (codes "until", moment_field until) ∷ []
fields_of Call.JournalRead = op_field (codes "journal") ∷ []
fields_of (Call.Feed owner run bytes) = (codes "bytes", HexBytes bytes) ∷ feed_fields (codes "feed") owner run
fields_of (Call.FeedEnd owner run) = feed_fields (codes "feed_end") owner run
fields_of (Call.Take ticket) = ticket_fields (codes "take") ticket
fields_of (Call.Drop ticket) = ticket_fields (codes "drop") ticket

-- What no field tells alone: what is removed by itself is never restarted, and logs ask for at least one stream.
abbrev pub do_fields_agree : Call → Bool
do_fields_agree (Call.Create spec) = allows_auto_remove spec.policy spec.auto_remove
do_fields_agree (Call.Logs target ask) = ask.out || ask.err
do_fields_agree c = true
