-- What each request of the client is for the daemon, by the words of its command: a call, or an answer at once (Docker
-- Engine API v1.43, the operations that the commands ask for; own: which words they take).
use Rattle.std.specs.Prelude.{ℕ, pos, List, [], ◌∷◌, Bool, true, false, Option, Some, None, unwrap_or, Result, Ok, Err, if◌then◌else◌}
use Rattle.std.specs.Str.{is_utf8}
use Rattle.engine_text.specs.Name.{is_name}
use Rattle.engine_text.specs.Policy.{read_policy}
use Rattle.engine_text.specs.declared.call.Call.TheVariants as call
use Rattle.engine_text.specs.declared.call.CreateSpec.{CreateSpec}
use Rattle.engine_text.specs.declared.call.LogAsk.{LogAsk}
use Rattle.engine_text.specs.declared.call.AttachAsk.{AttachAsk}
use Rattle.engine_text.specs.declared.call.Until.TheVariants.{NotRunning}
use Rattle.engine_text.specs.declared.filter.FilterKey.TheVariants as filterkey
use Rattle.engine_text.specs.declared.mounts.Mount.{Mount}
use Rattle.engine_text.specs.declared.policy.Policy.{Policy}
use Rattle.engine_text.specs.declared.policy.Policy.TheVariants.{No}
use Rattle.api_json.specs.Create.{sigterm}
use Rattle.api_json.specs.ExecCreate.{not_empty}
use Rattle.api_json.specs.HostConfig.{policy_or_fault}
use Rattle.api_json.specs.MountForms.{add_binds}
use Rattle.api_json.specs.Update.{given_policy}
use Rattle.api_json.specs.VolumeCreate.{volume_named}
use Rattle.api_json.specs.declared.fault.BodyFault.{BodyFault}
use Rattle.engine_text.specs.Soundness.{far}
use Rattle.api_routes.specs.Fault.{and_then}
use Rattle.api_routes.specs.Keys.{optional_name, optional_signal, kill_signal, optional_seconds, optional_time}
use Rattle.api_routes.specs.Calls.{of_body}
use Rattle.api_routes.specs.RouteClass.{fixed, version_body, ask, in_chunks}
use Rattle.api_routes.specs.declared.class.Class.{Class}
use Rattle.api_routes.specs.declared.class.Class.TheVariants.{Ask, Stream}
use Rattle.api_routes.specs.declared.class.DirectKind.TheVariants.{Json}
use Rattle.api_routes.specs.declared.class.Takeover.TheVariants as takes
use Rattle.api_routes.specs.declared.fault.Fault.{Fault}
use Rattle.api_routes.specs.declared.fault.Fault.TheVariants.{PageNotFound, BadPath, InvalidName}
use Rattle.client_model.specs.declared.command.NewContainer.{NewContainer}
use Rattle.client_model.specs.declared.command.Restart.{Restart}

-- a call, or the fault of a word
abbrev pub Meaning : Type 0
Meaning = Result Class Fault

-- what is asked by the name of a container, an exec or a volume: the empty word names nothing, and a name is a text
abbrev pub by_name : List ℕ → Meaning → Meaning
by_name [] meaning = Err PageNotFound
by_name (b ∷ bs) meaning = if is_utf8 (b ∷ bs) then meaning else Err BadPath

-- ---- create

-- the policy of POLICY and MAX, `no` where they aren't given
abbrev pub policy_in : Option Restart → Result Policy BodyFault
policy_in None = Ok No
policy_in (Some restart) = policy_or_fault (read_policy restart.policy (pos restart.most))

-- a container of these options and words; SIGTERM stops it, and SIGKILL ten seconds later
abbrev pub container_spec : NewContainer → List Mount → Policy → Option (List ℕ) → CreateSpec
container_spec c mounts policy name = record {
  name = name;
  image = c.image;
  words = c.words;
  policy = policy;
  stop_signal = sigterm;
  stop_after = pos 10;
  open_stdin = c.input;
  stdin_once = c.input;
  labels = [];
  mounts = mounts;
  auto_remove = false;
  health = None;
}

-- the volumes, then the policy, then the name must be ones that are taken
abbrev pub create : NewContainer → Meaning
create c =
    ask (and_then (of_body (add_binds [] c.binds)) (λ mounts.
    and_then (of_body (policy_in c.restart)) (λ policy.
    and_then (optional_name (unwrap_or c.name [])) (λ name.
    Ok (call.Create (container_spec c mounts policy name))))))

-- ---- one container

abbrev pub start : List ℕ → Meaning
start target = by_name target (Ok (Ask (call.Start target)))

abbrev pub pause : List ℕ → Meaning
pause target = by_name target (Ok (Ask (call.Pause target)))

abbrev pub unpause : List ℕ → Meaning
unpause target = by_name target (Ok (Ask (call.Unpause target)))

-- N is -1 or a number of seconds
abbrev pub stop : List ℕ → Option (List ℕ) → Meaning
stop target seconds =
    by_name target (ask (and_then (optional_seconds seconds) (λ wait. Ok (call.Stop target wait None))))

abbrev pub restart : List ℕ → Option (List ℕ) → Meaning
restart target seconds =
    by_name target (ask (and_then (optional_seconds seconds) (λ wait. Ok (call.Restart target wait None))))

-- SIG is a signal's number or name; SIGKILL where it isn't given
abbrev pub kill : List ℕ → Option (List ℕ) → Meaning
kill target signal =
    by_name target (ask (and_then (optional_signal (unwrap_or signal [])) (λ given.
    Ok (call.Kill target (unwrap_or given kill_signal)))))

abbrev pub remove : List ℕ → Bool → Meaning
remove target force = by_name target (Ok (Ask (call.Remove target force)))

abbrev pub rename : List ℕ → List ℕ → Meaning
rename target name =
    by_name target (if is_name name then Ok (Ask (call.Rename target name)) else Err (InvalidName name))

-- POLICY and MAX are a policy, which the container is given; the empty name without a maximum leaves it its own
abbrev pub update : List ℕ → Restart → Meaning
update target restart =
    by_name target (ask (and_then (of_body (given_policy restart.policy (pos restart.most))) (λ policy.
    Ok (call.Update target policy))))

abbrev pub inspect : List ℕ → Meaning
inspect target = by_name target (Ok (Ask (call.Inspect target)))

-- until it runs no more
abbrev pub wait : List ℕ → Meaning
wait target = by_name target (Ok (Ask (call.Wait target NotRunning)))

-- ---- output of a container

-- all records of both streams
abbrev pub all_records : Bool → LogAsk
all_records follow = record {
  follow = follow;
  out = true;
  err = true;
  stamps = false;
  tail = None;
  least = 0;
  greatest = far;
}

abbrev pub logs : List ℕ → Bool → Meaning
logs target follow = by_name target (Ok (Stream (call.Logs target (all_records follow)) takes.None))

-- both streams, what was written and what is written until the end
abbrev pub both_streams : Bool → AttachAsk
both_streams input = record { logs = true; stream = true; stdin = input; out = true; err = true }

abbrev pub attach : List ℕ → Bool → Meaning
attach target input = by_name target (Ok (Stream (call.Attach target (both_streams input)) takes.Upgrade))

-- ---- exec

-- both outputs are attached
abbrev pub exec_create : List ℕ → List (List ℕ) → Bool → Meaning
exec_create target words input =
    by_name target (ask (and_then (of_body (not_empty words)) (λ given.
    Ok (call.ExecCreate target given input true true))))

abbrev pub exec_start : List ℕ → Meaning
exec_start id = by_name id (Ok (Stream (call.ExecStart id false) takes.Upgrade))

abbrev pub exec_inspect : List ℕ → Meaning
exec_inspect id = by_name id (Ok (Ask (call.ExecInspect id)))

-- ---- volumes

abbrev pub volume_create : List ℕ → Meaning
volume_create name = ask (and_then (of_body (volume_named name)) (λ given. Ok (call.VolumeCreate given [])))

abbrev pub volume_inspect : List ℕ → Meaning
volume_inspect name = by_name name (Ok (Ask (call.VolumeInspect name)))

abbrev pub volume_remove : List ℕ → Meaning
volume_remove name = by_name name (Ok (Ask (call.VolumeRemove name)))

abbrev pub volume_list : Meaning
volume_list = Ok (Ask (call.VolumeList []))

-- ---- the daemon

abbrev pub containers : Bool → Meaning
containers all = Ok (Ask (call.List all None []))

abbrev pub version : Meaning
version = Ok (fixed version_body Json)

-- SINCE and UNTIL are times
abbrev pub events : List ℕ → List ℕ → Meaning
events since until =
    in_chunks (and_then (optional_time (Some since)) (λ from.
    and_then (optional_time (Some until)) (λ to.
    Ok (call.Events from to []))))

-- of one container, from the first on; UNTIL is a time
abbrev pub container_events : List ℕ → List ℕ → Meaning
container_events until id =
    in_chunks (and_then (optional_time (Some until)) (λ to.
    Ok (call.Events (Some 0) to (record { key = filterkey.Container; values = id ∷ [] } ∷ []))))

abbrev pub journal : Meaning
journal = Ok (Stream call.JournalRead takes.None)
