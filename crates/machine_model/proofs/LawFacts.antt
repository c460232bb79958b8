-- Sentences of the public manuals beside the laws, each as a worked history in which a slip of the definitions shows.
use Rattle.std.specs.Prelude.{◌≡◌, ℕ, List, [], ◌∷◌, ◌++◌, Bool, true, false, not, ◌==◌, None, codes, refl, map, filter}
use Rattle.std.specs.Fmt.{digits}
use Rattle.rand_chacha.specs.Block.{quarter_round, column_round, diagonal_round, double_rounds, block_word}
use Rattle.rand_core.specs.Steps.{u32_at}
use Rattle.hex.specs.Hex.{encode_with}
use Rattle.proc_kernel.specs.Processes.{meet_waiting, meeting_order, is_frozen}
use Rattle.engine_text.specs.Id.{id_of, key_bytes}
use Rattle.machine_model.specs.Calls.Attach.{run_of}
use Rattle.machine_model.specs.Summary.{fold_of, inspect_summary}
use Rattle.machine_model.specs.LogStream.{is_kept, log_of}
use Rattle.machine_model.specs.Statuses.{is_status_of}
use Rattle.machine_model.proofs.Scenes.{web, at, dues, create, create_with, start, kill, final_state, events, actions, moments}
use Rattle.engine_text.specs.declared.call.Call.{Call}
use Rattle.engine_text.specs.declared.call.Until.TheVariants as Until
use Rattle.engine_text.specs.declared.owner.Owner.TheVariants as Owner
use Rattle.engine_text.specs.declared.policy.Policy.TheVariants as Policy
use Rattle.engine_text.specs.declared.step.Step.{Step}

-- ---- events determine inspect

-- name, whether it lives, whether it is paused, and code, of each row of the fold
abbrev pub rows : List Step → List (List ℕ × Bool × Bool × ℕ)
rows h = map (λ r. (r.name, r.live, r.paused, r.code)) (fold_of (events h))

-- the same of what inspect tells
abbrev pub inspected : List Step → List (List ℕ × Bool × Bool × ℕ)
inspected h = map (λ r. (r.name, r.live, r.paused, r.code)) (inspect_summary (final_state h))

-- a container that sleeps, and one that ends by itself
abbrev pub asleep : List Step
asleep = create (codes "sleep" ∷ codes "1000" ∷ []) ∷ start 0 ∷ Step.Due ∷ []

abbrev pub ended : List Step
ended = create (codes "exit" ∷ codes "255" ∷ []) ∷ start 0 ∷ Step.Due ∷ []

-- "Create a new container": it doesn't run yet
pub created_row : rows (create (codes "exit" ∷ codes "255" ∷ []) ∷ []) ≡ (web, false, false, 0) ∷ []
unfolding digits id_of key_bytes encode_with quarter_round column_round diagonal_round double_rounds block_word u32_at
created_row = refl

-- "ExitCode: the last exit code of this container"
pub ended_row : rows ended ≡ (web, false, false, 255) ∷ []
unfolding digits id_of key_bytes encode_with quarter_round column_round diagonal_round double_rounds block_word u32_at meet_waiting meeting_order
ended_row = refl

pub ended_inspected : inspected ended ≡ (web, false, false, 255) ∷ []
unfolding digits id_of key_bytes encode_with quarter_round column_round diagonal_round double_rounds block_word u32_at meet_waiting meeting_order
ended_inspected = refl

-- "Running: note that a running container can be paused"
pub paused_row : rows (asleep ++ at 10 (Call.Pause web) ∷ []) ≡ (web, true, true, 0) ∷ []
unfolding digits id_of key_bytes encode_with quarter_round column_round diagonal_round double_rounds block_word u32_at meet_waiting meeting_order
paused_row = refl

pub unpaused_row : rows (asleep ++ at 10 (Call.Pause web) ∷ at 20 (Call.Unpause web) ∷ []) ≡ (web, true, false, 0) ∷ []
unfolding digits id_of key_bytes encode_with quarter_round column_round diagonal_round double_rounds block_word u32_at meet_waiting meeting_order
unpaused_row = refl

-- "Rename a container": the row has the new name alone
pub renamed_row : rows (asleep ++ at 10 (Call.Rename web (codes "shop")) ∷ []) ≡ (codes "shop", true, false, 0) ∷ []
unfolding digits id_of key_bytes encode_with quarter_round column_round diagonal_round double_rounds block_word u32_at meet_waiting meeting_order
renamed_row = refl

-- a kill by a signal that the process ignores is told, and changes nothing that inspect shows
pub harmless_kill : (actions (asleep ++ kill 10 17 ∷ []) ≡ codes "create" ∷ codes "start" ∷ codes "kill 17" ∷ []) × (rows (asleep ++ kill 10 17 ∷ []) ≡ rows asleep)
unfolding digits id_of key_bytes encode_with quarter_round column_round diagonal_round double_rounds block_word u32_at meet_waiting meeting_order
harmless_kill = (refl, refl)

-- "Force the removal of a running container (uses SIGKILL)": the die and the destroy come in one step, and the row is gone
pub removed_row : (actions (asleep ++ at 10 (Call.Remove web true) ∷ []) ≡ codes "create" ∷ codes "start" ∷ codes "kill 9" ∷ codes "die 137" ∷ codes "destroy" ∷ [])
    × (rows (asleep ++ at 10 (Call.Remove web true) ∷ []) ≡ [])
unfolding digits id_of key_bytes encode_with quarter_round column_round diagonal_round double_rounds block_word u32_at meet_waiting meeting_order
removed_row = (refl, refl)

-- "always: always restart the container if it stops": each run is told by a start of its own
abbrev pub restarted : List Step
restarted = create_with (codes "exit" ∷ codes "3" ∷ []) Policy.Always ∷ start 0 ∷ dues 2

pub restarted_row : (actions restarted ≡ codes "create" ∷ codes "start" ∷ codes "die 3" ∷ codes "start" ∷ []) × (rows restarted ≡ (web, true, false, 0) ∷ [])
unfolding digits id_of key_bytes encode_with quarter_round column_round diagonal_round double_rounds block_word u32_at meet_waiting meeting_order
restarted_row = (refl, refl)

-- "RestartCount" counts the restarts of the policy
pub restart_counts : map (λ c. c.life.restarts) (final_state restarted).containers ≡ 1 ∷ []
unfolding digits id_of key_bytes encode_with quarter_round column_round diagonal_round double_rounds block_word u32_at meet_waiting meeting_order
restart_counts = refl

-- ---- every state is consistent

-- "docker pause suspends all processes in the specified containers"
pub all_suspended : map (λ e. is_frozen e.process.pace) (final_state (asleep ++ at 10 (Call.Pause web) ∷ [])).processes ≡ true ∷ []
unfolding digits id_of key_bytes encode_with quarter_round column_round diagonal_round double_rounds block_word u32_at meet_waiting meeting_order
all_suspended = refl

-- "Pid: the process ID of this container", 0 where none lives
pub process_ids : map (λ h. map (λ c. not (c.life.pid == 0)) (final_state h).containers) (asleep ∷ ended ∷ []) ≡ (true ∷ []) ∷ (false ∷ []) ∷ []
unfolding digits id_of key_bytes encode_with quarter_round column_round diagonal_round double_rounds block_word u32_at meet_waiting meeting_order
process_ids = refl

-- ---- moments never fall

-- the end of a sleep stands at its own moment, before a later call's
pub in_order_of_time : moments (asleep ++ Step.Due ∷ Step.Due ∷ at 2000 (Call.Start web) ∷ []) ≡ 0 ∷ 0 ∷ 1000 ∷ 2000 ∷ []
unfolding digits id_of key_bytes encode_with quarter_round column_round diagonal_round double_rounds block_word u32_at meet_waiting meeting_order
in_order_of_time = refl

-- ---- logs only grow

-- what the runs of a container wrote
abbrev pub logged : List Step → List (List ℕ)
logged h = map (λ r. r.payload) (log_of (final_state h) (Owner.Container 0))

abbrev pub echoed : List Step
echoed = create_with (codes "echo" ∷ codes "hi" ∷ []) Policy.Always ∷ start 0 ∷ dues 2

-- "docker logs fetches the logs of a container": a restart goes on where the last run ended
pub log_of_two_runs : map logged (echoed ∷ (echoed ++ dues 2) ∷ []) ≡ (codes "hi\n" ∷ []) ∷ (codes "hi\n" ∷ codes "hi\n" ∷ []) ∷ []
unfolding digits id_of key_bytes encode_with quarter_round column_round diagonal_round double_rounds block_word u32_at meet_waiting meeting_order
log_of_two_runs = refl

-- a removal keeps the log
pub log_outlives : (logged (echoed ++ at 10 (Call.Remove web true) ∷ []) ≡ codes "hi\n" ∷ []) × (is_kept (final_state (echoed ++ at 10 (Call.Remove web true) ∷ [])) (Owner.Container 0) ≡ true)
unfolding digits id_of key_bytes encode_with quarter_round column_round diagonal_round double_rounds block_word u32_at meet_waiting meeting_order
log_outlives = (refl, refl)

-- ---- each operation answers only its own

-- the statuses that the standard's operations know
abbrev pub known : List ℕ
known = 101 ∷ 200 ∷ 201 ∷ 204 ∷ 304 ∷ 400 ∷ 403 ∷ 404 ∷ 409 ∷ 500 ∷ 501 ∷ 503 ∷ []

abbrev pub answered : Call → List ℕ
answered c = filter (is_status_of c) known

-- "ContainerStart: 204 no error, 304 container already started, 404 no such container"; ContainerStop likewise; own: 400 for a
-- reference that fits several, 409 for a state in which it can't be
pub start_and_stop : map answered (Call.Start web ∷ Call.Stop web None None ∷ []) ≡ (204 ∷ 304 ∷ 400 ∷ 404 ∷ 409 ∷ []) ∷ (204 ∷ 304 ∷ 400 ∷ 404 ∷ 409 ∷ []) ∷ []
start_and_stop = refl

-- "ContainerRemove: 204 no error, 400 bad parameter, 404 no such container, 409 conflict"; ContainerPause, ContainerRename alike
pub changes_of_state : map answered (Call.Remove web false ∷ Call.Pause web ∷ Call.Rename web web ∷ Call.Restart web None None ∷ [])
    ≡ (204 ∷ 400 ∷ 404 ∷ 409 ∷ []) ∷ (204 ∷ 400 ∷ 404 ∷ 409 ∷ []) ∷ (204 ∷ 400 ∷ 404 ∷ 409 ∷ []) ∷ (204 ∷ 400 ∷ 404 ∷ 409 ∷ []) ∷ []
changes_of_state = refl

-- "ContainerInspect: 200, 404"; "ExecInspect: 200, 404"; "VolumeCreate: 201"; "VolumeDelete: 204, 404, 409"
pub looks : map answered (Call.Inspect web ∷ Call.ExecInspect web ∷ Call.VolumeCreate web [] ∷ Call.VolumeRemove web ∷ [])
    ≡ (200 ∷ 400 ∷ 404 ∷ []) ∷ (200 ∷ 404 ∷ []) ∷ (201 ∷ []) ∷ (204 ∷ 404 ∷ 409 ∷ []) ∷ []
looks = refl

-- "ContainerWait: 200", which its ticket hears when it is taken
pub waits : map answered (Call.Wait web Until.NotRunning ∷ Call.Take 0 ∷ []) ≡ (400 ∷ 404 ∷ []) ∷ (200 ∷ 204 ∷ 409 ∷ []) ∷ []
waits = refl

-- ---- an attach never follows run 0

-- the runs that attaches to the containers follow
abbrev pub followed : List Step → List ℕ
followed h = map run_of (final_state h).containers

-- one that can't be interrupted yet is being removed
abbrev pub leaving : List Step
leaving = create (codes "stuck" ∷ codes "30000" ∷ []) ∷ start 0 ∷ Step.Due ∷ at 0 (Call.Remove web true) ∷ []

-- "You can attach to the same container multiple times"; own: before its first run the first, while it runs that, in a restart's
-- delay the next, and of an exited, a removing and a dead one the last
pub followed_runs : map followed (
    (create (codes "exit" ∷ codes "255" ∷ []) ∷ [])
    ∷ asleep
    ∷ (create_with (codes "exit" ∷ codes "3" ∷ []) Policy.Always ∷ start 0 ∷ Step.Due ∷ [])
    ∷ ended
    ∷ leaving
    ∷ (leaving ++ Step.Due ∷ [])
    ∷ [])
    ≡ (1 ∷ []) ∷ (1 ∷ []) ∷ (2 ∷ []) ∷ (1 ∷ []) ∷ (1 ∷ []) ∷ (1 ∷ []) ∷ []
unfolding digits id_of key_bytes encode_with quarter_round column_round diagonal_round double_rounds block_word u32_at meet_waiting meeting_order
followed_runs = refl
