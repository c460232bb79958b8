-- Worked runs: containers that are removed by themselves, and policies that are given anew.
use Rattle.std.specs.Prelude.{◌≡◌, ℕ, List, [], ◌∷◌, true, Some, None, codes, refl, map}
use Rattle.std.specs.Fmt.{digits}
use Rattle.rand_chacha.specs.Block.{quarter_round, column_round, diagonal_round, double_rounds, block_word}
use Rattle.rand_core.specs.Steps.{u32_at}
use Rattle.hex.specs.Hex.{encode_with}
use Rattle.json.specs.Print.{escape_byte}
use Rattle.proc_kernel.specs.Processes.{meet_waiting, meeting_order}
use Rattle.engine_text.specs.Id.{id_of, key_bytes}
use Rattle.engine_text.specs.Moment.{moment_text, date_time_text, day_text, clock_text, place_of, year_of, month_of}
use Rattle.engine_text.specs.Signal.{signal_name}
use Rattle.machine_model.proofs.Scenes.{final_state, web, at, spec, dues, create_with, start, kill, actions, moments, states, statuses, tickets}
use Rattle.engine_text.specs.declared.call.Call.TheVariants as Call
use Rattle.engine_text.specs.declared.call.Until.TheVariants as Until
use Rattle.engine_text.specs.declared.reply.Reply.TheVariants as Reply
use Rattle.engine_text.specs.declared.policy.Policy.TheVariants as Policy
use Rattle.engine_text.specs.declared.step.Step.{Step}

abbrev pub create_passing : List (List ℕ) → Step
create_passing words = at 0 (Call.Create (record (spec words) { auto_remove = true }))

-- `sleep 100`, waited for until it is removed: the step of its end removes it, and answers
abbrev pub passes : List Step
passes = (
    create_passing (codes "sleep" ∷ codes "100" ∷ [])
    ∷ start 0
    ∷ Step.Due
    ∷ at 0 (Call.Wait web Until.Removed)
    ∷ dues 1)

pub its_end_removes_it : actions passes ≡ codes "create" ∷ codes "start" ∷ codes "die 0" ∷ codes "destroy" ∷ []
unfolding digits id_of key_bytes encode_with quarter_round column_round diagonal_round double_rounds block_word u32_at meet_waiting meeting_order
its_end_removes_it = refl

pub at_its_end : moments passes ≡ 0 ∷ 0 ∷ 100 ∷ 100 ∷ []
unfolding digits id_of key_bytes encode_with quarter_round column_round diagonal_round double_rounds block_word u32_at meet_waiting meeting_order
at_its_end = refl

pub the_wait_is_answered : tickets passes ≡ Some (Reply.Answer 200 (codes "{\"StatusCode\":0}")) ∷ []
unfolding digits id_of key_bytes encode_with quarter_round column_round diagonal_round double_rounds block_word u32_at meet_waiting meeting_order
the_wait_is_answered = refl

pub none_stands : states passes ≡ []
unfolding digits id_of key_bytes encode_with quarter_round column_round diagonal_round double_rounds block_word u32_at meet_waiting meeting_order
none_stands = refl

-- so with a stop, whose ticket is 204 by the removal, and with a kill
pub a_stop_removes_it : actions (create_passing (codes "deaf" ∷ []) ∷ start 0 ∷ Step.Due ∷ at 0 (Call.Stop web None (Some (record { number = 9 }))) ∷ [])
    ≡ codes "create" ∷ codes "start" ∷ codes "kill 9" ∷ codes "die 137" ∷ codes "stop" ∷ codes "destroy" ∷ []
unfolding digits id_of key_bytes encode_with quarter_round column_round diagonal_round double_rounds block_word u32_at meet_waiting meeting_order
a_stop_removes_it = refl

pub its_ticket : tickets (create_passing (codes "deaf" ∷ []) ∷ start 0 ∷ Step.Due ∷ at 0 (Call.Stop web None (Some (record { number = 9 }))) ∷ []) ≡ Some (Reply.Answer 204 []) ∷ []
unfolding digits id_of key_bytes encode_with quarter_round column_round diagonal_round double_rounds block_word u32_at meet_waiting meeting_order
its_ticket = refl

pub a_kill_removes_it : actions (create_passing (codes "deaf" ∷ []) ∷ start 0 ∷ Step.Due ∷ kill 0 9 ∷ [])
    ≡ codes "create" ∷ codes "start" ∷ codes "kill 9" ∷ codes "die 137" ∷ codes "destroy" ∷ []
unfolding digits id_of key_bytes encode_with quarter_round column_round diagonal_round double_rounds block_word u32_at meet_waiting meeting_order
a_kill_removes_it = refl

-- a restart doesn't
pub a_restart_keeps_it : states (create_passing (codes "deaf" ∷ []) ∷ start 0 ∷ Step.Due ∷ at 0 (Call.Restart web None (Some (record { number = 9 }))) ∷ []) ≡ codes "running" ∷ []
unfolding digits id_of key_bytes encode_with quarter_round column_round diagonal_round double_rounds block_word u32_at meet_waiting meeting_order
a_restart_keeps_it = refl

-- a policy that would restart it is refused, and `no` isn't
pub it_has_no_policy : statuses (create_passing (codes "deaf" ∷ []) ∷ start 0 ∷ at 0 (Call.Update web (Some Policy.Always)) ∷ at 0 (Call.Update web (Some Policy.No)) ∷ at 0 (Call.Update web None) ∷ [])
    ≡ 201 ∷ 204 ∷ 409 ∷ 200 ∷ 200 ∷ []
unfolding digits escape_byte id_of key_bytes encode_with quarter_round column_round diagonal_round double_rounds block_word u32_at moment_text date_time_text day_text clock_text place_of year_of month_of signal_name meet_waiting meeting_order
it_has_no_policy = refl

-- `exit 1` under `always`, given `no` while it waits for its restart: the timer stands, and it stays exited then
abbrev pub given_up : List Step
given_up = (
    create_with (codes "exit" ∷ codes "1" ∷ []) Policy.Always
    ∷ start 0
    ∷ Step.Due
    ∷ at 0 (Call.Update web (Some Policy.No))
    ∷ at 0 (Call.Wait web Until.NotRunning)
    ∷ dues 2)

pub it_is_restarted_once : map (λ c. c.life.restarts) (final_state given_up).containers ≡ 1 ∷ []
unfolding digits id_of key_bytes encode_with quarter_round column_round diagonal_round double_rounds block_word u32_at meet_waiting meeting_order
it_is_restarted_once = refl

pub it_stays : states given_up ≡ codes "exited" ∷ []
unfolding digits id_of key_bytes encode_with quarter_round column_round diagonal_round double_rounds block_word u32_at meet_waiting meeting_order
it_stays = refl

pub its_moments : moments given_up ≡ 0 ∷ 0 ∷ 0 ∷ 0 ∷ 100 ∷ 100 ∷ []
unfolding digits id_of key_bytes encode_with quarter_round column_round diagonal_round double_rounds block_word u32_at meet_waiting meeting_order
its_moments = refl

pub its_code : tickets given_up ≡ Some (Reply.Answer 200 (codes "{\"StatusCode\":1}")) ∷ []
unfolding digits id_of key_bytes encode_with quarter_round column_round diagonal_round double_rounds block_word u32_at meet_waiting meeting_order
its_code = refl
