-- The classes of what each command asks are those of the table.
use Rattle.std.proofs.Common.{◌≡◌, ℕ, zero, suc, Bool, true, false, List, [], map, All, cond, codes, decimal, IsUtf8, Option, Some, None, refl, ◌∙◌}
use Rattle.std.specs.Prelude.{nat_lt}
use Rattle.std.specs.Option.{option_map_or}
use Rattle.percent_encoding.proofs.PercentLemmas.{IsByte}
use Rattle.response_reader.specs.Answers.{Answer, NoHead, Answered}
use Rattle.response_reader.specs.Heads.{first_in}
use Rattle.journal_lines.specs.declared.verdict.Verdict.{Verdict}
use Rattle.journal_lines.specs.declared.verdict.Verdict.TheVariants.{Legal, Illegal, BadLine}
use Rattle.event_ring.specs.Fold.{fold_of}
use Rattle.json_laws.specs.Pairs.{AreWordsUtf8}
use Rattle.client_model.specs.Judgement.{Judgement}
use Rattle.client_model.specs.Bodies.{id_in, status_code_in, container_lines_in, volume_names_in}
use Rattle.client_model.specs.Plans.{Plan, prints, prints_all, done, ends, fails, refuses, kept, by_answer, asks}
use Rattle.client_model.specs.Streams.{events_in, follows}
use Rattle.client_model.specs.declared.showing.Showing.TheVariants.{Kept, Copied, Demuxed}
use Rattle.client_model.specs.Client.{plan_of}
use Rattle.client_model.specs.Commands.Container.{create_request}
use Rattle.client_model.specs.Commands.Run.{run_plan, removes}
use Rattle.client_model.specs.Commands.Start.{start_request}
use Rattle.client_model.specs.Commands.Pause.{pause_request}
use Rattle.client_model.specs.Commands.Unpause.{unpause_request}
use Rattle.client_model.specs.Commands.Stop.{stop_request}
use Rattle.client_model.specs.Commands.Restart.{restart_request}
use Rattle.client_model.specs.Commands.Kill.{kill_request}
use Rattle.client_model.specs.Commands.Remove.{remove_request}
use Rattle.client_model.specs.Commands.Rename.{rename_request}
use Rattle.client_model.specs.Commands.Update.{update_request}
use Rattle.client_model.specs.Commands.List.{list_request}
use Rattle.client_model.specs.Commands.Inspect.{inspect_request}
use Rattle.client_model.specs.Commands.Version.{version_request}
use Rattle.client_model.specs.Commands.Logs.{logs_request}
use Rattle.client_model.specs.Commands.Attach.{attach_request}
use Rattle.client_model.specs.Commands.Exec.{exec_plan, exec_create_request, exec_start_request, exec_inspect_request, exit_code_in}
use Rattle.client_model.specs.Commands.Wait.{wait_request}
use Rattle.client_model.specs.Commands.Events.{events_request}
use Rattle.client_model.specs.Commands.Watch.{watched, watch_plan, row_line}
use Rattle.client_model.specs.Commands.VolumeCreate.{volume_create_request}
use Rattle.client_model.specs.Commands.VolumeInspect.{volume_inspect_request}
use Rattle.client_model.specs.Commands.VolumeRemove.{volume_remove_request}
use Rattle.client_model.specs.Commands.VolumeList.{volume_list_request}
use Rattle.client_model.specs.Commands.Journal.{journal_request}
use Rattle.client_model.specs.Commands.Replay.{legal_plan, verdict_plan, replay_plan}
use Rattle.client_model.specs.declared.command.NewContainer.{NewContainer}
use Rattle.client_model.specs.declared.command.Command.{Command}
use Rattle.client_model.specs.declared.command.Command.TheVariants as command
use Rattle.client_model.specs.declared.fault.Fault.TheVariants as F
use Rattle.client_laws.specs.Classes as class
use Rattle.client_laws.specs.Table.{Entry, alone, fed, if_whole, body_by, any_body, frames, once, then_by, run_calls, exec_calls, calls_of}
use Rattle.client_laws.proofs.CommandTexts.{IsContainer, HasTexts}
use Rattle.client_laws.proofs.ByteLemmas.{utf8-bytes}
use Rattle.client_laws.proofs.IdLemmas.{id-bytes}
use Rattle.client_laws.proofs.ClassLemmas.{literal, start-class, pause-class, unpause-class, stop-class, restart-class, kill-class, remove-class, rename-class, inspect-class, wait-class}
use Rattle.client_laws.proofs.StreamClassLemmas.{logs-class, attach-class, exec-start-class, exec-inspect-class, events-class, journal-class, list-class, version-class, volume-inspect-class, volume-remove-class, volume-list-class}
use Rattle.client_laws.proofs.BodyClassLemmas.{create-class, update-class, exec-create-class, volume-create-class}
use Rattle.client_laws.proofs.HealthLemmas.{health-calls}
use Rattle.client_laws.proofs.PlanLemmas.{entries, AsksNone, all-printed, asks-for, asks-calls, streams-calls, none-behind, asks-once, streams-once, read-goes, none-read, refused, same-entry}

-- ---- run

removed : (remove : Bool) (id : List ℕ) (code : ℕ) (verdict : Option Judgement) (answers : List Answer) → All IsByte id
    → entries (removes remove id (ends code)) verdict answers ≡ cond remove (once (class.remove id false)) []
removed true id code verdict answers bytes =
    asks-once (remove_request id false) Some (λ body. ends code) verdict (class.remove id false) (remove-class id false bytes) (λ body v a. refl) answers
removed false id code verdict answers bytes = refl

-- what is asked behind the start, behind the attach, and behind the wait
abbrev waits : Bool → List ℕ → Plan
waits remove id = asks (wait_request id) status_code_in (λ code. removes remove id (ends code))

abbrev wait_calls : Bool → List ℕ → List Answer → List Entry
wait_calls remove id = then_by (alone (class.wait id)) (body_by status_code_in) (λ code answers. cond remove (once (class.remove id false)) [])

abbrev attaches : Bool → Bool → List ℕ → Plan
attaches input remove id = follows (attach_request id input) input (waits remove id)

abbrev attach_calls : Bool → Bool → List ℕ → List Answer → List Entry
attach_calls input remove id = then_by (fed input (class.attach id input)) frames (λ streams. wait_calls remove id)

abbrev starts : Bool → Bool → List ℕ → Plan
starts input remove id = asks (start_request id) Some (λ body. attaches input remove id)

abbrev start_calls : Bool → Bool → List ℕ → List Answer → List Entry
start_calls input remove id = then_by (alone (class.start id)) any_body (λ body. attach_calls input remove id)

waited : (remove : Bool) (id : List ℕ) (verdict : Option Judgement) → All IsByte id → (answers : List Answer)
    → entries (waits remove id) verdict answers ≡ wait_calls remove id answers
waited remove id verdict bytes =
    asks-calls (wait_request id) status_code_in (λ code. removes remove id (ends code)) verdict (class.wait id)
    (λ code answers. cond remove (once (class.remove id false)) []) (wait-class id bytes) (λ code body found answers. removed remove id code verdict answers bytes)

attached : (input remove : Bool) (id : List ℕ) (verdict : Option Judgement) → All IsByte id → (answers : List Answer)
    → entries (attaches input remove id) verdict answers ≡ attach_calls input remove id answers
attached input remove id verdict bytes =
    streams-calls Demuxed (attach_request id input) input (waits remove id) verdict (class.attach id input)
    (wait_calls remove id) (attach-class id input bytes) (waited remove id verdict bytes)

started : (input remove : Bool) (id : List ℕ) (verdict : Option Judgement) → All IsByte id → (answers : List Answer)
    → entries (starts input remove id) verdict answers ≡ start_calls input remove id answers
started input remove id verdict bytes =
    asks-calls (start_request id) Some (λ body. attaches input remove id) verdict (class.start id)
    (λ body. attach_calls input remove id) (start-class id bytes) (λ body text found. attached input remove id verdict bytes)

run-calls : (c : NewContainer) (remove : Bool) (verdict : Option Judgement) → IsContainer c → (answers : List Answer)
    → entries (run_plan c remove) verdict answers ≡ run_calls c remove answers
run-calls c remove verdict h =
    asks-calls (create_request c) id_in (starts c.input remove) verdict (class.create c) (start_calls c.input remove) (create-class c h)
    (λ id body found. started c.input remove id verdict (id-bytes body id found))

-- ---- exec

abbrev inspects : List ℕ → Plan
inspects id = asks (exec_inspect_request id) exit_code_in (λ code. option_map_or ends code (fails F.NoCode))

inspected : (id : List ℕ) (verdict : Option Judgement) → All IsByte id → (answers : List Answer)
    → entries (inspects id) verdict answers ≡ once (class.exec_inspect id)
inspected id verdict bytes =
    asks-once (exec_inspect_request id) exit_code_in (λ code. option_map_or ends code (fails F.NoCode)) verdict (class.exec_inspect id)
    (exec-inspect-class id bytes) none
  where
    none : (code : Option ℕ) → AsksNone (option_map_or ends code (fails F.NoCode))
    none None verdict answers = refl
    none (Some code) verdict answers = refl

abbrev executes : Bool → List ℕ → Plan
executes input id = follows (exec_start_request id) input (inspects id)

abbrev execute_calls : Bool → List ℕ → List Answer → List Entry
execute_calls input id = then_by (fed input (class.exec_start id)) frames (λ streams answers. once (class.exec_inspect id))

executed : (input : Bool) (id : List ℕ) (verdict : Option Judgement) → All IsByte id → (answers : List Answer)
    → entries (executes input id) verdict answers ≡ execute_calls input id answers
executed input id verdict bytes =
    streams-calls Demuxed (exec_start_request id) input (inspects id) verdict (class.exec_start id)
    (λ answers. once (class.exec_inspect id)) (exec-start-class id bytes) (inspected id verdict bytes)

exec-calls : (target : List ℕ) (words : List (List ℕ)) (input : Bool) (verdict : Option Judgement) → IsUtf8 target → AreWordsUtf8 words
    → (answers : List Answer) → entries (exec_plan target words input) verdict answers ≡ exec_calls target words input answers
exec-calls target words input verdict t w =
    asks-calls (exec_create_request target words input) id_in (executes input) verdict (class.exec_create target words input) (execute_calls input)
    (exec-create-class target words input (utf8-bytes target t) w) (λ id body found. executed input id verdict (id-bytes body id found))

-- ---- watch

-- its events are shown, or it fails
watched-none : (first : Option ℕ) (body : List ℕ) (whole : Bool) → AsksNone (watched first body whole)
watched-none None body whole verdict answers = refl
watched-none (Some zero) body whole verdict answers =
    read-goes events_in (λ es. prints_all (map row_line (fold_of es)) done) body whole verdict answers (λ es. [])
    (λ es same. all-printed (map row_line (fold_of es)) verdict answers)
    ∙ none-read (if_whole whole (events_in body))
watched-none (Some (suc n)) body whole verdict answers = refl

watch-on : (answer : Answer) → AsksNone (by_answer (λ h body whole. watched (first_in h.form) body whole) answer)
watch-on NoHead verdict answers = refl
watch-on (Answered h body whole) verdict answers = by (nat_lt h.status 400)
  where
    by : (t : Bool) → entries (cond t (watched (first_in h.form) body whole) (refuses body whole)) verdict answers ≡ []
    by true = watched-none (first_in h.form) body whole verdict answers
    by false = refused whole body verdict answers

-- nothing is read to go on by
abbrev nothing_read : Answer → Option (List ℕ)
nothing_read answer = None

watch-calls : (until : List ℕ) (verdict : Option Judgement) → IsUtf8 until → (answers : List Answer)
    → entries (watch_plan until) verdict answers ≡ once (class.events (codes "0") until)
watch-calls until verdict utf8 answers =
    asks-for (kept (events_request (codes "0") until)) (λ h body whole. watched (first_in h.form) body whole) verdict (alone (class.events (codes "0") until))
    nothing_read (λ x answers. []) (same-entry (events_request (codes "0") until) false Kept (class.events (codes "0") until) (events-class (codes "0") until (literal (codes "0") refl) utf8)) (λ answer answers. watch-on answer verdict answers) answers
    ∙ none-behind (class.events (codes "0") until) nothing_read answers

-- ---- replay

legal-none : (upgrade : Bool) (new : List ℕ) (steps : ℕ) → AsksNone (legal_plan upgrade new steps)
legal-none true new steps verdict answers = refl
legal-none false new steps verdict answers = refl

judged-none : (upgrade : Bool) (new : List ℕ) (v : Verdict) → AsksNone (verdict_plan upgrade new v)
judged-none upgrade new (Legal steps) verdict answers = legal-none upgrade new steps verdict answers
judged-none upgrade new (Illegal line kept found) verdict answers = refl
judged-none upgrade new (BadLine line) verdict answers = refl

replay-none : (upgrade : Bool) (seed : List ℕ) (moment : ℕ) → AsksNone (replay_plan upgrade seed moment)
replay-none upgrade seed moment None answers = refl
replay-none upgrade seed moment (Some j) answers = judged-none upgrade j.upgrade j.verdict None answers

-- ---- the table

pub plan-calls : (c : Command) → HasTexts c → (verdict : Option Judgement) (answers : List Answer)
    → entries (plan_of c) verdict answers ≡ calls_of c answers
plan-calls (command.Create c) h verdict =
    asks-once (create_request c) id_in (λ id. prints id done) verdict (class.create c) (create-class c h) (λ id v a. refl)
plan-calls (command.Run c remove) h verdict = run-calls c remove verdict h
plan-calls (command.Start target) h verdict =
    asks-once (start_request target) Some (λ body. prints target done) verdict (class.start target) (start-class target (utf8-bytes target h)) (λ body v a. refl)
plan-calls (command.Pause target) h verdict =
    asks-once (pause_request target) Some (λ body. prints target done) verdict (class.pause target) (pause-class target (utf8-bytes target h)) (λ body v a. refl)
plan-calls (command.Unpause target) h verdict =
    asks-once (unpause_request target) Some (λ body. prints target done) verdict (class.unpause target) (unpause-class target (utf8-bytes target h)) (λ body v a. refl)
plan-calls (command.Stop target seconds) h verdict =
    asks-once (stop_request target seconds) Some (λ body. prints target done) verdict (class.stop target seconds)
    (stop-class target seconds (utf8-bytes target h.0) h.1) (λ body v a. refl)
plan-calls (command.Restart target seconds) h verdict =
    asks-once (restart_request target seconds) Some (λ body. prints target done) verdict (class.restart target seconds)
    (restart-class target seconds (utf8-bytes target h.0) h.1) (λ body v a. refl)
plan-calls (command.Kill target signal) h verdict =
    asks-once (kill_request target signal) Some (λ body. prints target done) verdict (class.kill target signal)
    (kill-class target signal (utf8-bytes target h.0) h.1) (λ body v a. refl)
plan-calls (command.Remove target force) h verdict =
    asks-once (remove_request target force) Some (λ body. prints target done) verdict (class.remove target force)
    (remove-class target force (utf8-bytes target h)) (λ body v a. refl)
plan-calls (command.Rename target name) h verdict =
    asks-once (rename_request target name) Some (λ body. prints target done) verdict (class.rename target name)
    (rename-class target name (utf8-bytes target h.0) h.1) (λ body v a. refl)
plan-calls (command.Update target restart) h verdict =
    asks-once (update_request target restart) Some (λ body. prints target done) verdict (class.update target restart)
    (update-class target restart (utf8-bytes target h.0) h.1) (λ body v a. refl)
plan-calls (command.List all) h verdict =
    asks-once (list_request all) container_lines_in (λ lines. prints_all lines done) verdict (class.containers all) (list-class all) all-printed
plan-calls (command.Inspect target) h verdict =
    asks-once (inspect_request target) Some (λ body. prints body done) verdict (class.inspect target) (inspect-class target (utf8-bytes target h)) (λ body v a. refl)
plan-calls command.Version h verdict =
    asks-once version_request Some (λ body. prints body done) verdict class.version version-class (λ body v a. refl)
plan-calls (command.Logs target follow) h verdict =
    streams-once Demuxed (logs_request target follow) done verdict (class.logs target follow)
    (logs-class target follow (utf8-bytes target h)) (λ v a. refl)
plan-calls (command.Attach target) h verdict =
    streams-once Demuxed (attach_request target false) done verdict (class.attach target false)
    (attach-class target false (utf8-bytes target h)) (λ v a. refl)
plan-calls (command.Exec target words input) h verdict = exec-calls target words input verdict h.0 h.1
plan-calls (command.Wait target) h verdict =
    asks-once (wait_request target) status_code_in (λ code. prints (decimal code) done) verdict (class.wait target)
    (wait-class target (utf8-bytes target h)) (λ code v a. refl)
plan-calls (command.Events since until) h verdict =
    streams-once Copied (events_request since until) done verdict (class.events since until)
    (events-class since until h.0 h.1) (λ v a. refl)
plan-calls (command.Watch until) h verdict = watch-calls until verdict h
plan-calls (command.Health until target) h verdict = health-calls until target verdict h.0 h.1
plan-calls (command.VolumeCreate name) h verdict =
    asks-once (volume_create_request name) Some (λ body. prints name done) verdict (class.volume_create name) (volume-create-class name h) (λ body v a. refl)
plan-calls (command.VolumeInspect name) h verdict =
    asks-once (volume_inspect_request name) Some (λ body. prints body done) verdict (class.volume_inspect name)
    (volume-inspect-class name (utf8-bytes name h)) (λ body v a. refl)
plan-calls (command.VolumeRemove name) h verdict =
    asks-once (volume_remove_request name) Some (λ body. prints name done) verdict (class.volume_remove name)
    (volume-remove-class name (utf8-bytes name h)) (λ body v a. refl)
plan-calls command.VolumeList h verdict =
    asks-once volume_list_request volume_names_in (λ names. prints_all names done) verdict class.volume_list volume-list-class all-printed
plan-calls command.Journal h verdict =
    streams-once Copied journal_request done verdict class.journal journal-class (λ v a. refl)
plan-calls (command.Replay upgrade seed moment) h verdict = replay-none upgrade seed moment verdict
