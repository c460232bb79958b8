-- What an exec start and an exec inspect obey.
use Rattle.std.specs.Option.{option_map_or}
use Rattle.std.proofs.Common.{ℕ, ◌==◌, Bool, true, false, not, List, Option, Some, None, refl, codes, find, ◌&&◌, IsTrue}
use Rattle.engine_text.specs.Scripts.{Program}
use Rattle.engine_text.specs.Texts.{same_bytes}
use Rattle.proc_kernel.specs.Catalogue.{program_of}
use Rattle.machine_model.specs.State.{State, container_numbered, change_exec}
use Rattle.machine_model.specs.Chain.{change, with_found}
use Rattle.machine_model.specs.Outcome.{Outcome, replies, answers, refused}
use Rattle.machine_model.specs.Call.{outcome_of}
use Rattle.machine_model.specs.Effects.Launch.{spawn}
use Rattle.machine_model.specs.EventTexts.{exec_event}
use Rattle.machine_model.specs.Calls.Start.{if_program}
use Rattle.machine_model.specs.Calls.ExecCreate.{if_running}
use Rattle.machine_model.specs.Calls.ExecStart.{with_exec, exec_room, started, spawn_exec, start_reply, run, unless_started}
use Rattle.machine_model.specs.Statuses.{is_reply_of}
use Rattle.machine_model.specs.Views.{exec_body}
use Rattle.machine_model.proofs.Fold.RowLemmas.{Same}
use Rattle.machine_model.proofs.Fold.TellLemmas.{Tells, tells_then, tells_still, tells_quiet, tells_apart, HasByte}
use Rattle.machine_model.proofs.ObeyLemmas.{Obeys, obeys_answer, obeys_apart}
use Rattle.machine_model.proofs.Processes.ProgramCodeLemmas.{OfProgram, program_coded}
use Rattle.machine_model.proofs.Effects.LaunchLemmas.{tells_spawn}
use Rattle.machine_model.proofs.Calls.ExecCreateLemmas.{if_running_case}
use Rattle.machine_model.proofs.ChangeLemmas.{all_updated}
use Rattle.engine_text.specs.declared.call.Call.{Call}
use Rattle.engine_text.specs.declared.container.Container.{Container}
use Rattle.engine_text.specs.declared.owner.Owner.TheVariants.{Exec as OfExec}
use Rattle.engine_text.specs.declared.exec.Exec.{Exec}
use Rattle.engine_text.specs.declared.event.Action.TheVariants as Action
use Rattle.machine_model.specs.Refusals.{no_such_exec}

both_case : (k : Call) (s : State) (n : ℕ) (id : List ℕ) (f : Container → State → Outcome) (o : Option Container)
    → ((body : List ℕ) → Obeys k s (answers 404 body s)) → ((c : Container) → Obeys k s (f c s)) → Obeys k s (option_map_or f o (refused 404 (no_such_exec id)) s)
both_case k s n id f None refused one = refused _
both_case k s n id f (Some c) refused one = one c

exec_case : (k : Call) (s : State) (id : List ℕ) (f : Exec → Container → State → Outcome) (o : Option Exec)
    → ((body : List ℕ) → Obeys k s (answers 404 body s)) → ((x : Exec) (c : Container) → Obeys k s (f x c s)) → Obeys k s (with_exec o id f s)
exec_case k s id f None refused one = refused _
exec_case k s id f (Some x) refused one = both_case k s x.container id (f x) (container_numbered x.container s) refused (one x)

-- ---- start

tells_script : (o : Option Program) (stdin : Bool) (x : Exec) → OfProgram o → Tells 0 Same (with_found o (λ p. change (spawn (OfExec x.number) p stdin exec_room))) Same
tells_script None stdin x codes = tells_still
tells_script (Some p) stdin x codes = tells_spawn (OfExec x.number) p stdin exec_room codes

tells_spawn_exec : (o : Option Program) (detach : Bool) (x : Exec) → OfProgram o → Tells 0 Same (spawn_exec o detach x) Same
tells_spawn_exec o detach x codes =
    let starts : Tells 0 Same (change (λ s. change_exec x.number (started s) s)) Same = tells_apart (λ s. change_exec x.number (started s) s) (λ s. refl)
    (λ s fit. (fit.0, fit.1, fit.2, fit.3, fit.4, all_updated HasByte (λ y. y.number == x.number) (started s) (λ y h. h) s.execs fit.5)) in
    tells_then starts (tells_then (tells_script o (x.stdin && not detach) x codes) (tells_quiet x.container (exec_event Action.ExecStart x.id) (λ c t rs. refl)))

replied : (id : List ℕ) (detach : Bool) (x : Exec) → IsTrue (is_reply_of (Call.ExecStart id detach) (start_reply detach x))
replied id true x = refl
replied id false x = refl

ran : (id : List ℕ) (detach : Bool) (s : State) (x : Exec) (o : Option Program) → OfProgram o
    → Obeys (Call.ExecStart id detach) s (if_program o x.words (replies (start_reply detach x) (spawn_exec o detach x)) s)
ran id detach s x None codes = obeys_answer (Call.ExecStart id detach) s 400 _ refl
ran id detach s x (Some p) codes =
    obeys_apart (Call.ExecStart id detach) s (start_reply detach x) (spawn_exec (Some p) detach x) (λ h. replied id detach x) (λ sound. tells_spawn_exec (Some p) detach x codes)

unless : (id : List ℕ) (detach : Bool) (s : State) (x : Exec) (c : Container) (b : Bool) → Obeys (Call.ExecStart id detach) s (unless_started b id (if_running c.life.status c (run detach x)) s)
unless id detach s x c true = obeys_answer (Call.ExecStart id detach) s 409 _ refl
unless id detach s x c false =
    if_running_case (Call.ExecStart id detach) s c (run detach x) c.life.status (ran id detach s x (program_of x.words 1) (program_coded x.words 1))
    (λ body. obeys_answer (Call.ExecStart id detach) s 409 body refl)

pub exec_start_obeys : (id : List ℕ) (detach : Bool) (connection : ℕ) (s : State) → Obeys (Call.ExecStart id detach) s (outcome_of (Call.ExecStart id detach) connection s)
exec_start_obeys id detach connection s =
    exec_case (Call.ExecStart id detach) s id (λ x c. unless_started x.started id (if_running c.life.status c (run detach x))) (find (λ x. same_bytes x.id id) s.execs)
    (λ body. obeys_answer (Call.ExecStart id detach) s 404 body refl) (λ x c. unless id detach s x c x.started)

-- ---- inspect

pub exec_inspect_obeys : (id : List ℕ) (connection : ℕ) (s : State) → Obeys (Call.ExecInspect id) s (outcome_of (Call.ExecInspect id) connection s)
exec_inspect_obeys id connection s =
    exec_case (Call.ExecInspect id) s id (λ x c s. answers 200 (exec_body s c x) s) (find (λ x. same_bytes x.id id) s.execs)
    (λ body. obeys_answer (Call.ExecInspect id) s 404 body refl) (λ x c. obeys_answer (Call.ExecInspect id) s 200 _ refl)
