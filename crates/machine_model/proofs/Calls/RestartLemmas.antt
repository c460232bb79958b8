-- What a restart obeys.
use Rattle.std.proofs.Common.{◌≡◌, ℕ, List, [], Option, Some, None, refl, ℤ}
use Rattle.proc_kernel.specs.Catalogue.{program_of}
use Rattle.engine_text.specs.Scripts.{Program}
use Rattle.machine_model.specs.State.{State, container_numbered}
use Rattle.machine_model.specs.Chain.{and_then}
use Rattle.machine_model.specs.Call.{outcome_of}
use Rattle.machine_model.specs.EventTexts.{plain_event}
use Rattle.machine_model.specs.Outcome.{done}
use Rattle.machine_model.specs.Effects.Cancel.{cancel_restart}
use Rattle.machine_model.specs.Effects.Halt.{halt}
use Rattle.machine_model.specs.Calls.Start.{if_program}
use Rattle.machine_model.specs.Calls.Restart.{to_restart, launch_again, by_status}
use Rattle.machine_model.proofs.Fold.RowLemmas.{Same, Is}
use Rattle.machine_model.proofs.Fold.TellLemmas.{Tells, tells_then, tells_from, tells_quiet}
use Rattle.machine_model.proofs.ObeyLemmas.{Obeys, obeys_answer, obeys_found, obeys_ticket, obeys_at, both_true, low_used, low_own}
use Rattle.machine_model.proofs.Effects.LaunchLemmas.{Awake, awake_same, tells_launch_by_call}
use Rattle.machine_model.proofs.Effects.MeetLemmas.{awake_if}
use Rattle.machine_model.proofs.Effects.CancelLemmas.{tells_cancel}
use Rattle.machine_model.proofs.Effects.HaltLemmas.{tells_halt}
use Rattle.engine_text.specs.declared.call.Call.{Call}
use Rattle.engine_text.specs.declared.container.Container.{Container}
use Rattle.engine_text.specs.declared.event.FoldRow.{FoldRow}
use Rattle.engine_text.specs.declared.reply.Reply.{Reply}
use Rattle.engine_text.specs.declared.status.Status.{Status}
use Rattle.engine_text.specs.declared.signal.Signal.{Signal}
use Rattle.engine_text.specs.declared.ticket.Asked.TheVariants as Asked
use Rattle.engine_text.specs.declared.event.Action.TheVariants as Action

tells_again : (n : ℕ) → Tells n Awake (launch_again n) Awake
tells_again n = tells_then (tells_launch_by_call n) (tells_quiet n (plain_event Action.Restart) (λ c t rs. refl))

ran : (k : Call) (target : List ℕ) (seconds : Option ℤ) (signal : Option Signal) (s : State) (c : Container) (o : Option Program) → k ≡ Call.Restart target seconds signal → container_numbered c.number s ≡ Some c
    → ((r : FoldRow) (d : Container) → r.id ≡ d.id → Is c Same r d → Awake r d)
    → Obeys (Call.Restart target seconds signal) s (if_program o c.life.words (done (launch_again c.number)) s)
ran k target seconds signal s c None is found awake = obeys_answer (Call.Restart target seconds signal) s 400 _ refl
ran k target seconds signal s c (Some program) is found awake =
    obeys_found (Call.Restart target seconds signal) s c (Reply.Answer 204 []) (launch_again c.number) Awake found refl awake_same
    (λ h sound. tells_from awake (tells_again c.number))

halts : (target : List ℕ) (seconds : Option ℤ) (signal : Option Signal) (connection : ℕ) (s : State) (c : Container) → container_numbered c.number s ≡ Some c
    → Obeys (Call.Restart target seconds signal) s (by_status Status.Running connection seconds signal c s)
halts target seconds signal connection s c found =
    obeys_ticket (Call.Restart target seconds signal) s connection c Asked.Restart (halt to_restart seconds signal c) Awake found refl awake_same
    (λ h sound. tells_from (λ r d id h. h.1)
    (tells_halt to_restart seconds signal c (λ l h. h) (λ d. refl) (low_used signal c (both_true _ _ sound).1 (low_own s c h.fit found))))

by : (target : List ℕ) (seconds : Option ℤ) (signal : Option Signal) (connection : ℕ) (s : State) (c : Container) (u : Status) → container_numbered c.number s ≡ Some c
    → c.life.status ≡ u → Obeys (Call.Restart target seconds signal) s (by_status u connection seconds signal c s)
by target seconds signal connection s c Status.Created found e = ran _ target seconds signal s c (program_of c.life.words 1) refl found (awake_if Status.Created c e refl)
by target seconds signal connection s c Status.Exited found e = ran _ target seconds signal s c (program_of c.life.words 1) refl found (awake_if Status.Exited c e refl)
by target seconds signal connection s c Status.Running found e = halts target seconds signal connection s c found
by target seconds signal connection s c Status.Paused found e = halts target seconds signal connection s c found
by target seconds signal connection s c Status.Restarting found e =
    obeys_found (Call.Restart target seconds signal) s c (Reply.Answer 204 []) (and_then (cancel_restart c.number) (launch_again c.number)) Awake found refl awake_same
    (λ h sound. tells_from (awake_if Status.Restarting c e refl) (tells_then (tells_cancel c.number) (tells_again c.number)))
by target seconds signal connection s c Status.Removing found e = obeys_answer (Call.Restart target seconds signal) s 409 _ refl
by target seconds signal connection s c Status.Dead found e = obeys_answer (Call.Restart target seconds signal) s 409 _ refl

pub restart_obeys : (target : List ℕ) (seconds : Option ℤ) (signal : Option Signal) (connection : ℕ) (s : State)
    → Obeys (Call.Restart target seconds signal) s (outcome_of (Call.Restart target seconds signal) connection s)
restart_obeys target seconds signal connection s =
    obeys_at (Call.Restart target seconds signal) s target (λ c. by_status c.life.status connection seconds signal c) refl refl
    (λ c found. by target seconds signal connection s c c.life.status found refl)
