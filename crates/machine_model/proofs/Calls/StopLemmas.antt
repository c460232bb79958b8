-- What a stop obeys.
use Rattle.std.proofs.Common.{◌≡◌, ℕ, List, [], Option, Some, refl, ℤ}
use Rattle.machine_model.specs.State.{State, container_numbered}
use Rattle.machine_model.specs.Chain.{and_then, tell_of}
use Rattle.machine_model.specs.Call.{outcome_of}
use Rattle.machine_model.specs.EventTexts.{plain_event}
use Rattle.machine_model.specs.Effects.Cancel.{cancel_restart}
use Rattle.machine_model.specs.Effects.Halt.{halt}
use Rattle.machine_model.specs.Calls.Stop.{stopping, by_status}
use Rattle.machine_model.proofs.Fold.TellLemmas.{tells_then, tells_from, tells_quiet}
use Rattle.machine_model.proofs.ObeyLemmas.{Obeys, obeys_answer, obeys_found, obeys_ticket, obeys_at, both_true, low_used, low_own}
use Rattle.machine_model.proofs.Effects.LaunchLemmas.{Awake, awake_same}
use Rattle.machine_model.proofs.Effects.MeetLemmas.{awake_if}
use Rattle.machine_model.proofs.Effects.CancelLemmas.{tells_cancel}
use Rattle.machine_model.proofs.Effects.HaltLemmas.{tells_halt}
use Rattle.engine_text.specs.declared.call.Call.{Call}
use Rattle.engine_text.specs.declared.container.Container.{Container}
use Rattle.engine_text.specs.declared.reply.Reply.{Reply}
use Rattle.engine_text.specs.declared.status.Status.{Status}
use Rattle.engine_text.specs.declared.signal.Signal.{Signal}
use Rattle.engine_text.specs.declared.ticket.Asked.TheVariants as Asked
use Rattle.engine_text.specs.declared.event.Action.TheVariants as Action

stops : (target : List ℕ) (seconds : Option ℤ) (signal : Option Signal) (connection : ℕ) (s : State) (c : Container) → container_numbered c.number s ≡ Some c
    → (let k : Call = Call.Stop target seconds signal in Obeys k s (by_status Status.Running connection seconds signal c s))
stops target seconds signal connection s c found =
    obeys_ticket (Call.Stop target seconds signal) s connection c Asked.Stop (halt stopping seconds signal c) Awake found refl awake_same
    (λ h sound. tells_from (λ r d id h. h.1)
    (tells_halt stopping seconds signal c (λ l h. h) (λ d. refl) (low_used signal c (both_true _ _ sound).1 (low_own s c h.fit found))))

by : (target : List ℕ) (seconds : Option ℤ) (signal : Option Signal) (connection : ℕ) (s : State) (c : Container) (u : Status) → container_numbered c.number s ≡ Some c
    → c.life.status ≡ u → Obeys (Call.Stop target seconds signal) s (by_status u connection seconds signal c s)
by target seconds signal connection s c Status.Created found e = obeys_answer (Call.Stop target seconds signal) s 304 _ refl
by target seconds signal connection s c Status.Running found e = stops target seconds signal connection s c found
by target seconds signal connection s c Status.Paused found e = stops target seconds signal connection s c found
by target seconds signal connection s c Status.Restarting found e =
    obeys_found (Call.Stop target seconds signal) s c (Reply.Answer 204 []) (and_then (cancel_restart c.number) (tell_of (plain_event Action.Stop) c.number)) Awake found refl awake_same
    (λ h sound. tells_from (awake_if Status.Restarting c e refl) (tells_then (tells_cancel c.number) (tells_quiet c.number (plain_event Action.Stop) (λ c t rs. refl))))
by target seconds signal connection s c Status.Removing found e = obeys_answer (Call.Stop target seconds signal) s 409 _ refl
by target seconds signal connection s c Status.Exited found e = obeys_answer (Call.Stop target seconds signal) s 304 _ refl
by target seconds signal connection s c Status.Dead found e = obeys_answer (Call.Stop target seconds signal) s 304 _ refl

pub stop_obeys : (target : List ℕ) (seconds : Option ℤ) (signal : Option Signal) (connection : ℕ) (s : State)
    → Obeys (Call.Stop target seconds signal) s (outcome_of (Call.Stop target seconds signal) connection s)
stop_obeys target seconds signal connection s =
    obeys_at (Call.Stop target seconds signal) s target (λ c. by_status c.life.status connection seconds signal c) refl refl
    (λ c found. by target seconds signal connection s c c.life.status found refl)
