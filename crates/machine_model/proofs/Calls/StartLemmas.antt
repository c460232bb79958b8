-- What a start obeys.
use Rattle.std.proofs.Common.{◌≡◌, ℕ, List, [], Option, Some, None, refl}
use Rattle.proc_kernel.specs.Catalogue.{program_of}
use Rattle.engine_text.specs.Scripts.{Program}
use Rattle.machine_model.specs.State.{State, container_numbered}
use Rattle.machine_model.specs.Call.{outcome_of}
use Rattle.machine_model.specs.Outcome.{done}
use Rattle.machine_model.specs.Calls.Start.{if_program, by_status}
use Rattle.machine_model.specs.Effects.Launch.{launch_by_call}
use Rattle.machine_model.proofs.Fold.RowLemmas.{Same, Is}
use Rattle.machine_model.proofs.Fold.TellLemmas.{tells_from}
use Rattle.machine_model.proofs.ObeyLemmas.{Obeys, obeys_answer, obeys_found, obeys_at}
use Rattle.machine_model.proofs.Effects.LaunchLemmas.{Awake, awake_same, tells_launch_by_call}
use Rattle.machine_model.proofs.Effects.MeetLemmas.{awake_if}
use Rattle.engine_text.specs.declared.call.Call.{Call}
use Rattle.engine_text.specs.declared.container.Container.{Container}
use Rattle.engine_text.specs.declared.event.FoldRow.{FoldRow}
use Rattle.engine_text.specs.declared.reply.Reply.{Reply}
use Rattle.engine_text.specs.declared.status.Status.{Status}

ran : (target : List ℕ) (s : State) (c : Container) (o : Option Program) (u : Status) → container_numbered c.number s ≡ Some c → c.life.status ≡ u
    → ((r : FoldRow) (d : Container) → r.id ≡ d.id → Is c Same r d → Awake r d) → Obeys (Call.Start target) s (if_program o c.life.words (done (launch_by_call c.number)) s)
ran target s c None u found e awake = obeys_answer (Call.Start target) s 400 _ refl
ran target s c (Some program) u found e awake =
    obeys_found (Call.Start target) s c (Reply.Answer 204 []) (launch_by_call c.number) Awake found refl awake_same
    (λ h sound. tells_from awake (tells_launch_by_call c.number))

by : (target : List ℕ) (s : State) (c : Container) (u : Status) → container_numbered c.number s ≡ Some c → c.life.status ≡ u → Obeys (Call.Start target) s (by_status u c s)
by target s c Status.Created found e = ran target s c (program_of c.life.words 1) Status.Created found e (awake_if Status.Created c e refl)
by target s c Status.Exited found e = ran target s c (program_of c.life.words 1) Status.Exited found e (awake_if Status.Exited c e refl)
by target s c Status.Running found e = obeys_answer (Call.Start target) s 304 _ refl
by target s c Status.Paused found e = obeys_answer (Call.Start target) s 409 _ refl
by target s c Status.Restarting found e = obeys_answer (Call.Start target) s 304 _ refl
by target s c Status.Removing found e = obeys_answer (Call.Start target) s 409 _ refl
by target s c Status.Dead found e = obeys_answer (Call.Start target) s 409 _ refl

pub start_obeys : (target : List ℕ) (connection : ℕ) (s : State) → Obeys (Call.Start target) s (outcome_of (Call.Start target) connection s)
start_obeys target connection s =
    obeys_at (Call.Start target) s target (λ c. by_status c.life.status c) refl refl (λ c found. by target s c c.life.status found refl)
