-- What an unpause obeys.
use Rattle.std.proofs.Common.{◌≡◌, ℕ, Bool, true, false, List, [], Some, refl}
use Rattle.api_json.specs.Status.{is_paused}
use Rattle.machine_model.specs.State.{State, container_numbered}
use Rattle.machine_model.specs.Call.{outcome_of}
use Rattle.machine_model.specs.Effects.Meet.{thaw_container}
use Rattle.machine_model.specs.Calls.Unpause.{if_paused, unpause_outcome}
use Rattle.machine_model.proofs.Fold.TellLemmas.{tells_from}
use Rattle.machine_model.proofs.ObeyLemmas.{Obeys, obeys_answer, obeys_found, obeys_at}
use Rattle.machine_model.proofs.Effects.LaunchLemmas.{Awake, awake_same}
use Rattle.machine_model.proofs.Effects.MeetLemmas.{tells_thaw}
use Rattle.engine_text.specs.declared.call.Call.{Call}
use Rattle.engine_text.specs.declared.container.Container.{Container}
use Rattle.engine_text.specs.declared.reply.Reply.{Reply}

by : (target : List ℕ) (s : State) (c : Container) (b : Bool) → container_numbered c.number s ≡ Some c → Obeys (Call.Unpause target) s (if_paused b c s)
by target s c true found =
    obeys_found (Call.Unpause target) s c (Reply.Answer 204 []) (thaw_container c.number) Awake found refl awake_same
    (λ h sound. tells_from (λ r d id h. h.1) (tells_thaw c.number))
by target s c false found = obeys_answer (Call.Unpause target) s 409 _ refl

pub unpause_obeys : (target : List ℕ) (connection : ℕ) (s : State) → Obeys (Call.Unpause target) s (outcome_of (Call.Unpause target) connection s)
unpause_obeys target connection s =
    obeys_at (Call.Unpause target) s target unpause_outcome refl refl (λ c found. by target s c (is_paused c.life.status) found)
