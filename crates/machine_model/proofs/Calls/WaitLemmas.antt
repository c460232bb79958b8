-- What a wait obeys.
use Rattle.std.proofs.Common.{ℕ, List, refl}
use Rattle.machine_model.specs.State.{State}
use Rattle.machine_model.specs.Chain.{still}
use Rattle.machine_model.specs.Call.{outcome_of}
use Rattle.machine_model.specs.Tickets.{begins}
use Rattle.machine_model.proofs.Fold.RowLemmas.{Same}
use Rattle.machine_model.proofs.Fold.TellLemmas.{tells_from, tells_still}
use Rattle.machine_model.proofs.ObeyLemmas.{Obeys, obeys_ticket, obeys_at}
use Rattle.engine_text.specs.declared.call.Call.{Call}
use Rattle.engine_text.specs.declared.call.Until.{Until}
use Rattle.engine_text.specs.declared.ticket.Asked.TheVariants as Asked

pub wait_obeys : (target : List ℕ) (until : Until) (connection : ℕ) (s : State) → Obeys (Call.Wait target until) s (outcome_of (Call.Wait target until) connection s)
wait_obeys target until connection s =
    obeys_at (Call.Wait target until) s target (λ c. begins connection c (Asked.Wait until) still) refl refl
    (λ c found. obeys_ticket (Call.Wait target until) s connection c (Asked.Wait until) still Same found refl (λ r d id h. h)
    (λ h sound. tells_from (λ r d id h. h.1) tells_still))
