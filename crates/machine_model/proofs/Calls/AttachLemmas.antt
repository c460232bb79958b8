-- What an attach obeys.
use Rattle.std.proofs.Common.{ℕ, List, refl}
use Rattle.machine_model.specs.State.{State}
use Rattle.machine_model.specs.Chain.{tell_of}
use Rattle.machine_model.specs.Outcome.{replies}
use Rattle.machine_model.specs.Call.{outcome_of}
use Rattle.machine_model.specs.EventTexts.{plain_event}
use Rattle.machine_model.specs.Calls.Attach.{attach_spec}
use Rattle.machine_model.proofs.Fold.RowLemmas.{Same}
use Rattle.machine_model.proofs.Fold.TellLemmas.{tells_from, tells_quiet}
use Rattle.machine_model.proofs.ObeyLemmas.{Obeys, obeys_found, obeys_at}
use Rattle.engine_text.specs.declared.call.Call.{Call}
use Rattle.engine_text.specs.declared.reply.Reply.{Reply}
use Rattle.engine_text.specs.declared.call.AttachAsk.{AttachAsk}
use Rattle.engine_text.specs.declared.event.Action.TheVariants as Action

pub attach_obeys : (target : List ℕ) (ask : AttachAsk) (connection : ℕ) (s : State) → Obeys (Call.Attach target ask) s (outcome_of (Call.Attach target ask) connection s)
attach_obeys target ask connection s =
    obeys_at (Call.Attach target ask) s target (λ c. replies (Reply.LogStream (attach_spec ask c)) (tell_of (plain_event Action.Attach) c.number)) refl refl
    (λ c found. obeys_found (Call.Attach target ask) s c (Reply.LogStream (attach_spec ask c)) (tell_of (plain_event Action.Attach) c.number) Same found refl (λ r d id h. h)
    (λ h sound. tells_from (λ r d id h. h.1) (tells_quiet c.number (plain_event Action.Attach) (λ c t rs. refl))))
