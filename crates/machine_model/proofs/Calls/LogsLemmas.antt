-- What logs obey.
use Rattle.std.proofs.Common.{ℕ, List, refl}
use Rattle.machine_model.specs.State.{State}
use Rattle.machine_model.specs.Chain.{still}
use Rattle.machine_model.specs.Outcome.{replies}
use Rattle.machine_model.specs.Call.{outcome_of}
use Rattle.machine_model.specs.Calls.Logs.{log_spec}
use Rattle.machine_model.proofs.ObeyLemmas.{Obeys, obeys_reply, obeys_at}
use Rattle.engine_text.specs.declared.call.Call.{Call}
use Rattle.engine_text.specs.declared.reply.Reply.{Reply}
use Rattle.engine_text.specs.declared.call.LogAsk.{LogAsk}

pub logs_obey : (target : List ℕ) (ask : LogAsk) (connection : ℕ) (s : State) → Obeys (Call.Logs target ask) s (outcome_of (Call.Logs target ask) connection s)
logs_obey target ask connection s =
    obeys_at (Call.Logs target ask) s target (λ c. replies (Reply.LogStream (log_spec ask c)) still) refl refl
    (λ c found. obeys_reply (Call.Logs target ask) s (Reply.LogStream (log_spec ask c)) refl)
