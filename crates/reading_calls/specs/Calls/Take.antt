-- own: the end of a ticket, made ready.
use Rattle.std.specs.Prelude.{◌≡◌, ℕ, []}
use Rattle.engine_text.specs.declared.reply.Reply.{Reply}
use Rattle.call_plans.specs.declared.plan.Plan.{Plan}
use Rattle.call_plans.specs.declared.prepared.Prepared.{Prepared}

-- The ticket ends, with that reply and without an event.
pub record IsEnding (at : ℕ) (given : Reply) (ticket : ℕ) (p : Prepared) : Type 0 where
  pub moment : p.moment ≡ at
  pub reply : p.reply ≡ given
  pub events : p.events.items ≡ []
  pub plan : p.plan ≡ Plan.EndTicket ticket
