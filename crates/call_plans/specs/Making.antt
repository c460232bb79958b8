-- own: what a call that is made ready will do.
use Rattle.std.specs.Prelude.{◌≡◌, ℕ, List, [], Some}
use Rattle.engine_text.specs.declared.container.Container.{Container}
use Rattle.engine_text.specs.declared.reply.Reply.{Reply}
use Rattle.engine_text.specs.declared.reply.Reply.TheVariants.{Answer}
use Rattle.machine_model.specs.State.{State, container_numbered}
use Rattle.machine_model.specs.Outcome.{Outcome, at_reference}
use Rattle.machine_model.specs.Step.{at_moment}
use Rattle.container_table.specs.Logs.{container_in}
use Rattle.call_plans.specs.Needs.{Brings}
use Rattle.call_plans.specs.Plans.{plan_effect, need_of}
use Rattle.call_plans.specs.declared.lookup.Looked.{Looked}
use Rattle.call_plans.specs.declared.plan.Plan.{Plan}
use Rattle.call_plans.specs.declared.prepared.Prepared.{Prepared}

-- An answer that changes nothing.
pub record IsAnswer (at status : ℕ) (body : List ℕ) (p : Prepared) : Type 0 where
  pub moment : p.moment ≡ at
  pub reply : p.reply ≡ Answer status body
  pub events : p.events.items ≡ []
  pub plan : p.plan ≡ Plan.Nothing

-- A stream that changes nothing, by the reply that gives it.
pub record IsStream (at : ℕ) (given : Reply) (p : Prepared) : Type 0 where
  pub moment : p.moment ≡ at
  pub reply : p.reply ≡ given
  pub events : p.events.items ≡ []
  pub plan : p.plan ≡ Plan.Nothing

-- It stands at the moment, and is that outcome there.
pub record Makes (p : Prepared) (t : ℕ) (s : State) (f : State → Outcome) : Type 0 where
  pub moment : p.moment ≡ t
  pub effect : plan_effect p.plan (at_moment t s) ≡ (f (at_moment t s)).effect
  pub events : p.events.items ≡ (f (at_moment t s)).effect.events
  pub reply : p.reply ≡ (f (at_moment t s)).reply
  pub brings : Brings (need_of p.plan) t s

-- A container that a reference names, or the answer that there is none.
abbrev pub IsLooked : Looked → ℕ → List ℕ → State → Type 0
IsLooked (Looked.Stands h) t target s =
    (container_numbered h.now.container.number s ≡ Some (container_in h.now))
    × ((f : Container → State → Outcome) → at_reference target f (at_moment t s) ≡ f (container_in h.now) (at_moment t s))
IsLooked (Looked.Refused p) t target s = (f : Container → State → Outcome) → Makes p t s (at_reference target f)
