-- own: a feed or an end of input, made ready.
use Rattle.std.specs.Prelude.{◌≡◌, ℕ, [], Bool, true, false}
use Rattle.std.specs.Option.{option_map_or}
use Rattle.engine_text.specs.declared.owner.Owner.{Owner}
use Rattle.engine_text.specs.declared.owner.Owner.TheVariants.{Container as OfContainer, Exec as OfExec}
use Rattle.engine_text.specs.declared.reply.Reply.TheVariants.{Fed}
use Rattle.machine_model.specs.State.{State, container_numbered}
use Rattle.call_plans.specs.declared.plan.Plan.{Plan}
use Rattle.call_plans.specs.declared.prepared.Prepared.{Prepared}

-- Whether the end of what is sent is the end of the owner's input: that of an exec, and of a container with StdinOnce.
abbrev pub ends_input : Owner → State → Bool
ends_input (OfExec n) s = true
ends_input (OfContainer n) s = option_map_or (λ c. c.life.stdin_once) (container_numbered n s) false

-- What it does where it is so, and else.
abbrev pub end_plan : Bool → Owner → Plan
end_plan true owner = Plan.FeedEnd owner
end_plan false owner = Plan.Nothing

-- It is answered whether it was taken, without an event.
pub record IsFed (at : ℕ) (taken : Bool) (does : Plan) (p : Prepared) : Type 0 where
  pub moment : p.moment ≡ at
  pub reply : p.reply ≡ Fed taken
  pub events : p.events.items ≡ []
  pub plan : p.plan ≡ does
