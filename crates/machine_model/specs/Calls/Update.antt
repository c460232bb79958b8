-- Update (Docker Engine API v1.43, ContainerUpdate; own: the answers by state).
use Rattle.std.specs.Prelude.{ℕ, List, Bool, true, false, not, Option, Some, None, codes}
use Rattle.engine_text.specs.Soundness.{allows_auto_remove}
use Rattle.machine_model.specs.State.{State}
use Rattle.machine_model.specs.Chain.{Effect, and_then, renew, tell_of}
use Rattle.machine_model.specs.EventTexts.{plain_event}
use Rattle.machine_model.specs.Outcome.{Outcome, replies, conflicts}
use Rattle.machine_model.specs.Refusals.{being_removed, dead, auto_remove_excludes}
use Rattle.engine_text.specs.declared.container.Container.{Container}
use Rattle.engine_text.specs.declared.event.Action.TheVariants.{Update}
use Rattle.engine_text.specs.declared.policy.Policy.{Policy}
use Rattle.engine_text.specs.declared.reply.Reply.TheVariants.{Answer}
use Rattle.engine_text.specs.declared.status.Status.{Status}
use Rattle.engine_text.specs.declared.status.Status.TheVariants.{Removing, Dead}
pub use Rattle.container_table.specs.LifeChanges.{governed}

-- The answer of an update.
abbrev pub updated : List ℕ
updated = codes "{\"Warnings\":[]}"

-- It has the policy; event update.
abbrev pub update : Option Policy → Container → State → Effect
update policy c = and_then (renew c.number (governed policy)) (tell_of (plain_event Update) c.number)

-- Whether the container is removed by itself, and the given policy would restart it.
abbrev pub is_excluded : Bool → Option Policy → Bool
is_excluded auto None = false
is_excluded auto (Some policy) = not (allows_auto_remove policy auto)

-- 409 where it is so.
abbrev pub by_excluded : Bool → Option Policy → Container → State → Outcome
by_excluded true policy c = conflicts auto_remove_excludes
by_excluded false policy c = replies (Answer 200 updated) (update policy c)

-- A container that stands is updated by this rule.
abbrev pub update_standing : Option Policy → Container → State → Outcome
update_standing policy c = by_excluded (is_excluded c.life.auto_remove policy) policy c

-- The answer by state.
abbrev pub by_status : Status → Option Policy → Container → State → Outcome
by_status Removing policy c = conflicts (being_removed c.id)
by_status Dead policy c = conflicts (dead c.id)
by_status _ policy c = update_standing policy c

-- By its status.
abbrev pub update_outcome : Option Policy → Container → State → Outcome
update_outcome policy c = by_status c.life.status policy c
