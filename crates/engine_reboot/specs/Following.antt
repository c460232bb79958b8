-- How a plan is followed (own: what is due comes before a call, and a drop is made at once).
use Rattle.std.specs.Prelude.{◌≡◌, ◌⊎◌, ℕ, IsTrue, List, [], ◌∷◌, ◌++◌}
use Rattle.engine_text.specs.Soundness.{is_full}
use Rattle.engine_text.specs.declared.step.Step.{Step}
use Rattle.engine_text.specs.declared.ticket.Ticket.{Ticket}
use Rattle.journal_lines.specs.Room.{HasRoom}
use Rattle.machine_model.specs.State.{State}
use Rattle.machine_model.specs.History.{Charter, DuesUntil, has_ticket, moment_used, state_after, state_from}
use Rattle.session_model.specs.Pass.{PassView}
use Rattle.session_model.specs.declared.turned.Turned.{Turned}
use Rattle.session_model.specs.declared.turned.Turned.TheVariants as turned
use Rattle.daemon_core.specs.Storing.{pass_of}
use Rattle.engine_reboot.specs.Planning.{call_of, caller_of, drops}
use Rattle.engine_reboot.specs.declared.planning.Planned.{Planned}
use Rattle.engine_reboot.specs.declared.planning.Planned.TheVariants.{Drop, Kill, Start}
use Rattle.engine_reboot.specs.declared.following.Followed.{Followed}
use Rattle.engine_reboot.specs.declared.following.Followed.TheVariants.{Whole, Full, NoMemory}

-- The moment of a planned call: a start stands at the moment that counts of the handed one, any other at that of the last step.
abbrev pub moment_of : State → ℕ → Planned → ℕ
moment_of s handed (Start id) = moment_used s handed
moment_of s handed planned = s.clock

-- What is made before it: all that is due by its moment; before a drop nothing.
abbrev pub ComesBefore : State → ℕ → Planned → List Step → Type 0
ComesBefore s handed (Drop ticket connection) dues = dues ≡ []
ComesBefore s handed planned dues = DuesUntil s (moment_of s handed planned) dues

-- It is made, there being room for it, by these steps: those that come before it, and its call.
pub record IsMadeBy (ch : Charter) (s : State) (handed : ℕ) (planned : Planned) (steps : List Step) : Type 0 where
  pub dues : List Step
  pub before : ComesBefore s handed planned dues
  pub room : HasRoom ch (state_from s dues) (call_of planned)
  pub steps_are : steps ≡ dues ++ Step.Call (caller_of planned) (moment_of s handed planned) (call_of planned) ∷ []

-- There is no room for it behind what comes before it.
abbrev pub FindsNoRoom : Charter → State → ℕ → Planned → Type 0
FindsNoRoom ch s handed planned =
    (dues : List Step) × ComesBefore s handed planned dues × (HasRoom ch (state_from s dues) (call_of planned) → ⊥)

-- These steps follow a plan from a state on: those of its first call, and behind them those of the others.
abbrev pub Follows : Charter → State → ℕ → List Planned → List Step → Type 0
Follows ch s handed [] steps = steps ≡ []
Follows ch s handed (p ∷ plan) steps =
    (first : List Step) × (rest : List Step) × (steps ≡ first ++ rest) × IsMadeBy ch s handed p first
    × Follows ch (state_from s first) handed plan rest

-- Up to a call without room: it is the first, or behind the first the plan lacks it.
abbrev pub LacksRoom : Charter → State → ℕ → List Planned → Type 0
LacksRoom ch s handed [] = ⊥
LacksRoom ch s handed (p ∷ plan) =
    FindsNoRoom ch s handed p
    ⊎ ((first : List Step) × IsMadeBy ch s handed p first × LacksRoom ch (state_from s first) handed plan)

-- Who had seen this much has seen that, where the plan was followed to its end; or a call had no room; want of memory is free.
abbrev pub FollowSays : ℕ → List Planned → Followed → PassView → PassView → Type 0
FollowSays handed plan Whole p q =
    (more : List Step) × Follows p.charter (state_after p.charter p.seen) handed plan more × (q ≡ pass_of p.charter (p.seen ++ more))
FollowSays handed plan Full p q = LacksRoom p.charter (state_after p.charter p.seen) handed plan
FollowSays handed plan NoMemory p q = Unit {0}

-- ---- on the way

-- A kill and a start are always ready.
abbrev pub IsEnded : Turned → Type 0
IsEnded turned.NotYet = ⊥
IsEnded turned.Nothing = ⊥
IsEnded t = Unit {0}

-- How far a plan of one call was followed, by what its turn came to.
abbrev pub how_far : Turned → Followed
how_far turned.JournalFull = Full
how_far turned.NoMemory = NoMemory
how_far t = Whole

-- The same of one planned call.
abbrev pub StepSays : ℕ → Planned → Followed → PassView → PassView → Type 0
StepSays handed planned Whole p q =
    (steps : List Step) × IsMadeBy p.charter (state_after p.charter p.seen) handed planned steps × (q ≡ pass_of p.charter (p.seen ++ steps))
StepSays handed planned Full p q = FindsNoRoom p.charter (state_after p.charter p.seen) handed planned
StepSays handed planned NoMemory p q = Unit {0}

-- A planned call can be made in a state: a drop of a ticket that stands, and any kill and start that names something.
abbrev pub CanBeMade : State → Planned → Type 0
CanBeMade s (Drop ticket connection) = IsTrue (has_ticket s connection ticket)
CanBeMade s (Kill id) = IsTrue (is_full id)
CanBeMade s (Start id) = IsTrue (is_full id)

-- Kills and starts alone.
abbrev pub IsNoDrop : Planned → Type 0
IsNoDrop (Drop ticket connection) = ⊥
IsNoDrop (Kill id) = IsTrue (is_full id)
IsNoDrop (Start id) = IsTrue (is_full id)

abbrev pub AreNoDrops : List Planned → Type 0
AreNoDrops [] = Unit {0}
AreNoDrops (p ∷ plan) = IsNoDrop p × AreNoDrops plan

-- The drops of these tickets are those of all that stand, as long as there is one.
abbrev pub Stand : State → List Ticket → Type 0
Stand s [] = Unit {0}
Stand s (t ∷ tickets) = drops s.tickets ≡ drops (t ∷ tickets)

-- A plan can be followed from a state on: it drops all that stand, in their order, and has no other drop.
pub record CanFollow (s : State) (plan : List Planned) : Type 0 where
  pub tickets : List Ticket
  pub others : List Planned
  pub plan_is : plan ≡ drops tickets ++ others
  pub stand : Stand s tickets
  pub calls : AreNoDrops others
