-- What becomes of a written history (own: a daemon that begins with it goes on with it).
use Rattle.std.specs.Prelude.{◌≡◌, ◌⊎◌, ℕ, IsTrue, List, ◌++◌, length}
use Rattle.engine_text.specs.declared.step.Step.{Step}
use Rattle.history_replay.specs.Legal.{journal_of, steps_told}
use Rattle.journal_lines.specs.Entries.{history_entries}
use Rattle.journal_lines.specs.Room.{has_places}
use Rattle.journal_lines.specs.Verdict.{IsVerdict}
use Rattle.journal_lines.specs.declared.format.Format.TheVariants.{Second}
use Rattle.journal_lines.specs.declared.verdict.Verdict.TheVariants.{Legal}
use Rattle.machine_model.specs.History.{Charter, IsLegal, state_after}
use Rattle.session_model.specs.Pass.{PassView}
use Rattle.daemon_core.specs.Passing.{whole_pass}
use Rattle.daemon_core.specs.Storing.{pass_of}
use Rattle.daemon_core.specs.declared.daemon.Daemon.{Daemon}
use Rattle.engine_reboot.specs.Planning.{reboot_plan}
use Rattle.engine_reboot.specs.Following.{Follows, FollowSays, LacksRoom}
use Rattle.engine_reboot.specs.Reopening.{next_connection}
use Rattle.engine_reboot.specs.Replaying.{IsWritten, IsRefused, IsOld}
use Rattle.engine_reboot.specs.declared.following.Followed.{Followed}
use Rattle.engine_reboot.specs.declared.rebooting.Rebooted.{Rebooted}
use Rattle.engine_reboot.specs.declared.rebooting.Rebooted.TheVariants.{Ready, Old, NotLegal, Full, NoMemory}

-- The entries of a history and the ends of the tickets that stand behind it have their places.
abbrev pub HasPlaces : Charter → List Step → Type 0
HasPlaces ch h = IsTrue (has_places ch.greatest (state_after ch h) 0)

-- The daemon goes on with the history: its own is that one and what follows the plan behind it, for all of which there was room. It is
-- legal, and its journal is called legal from its first line, whatever is given beside it.
pub record GoesOn (ch : Charter) (h : List Step) (handed : ℕ) (d : Daemon) : Type 0 where
  pub more : List Step
  pub places : HasPlaces ch h
  pub follows : Follows ch (state_after ch h) handed (reboot_plan (state_after ch h)) more
  pub holds : whole_pass d ≡ pass_of ch (h ++ more)
  pub legal : IsLegal ch (h ++ more)
  pub verdict : (given : Charter) → IsVerdict given (journal_of Second ch (h ++ more)) (Legal (steps_told ch (h ++ more)))

-- They haven't, or a call of the plan has none.
abbrev pub HasNoRoom : Charter → List Step → ℕ → Type 0
HasNoRoom ch h handed = (HasPlaces ch h → ⊥) ⊎ LacksRoom ch (state_after ch h) handed (reboot_plan (state_after ch h))

-- What is answered of a text: one case an answer, and want of memory is free.
abbrev pub RebootSays : List ℕ → ℕ → ℕ → Rebooted → Type 0
RebootSays text greatest handed (Ready d first) =
    (ch : Charter) × (h : List Step) × IsWritten text greatest ch h × GoesOn ch h handed d × (first ≡ next_connection h)
RebootSays text greatest handed Old = IsOld text
RebootSays text greatest handed (NotLegal v) = IsRefused text v
RebootSays text greatest handed (Full entries) =
    (ch : Charter) × (h : List Step) × IsWritten text greatest ch h × HasNoRoom ch h handed × (entries ≡ length (history_entries ch h))
RebootSays text greatest handed NoMemory = Unit {0}

-- ---- on the way

-- The plan was followed, read off the state behind all that was seen.
abbrev pub PlanSays : ℕ → Followed → PassView → PassView → Type 0
PlanSays handed result p q = FollowSays handed (reboot_plan (state_after p.charter p.seen)) result p q
