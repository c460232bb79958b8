-- What a step changes of a container's life (Docker Engine API v1.43, ContainerState; own: the goal, the delay and what was done by hand).
use Rattle.std.specs.Prelude.{ℕ, ◌+◌, true, false, Option, Some, unwrap_or}
use Rattle.engine_text.specs.declared.container.Container.{Container}
use Rattle.engine_text.specs.declared.container.Goal.{Goal}
use Rattle.engine_text.specs.declared.container.Life.{Life}
use Rattle.engine_text.specs.declared.policy.Policy.{Policy}
use Rattle.engine_text.specs.declared.status.Status.{Status}
use Rattle.container_table.specs.declared.life_change.LifeChange.{LifeChange}

-- ---- a life with one thing changed

-- The manual flag is on.
abbrev pub by_hand : Life → Life
by_hand l = record l { manual = true }

-- Status running.
abbrev pub running : Life → Life
running l = record l { status = Status.Running }

-- Status paused.
abbrev pub paused : Life → Life
paused l = record l { status = Status.Paused }

-- Status exited.
abbrev pub exited : Life → Life
exited l = record l { status = Status.Exited }

-- Status exited, and the manual flag is on.
abbrev pub cancelled : Life → Life
cancelled l = record l { status = Status.Exited; manual = true }

-- Status dead.
abbrev pub died : Life → Life
died l = record l { status = Status.Dead }

-- Status removing.
abbrev pub removing : Life → Life
removing l = record l { status = Status.Removing }

-- The manual flag on, the goal Stop.
abbrev pub stopping : Life → Life
stopping l = record l { manual = true; goal = Goal.Stop }

-- The goal Restart.
abbrev pub to_restart : Life → Life
to_restart l = record l { goal = Goal.Restart }

-- The restart count 0, the delay 0, the manual flag off, the goal None.
abbrev pub afresh : Life → Life
afresh l = record l { restarts = 0; delay = 0; manual = false; goal = Goal.None }

-- No goal.
abbrev pub no_goal : Life → Life
no_goal l = record l { goal = Goal.None }

-- The goal Remove.
abbrev pub to_remove : Life → Life
to_remove l = record l { goal = Goal.Remove }

-- So many restarts.
abbrev pub counted : ℕ → Life → Life
counted count l = record l { restarts = count }

-- Status restarting, with that delay.
abbrev pub restarting : ℕ → Life → Life
restarting delay l = record l { status = Status.Restarting; delay = delay }

-- The code, FinishedAt and no process id.
abbrev pub ended : ℕ → ℕ → Life → Life
ended code moment l = record l { code = code; finished = Some moment; pid = 0 }

-- The given restart policy in the place of the old one, which stands where none is given.
abbrev pub governed : Option Policy → Life → Life
governed policy l = record l { policy = unwrap_or policy l.policy }

-- One start more, with that process id and at that moment: status running, code 0.
abbrev pub launched : ℕ → ℕ → Life → Life
launched pid moment l =
    record l { starts = l.starts + 1; status = Status.Running; code = 0; started = Some moment; pid = pid }

-- ---- by what a step asks of the table

-- The life with that change.
abbrev pub changed : LifeChange → Life → Life
changed LifeChange.ByHand = by_hand
changed LifeChange.Running = running
changed LifeChange.Paused = paused
changed LifeChange.Exited = exited
changed LifeChange.Cancelled = cancelled
changed LifeChange.Died = died
changed LifeChange.Removing = removing
changed LifeChange.Stopping = stopping
changed LifeChange.ToRestart = to_restart
changed LifeChange.Afresh = afresh
changed LifeChange.NoGoal = no_goal
changed LifeChange.ToRemove = to_remove
changed (LifeChange.Restarted count) = counted count
changed (LifeChange.Waiting delay) = restarting delay
changed (LifeChange.Ended code moment) = ended code moment
changed (LifeChange.Governed policy) = governed policy

-- The container with its life changed so.
abbrev pub with_change : LifeChange → Container → Container
with_change change c = record c { life = changed change c.life }

-- The container with one start more.
abbrev pub with_launch : ℕ → ℕ → Container → Container
with_launch pid moment c = record c { life = launched pid moment c.life }
