-- What a probe comes to: its script run from its spawn, without input, with the room of an exec (own).
use Rattle.std.specs.Prelude.{ℕ, zero, suc, ◌≡◌, ◌≤◌, ◌+◌, ◌*◌, ◌==◌, ◌⊎◌, nat_le, false, if◌then◌else◌, Option, Some, None}
use Rattle.engine_text.specs.Scripts.{Program, most_ops}
use Rattle.engine_text.specs.declared.script.Effect.{Effect}
use Rattle.engine_text.specs.declared.script.Effect.TheVariants.{Lives, Wrote, Ended}
use Rattle.engine_text.specs.declared.health.HealthSpec.{HealthSpec}
use Rattle.proc_kernel.specs.Catalogue.{program_of}
use Rattle.proc_kernel.specs.Processes.{Process, ProcessStep, spawn, run_due, next_due}
use Rattle.health_watch.specs.declared.outcome.Outcome.{Outcome}

-- how far a process has come: it stands so at a moment, or it ended then with that code
pub data Course : Type 0 where
  Goes : ℕ → Process → Course
  Over : ℕ → ℕ → Course

-- behind a step at that moment
abbrev pub course_by : ℕ → Process → Effect → Course
course_by m p Lives = Goes m p
course_by m p (Wrote stream payload) = Goes m p
course_by m p (Ended code) = Over m code

abbrev pub course_behind : ℕ → ProcessStep → Course
course_behind m s = course_by m s.process s.effect

-- one op more, where one is due
abbrev pub onward_by : Option ℕ → ℕ → Process → Course
onward_by None t p = Goes t p
onward_by (Some m) t p = course_behind m (run_due m p)

abbrev pub onward : Course → Course
onward (Goes t p) = onward_by (next_due p) t p
onward (Over m code) = Over m code

-- so many ops more
abbrev pub onwards : ℕ → Course → Course
onwards zero c = c
onwards (suc n) c = onward (onwards n c)

-- the process that a script begins at moment 0, which may write 1,048,576 bytes
abbrev pub probe_process : Program → Process
probe_process program = spawn program 0 false 1048576

-- where it has come to behind so many ops
abbrev pub course : ℕ → Program → Course
course n program = onwards n (Goes 0 (probe_process program))

-- the script ends, so many milliseconds behind its spawn, with that code
abbrev pub EndsSo : Program → ℕ → ℕ → Type 0
EndsSo program length code = (n : ℕ) × (course n program ≡ Over length code)

-- a probe that is late fails at the timeout
abbrev pub late : ℕ → Outcome
late timeout = record { passes = false; after = timeout }

-- of a script that ends in time its code decides; else the result comes at the timeout; words that name no program fail at once
abbrev pub IsOutcomeOf : Option Program → ℕ → Outcome → Type 0
IsOutcomeOf None timeout o = o ≡ record { passes = false; after = 0 }
IsOutcomeOf (Some program) timeout o =
    ((length : ℕ) × (code : ℕ) × EndsSo program length code × (length ≤ timeout) × (o ≡ record { passes = code == 0; after = length }))
    ⊎ (((length code : ℕ) → EndsSo program length code → length ≤ timeout → ⊥) × (o ≡ late timeout))

-- ---- the outcome as a function

-- what is known of it from where the process has come to
abbrev pub outcome_by : ℕ → Course → Outcome
outcome_by timeout (Goes t p) = late timeout
outcome_by timeout (Over length code) =
    if nat_le length timeout then record { passes = code == 0; after = length } else late timeout

-- behind so many ops a script of the catalogue is past the timeout, unless it has ended or waits for good
abbrev pub most_steps : ℕ → ℕ
most_steps timeout = most_ops * (timeout + 1)

-- what a probe of that program comes to
unfoldable pub outcome_of : Option Program → ℕ → Outcome
outcome_of None timeout = record { passes = false; after = 0 }
outcome_of (Some program) timeout = outcome_by timeout (course (most_steps timeout) program)

-- what the probe of a check comes to that has that number in its run
unfoldable pub probe_of : HealthSpec → ℕ → Outcome
probe_of spec k = outcome_of (program_of spec.words k) spec.timeout
