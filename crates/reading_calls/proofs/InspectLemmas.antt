-- The moments that inspect tells of a container are moments.
use Rattle.std.proofs.Common.{◌≡◌, ℕ, ◌≤◌, ◌==◌, Option, Some, None, arith}
use Rattle.engine_text.specs.Moment.{IsMoment}
use Rattle.engine_text.specs.declared.container.Container.{Container}
use Rattle.machine_model.specs.Consistency.{IsConsistent}
use Rattle.machine_model.specs.History.{greatest_moment}
use Rattle.machine_model.specs.Ranges.{HasPassed, IsPast}
use Rattle.machine_model.specs.State.{State, container_numbered}
use Rattle.machine_model.proofs.ObeyLemmas.{found_all}

-- a container's moments are past
past : (s : State) (n : ℕ) (c : Container) → IsConsistent s → container_numbered n s ≡ Some c → IsPast s.clock c.life
past s n c k found = found_all (λ (d : Container). IsPast s.clock d.life) (λ d. d.number == n) c s.containers found k.ranges.moments

until : (clock : ℕ) (o : Option ℕ) → clock ≤ greatest_moment → HasPassed clock o → IsMoment o
until clock None low h = tt
until clock (Some m) low h = omega (arith, low, h)

pub created_until : (s : State) (n : ℕ) (c : Container) → IsConsistent s → container_numbered n s ≡ Some c → c.life.created ≤ 9000000000000
created_until s n c k found = let by : c.life.created ≤ s.clock = (past s n c k found).0 in omega (arith, by, k.limits.clock)

pub started_until : (s : State) (n : ℕ) (c : Container) → IsConsistent s → container_numbered n s ≡ Some c → IsMoment c.life.started
started_until s n c k found = until s.clock c.life.started k.limits.clock (past s n c k found).1

pub finished_until : (s : State) (n : ℕ) (c : Container) → IsConsistent s → container_numbered n s ≡ Some c → IsMoment c.life.finished
finished_until s n c k found = until s.clock c.life.finished k.limits.clock (past s n c k found).2
