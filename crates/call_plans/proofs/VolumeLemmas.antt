-- What the calls of volumes make, and what they tell of volumes.
use Rattle.std.proofs.Common.{◌≡◌, ℕ, ◌≤◌, List, Some, arith}
use Rattle.engine_text.specs.Texts.{same_bytes}
use Rattle.engine_text.specs.declared.volume.Volume.{Volume}
use Rattle.machine_model.specs.Calls.Create.{volume_named}
use Rattle.machine_model.specs.Consistency.{IsConsistent}
use Rattle.machine_model.specs.State.{State}
use Rattle.machine_model.proofs.ObeyLemmas.{found_all}

pub made_until : (s : State) (name : List ℕ) (v : Volume) → IsConsistent s → volume_named name s ≡ Some v → v.created ≤ 9000000000000
made_until s name v k found =
    let by : v.created ≤ s.clock = found_all (λ (w : Volume). w.created ≤ s.clock) (λ w. same_bytes w.name name) v s.volumes found k.ranges.volumes in
    omega (arith, by, k.limits.clock)
