-- own: what the making of an exec does once its container is found.
use Rattle.std.specs.Prelude.{◌≡◌}
use Rattle.engine_text.specs.Id.{id_of}
use Rattle.machine_model.specs.State.{State}
use Rattle.machine_model.specs.Chain.{Effect, and_then, change, tell_of}
use Rattle.machine_model.specs.EventTexts.{exec_event}
use Rattle.machine_model.specs.Calls.ExecCreate.{with_exec}
use Rattle.engine_text.specs.declared.event.Action.TheVariants.{ExecCreate}
use Rattle.engine_text.specs.declared.exec.Exec.{Exec}

-- The exec stands; event exec_create.
abbrev pub add_exec : Exec → State → Effect
add_exec x = and_then (change (with_exec x)) (tell_of (exec_event ExecCreate x.id) x.container)

-- The exec has the next number, and its id.
pub record IsNewExec (x : Exec) (s : State) : Type 0 where
  pub number : x.number ≡ s.next_number
  pub id : x.id ≡ id_of s.seed s.next_number
