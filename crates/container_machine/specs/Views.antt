-- own: the machine's fields as what they mean.
use Rattle.call_plans.specs.Parts.{MachineParts, IsSoundMemory}
use Rattle.container_machine.specs.declared.machine.Machine.TheInside.{Inside}

-- The tables.
abbrev pub parts_of : Inside → MachineParts
parts_of m = record { memory = m.tables }

-- The tables are sound.
abbrev pub IsSoundInside : Inside → Type 0
IsSoundInside m = IsSoundMemory m.tables
