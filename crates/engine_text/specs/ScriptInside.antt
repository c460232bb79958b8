-- A script's fields as the script that they mean (own).
use Rattle.std.specs.Prelude.{◌≡◌}
use Rattle.engine_text.specs.declared.script.Script.TheInside.{Inside}
use Rattle.engine_text.specs.Scripts.{Program, bye_ops}

-- The script that the fields are.
abbrev pub program_inside : Inside → Program
program_inside s = record { ops = s.ops; manner = s.manner }

-- The trap's ops are at hand.
abbrev pub IsSoundScript : Inside → Type 0
IsSoundScript s = s.bye ≡ bye_ops
