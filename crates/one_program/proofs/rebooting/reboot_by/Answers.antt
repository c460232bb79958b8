use Rattle.std.proofs.Common.{inl, inr, refl}
use Rattle.one_program.proofs.rebooting.reboot_by.Goals as goal

pub returns-in-Ok : goal.returns-in-Ok
returns-in-Ok g c = inr (record { text = c.in-Ok.text.items; gives = c.in-Ok.ensures; continues = c.go_on.ensures })
