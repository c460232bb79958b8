use Rattle.std.proofs.Common.{refl, Ok}
use Rattle.attach_hub.proofs.pumping.end_input.Goals as goal

pub returns-in-Ok : goal.returns-in-Ok
returns-in-Ok g c = (Ok c.in-Ok.field-0, c.in-Ok.ensures, refl)
