use Rattle.attach_hub.proofs.PumpLemmas.{no_place}
use Rattle.attach_hub.proofs.pumping.pump_stdin.Goals as goal

pub returns-in_default-new_place : goal.returns-in_default-new_place
returns-in_default-new_place g c = no_place c.args.conn c.args.spec.now c.in-Some.run' _ _ _ _ c.in-Some.is
