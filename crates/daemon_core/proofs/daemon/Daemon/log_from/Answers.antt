use Rattle.std.proofs.Common.{refl}
use Rattle.machine_model.specs.History.{state_after}
use Rattle.session_model.specs.declared.turned.Part.TheVariants as P
use Rattle.daemon_core.specs.LogTurns.{LogSays}
use Rattle.daemon_core.specs.Passing.{whole_pass}
use Rattle.daemon_core.proofs.PartLemmas.{part_told, part_short}
use Rattle.daemon_core.proofs.daemon.Daemon.log_from.Goals as goal

pub returns-in-Nothing : goal.returns-in-Nothing
returns-in-Nothing c =
    part_told c.args.conn c.args.handed c.read_log.result
    (λ ch h. LogSays (state_after ch h) c.args.spec.now c.args.place c.read_log.result c.args.out.now.items c.read_log.new.out.items)
    (whole_pass c.args.self.now) (whole_pass c.turn.new.self) c.in-Nothing.ensures c.read_log.ensures

pub returns-in-NoMemory : goal.returns-in-NoMemory
returns-in-NoMemory c =
    part_short c.args.conn c.args.handed
    (λ ch h. LogSays (state_after ch h) c.args.spec.now c.args.place P.NoMemory c.args.out.now.items c.args.out.now.items)
    (whole_pass c.args.self.now) (whole_pass c.turn.new.self) c.in-NoMemory.ensures refl
