use Rattle.std.proofs.Common.{◌+◌, subst}
use Rattle.machine_model.specs.State.{State}
use Rattle.session_model.specs.declared.turned.Part.TheVariants as P
use Rattle.daemon_core.specs.Keeping.{history_of}
use Rattle.daemon_core.specs.LogTurns.{LogSays}
use Rattle.daemon_core.specs.Passing.{charter}
use Rattle.daemon_core.proofs.DaemonLemmas.{stands}
use Rattle.daemon_core.proofs.PartLemmas.{timed_left, told_more}
use Rattle.daemon_core.proofs.daemon.Daemon.read_log.Goals as goal

pub append_records-requires-clause-timed : goal.append_records-requires-clause-timed
append_records-requires-clause-timed c =
    let d = c.args.self.now in
    timed_left (charter d) (history_of d.stored.journal) d.stored.machine.memory.state c.args.spec.now c.args.place c.in-More.records.now d.legal (stands d).is
    c.in-More.ensures.1

pub returns-in-Ok : goal.returns-in-Ok
returns-in-Ok c =
    let d = c.args.self.now in
    let s : State = d.stored.machine.memory.state in
    subst (λ x. LogSays x c.args.spec.now c.args.place (P.More (c.args.place + c.in-Ok.passed)) c.args.out.now.items c.append_records.new.out.items) (stands d).is
    (told_more s c.args.spec.now c.args.place c.in-Ok.passed c.in-More.records.now c.args.out.now.items c.append_records.new.out.items
    c.in-More.ensures.0 c.in-More.ensures.1 c.in-Ok.ensures.ok)
