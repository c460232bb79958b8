use Rattle.std.proofs.Common.{◌∙◌, subst, sym}
use Rattle.std.specs.Prelude.{IsTrue}
use Rattle.engine_text.specs.declared.step.Step.{Step}
use Rattle.journal_lines.specs.Room.{HasRoom}
use Rattle.machine_model.specs.History.{IsLawful}
use Rattle.daemon_core.specs.Keeping.{history_of}
use Rattle.daemon_core.specs.Passing.{charter}
use Rattle.daemon_core.specs.Storing.{is_open}
use Rattle.daemon_core.proofs.CallLemmas.{lawful_open}
use Rattle.daemon_core.proofs.DaemonLemmas.{room_same, stands, as_stored, told_of, stands_on}
use Rattle.daemon_core.proofs.RingLemmas.{holds_last}
use Rattle.daemon_core.proofs.daemon.Daemon.make.Goals as goal

pub invariant_of-self-2-clause-state : goal.invariant_of-self-2-clause-state
invariant_of-self-2-clause-state c =
    let d = c.args.self.now in
    let s = d.stored.machine.memory.state in
    let r = c.make.new.self in
    let asked = c.args.call.now in
    let room : HasRoom (charter d) s asked = sym (room_same (charter d) s asked) ∙ sym c.has_room.ensures ∙ c.if-not-has_room.false in
    let may : IsTrue (is_open s c.args.moment asked) = sym c.is_open.ensures ∙ c.if-not-is_open.false in
    let lawful : IsLawful s (Step.Call c.args.conn c.args.moment c.in-Ok.made) =
    subst (λ x. IsLawful s (Step.Call c.args.conn c.args.moment x)) (sym c.in-Ok.ensures)
    (lawful_open asked (charter d) s c.args.conn c.args.moment c.requires.sound c.requires.kind room c.requires.holds may c.requires.at) in
    as_stored r _ (stands_on c.make.result (charter d) s r.machine.memory.state (history_of d.stored.journal) (history_of r.journal) c.args.conn c.args.moment c.in-Ok.made
    (stands d) lawful c.make.ensures.made c.make.ensures.state c.make.ensures.steps).is

pub make-requires-clause-told : goal.make-requires-clause-told
make-requires-clause-told c = (charter c.args.self.now, told_of c.args.self.now)

pub invariant_of-self-2-clause-told : goal.invariant_of-self-2-clause-told
invariant_of-self-2-clause-told c =
    let d = c.args.self.now in
    let r = c.make.new.self in
    let told = c.make.ensures.told (charter d) (told_of d) in
    holds_last (charter d) r told.ring told.entries

pub invariant_of-self-2-clause-legal : goal.invariant_of-self-2-clause-legal
invariant_of-self-2-clause-legal c =
    let d = c.args.self.now in
    let s = d.stored.machine.memory.state in
    let r = c.make.new.self in
    let asked = c.args.call.now in
    let room : HasRoom (charter d) s asked = sym (room_same (charter d) s asked) ∙ sym c.has_room.ensures ∙ c.if-not-has_room.false in
    let may : IsTrue (is_open s c.args.moment asked) = sym c.is_open.ensures ∙ c.if-not-is_open.false in
    let lawful : IsLawful s (Step.Call c.args.conn c.args.moment c.in-Ok.made) =
    subst (λ x. IsLawful s (Step.Call c.args.conn c.args.moment x)) (sym c.in-Ok.ensures)
    (lawful_open asked (charter d) s c.args.conn c.args.moment c.requires.sound c.requires.kind room c.requires.holds may c.requires.at) in
    (stands_on c.make.result (charter d) s r.machine.memory.state (history_of d.stored.journal) (history_of r.journal) c.args.conn c.args.moment c.in-Ok.made
    (stands d) lawful c.make.ensures.made c.make.ensures.state c.make.ensures.steps).legal
