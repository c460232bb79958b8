use Rattle.std.proofs.Common.{◌≤◌, ◌++◌, ◌∙◌, append_assoc, length, refl, subst, sym}
use Rattle.machine_model.specs.History.{events_of}
use Rattle.session_model.specs.declared.turned.Part.TheVariants as P
use Rattle.daemon_core.specs.Keeping.{history_of}
use Rattle.daemon_core.specs.EventTurns.{EventsSay}
use Rattle.daemon_core.specs.Passing.{charter, whole_pass}
use Rattle.daemon_core.proofs.EventLemmas.{counted_on}
use Rattle.daemon_core.proofs.PartLemmas.{part_told, part_short}
use Rattle.daemon_core.proofs.daemon.Daemon.events_from.Goals as goal

pub read_events-requires : goal.read_events-requires
read_events-requires c =
    let d = c.args.self.now in
    let n = c.turn.new.self in
    let turns = c.in-Nothing.ensures.turns in
    subst (λ ch. c.args.number ≤ length (events_of ch (history_of n.stored.journal))) (sym turns.stays.charter)
    (counted_on (charter d) (history_of d.stored.journal) (history_of n.stored.journal) (turns.others ++ turns.own) c.args.number c.requires
    (turns.seen ∙ append_assoc (history_of d.stored.journal) turns.others turns.own))

pub returns-in-Nothing : goal.returns-in-Nothing
returns-in-Nothing c =
    part_told c.args.conn c.args.handed c.read_events.result
    (λ ch h. EventsSay ch h c.args.handed c.args.filter.now c.args.until c.args.number c.read_events.result c.args.out.now.items c.read_events.new.out.items)
    (whole_pass c.args.self.now) (whole_pass c.turn.new.self) c.in-Nothing.ensures c.read_events.ensures

pub returns-in-NoMemory : goal.returns-in-NoMemory
returns-in-NoMemory c =
    part_short c.args.conn c.args.handed
    (λ ch h. EventsSay ch h c.args.handed c.args.filter.now c.args.until c.args.number P.NoMemory c.args.out.now.items c.args.out.now.items)
    (whole_pass c.args.self.now) (whole_pass c.turn.new.self) c.in-NoMemory.ensures refl
