use Rattle.std.proofs.Common.{◌≡◌, ◌∙◌, sym, ap, refl, arith, length}
use Rattle.event_ring.specs.Ring.{Kept}
use Rattle.event_ring.specs.declared.part.FromRing.TheVariants as From
use Rattle.machine_model.specs.History.{events_of}
use Rattle.daemon_core.specs.Keeping.{history_of}
use Rattle.daemon_core.specs.Passing.{charter}
use Rattle.daemon_core.proofs.DaemonLemmas.{told_of}
use Rattle.daemon_core.proofs.EventLemmas.{ring_gives, stands_last}
use Rattle.daemon_core.proofs.daemon.Daemon.read_events.Goals as goal

pub from-requires : goal.from-requires
from-requires c =
    let d = c.args.self.now in
    let count : d.stored.ring.count ≡ length (events_of (charter d) (history_of d.stored.journal)) = ap (λ (r : Kept). r.count) (told_of d).ring in
    let le = c.requires in
    omega (arith, count, le)

pub read_part-requires : goal.read_part-requires
read_part-requires c =
    let d = c.args.self.now in
    ring_gives (charter d) (history_of d.stored.journal) c.args.number d.stored.ring (From.Slice c.in-Slice.part) (told_of d).ring c.requires c.in-Slice.ensures

pub returns-then-comes_to : goal.returns-then-comes_to
returns-then-comes_to c =
    let d = c.args.self.now in
    let last = ring_gives (charter d) (history_of d.stored.journal) c.args.number d.stored.ring From.UpToDate (told_of d).ring c.requires c.in-UpToDate.ensures in
    (stands_last (charter d) (history_of d.stored.journal) c.args.handed c.args.number c.args.until _ last (sym c.comes_to.ensures ∙ c.if-comes_to.true), refl)

pub returns-else-comes_to : goal.returns-else-comes_to
returns-else-comes_to c =
    let d = c.args.self.now in
    let last = ring_gives (charter d) (history_of d.stored.journal) c.args.number d.stored.ring From.UpToDate (told_of d).ring c.requires c.in-UpToDate.ensures in (
      stands_last (charter d) (history_of d.stored.journal) c.args.handed c.args.number c.args.until _ last (sym c.comes_to.ensures ∙ c.if-comes_to.false),
      last.1,
      refl,
    )

pub returns-in-Lagged : goal.returns-in-Lagged
returns-in-Lagged c =
    let d = c.args.self.now in
    let gone = ring_gives (charter d) (history_of d.stored.journal) c.args.number d.stored.ring (From.Lagged c.in-Lagged.next c.in-Lagged.first) (told_of d).ring
    c.requires c.in-Lagged.ensures in
    (gone.0, gone.1, gone.2, refl)
