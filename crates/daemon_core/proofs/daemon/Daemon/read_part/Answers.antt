use Rattle.std.proofs.Common.{◌∷◌, ◌∙◌, sym, ap, subst, refl, length, length-drop, arith}
use Rattle.machine_model.specs.History.{events_of}
use Rattle.session_model.specs.declared.turned.Part.TheVariants as P
use Rattle.daemon_core.specs.Keeping.{history_of}
use Rattle.daemon_core.specs.EventTurns.{EventsSay}
use Rattle.daemon_core.specs.Passing.{charter}
use Rattle.daemon_core.proofs.EventLemmas.{fits_on, stands_at, told_events}
use Rattle.daemon_core.proofs.daemon.Daemon.read_part.Goals as goal

pub unreachable-requires : goal.unreachable-requires
unreachable-requires c =
    let all = events_of (charter c.args.self.now) (history_of c.args.self.now.stored.journal) in
    let left = length-drop c.args.number all in
    let none = ap length (sym c.requires.2 ∙ c.in_default.ensures.steps.0) in
    let below = c.requires.1 in
    omega (arith, left, none, below)

pub returns-then-is_over : goal.returns-then-is_over
returns-then-is_over c =
    let d = c.args.self.now in (
      stands_at (charter d) (history_of d.stored.journal) c.args.handed c.args.number c.args.until c.in-Some.first.now c.next.new.self _ d.legal c.requires.0
          (sym c.requires.2 ∙ c.in-Some.ensures.steps) (sym c.is_over.ensures ∙ c.if-is_over.true),
      refl,
    )

pub further-requires : goal.further-requires
further-requires c =
    let d = c.args.self.now in
    fits_on (charter d) (history_of d.stored.journal) c.args.number c.in-Ok.passed (c.in-Some.first.now ∷ c.next.new.self) d.legal c.requires.1
    (sym c.requires.2 ∙ c.in-Some.ensures.steps) c.in-Ok.ensures.ok.1

pub returns-in-Ok : goal.returns-in-Ok
returns-in-Ok c =
    let d = c.args.self.now in
    let h = (history_of d.stored.journal) in
    let are = sym c.requires.2 ∙ c.in-Some.ensures.steps in
    let stands = stands_at (charter d) h c.args.handed c.args.number c.args.until c.in-Some.first.now c.next.new.self _ d.legal c.requires.0 are
    (sym c.is_over.ensures ∙ c.if-is_over.false) in
    subst (λ n. EventsSay (charter d) h c.args.handed c.args.filter.now c.args.until c.args.number (P.More n) c.args.out.now.items c.append_lines.new.out.items)
    (sym c.further.ensures)
    (told_events (charter d) h c.args.handed c.args.number c.in-Ok.passed c.args.filter.now c.args.until c.in-Some.first.now c.next.new.self
    c.args.out.now.items c.append_lines.new.out.items stands c.requires.1 are c.in-Ok.ensures.ok)
