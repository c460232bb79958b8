use Rattle.std.proofs.Common.{arith, ◌<◌, ◌-◌, ap, refl, subst, sym}
use Rattle.session_poll.specs.Going.{Steps, ports_of, told_of}
use Rattle.session_poll.specs.Left.{left_of}
use Rattle.session_poll.specs.declared.state.State.{State}
use Rattle.session_poll.proofs.LeftLemmas.{over_less}
use Rattle.session_poll.proofs.ToldLemmas.{tells_same}
use Rattle.session_poll.proofs.WaitMoveLemmas.{wait_wanted, waited_gone, waited_late, waited_over}
use Rattle.session_poll.proofs.session.Session.wait_on.Goals as goal

pub returns-then-budget-eq0-clause-steps : goal.returns-then-budget-eq0-clause-steps
returns-then-budget-eq0-clause-steps g c s =
    let p = g.T.Turns.pass c.args.turns.now in
    let v = ports_of s (g.K.PollSink.takes c.args.sink.now) in
    subst (λ r. Steps p.charter c.args.self.now.conn (told_of c.args.told.now) r c.args.self.now c.args.self.now p p v v c.args.budget.now c.args.budget.now)
    (sym c.yields.ensures.result)
    (wait_wanted c.args.self.now.conn (told_of c.args.told.now) c.args.self.now c.args.ticket c.args.terms p c.requires.waits v c.args.budget.now c.if-budget-eq0.true)

pub returns-in-NotYet-clause-steps : goal.returns-in-NotYet-clause-steps
returns-in-NotYet-clause-steps g c s =
    let p = g.T.Turns.pass c.args.turns.now in
    let q = g.T.Turns.pass c.wait_once.new.turns in
    let u = g.K.PollSink.takes c.args.sink.now in
    let u' = g.K.PollSink.takes c.wait_once.new.sink in
    subst (λ r. Steps p.charter c.args.self.now.conn (told_of c.args.told.now) r c.args.self.now c.args.self.now p q (ports_of s u) (ports_of s u') c.args.budget.now c.args.budget.now)
    (sym c.pauses.ensures.result)
    (waited_late c.args.self.now.conn (told_of c.args.told.now) c.args.self.now c.args.ticket c.args.terms p q u u' c.args.budget.now c.args.budget.now c.requires.waits s
    c.requires.begun c.in-NotYet.ensures)

pub returns-in-Gone-clause-steps : goal.returns-in-Gone-clause-steps
returns-in-Gone-clause-steps g c s =
    waited_gone c.args.self.now.conn (told_of c.args.told.now) c.args.self.now c.args.ticket c.args.terms (g.T.Turns.pass c.args.turns.now)
    (g.T.Turns.pass c.wait_once.new.turns) (g.K.PollSink.takes c.args.sink.now) (g.K.PollSink.takes c.wait_once.new.sink) c.args.budget.now c.args.budget.now
    c.requires.waits s _ c.in-Gone.ensures

pub returns-in-Over-clause-steps : goal.returns-in-Over-clause-steps
returns-in-Over-clause-steps g c s =
    waited_over c.args.self.now.conn (told_of c.args.told.now) c.args.self.now c.args.ticket c.args.terms (g.T.Turns.pass c.args.turns.now)
    (g.T.Turns.pass c.wait_once.new.turns) (g.K.PollSink.takes c.args.sink.now) (g.K.PollSink.takes c.wait_once.new.sink) c.args.budget.now _
    c.requires.waits s c.in-Over.over c.answered.result c.in-Over.ensures (omega (arith, c.if-budget-eq0.false))
    (ap (λ n. record c.args.budget.now { turns = c.args.budget.now.turns - n }) c.calls_of.ensures) c.answered.ensures

pub returns-then-budget-eq0-clause-tells : goal.returns-then-budget-eq0-clause-tells
returns-then-budget-eq0-clause-tells g c = tells_same c.args.self.now.state c.args.budget.now c.args.budget.now refl refl

pub returns-in-NotYet-clause-tells : goal.returns-in-NotYet-clause-tells
returns-in-NotYet-clause-tells g c = tells_same c.args.self.now.state c.args.budget.now c.args.budget.now refl refl

pub returns-in-Gone-clause-tells : goal.returns-in-Gone-clause-tells
returns-in-Gone-clause-tells g c = tells_same c.args.self.now.state c.args.budget.now c.args.budget.now refl refl

pub returns-in-Over-clause-less : goal.returns-in-Over-clause-less
returns-in-Over-clause-less g c =
    subst (λ n. left_of (record c.args.self.now { state = State.Sends c.answered.result }) (record c.args.budget.now { turns = c.args.budget.now.turns - n }) < left_of c.args.self.now c.args.budget.now) (sym c.calls_of.ensures)
    (over_less c.args.self.now c.in-Over.over c.args.ticket c.args.terms c.answered.result c.args.budget.now c.requires.waits (omega (arith, c.if-budget-eq0.false)))
