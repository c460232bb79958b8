use Rattle.std.proofs.Common.{arith, refl, subst, sym}
use Rattle.session_poll.specs.Going.{Steps, ports_of, told_of}
use Rattle.session_poll.specs.Waiting.{WaitedSays}
use Rattle.session_poll.specs.declared.waiting.Waited.TheVariants as waited
use Rattle.session_poll.specs.declared.state.State.{State}
use Rattle.session_poll.proofs.LeftLemmas.{turn_less}
use Rattle.session_poll.proofs.ToldLemmas.{tells_same}
use Rattle.session_poll.proofs.EarlyMoveLemmas.{behind_gone, behind_late, behind_short, behind_stopped, behind_taken, early_wanted}
use Rattle.session_poll.proofs.session.Session.wait_behind.Goals as goal

pub returns-then-budget-eq0-clause-steps : goal.returns-then-budget-eq0-clause-steps
returns-then-budget-eq0-clause-steps g c s =
    let p = g.T.Turns.pass c.args.turns.now in
    let v = ports_of s (g.K.PollSink.takes c.args.sink.now) in
    subst (λ r. Steps p.charter c.args.self.now.conn (told_of c.args.told.now) r c.args.self.now c.args.self.now p p v v c.args.budget.now c.args.budget.now)
    (sym c.yields.ensures.result)
    (early_wanted c.args.self.now.conn (told_of c.args.told.now) c.args.self.now c.args.ticket c.args.terms c.requires.waits.0 p c.requires.waits.1 v c.args.budget.now
    c.if-budget-eq0.true)

pub returns-in-NotYet-clause-steps : goal.returns-in-NotYet-clause-steps
returns-in-NotYet-clause-steps g c s =
    let p = g.T.Turns.pass c.args.turns.now in
    let q = g.T.Turns.pass c.wait_once.new.turns in
    let u = g.K.PollSink.takes c.args.sink.now in
    let u' = g.K.PollSink.takes c.wait_once.new.sink in
    subst (λ r. Steps p.charter c.args.self.now.conn (told_of c.args.told.now) r c.args.self.now c.args.self.now p q (ports_of s u) (ports_of s u') c.args.budget.now c.args.budget.now)
    (sym c.pauses.ensures.result)
    (behind_late c.args.self.now.conn (told_of c.args.told.now) c.args.self.now c.args.ticket c.args.terms p q u u' c.args.budget.now c.args.budget.now c.requires.waits s
    c.requires.begun c.in-NotYet.ensures)

pub returns-in-Gone-clause-steps : goal.returns-in-Gone-clause-steps
returns-in-Gone-clause-steps g c s =
    behind_gone c.args.self.now.conn (told_of c.args.told.now) c.args.self.now c.args.ticket c.args.terms (g.T.Turns.pass c.args.turns.now)
    (g.T.Turns.pass c.wait_once.new.turns) (g.K.PollSink.takes c.args.sink.now) (g.K.PollSink.takes c.wait_once.new.sink) c.args.budget.now c.args.budget.now
    c.requires.waits s _ c.in-Gone.ensures

pub returns-in-Over-NoMemory-clause-steps : goal.returns-in-Over-NoMemory-clause-steps
returns-in-Over-NoMemory-clause-steps g c s =
    let p = g.T.Turns.pass c.args.turns.now in
    let q = g.T.Turns.pass c.wait_once.new.turns in
    let u = g.K.PollSink.takes c.args.sink.now in
    let u' = g.K.PollSink.takes c.wait_once.new.sink in
    behind_short c.args.self.now.conn (told_of c.args.told.now) c.args.self.now c.args.ticket c.args.terms p q u u' c.args.budget.now c.args.budget.now c.requires.waits s _
    (subst (λ o. WaitedSays c.args.self.now.conn c.args.told.now.handed c.args.ticket c.args.told.now.stop (waited.Over o) p q u u') c.in-Over-NoMemory.field-0-is
    c.in-Over-NoMemory.ensures)

pub returns-in-Over-Stopped-clause-steps : goal.returns-in-Over-Stopped-clause-steps
returns-in-Over-Stopped-clause-steps g c s =
    let p = g.T.Turns.pass c.args.turns.now in
    let q = g.T.Turns.pass c.wait_once.new.turns in
    let u = g.K.PollSink.takes c.args.sink.now in
    let u' = g.K.PollSink.takes c.wait_once.new.sink in
    behind_stopped c.args.self.now.conn (told_of c.args.told.now) c.args.self.now c.args.ticket c.args.terms p q u u' c.args.budget.now c.args.budget.now c.requires.waits s _
    (subst (λ o. WaitedSays c.args.self.now.conn c.args.told.now.handed c.args.ticket c.args.told.now.stop (waited.Over o) p q u u') c.in-Over-Stopped.field-0-is
    c.in-Over-Stopped.ensures)

pub returns-in-Over-Replied-clause-steps : goal.returns-in-Over-Replied-clause-steps
returns-in-Over-Replied-clause-steps g c s =
    let p = g.T.Turns.pass c.args.turns.now in
    let q = g.T.Turns.pass c.wait_once.new.turns in
    let u = g.K.PollSink.takes c.args.sink.now in
    let u' = g.K.PollSink.takes c.wait_once.new.sink in
    behind_taken c.args.self.now.conn (told_of c.args.told.now) c.args.self.now c.args.ticket c.args.terms p q u u' c.args.budget.now c.args.budget.now c.requires.waits s
    c.in-Over-Replied.reply c.replied_early.result (g.met.T.Turns.sound c.args.turns.now) (omega (arith, c.if-budget-eq0.false))
    (subst (λ o. WaitedSays c.args.self.now.conn c.args.told.now.handed c.args.ticket c.args.told.now.stop (waited.Over o) p q u u') c.in-Over-Replied.field-0-is
    c.in-Over-Replied.ensures) c.replied_early.ensures

pub returns-then-budget-eq0-clause-tells : goal.returns-then-budget-eq0-clause-tells
returns-then-budget-eq0-clause-tells g c = tells_same c.args.self.now.state c.args.budget.now c.args.budget.now refl refl

pub returns-in-NotYet-clause-tells : goal.returns-in-NotYet-clause-tells
returns-in-NotYet-clause-tells g c = tells_same c.args.self.now.state c.args.budget.now c.args.budget.now refl refl

pub returns-in-Gone-clause-tells : goal.returns-in-Gone-clause-tells
returns-in-Gone-clause-tells g c = tells_same c.args.self.now.state c.args.budget.now c.args.budget.now refl refl

pub returns-in-Over-NoMemory-clause-tells : goal.returns-in-Over-NoMemory-clause-tells
returns-in-Over-NoMemory-clause-tells g c = tells_same c.args.self.now.state c.args.budget.now c.args.budget.now refl refl

pub returns-in-Over-Stopped-clause-tells : goal.returns-in-Over-Stopped-clause-tells
returns-in-Over-Stopped-clause-tells g c = tells_same c.args.self.now.state c.args.budget.now c.args.budget.now refl refl

pub returns-in-Over-Replied-clause-less : goal.returns-in-Over-Replied-clause-less
returns-in-Over-Replied-clause-less g c =
    turn_less c.args.self.now (State.Sends c.replied_early.result) c.args.budget.now (omega (arith, c.if-budget-eq0.false))
