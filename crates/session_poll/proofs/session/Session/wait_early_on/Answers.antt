use Rattle.std.proofs.Common.{refl, subst, sym}
use Rattle.session_poll.specs.Going.{TellsBy, ports_of, told_of}
use Rattle.session_poll.specs.declared.state.State.{State}
use Rattle.session_poll.proofs.EarlyMoveLemmas.{behind_head, head_fault, head_some, head_tired, head_waits}
use Rattle.session_poll.proofs.ToldLemmas.{early_tells}
use Rattle.session_poll.proofs.session.Session.wait_early_on.Goals as goal

pub returns-in-All-clause-steps : goal.returns-in-All-clause-steps
returns-in-All-clause-steps g c s =
    behind_head _ c.args.self.now.conn (told_of c.args.told.now) _ c.args.self.now _ c.in-WaitsEarly.ticket c.in-WaitsEarly.terms c.in-WaitsEarly.out c.write_on.new.out _ _ s
    (g.K.PollSink.takes c.args.sink.now) (g.K.PollSink.takes c.write_on.new.sink) _ _ _ _ c.in-WaitsEarly.is c.in-All.ensures.says (c.wait_behind.ensures.steps s)

pub returns-in-Some-clause-steps : goal.returns-in-Some-clause-steps
returns-in-Some-clause-steps g c s =
    head_some c.args.self.now.conn c.args.self.now c.in-WaitsEarly.ticket c.in-WaitsEarly.terms c.in-WaitsEarly.out c.write_on.new.out c.in-WaitsEarly.is _ _ _ _
    c.in-Some.ensures.says _ (told_of c.args.told.now) _ s

pub returns-in-Waits-clause-steps : goal.returns-in-Waits-clause-steps
returns-in-Waits-clause-steps g c s =
    head_waits c.args.self.now.conn c.args.self.now c.in-WaitsEarly.ticket c.in-WaitsEarly.terms c.in-WaitsEarly.out c.write_on.new.out c.in-WaitsEarly.is _ _ _ _
    c.in-Waits.ensures.says _ (told_of c.args.told.now) _ s

pub returns-in-Tired-clause-steps : goal.returns-in-Tired-clause-steps
returns-in-Tired-clause-steps g c s =
    head_tired c.args.self.now.conn c.args.self.now c.in-WaitsEarly.ticket c.in-WaitsEarly.terms c.in-WaitsEarly.out c.write_on.new.out c.in-WaitsEarly.is _ _ _ _
    c.in-Tired.ensures.says _ (told_of c.args.told.now) _ s

pub returns-in-Fault-clause-steps : goal.returns-in-Fault-clause-steps
returns-in-Fault-clause-steps g c s =
    head_fault c.args.self.now.conn (told_of c.args.told.now) c.args.self.now c.args.ticket c.args.terms c.requires.waits.0 (g.T.Turns.pass c.args.turns.now) c.requires.waits.1 _
    (g.T.Turns.pass c.drop_ticket.new.turns) (ports_of s (g.K.PollSink.takes c.args.sink.now)) (ports_of s (g.K.PollSink.takes c.write_on.new.sink)) _ _
    c.drop_ticket.ensures c.in-Fault.ensures.says.0.0 c.in-Fault.ensures.says.0.1 refl

pub returns-in-All-clause-tells : goal.returns-in-All-clause-tells
returns-in-All-clause-tells g c =
    subst (λ y. TellsBy y c.wait_behind.new.self.state c.args.budget.now c.wait_behind.new.budget) (sym c.in-WaitsEarly.is)
    (early_tells c.in-WaitsEarly.ticket c.in-WaitsEarly.terms c.in-WaitsEarly.out c.write_on.new.out c.wait_behind.new.self.state c.args.budget.now c.wait_behind.new.budget
    (subst (λ b. TellsBy (State.WaitsEarly c.in-WaitsEarly.ticket c.in-WaitsEarly.terms c.write_on.new.out) c.wait_behind.new.self.state b c.wait_behind.new.budget)
    c.in-All.ensures.says.3 c.wait_behind.ensures.tells))
