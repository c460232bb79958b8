use Rattle.session_poll.proofs.SendMoveLemmas.{refusal_fault, refusal_some, refusal_tired, refusal_waits, refusal_written}
use Rattle.session_poll.proofs.session.Session.refuse_on.Goals as goal

pub returns-in-Some-clause-steps : goal.returns-in-Some-clause-steps
returns-in-Some-clause-steps g c =
    refusal_some c.args.self.now.conn c.args.self.now _ _ _ _ c.in-Refuses.out c.write_on.new.out c.in-Refuses.status c.in-Refuses.is c.in-Some.ensures.says

pub returns-in-Waits-clause-steps : goal.returns-in-Waits-clause-steps
returns-in-Waits-clause-steps g c =
    refusal_waits c.args.self.now.conn c.args.self.now _ _ _ _ c.in-Refuses.out c.write_on.new.out c.in-Refuses.status c.in-Refuses.is c.in-Waits.ensures.says

pub returns-in-Tired-clause-steps : goal.returns-in-Tired-clause-steps
returns-in-Tired-clause-steps g c =
    refusal_tired c.args.self.now.conn c.args.self.now _ _ _ _ c.in-Refuses.out c.write_on.new.out c.in-Refuses.status c.in-Refuses.is c.in-Tired.ensures.says

pub returns-in-Fault-clause-steps : goal.returns-in-Fault-clause-steps
returns-in-Fault-clause-steps g c =
    refusal_fault c.args.self.now.conn c.args.self.now _ _ _ _ c.in-Refuses.out c.write_on.new.out c.in-Refuses.status c.in-Refuses.is _ c.in-Fault.ensures.says

pub returns-in-All-clause-steps : goal.returns-in-All-clause-steps
returns-in-All-clause-steps g c =
    refusal_written c.args.self.now.conn c.args.self.now _ _ _ _ c.in-Refuses.out c.write_on.new.out c.in-Refuses.status c.in-Refuses.is _ c.in-All.ensures.says
