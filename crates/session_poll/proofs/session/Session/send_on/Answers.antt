use Rattle.session_poll.proofs.SendMoveLemmas.{answer_ends, answer_fault, answer_some, answer_tired, answer_waits, answer_written}
use Rattle.session_poll.proofs.session.Session.send_on.Goals as goal

pub returns-in-Some-clause-steps : goal.returns-in-Some-clause-steps
returns-in-Some-clause-steps g c =
    answer_some c.args.self.now.conn c.args.self.now _ _ _ _ c.in-Sends.answer c.write_answer.new.answer c.in-Sends.is c.write_answer.ensures.next c.in-Some.ensures.says

pub returns-in-Waits-clause-steps : goal.returns-in-Waits-clause-steps
returns-in-Waits-clause-steps g c =
    answer_waits c.args.self.now.conn c.args.self.now _ _ _ _ c.in-Sends.answer c.write_answer.new.answer c.in-Sends.is c.write_answer.ensures.next c.in-Waits.ensures.says

pub returns-in-Tired-clause-steps : goal.returns-in-Tired-clause-steps
returns-in-Tired-clause-steps g c =
    answer_tired c.args.self.now.conn c.args.self.now _ _ _ _ c.in-Sends.answer c.write_answer.new.answer c.in-Sends.is c.write_answer.ensures.next c.in-Tired.ensures.says

pub returns-in-Fault-clause-steps : goal.returns-in-Fault-clause-steps
returns-in-Fault-clause-steps g c =
    answer_fault c.args.self.now.conn c.args.self.now _ _ _ _ c.in-Sends.answer c.write_answer.new.answer c.in-Sends.is c.write_answer.ensures.next _ c.in-Fault.ensures.says

pub returns-in-Ends-clause-steps : goal.returns-in-Ends-clause-steps
returns-in-Ends-clause-steps g c =
    answer_ends c.args.self.now.conn c.args.self.now _ _ _ _ c.in-Sends.answer c.write_answer.new.answer c.in-Sends.is c.write_answer.ensures.next c.in-Ends.ending _ c.in-Ends.is c.in-All.ensures.says

pub returns-in-Reads-clause-steps : goal.returns-in-Reads-clause-steps
returns-in-Reads-clause-steps g c =
    answer_written c.args.self.now.conn c.args.self.now _ _ _ _ c.in-Sends.answer c.write_answer.new.answer c.in-Sends.is c.write_answer.ensures.next c.in-Reads.is c.in-All.ensures.says
