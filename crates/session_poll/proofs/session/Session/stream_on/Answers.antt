use Rattle.std.proofs.Common.{subst, sym}
use Rattle.session_poll.specs.Going.{TellsBy, told_of}
use Rattle.session_poll.specs.declared.state.State.{State}
use Rattle.session_poll.proofs.StreamMoveLemmas.{behind_part, part_fault, part_some, part_tired, part_waits}
use Rattle.session_poll.proofs.ToldLemmas.{stream_tells}
use Rattle.session_poll.proofs.session.Session.stream_on.Goals as goal

pub returns-in-All-clause-steps : goal.returns-in-All-clause-steps
returns-in-All-clause-steps g c s =
    behind_part _ c.args.self.now.conn (told_of c.args.told.now) _ c.args.self.now _ c.in-Streams.reply c.in-Streams.terms c.in-Streams.place c.in-Streams.out c.write_on.new.out _ _ s
    (g.K.PollSink.takes c.args.sink.now) (g.K.PollSink.takes c.write_on.new.sink) _ _ _ _ c.in-Streams.is c.in-All.ensures.says (c.tell_on.ensures.steps s)

pub returns-in-Some-clause-steps : goal.returns-in-Some-clause-steps
returns-in-Some-clause-steps g c s =
    part_some c.args.self.now.conn c.args.self.now c.in-Streams.reply c.in-Streams.terms c.in-Streams.place c.in-Streams.out c.write_on.new.out c.in-Streams.is _ _ _ _
    c.in-Some.ensures.says _ (told_of c.args.told.now) _ s

pub returns-in-Waits-clause-steps : goal.returns-in-Waits-clause-steps
returns-in-Waits-clause-steps g c s =
    part_waits c.args.self.now.conn c.args.self.now c.in-Streams.reply c.in-Streams.terms c.in-Streams.place c.in-Streams.out c.write_on.new.out c.in-Streams.is _ _ _ _
    c.in-Waits.ensures.says _ (told_of c.args.told.now) _ s

pub returns-in-Tired-clause-steps : goal.returns-in-Tired-clause-steps
returns-in-Tired-clause-steps g c s =
    part_tired c.args.self.now.conn c.args.self.now c.in-Streams.reply c.in-Streams.terms c.in-Streams.place c.in-Streams.out c.write_on.new.out c.in-Streams.is _ _ _ _
    c.in-Tired.ensures.says _ (told_of c.args.told.now) _ s

pub returns-in-Fault-clause-steps : goal.returns-in-Fault-clause-steps
returns-in-Fault-clause-steps g c s =
    part_fault c.args.self.now.conn c.args.self.now c.in-Streams.reply c.in-Streams.terms c.in-Streams.place c.in-Streams.out c.write_on.new.out c.in-Streams.is _ _ _ _ _
    c.in-Fault.ensures.says _ (told_of c.args.told.now) _ s

pub returns-in-All-clause-tells : goal.returns-in-All-clause-tells
returns-in-All-clause-tells g c =
    subst (λ y. TellsBy y c.tell_on.new.self.state c.args.budget.now c.tell_on.new.budget) (sym c.in-Streams.is)
    (stream_tells c.in-Streams.reply c.in-Streams.terms c.in-Streams.place c.in-Streams.out c.write_on.new.out c.tell_on.new.self.state c.args.budget.now c.tell_on.new.budget
    (subst (λ b. TellsBy (State.Streams c.in-Streams.reply c.in-Streams.terms c.in-Streams.place c.write_on.new.out) c.tell_on.new.self.state b c.tell_on.new.budget)
    c.in-All.ensures.says.3 c.tell_on.ensures.tells))
