use Rattle.std.proofs.Common.{arith, refl, subst, sym}
use Rattle.session_poll.specs.Going.{Steps, ports_of, told_of}
use Rattle.polled_model.specs.declared.polled.Cause.{Cause}
use Rattle.session_poll.specs.declared.state.State.{State}
use Rattle.session_poll.specs.declared.state.Step.TheVariants as came
use Rattle.session_poll.specs.Streaming.{IsWritten, MayTell}
use Rattle.session_poll.proofs.PartMoveLemmas.{telling_ends, telling_late, telling_less, telling_more, telling_tells, telling_whole, wanted_by, whole_less}
use Rattle.session_poll.proofs.ToldLemmas.{tells_same}
use Rattle.session_poll.proofs.session.Session.tell_on.Goals as goal

pub returns-then-budget-eq0-clause-steps : goal.returns-then-budget-eq0-clause-steps
returns-then-budget-eq0-clause-steps g c s =
    let p = g.T.Turns.pass c.args.turns.now in
    let v = ports_of s (g.K.PollSink.takes c.args.sink.now) in
    subst (λ r. Steps p.charter c.args.self.now.conn (told_of c.args.told.now) r c.args.self.now c.args.self.now p p v v c.args.budget.now c.args.budget.now)
    (sym c.yields.ensures.result)
    (wanted_by c.args.self.now.conn (told_of c.args.told.now) c.args.self.now p c.requires.written v c.args.budget.now c.if-budget-eq0.true)

pub returns-then-budget-eq0-clause-tells : goal.returns-then-budget-eq0-clause-tells
returns-then-budget-eq0-clause-tells g c = tells_same c.args.self.now.state c.args.budget.now c.args.budget.now refl refl

pub tell_next-requires-clause-streams : goal.tell_next-requires-clause-streams
tell_next-requires-clause-streams g c =
    let may = subst (MayTell (g.T.Turns.pass c.args.turns.now).charter (g.T.Turns.pass c.args.turns.now).seen) c.in-Streams.is c.requires.may in may.0

pub tell_next-requires-clause-stands : goal.tell_next-requires-clause-stands
tell_next-requires-clause-stands g c =
    let may = subst (MayTell (g.T.Turns.pass c.args.turns.now).charter (g.T.Turns.pass c.args.turns.now).seen) c.in-Streams.is c.requires.may in may.1

pub returns-in-More-clause-steps : goal.returns-in-More-clause-steps
returns-in-More-clause-steps g c s =
    telling_more c.args.self.now.conn (told_of c.args.told.now) c.args.self.now c.in-Streams.reply c.in-Streams.terms c.in-Streams.place c.in-Streams.out
    (g.T.Turns.pass c.args.turns.now) (g.T.Turns.pass c.tell_next.new.turns) (g.K.PollSink.takes c.args.sink.now) (g.K.PollSink.takes c.tell_next.new.sink) c.args.budget.now
    c.in-Streams.is (subst IsWritten c.in-Streams.is c.requires.written) (g.met.T.Turns.sound c.tell_next.new.turns) s c.in-More.next c.in-More.bytes c.chunk.result
    c.in-More.ensures c.chunk.ensures

pub returns-in-More-clause-tells : goal.returns-in-More-clause-tells
returns-in-More-clause-tells g c =
    telling_tells c.args.self.now.conn (told_of c.args.told.now) c.args.self.now c.in-Streams.reply c.in-Streams.terms c.in-Streams.place c.in-Streams.out
    (g.T.Turns.pass c.args.turns.now) (g.T.Turns.pass c.tell_next.new.turns) (g.K.PollSink.takes c.args.sink.now) (g.K.PollSink.takes c.tell_next.new.sink) c.args.budget.now
    c.in-Streams.is c.in-More.next c.in-More.bytes c.chunk.result
    c.in-More.ensures (omega (arith, c.if-budget-eq0.false))

pub returns-in-More-clause-less : goal.returns-in-More-clause-less
returns-in-More-clause-less g c =
    telling_less c.args.self.now c.in-Streams.reply c.in-Streams.terms c.in-Streams.place c.in-Streams.out c.args.budget.now c.in-Streams.is c.in-More.next c.chunk.result
    (omega (arith, c.if-budget-eq0.false))

pub returns-in-Whole-clause-steps : goal.returns-in-Whole-clause-steps
returns-in-Whole-clause-steps g c s =
    telling_whole c.args.self.now.conn (told_of c.args.told.now) c.args.self.now c.in-Streams.reply c.in-Streams.terms c.in-Streams.place c.in-Streams.out
    (g.T.Turns.pass c.args.turns.now) (g.T.Turns.pass c.tell_next.new.turns) (g.K.PollSink.takes c.args.sink.now) (g.K.PollSink.takes c.tell_next.new.sink) c.args.budget.now
    c.in-Streams.is (subst IsWritten c.in-Streams.is c.requires.written) (g.met.T.Turns.sound c.tell_next.new.turns) s c.in-Whole.bytes c.last.result
    c.in-Whole.ensures c.last.ensures

pub returns-in-Whole-clause-less : goal.returns-in-Whole-clause-less
returns-in-Whole-clause-less g c =
    whole_less c.args.self.now c.in-Streams.reply c.in-Streams.terms c.in-Streams.place c.in-Streams.out c.args.budget.now c.in-Streams.is c.last.result

pub returns-in-UpToDate-clause-steps : goal.returns-in-UpToDate-clause-steps
returns-in-UpToDate-clause-steps g c s =
    let p = g.T.Turns.pass c.args.turns.now in
    let q = g.T.Turns.pass c.tell_next.new.turns in
    let u = g.K.PollSink.takes c.args.sink.now in
    let u' = g.K.PollSink.takes c.tell_next.new.sink in
    let x = c.args.self.now in
    subst (λ r. Steps p.charter x.conn (told_of c.args.told.now) r x (record x { state = State.Streams c.in-Streams.reply c.in-Streams.terms c.in-Streams.place c.in-Streams.out }) p q
    (ports_of s u) (ports_of s u') c.args.budget.now c.args.budget.now)
    (sym c.pauses.ensures.result)
    (subst (λ y. Steps p.charter x.conn (told_of c.args.told.now) (came.Pauses Cause.NotYet) x (record x { state = y }) p q (ports_of s u) (ports_of s u') c.args.budget.now c.args.budget.now) c.in-Streams.is
    (telling_late x.conn (told_of c.args.told.now) x c.in-Streams.reply c.in-Streams.terms c.in-Streams.place c.in-Streams.out p q u u' c.args.budget.now
    c.in-Streams.is (subst IsWritten c.in-Streams.is c.requires.written) (g.met.T.Turns.sound c.tell_next.new.turns) s c.in-UpToDate.ensures))

pub returns-in-Ends-clause-steps : goal.returns-in-Ends-clause-steps
returns-in-Ends-clause-steps g c s =
    telling_ends c.args.self.now.conn (told_of c.args.told.now) c.args.self.now c.in-Streams.reply c.in-Streams.terms c.in-Streams.place c.in-Streams.out
    (g.T.Turns.pass c.args.turns.now) (g.T.Turns.pass c.tell_next.new.turns) (g.K.PollSink.takes c.args.sink.now) (g.K.PollSink.takes c.tell_next.new.sink) c.args.budget.now
    c.in-Streams.is (subst IsWritten c.in-Streams.is c.requires.written) (g.met.T.Turns.sound c.tell_next.new.turns) s c.in-Ends.ending _ c.in-Ends.ensures
