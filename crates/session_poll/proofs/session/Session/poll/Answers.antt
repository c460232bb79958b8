use Rattle.std.proofs.Common.{refl, sym, ◌∙◌, subst}
use Rattle.polled_model.specs.Polls.{Told}
use Rattle.session_poll.specs.declared.state.Step.TheVariants as came
use Rattle.session_poll.specs.Going.{HasGone, HasTold, ports_of}
use Rattle.session_poll.proofs.PollLemmas.{can_now, gone_none, gone_on_by, polls_done, polls_pending, step_since}
use Rattle.session_poll.proofs.ToldLemmas.{told_none, told_on}
use Rattle.session_poll.proofs.session.Session.poll.Goals as goal

pub more-init : goal.more-init
more-init g c =
    let p = g.T.Turns.pass c.args.turns.now in
    let v = ports_of (g.S.PollSource.gives c.args.source.now) (g.K.PollSink.takes c.args.sink.now) in
    let told : Told = record { handed = c.args.handed; stop = c.args.stop } in
    record {
      gone = subst (HasGone p.charter c.args.self.now.conn told c.args.self.now c.args.self.now p p v v) (sym c.new-budget.ensures)
          (gone_none p.charter c.args.self.now.conn told c.args.self.now p v);
      told = subst (HasTold c.args.self.now.state c.args.self.now.state) (sym c.new-budget.ensures) (told_none c.args.self.now.state);
      conn = refl;
      kept = λ fact holds. holds;
    }

pub more-preserved : goal.more-preserved
more-preserved g c =
    let told : Told = record { handed = c.args.handed; stop = c.args.stop } in
    let p = g.T.Turns.pass c.args.turns.now in
    let q = g.T.Turns.pass c.more.turns in
    let r = g.T.Turns.pass c.step.new.turns in
    let u = ports_of (g.S.PollSource.gives c.args.source.now) (g.K.PollSink.takes c.args.sink.now) in
    let v = ports_of (g.S.PollSource.gives c.more.source) (g.K.PollSink.takes c.more.sink) in
    let w = ports_of (g.S.PollSource.gives c.step.new.source) (g.K.PollSink.takes c.step.new.sink) in
    record {
      gone = gone_on_by p.charter c.args.self.now.conn told c.args.self.now c.more.self c.step.new.self p q r u v w c.more.budget c.step.new.budget c.more.invariant.gone
          (step_since c.args.self.now.conn told c.args.self.now c.more.self p q u v c.more.budget c.more.invariant.gone c.more.invariant.conn came.On c.step.new.self r w
          c.step.new.budget c.in-On.ensures.steps);
      told = told_on c.args.self.now.state c.more.self.state c.step.new.self.state c.more.budget c.step.new.budget c.more.invariant.told c.in-On.ensures.tells;
      conn = c.in-On.ensures.conn ∙ c.more.invariant.conn;
      kept = λ fact holds. c.in-On.ensures.kept fact (c.more.invariant.kept fact holds);
    }

pub step-requires-clause-stands : goal.step-requires-clause-stands
step-requires-clause-stands g c =
    can_now c.args.self.now.conn (record { handed = c.args.handed; stop = c.args.stop }) c.args.self.now c.more.self (g.T.Turns.pass c.args.turns.now) (g.T.Turns.pass c.more.turns)
    (ports_of (g.S.PollSource.gives c.args.source.now) (g.K.PollSink.takes c.args.sink.now)) (ports_of (g.S.PollSource.gives c.more.source) (g.K.PollSink.takes c.more.sink))
    c.more.budget c.more.invariant.gone c.more.invariant.conn c.requires.stands

pub returns-in-Pauses-clause-polls : goal.returns-in-Pauses-clause-polls
returns-in-Pauses-clause-polls g c =
    let told : Told = record { handed = c.args.handed; stop = c.args.stop } in
    let p = g.T.Turns.pass c.args.turns.now in
    let q = g.T.Turns.pass c.more.turns in
    let r = g.T.Turns.pass c.step.new.turns in
    let u = ports_of (g.S.PollSource.gives c.args.source.now) (g.K.PollSink.takes c.args.sink.now) in
    let v = ports_of (g.S.PollSource.gives c.more.source) (g.K.PollSink.takes c.more.sink) in
    let w = ports_of (g.S.PollSource.gives c.step.new.source) (g.K.PollSink.takes c.step.new.sink) in
    polls_pending c.args.self.now.conn told c.args.self.now c.more.self c.step.new.self c.step.new.cx p q r u v w c.more.budget c.step.new.budget c.in-Pauses.cause
    c.more.invariant.gone
    (step_since c.args.self.now.conn told c.args.self.now c.more.self p q u v c.more.budget c.more.invariant.gone c.more.invariant.conn (came.Pauses c.in-Pauses.cause)
    c.step.new.self r w c.step.new.budget c.in-Pauses.ensures.steps)
    c.in-Pauses.ensures.woken (g.met.T.Turns.sound c.step.new.turns)
    (told_on c.args.self.now.state c.more.self.state c.step.new.self.state c.more.budget c.step.new.budget c.more.invariant.told c.in-Pauses.ensures.tells)

pub returns-in-Ends-clause-polls : goal.returns-in-Ends-clause-polls
returns-in-Ends-clause-polls g c =
    let told : Told = record { handed = c.args.handed; stop = c.args.stop } in
    let p = g.T.Turns.pass c.args.turns.now in
    let q = g.T.Turns.pass c.more.turns in
    let r = g.T.Turns.pass c.step.new.turns in
    let u = ports_of (g.S.PollSource.gives c.args.source.now) (g.K.PollSink.takes c.args.sink.now) in
    let v = ports_of (g.S.PollSource.gives c.more.source) (g.K.PollSink.takes c.more.sink) in
    let w = ports_of (g.S.PollSource.gives c.step.new.source) (g.K.PollSink.takes c.step.new.sink) in
    polls_done c.args.self.now.conn told c.args.self.now c.more.self c.step.new.self c.step.new.cx p q r u v w c.more.budget c.step.new.budget c.in-Ends.ending
    c.more.invariant.gone
    (step_since c.args.self.now.conn told c.args.self.now c.more.self p q u v c.more.budget c.more.invariant.gone c.more.invariant.conn (came.Ends c.in-Ends.ending)
    c.step.new.self r w c.step.new.budget c.in-Ends.ensures.steps)
    (g.met.T.Turns.sound c.step.new.turns)
