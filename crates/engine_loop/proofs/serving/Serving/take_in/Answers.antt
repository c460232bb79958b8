use Rattle.std.proofs.Common.{refl}
use Rattle.engine_loop.proofs.AskLemmas.{refused_by, taken_by}
use Rattle.engine_loop.proofs.PauseLemmas.{stood_same, stood_taken}
use Rattle.engine_loop.proofs.serving.Serving.take_in.Goals as goal

pub returns-in-Ok-clause-takes : goal.returns-in-Ok-clause-takes
returns-in-Ok-clause-takes g c = taken_by g.S.PollSource.gives g.K.PollSink.takes c.args.self.now c.prepare-prepared.new.self
    (record { number = c.args.self.now.coming.next; conn = c.new-conn.result; came = c.of-came.result; session = c.in-Ok.session }) _ c.args.source c.args.sink _
    c.prepare-prepared.ensures.same c.prepare-prepared.ensures.connections c.push_back_reserved.ensures.items refl c.requires.may c.of-came.ensures c.new-conn.ensures c.in-Ok.ensures.ok

pub returns-in-Err-clause-takes : goal.returns-in-Err-clause-takes
returns-in-Err-clause-takes g c = refused_by g.S.PollSource.gives g.K.PollSink.takes c.args.self.now c.prepare-prepared.new.self _ c.args.source c.args.sink (g.D.PollDoor.opens c.args.door.now) (g.D.PollDoor.opens c.leave.new.self)
    c.prepare-prepared.ensures.same c.prepare-prepared.ensures.connections c.requires.may c.worse_of-self.ensures c.leave.ensures.0

pub returns-in-Ok-clause-stood : goal.returns-in-Ok-clause-stood
returns-in-Ok-clause-stood g c = stood_taken g.S.PollSource.gives g.K.PollSink.takes _ _ _
    (record { number = c.args.self.now.coming.next; conn = c.new-conn.result; came = c.of-came.result; session = c.in-Ok.session })
    c.prepare-prepared.ensures.connections c.push_back_reserved.ensures.items c.of-came.ensures

pub returns-in-Err-clause-stood : goal.returns-in-Err-clause-stood
returns-in-Err-clause-stood g c = stood_same g.S.PollSource.gives g.K.PollSink.takes _ _ c.prepare-prepared.ensures.connections
