use Rattle.engine_serve.proofs.AskLemmas.{lost_at, sent_at}
use Rattle.engine_serve.proofs.streaming.send_stream.Goals as goal

pub returns-in-Err-clause-sends : goal.returns-in-Err-clause-sends
returns-in-Err-clause-sends g c =
    lost_at c.args.terms c.args.reply.now c.args.form c.in-Err.field-0 _ _ _ c.conn.view_is c.requires.form c.in-Err.ensures

pub returns-in-Ok-clause-sends : goal.returns-in-Ok-clause-sends
returns-in-Ok-clause-sends g c =
    sent_at c.args.terms c.args.reply.now c.args.form c.follow-followed.result c.end_stream.result _ _ _ _ _ _ c.conn.view_is c.requires.numbers
    c.requires.form c.in-Ok.ensures c.follow-followed.ensures.follows c.conn-in-Ok.view_is c.end_stream.ensures
