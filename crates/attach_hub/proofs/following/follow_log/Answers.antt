use Rattle.session_model.proofs.HistoryLemmas.{extends_same}
use Rattle.attach_hub.proofs.following.follow_log.Goals as goal

pub returns-clause-follows : goal.returns-clause-follows
returns-clause-follows g c = c.follow.ensures.follows.since _ (extends_same c.args.conn.now.pass.seen) c.requires.may
