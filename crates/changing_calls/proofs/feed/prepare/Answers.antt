use Rattle.changing_calls.proofs.FeedLemmas.{feed_coming, feed_over, feed_taken}
use Rattle.changing_calls.proofs.feed.prepare.Goals as goal

pub returns-in_ok-piece-in-Live : goal.returns-in_ok-piece-in-Live
returns-in_ok-piece-in-Live c = feed_taken c.fed.result c.args.moment c.args.tables.now.state c.args.owner c.args.run c.in_ok-piece-in-Live.piece c.args.bytes.now c.run_of.result c.run_of.ensures c.in-Live.is c.in_ok-piece-in-Live.ensures c.fed.ensures

pub returns-in-Over : goal.returns-in-Over
returns-in-Over c = feed_over c.fed-in-Over.result c.args.moment c.args.tables.now.state c.args.owner c.args.run c.args.bytes.now c.run_of.result c.run_of.ensures c.in-Over.is c.fed-in-Over.ensures

pub returns-in-Coming : goal.returns-in-Coming
returns-in-Coming c = feed_coming c.fed-in-Coming.result c.args.moment c.args.tables.now.state c.args.owner c.args.run c.args.bytes.now c.run_of.result c.run_of.ensures c.in-Coming.is c.fed-in-Coming.ensures
