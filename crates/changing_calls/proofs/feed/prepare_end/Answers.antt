use Rattle.changing_calls.proofs.FeedLemmas.{end_coming, end_over, end_taken}
use Rattle.changing_calls.proofs.feed.prepare_end.Goals as goal

pub returns-in-Live : goal.returns-in-Live
returns-in-Live c = end_taken c.fed.result c.args.moment c.args.tables.now.state c.args.owner c.args.run c.end_plan.result c.run_of.result c.run_of.ensures c.in-Live.is c.end_plan.ensures c.fed.ensures

pub returns-in-Over : goal.returns-in-Over
returns-in-Over c = end_over c.fed-in-Over.result c.args.moment c.args.tables.now.state c.args.owner c.args.run c.run_of.result c.run_of.ensures c.in-Over.is c.fed-in-Over.ensures

pub returns-in-Coming : goal.returns-in-Coming
returns-in-Coming c = end_coming c.fed-in-Coming.result c.args.moment c.args.tables.now.state c.args.owner c.args.run c.run_of.result c.run_of.ensures c.in-Coming.is c.fed-in-Coming.ensures
