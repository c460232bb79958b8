use Rattle.engine_serve.proofs.SendLemmas.{wrote_bare, wrote_full}
use Rattle.engine_serve.proofs.answer.write_whole.Goals as goal

pub returns-then-terms : goal.returns-then-terms
returns-then-terms g c = wrote_bare c.args.terms c.args.status c.args.form c.args.body.now c.write_head.result _ _ c.if-terms.true c.write_head.ensures

pub returns : goal.returns
returns g c = wrote_full c.args.terms c.args.status c.args.form c.args.body.now c.write_answer.result _ _ c.if-terms.false c.write_answer.ensures
