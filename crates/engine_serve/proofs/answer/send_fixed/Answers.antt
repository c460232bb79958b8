use Rattle.engine_serve.proofs.SendLemmas.{json_same, sent_as}
use Rattle.engine_serve.proofs.answer.send_fixed.Goals as goal

pub returns : goal.returns
returns g c = sent_as c.args.terms _ _ c.send_json.result _ _ (json_same c.args.terms _ _ _ _ c.status.ensures c.as_slice.ensures) c.send_json.ensures
