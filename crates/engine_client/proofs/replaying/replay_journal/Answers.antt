use Rattle.client_model.specs.Commands.Replay.{opened, judgement_plan}
use Rattle.engine_client.proofs.ReplayLemmas.{told_of}
use Rattle.engine_client.proofs.replaying.replay_journal.Goals as goal

pub returns-in-Ok : goal.returns-in-Ok
returns-in-Ok g c = λ link e.
    told_of (opened c.args.seed c.args.moment) (judgement_plan c.args.upgrade) c.in-Ok.text.items c.deref.result.now c.tell.result _ _ _ _
    c.in-Ok.ensures c.deref.ensures.value (c.tell.ensures link e)
