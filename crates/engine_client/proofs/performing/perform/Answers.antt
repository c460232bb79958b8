use Rattle.engine_client.proofs.PerformLemmas.{performs_ask, performs_text, performs_judgement}
use Rattle.engine_client.proofs.performing.perform.Goals as goal

pub returns-in-Asks : goal.returns-in-Asks
returns-in-Asks g c = λ plan is. performs_ask c.args.step.now c.in-Asks.ask c.in-Asks.place plan c.ask_and_go_on.result _ _ _ _ c.in-Asks.is is c.ask_and_go_on.ensures

pub returns-in-Writes : goal.returns-in-Writes
returns-in-Writes g c = λ plan is.
    performs_text c.args.step.now c.in-Writes.text c.in-Writes.status plan _ c.write_all.result c.ended.result _ _ _ c.in-Writes.is is c.deref.ensures.value c.ended.ensures (c.write_all.ensures _ _)

pub returns-in-Judges : goal.returns-in-Judges
returns-in-Judges g c = λ plan is.
    performs_judgement c.args.step.now c.in-Judges.upgrade c.in-Judges.seed c.in-Judges.moment plan c.replay_journal.result c.ended-in-Judges.result _ _ _ _ c.in-Judges.is is c.ended-in-Judges.ensures (c.replay_journal.ensures _ _)
