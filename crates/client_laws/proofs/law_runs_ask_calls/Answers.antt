use Rattle.client_laws.proofs.LineLemmas.{asks-calls, ends-by-calls, breaks-off-by-calls}
use Rattle.client_laws.proofs.law_runs_ask_calls.Goals as goal

pub returns-clause-asks : goal.returns-clause-asks
returns-clause-asks c = asks-calls c.args.words.now c.words_are_texts.ensures

pub returns-clause-ended : goal.returns-clause-ended
returns-clause-ended c = ends-by-calls c.args.words.now c.words_are_texts.ensures

pub returns-clause-broken_off : goal.returns-clause-broken_off
returns-clause-broken_off c = breaks-off-by-calls c.args.words.now c.words_are_texts.ensures
