use Rattle.client_laws.proofs.SentLemmas.{sends-calls, sends-calls-so-far}
use Rattle.client_laws.proofs.law_runs_send_calls.Goals as goal

pub returns-clause-ended : goal.returns-clause-ended
returns-clause-ended c = sends-calls c.args.words.now c.words_are_texts.ensures c.law_sent.ensures.ended

pub returns-clause-broken_off : goal.returns-clause-broken_off
returns-clause-broken_off c = sends-calls-so-far c.args.words.now c.words_are_texts.ensures c.law_sent.ensures.broken
