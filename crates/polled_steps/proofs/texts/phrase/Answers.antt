use Rattle.std.proofs.Common.{arith, rules, ◌≡◌, length, sym, ap}
use Rattle.http_edge.specs.Response.{phrase_of}
use Rattle.http_edge.proofs.PhraseLemmas.{phrase_short, no_phrase}
use Rattle.polled_steps.proofs.texts.phrase.Goals as goal

pub returns-in-Ok-clause-short : goal.returns-in-Ok-clause-short
returns-in-Ok-clause-short c =
    let text : c.unwrap_or.result.now ≡ phrase_of c.args.status = search rules in
    omega (arith, ap length text, phrase_short c.args.status c.in-Ok.ensures.0.1)

pub returns-in-Err-clause-text : goal.returns-in-Err-clause-text
returns-in-Err-clause-text c = sym (no_phrase c.args.status c.in-Err.ensures)
