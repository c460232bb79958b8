use Rattle.std.proofs.Common.{sym, ◌∙◌}
use Rattle.engine_client.proofs.PerformLemmas.{wrote_none, none_so, some_so}
use Rattle.engine_client.proofs.writing.write_all.Goals as goal

pub returns-then-is_empty : goal.returns-then-is_empty
returns-then-is_empty g c = λ link e. wrote_none c.args.text.now c.args.status link _ e (none_so c.args.text.now (sym c.is_empty.ensures ∙ c.if-is_empty.true))

pub returns : goal.returns
returns g c = λ link e. c.write_some.ensures link e (some_so c.args.text.now (sym c.is_empty.ensures ∙ c.if-is_empty.false))
