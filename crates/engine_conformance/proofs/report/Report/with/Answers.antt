use Rattle.engine_conformance.proofs.ReportLemmas.{passes_more, fails_more}
use Rattle.engine_conformance.proofs.report.Report.with.Goals as goal

pub returns-then-passes : goal.returns-then-passes
returns-then-passes c = λ numbers. passes_more numbers c.args.number c.args.self

pub returns : goal.returns
returns c = λ numbers. fails_more numbers c.args.number c.args.self c.or.result c.or.ensures
