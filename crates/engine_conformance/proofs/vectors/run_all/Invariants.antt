use Rattle.std.proofs.Common.{take}
use Rattle.engine_conformance.specs.Reports.{Reports, vectors}
use Rattle.engine_conformance.proofs.vectors.run_all.Given as goal

abbrev pub invariant-vectors : goal.invariant-vectors
invariant-vectors g l = Reports (take l.place vectors) l.report
