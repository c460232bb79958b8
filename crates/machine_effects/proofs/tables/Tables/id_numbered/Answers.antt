use Rattle.std.proofs.Common.{subst, sym}
use Rattle.std.specs.Prelude.{IsUtf8}
use Rattle.machine_effects.proofs.IdLemmas.{id_utf8}
use Rattle.machine_effects.proofs.tables.Tables.id_numbered.Goals as goal

pub unreachable-requires : goal.unreachable-requires
unreachable-requires c = c.in-Err.ensures.cases.0 (subst IsUtf8 (sym c.id_of.ensures) (id_utf8 c.self.inside.seed c.args.number))
