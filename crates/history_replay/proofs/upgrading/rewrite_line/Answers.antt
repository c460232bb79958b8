use Rattle.std.proofs.Common.{subst}
use Rattle.journal_lines.specs.Line.{IsLineFault}
use Rattle.journal_lines.specs.declared.format.Format.TheVariants.{First}
use Rattle.history_replay.proofs.UpgradeLemmas.{rewrote}
use Rattle.history_replay.proofs.upgrading.rewrite_line.Goals as goal

pub returns-in-Ok : goal.returns-in-Ok
returns-in-Ok c =
    rewrote c.args.line.now c.args.out.now.items c.append_once.new.out.items c.in-Ok.entry c.append_once.result c.in-Ok.ensures.taken.0 c.in-Ok.ensures.taken.1
    c.append_once.ensures

pub unreachable-requires : goal.unreachable-requires
unreachable-requires c = subst (IsLineFault First c.args.line.now) c.in-Err-BadLine.field-0-is c.in-Err-BadLine.ensures.refused c.requires
