use Rattle.std.proofs.Common.{arith, ◌∙◌, ◌-◌, ℕ, ap, sym}
use Rattle.std.specs.Option.{option_copied}
use Rattle.daemon_core.specs.Keeping.{history_of}
use Rattle.daemon_core.specs.Passing.{charter}
use Rattle.daemon_core.proofs.DaemonLemmas.{told_of}
use Rattle.daemon_core.proofs.EntryLemmas.{header_told, line_told, never_missing}
use Rattle.daemon_core.proofs.daemon.Daemon.append_line.Goals as goal

pub unreachable-requires : goal.unreachable-requires
unreachable-requires c =
    let d = c.args.self.now in
    let number : ℕ = c.args.number in
    never_missing d.stored.journal.entries (number - 1) (omega (arith, c.requires, c.if-number-eq0.false)) (sym c.entry.ensures ∙ ap option_copied c.in_default.is)

pub returns-then-number-eq0-clause-ok : goal.returns-then-number-eq0-clause-ok
returns-then-number-eq0-clause-ok c =
    let d = c.args.self.now in
    header_told (charter d) (history_of d.stored.journal) c.args.number _ _ c.append_header.result c.if-number-eq0.true c.append_header.ensures.ok

pub returns-clause-ok : goal.returns-clause-ok
returns-clause-ok c =
    let d = c.args.self.now in
    line_told (charter d) d.stored.journal c.args.number c.in-Some.entry.now _ _ c.append_entry.result (told_of d).entries c.if-number-eq0.false
    (sym c.entry.ensures ∙ ap option_copied c.in-Some.is) c.append_entry.ensures.ok
