use Rattle.std.proofs.Common.{arith}
use Rattle.session_model.specs.declared.turned.Part.TheVariants as P
use Rattle.daemon_core.specs.Keeping.{history_of}
use Rattle.daemon_core.specs.Passing.{charter}
use Rattle.daemon_core.proofs.DaemonLemmas.{told_of}
use Rattle.daemon_core.proofs.EntryLemmas.{looked_at, told_last, told_more}
use Rattle.daemon_core.proofs.daemon.Daemon.journal_from.Goals as goal

pub returns-then-len-number : goal.returns-then-len-number
returns-then-len-number c =
    let d = c.args.self.now in
    let below = c.if-len-number.true in
    let count = c.len.ensures.count in
    λ k. looked_at k c.args.number P.UpToDate _ _ (charter d) (history_of d.stored.journal) d.legal
    (told_last (charter d) d.stored.journal c.args.number _ (told_of d).entries (omega (arith, below, count)))

pub returns-in-Ok : goal.returns-in-Ok
returns-in-Ok c =
    let d = c.args.self.now in
    let le = c.if-len-number.false in
    let count = c.len.ensures.count in
    λ k. looked_at k c.args.number (P.More _) _ _ (charter d) (history_of d.stored.journal) d.legal
    (told_more (charter d) d.stored.journal c.args.number _ _ (told_of d).entries (omega (arith, le, count)) c.in-Ok.ensures.ok)

pub returns-in-Err : goal.returns-in-Err
returns-in-Err c =
    let d = c.args.self.now in
    λ k. looked_at k c.args.number P.NoMemory _ _ (charter d) (history_of d.stored.journal) d.legal c.in-Err.ensures.err

pub overflow_add-result : goal.overflow_add-result
overflow_add-result c =
    let le = c.if-len-number.false in
    let small = c.len.ensures.small in
    omega (arith, le, small)
