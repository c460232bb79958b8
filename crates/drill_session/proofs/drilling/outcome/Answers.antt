use Rattle.std.proofs.Common.{inr}
use Rattle.daemon_core.specs.Keeping.{history_of}
use Rattle.drill_session.specs.Running.{charter_by}
use Rattle.drill_session.proofs.DrillLemmas.{reported, wants}
use Rattle.drill_session.proofs.drilling.outcome.Goals as goal

pub returns-in_ok-text-in-Closed : goal.returns-in_ok-text-in-Closed
returns-in_ok-text-in-Closed c = λ t t'. reported (charter_by c.args.drill) c.args.drill.requests c.args.ending t t' c.args.bytes.now
    (history_of c.args.daemon.now.stored.journal) c.in_ok-text-in-Closed.text c.in-Closed.is c.in_ok-text-in-Closed.ensures

pub returns-in_err-text-in-Closed : goal.returns-in_err-text-in-Closed
returns-in_err-text-in-Closed c = λ t t' s wrote seen.
    wants c.from_residual.result _ (charter_by c.args.drill) c.args.drill.requests t t'
    c.from_residual.ensures.1 (inr (c.args.ending, s))

pub returns-in-WriteFault : goal.returns-in-WriteFault
returns-in-WriteFault c = λ t t' s wrote seen. inr (c.args.ending, s)

pub returns-in_default : goal.returns-in_default
returns-in_default c = λ t t' s wrote seen. (c.in_default.not-Closed, c.in_default.not-WriteFault, s)
