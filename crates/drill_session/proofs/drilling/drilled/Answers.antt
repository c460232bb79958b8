use Rattle.std.proofs.Common.{◌∙◌, ℕ, List, ap, sym}
use Rattle.engine_ports.specs.Memory.{sink_of}
use Rattle.session_model.specs.Pass.{PassView}
use Rattle.daemon_core.specs.Keeping.{history_of}
use Rattle.daemon_core.specs.Passing.{charter, alone_pass}
use Rattle.drill_session.specs.Running.{charter_by, Session}
use Rattle.drill_session.proofs.DrillLemmas.{session_of}
use Rattle.drill_session.proofs.drilling.drilled.Goals as goal

pub outcome-drilled-requires-clause-charter : goal.outcome-drilled-requires-clause-charter
outcome-drilled-requires-clause-charter g c =
    ap (λ (p : PassView). p.charter) c.daemon.ensures ∙ c.serve-ending.ensures.goes.same.charter
    ∙ ap (λ (p : PassView). p.charter) (c.new-turns.ensures ∙ c.in_ok-daemon.ensures)

pub returns : goal.returns
returns g c =
    let ch = charter_by c.args.drill in
    let before = g.C.Clock.times c.args.clock.now in
    let after = g.C.Clock.times c.serve-ending.new.clock in
    let d = c.serve-ending.new.turns.daemon in
    let session : Session ch c.args.drill.requests c.serve-ending.result before after =
    session_of ch (charter d) c.args.drill.requests c.serve-ending.result before after (history_of d.stored.journal) (alone_pass c.new-turns.result)
    c.new-source.result c.serve-ending.new.source (sink_of c.in_ok-sink.sink) c.serve-ending.new.sink
    (c.new-turns.ensures ∙ c.in_ok-daemon.ensures) (c.new-source.ensures ∙ ap (λ (l : List ℕ). record { left = l; ends = 0 }) c.in_ok-bytes.ensures)
    c.in_ok-sink.ensures c.serve-ending.ensures in
    c.outcome-drilled.ensures before after session (sym c.bytes.ensures) (sym (ap (λ (p : PassView). p.seen) c.daemon.ensures))
