use Rattle.std.proofs.Common.{ℕ, Option, subst}
use Rattle.daemon_core.specs.Storing.{charter_of}
use Rattle.engine_program.specs.Opening.{charter_by, steps_of}
use Rattle.engine_program.specs.Drilling.{DrillsBy}
use Rattle.engine_program.proofs.DrillLemmas.{never_three}
use Rattle.engine_program.proofs.drilling.run_line_drill.Goals as goal

pub returns : goal.returns
returns g c =
    let line = c.args.line in
    let requests : ℕ = c.args.requests in
    let opening : ℕ = c.opening_by-opening.result in
    let drilled = c.drill_by-drilled.result in
    let opened = g.C.Clock.times c.opening_by-opening.new.clock in
    let after = g.C.Clock.times c.drill_by-drilled.new.clock in
    let sink = g.K.Sink.takes c.args.sink.now in
    let told = g.K.Sink.takes c.tell_drilled.new.sink in
    let drills : DrillsBy (steps_of line.clock) (charter_by line opening) requests drilled opened after =
    subst (λ (steps : Option (ℕ × ℕ)). DrillsBy steps (charter_by line opening) requests drilled opened after) c.steps_of.ensures
    (subst (λ (entries : ℕ). DrillsBy c.steps_of.result (charter_of line.seed opening entries) requests drilled opened after) c.from.ensures
    c.drill_by-drilled.ensures) in
    record {
      opening = opening;
      opened = opened;
      opens = c.opening_by-opening.ensures.opens;
      drilled = drilled;
      drills = drills;
      tells = c.tell_drilled.ensures;
      unrefused = never_three (steps_of line.clock) (charter_by line opening) requests opened after drilled c.tell_drilled.result sink told drills c.tell_drilled.ensures;
    }
