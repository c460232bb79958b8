use Rattle.std.proofs.Common.{◌≡◌, ◌∙◌, inl, inr, refl, subst, ap, arith, length, []}
use Rattle.std.specs.Result.{IfOk}
use Rattle.engine_ports.specs.Door.{outside}
use Rattle.session_model.specs.declared.ending.Ending.TheVariants.{NoMemory}
use Rattle.daemon_core.specs.Passing.{alone_pass, whole_pass}
use Rattle.daemon_core.specs.Storing.{pass_of}
use Rattle.daemon_shared.specs.Running.{ServesBy}
use Rattle.engine_program.specs.Opening.{charter_by, steps_of}
use Rattle.program_parts.specs.Statuses.{status_by}
use Rattle.engine_program.proofs.SessionLemmas.{unread}
use Rattle.engine_program.proofs.running.run_session.Goals as goal

-- there was no memory for a daemon
pub returns-in_default : goal.returns-in_default
returns-in_default g c =
    let seed_length : length c.args.line.seed ≡ 32 = omega arith in
    let ch = charter_by c.args.line c.opening_by-opening.result in
    record {
      opening = c.opening_by-opening.result;
      opened = g.C.Clock.times c.opening_by-opening.new.clock;
      opens = c.opening_by-opening.ensures.opens;
      ending = NoMemory;
      status_is = c.status_by.ensures;
      pass = pass_of ch [];
      serves = unread (steps_of c.args.line.clock) 0 (pass_of ch []) _ _ _ refl ((seed_length, c.opening_by-opening.ensures.moment), tt);
      whole = inr (refl, refl);
    }

-- the session was served
pub returns : goal.returns
returns g c =
    let ch = charter_by c.args.line c.opening_by-opening.result in
    let began = c.new-turns.ensures ∙ subst (λ r. IfOk r (λ made. whole_pass made.0 ≡ pass_of ch [])) c.in-Ok.is c.daemon_of.ensures in
    record {
      opening = c.opening_by-opening.result;
      opened = g.C.Clock.times c.opening_by-opening.new.clock;
      opens = c.opening_by-opening.ensures.opens;
      ending = c.serve_by-ending.result;
      status_is = c.status_by-2.ensures ∙ ap status_by c.called_by.ensures;
      pass = alone_pass c.serve_by-ending.new.turns;
      serves =
          subst (λ s. ServesBy s 0 c.serve_by-ending.result (pass_of ch []) (alone_pass c.serve_by-ending.new.turns)
          (outside (g.S.Source.gives c.args.source.now) (g.K.Sink.takes c.args.sink.now) (g.C.Clock.times c.opening_by-opening.new.clock))
          (outside (g.S.Source.gives c.serve_by-ending.new.from) (g.K.Sink.takes c.serve_by-ending.new.into) (g.C.Clock.times c.serve_by-ending.new.time)))
          c.steps_of-steps.ensures
          (subst (λ p. ServesBy c.steps_of-steps.result 0 c.serve_by-ending.result p (alone_pass c.serve_by-ending.new.turns)
          (outside (g.S.Source.gives c.args.source.now) (g.K.Sink.takes c.args.sink.now) (g.C.Clock.times c.opening_by-opening.new.clock))
          (outside (g.S.Source.gives c.serve_by-ending.new.from) (g.K.Sink.takes c.serve_by-ending.new.into) (g.C.Clock.times c.serve_by-ending.new.time)))
          began c.serve_by-ending.ensures);
      whole = inl (c.serve_by-ending.new.turns.daemon, refl);
    }
