use Rattle.std.proofs.Common.{inl, refl}
use Rattle.session_model.specs.declared.ending.Worst.TheVariants.{NoMemory}
use Rattle.engine_program.proofs.ListenLemmas.{ran_or_not}
use Rattle.engine_program.proofs.listening.serve_door.Goals as goal

-- there was no memory for the routes
pub returns-in_default : goal.returns-in_default
returns-in_default g c = record {
  opening = c.opening_by-moment.result;
  opens = c.opening_by-moment.ensures.opens;
  worst = NoMemory;
  status_is = c.status_by.ensures;
  runs = inl (refl, refl);
}

pub returns : goal.returns
returns g c = record {
  opening = c.opening_by-moment.result;
  opens = c.opening_by-moment.ensures.opens;
  worst = c.run_daemon-worst.result.0;
  status_is = c.status_by-2.ensures;
  runs = ran_or_not _ _ _ _ _ _ _ _ c.run_daemon-worst.result.1 _ _ c.from.ensures c.steps_of-steps.ensures
      c.run_daemon-worst.ensures.none c.run_daemon-worst.ensures.some;
}
