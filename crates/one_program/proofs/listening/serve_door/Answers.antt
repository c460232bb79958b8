use Rattle.std.proofs.Common.{inl, inr, refl}
use Rattle.session_model.specs.declared.ending.Worst.TheVariants.{NoMemory}
use Rattle.one_program.proofs.ListenLemmas.{came_of}
use Rattle.one_program.proofs.listening.serve_door.Goals as goal

-- there was no memory for the routes
pub returns-in_default : goal.returns-in_default
returns-in_default g c = record {
  worst = NoMemory;
  status_is = c.status_by.ensures;
  comes = inl (refl, refl, refl, refl);
}

pub returns : goal.returns
returns g c = record {
  worst = c.run_by-worst.result.0;
  status_is = c.status_by-2.ensures;
  comes = inr (came_of c.args.line c.args.first c.run_by-worst.result.0 c.run_by-worst.result.1 _ _ _ _ _ _ _ c.run_by-worst.ensures.none c.run_by-worst.ensures.some);
}
