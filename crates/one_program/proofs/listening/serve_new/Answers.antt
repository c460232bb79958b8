use Rattle.std.proofs.Common.{[], ap, inl, refl, ◌∙◌}
use Rattle.session_model.specs.declared.ending.Worst.TheVariants.{NoMemory}
use Rattle.daemon_core.specs.Storing.{charter_of, pass_of}
use Rattle.one_program.proofs.ListenLemmas.{begun_as}
use Rattle.one_program.proofs.listening.serve_new.Goals as goal

-- there was no memory for a daemon
pub returns-in_default : goal.returns-in_default
returns-in_default g c = record {
  opening = c.opening_by-moment.result;
  opened = _;
  opens = c.opening_by-moment.ensures.opens;
  serves = record { worst = NoMemory; status_is = c.status_by.ensures; comes = inl (refl, refl, refl, refl) };
}

pub returns : goal.returns
returns g c = record {
  opening = c.opening_by-moment.result;
  opened = _;
  opens = c.opening_by-moment.ensures.opens;
  serves =
      begun_as c.args.line 0 _ (pass_of (charter_of c.args.seed c.opening_by-moment.result c.args.line.entries) []) _ _ _ _ _ _ _
      (c.in-Ok.ensures ∙ ap (λ n. pass_of (charter_of c.args.seed c.opening_by-moment.result n) []) c.from.ensures) c.serve_door.ensures;
}
