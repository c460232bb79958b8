use Rattle.lab_program.specs.Serving.{TakesFrom}
use Rattle.lab_program.proofs.controls.fn.take_in.scope.Given as goal

abbrev pub invariant-loop : goal.invariant-loop
invariant-loop g l = record {
  iterator : (goal.iterator-loop g).can_next l.iterator' × (goal.iterator-loop g).is_finite l.iterator';
  takes : TakesFrom (g.E.Door.opens l.initial.open) (g.E.Door.opens l.open);
}
