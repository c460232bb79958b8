use Rattle.engine_client.proofs.InputLemmas.{ReadSoFar}
use Rattle.engine_client.proofs.input.read_all.Given as goal

abbrev pub invariant-loop : goal.invariant-loop
invariant-loop g l = record {
  iterator : (goal.iterator-loop g).can_next l.iterator' × (goal.iterator-loop g).is_finite l.iterator';
  so : ReadSoFar l.fn.text.items l.text.items (g.N.Source.gives l.fn.input) (g.N.Source.gives l.input);
}
