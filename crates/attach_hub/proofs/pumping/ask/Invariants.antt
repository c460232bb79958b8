use Rattle.machine_model.specs.History.{input_of}
use Rattle.session_model.specs.Pass.{IsNumber}
use Rattle.attach_hub.proofs.HearLemmas.{Asking}
use Rattle.attach_hub.proofs.pumping.ask.Given as goal

abbrev pub invariant-loop : goal.invariant-loop
invariant-loop g l =
    let pass = g.T.Turns.pass in
    record {
      iterator : (goal.iterator-loop g).can_next l.iterator' × (goal.iterator-loop g).is_finite l.iterator';
      number : IsNumber (pass l.turns).number (input_of l.conn);
      asking : Asking l.conn (pass l.fn.turns) (pass l.turns) (g.C.Clock.times l.fn.clock) (g.C.Clock.times l.clock);
    }
