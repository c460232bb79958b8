use Rattle.std.specs.Prelude.{◌≡◌, length}
use Rattle.machine_model.specs.History.{input_of}
use Rattle.session_model.specs.Pass.{IsNumber}
use Rattle.attach_hub.proofs.PumpLemmas.{Pumping}
use Rattle.attach_hub.proofs.pumping.pump_by.Given as goal

abbrev pub invariant-loop : goal.invariant-loop
invariant-loop g l =
    let pass = g.T.Turns.pass in
    record {
      iterator : (goal.iterator-loop g).can_next l.iterator' × (goal.iterator-loop g).is_finite l.iterator';
      number : IsNumber (pass l.turns).number (input_of l.conn);
      place : length l.place ≡ 32768;
      pumping : Pumping l.conn l.spec l.run (pass l.fn.turns) (pass l.turns) l.fn.reader.ahead l.reader.ahead
          (g.S.Source.gives l.fn.source) (g.S.Source.gives l.source) (g.C.Clock.times l.fn.clock) (g.C.Clock.times l.clock);
    }
