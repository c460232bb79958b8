use Rattle.std.proofs.Common.{◌≡◌}
use Rattle.machine_tables.specs.Settled.{deaths}
use Rattle.machine_tables.proofs.TicketLemmas.{upto}
use Rattle.machine_effects.proofs.tables.Tables.settle.Given as goal

abbrev pub invariant-loop-i : goal.invariant-loop-i
invariant-loop-i l = record {
  state : l.self.state ≡ upto l.i (deaths l.death) l.initial.self.state;
  room : l.self.room ≡ l.initial.self.room;
  spare : l.self.spare ≡ l.initial.self.spare;
}
