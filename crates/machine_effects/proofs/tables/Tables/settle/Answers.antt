use Rattle.std.proofs.Common.{◌∙◌, arith}
use Rattle.machine_tables.specs.Settled.{deaths}
use Rattle.machine_tables.proofs.TicketLemmas.{upto_low, upto_next, upto_end}
use Rattle.machine_effects.proofs.tables.Tables.settle.Goals as goal

pub settle_at-requires : goal.settle_at-requires
settle_at-requires c = upto_low c.loop-i.i (deaths c.args.death) c.args.self.now.state c.loop-i.self.state c.loop-i.invariant.state (omega (arith, c.tickets_len-i-end.ensures))

pub loop-i-preserved : goal.loop-i-preserved
loop-i-preserved c = record {
  state = upto_next c.loop-i.i (deaths c.args.death) c.args.self.now.state c.loop-i.self.state c.settle_at.new.self.state c.loop-i.invariant.state (omega (arith, c.tickets_len-i-end.ensures)) c.settle_at.ensures.state;
  room = c.settle_at.ensures.room ∙ c.loop-i.invariant.room;
  spare = c.settle_at.ensures.spare ∙ c.loop-i.invariant.spare;
}

pub returns-clause-state : goal.returns-clause-state
returns-clause-state c = upto_end c.loop-i.i (deaths c.args.death) c.args.self.now.state c.loop-i.self.state c.loop-i.invariant.state (omega (arith, c.tickets_len-i-end.ensures))
