use Rattle.std.proofs.Common.{◌∙◌, arith, length, ap}
use Rattle.machine_events.specs.Fit.{thaw_number}
use Rattle.machine_events.proofs.EachLemmas.{loop_more, loop_end}
use Rattle.machine_effects.proofs.tables.Tables.thaw_execs.Goals as goal

pub loop-i-preserved : goal.loop-i-preserved
loop-i-preserved c =
    record {
      state = loop_more thaw_number c.note_running.new.self.scratch c.loop-i.self.scratch c.loop-i.i c.noted_at-exec.result c.note_running.new.self.state c.loop-i.self.state c.thaw_exec.new.self.state
          c.loop-i.invariant.state c.loop-i.invariant.scratch c.noted_at-exec.ensures (omega (arith, c.noted-i-end.ensures, ap length c.loop-i.invariant.scratch)) c.thaw_exec.ensures.state;
      room = c.thaw_exec.ensures.room ∙ c.loop-i.invariant.room;
      spare = c.thaw_exec.ensures.spare ∙ c.loop-i.invariant.spare;
      timely = c.thaw_exec.ensures.timely;
      scratch = c.thaw_exec.ensures.scratch ∙ c.loop-i.invariant.scratch;
    }

pub returns-clause-state : goal.returns-clause-state
returns-clause-state c = loop_end thaw_number c.args.number c.note_running.new.self.scratch c.loop-i.i c.args.self.now.state c.note_running.new.self.state c.loop-i.self.state
    (omega (arith, c.noted-i-end.ensures)) c.note_running.ensures.scratch c.note_running.ensures.state c.loop-i.invariant.state
