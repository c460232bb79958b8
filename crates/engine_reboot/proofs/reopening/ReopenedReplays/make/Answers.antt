use Rattle.std.proofs.Common.{[], ◌∷◌, ◌∙◌, ap}
use Rattle.engine_text.specs.declared.step.Step.{Step}
use Rattle.daemon_core.specs.Keeping.{history_of}
use Rattle.daemon_core.specs.Passing.{charter, whole_pass}
use Rattle.engine_reboot.specs.Reopening.{standing_of}
use Rattle.engine_reboot.proofs.ReopenLemmas.{call_next, stands_on}
use Rattle.engine_reboot.proofs.reopening.ReopenedReplays.make.Goals as goal

pub invariant_of-self-2 : goal.invariant_of-self-2
invariant_of-self-2 c =
    let d = c.args.self.now.daemon in
    record {
      first = call_next (whole_pass c.make_call.new.self) (charter d) (history_of d.stored.journal) c.args.conn c.args.moment c.args.self.now.next
          c.next_behind-self.result c.args.call.now c.in_ok-reply.ensures.made c.args.self.now.first c.next_behind-self.ensures;
    }

pub returns-clause-made : goal.returns-clause-made
returns-clause-made c =
    let d = c.args.self.now.daemon in
    ap standing_of c.in_ok-reply.ensures.made
    ∙ stands_on (charter d) (history_of d.stored.journal) (Step.Call c.args.conn c.args.moment c.args.call.now ∷ [])
