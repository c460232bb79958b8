use Rattle.std.proofs.Common.{◌∙◌, sym}
use Rattle.engine_reboot.proofs.RebootLemmas.{goes_on, no_places, no_room}
use Rattle.engine_reboot.proofs.rebooting.go_on.Goals as goal

pub returns-then-not-fits : goal.returns-then-not-fits
returns-then-not-fits c = λ text ch h w is.
    no_places text c.args.greatest ch h c.args.reopened.daemon c.machine-machine.result.now.memory.state c.args.handed c.calls-entries.result w is
    c.machine-machine.ensures (sym c.has_all_places-fits.ensures ∙ c.if-not-fits.true) c.calls-entries.ensures

pub returns-in-Whole : goal.returns-in-Whole
returns-in-Whole c = λ text ch h w is.
    goes_on text c.args.greatest ch h c.args.reopened.daemon c.follow_plan.new.daemon c.machine-machine.result.now.memory.state c.args.handed
    c.args.reopened.next w is c.machine-machine.ensures (sym c.has_all_places-fits.ensures ∙ c.if-not-fits.false) (rw c.in-Whole.is at c.follow_plan.ensures)
    c.texts.ensures c.law_complete.ensures c.args.reopened.first

pub returns-in-Full : goal.returns-in-Full
returns-in-Full c = λ text ch h w is.
    no_room text c.args.greatest ch h c.args.reopened.daemon c.follow_plan.new.daemon c.machine-machine.result.now.memory.state c.args.handed
    c.calls-entries.result w is c.machine-machine.ensures (rw c.in-Full.is at c.follow_plan.ensures) c.calls-entries.ensures
