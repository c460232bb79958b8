use Rattle.machine_events.proofs.DiedLemmas.{died_thaw, end_thawed}
use Rattle.machine_effects.proofs.tables.Tables.thaw_container.Goals as goal

pub thaw_main-requires-clause-end : goal.thaw_main-requires-clause-end
thaw_main-requires-clause-end c =
    end_thawed c.args.number c.args.brought c.args.self.now.room c.wake.new.self.room c.args.self.now.state c.wake.new.self.state c.wake.ensures.state c.wake.ensures.room c.requires.end

pub returns-clause-died : goal.returns-clause-died
returns-clause-died c = died_thaw c.args.number c.args.self.now.state c.wake.new.self.state _ c.wake.ensures.state c.thaw_main.ensures.died
