use Rattle.machine_effects.proofs.DueLemmas.{id_changed}
use Rattle.machine_effects.proofs.tables.Tables.removal_deadline.Goals as goal

pub time_out-requires : goal.time_out-requires
time_out-requires c = id_changed c.args.number c.args.self.now.state c.clear_timer.new.self.state c.renew.new.self.state c.clear_timer.ensures.state c.renew.ensures.state c.requires
