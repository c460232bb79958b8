use Rattle.std.proofs.Common.{refl, sym, ap, ◌∙◌, append-nil}
use Rattle.container_table.specs.Lists.{last_of}
use Rattle.machine_tables.proofs.LastLemmas.{last_all}
use Rattle.machine_tables.proofs.moments.Moments.add.Goals as goal

pub loop-e-init : goal.loop-e-init
loop-e-init c = record {
  moments = sym (ap (last_of 65536) (append-nil c.args.self.now.moments) ∙ last_all 65536 c.args.self.now.moments c.few.ensures);
  room = refl;
}
