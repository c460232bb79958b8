use Rattle.std.proofs.Common.{sym, ◌∙◌, ap, subst}
use Rattle.turnstile.specs.Plays.{Learned}
use Rattle.turnstile.specs.Views.{admittee, admits}
use Rattle.daemon_shared.specs.Sharing.{author_of, IsKept}
use Rattle.daemon_shared.proofs.PairLemmas.{parted_off}
use Rattle.daemon_shared.proofs.pairing.SharedPairs.part.Goals as goal

pub returns-clause-some : goal.returns-clause-some
returns-clause-some g c =
    let told = c.in-Ok.ensures.admitted in
    let same = c.new.ensures.pass in
    parted_off c.args.conn _ _ _ c.args.self.now.pass.me.0 told.looked_to c.admit.new.pass.me.0 c.new.result.pass.me.0
    c.requires.connection c.requires.number told.looked (told.left ∙ ap (λ n. admits n told.looked_to) c.input_of.ensures)
    (same.0 ∙ told.is ∙ ap (λ n. admittee n told.looked_to) c.input_of.ensures)
    (subst (Learned author_of IsKept) (sym same.0) told.learned) c.in-Ok.ensures.pass.1.0
    (same.1 ∙ told.pass.own_table ∙ sym c.in-Ok.ensures.pass.0.own_table)
