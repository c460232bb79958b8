use Rattle.std.proofs.Common.{◌∙◌, ap, refl}
use Rattle.daemon_shared.specs.Sharing.{home_of}
use Rattle.daemon_shared.proofs.TurnLemmas.{still_held}
use Rattle.daemon_shared.proofs.ServeLemmas.{passes}
use Rattle.daemon_shared.proofs.SessionLemmas.{left_by}
use Rattle.daemon_shared.proofs.sharing.session.Goals as goal

pub learn-requires : goal.learn-requires
learn-requires g c =
    still_held _ _ c.args.begun.pass c.into_pass-pass.result c.into_pass-pass.ensures.pass c.requires.pass.own_table
    (ap home_of c.into_pass-pass.ensures.same.1 ∙ (passes _ _ _ _ _ _ _ c.serve_by-ending.ensures).same.home ∙ ap home_of c.new-turns.ensures.pass.1)

pub returns : goal.returns
returns g c =
    let held = still_held _ _ c.args.begun.pass c.into_pass-pass.result c.into_pass-pass.ensures.pass c.requires.pass.own_table
    (ap home_of c.into_pass-pass.ensures.same.1 ∙ (passes _ _ _ _ _ _ _ c.serve_by-ending.ensures).same.home ∙ ap home_of c.new-turns.ensures.pass.1) in
    let left = left_by c.args.steps c.args.begun.number c.serve_by-ending.result _ c.args.begun.pass c.new-turns.result.pass
    c.serve_by-ending.new.turns.pass c.into_pass-pass.result c.learn.new.pass _ _ _ c.requires.pass.own_table c.new-turns.ensures.pass
    c.serve_by-ending.ensures c.into_pass-pass.ensures.same held c.learn.ensures.pass.0 c.learn.ensures.stays
    c.part-past.ensures in
    record { number = refl; pass = left.0; learned = c.learn.ensures.learned; serves = left.1 }
