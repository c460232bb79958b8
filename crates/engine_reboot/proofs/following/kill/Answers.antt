use Rattle.std.proofs.Common.{ℕ, List, sym, subst}
use Rattle.daemon_core.specs.Keeping.{history_of}
use Rattle.daemon_core.specs.Passing.{charter, whole_pass}
use Rattle.engine_reboot.specs.Following.{StepSays, how_far}
use Rattle.engine_reboot.specs.declared.following.Followed.{Followed}
use Rattle.engine_reboot.specs.declared.planning.Planned.TheVariants.{Kill}
use Rattle.engine_reboot.proofs.FollowLemmas.{kill_ended, kill_says}
use Rattle.engine_reboot.proofs.following.kill.Goals as goal

pub how_far-requires : goal.how_far-requires
how_far-requires c =
    let d = c.args.daemon.now in
    let e = c.turn-turned.new.self in
    kill_ended c.in-Ok.target c.turn-turned.result (charter d) (charter e) (history_of d.stored.journal) (history_of e.stored.journal) c.turn-turned.ensures

pub returns : goal.returns
returns c = λ handed.
    let d = c.args.daemon.now in
    let e = c.turn-turned.new.self in
    subst (λ (r : Followed). StepSays handed (Kill c.args.id.now) r (whole_pass d) (whole_pass e)) (sym c.how_far.ensures)
    (subst (λ (t : List ℕ). StepSays handed (Kill t) (how_far c.turn-turned.result) (whole_pass d) (whole_pass e)) c.in-Ok.ensures
    (kill_says c.in-Ok.target handed c.turn-turned.result (charter d) (charter e) (history_of d.stored.journal) (history_of e.stored.journal) c.turn-turned.ensures))
