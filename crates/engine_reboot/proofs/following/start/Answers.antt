use Rattle.std.proofs.Common.{ℕ, List, sym, subst}
use Rattle.daemon_core.specs.Keeping.{history_of}
use Rattle.daemon_core.specs.Passing.{charter, whole_pass}
use Rattle.engine_reboot.specs.Following.{StepSays, how_far}
use Rattle.engine_reboot.specs.declared.following.Followed.{Followed}
use Rattle.engine_reboot.specs.declared.planning.Planned.TheVariants.{Start}
use Rattle.engine_reboot.proofs.FollowLemmas.{start_ended, start_says}
use Rattle.engine_reboot.proofs.following.start.Goals as goal

pub how_far-requires : goal.how_far-requires
how_far-requires c =
    let d = c.args.daemon.now in
    let e = c.turn-turned.new.self in
    start_ended c.in-Ok.target c.args.handed c.turn-turned.result (charter d) (charter e) (history_of d.stored.journal) (history_of e.stored.journal)
    c.turn-turned.ensures

pub returns : goal.returns
returns c =
    let d = c.args.daemon.now in
    let e = c.turn-turned.new.self in
    subst (λ (r : Followed). StepSays c.args.handed (Start c.args.id.now) r (whole_pass d) (whole_pass e)) (sym c.how_far.ensures)
    (subst (λ (t : List ℕ). StepSays c.args.handed (Start t) (how_far c.turn-turned.result) (whole_pass d) (whole_pass e)) c.in-Ok.ensures
    (start_says c.in-Ok.target c.args.handed c.turn-turned.result (charter d) (charter e) (history_of d.stored.journal) (history_of e.stored.journal)
    c.turn-turned.ensures))
