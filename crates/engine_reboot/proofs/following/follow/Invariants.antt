use Rattle.std.proofs.Common.{drop}
use Rattle.daemon_core.specs.Keeping.{history_of}
use Rattle.daemon_core.specs.Passing.{charter, whole_pass}
use Rattle.engine_reboot.proofs.WalkLemmas.{IsFollowed}
use Rattle.engine_reboot.proofs.following.follow.Given as goal

abbrev pub invariant-calls : goal.invariant-calls
invariant-calls l =
    IsFollowed (charter l.fn.daemon) (history_of l.fn.daemon.stored.journal) l.handed l.plan (whole_pass l.daemon) (drop l.planned-index l.plan)
