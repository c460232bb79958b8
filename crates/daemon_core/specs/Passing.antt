-- The pass of who takes all turns of a daemon (own).
use Rattle.machine_model.specs.History.{Charter}
use Rattle.session_model.specs.Pass.{PassView}
use Rattle.daemon_core.specs.Keeping.{history_of}
use Rattle.daemon_core.specs.Storing.{charter_of, pass_of}
use Rattle.daemon_core.specs.declared.daemon.Daemon.{Daemon}
use Rattle.daemon_core.specs.declared.alone.Alone.{Alone}

abbrev pub charter : Daemon → Charter
charter d = charter_of d.seed d.opening d.greatest

-- it has seen the daemon's whole history
abbrev pub whole_pass : Daemon → PassView
whole_pass d = pass_of (charter d) (history_of d.stored.journal)

abbrev pub alone_pass : Alone → PassView
alone_pass a = whole_pass a.daemon
