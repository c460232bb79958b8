-- What the shared daemon leaves, as the line's door tells it.
use Rattle.std.proofs.Common.{ℕ, ◌≡◌, ◌⊎◌, List, Option, Some, None, IfSome, IfNone, inl, inr, subst}
use Rattle.engine_ports.specs.Door.{DoorView}
use Rattle.session_model.specs.declared.ending.Worst.{Worst}
use Rattle.session_model.specs.declared.ending.Worst.TheVariants.{NoMemory}
use Rattle.daemon_core.specs.Storing.{charter_of}
use Rattle.daemon_core.specs.declared.daemon.Daemon.{Daemon}
use Rattle.door_model.specs.Connections.{most_from}
use Rattle.daemon_shared.specs.Running.{RunsDaemon}

-- there was no memory for a daemon, or one ran
pub ran_or_not : (seed : List ℕ) (opening n entries : ℕ) (w : Worst) (o : Option Daemon) (d d' : DoorView) → n ≡ entries
    → IfNone o ((w ≡ NoMemory) × (d' ≡ d)) → IfSome o (λ x. RunsDaemon (charter_of seed opening n) None (most_from 0 None) w x d d')
    → ((w ≡ NoMemory) × (d' ≡ d)) ⊎ ((daemon : Daemon) × RunsDaemon (charter_of seed opening entries) None (most_from 0 None) w daemon d d')
ran_or_not seed opening n entries w None d d' of_entries untouched ran = inl untouched
ran_or_not seed opening n entries w (Some x) d d' of_entries untouched ran =
    inr (x, subst (λ m. RunsDaemon (charter_of seed opening m) None (most_from 0 None) w x d d') of_entries ran)
