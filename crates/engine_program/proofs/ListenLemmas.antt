-- What the shared daemon leaves, as a line's door tells it.
use Rattle.std.proofs.Common.{ℕ, ◌≡◌, ◌⊎◌, List, Option, Some, None, IfSome, IfNone, inl, inr, subst}
use Rattle.engine_ports.specs.Door.{DoorView}
use Rattle.session_model.specs.declared.ending.Worst.{Worst}
use Rattle.session_model.specs.declared.ending.Worst.TheVariants.{NoMemory}
use Rattle.daemon_core.specs.Storing.{charter_of}
use Rattle.daemon_core.specs.declared.daemon.Daemon.{Daemon}
use Rattle.daemon_shared.specs.Running.{RunsDaemon}

-- there was no memory for a daemon, or one ran
pub ran_or_not : (seed : List ℕ) (opening n entries : ℕ) (steps clock : Option (ℕ × ℕ)) (most : ℕ)
    (w : Worst) (o : Option Daemon) (d d' : DoorView)
    → n ≡ entries → steps ≡ clock
    → IfNone o ((w ≡ NoMemory) × (d' ≡ d))
    → IfSome o (λ x. RunsDaemon (charter_of seed opening n) steps most w x d d')
    → ((w ≡ NoMemory) × (d' ≡ d))
    ⊎ ((daemon : Daemon) × RunsDaemon (charter_of seed opening entries) clock most w daemon d d')
ran_or_not seed opening n entries steps clock most w None d d' of_entries of_clock untouched ran =
    inl untouched
ran_or_not seed opening n entries steps clock most w (Some x) d d' of_entries of_clock untouched ran =
    inr (
      x,
      subst (λ s. RunsDaemon (charter_of seed opening entries) s most w x d d') of_clock
          (subst (λ m. RunsDaemon (charter_of seed opening m) steps most w x d d') of_entries ran),
    )
