-- Which sessions write (own).
use Rattle.session_poll.specs.declared.state.State.{State}

abbrev pub IsSending : State → Type 0
IsSending (State.Sends answer) = Unit {0}
IsSending state = ⊥

abbrev pub IsRefusing : State → Type 0
IsRefusing (State.Refuses out status) = Unit {0}
IsRefusing state = ⊥
