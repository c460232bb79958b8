-- What writing on comes to, within what one poll may do (own).
use Rattle.std.specs.Prelude.{◌≡◌, ◌≤◌, ◌-◌, []}
use Rattle.futures.specs.Task.{IsArmed}
use Rattle.futures.specs.declared.task.context.Context.{Context}
use Rattle.polled_ports.specs.PollSink.{PollSinkView}
use Rattle.polled_steps.specs.Bytes.{rest_of}
use Rattle.polled_steps.specs.Sending.{SendSays}
use Rattle.polled_steps.specs.declared.outgoing.Outgoing.{Outgoing}
use Rattle.polled_steps.specs.declared.sending.Sent.TheVariants as sent
use Rattle.session_poll.specs.Standing.{IsWoken}
use Rattle.session_poll.specs.declared.budget.Budget.{Budget}
use Rattle.session_poll.specs.declared.writing.Wrote.{Wrote}
use Rattle.session_poll.specs.declared.writing.Wrote.TheVariants as wrote

-- nothing is left to be written; some bytes went; none goes yet; no more may go in this poll; or the sink failed
abbrev pub WroteSays : Wrote → Outgoing → Outgoing → PollSinkView → PollSinkView → Budget → Budget → Type 0
WroteSays wrote.All out out' u u' b b' = (rest_of out ≡ []) × (out' ≡ out) × (u' ≡ u) × (b' ≡ b)
WroteSays wrote.Some out out' u u' b b' =
    SendSays sent.Some out out' u u' × (1 ≤ b.writes) × (b' ≡ record b { writes = b.writes - 1 })
WroteSays wrote.Waits out out' u u' b b' = SendSays sent.Waits out out' u u' × (b' ≡ b)
WroteSays wrote.Tired out out' u u' b b' = (b.writes ≡ 0) × (out' ≡ out) × (u' ≡ u) × (b' ≡ b)
WroteSays wrote.Fault out out' u u' b b' = SendSays sent.Fault out out' u u' × (b' ≡ b)

abbrev pub WakesBy : Wrote → Context → Type 0
WakesBy wrote.Waits cx = IsArmed cx
WakesBy wrote.Tired cx = IsWoken cx × IsArmed cx
WakesBy result cx = Unit {0}
