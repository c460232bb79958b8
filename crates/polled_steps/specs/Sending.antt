-- Bytes that are sent as far as they go (own).
use Rattle.std.specs.Prelude.{ℕ, ◌≡◌, ◌<◌, List, [], ◌++◌, length}
use Rattle.engine_ports.specs.Rose.{Rose, raised}
use Rattle.engine_ports.specs.Sink.{SinkTook}
use Rattle.futures.specs.Task.{IsArmed}
use Rattle.futures.specs.declared.task.context.Context.{Context}
use Rattle.polled_ports.specs.PollSink.{PollSinkView}
use Rattle.polled_steps.specs.Bytes.{rest_of}
use Rattle.polled_steps.specs.declared.outgoing.Outgoing.{Outgoing}
use Rattle.polled_steps.specs.declared.sending.Sent.{Sent}
use Rattle.polled_steps.specs.declared.sending.Sent.TheVariants as sent

-- some of the front went
abbrev pub SendsSome : Outgoing → Outgoing → PollSinkView → PollSinkView → Type 0
SendsSome out out' u u' =
    (part : List ℕ) × (0 < length part) × (rest_of out ≡ part ++ rest_of out') × SinkTook u.sink part u'.sink
    × (u'.took ≡ raised u.took)

-- it did; or none went, and the sink registered; or none, and it failed
abbrev pub SendSays : Sent → Outgoing → Outgoing → PollSinkView → PollSinkView → Type 0
SendSays sent.Some out out' u u' = SendsSome out out' u u' × (u'.registered ≡ u.registered)
SendSays sent.Waits out out' u u' =
    (out' ≡ out) × (u'.sink ≡ u.sink) × (u'.took ≡ u.took) × Rose u.registered u'.registered
SendSays sent.Fault out out' u u' = SinkTook u.sink [] u'.sink × Rose u.sink.faults u'.sink.faults

abbrev pub IsArmedBy : Sent → Context → Type 0
IsArmedBy sent.Waits cx = IsArmed cx
IsArmedBy result cx = Unit {0}
