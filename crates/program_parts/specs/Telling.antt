-- What a program tells its user (own).
use Rattle.std.specs.Prelude.{ℕ, ◌≡◌, List, Result}
use Rattle.engine_ports.specs.Sink.{SinkView, WriteSays}
use Rattle.engine_ports.specs.declared.ports.Failed.{Failed}

-- a text is written, or its write failed
abbrev pub Tells : List ℕ → SinkView → SinkView → Type 0
Tells text u u' = (written : Result (Unit {0}) Failed) × WriteSays written text u u'

-- how the program is used is told, and the status is 2
abbrev pub TellsUsage : List ℕ → ℕ → SinkView → SinkView → Type 0
TellsUsage usage status u u' = (status ≡ 2) × Tells usage u u'
