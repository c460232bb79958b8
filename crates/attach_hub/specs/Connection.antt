-- What a connection stands on, as far as it is told, and a turn that it takes (own).
use Rattle.std.specs.Prelude.{ℕ, ◌≡◌, [], ◌∷◌, Some, IsTrue}
use Rattle.engine_ports.specs.Sink.{SinkView}
use Rattle.engine_ports.specs.Clock.{ClockView, ClockHanded}
use Rattle.engine_text.specs.declared.call.Call.{Call}
use Rattle.session_model.specs.declared.turned.Turned.{Turned}
use Rattle.session_model.specs.Pass.{PassView, IsNumber}
use Rattle.session_model.specs.Turning.{Turn}

-- which connection it is: its number, and the names of the references to turns, sink and clock that are lent to it
pub record Who : Type 0 where
  pub number : ℕ
  pub lent : ℕ × ℕ × ℕ

-- what is told of what it stands on
pub record ConnectionView : Type 0 where
  pub who : Who
  pub pass : PassView
  pub sink : SinkView
  pub clock : ClockView

-- that of connection k, under these names
abbrev pub view_of : ℕ → ℕ × ℕ × ℕ → PassView → SinkView → ClockView → ConnectionView
view_of k lent p u v = record { who = record { number = k; lent = lent }; pass = p; sink = u; clock = v }

-- the pass has its number, and the number of its input isn't given away
pub record HasNumbers (x : ConnectionView) : Type 0 where
  pub number : IsNumber x.pass.number x.who.number
  pub pair : IsTrue x.pass.pair

-- a turn with this call was taken at a moment that the clock handed, and else nothing happened
pub record TakesTurn (c : Call) (result : Turned) (x y : ConnectionView) : Type 0 where
  pub handed : ℕ
  pub clock : ClockHanded x.clock (handed ∷ []) y.clock
  pub turn : Turn x.who.number handed (Some c) result x.pass y.pass
  pub same : y ≡ record x { pass = y.pass; clock = y.clock }
