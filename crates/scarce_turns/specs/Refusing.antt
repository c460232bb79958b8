-- Turns of an owner, of which some are refused (own: for tests).
use Rattle.std.specs.Prelude.{◌≡◌, true, Option}
use Rattle.engine_text.specs.declared.call.Call.{Call}
use Rattle.session_model.specs.Pass.{PassView}
use Rattle.session_model.specs.declared.turned.Turned.{Turned}
use Rattle.session_model.specs.declared.turned.Turned.TheVariants.{NoMemory}
use Rattle.daemon_core.specs.Passing.{alone_pass}
use Rattle.scarce_turns.specs.Scarcity.{counted_on, is_refused}
use Rattle.scarce_turns.specs.declared.counting.Scarcity.{Scarcity}
use Rattle.scarce_turns.specs.declared.refusing.Scarce.{Scarce}

-- its pass is the owner's
abbrev pub scarce_pass : Scarce → PassView
scarce_pass s = alone_pass s.turns

-- those of this pass, refused by this scarcity, of which none was counted yet
pub record IsFresh (p : PassView) (scarcity : Scarcity) (s : Scarce) : Type 0 where
  pub pass : scarce_pass s ≡ p
  pub scarcity_is : s.scarcity ≡ scarcity
  pub none_yet : s.asked ≡ 0

-- a turn was counted; one that is to be refused says so, and nothing changed in the daemon
pub record TurnsScarcely (c : Option Call) (result : Turned) (s s' : Scarce) : Type 0 where
  pub counted : s'.asked ≡ counted_on s.scarcity s.asked c
  pub same : s'.scarcity ≡ s.scarcity
  pub refused : is_refused s.scarcity s.asked c ≡ true → (result ≡ NoMemory) × (scarce_pass s' ≡ scarce_pass s)
