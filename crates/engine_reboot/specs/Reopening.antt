-- Where a daemon stands on which a written history is made again, and who may connect behind it (own).
use Rattle.std.specs.Prelude.{ℕ, ◌+◌, max, nat_lt, if◌then◌else◌, List, [], ◌∷◌, Some}
use Rattle.engine_text.specs.declared.step.Step.{Step}
use Rattle.machine_model.specs.History.{state_after}
use Rattle.session_model.specs.Pass.{PassView}
use Rattle.history_replay.specs.Standing.{Standing}

-- The state behind all that its owner has seen, and these steps.
abbrev pub standing_of : PassView → Standing
standing_of p = record { state = state_after p.charter p.seen; kept = Some (record { charter = p.charter; steps = p.seen }) }

-- One more than the number of a client; other connections are none's.
abbrev pub behind_client : ℕ → ℕ
behind_client connection = if nat_lt connection 2147483646 then connection + 1 else 0

-- One more than the greatest number of a client among the calls of a history, or 0.
abbrev pub next_connection : List Step → ℕ
next_connection [] = 0
next_connection (Step.Due ∷ h) = next_connection h
next_connection (Step.Call connection moment c ∷ h) = max (behind_client connection) (next_connection h)
