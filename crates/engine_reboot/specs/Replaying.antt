-- What a text tells of a history (own: format 2, which names its opening).
use Rattle.std.specs.Prelude.{◌≡◌, ℕ, IsFalse, List, length}
use Rattle.engine_text.specs.declared.step.Step.{Step}
use Rattle.history_replay.specs.Legal.{journal_of}
use Rattle.history_replay.specs.Upgrading.{is_legal}
use Rattle.journal_lines.specs.JournalLines.{IsHeader}
use Rattle.journal_lines.specs.Line.{BeginsWithHeader}
use Rattle.journal_lines.specs.Verdict.{IsVerdict}
use Rattle.journal_lines.specs.declared.format.Format.TheVariants.{Second}
use Rattle.journal_lines.specs.declared.verdict.Verdict.{Verdict}
use Rattle.journal_lines.specs.declared.verdict.Verdict.TheVariants.{Legal}
use Rattle.machine_model.specs.History.{Charter, IsLegal}
use Rattle.daemon_core.specs.Passing.{whole_pass}
use Rattle.daemon_core.specs.Storing.{pass_of}
use Rattle.engine_reboot.specs.declared.replaying.Replayed.{Replayed}
use Rattle.engine_reboot.specs.declared.replaying.Replayed.TheVariants.{Done, Not, Old}

-- The text is of format 2, and the journal of a legal history from the opening that its header names, up to its last call: it is
-- called legal, with as many steps. Of the greatest number of entries it tells nothing.
pub record IsWritten (text : List ℕ) (greatest : ℕ) (ch : Charter) (h : List Step) : Type 0 where
  pub header : IsHeader ch.seed ch.opening
  pub legal : IsLegal ch h
  pub told : text ≡ journal_of Second ch h
  pub verdict : (given : Charter) → IsVerdict given text (Legal (length h))
  pub most : ch.greatest ≡ greatest

-- It is of format 2, and isn't legal, whatever is given beside it.
abbrev pub IsRefused : List ℕ → Verdict → Type 0
IsRefused text v = BeginsWithHeader text × ((given : Charter) → IsVerdict given text v) × IsFalse (is_legal v)

-- It isn't of format 2: it has no header.
abbrev pub IsOld : List ℕ → Type 0
IsOld text = BeginsWithHeader text → ⊥

-- What a text was found to be: the journal of the history that the daemon holds, one that isn't legal, or one without a header.
abbrev pub IsReplayed : List ℕ → ℕ → Replayed → Type 0
IsReplayed text greatest (Done r) =
    (ch : Charter) × (h : List Step) × IsWritten text greatest ch h × (whole_pass r.daemon ≡ pass_of ch h)
IsReplayed text greatest (Not v) = IsRefused text v
IsReplayed text greatest Old = IsOld text
