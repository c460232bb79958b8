-- What is said of a journal that standard input gives (own: the verdict on it, and of a legal one its text in format 2).
use Rattle.std.specs.Prelude.{ℕ, ◌≡◌, List, [], length}
use Rattle.engine_text.specs.declared.step.Step.{Step}
use Rattle.machine_model.specs.History.{Charter, IsLegal}
use Rattle.journal_lines.specs.Entries.{history_entries}
use Rattle.journal_lines.specs.JournalLines.{journal_text}
use Rattle.journal_lines.specs.Verdict.{IsVerdict, IsReadAs, Reading}
use Rattle.journal_lines.specs.declared.format.Format.TheVariants.{Second}
use Rattle.journal_lines.specs.declared.verdict.Verdict.{Verdict}
use Rattle.journal_lines.specs.declared.verdict.Verdict.TheVariants.{Legal}

-- the verdict, and the text in format 2, which only a legal journal has
pub record Judgement : Type 0 where
  pub verdict : Verdict
  pub upgrade : List ℕ

-- the text is the journal of a legal history of so many steps, and the new one is that history's in format 2, of which it is said,
-- whatever is given, that it is legal, with as many
pub record IsUpgrade (given : Charter) (text : List ℕ) (steps : ℕ) (new : List ℕ) : Type 0 where
  pub how : Reading
  pub history : List Step
  pub read : IsReadAs given text how
  pub legal : IsLegal how.charter history
  pub long : length history ≡ steps
  pub old : text ≡ journal_text how.format how.charter (history_entries how.charter history)
  pub told : new ≡ journal_text Second how.charter (history_entries how.charter history)
  pub again : (other : Charter) → IsVerdict other new (Legal steps)

-- a legal journal has its text in format 2, and another has none
abbrev pub HasUpgrade : Charter → List ℕ → Verdict → List ℕ → Type 0
HasUpgrade given text (Legal steps) new = IsUpgrade given text steps new
HasUpgrade given text verdict new = new ≡ []

-- it is said of this text, by what is given where no header says it
abbrev pub IsJudgement : Charter → List ℕ → Judgement → Type 0
IsJudgement given text j = IsVerdict given text j.verdict × HasUpgrade given text j.verdict j.upgrade
