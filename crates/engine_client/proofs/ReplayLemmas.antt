-- What is told of a journal, by its verdict or its text in format 2.
use Rattle.std.proofs.Common.{◌≡◌, ◌⊎◌, inl, inr, ℕ, List, [], length, Bool, true, false, IsFalse, Result, Err, refl, sym, subst}
use Rattle.engine_ports.specs.Source.{SourceView, SourceGave, SourceEnded}
use Rattle.machine_model.specs.History.{Charter}
use Rattle.journal_lines.specs.Verdict.{IsVerdict}
use Rattle.journal_lines.specs.declared.verdict.Verdict.{Verdict}
use Rattle.journal_lines.specs.declared.verdict.Verdict.TheVariants.{Legal, Illegal, BadLine}
use Rattle.history_replay.specs.Upgrading.{IsInSecond, IsUpgraded, is_legal}
use Rattle.history_replay.specs.declared.upgrading.Upgraded.{Upgraded}
use Rattle.history_replay.specs.declared.upgrading.Upgraded.TheVariants.{Text, Not}
use Rattle.client_model.specs.Judgement.{Judgement, IsUpgrade, IsJudgement}
use Rattle.client_model.specs.Plans.{Plan, Judges}
use Rattle.client_model.specs.Commands.Replay.{verdict_plan, judgement_plan}
use Rattle.client_model.specs.declared.fault.Fault.{Fault}
use Rattle.client_model.specs.declared.fault.Fault.TheVariants as F
use Rattle.client_exchange.specs.Exchanges.{Reach}
use Rattle.engine_client.specs.Writing.{PrintsOrLacks}
use Rattle.engine_client.specs.Replaying.{upgraded_plan, IsTold, IsToldOrLacks, Judged}

upgrade_of : (given : Charter) (text : List ℕ) (steps : ℕ) (new : List ℕ) (up : IsInSecond given text new) → length up.history ≡ steps → IsUpgrade given text steps new
upgrade_of given text steps new up count = record {
  how = up.how;
  history = up.history;
  read = up.read;
  legal = up.legal;
  long = count;
  old = up.old;
  told = up.told;
  again = λ other. subst (λ n. IsVerdict other new (Legal n)) count (up.again other);
}

module _ (given : Charter) (text : List ℕ) where
  -- a judgement on the text by which this is told
  abbrev Told : Bool → Plan → Type 0
  Told upgrade plan = (j : Judgement) × IsJudgement given text j × (judgement_plan upgrade j ≡ plan)

  -- where it is legal, it has a text in format 2
  abbrev pub IsUpgradable : Type 0
  IsUpgradable = (steps : ℕ) → IsVerdict given text (Legal steps) → (new : List ℕ) × (up : IsInSecond given text new) × (length up.history ≡ steps)

  by_verdict : IsUpgradable → (v : Verdict) → IsVerdict given text v → Told false (verdict_plan false [] v)
  by_verdict some (Legal steps) said =
      let (new, up, count) = some steps said in
      (record { verdict = Legal steps; upgrade = new }, (said, upgrade_of given text steps new up count), refl)
  by_verdict some (Illegal line kept found) said = (record { verdict = Illegal line kept found; upgrade = [] }, (said, refl), refl)
  by_verdict some (BadLine line) said = (record { verdict = BadLine line; upgrade = [] }, (said, refl), refl)

  not_legal : (v : Verdict) → IsVerdict given text v → IsFalse (is_legal v) → Told true (verdict_plan false [] v)
  not_legal (Legal steps) said never = absurd (both never)
    where
      both : true ≡ false → ⊥
      both e = cc
  not_legal (Illegal line kept found) said never = (record { verdict = Illegal line kept found; upgrade = [] }, (said, refl), refl)
  not_legal (BadLine line) said never = (record { verdict = BadLine line; upgrade = [] }, (said, refl), refl)

  by_upgraded : (u : Upgraded) → IsUpgraded given text u → Told true (upgraded_plan u)
  by_upgraded (Text new) up =
      (record { verdict = Legal (length up.history); upgrade = new }, (up.verdict, upgrade_of given text (length up.history) new up refl), refl)
  by_upgraded (Not v) (said, never) = not_legal v said never

  told : (upgrade : Bool) (plan : Plan) (result : Result ℕ Fault) (o o' : Reach) → Told upgrade plan → PrintsOrLacks plan result o o'
      → IsTold given (judgement_plan upgrade) text result o o'
  told upgrade plan result o o' (j, is, same) prints =
      record { judgement = j; is = is; prints = subst (λ p. PrintsOrLacks p result o o') (sym same) prints }

  pub verdict_told : (v : Verdict) (result : Result ℕ Fault) (o o' : Reach) → IsUpgradable → IsVerdict given text v
      → PrintsOrLacks (verdict_plan false [] v) result o o' → IsToldOrLacks given (judgement_plan false) text result o o'
  verdict_told v result o o' some said prints = inl (told false (verdict_plan false [] v) result o o' (by_verdict some v said) prints)

  pub upgrade_told : (u : Upgraded) (result : Result ℕ Fault) (o o' : Reach) → IsUpgraded given text u
      → PrintsOrLacks (upgraded_plan u) result o o' → IsToldOrLacks given (judgement_plan true) text result o o'
  upgrade_told u result o o' is prints = inl (told true (upgraded_plan u) result o o' (by_upgraded u is) prints)

-- of all that standard input gave
pub told_of : (given : Charter) (next : Judgement → Plan) (text bytes : List ℕ) (result : Result ℕ Fault) (v v' : SourceView) (o o' : Reach)
    → SourceGave v text v' × SourceEnded v v' → bytes ≡ text → IsToldOrLacks given next bytes result o o' → Judged (Judges given next) result v v' o o'
told_of given next text bytes result v v' o o' (gave, ended) same (inl told) =
    inl (record { input = text; gave = gave; ended = ended; told = subst (λ t. IsTold given next t result o o') same told })
told_of given next text bytes result v v' o o' (gave, ended) same (inr (lack, unshown)) =
    inr (record { fault = F.NoMemory; is = lack; unread = (text, gave, tt); unshown = unshown })
