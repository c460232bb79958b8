-- `replay`: standard input read to its end, and what is printed of the judgement on it (own).
use Rattle.std.specs.Prelude.{ℕ, ◌≡◌, ◌⊎◌, ⊤, false, List, [], ◌∷◌, ◌++◌, codes, decimal, Vec, Result, Ok, Err}
use Rattle.std.specs.declared.alloc.Global.{Global}
use Rattle.engine_ports.specs.Rose.{Rose}
use Rattle.engine_ports.specs.Source.{SourceView, SourceGave, SourceEnded}
use Rattle.journal_lines.specs.declared.verdict.Verdict.{Verdict}
use Rattle.journal_lines.specs.declared.verdict.Verdict.TheVariants.{Legal, Illegal, BadLine}
use Rattle.machine_model.specs.History.{Charter}
use Rattle.history_replay.specs.declared.upgrading.Upgraded.{Upgraded}
use Rattle.history_replay.specs.declared.upgrading.Upgraded.TheVariants.{Text, Not}
use Rattle.client_model.specs.Judgement.{Judgement, IsJudgement}
use Rattle.client_model.specs.Plans.{Plan, Ends, Judges, Done, to_out}
use Rattle.client_model.specs.Commands.Replay.{verdict_plan}
use Rattle.client_model.specs.declared.fault.Fault.{Fault}
use Rattle.client_model.specs.declared.fault.Fault.TheVariants as F
use Rattle.client_exchange.specs.Exchanges.{Reach}
use Rattle.engine_client.specs.Writing.{PrintsOrLacks}

-- ---- standard input

-- it failed, or memory for it was refused
abbrev pub ReadingFails : Fault → SourceView → SourceView → Type 0
ReadingFails F.Input v v' = Rose v.faults v'.faults
ReadingFails F.NoMemory v v' = ⊤
ReadingFails fault v v' = ⊥

-- this stood in the way of reading all of it
abbrev pub IsUnread : Fault → SourceView → SourceView → Type 0
IsUnread fault v v' = (input : List ℕ) × SourceGave v input v' × ReadingFails fault v v'

-- all of it was read, behind the text that stood there before
abbrev pub ReadsAll : Result (Unit {0}) Fault → List ℕ → List ℕ → SourceView → SourceView → Type 0
ReadsAll (Ok x) text text' v v' =
    (input : List ℕ) × (text' ≡ text ++ input) × SourceGave v input v' × SourceEnded v v'
ReadsAll (Err fault) text text' v v' = IsUnread fault v v'

-- all of it is this text
abbrev pub ReadsInput : Result (Vec ℕ Global) Fault → SourceView → SourceView → Type 0
ReadsInput (Ok text) v v' = SourceGave v text.items v' × SourceEnded v v'
ReadsInput (Err fault) v v' = IsUnread fault v v'

-- ---- the verdict, and the journal in format 2

-- the lines of a verdict
abbrev pub verdict_lines : Verdict → List (List ℕ)
verdict_lines (Legal steps) = (codes "legal " ++ decimal steps) ∷ []
verdict_lines (Illegal line kept found) =
    (codes "illegal line " ++ decimal line) ∷ (codes "kept " ++ kept) ∷ (codes "found " ++ found) ∷ []
verdict_lines (BadLine line) = (codes "bad line " ++ decimal line) ∷ []

-- the status of a verdict
abbrev pub verdict_status : Verdict → ℕ
verdict_status (Legal steps) = 0
verdict_status (Illegal line kept found) = 1
verdict_status (BadLine line) = 3

-- what is told of a journal that is asked for in format 2
abbrev pub upgraded_plan : Upgraded → Plan
upgraded_plan (Text new) = Ends (to_out new) (Done 0)
upgraded_plan (Not verdict) = verdict_plan false [] verdict

-- ---- a plan that asks for a judgement

-- this is the judgement on the text, and what goes on by it was printed
pub record IsTold (charter : Charter) (next : Judgement → Plan) (text : List ℕ) (result : Result ℕ Fault) (o o' : Reach) : Type 0 where
  pub judgement : Judgement
  pub is : IsJudgement charter text judgement
  pub prints : PrintsOrLacks (next judgement) result o o'

-- that, or nothing was printed for want of memory
abbrev pub IsToldOrLacks : Charter → (Judgement → Plan) → List ℕ → Result ℕ Fault → Reach → Reach → Type 0
IsToldOrLacks charter next text result o o' = IsTold charter next text result o o' ⊎ ((result ≡ Err F.NoMemory) × (o' ≡ o))

-- standard input was read to its end, this is the judgement on it, and what goes on by it was printed
pub record HasJudgement (charter : Charter) (next : Judgement → Plan) (result : Result ℕ Fault) (v v' : SourceView) (o o' : Reach) : Type 0 where
  pub input : List ℕ
  pub gave : SourceGave v input v'
  pub ended : SourceEnded v v'
  pub told : IsTold charter next input result o o'

-- there is no judgement, and nothing was printed
pub record HasNoJudgement (result : Result ℕ Fault) (v v' : SourceView) (o o' : Reach) : Type 0 where
  pub fault : Fault
  pub is : result ≡ Err fault
  pub unread : IsUnread fault v v'
  pub unshown : o' ≡ o

abbrev pub Judged : Plan → Result ℕ Fault → SourceView → SourceView → Reach → Reach → Type 0
Judged (Judges charter next) result v v' o o' =
    HasJudgement charter next result v v' o o' ⊎ HasNoJudgement result v v' o o'
Judged plan result v v' o o' = ⊥
