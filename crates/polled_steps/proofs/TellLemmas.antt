-- What a part of a stream came to that was asked for once.
use Rattle.std.proofs.Common.{◌≡◌, ◌≤◌, max, ℕ, List, [], ◌∷◌, ◌++◌, refl, sym, subst, false, Option}
use Rattle.std.specs.Prelude.{IsSome, IsTrue}
use Rattle.engine_ports.specs.Clock.{untold_clock}
use Rattle.engine_text.specs.declared.filter.FilterRow.{FilterRow}
use Rattle.engine_text.specs.declared.reply.LogSpec.{LogSpec}
use Rattle.engine_text.specs.declared.reply.Reply.{Reply}
use Rattle.engine_text.specs.declared.reply.Reply.TheVariants as reply
use Rattle.engine_text.specs.declared.step.Step.{Step}
use Rattle.machine_model.specs.History.{Charter, HasNone, acts_by, moment_used, state_from}
use Rattle.machine_model.specs.State.{State}
use Rattle.session_model.specs.declared.turned.Part.{Part}
use Rattle.session_model.specs.declared.turned.Part.TheVariants as P
use Rattle.session_model.specs.Exchange.{IsCaughtUp}
use Rattle.session_model.specs.Pass.{PassView}
use Rattle.session_model.specs.Responses.{chunked_form}
use Rattle.session_model.specs.Turning.{found}
use Rattle.session_model.proofs.DueLemmas.{dues_clock, some_clock}
use Rattle.session_model.proofs.HistoryLemmas.{dues_done, dues_none, some_none}
use Rattle.session_model.proofs.TurnLemmas.{state_seen}
use Rattle.daemon_core.specs.EventTurns.{EventTurn}
use Rattle.daemon_core.specs.JournalTurns.{JournalTurn}
use Rattle.daemon_core.specs.LogTurns.{LogTurn}
use Rattle.daemon_core.specs.PartTurns.{PartDues, PartTurn}
use Rattle.attach_hub.proofs.StandLemmas.{Stands, look_stands, turn_stands}
use Rattle.polled_steps.specs.Telling.{AsksPart, IsAskedLate}
use Rattle.polled_steps.proofs.TurnLemmas.{untold}

-- ---- of a log and of events, at a moment

-- behind due steps alone
part_none : (k : ℕ) (s : State) (u : ℕ) (part : Part) (own : List Step) → PartDues s u part own
    → HasNone k own × ((state_from s own).clock ≤ max s.clock u)
part_none k s u P.NoMemory own h = (some_none k s u own h, some_clock s u own h)
part_none k s u (P.More next) own h = (dues_none k s u own h, dues_clock s u own h)
part_none k s u P.UpToDate own h = (dues_none k s u own h, dues_clock s u own h)
part_none k s u P.Whole own h = (dues_none k s u own h, dues_clock s u own h)
part_none k s u (P.Gone next first) own h = (dues_none k s u own h, dues_clock s u own h)

module _ (k handed : ℕ) (part : Part) (told : Charter → List Step → Type 0) (p q : PassView) (turn : PartTurn k handed part told p q) where
  unfoldable part_stands : Stands k p q untold_clock untold_clock
  part_stands =
      let none = part_none k _ _ part turn.turns.own turn.dues in
      turn_stands k handed p q turn.turns untold_clock untold_clock none.0 none.1 (untold handed)

  -- nothing is due any more
  caught_up : part ≡ P.UpToDate → IsCaughtUp p.charter (handed ∷ []) p.seen q.seen
  caught_up is = (
    p.seen ++ turn.turns.others,
    (turn.turns.others, refl),
    (turn.turns.own, turn.turns.seen),
    subst (λ (s : State). acts_by s (moment_used (found k p q turn.turns) handed) ≡ false) (state_seen k p q turn.turns)
        (dues_done (found k p q turn.turns) (moment_used (found k p q turn.turns) handed) turn.turns.own
        (subst (λ x. PartDues (found k p q turn.turns) (moment_used (found k p q turn.turns) handed) x turn.turns.own) is turn.dues)),
  )

log_late : (k handed : ℕ) (spec : LogSpec) (part : Part) (told : Charter → List Step → Type 0) (p q : PassView) → PartTurn k handed part told p q
    → IsAskedLate (reply.LogStream spec) part handed p.charter p.seen q.seen
log_late k handed spec P.UpToDate told p q turn = caught_up k handed P.UpToDate told p q turn refl
log_late k handed spec (P.More next) told p q turn = tt
log_late k handed spec P.Whole told p q turn = tt
log_late k handed spec (P.Gone next first) told p q turn = tt
log_late k handed spec P.NoMemory told p q turn = tt

pub log_part : (k handed : ℕ) (spec : LogSpec) (place : ℕ) (part : Part) (old new : List ℕ) (p q : PassView) → IsTrue p.pair
    → LogTurn k handed spec place part old new p q → AsksPart k handed (reply.LogStream spec) place part old new p q
unfolding part_stands turn_stands
log_part k handed spec place part old new p q pair turn = record {
  moves = (part_stands k handed part _ p q turn).moves;
  moments = refl;
  quiet = (part_stands k handed part _ p q turn).quiet pair;
  says = turn.says;
  late = log_late k handed spec part _ p q turn;
}

events_late : (k handed first : ℕ) (until : Option ℕ) (filters : List FilterRow) (part : Part) (told : Charter → List Step → Type 0) (p q : PassView)
    → PartTurn k handed part told p q → IsAskedLate (reply.EventStream first until filters) part handed p.charter p.seen q.seen
events_late k handed first until filters P.UpToDate told p q turn = caught_up k handed P.UpToDate told p q turn refl
events_late k handed first until filters (P.More next) told p q turn = tt
events_late k handed first until filters P.Whole told p q turn = tt
events_late k handed first until filters (P.Gone next oldest) told p q turn = tt
events_late k handed first until filters P.NoMemory told p q turn = tt

pub events_part : (k handed first : ℕ) (until : Option ℕ) (filters : List FilterRow) (place : ℕ) (part : Part) (old new : List ℕ) (p q : PassView)
    → IsTrue p.pair → EventTurn k handed filters until place part old new p q
    → AsksPart k handed (reply.EventStream first until filters) place part old new p q
unfolding part_stands turn_stands
events_part k handed first until filters place part old new p q pair turn = record {
  moves = (part_stands k handed part _ p q turn).moves;
  moments = refl;
  quiet = (part_stands k handed part _ p q turn).quiet pair;
  says = turn.says;
  late = events_late k handed first until filters part _ p q turn;
}

-- ---- of the journal, at no moment

pub line_part : (k handed count place : ℕ) (part : Part) (old new : List ℕ) (p q : PassView) → IsTrue p.pair → JournalTurn k place part old new p q
    → AsksPart k handed (reply.JournalStream count) place part old new p q
unfolding look_stands
line_part k handed count place part old new p q pair turn = record {
  moves = (look_stands k p q turn.turns untold_clock untold_clock turn.still refl).moves;
  moments = refl;
  quiet = (look_stands k p q turn.turns untold_clock untold_clock turn.still refl).quiet pair;
  says = turn.says;
  late = tt;
}

-- of a reply that is known
pub part_as : (k handed : ℕ) (x y : Reply) (place : ℕ) (part : Part) (old new : List ℕ) (p q : PassView) → x ≡ y → AsksPart k handed y place part old new p q
    → AsksPart k handed x place part old new p q
part_as k handed x y place part old new p q is asks = subst (λ r. AsksPart k handed r place part old new p q) (sym is) asks

pub streams_as : (x y : Reply) → x ≡ y → IsSome (chunked_form x) → IsSome (chunked_form y)
streams_as x y is some = subst (λ r. IsSome (chunked_form r)) is some
