-- What a turn with a call comes to.
use Rattle.std.proofs.Common.{◌≡◌, ℕ, [], ◌∷◌, ◌++◌, Some, refl, sym, subst}
use Rattle.std.specs.Prelude.{IsTrue, IsFalse}
use Rattle.engine_ports.specs.Clock.{ClockView, ClockHanded}
use Rattle.engine_text.specs.declared.call.Call.{Call}
use Rattle.engine_text.specs.declared.reply.Reply.{Reply}
use Rattle.engine_text.specs.declared.reply.Reply.TheVariants as reply
use Rattle.machine_model.specs.State.{State}
use Rattle.journal_lines.specs.Room.{HasRoom}
use Rattle.machine_model.specs.History.{is_drop, moment_used}
use Rattle.session_model.specs.declared.turned.Turned.{Turned}
use Rattle.session_model.specs.declared.turned.Turned.TheVariants as T
use Rattle.session_model.specs.Exchange.{IsMadeAt}
use Rattle.session_model.specs.Pass.{PassView}
use Rattle.session_model.specs.Progress.{Moves}
use Rattle.session_model.specs.Turning.{IsNotReady, Makes, Turn, found}
use Rattle.session_model.proofs.DueLemmas.{dues_clock, some_clock}
use Rattle.session_model.proofs.HistoryLemmas.{dues_none, some_none}
use Rattle.session_model.proofs.TurnLemmas.{makes_call, state_seen, turn_made_at, turn_opens, turn_quiet, turn_rests}
use Rattle.daemon_core.proofs.CallLemmas.{call_at}
use Rattle.exchange_laws.specs.Laws.{law_turns}

-- the call was made, and answered so
record MadeSo (k handed : ℕ) (c : Call) (x : Reply) (p q : PassView) (v w : ClockView) : Type 0 where
  made : IsMadeAt p.charter k handed c p.seen q.seen x
  moves : Moves k p q v w
  one : moves.handed ≡ handed ∷ []

made_so : (k handed : ℕ) (c : Call) (x : Reply) (result : Turned) (p q : PassView) (v w : ClockView) → IsTrue p.pair → IsFalse (is_drop c)
    → ClockHanded v (handed ∷ []) w → (turn : Turn k handed (Some c) result p q)
    → Makes p.charter (found k p q turn.turns) k handed c turn.turns.own x → MadeSo k handed c x p q v w
unfolding turn_opens
made_so k handed c x result p q v w pair kind clock turn makes =
    let m = makes_call p.charter _ k handed c turn.turns.own x kind makes in
    let none = dues_none k _ _ m.0 m.1 in
    record {
      made = turn_made_at k handed c x p q turn.turns m.0 pair none m.2.1 m.2.0 m.2.2;
      moves = turn_opens k handed c p q turn.turns m.0 v w pair none m.2.1 (call_at c k) clock;
      one = refl;
    }

pub turn_comes : law_turns
unfolding turn_rests
turn_comes k handed c (T.Replied x) p q v w pair kind clock turn =
    let f = made_so k handed c x (T.Replied x) p q v w pair kind clock turn turn.says.1 in
    record { came = (f.made, turn.says.0); moves = f.moves; one = f.one }
turn_comes k handed c (T.Begun n) p q v w pair kind clock turn =
    let f = made_so k handed c (reply.Begun n) (T.Begun n) p q v w pair kind clock turn turn.says in
    record { came = f.made; moves = f.moves; one = f.one }
turn_comes k handed c T.NotYet p q v w pair kind clock turn =
    let none = dues_none k _ _ turn.turns.own turn.says.1.0 in
    let u : ℕ = moment_used (found k p q turn.turns) handed in
    record {
      came = (
        turn_quiet k p q turn.turns pair none,
        (
          p.seen ++ turn.turns.others,
          (turn.turns.others, refl),
          (turn.turns.own, turn.turns.seen),
          subst (λ (s : State). IsNotReady s u c) (state_seen k p q turn.turns) turn.says.1.2,
        ),
      );
      moves = turn_rests k handed p q turn.turns v w pair none (dues_clock _ _ turn.turns.own turn.says.1.0) clock;
      one = refl;
    }
turn_comes k handed c T.Nothing p q v w pair kind clock turn = absurd turn.says.1
turn_comes k handed c T.JournalFull p q v w pair kind clock turn =
    let none = dues_none k _ _ turn.turns.own turn.says.1.0 in
    record {
      came = (
        turn_quiet k p q turn.turns pair none,
        λ room. turn.says.1.1 (subst (λ s. HasRoom p.charter s c) (sym (state_seen k p q turn.turns)) room),
      );
      moves = turn_rests k handed p q turn.turns v w pair none (dues_clock _ _ turn.turns.own turn.says.1.0) clock;
      one = refl;
    }
turn_comes k handed c T.NoMemory p q v w pair kind clock turn =
    let none = some_none k _ _ turn.turns.own turn.says.1 in
    record {
      came = turn_quiet k p q turn.turns pair none;
      moves = turn_rests k handed p q turn.turns v w pair none (some_clock _ _ turn.turns.own turn.says.1) clock;
      one = refl;
    }
