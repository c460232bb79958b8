-- A connection makes no call of its own number, and time goes on.
use Rattle.std.proofs.Common.{◌≡◌, ◌≤◌, ◌∷◌, ℕ, max, [], ◌++◌, refl, sym, ◌∙◌, ap, subst, append_assoc, append-nil, arith}
use Rattle.std.specs.Prelude.{IsTrue}
use Rattle.engine_ports.specs.Clock.{ClockView, ClockHanded, ClockStood}
use Rattle.engine_ports.proofs.PortLemmas.{clock_none, clock_on, clock_stood}
use Rattle.machine_model.specs.State.{State}
use Rattle.machine_model.specs.History.{Extends, HasNone, moment_used, opening_state, own_calls, state_after, state_from}
use Rattle.session_model.specs.Exchange.{IsQuiet}
use Rattle.session_model.specs.Pass.{PassView}
use Rattle.session_model.specs.Progress.{Moves}
use Rattle.session_model.specs.Turning.{Turns, found}
use Rattle.session_model.proofs.HistoryLemmas.{quiet_on, quiet_same, run_append, uncalled}
use Rattle.session_model.proofs.AddsLemmas.{turn_adds}
use Rattle.session_model.proofs.TurnLemmas.{clock_alone, moves_on, moves_same, turn_quiet}
use Rattle.attach_hub.specs.Following.{IsStill}
use Rattle.attach_hub.proofs.StillLemmas.{no_calls, rest_still}

pub record Stands (k : ℕ) (p q : PassView) (v v' : ClockView) : Type 0 where
  pub moves : Moves k p q v v'
  pub still : IsStill k p.seen q.seen
  pub quiet : IsTrue p.pair → IsQuiet k p.seen q.seen

unfoldable pub stands_same : (k : ℕ) (p : PassView) (v : ClockView) → Stands k p p v v
stands_same k p v = record { moves = moves_same k p v; still = refl; quiet = λ pair. quiet_same k p.seen }

unfoldable pub stands_on : (k : ℕ) (p q r : PassView) (u v w : ClockView) → Stands k p q u v → Stands k q r v w → Stands k p r u w
stands_on k p q r u v w f g = record {
  moves = moves_on k p q r u v w f.moves g.moves;
  still = g.still ∙ f.still;
  quiet = λ pair. quiet_on k p.seen q.seen r.seen (f.quiet pair) (g.quiet (f.moves.stays.pair ∙ pair));
}

-- it stands in a pause of the clock too
unfoldable pub stands_pause : (k : ℕ) (p q : PassView) (u v w : ClockView) → Stands k p q u v → ClockStood v w → Stands k p q u w
stands_pause k p q u v w f stood = record {
  moves = record {
    extends = f.moves.extends;
    stays = f.moves.stays;
    adds = f.moves.adds;
    handed = f.moves.handed;
    clock = subst (λ ms. ClockHanded u ms w) (append-nil f.moves.handed) (clock_on u v w f.moves.handed [] f.moves.clock (clock_stood v w stood));
    within = f.moves.within;
  };
  still = f.still;
  quiet = f.quiet;
}

-- ---- a turn

abbrev pub turn_extends : (k : ℕ) (p q : PassView) (turns : Turns k p q) → Extends p.seen q.seen
turn_extends k p q turns = (turns.others ++ turns.own, turns.seen ∙ append_assoc p.seen turns.others turns.own)

pub turn_still : (k : ℕ) (p q : PassView) (turns : Turns k p q) → HasNone k turns.own → IsStill k p.seen q.seen
turn_still k p q turns none =
    rest_still k p.seen q.seen (turn_extends k p q turns) (no_calls k turns.others turns.own turns.apart (uncalled k turns.own none))

-- that made no call of the connection, and took a moment
unfoldable pub turn_stands : (k handed : ℕ) (p q : PassView) (turns : Turns k p q) (v w : ClockView) → HasNone k turns.own
    → (state_from (found k p q turns) turns.own).clock
    ≤ max (found k p q turns).clock (moment_used (found k p q turns) handed)
    → ClockHanded v (handed ∷ []) w → Stands k p q v w
turn_stands k handed p q turns v w none late clock =
    let extends = turn_extends k p q turns in
    let still = turn_still k p q turns none in
    record {
      moves = record {
        extends = extends;
        stays = turns.stays;
        adds = turn_adds k p q turns;
        handed = handed ∷ [];
        clock = clock;
        within = λ h.
            let e = ap (λ x. (state_after p.charter x).clock) turns.seen
            ∙ ap (λ (s : State). s.clock) (run_append (opening_state p.charter) (p.seen ++ turns.others) turns.own) in
            let d = clock_alone k p q turns h in omega (arith, e, d, late);
      };
      still = still;
      quiet = λ pair. turn_quiet k p q turns pair none;
    }

-- that made no step at all
unfoldable pub look_stands : (k : ℕ) (p q : PassView) (turns : Turns k p q) (v w : ClockView) → turns.own ≡ [] → w ≡ v → Stands k p q v w
look_stands k p q turns v w unmoved same =
    let extends = turn_extends k p q turns in
    let none : HasNone k turns.own = ap (own_calls k) unmoved in
    let still = turn_still k p q turns none in
    record {
      moves = record {
        extends = extends;
        stays = turns.stays;
        adds = turn_adds k p q turns;
        handed = [];
        clock = subst (ClockHanded v []) (sym same) (clock_none v);
        within = λ h.
            let e = ap (λ x. (state_after p.charter x).clock) turns.seen
            ∙ ap (λ (s : State). s.clock) (run_append (opening_state p.charter) (p.seen ++ turns.others) turns.own)
            ∙ ap (λ x. (state_from (state_after p.charter (p.seen ++ turns.others)) x).clock) unmoved in
            let d = clock_alone k p q turns h in omega (arith, e, d);
      };
      still = still;
      quiet = λ pair. turn_quiet k p q turns pair none;
    }
