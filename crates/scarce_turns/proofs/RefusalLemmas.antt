-- A turn that is refused.
use Rattle.std.proofs.Common.{◌≡◌, ℕ, ◌≤◌, Bool, true, false, ◌&&◌, List, [], ◌++◌, Option, Some, None, refl, sym, ◌∙◌, subst, arith, append-nil}
use Rattle.std.specs.Prelude.{IsTrue, IsFalse}
use Rattle.std.proofs.lemmas.Bool.{false≢true}
use Rattle.engine_text.specs.declared.call.Call.{Call}
use Rattle.engine_text.specs.declared.call.Call.TheVariants as call
use Rattle.machine_model.specs.History.{IsLegal, is_drop}
use Rattle.session_model.specs.Pass.{PassView}
use Rattle.session_model.specs.Turning.{Turns, Turn, TurnSays}
use Rattle.session_model.specs.declared.turned.Turned.TheVariants.{NoMemory}
use Rattle.daemon_core.specs.Passing.{alone_pass}
use Rattle.daemon_core.specs.declared.alone.Alone.{Alone}
use Rattle.scarce_turns.specs.Scarcity.{is_begin, is_take, is_counted, is_refused, is_refused_as}
use Rattle.scarce_turns.specs.declared.counting.Scarcity.{Scarcity}
use Rattle.scarce_turns.specs.declared.counting.Scarcity.TheVariants.{Calls, Takes}

-- nobody steps, and it doesn't
pub still : (k : ℕ) (p : PassView) → IsTrue p.alone → IsLegal p.charter p.seen → Turns k p p
still k p alone legal = record {
  others = [];
  own = [];
  seen = sym (append-nil (p.seen ++ []) ∙ append-nil p.seen);
  apart = refl;
  strangers = λ pair. refl;
  alone = λ h. refl;
  legal = legal;
  own_calls = sym (append-nil p.own_calls);
  looks = omega arith;
  looked = λ other. absurd (false≢true (sym other ∙ alone));
  stays = record { joined_calls = refl; number = refl; pair = refl; charter = refl; alone = refl; home = refl };
}

-- memory may be called wanting of each call but a drop
pub refused : (k handed : ℕ) (c : Call) (p : PassView) → IsTrue p.alone → IsLegal p.charter p.seen → is_drop c ≡ false → Turn k handed (Some c) NoMemory p p
unfolding still
refused k handed c p alone legal other = record { turns = still k p alone legal; says = (other, tt) }

-- of those that are counted none is a drop
begin_no_drop : (c : Call) → is_begin c ≡ true → is_drop c ≡ false
begin_no_drop (call.Drop n) h = absurd (false≢true h)
begin_no_drop _ h = refl

take_no_drop : (c : Call) → is_take c ≡ true → is_drop c ≡ false
take_no_drop (call.Drop n) h = absurd (false≢true h)
take_no_drop _ h = refl

counted_no_drop : (scarcity : Scarcity) (c : Call) → is_counted scarcity (Some c) ≡ true → is_drop c ≡ false
counted_no_drop (Calls k) c h = begin_no_drop c h
counted_no_drop (Takes k) c h = take_no_drop c h

-- what is counted may be refused
counted_turn : (scarcity : Scarcity) (k handed : ℕ) (o : Option Call) (p : PassView) → IsTrue p.alone → IsLegal p.charter p.seen → is_counted scarcity o ≡ true → Turn k handed o NoMemory p p
counted_turn scarcity k handed None p alone legal h = absurd (false≢true h)
counted_turn scarcity k handed (Some c) p alone legal h = refused k handed c p alone legal (counted_no_drop scarcity c h)

refused_counted : (scarcity : Scarcity) (n : ℕ) (o : Option Call) → is_refused scarcity n o ≡ true → is_counted scarcity o ≡ true
refused_counted scarcity n o h = by (is_counted scarcity o) (is_refused_as scarcity n) h
  where
    by : (a b : Bool) → (a && b) ≡ true → a ≡ true
    by true b h = refl
    by false b h = h

-- what is refused is a turn of an owner
pub refused_turn : (scarcity : Scarcity) (n k handed : ℕ) (o : Option Call) (a : Alone) → is_refused scarcity n o ≡ true → Turn k handed o NoMemory (alone_pass a) (alone_pass a)
refused_turn scarcity n k handed o a h = counted_turn scarcity k handed o (alone_pass a) refl a.daemon.legal (refused_counted scarcity n o h)
