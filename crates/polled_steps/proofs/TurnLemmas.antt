-- What a turn came to that was asked for once.
use Rattle.std.proofs.Common.{◌≡◌, ◌∙◌, ℕ, [], ◌∷◌, append-nil, refl, subst, sym, Some}
use Rattle.std.specs.Prelude.{IsTrue, IsFalse}
use Rattle.engine_ports.specs.Clock.{ClockHanded, untold_clock}
use Rattle.engine_ports.proofs.PortLemmas.{clock_none}
use Rattle.engine_text.specs.declared.call.Call.{Call}
use Rattle.engine_text.specs.declared.call.Call.TheVariants.{Take, Drop}
use Rattle.engine_text.specs.declared.reply.Reply.{Reply}
use Rattle.machine_model.specs.Statuses.{ends_ticket, is_feed}
use Rattle.session_model.specs.declared.turned.Turned.{Turned}
use Rattle.session_model.specs.declared.turned.Turned.TheVariants as T
use Rattle.session_model.specs.Pass.{PassView}
use Rattle.session_model.specs.Turning.{Turn}
use Rattle.daemon_core.specs.Whole.{gives_stream}
use Rattle.attach_hub.proofs.WaitLemmas.{drop_says, rests_same, taken}
use Rattle.exchange_laws.specs.Turns.{TurnComes}
use Rattle.exchange_laws.proofs.CallLemmas.{no_drop, reply_answers}
use Rattle.exchange_laws.proofs.TurnLemmas.{turn_comes}
use Rattle.polled_steps.specs.Turning.{AsksOnce, DropsSo, TakesOnce, IsAskedWhole, IsTakenWhole, asked_as, silent_clock, taken_as}
use Rattle.polled_steps.specs.declared.turning.Asked.{Asked}
use Rattle.polled_steps.specs.declared.turning.Taken.{Taken}

-- a clock that tells no moments hands any
pub untold : (handed : ℕ) → ClockHanded untold_clock (handed ∷ []) untold_clock
untold handed = record { handed = tt; stops = (clock_none untold_clock).stops }

pub came : (k handed : ℕ) (c : Call) (x : Turned) (p q : PassView) → IsTrue p.pair → IsFalse (ends_ticket c) → Turn k handed (Some c) x p q
    → TurnComes k handed c x p q untold_clock untold_clock
came k handed c x p q pair kind turn = turn_comes k handed c x p q untold_clock untold_clock pair (no_drop c kind) (untold handed) turn

asked_whole : (k handed : ℕ) (c : Call) (asked : Asked) (p q : PassView) → IsFalse (is_feed c) → IsFalse (ends_ticket c) → IsFalse (gives_stream c)
    → Turn k handed (Some c) (asked_as asked) p q → IsAskedWhole asked
asked_whole k handed c (Asked.Replied reply) p q feeds kind whole turn = reply_answers k handed c reply p q feeds kind whole turn
asked_whole k handed c (Asked.Begun n) p q feeds kind whole turn = tt
asked_whole k handed c Asked.JournalFull p q feeds kind whole turn = tt
asked_whole k handed c Asked.NoMemory p q feeds kind whole turn = tt

pub asks_once : (k handed : ℕ) (c : Call) (asked : Asked) (x : Turned) (p q : PassView) → IsTrue p.pair → IsFalse (is_feed c) → IsFalse (ends_ticket c)
    → IsFalse (gives_stream c) → x ≡ asked_as asked → Turn k handed (Some c) x p q → AsksOnce k handed c asked p q
asks_once k handed c asked x p q pair feeds kind whole is turn =
    let t : Turn k handed (Some c) (asked_as asked) p q = subst (λ y. Turn k handed (Some c) y p q) is turn in
    record { comes = came k handed c (asked_as asked) p q pair kind t; whole = asked_whole k handed c asked p q feeds kind whole t }

taken_so : (k handed n : ℕ) (took : Taken) (p q : PassView) → IsTrue p.pair → Turn k handed (Some (Take n)) (taken_as took) p q → IsTakenWhole took
taken_so k handed n (Taken.Replied reply) p q pair turn =
    (taken k handed n reply p p q untold_clock untold_clock untold_clock pair (rests_same k p untold_clock) (untold handed) turn).says.4
taken_so k handed n Taken.NotYet p q pair turn = tt
taken_so k handed n Taken.NoMemory p q pair turn = tt

pub takes_once : (k handed n : ℕ) (took : Taken) (x : Turned) (p q : PassView) → IsTrue p.pair → x ≡ taken_as took
    → Turn k handed (Some (Take n)) x p q → TakesOnce k handed n took p q
takes_once k handed n took x p q pair is turn =
    let t : Turn k handed (Some (Take n)) (taken_as took) p q = subst (λ y. Turn k handed (Some (Take n)) y p q) is turn in
    record {
      comes = turn_comes k handed (Take n) (taken_as took) p q untold_clock untold_clock pair refl (untold handed) t;
      whole = taken_so k handed n took p q pair t;
    }

pub drops_so : (k n handed : ℕ) (x : Turned) (reply : Reply) (p q : PassView) → IsTrue p.pair → x ≡ T.Replied reply
    → Turn k handed (Some (Drop n)) x p q → DropsSo k n p q
drops_so k n handed x reply p q pair is turn =
    let t : Turn k handed (Some (Drop n)) (T.Replied reply) p q = subst (λ y. Turn k handed (Some (Drop n)) y p q) is turn in
    let d = drop_says k n handed reply p q silent_clock pair t in
    record { made = d.made; moves = d.moves; none = sym (append-nil d.moves.handed) ∙ sym d.moves.clock.handed }
