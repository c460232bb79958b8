-- Sessions that wait go on waiting beside another one that is polled, and one more waits.
use Rattle.std.proofs.Common.{◌≡◌, ◌+◌, ◌<◌, ◌≤◌, ℕ, Bool, List, [], ◌∷◌, ◌++◌, map, refl, sym, ◌∙◌, ap, arith, append_assoc, append-nil}
use Rattle.std.specs.Prelude.{Contains}
use Rattle.std.proofs.lemmas.List.Elements.{Contains-append_left}
use Rattle.engine_ports.specs.Clock.{ClockView}
use Rattle.engine_text.specs.declared.step.Step.{Step}
use Rattle.machine_model.specs.History.{Charter, HasNone}
use Rattle.session_model.specs.Session.{Span}
use Rattle.session_model.proofs.HistoryLemmas.{quiet_on}
use Rattle.polled_model.specs.declared.polled.Cause.{Cause}
use Rattle.polled_model.specs.Polls.{PausesFor, Ports, Told}
use Rattle.engine_loop.specs.Lives.{Lives, Run, history}
use Rattle.engine_loop.specs.Pausing.{AllWait, Served, Waits}
use Rattle.engine_loop.specs.Standing.{AreBelow, IsNoneOf, served_number}
use Rattle.engine_loop.proofs.LiveLemmas.{further, lives_further}
use Rattle.engine_loop.proofs.OtherLemmas.{AllOwn, none_other}

pauses_by : (cause : Cause) (ch : Charter) (k : ℕ) (told : Told) (woken woken' : Type 0) (own : List Step) (v v' : Ports) (was s : Span) → (woken → woken')
    → PausesFor cause ch k told woken own v v' was s → PausesFor cause ch k told woken' own v v' was s
pauses_by Cause.Source ch k told woken woken' own v v' was s go h = h
pauses_by Cause.Sink ch k told woken woken' own v v' was s go h = h
pauses_by Cause.NotYet ch k told woken woken' own v v' was s go h = (go h.0, h.1)
pauses_by Cause.Yield ch k told woken woken' own v v' was s go h = (go h.0, h.1)

module _ (r : Run) (own : List Step) (ns : List ℕ) (t : ClockView) (later : r.clock_now.stops ≤ t.stops) (woken woken' : Type 0) (go : woken → woken') (before : List Served) where
  waits_further : (cause : Cause) (x : Served) → HasNone x.number own → Waits r woken before cause x → Waits (further r own ns t) woken' before cause x
  waits_further cause x none w = record {
    s = w.s;
    lives = lives_further r own ns t later x.number none x.came x.now (record w.s { to = history r }) w.lives;
    progress = w.progress;
    quiet = quiet_on x.number w.s.to (history r) (history (further r own ns t)) w.quiet (own, none, sym (append_assoc r.given r.added own));
    was = w.was;
    stood = w.stood;
    told = w.told;
    handed = Contains-append_left r.moments ns w.told.handed w.handed;
    began = w.began;
    read = w.read;
    written = w.written;
    moments = w.moments;
    grew = w.grew;
    own = w.own;
    polled = w.polled;
    pauses = pauses_by cause r.charter x.number w.told woken woken' w.own w.was x.now w.began w.s go w.pauses;
  }

  pub wait_all : (k first n : ℕ) → k < n → n ≤ 2147483646 → AllOwn k own → (cs : List Cause) (xs : List Served) → IsNoneOf k (map served_number xs) → AreBelow first n (map served_number xs)
      → AllWait r woken before cs xs → AllWait (further r own ns t) woken' before cs xs
  wait_all k first n few most all [] [] none below h = tt
  wait_all k first n few most all (c ∷ cs) [] none below h = absurd h
  wait_all k first n few most all [] (x ∷ xs) none below h = absurd h
  wait_all k first n few most all (c ∷ cs) (x ∷ xs) none below h =
      let f = below.0.1 in
      (waits_further c x (none_other x.number k own none.0 (omega (arith, f, most)) (omega (arith, few, most)) all) h.0, wait_all k first n few most all cs xs none.1 below.1 h.1)

-- nobody was polled
pub wait_still : (r : Run) (t : ClockView) → r.clock_now.stops ≤ t.stops → (woken : Type 0) (before : List Served) (cs : List Cause) (xs : List Served)
    → AllWait r woken before cs xs → AllWait (further r [] [] t) woken before cs xs
wait_still r t later woken before [] [] h = tt
wait_still r t later woken before (c ∷ cs) [] h = absurd h
wait_still r t later woken before [] (x ∷ xs) h = absurd h
wait_still r t later woken before (c ∷ cs) (x ∷ xs) h = (waits_further r [] [] t later woken woken (λ w. w) before c x refl h.0, wait_still r t later woken before cs xs h.1)

pub wait_more : (r : Run) (woken : Type 0) (before : List Served) (cs : List Cause) (xs : List Served) (c : Cause) (x : Served) → AllWait r woken before cs xs → Waits r woken before c x
    → AllWait r woken before (cs ++ c ∷ []) (xs ++ x ∷ [])
wait_more r woken before [] [] c x h w = (w, tt)
wait_more r woken before (d ∷ cs) [] c x h w = absurd h
wait_more r woken before [] (y ∷ xs) c x h w = absurd h
wait_more r woken before (d ∷ cs) (y ∷ xs) c x h w = (h.0, wait_more r woken before cs xs c x h.1 w)
