-- Connections that are served go on beside another one, and each that has left stays as it was.
use Rattle.std.proofs.Common.{◌≡◌, ◌≤◌, ◌<◌, ℕ, List, [], ◌∷◌, ◌++◌, map, refl, sym, arith}
use Rattle.engine_ports.specs.Clock.{ClockView}
use Rattle.engine_text.specs.declared.step.Step.{Step}
use Rattle.polled_ports.specs.PollSource.{PollSourceView}
use Rattle.polled_ports.specs.PollSink.{PollSinkView}
use Rattle.session_model.specs.Session.{Span}
use Rattle.session_poll.proofs.StandingLemmas.{at_beside}
use Rattle.engine_loop.specs.Lives.{AllLived, Life, Run, history}
use Rattle.engine_loop.specs.Standing.{AllServed, AreBelow, IsNoneOf, IsServed, number_of, connection_number}
use Rattle.engine_loop.specs.declared.connection.Connection.{Connection}
use Rattle.engine_loop.proofs.OtherLemmas.{AllOwn, none_other}
use Rattle.engine_loop.proofs.LiveLemmas.{further, lived_further, lives_further, quiet_further}

-- connection k made these calls, and the clock handed these moments
module _ (r : Run) (own : List Step) (ns : List ℕ) (t : ClockView) (later : r.clock_now.stops ≤ t.stops) (k first n : ℕ) (few : k < n) (most : n ≤ 2147483646)
    (all : AllOwn k own) where
  pub lived_all : (xs : List (ℕ × Life)) → IsNoneOf k (map number_of xs) → AreBelow first n (map number_of xs) → AllLived r xs → AllLived (further r own ns t) xs
  lived_all [] none below h = tt
  lived_all (x ∷ xs) none below h =
      let f = below.0.1 in (
        lived_further r own ns t later x.0 (none_other x.0 k own none.0 (omega (arith, f, most)) (omega (arith, few, most)) all) x.1 h.0,
        lived_all xs none.1 below.1 h.1,
      )

  module _ {S K : Type 0} (gives : S → PollSourceView) (takes : K → PollSinkView) where
    served_further : (x : Connection S K) → (x.number ≡ k → ⊥) → x.number < n → IsServed gives takes r x → IsServed gives takes (further r own ns t) x
    served_further x other below (s, lives, at, conn) =
        let none = none_other x.number k own other (omega (arith, below, most)) (omega (arith, few, most)) all in (
          record s { to = history (further r own ns t) },
          lives_further r own ns t later x.number none _ _ s lives,
          at_beside r.charter x.number x.session s (history (further r own ns t)) (quiet_further r own ns t later x.number none s lives.to) at,
          conn,
        )

    pub serve_all : (xs : List (Connection S K)) → IsNoneOf k (map (connection_number gives takes) xs) → AreBelow first n (map (connection_number gives takes) xs)
        → AllServed gives takes r xs → AllServed gives takes (further r own ns t) xs
    serve_all [] none below h = tt
    serve_all (x ∷ xs) none below h = (served_further x none.0 below.0.1 h.0, serve_all xs none.1 below.1 h.1)

module _ {S K : Type 0} (gives : S → PollSourceView) (takes : K → PollSinkView) where
  -- one more that is_served, behind all
  pub serve_more : (r : Run) (xs : List (Connection S K)) (x : Connection S K) → AllServed gives takes r xs → IsServed gives takes r x → AllServed gives takes r (xs ++ x ∷ [])
  serve_more r [] x h s = (s, tt)
  serve_more r (y ∷ xs) x h s = (h.0, serve_more r xs x h.1 s)

pub lived_more : (r : Run) (xs : List (ℕ × Life)) (x : ℕ × Life) → AllLived r xs → AllLived r (x ∷ []) → AllLived r (xs ++ x ∷ [])
lived_more r [] x h l = l
lived_more r (y ∷ xs) x h l = (h.0, lived_more r xs x h.1 l)
