-- How a watch finds the next change among marks and results (lines of any length).
use Rattle.std.proofs.Common.{arith, ◌≡◌, ℕ, suc, ◌+◌, ◌<◌, ◌≤◌, List, [], ◌∷◌, length, drop, Option, Some, None, ap, sym, subst}
use Rattle.std.proofs.Math.ListN.{length-drop}
use Rattle.engine_text.specs.declared.health.HealthSpec.{HealthSpec}
use Rattle.health_watch.specs.declared.health.Change.{Change}
use Rattle.health_watch.specs.declared.mark.Mark.{Mark}
use Rattle.health_watch.specs.declared.position.Position.{Position}
use Rattle.health_watch.specs.declared.reached.Reached.{Reached}
use Rattle.health_watch.specs.Reaching.{AreLater, MarkSays, limit_by, reached_turned, RiseFrom}
use Rattle.health_watch.specs.Advancing.{IsAt, AdvanceSays, HasCome, Finds}
use Rattle.health_watch.proofs.WatchLemmas.{at_mark, at_moment}

rise_later : (m u : ℕ) (ks : List Mark) → RiseFrom m ks → AreLater u ks → RiseFrom (u + 1) ks
rise_later m u [] h later = tt
rise_later m u (k ∷ ks) h later = (omega (arith, later), h.1)

module _ (spec : HealthSpec) (marks : List Mark) (until : ℕ) where
  -- the marks to come are from the limit on
  rise_limit : (place m : ℕ) (mark : Option Mark) → MarkSays until place marks mark → RiseFrom m (drop place marks) → RiseFrom (limit_by mark until) (drop place marks)
  rise_limit place m None says rise = rise_later m until (drop place marks) rise says
  rise_limit place m (Some k) says rise =
      let first : RiseFrom m (k ∷ drop (place + 1) marks) = subst (RiseFrom m) says.0 rise in
      subst (RiseFrom k.moment) (sym says.0) (omega arith, first.1)

  on_limit : (place m : ℕ) (mark : Option Mark) → MarkSays until place marks mark → RiseFrom m (drop place marks) → m ≤ until + 1 → m ≤ limit_by mark until
  on_limit place m None says rise low = low
  on_limit place m (Some k) says rise low = let first : RiseFrom m (k ∷ drop (place + 1) marks) = subst (RiseFrom m) says.0 rise in first.0

  limit_low : (place : ℕ) (mark : Option Mark) → MarkSays until place marks mark → limit_by mark until ≤ until + 1
  limit_low place None says = omega arith
  limit_low place (Some k) says = omega (arith, says.1)

  -- behind a mark
  pub come_mark : (old : Position) (reached : Reached) (cs : List Change) (from : ℕ) (k : Mark) → HasCome spec marks until old cs from → MarkSays until old.place marks (Some k)
      → AdvanceSays spec k.moment old.reached None reached → HasCome spec marks until (record { place = old.place + 1; reached = reached_turned spec k reached }) cs from
  come_mark old reached cs from k h says advance =
      let low : h.on ≤ k.moment = on_limit old.place h.on (Some k) says h.at.rises h.within in
      let went = advance marks old.place cs h.on h.now h.at (rise_limit old.place h.on (Some k) says h.at.rises) low in
      record {
        on = k.moment;
        now = k.moment;
        at = at_mark spec marks old.place k reached cs went.0.on went.0.now went.0.at went.1 says.0;
        behind = omega (arith, h.behind, low);
        within = omega (arith, says.1);
        before = says.1;
      }

  -- no mark and no result is left
  pub come_none : (old : Position) (reached : Reached) (cs : List Change) (from : ℕ) → HasCome spec marks until old cs from → MarkSays until old.place marks None
      → AdvanceSays spec (until + 1) old.reached None reached → IsAt spec marks old.place reached cs (until + 1) until
  come_none old reached cs from h says advance =
      let rise : RiseFrom (until + 1) (drop old.place marks) = rise_later h.on until (drop old.place marks) h.at.rises says in
      let went = advance marks old.place cs h.on h.now h.at rise h.within in
      let now : went.0.now < until + 1 = went.0.before (omega (arith, h.before)) in
      at_moment spec marks old.place reached cs went.0.on went.0.now until went.0.at rise went.1 went.0.within (omega (arith, now))

  -- a change
  pub come_change : (old : Position) (reached : Reached) (cs : List Change) (from : ℕ) (mark : Option Mark) (c : Change) → HasCome spec marks until old cs from → MarkSays until old.place marks mark
      → AdvanceSays spec (limit_by mark until) old.reached (Some c) reached → Finds spec marks until (Some c) (record { place = old.place; reached = reached }) cs from
  come_change old reached cs from mark c h says advance =
      let low : h.on ≤ limit_by mark until = on_limit old.place h.on mark says h.at.rises h.within in
      let went = advance marks old.place cs h.on h.now h.at (rise_limit old.place h.on mark says h.at.rises) low in
      (went.0, omega (arith, h.behind, went.1), omega (arith, went.2, limit_low old.place mark says))

  -- fewer marks are left
  pub fewer_marks : (place : ℕ) (k : Mark) → MarkSays until place marks (Some k) → place < length marks
  fewer_marks place k says =
      let some : length (drop place marks) ≡ suc (length (drop (place + 1) marks)) = ap length says.0 in
      omega (arith, some, length-drop place marks)
