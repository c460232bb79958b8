-- What was found is what a watch tells next (lines of any length).
use Rattle.std.proofs.Common.{arith, ◌≡◌, ℕ, ◌+◌, ◌≤◌, Bool, true, false, nat_lt, if◌then◌else◌, List, [], ◌∷◌, ◌++◌, Option, Some, None, refl}
use Rattle.std.proofs.lemmas.Bool.{ltb-false}
use Rattle.engine_text.specs.declared.health.HealthSpec.{HealthSpec}
use Rattle.health_watch.specs.declared.health.Change.{Change}
use Rattle.health_watch.specs.declared.mark.Mark.{Mark}
use Rattle.health_watch.specs.declared.position.Position.{Position}
use Rattle.health_watch.specs.Advancing.{IsAt, FindSays, told_by}
use Rattle.health_watch.specs.Watching.{health_up_to, IsUntold, asked_to, NextSays}
use Rattle.health_watch.specs.WatchInside.{StandsAt, from_by, since_by}
use Rattle.health_watch.proofs.WatchLemmas.{stands_there}

-- ---- once told stays told

asked_on : (u : ℕ) (told : Option ℕ) → since_by told ≤ asked_to u told
asked_on u None = omega arith
asked_on u (Some t) = by (nat_lt u t) refl
  where
    by : (b : Bool) → nat_lt u t ≡ b → t ≤ (if b then t else u)
    by true e = omega arith
    by false e = ltb-false u t e

asked_from : (u : ℕ) (told : Option ℕ) → from_by told ≤ asked_to u told + 1
asked_from u None = omega arith
asked_from u (Some t) = let on : t ≤ asked_to u (Some t) = asked_on u (Some t) in omega (arith, on)

asked_low : (m u : ℕ) (told : Option ℕ) → from_by told ≤ m → m ≤ asked_to u told → m ≤ u
asked_low m u None on low = low
asked_low m u (Some t) on low = by (nat_lt u t) low
  where
    by : (b : Bool) → m ≤ (if b then t else u) → m ≤ u
    by true k = absurd (omega (arith, k, on))
    by false k = k

untold_from : (m : ℕ) (told : Option ℕ) → from_by told ≤ m → IsUntold told m
untold_from m None on = tt
untold_from m (Some t) on = omega (arith, on)

-- ---- what was found

module _ (id : List ℕ) (spec : HealthSpec) (marks : List Mark) (seen : ℕ) (told : Option ℕ) (until : ℕ) (old new : Position) where
  pub found : (change : Option Change) → StandsAt spec marks old.place old.reached told → FindSays spec marks (asked_to until told) old change new
      → StandsAt spec marks new.place new.reached (Some (told_by change (asked_to until told)))
      × NextSays until (record { id = id; spec = spec; marks = marks; seen = seen; told = told }) change
      (record { id = id; spec = spec; marks = marks; seen = seen; told = Some (told_by change (asked_to until told)) })
  found None stands says =
      let cs : List Change = (health_up_to spec marks told).changes in
      let at : IsAt spec marks new.place new.reached cs (asked_to until told + 1) (asked_to until told) =
      says cs (from_by told) (since_by told) stands.at (asked_from until told) (asked_on until told) in
      let there = stands_there spec marks new.place new.reached cs (asked_to until told) at in
      (there.0, (refl, there.1))
  found (Some c) stands says =
      let cs : List Change = (health_up_to spec marks told).changes in
      let at = says cs (from_by told) (since_by told) stands.at (asked_from until told) (asked_on until told) in
      let there = stands_there spec marks new.place new.reached (cs ++ c ∷ []) c.moment at.0 in
      (there.0, (refl, there.1, untold_from c.moment told at.1, asked_low c.moment until told at.1 at.2))
