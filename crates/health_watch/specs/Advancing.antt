-- own: where a watch stands among the marks that it has seen, and how it goes on.
use Rattle.std.specs.Prelude.{ℕ, ◌≡◌, ◌≤◌, ◌<◌, ◌+◌, ⊤, List, [], ◌∷◌, ◌++◌, Option, Some, None, drop, length}
use Rattle.engine_text.specs.declared.health.HealthSpec.{HealthSpec}
use Rattle.health_watch.specs.declared.health.Change.{Change}
use Rattle.health_watch.specs.declared.mark.Mark.{Mark}
use Rattle.health_watch.specs.declared.open_run.OpenRun.{OpenRun}
use Rattle.health_watch.specs.declared.position.Position.{Position}
use Rattle.health_watch.specs.declared.reached.Reached.{Reached}
use Rattle.health_watch.specs.Probes.{probe_of}
use Rattle.health_watch.specs.Health.{health_at}
use Rattle.health_watch.specs.Reaching.{behind_marks, standing_in, AreAhead, ArePausedBy, RiseFrom}

-- an interval of a millisecond at least, and a timeout of an hour at most
pub record IsTimed (spec : HealthSpec) : Type 0 where
  pub interval : 1 ≤ spec.interval
  pub timeout : spec.timeout ≤ 3600000

-- the probes that are left of a run, its next number and the failures in a row keep to the greatest number of probes
abbrev pub AreSized : ℕ → Option OpenRun → Type 0
AreSized streak None = ⊤
AreSized streak (Some run) = (run.number + run.left ≡ 100001) × (streak + run.left ≤ 100000)

-- all that comes before `from` is behind it, and from `since` on, whatever marks follow, the health is what is to come
pub record IsAt (spec : HealthSpec) (marks : List Mark) (place : ℕ) (reached : Reached) (cs : List Change) (from since : ℕ) : Type 0 where
  pub fits : place ≤ length marks
  pub rises : RiseFrom from (drop place marks)
  pub ahead : AreAhead from (probe_of spec) reached.run
  pub paused : ArePausedBy from reached.run
  pub sized : AreSized reached.tally.streak reached.run
  pub low : since ≤ from
  pub comes : (future : List Mark) (u : ℕ) → RiseFrom from (drop place marks ++ future) → since ≤ u
      → health_at spec (marks ++ future) u ≡ behind_marks spec (probe_of spec) u (standing_in reached.tally cs) reached.run (drop place marks ++ future)

-- it went on, up to a moment, without a change
pub record HasAdvanced (spec : HealthSpec) (marks : List Mark) (place : ℕ) (limit : ℕ) (reached : Reached) (cs : List Change) (from since : ℕ) : Type 0 where
  pub on : ℕ
  pub now : ℕ
  pub at : IsAt spec marks place reached cs on now
  pub behind : from ≤ on
  pub within : on ≤ limit
  pub before : since < limit → now < limit

-- up to a moment, before the marks that are to come, all results are taken, or the first that brings a change
abbrev pub GoesOn : HealthSpec → ℕ → Reached → Option Change → Reached → List Mark → ℕ → List Change → ℕ → ℕ → Type 0
GoesOn spec limit old None new marks place cs from since =
    HasAdvanced spec marks place limit new cs from since × AreAhead limit (probe_of spec) new.run
GoesOn spec limit old (Some c) new marks place cs from since =
    IsAt spec marks place new (cs ++ c ∷ []) (c.moment + 1) c.moment × (from ≤ c.moment) × (c.moment < limit)

abbrev pub AdvanceSays : HealthSpec → ℕ → Reached → Option Change → Reached → Type 0
AdvanceSays spec limit old change new = (marks : List Mark) (place : ℕ) (cs : List Change) (from since : ℕ)
    → IsAt spec marks place old cs from since → RiseFrom limit (drop place marks) → from ≤ limit
    → GoesOn spec limit old change new marks place cs from since

-- it has come so far, not behind a moment, without a change
pub record HasCome (spec : HealthSpec) (marks : List Mark) (until : ℕ) (position : Position) (cs : List Change) (from : ℕ) : Type 0 where
  pub on : ℕ
  pub now : ℕ
  pub at : IsAt spec marks position.place position.reached cs on now
  pub behind : from ≤ on
  pub within : on ≤ until + 1
  pub before : now ≤ until

-- up to a moment, all results and marks are taken, or those up to the first change
abbrev pub Finds : HealthSpec → List Mark → ℕ → Option Change → Position → List Change → ℕ → Type 0
Finds spec marks until None new cs from = IsAt spec marks new.place new.reached cs (until + 1) until
Finds spec marks until (Some c) new cs from =
    IsAt spec marks new.place new.reached (cs ++ c ∷ []) (c.moment + 1) c.moment × (from ≤ c.moment) × (c.moment ≤ until)

abbrev pub FindSays : HealthSpec → List Mark → ℕ → Position → Option Change → Position → Type 0
FindSays spec marks until old change new = (cs : List Change) (from since : ℕ)
    → IsAt spec marks old.place old.reached cs from since → from ≤ until + 1 → since ≤ until
    → Finds spec marks until change new cs from

-- up to which moment is told what was found
abbrev pub told_by : Option Change → ℕ → ℕ
told_by None until = until
told_by (Some c) until = c.moment
