-- When the probes of a run begin, and what comes of them (Docker Engine API v1.43, definition HealthConfig; own: pauses, the greatest number of probes).
use Rattle.std.specs.Prelude.{ℕ, zero, suc, ◌+◌, List, [], ◌∷◌, Bool, true, ◌&&◌, nat_le, nat_lt, Option, Some, None, if◌then◌else◌, option_and_then}
use Rattle.std.specs.Option.{option_map_or}
use Rattle.engine_text.specs.declared.health.HealthSpec.{HealthSpec}
use Rattle.health_watch.specs.Runs.{Span, Run}
use Rattle.health_watch.specs.declared.outcome.Outcome.{Outcome}
use Rattle.health_watch.specs.declared.outcome.ProbeResult.{ProbeResult}

-- a due moment in a pause is moved to its end, and to none where the pause is open
abbrev pub moved_by : Option ℕ → ℕ → Option ℕ
moved_by None due = None
moved_by (Some end) due = if nat_lt due end then Some end else Some due

abbrev pub moved : Span → ℕ → Option ℕ
moved pause due = if nat_le pause.from due then moved_by pause.to due else Some due

-- when a probe begins that is due then: moved by the pauses, in their order
abbrev pub begins_at : List Span → ℕ → Option ℕ
begins_at [] due = Some due
begins_at (pause ∷ pauses) due = option_and_then (begins_at pauses) (moved pause due)

-- the results of so many probes, from the one with that number and due moment on: each next one is due an interval behind a result
abbrev pub results_from : HealthSpec → (ℕ → Outcome) → List Span → ℕ → ℕ → ℕ → List ProbeResult
results_from spec outcome pauses zero k due = []
results_from spec outcome pauses (suc left) k due = option_map_or (λ begin.
    record { moment = begin + (outcome k).after; passes = (outcome k).passes }
    ∷ results_from spec outcome pauses left (k + 1) (begin + (outcome k).after + spec.interval)) (begins_at pauses due) []

-- a run has at most so many probes
unfoldable pub most_probes : ℕ
most_probes = 100000

-- the results of a run's probes, whenever they come
abbrev pub results_of : HealthSpec → (ℕ → Outcome) → Run → List ProbeResult
results_of spec outcome run = results_from spec outcome run.pauses most_probes 1 (run.span.from + spec.interval)

-- whether a moment is before a run's end
abbrev pub is_before : Option ℕ → ℕ → Bool
is_before None m = true
is_before (Some end) m = nat_lt m end

-- a result counts at a moment before the run's end that isn't behind u
abbrev pub counts : Option ℕ → ℕ → ProbeResult → Bool
counts end u result = is_before end result.moment && nat_le result.moment u

-- the first results that count; the moments of a run's results rise
abbrev pub that_count : Option ℕ → ℕ → List ProbeResult → List ProbeResult
that_count end u [] = []
that_count end u (r ∷ rs) = if counts end u r then r ∷ that_count end u rs else []
