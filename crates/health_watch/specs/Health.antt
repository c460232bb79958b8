-- A container's health by its events and its check (Docker Engine API v1.43, definition Health; Moby manual, HEALTHCHECK).
use Rattle.std.specs.Prelude.{ℕ, ◌+◌, List, [], ◌∷◌, ◌++◌, Bool, true, false, ◌&&◌, nat_le, nat_lt, Option, Some, None, if◌then◌else◌}
use Rattle.std.specs.List.{fold}
use Rattle.engine_text.specs.declared.event.Event.{Event}
use Rattle.engine_text.specs.declared.health.HealthSpec.{HealthSpec}
use Rattle.health_watch.specs.declared.health.Health.{Health}
use Rattle.health_watch.specs.declared.health.Health.TheVariants as health
use Rattle.health_watch.specs.declared.health.Change.{Change}
use Rattle.health_watch.specs.declared.mark.Mark.{Mark}
use Rattle.health_watch.specs.declared.outcome.Outcome.{Outcome}
use Rattle.health_watch.specs.declared.outcome.ProbeResult.{ProbeResult}
use Rattle.health_watch.specs.Probes.{probe_of}
use Rattle.health_watch.specs.Runs.{Run, marks_of, runs_of}
use Rattle.health_watch.specs.Results.{results_of, that_count}

-- the status, how many failures in a row, and the changes so far
pub record Standing : Type 0 where
  pub status : Health
  pub streak : ℕ
  pub changes : List Change

-- outside of a run
abbrev pub idle : List Change → Standing
idle changes = record { status = health.None; streak = 0; changes = changes }

-- at a run's start
abbrev pub starting : List Change → Standing
starting changes = record { status = health.Starting; streak = 0; changes = changes }

-- a change to healthy or unhealthy is listed, unless it is so already
abbrev pub told_healthy : Health → ℕ → List Change
told_healthy health.Healthy m = []
told_healthy other m = record { healthy = true; moment = m } ∷ []

abbrev pub told_unhealthy : Health → ℕ → List Change
told_unhealthy health.Unhealthy m = []
told_unhealthy other m = record { healthy = false; moment = m } ∷ []

-- a probe passed
abbrev pub passed : ℕ → Standing → Standing
passed m s = record { status = health.Healthy; streak = 0; changes = s.changes ++ told_healthy s.status m }

-- one failure more in a row; with enough of them it is unhealthy
abbrev pub failed_again : Bool → ℕ → Standing → Standing
failed_again false m s = record s { streak = s.streak + 1 }
failed_again true m s = record {
  status = health.Unhealthy;
  streak = s.streak + 1;
  changes = s.changes ++ told_unhealthy s.status m;
}

-- while it starts, and before the start period is over, a failure counts nothing
abbrev pub is_starting : Health → Bool
is_starting health.Starting = true
is_starting other = false

abbrev pub failed : HealthSpec → ℕ → ℕ → Standing → Standing
failed spec begin m s =
    if is_starting s.status && nat_lt m (begin + spec.start_period) then s
    else failed_again (nat_le spec.retries (s.streak + 1)) m s

-- behind one result of a run that began then
abbrev pub behind_result : HealthSpec → ℕ → Standing → ProbeResult → Standing
behind_result spec begin s r = if r.passes then passed r.moment s else failed spec begin r.moment s

-- whether a run has begun at u, and whether it has ended by then
abbrev pub has_begun : ℕ → ℕ → Bool
has_begun u from = nat_le from u

abbrev pub has_ended : ℕ → Option ℕ → Bool
has_ended u None = false
has_ended u (Some end) = nat_le end u

-- once the run has ended it is outside of it
abbrev pub rested : Bool → Standing → Standing
rested true s = idle s.changes
rested false s = s

-- behind these results of a run, as it is at u
abbrev pub behind_results : HealthSpec → ℕ → Option ℕ → ℕ → Standing → List ProbeResult → Standing
behind_results spec begin end u s results =
    rested (has_ended u end) (fold (behind_result spec begin) s (that_count end u results))

-- behind a run, as it is at u
abbrev pub behind_run : HealthSpec → (ℕ → Outcome) → ℕ → Standing → Run → Standing
behind_run spec outcome u s run =
    if has_begun u run.span.from
    then behind_results spec run.span.from run.span.to u (starting s.changes) (results_of spec outcome run) else s

-- the health at u, by these marks and outcomes of probes
abbrev pub health_by : HealthSpec → (ℕ → Outcome) → List Mark → ℕ → Standing
health_by spec outcome marks u = fold (behind_run spec outcome u) (idle []) (runs_of marks)

-- the health at u, by these marks
abbrev pub health_at : HealthSpec → List Mark → ℕ → Standing
health_at spec marks u = health_by spec (probe_of spec) marks u

-- the health of the container with that id at u, by these events
abbrev pub health_of : List Event → List ℕ → HealthSpec → ℕ → Standing
health_of es id spec u = health_at spec (marks_of id es) u
