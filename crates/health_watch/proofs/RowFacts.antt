-- Worked examples of health (own; by hand).
use Rattle.std.specs.Prelude.{◌≡◌, ℕ, nat_le, List, [], ◌∷◌, map, true, false, codes, refl}
use Rattle.engine_text.specs.declared.event.Event.{Event}
use Rattle.engine_text.specs.declared.event.EventKind.TheVariants as kind
use Rattle.engine_text.specs.declared.event.Action.{Action}
use Rattle.engine_text.specs.declared.event.Action.TheVariants as action
use Rattle.engine_text.specs.declared.health.HealthSpec.{HealthSpec}
use Rattle.health_watch.specs.declared.health.Health.TheVariants as health
use Rattle.health_watch.specs.declared.health.Change.{Change}
use Rattle.health_watch.specs.declared.mark.Mark.{Mark}
use Rattle.health_watch.specs.declared.mark.Turn.TheVariants as turn
use Rattle.health_watch.specs.declared.outcome.Outcome.{Outcome}
use Rattle.health_watch.specs.Runs.{marks_of}
use Rattle.health_watch.specs.Results.{most_probes}
use Rattle.health_watch.specs.Health.{health_by}

event : Action → ℕ → Event
event a m = record { kind = kind.Container; action = a; id = codes "web"; attributes = []; moment = m }

abbrev start : ℕ → Mark
start m = record { turn = turn.Start; moment = m }

abbrev die : ℕ → Mark
die m = record { turn = turn.Die; moment = m }

abbrev pause : ℕ → Mark
pause m = record { turn = turn.Pause; moment = m }

abbrev unpause : ℕ → Mark
unpause m = record { turn = turn.Unpause; moment = m }

abbrev bad : ℕ → Change
bad m = record { healthy = false; moment = m }

abbrev good : ℕ → Change
good m = record { healthy = true; moment = m }

-- only the container's own start, die, pause and unpause are marks
own_marks : marks_of (codes "web") (
    event action.Create 0 ∷ event action.Start 1 ∷ record (event action.Die 2) { id = codes "db" } ∷ event action.Kill 3 ∷ event action.Pause 4
    ∷ record (event action.Unpause 5) { kind = kind.Volume } ∷ event action.Unpause 6 ∷ event action.Die 7 ∷ event action.ExecDie 8 ∷ [])
    ≡ start 1 ∷ pause 4 ∷ unpause 6 ∷ die 7 ∷ []
unfolding event
own_marks = refl

-- ---- `flaky 2`, each second, twice in a row being too often: its first two probes fail

abbrev flaky : HealthSpec
flaky = record { words = codes "flaky" ∷ codes "2" ∷ []; interval = 1000; timeout = 1000; retries = 2; start_period = 0 }

abbrev of_flaky : ℕ → Outcome
of_flaky k = record { passes = nat_le 3 k; after = 0 }

recovers : health_by flaky of_flaky (start 0 ∷ []) 3000 ≡ record { status = health.Healthy; streak = 0; changes = bad 2000 ∷ good 3000 ∷ [] }
unfolding most_probes
recovers = refl

-- one failure of two
fails_once : health_by flaky of_flaky (start 0 ∷ []) 1999 ≡ record { status = health.Starting; streak = 1; changes = [] }
unfolding most_probes
fails_once = refl

-- of more failures no change comes, and the streak goes on
fails_on : health_by (record flaky { retries = 1 }) of_flaky (start 0 ∷ []) 2000 ≡ record { status = health.Unhealthy; streak = 2; changes = bad 1000 ∷ [] }
unfolding most_probes
fails_on = refl

-- a die ends it, and a result at that moment doesn't count
dies : health_by flaky of_flaky (start 0 ∷ die 3000 ∷ []) 3000 ≡ record { status = health.None; streak = 0; changes = bad 2000 ∷ [] }
unfolding most_probes
dies = refl

-- another start begins anew, with the first probe
begins_anew : health_by flaky of_flaky (start 0 ∷ die 2500 ∷ start 2600 ∷ []) 4600 ≡ record { status = health.Unhealthy; streak = 2; changes = bad 2000 ∷ bad 4600 ∷ [] }
unfolding most_probes
begins_anew = refl

-- a start ends the run before it
starts_again : health_by flaky of_flaky (start 0 ∷ start 2000 ∷ []) 3500 ≡ record { status = health.Starting; streak = 1; changes = [] }
unfolding most_probes
starts_again = refl

-- ---- `sleep 5000` is cut off each second; a failure before the start period is over counts nothing, and one at its end does

abbrev slow : HealthSpec
slow = record { words = codes "sleep" ∷ codes "5000" ∷ []; interval = 1000; timeout = 1000; retries = 1; start_period = 3000 }

abbrev of_slow : ℕ → Outcome
of_slow k = record { passes = false; after = 1000 }

spares_the_start : health_by slow of_slow (start 0 ∷ []) 4000 ≡ record { status = health.Unhealthy; streak = 1; changes = bad 4000 ∷ [] }
unfolding most_probes
spares_the_start = refl

counts_at_its_end : health_by (record slow { start_period = 2000 }) of_slow (start 0 ∷ []) 2000 ≡ record { status = health.Unhealthy; streak = 1; changes = bad 2000 ∷ [] }
unfolding most_probes
counts_at_its_end = refl

-- ---- pauses: the first result of a probe each second, which passes at once

abbrev quick : HealthSpec
quick = record { words = codes "hello" ∷ []; interval = 1000; timeout = 1000; retries = 1; start_period = 0 }

abbrev of_quick : ℕ → Outcome
of_quick k = record { passes = true; after = 0 }

abbrev first_good : List Mark → List (List Change)
first_good marks = map (λ u. (health_by quick of_quick marks u).changes) (999 ∷ 1000 ∷ 1500 ∷ 2000 ∷ [])

-- a due moment in a pause, at its beginning, at its end, and in one that stays open
moves_when_paused : first_good (start 0 ∷ pause 900 ∷ unpause 1500 ∷ []) ≡ [] ∷ [] ∷ (good 1500 ∷ []) ∷ (good 1500 ∷ []) ∷ []
unfolding most_probes
moves_when_paused = refl

moves_at_the_beginning : first_good (start 0 ∷ pause 1000 ∷ unpause 1500 ∷ []) ≡ [] ∷ [] ∷ (good 1500 ∷ []) ∷ (good 1500 ∷ []) ∷ []
unfolding most_probes
moves_at_the_beginning = refl

stays_at_the_end : first_good (start 0 ∷ pause 900 ∷ unpause 1000 ∷ []) ≡ [] ∷ (good 1000 ∷ []) ∷ (good 1000 ∷ []) ∷ (good 1000 ∷ []) ∷ []
unfolding most_probes
stays_at_the_end = refl

waits_while_paused : first_good (start 0 ∷ pause 900 ∷ []) ≡ [] ∷ [] ∷ [] ∷ [] ∷ []
unfolding most_probes
waits_while_paused = refl

-- a pause of no length moves nothing; pauses that meet are as one
no_length : first_good (start 0 ∷ pause 1000 ∷ unpause 1000 ∷ []) ≡ [] ∷ (good 1000 ∷ []) ∷ (good 1000 ∷ []) ∷ (good 1000 ∷ []) ∷ []
unfolding most_probes
no_length = refl

pauses_meet : first_good (start 0 ∷ pause 900 ∷ unpause 1200 ∷ pause 1200 ∷ unpause 1500 ∷ []) ≡ [] ∷ [] ∷ (good 1500 ∷ []) ∷ (good 1500 ∷ []) ∷ []
unfolding most_probes
pauses_meet = refl

-- a pause ends with its run
ends_with_its_run : first_good (start 0 ∷ pause 100 ∷ die 200 ∷ start 500 ∷ []) ≡ [] ∷ [] ∷ (good 1500 ∷ []) ∷ (good 1500 ∷ []) ∷ []
unfolding most_probes
ends_with_its_run = refl

-- a result comes in a pause that began behind its probe
result_in_a_pause : (health_by slow of_slow (start 0 ∷ pause 1500 ∷ []) 2000).streak ≡ 0
unfolding most_probes
result_in_a_pause = refl

result_in_a_pause_counts : (health_by (record slow { start_period = 0 }) of_slow (start 0 ∷ pause 1500 ∷ []) 9000).changes ≡ bad 2000 ∷ []
unfolding most_probes
result_in_a_pause_counts = refl
