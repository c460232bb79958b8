-- `health` asks only what is spelled by its bytes.
use Rattle.std.proofs.Common.{ℕ, zero, suc, ◌≤◌, List, [], ◌∷◌, length, Bool, Option, Some, None, arith}
use Rattle.std.specs.Option.{IfSome, option_map_or}
use Rattle.std.proofs.lemmas.Option.{IfSome_then}
use Rattle.response_reader.specs.Heads.{first_in}
use Rattle.api_routes.specs.Keys.{read_time}
use Rattle.client_model.specs.declared.checked.Checked.{Checked}
use Rattle.client_model.specs.declared.command.Command.TheVariants as command
use Rattle.client_model.specs.declared.fault.Fault.TheVariants as F
use Rattle.client_model.specs.Plans.{prints_all, done, fails, kept}
use Rattle.client_model.specs.Commands.Inspect.{inspect_request}
use Rattle.client_model.specs.Commands.Health.{checked_in, lines_in, container_events_request, told_health, asks_events, read_health}
use Rattle.client_laws.proofs.CheckLemmas.{HasId, checked-good}
use Rattle.client_laws.proofs.Spelled.WordLemmas.{IfSome-map, IfSome-each}
use Rattle.client_laws.proofs.Spelled.RequestLemmas.{inspect_spelled, container_events_spelled}
use Rattle.client_laws.proofs.Spelled.PlanLemmas.{AsksSpelled, all_printed, reading, asking_for, asking}
use Rattle.client_laws.proofs.Spelled.CommandLemmas.{Fit, IsFit}

told_fit : (until : List ℕ) (c : Checked) (first : Option ℕ) (body : List ℕ) (whole : Bool) → AsksSpelled (told_health until c first body whole)
told_fit until c None body whole = tt
told_fit until c (Some zero) body whole =
    reading (lines_in until c) (λ lines. prints_all lines done) body whole
    (IfSome-each (λ lines. AsksSpelled (prints_all lines done)) (lines_in until c body) (λ lines. all_printed lines done tt))
told_fit until c (Some (suc n)) body whole = tt

check_fit : (until : List ℕ) → length until ≤ 4096 → (checked : Option Checked) → IfSome checked HasId
    → AsksSpelled (option_map_or (asks_events until) checked (fails F.NoCheck))
check_fit until short None id = tt
check_fit until short (Some c) id =
    asking_for (kept (container_events_request until c.id)) (λ h body whole. told_health until c (first_in h.form) body whole)
    (container_events_spelled until c.id short id.short) (λ h body whole. told_fit until c (first_in h.form) body whole)

health_fit : (until target : List ℕ) → length until ≤ 4096 → length target ≤ 4096 → Fit (command.Health until target)
health_fit until target short few =
    asking (inspect_request target) checked_in (λ checked. option_map_or (asks_events until) checked (fails F.NoCheck)) (inspect_spelled target few)
    (λ body. IfSome_then (checked_in body) (checked-good body) (check_fit until short))

pub healths : IsFit read_health
healths [] short = tt
healths (until ∷ []) short = tt
healths (until ∷ target ∷ []) short =
    IfSome-map Fit (λ moment. command.Health until target) (read_time until)
    (IfSome-each (λ moment. Fit (command.Health until target)) (read_time until) (λ moment. health_fit until target (omega arith) (omega arith)))
healths (until ∷ target ∷ third ∷ words) short = tt
