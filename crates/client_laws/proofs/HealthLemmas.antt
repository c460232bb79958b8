-- What `health` asks is what the table names.
use Rattle.std.proofs.Common.{◌≡◌, ℕ, zero, suc, Bool, true, false, List, [], ◌∷◌, ◌++◌, cond, codes, IsUtf8, Option, Some, None, Ok, refl, subst, ap, ◌∙◌}
use Rattle.std.specs.Prelude.{nat_lt, IfSome, option_and_then}
use Rattle.std.specs.Option.{option_map_or}
use Rattle.serde_json.specs.Data.{Data, Members, no_members, member}
use Rattle.serde_json.specs.Find.{as_object}
use Rattle.serde_json.specs.Written.{compact_text}
use Rattle.json_laws.specs.Pairs.{words_data}
use Rattle.json_laws.specs.Sound.{IsCarried}
use Rattle.json_laws.proofs.Text.{data_of-compact_text}
use Rattle.json_laws.proofs.Sound.{object-sound, words-sound}
use Rattle.json_laws.proofs.Utf8.{IsUtf8-compact_text}
use Rattle.response_reader.specs.Answers.{Answer, NoHead, Answered}
use Rattle.response_reader.specs.Heads.{first_in}
use Rattle.client_model.specs.Judgement.{Judgement}
use Rattle.engine_text.specs.declared.call.Call.TheVariants as call
use Rattle.engine_text.specs.declared.filter.FilterKey.TheVariants as filterkey
use Rattle.api_json.specs.Fault.{or_fault}
use Rattle.api_json.specs.Filters.{filter_of, rows_in}
use Rattle.api_json.specs.declared.fault.BodyFault.TheVariants.{InvalidFilter}
use Rattle.api_routes.specs.Fault.{and_then}
use Rattle.api_routes.specs.Keys.{optional_time}
use Rattle.api_routes.specs.Calls.{of_body, event_keys}
use Rattle.api_routes.specs.Class.{class_of, or_refusal}
use Rattle.api_routes.specs.RouteClass.{in_chunks}
use Rattle.client_model.specs.declared.manner.Manner.TheVariants.{Closes}
use Rattle.client_model.specs.declared.checked.Checked.{Checked}
use Rattle.client_model.specs.declared.fault.Fault.TheVariants as F
use Rattle.client_model.specs.declared.showing.Showing.TheVariants.{Kept}
use Rattle.client_model.specs.Requests.{Query, key}
use Rattle.client_model.specs.Plans.{prints_all, done, fails, refuses, kept, by_answer}
use Rattle.client_model.specs.Commands.Inspect.{inspect_request}
use Rattle.client_model.specs.Commands.Health.{checked_in, container_filter, container_events_request, lines_in, told_health, asks_events, health_plan}
use Rattle.client_laws.specs.Classes as class
use Rattle.client_laws.specs.Table.{alone, if_whole, once, health_calls}
use Rattle.client_laws.proofs.ByteLemmas.{utf8-bytes}
use Rattle.client_laws.proofs.CheckLemmas.{HasId, hex-text, checked-good}
use Rattle.client_laws.proofs.RequestLemmas.{class-routed}
use Rattle.client_laws.proofs.ClassLemmas.{given_in, looked-up, literal, inspect-class}
use Rattle.client_laws.proofs.StreamClassLemmas.{events_by}
use Rattle.client_laws.proofs.PlanLemmas.{entries, AsksNone, all-printed, asks-for, asks-calls, none-behind, read-goes, none-read, refused, same-entry}

-- ---- the filter

abbrev members_of : List ℕ → Members
members_of id = member (codes "container") (words_data (id ∷ [])) no_members

filter-carried : (id : List ℕ) → IsUtf8 id → IsCarried (container_filter id)
filter-carried id u = object-sound 126 (members_of id) refl (words-sound 125 (id ∷ []) (u, tt), tt)

filter-text : (id : List ℕ) → IsUtf8 id → IsUtf8 (compact_text (container_filter id))
filter-text id u = let carried = filter-carried id u in IsUtf8-compact_text (container_filter id) carried.0 carried.1

filter-read : (id : List ℕ) → IsUtf8 id
    → filter_of event_keys (compact_text (container_filter id)) ≡ Ok (record { key = filterkey.Container; values = id ∷ [] } ∷ [])
unfolding filter_of
filter-read id u =
    ap (λ (o : Option Data). or_fault InvalidFilter (option_and_then (rows_in event_keys) (option_and_then as_object o)))
    (data_of-compact_text (container_filter id) (filter-carried id u))

-- ---- the class of its events

abbrev query_of : List ℕ → List ℕ → Query
query_of until id =
    key (codes "since") (codes "0") ++ key (codes "until") until ++ key (codes "filters") (compact_text (container_filter id))

events-given : (until id : List ℕ) → IsUtf8 id → events_by (given_in (query_of until id)) ≡ class.container_events until id
events-given until id u =
    ap (λ r. in_chunks (and_then (optional_time (Some until)) (λ to. and_then (of_body r) (λ filter. Ok (call.Events (Some 0) to filter))))) (filter-read id u)

pub container-events-class : (until id : List ℕ) → IsUtf8 until → IsUtf8 id
    → class_of (container_events_request until id) ≡ or_refusal (class.container_events until id)
container-events-class until id u i =
    let query = query_of until id in
    class-routed (codes "GET") Closes (codes "events" ∷ []) query []
    ∙ ap (λ found. or_refusal (events_by found))
    (looked-up query (literal (codes "since") refl, literal (codes "0") refl, (literal (codes "until") refl, u, (literal (codes "filters") refl, filter-text id i, tt))))
    ∙ ap or_refusal (events-given until id i)

-- ---- the plan

told-none : (until : List ℕ) (c : Checked) (first : Option ℕ) (body : List ℕ) (whole : Bool) → AsksNone (told_health until c first body whole)
told-none until c None body whole verdict answers = refl
told-none until c (Some zero) body whole verdict answers =
    read-goes (lines_in until c) (λ lines. prints_all lines done) body whole verdict answers (λ lines. [])
    (λ lines same. all-printed lines verdict answers)
    ∙ none-read (if_whole whole (lines_in until c body))
told-none until c (Some (suc n)) body whole verdict answers = refl

told-on : (until : List ℕ) (c : Checked) (answer : Answer) → AsksNone (by_answer (λ h body whole. told_health until c (first_in h.form) body whole) answer)
told-on until c NoHead verdict answers = refl
told-on until c (Answered h body whole) verdict answers = by (nat_lt h.status 400)
  where
    by : (t : Bool) → entries (cond t (told_health until c (first_in h.form) body whole) (refuses body whole)) verdict answers ≡ []
    by true = told-none until c (first_in h.form) body whole verdict answers
    by false = refused whole body verdict answers

-- nothing is read to go on by
abbrev nothing_read : Answer → Option (List ℕ)
nothing_read answer = None

events-asked : (until : List ℕ) (c : Checked) (verdict : Option Judgement) → IsUtf8 until → HasId c → (answers : List Answer)
    → entries (asks_events until c) verdict answers ≡ once (class.container_events until c.id)
events-asked until c verdict u id answers =
    let says = class.container_events until c.id in
    asks-for (kept (container_events_request until c.id)) (λ h body whole. told_health until c (first_in h.form) body whole) verdict (alone says)
    nothing_read (λ x answers. []) (same-entry (container_events_request until c.id) false Kept says (container-events-class until c.id u (hex-text c.id id)))
    (λ answer answers. told-on until c answer verdict answers) answers
    ∙ none-behind says nothing_read answers

check-asked : (until : List ℕ) (checked : Option Checked) (verdict : Option Judgement) → IsUtf8 until → IfSome checked HasId → (answers : List Answer)
    → entries (option_map_or (asks_events until) checked (fails F.NoCheck)) verdict answers
    ≡ option_map_or (λ (c : Checked). once (class.container_events until c.id)) checked []
check-asked until None verdict u id answers = refl
check-asked until (Some c) verdict u id answers = events-asked until c verdict u id answers

pub health-calls : (until target : List ℕ) (verdict : Option Judgement) → IsUtf8 until → IsUtf8 target
    → (answers : List Answer) → entries (health_plan until target) verdict answers ≡ health_calls until target answers
health-calls until target verdict u t =
    asks-calls (inspect_request target) checked_in (λ checked. option_map_or (asks_events until) checked (fails F.NoCheck)) verdict (class.inspect target)
    (λ checked answers. option_map_or (λ (c : Checked). once (class.container_events until c.id)) checked []) (inspect-class target (utf8-bytes target t))
    (λ checked body found. check-asked until checked verdict u (subst (λ (o : Option (Option Checked)). IfSome o (λ c. IfSome c HasId)) found (checked-good body)))
