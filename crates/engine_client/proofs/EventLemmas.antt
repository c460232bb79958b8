-- The events of a text of lines, and the lines of health that they give.
use Rattle.std.proofs.Common.{◌≡◌, ◌<◌, ◌≤◌, ℕ, List, [], ◌∷◌, ◌++◌, length, refl, sym, ap, ◌∙◌, subst, append_assoc, append-nil, Option, Some, None, option_map, Result, Ok, Err, Bool, true, false, arith}
use Rattle.std.specs.Prelude.{◌&&◌, nat_le, if◌then◌else◌, Vec}
use Rattle.std.specs.declared.alloc.Global.{Global}
use Rattle.std.proofs.lemmas.Bool.{and_parts}
use Rattle.std.proofs.lemmas.Bool.Decides.{nat_tests}
use Rattle.engine_text.specs.declared.event.Event.{Event}
use Rattle.engine_text.specs.declared.health.HealthSpec.{HealthSpec}
use Rattle.api_json.specs.Event.{if_there}
use Rattle.api_routes.specs.Keys.{read_time}
use Rattle.client_model.specs.Streams.{event_in, events_in}
use Rattle.client_model.specs.Commands.Health.{is_timed, if_timed, if_rising, health_lines, lines_in}
use Rattle.client_model.specs.declared.checked.Checked.{Checked}
use Rattle.client_model.specs.declared.fault.Fault.{Fault}
use Rattle.client_model.specs.declared.fault.Fault.TheVariants as F
use Rattle.engine_client.specs.Cutting.{HasNoLineEnd, IsCut}
use Rattle.engine_client.specs.Reading.{ReadsOrFails, ReadsList}
use Rattle.engine_client.proofs.WatchLemmas.{events_cut, unended}

-- ---- events that were read

-- what is told of the rest, behind these, is told of the whole
abbrev pub AreRead : List Event → List ℕ → List ℕ → Type 0
AreRead seen rest body = option_map (λ es. seen ++ es) (events_in rest) ≡ events_in body

map_id : (o : Option (List Event)) → option_map (λ es. [] ++ es) o ≡ o
map_id None = refl
map_id (Some es) = refl

pub read_first : (seen : List Event) (body : List ℕ) → seen ≡ [] → AreRead seen body body
read_first seen body is = ap (λ (s : List Event). option_map (λ es. s ++ es) (events_in body)) is ∙ map_id (events_in body)

map_on : (seen : List Event) (e : Event) (o : Option (List Event))
    → option_map (λ es. (seen ++ e ∷ []) ++ es) o ≡ option_map (λ es. seen ++ es) (option_map (λ es. e ∷ es) o)
map_on seen e None = refl
map_on seen e (Some es) = ap Some (append_assoc seen (e ∷ []) es)

pub read_more : (seen seen' : List Event) (e : Event) (rest line behind body : List ℕ) → AreRead seen rest body → IsCut rest line behind
    → ((front : List ℕ) → line ≡ front ++ 10 ∷ [] → event_in front ≡ Some e) → seen' ≡ seen ++ e ∷ [] → AreRead seen' behind body
read_more seen seen' e rest line behind body before (front, none, ends, is) reads added =
    ap (λ (s : List Event). option_map (λ es. s ++ es) (events_in behind)) added ∙ map_on seen e (events_in behind)
    ∙ ap (λ (o : Option Event). option_map (λ es. seen ++ es) (if_there o (λ x. option_map (λ es. x ∷ es) (events_in behind)))) (sym (reads front ends))
    ∙ ap (option_map (λ es. seen ++ es)) (sym (events_cut rest line behind front none ends is)) ∙ before

read_none : (seen : List Event) (rest line behind body : List ℕ) → AreRead seen rest body → IsCut rest line behind
    → ((front : List ℕ) → line ≡ front ++ 10 ∷ [] → event_in front ≡ None) → events_in body ≡ None
read_none seen rest line behind body before (front, none, ends, is) fails =
    sym before ∙ ap (option_map (λ es. seen ++ es)) (events_cut rest line behind front none ends is)
    ∙ ap (λ (o : Option Event). option_map (λ es. seen ++ es) (if_there o (λ x. option_map (λ es. x ∷ es) (events_in behind)))) (fails front ends)

pub read_wrong : (fault : Fault) (seen : List Event) (rest line behind body : List ℕ) → AreRead seen rest body → IsCut rest line behind
    → ((front : List ℕ) → line ≡ front ++ 10 ∷ [] → ReadsOrFails {A = Event} (Err fault) (event_in front)) → ReadsList {A = Event} (Err fault) (events_in body)
read_wrong F.Answer seen rest line behind body before cut fails = read_none seen rest line behind body before cut fails
read_wrong F.NoMemory seen rest line behind body before cut fails = tt
read_wrong F.Words seen rest line behind body before (front, none, ends, is) fails = absurd (fails front ends)
read_wrong F.Input seen rest line behind body before (front, none, ends, is) fails = absurd (fails front ends)
read_wrong F.Output seen rest line behind body before (front, none, ends, is) fails = absurd (fails front ends)
read_wrong F.Errors seen rest line behind body before (front, none, ends, is) fails = absurd (fails front ends)
read_wrong F.NoCode seen rest line behind body before (front, none, ends, is) fails = absurd (fails front ends)
read_wrong (F.AnswerTo request status) seen rest line behind body before (front, none, ends, is) fails = absurd (fails front ends)
read_wrong F.NoCheck seen rest line behind body before (front, none, ends, is) fails = absurd (fails front ends)
read_wrong F.EventsGone seen rest line behind body before (front, none, ends, is) fails = absurd (fails front ends)
read_wrong F.TooLong seen rest line behind body before (front, none, ends, is) fails = absurd (fails front ends)
read_wrong (F.Refused message) seen rest line behind body before (front, none, ends, is) fails = absurd (fails front ends)
read_wrong F.Link seen rest line behind body before (front, none, ends, is) fails = absurd (fails front ends)
read_wrong F.Connection seen rest line behind body before (front, none, ends, is) fails = absurd (fails front ends)

pub read_cut : (seen : List Event) (rest body : List ℕ) → AreRead seen rest body → 0 < length rest → HasNoLineEnd rest → events_in body ≡ None
read_cut seen [] body before some none = absurd (omega arith)
read_cut seen (b ∷ bs) body before some none = sym before ∙ ap (option_map (λ es. seen ++ es)) (unended b bs none)

pub read_all : (seen : List Event) (rest body : List ℕ) → AreRead seen rest body → rest ≡ [] → events_in body ≡ Some seen
read_all seen rest body before none =
    sym before ∙ ap (λ (l : List ℕ). option_map (λ es. seen ++ es) (events_in l)) none ∙ ap Some (append-nil seen)

-- ---- the lines that they give

abbrev Lines : Checked → ℕ → Option (List Event) → Option (List (List ℕ))
Lines c end o = if_there o (λ es. Some (health_lines c end es))

pub rising_lines : (c : Checked) (end : ℕ) (es : List Event) (t : Bool) (lines : List (List ℕ)) → t ≡ true → lines ≡ health_lines c end es → Lines c end (if t then Some es else None) ≡ Some lines
rising_lines c end es t lines is same = ap (λ (b : Bool). Lines c end (if b then Some es else None)) is ∙ ap Some (sym same)

pub no_lines : (c : Checked) (end : ℕ) (es : List Event) (t : Bool) → t ≡ false → Lines c end (if t then Some es else None) ≡ None
no_lines c end es t is = ap (λ (b : Bool). Lines c end (if b then Some es else None)) is

pub lines_by : (c : Checked) (end : ℕ) (bytes : List ℕ) (es : List Event) (result : Result (List (List ℕ)) Fault) → events_in bytes ≡ Some es
    → ReadsOrFails result (Lines c end (if_rising end es)) → ReadsOrFails result (Lines c end (if_there (events_in bytes) (if_rising end)))
lines_by c end bytes es result is reads = subst (λ (o : Option (List Event)). ReadsOrFails result (Lines c end (if_there o (if_rising end)))) (sym is) reads

pub rising_as : (c : Checked) (end : ℕ) (es es' : List Event) (result : Result (List (List ℕ)) Fault) → es ≡ es' → ReadsOrFails result (Lines c end (if_rising end es)) → ReadsOrFails result (Lines c end (if_rising end es'))
rising_as c end es es' result is reads = subst (λ (xs : List Event). ReadsOrFails result (Lines c end (if_rising end xs))) is reads

pub lines_wrong : (fault : Fault) (c : Checked) (end : ℕ) (events : Option (List Event)) → ReadsList {A = Event} (Err fault) events
    → ReadsOrFails {A = List (List ℕ)} (Err fault) (Lines c end (if_there events (if_rising end)))
lines_wrong F.Answer c end events is = ap (λ (o : Option (List Event)). Lines c end (if_there o (if_rising end))) is
lines_wrong F.NoMemory c end events is = tt
lines_wrong F.Words c end events is = absurd is
lines_wrong F.Input c end events is = absurd is
lines_wrong F.Output c end events is = absurd is
lines_wrong F.Errors c end events is = absurd is
lines_wrong F.NoCode c end events is = absurd is
lines_wrong (F.AnswerTo request status) c end events is = absurd is
lines_wrong F.NoCheck c end events is = absurd is
lines_wrong F.EventsGone c end events is = absurd is
lines_wrong F.TooLong c end events is = absurd is
lines_wrong (F.Refused message) c end events is = absurd is
lines_wrong F.Link c end events is = absurd is
lines_wrong F.Connection c end events is = absurd is

-- ---- UNTIL and the check

abbrev Timed : ℕ → List ℕ → Option Checked → Option (List (List ℕ))
Timed end body o = if_there o (λ timed. Lines timed end (if_there (events_in body) (if_rising end)))

pub timed_lines : (until : List ℕ) (c : Checked) (body : List ℕ) (end : ℕ) (result : Result (List (List ℕ)) Fault) → read_time until ≡ Some end → is_timed c.spec ≡ true
    → ReadsOrFails result (Lines c end (if_there (events_in body) (if_rising end))) → ReadsOrFails result (lines_in until c body)
timed_lines until c body end result is timed reads =
    subst (λ (o : Option ℕ). ReadsOrFails result (if_there o (λ m. Timed m body (if_timed c)))) (sym is)
    (subst (λ (t : Bool). ReadsOrFails result (Timed end body (if t then Some c else None))) (sym timed) reads)

pub untimed : (until : List ℕ) (c : Checked) (body : List ℕ) (end : ℕ) → read_time until ≡ Some end → is_timed c.spec ≡ false → lines_in until c body ≡ None
untimed until c body end is timed =
    ap (λ (o : Option ℕ). if_there o (λ m. Timed m body (if_timed c))) is ∙ ap (λ (t : Bool). Timed end body (if t then Some c else None)) timed

pub no_end : (until : List ℕ) (c : Checked) (body : List ℕ) → read_time until ≡ None → lines_in until c body ≡ None
no_end until c body is = ap (λ (o : Option ℕ). if_there o (λ m. Timed m body (if_timed c))) is

-- what a timed check is
pub timed_so : (spec : HealthSpec) → is_timed spec ≡ true → (1 ≤ spec.interval) × (spec.timeout ≤ 3600000)
timed_so spec is =
    let both = and_parts (nat_le 1 spec.interval) (nat_le spec.timeout 3600000) is in
    (grind (arith, nat_tests, both.0), grind (arith, nat_tests, both.1))
