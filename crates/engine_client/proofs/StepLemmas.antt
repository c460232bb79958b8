-- Steps, by the plans that they are the first of.
use Rattle.std.proofs.Common.{◌≡◌, ◌⊎◌, inl, inr, ℕ, zero, suc, List, ◌∷◌, ◌++◌, refl, sym, ap, ◌∙◌, subst, map, option_map, decimal, Option, Some, None, Result, Ok, Err, Bool, true, false}
use Rattle.std.specs.Prelude.{if◌then◌else◌, IfOk, Vec}
use Rattle.std.specs.declared.alloc.Global.{Global}
use Rattle.engine_text.specs.declared.memory.NoMemory.{NoMemory}
use Rattle.client_model.specs.Requests.{request_bytes}
use Rattle.client_model.specs.declared.showing.Showing.{Showing}
use Rattle.std.specs.Option.{option_map_or}
use Rattle.http_edge.specs.Message.{Request}
use Rattle.engine_text.specs.declared.event.Event.{Event}
use Rattle.engine_text.specs.declared.event.FoldRow.{FoldRow}
use Rattle.event_ring.specs.Fold.{fold_of}
use Rattle.client_model.specs.Bodies.{id_in, status_code_in, container_lines_in, volume_names_in}
use Rattle.client_model.specs.Plans.{Plan, Ends, cut_fault, goes_on, reads, prints, prints_all, ends, done, fails, fault_to, named}
use Rattle.client_model.specs.Streams.{events_in}
use Rattle.client_model.specs.Commands.Exec.{exit_code_in}
use Rattle.client_model.specs.Commands.Health.{checked_in, lines_in, told_health}
use Rattle.client_model.specs.Commands.Run.{removes}
use Rattle.client_model.specs.Commands.Watch.{row_line, watched}
use Rattle.client_model.specs.declared.checked.Checked.{Checked}
use Rattle.client_model.specs.declared.fault.Fault.{Fault}
use Rattle.client_model.specs.declared.fault.Fault.TheVariants as F
use Rattle.client_model.specs.Client.{plan_of}
use Rattle.client_model.specs.declared.command.Command.{Command}
use Rattle.client_model.specs.declared.command.Command.TheVariants.{Replay}
use Rattle.client_exchange.specs.Walks.{IsAsking}
use Rattle.client_exchange.specs.Asking.{asked_as, asks_then, FailsShort}
use Rattle.engine_client.specs.Reading.{ReadsOrFails}
use Rattle.engine_client.specs.Steps.{starts, attaches, waits, executes, inspects, watches, by_check}
use Rattle.engine_client.specs.Places.{plan_at, feeds_at, GoesOn, Begins, IsTimed}
use Rattle.engine_client.specs.declared.onward.Then.{Then}
use Rattle.engine_client.specs.declared.onward.Then.TheVariants as place
use Rattle.engine_client.specs.declared.step.Step.{Step}
use Rattle.engine_client.specs.declared.step.Step.TheVariants as step
use Rattle.engine_client.proofs.PrintLemmas.{prints_all_so}

-- ---- a plan by another name

pub step_as : (result : Result Step Fault) (fed : Bool) (plan plan' : Plan) → plan ≡ plan' → GoesOn result fed plan → GoesOn result fed plan'
step_as result fed plan plan' is goes = subst (GoesOn result fed) is goes

pub begun : (result : Result Step Fault) (fed : Bool) (plan plan' : Plan) → plan ≡ plan' → GoesOn result fed plan → Begins result plan'
begun (Ok first) fed plan plan' is goes = (step_as (Ok first) fed plan plan' is goes).0
begun (Err fault) fed plan plan' is goes = step_as (Err fault) fed plan plan' is goes

-- a request that input may follow, behind which none is fed
pub fed_so : (result : Result Step Fault) (input : Bool) (plan plan' : Plan) → plan ≡ plan' → GoesOn result (if input then true else false) plan → GoesOn result input plan'
fed_so result true plan plan' is goes = step_as result true plan plan' is goes
fed_so result false plan plan' is goes = step_as result false plan plan' is goes

-- ---- where a fault names its answer

-- a step is the first of the same plan
pub named_step : (line : List ℕ) (status : Option ℕ) (now : Step) (fed : Bool) (plan : Plan) → GoesOn (Ok now) fed plan → GoesOn (Ok now) fed (named line status plan)
named_step line status (step.Asks ask onward) fed plan ((request, bytes, is, once), feeds_so) = ((request, bytes, ap (named line status) is, once), feeds_so)
named_step line status (step.Writes text code) fed plan (is, feeds_so) = (ap (named line status) is, feeds_so)
named_step line status (step.Judges upgrade seed moment) fed plan ((is, timed), feeds_so) = ((ap (named line status) is, timed), feeds_so)

pub named_fault : (line : List ℕ) (status : Option ℕ) (fault told : Fault) (fed : Bool) (plan : Plan) → told ≡ fault_to line status fault → GoesOn (Err fault) fed plan
    → GoesOn (Err told) fed (named line status plan)
named_fault line status fault told fed plan is (inl lack) = inl (is ∙ ap (fault_to line status) lack)
named_fault line status fault told fed plan is (inr fails_so) = inr (ap (named line status) fails_so ∙ ap fails (sym is))

-- ---- what is read

pub read_goes : {A : Type 0} (read : List ℕ → Option A) (next : A → Plan) (bytes body : List ℕ) (x : A) (result : Result Step Fault) (fed : Bool)
    → bytes ≡ body → read bytes ≡ Some x → GoesOn result fed (next x) → GoesOn result fed (goes_on next (read body))
read_goes read next bytes body x result fed same is goes = subst (GoesOn result fed) (sym (ap (goes_on next) (ap read (sym same) ∙ is))) goes

fault_goes : {A : Type 0} (next : A → Plan) (read : Option A) (fault : Fault) (fed : Bool) → ReadsOrFails {A = A} (Err fault) read → GoesOn (Err fault) fed (goes_on next read)
fault_goes next read F.Answer fed is = inr (ap (goes_on next) is)
fault_goes next read F.NoMemory fed is = inl refl
fault_goes next read F.Words fed is = absurd is
fault_goes next read F.Input fed is = absurd is
fault_goes next read F.Output fed is = absurd is
fault_goes next read F.Errors fed is = absurd is
fault_goes next read F.NoCode fed is = absurd is
fault_goes next read (F.AnswerTo request status) fed is = absurd is
fault_goes next read F.NoCheck fed is = absurd is
fault_goes next read F.EventsGone fed is = absurd is
fault_goes next read F.TooLong fed is = absurd is
fault_goes next read (F.Refused message) fed is = absurd is
fault_goes next read F.Link fed is = absurd is
fault_goes next read F.Connection fed is = absurd is

pub read_fails : {A : Type 0} (read : List ℕ → Option A) (next : A → Plan) (bytes body : List ℕ) (fault : Fault) (fed : Bool)
    → bytes ≡ body → ReadsOrFails {A = A} (Err fault) (read bytes) → GoesOn (Err fault) fed (goes_on next (read body))
read_fails read next bytes body fault fed same is = fault_goes next (read body) fault fed (subst (λ b. ReadsOrFails (Err fault) (read b)) same is)

-- ---- what follows a place

pub goes_asking : {A : Type 0} (next : A → Plan) (read : Option A) → ((a : A) → IsAsking (next a)) → IsAsking (goes_on next read)
goes_asking next (Some a) all = all a
goes_asking next None all = tt

reads_asking : {A : Type 0} (read : List ℕ → Option A) (next : A → Plan) (body : List ℕ) (whole : Bool) → ((a : A) → IsAsking (next a)) → IsAsking (reads read next body whole)
reads_asking read next body true all = goes_asking next (read body) all
reads_asking read next body false all = tt

all_printed : (lines : List (List ℕ)) → IsAsking (prints_all lines done)
all_printed lines = subst IsAsking (sym (prints_all_so lines 0)) tt

removes_asks : (remove : Bool) (id : List ℕ) (code : ℕ) → IsAsking (removes remove id (ends code))
removes_asks true id code = tt
removes_asks false id code = tt

code_asks : (code : Option ℕ) → IsAsking (option_map_or ends code (fails F.NoCode))
code_asks (Some code) = tt
code_asks None = tt

watched_asks : (first : Option ℕ) (body : List ℕ) (whole : Bool) → IsAsking (watched first body whole)
watched_asks None body whole = tt
watched_asks (Some zero) body whole = reads_asking events_in (λ es. prints_all (map row_line (fold_of es)) done) body whole (λ es. all_printed (map row_line (fold_of es)))
watched_asks (Some (suc n)) body whole = tt

check_asks : (until : List ℕ) (checked : Option Checked) → IsAsking (by_check until checked)
check_asks until (Some c) = tt
check_asks until None = tt

told_asks : (until : List ℕ) (c : Checked) (first : Option ℕ) (body : List ℕ) (whole : Bool) → IsAsking (told_health until c first body whole)
told_asks until c None body whole = tt
told_asks until c (Some zero) body whole = reads_asking (lines_in until c) (λ lines. prints_all lines done) body whole all_printed
told_asks until c (Some (suc n)) body whole = tt

-- nothing there waits for a judgement
pub places_ask : (onward : Then) (first : Option ℕ) (body : List ℕ) (whole : Bool) → IsAsking (plan_at onward first body whole)
places_ask (place.Ends status) first body whole = reads_asking Some (λ text. ends status) body whole (λ text. tt)
places_ask (place.Prints line) first body whole = reads_asking Some (λ text. prints line done) body whole (λ text. tt)
places_ask place.PrintsBody first body whole = reads_asking Some (λ text. prints text done) body whole (λ text. tt)
places_ask place.PrintsId first body whole = reads_asking id_in (λ id. prints id done) body whole (λ id. tt)
places_ask place.PrintsContainers first body whole = reads_asking container_lines_in (λ lines. prints_all lines done) body whole all_printed
places_ask place.PrintsVolumes first body whole = reads_asking volume_names_in (λ names. prints_all names done) body whole all_printed
places_ask place.PrintsCode first body whole = reads_asking status_code_in (λ code. prints (decimal code) done) body whole (λ code. tt)
places_ask place.PrintsRows first body whole = watched_asks first body whole
places_ask (place.Starts input remove) first body whole = reads_asking id_in (λ id. starts input remove id) body whole (λ id. tt)
places_ask (place.Attaches id input remove) first body whole = reads_asking Some (λ text. attaches input remove id) body whole (λ text. tt)
places_ask (place.Waits id remove) first body whole = reads_asking Some (λ text. waits remove id) body whole (λ text. tt)
places_ask (place.Removes id remove) first body whole = reads_asking status_code_in (λ code. removes remove id (ends code)) body whole (removes_asks remove id)
places_ask (place.Executes input) first body whole = reads_asking id_in (λ id. executes input id) body whole (λ id. tt)
places_ask (place.Inspects id) first body whole = reads_asking Some (λ text. inspects id) body whole (λ text. tt)
places_ask place.EndsExec first body whole = reads_asking exit_code_in (λ code. option_map_or ends code (fails F.NoCode)) body whole code_asks
places_ask (place.AsksEvents until) first body whole = reads_asking checked_in (λ checked. by_check until checked) body whole (check_asks until)
places_ask (place.PrintsHealth until c) first body whole = told_asks until c first body whole

watched_cut : (first : Option ℕ) (body : List ℕ) → (fault : Fault) × (watched first body false ≡ fails fault)
watched_cut None body = (F.Answer, refl)
watched_cut (Some zero) body = (cut_fault body, refl)
watched_cut (Some (suc n)) body = (F.EventsGone, refl)

told_cut : (until : List ℕ) (c : Checked) (first : Option ℕ) (body : List ℕ) → (fault : Fault) × (told_health until c first body false ≡ fails fault)
told_cut until c None body = (F.Answer, refl)
told_cut until c (Some zero) body = (cut_fault body, refl)
told_cut until c (Some (suc n)) body = (F.EventsGone, refl)

-- behind a body that isn't whole each fails
pub places_short : (onward : Then) → FailsShort (plan_at onward)
places_short (place.Ends status) first body = (cut_fault body, refl)
places_short (place.Prints line) first body = (cut_fault body, refl)
places_short place.PrintsBody first body = (cut_fault body, refl)
places_short place.PrintsId first body = (cut_fault body, refl)
places_short place.PrintsContainers first body = (cut_fault body, refl)
places_short place.PrintsVolumes first body = (cut_fault body, refl)
places_short place.PrintsCode first body = (cut_fault body, refl)
places_short place.PrintsRows first body = watched_cut first body
places_short (place.Starts input remove) first body = (cut_fault body, refl)
places_short (place.Attaches id input remove) first body = (cut_fault body, refl)
places_short (place.Waits id remove) first body = (cut_fault body, refl)
places_short (place.Removes id remove) first body = (cut_fault body, refl)
places_short (place.Executes input) first body = (cut_fault body, refl)
places_short (place.Inspects id) first body = (cut_fault body, refl)
places_short place.EndsExec first body = (cut_fault body, refl)
places_short (place.AsksEvents until) first body = (cut_fault body, refl)
places_short (place.PrintsHealth until c) first body = told_cut until c first body

pub short_rows_at : (onward : Then) (first : Option ℕ) (body : List ℕ) (fault : Fault) → onward ≡ place.PrintsRows → watched first body false ≡ fails fault → plan_at onward first body false ≡ fails fault
short_rows_at onward first body fault is fails_so = ap (λ t. plan_at t first body false) is ∙ fails_so

pub short_health_at : (onward : Then) (until : List ℕ) (c : Checked) (first : Option ℕ) (body : List ℕ) (fault : Fault) → onward ≡ place.PrintsHealth until c
    → told_health until c first body false ≡ fails fault → plan_at onward first body false ≡ fails fault
short_health_at onward until c first body fault is fails_so = ap (λ t. plan_at t first body false) is ∙ fails_so

pub short_at : (onward : Then) (first : Option ℕ) (body : List ℕ) (fault : Fault) → (onward ≡ place.PrintsRows → ⊥) → ((until : List ℕ) (c : Checked) → onward ≡ place.PrintsHealth until c → ⊥)
    → fault ≡ cut_fault body → plan_at onward first body false ≡ fails fault
short_at (place.Ends status) first body fault other told is = sym (ap fails is)
short_at (place.Prints line) first body fault other told is = sym (ap fails is)
short_at place.PrintsBody first body fault other told is = sym (ap fails is)
short_at place.PrintsId first body fault other told is = sym (ap fails is)
short_at place.PrintsContainers first body fault other told is = sym (ap fails is)
short_at place.PrintsVolumes first body fault other told is = sym (ap fails is)
short_at place.PrintsCode first body fault other told is = sym (ap fails is)
short_at place.PrintsRows first body fault other told is = absurd (other refl)
short_at (place.Starts input remove) first body fault other told is = sym (ap fails is)
short_at (place.Attaches id input remove) first body fault other told is = sym (ap fails is)
short_at (place.Waits id remove) first body fault other told is = sym (ap fails is)
short_at (place.Removes id remove) first body fault other told is = sym (ap fails is)
short_at (place.Executes input) first body fault other told is = sym (ap fails is)
short_at (place.Inspects id) first body fault other told is = sym (ap fails is)
short_at place.EndsExec first body fault other told is = sym (ap fails is)
short_at (place.AsksEvents until) first body fault other told is = sym (ap fails is)
short_at (place.PrintsHealth until c) first body fault other told is = absurd (told until c refl)

-- ---- events, by their first number and by what was folded of them

rows_same : (a b : List FoldRow) → Some a ≡ Some b → a ≡ b
rows_same a b e = cc

no_rows : (rows : List FoldRow) → None ≡ Some rows → ⊥
no_rows rows e = cc

some_rows : (rows : List FoldRow) → Some rows ≡ None → ⊥
some_rows rows e = cc

rows_plan : (events : Option (List Event)) (rows : List FoldRow) → option_map fold_of events ≡ Some rows → prints_all (map row_line rows) done ≡ watches events
rows_plan (Some es) rows is = ap (λ rs. prints_all (map row_line rs) done) (sym (rows_same (fold_of es) rows is))
rows_plan None rows is = absurd (no_rows rows is)

none_plan : (events : Option (List Event)) → option_map fold_of events ≡ None → watches events ≡ fails F.Answer
none_plan None is = refl
none_plan (Some es) is = absurd (some_rows (fold_of es) is)

pub rows_go : (bytes body : List ℕ) (rows rows' : List FoldRow) (result : Result Step Fault) → bytes ≡ body → option_map fold_of (events_in bytes) ≡ Some rows → rows' ≡ rows
    → GoesOn result false (prints_all (map row_line rows') done) → GoesOn result false (watches (events_in body))
rows_go bytes body rows rows' result same is rows_are goes =
    step_as result false (prints_all (map row_line rows') done) (watches (events_in body))
    (ap (λ rs. prints_all (map row_line rs) done) rows_are ∙ rows_plan (events_in body) rows (subst (λ b. option_map fold_of (events_in b) ≡ Some rows) same is)) goes

rows_fault : (events : Option (List Event)) (fault : Fault) → ReadsOrFails {A = List FoldRow} (Err fault) (option_map fold_of events) → GoesOn (Err fault) false (watches events)
rows_fault events F.Answer is = inr (none_plan events is)
rows_fault events F.NoMemory is = inl refl
rows_fault events F.Words is = absurd is
rows_fault events F.Input is = absurd is
rows_fault events F.Output is = absurd is
rows_fault events F.Errors is = absurd is
rows_fault events F.NoCode is = absurd is
rows_fault events (F.AnswerTo request status) is = absurd is
rows_fault events F.NoCheck is = absurd is
rows_fault events F.EventsGone is = absurd is
rows_fault events F.TooLong is = absurd is
rows_fault events (F.Refused message) is = absurd is
rows_fault events F.Link is = absurd is
rows_fault events F.Connection is = absurd is

pub rows_fail : (bytes body : List ℕ) (fault : Fault) → bytes ≡ body → ReadsOrFails {A = List FoldRow} (Err fault) (option_map fold_of (events_in bytes))
    → GoesOn (Err fault) false (watches (events_in body))
rows_fail bytes body fault same is = rows_fault (events_in body) fault (subst (λ b. ReadsOrFails {A = List FoldRow} (Err fault) (option_map fold_of (events_in b))) same is)

pub not_told : (first : Option ℕ) (body : List ℕ) → first ≡ None → GoesOn (Err F.Answer) false (watched first body true)
not_told first body is = inr (ap (λ f. watched f body true) is)

pub told_goes : (first : Option ℕ) (n : ℕ) (body : List ℕ) (result : Result Step Fault) → first ≡ Some n → GoesOn result false (watched (Some n) body true) → GoesOn result false (watched first body true)
told_goes first n body result is goes = step_as result false (watched (Some n) body true) (watched first body true) (sym (ap (λ f. watched f body true) is)) goes

pub from_first : (first : Option ℕ) (n : ℕ) (body : List ℕ) (result : Result Step Fault) → first ≡ Some n → n ≡ 0 → GoesOn result false (watches (events_in body)) → GoesOn result false (watched first body true)
from_first first n body result is begins goes =
    step_as result false (watches (events_in body)) (watched first body true) (sym (ap (λ f. watched f body true) (is ∙ ap Some begins))) goes

later : (n : ℕ) (body : List ℕ) (whole : Bool) → (n ≡ 0 → ⊥) → watched (Some n) body whole ≡ fails F.EventsGone
later zero body whole not = absurd (not refl)
later (suc n) body whole not = refl

pub from_later : (first : Option ℕ) (n : ℕ) (body : List ℕ) → first ≡ Some n → (n ≡ 0 → ⊥) → GoesOn (Err F.EventsGone) false (watched first body true)
from_later first n body is not = inr (ap (λ f. watched f body true) is ∙ later n body true not)

pub short_first : (first : Option ℕ) (n : ℕ) (body : List ℕ) (fault : Fault) → first ≡ Some n → n ≡ 0 → fault ≡ cut_fault body → watched first body false ≡ fails fault
short_first first n body fault is begins same = ap (λ f. watched f body false) (is ∙ ap Some begins) ∙ sym (ap fails same)

pub short_later : (first : Option ℕ) (n : ℕ) (body : List ℕ) → first ≡ Some n → (n ≡ 0 → ⊥) → watched first body false ≡ fails F.EventsGone
short_later first n body is not = ap (λ f. watched f body false) is ∙ later n body false not

-- ---- health, by the number of the first event

pub health_untold : (until : List ℕ) (c : Checked) (first : Option ℕ) (body : List ℕ) → first ≡ None → GoesOn (Err F.Answer) false (told_health until c first body true)
health_untold until c first body is = inr (ap (λ f. told_health until c f body true) is)

pub health_told : (until : List ℕ) (c : Checked) (first : Option ℕ) (n : ℕ) (body : List ℕ) (result : Result Step Fault) → first ≡ Some n
    → GoesOn result false (told_health until c (Some n) body true) → GoesOn result false (told_health until c first body true)
health_told until c first n body result is goes =
    step_as result false (told_health until c (Some n) body true) (told_health until c first body true) (sym (ap (λ f. told_health until c f body true) is)) goes

pub health_first : (until : List ℕ) (c : Checked) (n : ℕ) (body : List ℕ) (result : Result Step Fault) → n ≡ 0
    → GoesOn result false (goes_on (λ lines. prints_all lines done) (lines_in until c body)) → GoesOn result false (told_health until c (Some n) body true)
health_first until c n body result begins goes =
    step_as result false (goes_on (λ lines. prints_all lines done) (lines_in until c body)) (told_health until c (Some n) body true)
    (sym (ap (λ m. told_health until c (Some m) body true) begins)) goes

gone : (until : List ℕ) (c : Checked) (n : ℕ) (body : List ℕ) (whole : Bool) → (n ≡ 0 → ⊥) → told_health until c (Some n) body whole ≡ fails F.EventsGone
gone until c zero body whole not = absurd (not refl)
gone until c (suc n) body whole not = refl

pub health_gone : (until : List ℕ) (c : Checked) (n : ℕ) (body : List ℕ) → (n ≡ 0 → ⊥) → GoesOn (Err F.EventsGone) false (told_health until c (Some n) body true)
health_gone until c n body not = inr (gone until c n body true not)

pub health_short_first : (until : List ℕ) (c : Checked) (first : Option ℕ) (n : ℕ) (body : List ℕ) (fault : Fault) → first ≡ Some n → n ≡ 0 → fault ≡ cut_fault body
    → told_health until c first body false ≡ fails fault
health_short_first until c first n body fault is begins same = ap (λ f. told_health until c f body false) (is ∙ ap Some begins) ∙ sym (ap fails same)

pub health_short_later : (until : List ℕ) (c : Checked) (first : Option ℕ) (n : ℕ) (body : List ℕ) → first ≡ Some n → (n ≡ 0 → ⊥) → told_health until c first body false ≡ fails F.EventsGone
health_short_later until c first n body is not = ap (λ f. told_health until c f body false) is ∙ gone until c n body false not

-- ---- steps that ask

pub asked_step : (r : Request) (had : Result (Vec ℕ Global) NoMemory) (request : Vec ℕ Global) (input : Bool) (showing : Showing) (onward : Then) → had ≡ Ok request
    → IfOk had (λ v. v.items ≡ request_bytes r) → (input ≡ true → feeds_at onward ≡ false)
    → GoesOn (Ok (step.Asks (record { request = request; input = input; showing = showing }) onward)) (if input then true else feeds_at onward) (asks_then (asked_as r input showing) (plan_at onward))
asked_step r had request input showing onward is bytes once = ((r, subst (λ q. IfOk q (λ v. v.items ≡ request_bytes r)) is bytes, refl, once), refl)

pub not_so : false ≡ true → ⊥
not_so e = cc

-- a judgement is asked for first
pub replayed : (command : Command) (upgrade : Bool) (seed : List ℕ) (moment : ℕ) → Replay upgrade seed moment ≡ command → IsTimed command
    → Begins (Ok (step.Judges upgrade seed moment)) (plan_of command)
replayed command upgrade seed moment is timed = (sym (ap plan_of is), subst IsTimed (sym is) timed)

-- what a place does, by which one it is
pub at_place : (result : Result Step Fault) (one onward : Then) (first : Option ℕ) (body : List ℕ) → one ≡ onward → GoesOn result (feeds_at one) (plan_at one first body true)
    → GoesOn result (feeds_at onward) (plan_at onward first body true)
at_place result one onward first body is goes = subst (λ t. GoesOn result (feeds_at t) (plan_at t first body true)) is goes
