-- The stream that a call for logs gives can be followed from the state that the call leaves.
use Rattle.std.specs.Prelude.{is_some, unwrap_or, option_map}
use Rattle.std.specs.Option.{option_map_or, option_or}
use Rattle.std.proofs.Common.{◌≡◌, ◌≤◌, ◌+◌, ◌-◌, ◌==◌, ℕ, zero, suc, List, [], ◌∷◌, refl, sym, ◌∙◌, ap, subst, arith, Bool, true, false, cond, if◌then◌else◌, Option, Some, None, find, length, get_or}
use Rattle.std.specs.Prelude.{IsTrue, nat_lt, slice_index}
use Rattle.std.specs.List.{AllByRecursion, filter, range_with_len}
use Rattle.engine_text.specs.declared.call.Call.TheVariants as call
use Rattle.engine_text.specs.declared.call.LogAsk.{LogAsk}
use Rattle.engine_text.specs.declared.container.Container.{Container}
use Rattle.engine_text.specs.declared.container.Found.{Found}
use Rattle.engine_text.specs.declared.log.LogRecord.{LogRecord}
use Rattle.engine_text.specs.declared.owner.Owner.TheVariants.{Container as OfContainer}
use Rattle.engine_text.specs.declared.reply.Reply.{Reply}
use Rattle.engine_text.specs.declared.reply.Reply.TheVariants.{LogStream}
use Rattle.engine_text.specs.declared.reply.StopRule.{StopRule}
use Rattle.engine_text.specs.declared.step.Step.{Step}
use Rattle.container_table.specs.Reference.{container_by}
use Rattle.machine_model.specs.State.{State, container_numbered}
use Rattle.machine_model.specs.Chain.{still}
use Rattle.machine_model.specs.Outcome.{Outcome, replies, by_found, refused}
use Rattle.machine_model.specs.Step.{at_moment}
use Rattle.machine_model.specs.Calls.Logs.{places, first_by_tail, first_place, stop_rule, log_spec, is_selected}
use Rattle.machine_model.specs.LogStream.{is_kept, kept_log, log_of, log_reach}
use Rattle.machine_model.specs.History.{after_step, reply_of}
use Rattle.machine_model.proofs.Fold.RowLemmas.{found_number}
use Rattle.attach_hub.specs.Following.{MayFollow}
use Rattle.attach_hub.proofs.LogLemmas.{Fits, reach_by, reach_is}
use Rattle.machine_model.specs.Refusals.{no_such_container}

-- ---- the first place lies within the log

range_below : (a n size : ℕ) → a + n ≤ size → AllByRecursion (λ i. i ≤ size) (range_with_len a n)
range_below a zero size le = tt
range_below a (suc n) size le = (omega (arith, le), range_below (a + 1) n size (omega (arith, le)))

keep_by : (b : Bool) (P : ℕ → Type 0) (x : ℕ) (xs : List ℕ) → P x → AllByRecursion P xs → AllByRecursion P (cond b (x ∷ xs) xs)
keep_by true P x xs h all = (h, all)
keep_by false P x xs h all = all

keeps : (P : ℕ → Type 0) (p : ℕ → Bool) (xs : List ℕ) → AllByRecursion P xs → AllByRecursion P (filter p xs)
keeps P p [] all = tt
keeps P p (x ∷ xs) all = keep_by (p x) P x (filter p xs) all.0 (keeps P p xs all.1)

at_most : (xs : List ℕ) (i size : ℕ) → AllByRecursion (λ n. n ≤ size) xs → get_or xs i 0 ≤ size
at_most [] i size all = omega arith
at_most (x ∷ xs) zero size all = all.0
at_most (x ∷ xs) (suc i) size all = at_most xs i size all.1

from_end_by : (b : Bool) (xs : List ℕ) (i size : ℕ) → AllByRecursion (λ n. n ≤ size) xs → (if b then 0 else slice_index xs i) ≤ size
from_end_by true xs i size all = omega arith
from_end_by false xs i size all = at_most xs i size all

by_tail : (tail : Option ℕ) (xs : List ℕ) (size : ℕ) → AllByRecursion (λ n. n ≤ size) xs → first_by_tail tail xs size ≤ size
by_tail None xs size all = omega arith
by_tail (Some zero) xs size all = omega arith
by_tail (Some (suc n)) xs size all = from_end_by (nat_lt (length xs) (suc n)) xs (length xs - suc n) size all

first_least : (ask : LogAsk) (log : List LogRecord) → first_place ask log ≤ length log
first_least ask log =
    by_tail ask.tail (places (is_selected ask.out ask.err ask.least ask.greatest) log) (length log)
    (keeps (λ n. n ≤ length log) _ (range_with_len 0 (length log)) (range_below 0 (length log) (length log) (omega arith)))

-- ---- the stream of a container that stands

no_run : (follow : Bool) (size : ℕ) (s : State) → Fits (stop_rule follow size) s
no_run true size s = tt
no_run false size s = tt

asked_reach : (follow : Bool) (log : List LogRecord) → reach_by (stop_rule follow (length log)) log ≡ length log
asked_reach true log = refl
asked_reach false log = refl

open_at : (ask : LogAsk) (c : Container) (t : State) → container_numbered c.number t ≡ Some c → MayFollow t (log_spec ask c)
open_at ask c t found =
    let kept : IsTrue (is_kept t (OfContainer c.number)) =
    subst (λ o. IsTrue (is_some (option_or (option_map (λ (c : Container). c.life.log) o) (kept_log (OfContainer c.number) t)))) (sym found) refl in
    let log : log_of t (OfContainer c.number) ≡ c.life.log =
    ap (λ o. unwrap_or (option_or (option_map (λ (c : Container). c.life.log) o) (kept_log (OfContainer c.number) t)) []) found in
    let size = ap length log in
    let least = first_least ask c.life.log in
    let stop : StopRule = stop_rule ask.follow (length c.life.log) in
    let reach : log_reach t (log_spec ask c) ≡ reach_by stop (log_of t (OfContainer c.number)) =
    reach_is t (log_spec ask c) kept (no_run ask.follow (length c.life.log) t) in
    let far : log_reach t (log_spec ask c) ≡ length c.life.log = reach ∙ ap (reach_by stop) log ∙ asked_reach ask.follow c.life.log in
    let logged : first_place ask c.life.log ≤ length (log_of t (OfContainer c.number)) = omega (arith, least, size) in
    let reached : first_place ask c.life.log ≤ log_reach t (log_spec ask c) = omega (arith, least, far) in
    record { kept = kept; logged = logged; reached = reached; fed = tt }

-- of a reply that gives a stream
abbrev pub Opens : Reply → State → Type 0
Opens (LogStream spec) t = MayFollow t spec
Opens reply t = Unit {0}

open_one : (o : Option Container) (n : ℕ) (target : List ℕ) (ask : LogAsk) (s t : State) → container_numbered n t ≡ o
    → Opens (option_map_or {U = State → Outcome} (λ c. replies (LogStream (log_spec ask c)) still) o (refused 404 (no_such_container target)) s).reply t
open_one None n target ask s t is = tt
open_one (Some c) n target ask s t is =
    open_at ask c t (subst (λ m. container_numbered m t ≡ Some c) (sym (found_number n c t.containers is)) is)

open_by : (found : Found) (target : List ℕ) (ask : LogAsk) (s t : State) → t.containers ≡ s.containers
    → Opens (by_found found target (λ c. replies (LogStream (log_spec ask c)) still) s).reply t
open_by (Found.One n) target ask s t same =
    open_one (container_numbered n s) n target ask s t (ap (find (λ (c : Container). c.number == n)) same)
open_by Found.None target ask s t same = tt
open_by Found.Many target ask s t same = tt

-- a call for logs changes nothing
still_one : (o : Option Container) (target : List ℕ) (ask : LogAsk) (s : State)
    → (option_map_or {U = State → Outcome} (λ c. replies (LogStream (log_spec ask c)) still) o (refused 404 (no_such_container target)) s).effect.state.containers ≡ s.containers
still_one None target ask s = refl
still_one (Some c) target ask s = refl

still_by : (found : Found) (target : List ℕ) (ask : LogAsk) (s : State)
    → (by_found found target (λ c. replies (LogStream (log_spec ask c)) still) s).effect.state.containers ≡ s.containers
still_by (Found.One n) target ask s = still_one (container_numbered n s) target ask s
still_by Found.None target ask s = refl
still_by Found.Many target ask s = refl

pub logs_open : (target : List ℕ) (ask : LogAsk) (k t : ℕ) (s : State)
    → Opens (reply_of s k t (call.Logs target ask)) (after_step s (Step.Call k t (call.Logs target ask)))
logs_open target ask k t s =
    let now : State = at_moment t s in
    open_by (container_by now.containers target) target ask now (after_step s (Step.Call k t (call.Logs target ask)))
    (still_by (container_by now.containers target) target ask now)
