-- A log's stream between two places, as the log grows, and where it ends.
use Rattle.std.specs.Prelude.{is_some, unwrap_or}
use Rattle.std.specs.Option.{option_or}
use Rattle.std.proofs.Common.{◌≡◌, ◌≤◌, ℕ, List, [], ◌++◌, refl, sym, ◌∙◌, ap, subst, arith, Bool, true, false, Option, Some, None, take, drop, length, length-append, take-append-drop, length-take}
use Rattle.std.specs.Prelude.{IsTrue}
use Rattle.std.proofs.lemmas.Bool.{false≢true}
use Rattle.std.proofs.lemmas.List.{length-take-le, take-take, take-append-le, drop-append-le, drop_all}
use Rattle.engine_text.specs.declared.log.LogRecord.{LogRecord}
use Rattle.engine_text.specs.declared.owner.Owner.{Owner}
use Rattle.engine_text.specs.declared.reply.LogSpec.{LogSpec}
use Rattle.engine_text.specs.declared.reply.StopRule.{StopRule}
use Rattle.engine_text.specs.declared.reply.StopRule.TheVariants as Stop
use Rattle.machine_model.specs.State.{State}
use Rattle.machine_model.specs.LogStream.{log_of, is_kept, standing_log, kept_log, log_bytes, some_if, at_rest, length_at_end, standing_end, kept_end, fixed_end, found_in, end_by, log_end, log_reach}
use Rattle.daemon_core.specs.Framing.{asked_bytes}
use Rattle.daemon_core.proofs.WrittenLemmas.{asked_append}
use Rattle.attach_hub.proofs.RunLemmas.{HasRuns, run_longer, run_stands}

-- ---- a list between two places

split_at : {A : Type 0} (xs : List A) (a b c : ℕ) → a ≤ b → b ≤ c → b ≤ length xs
    → drop a (take c xs) ≡ drop a (take b xs) ++ drop b (take c xs)
split_at xs a b c le le' in_xs =
    let e : take c xs ≡ take b xs ++ drop b (take c xs) =
    sym (take-append-drop b (take c xs)) ∙ ap (λ y. y ++ drop b (take c xs)) (take-take b c xs le') in
    let n = length-take-le b xs in_xs in
    ap (drop a) e ∙ drop-append-le a (take b xs) (drop b (take c xs)) (omega (arith, n, le))

-- the stream up to a place, and then from there on
pub bytes_join : (s : State) (spec : LogSpec) (a b c : ℕ) → a ≤ b → b ≤ c → b ≤ length (log_of s spec.owner)
    → log_bytes s spec a c ≡ log_bytes s spec a b ++ log_bytes s spec b c
bytes_join s spec a b c le le' in_log =
    let log : List LogRecord = log_of s spec.owner in
    ap (asked_bytes spec) (split_at log a b c le le' in_log) ∙ asked_append spec (drop a (take b log)) (drop b (take c log))

-- nothing lies between a place and itself
none_between : {A : Type 0} (xs : List A) (a : ℕ) → drop a (take a xs) ≡ []
none_between xs a =
    let e = length-take a xs in
    drop_all a (take a xs) (omega (arith, e))

pub bytes_none : (s : State) (spec : LogSpec) (a : ℕ) → log_bytes s spec a a ≡ []
bytes_none s spec a = ap (asked_bytes spec) (none_between (log_of s spec.owner) a)

-- a log that grew has what it had
pub bytes_on : (s s' : State) (spec : LogSpec) (a b : ℕ) (rest : List LogRecord) → log_of s' spec.owner ≡ log_of s spec.owner ++ rest
    → b ≤ length (log_of s spec.owner) → log_bytes s' spec a b ≡ log_bytes s spec a b
bytes_on s s' spec a b rest grew in_log =
    ap (λ log. asked_bytes spec (drop a (take b log))) grew
    ∙ ap (λ y. asked_bytes spec (drop a y)) (take-append-le b (log_of s spec.owner) rest in_log)

-- ---- where it ends

-- how far a stream of a log that is kept goes
abbrev pub reach_by : StopRule → List LogRecord → ℕ
reach_by (Stop.At n) log = n
reach_by (Stop.RunEnd run) log = length_at_end run log
reach_by Stop.NotRunning log = length log

-- what its end needs of the state: that of a run needs that the log has no record of a later one
abbrev pub Fits : StopRule → State → Type 0
Fits (Stop.At n) s = Unit {0}
Fits (Stop.RunEnd run) s = HasRuns s
Fits Stop.NotRunning s = Unit {0}

pub fits : (stop : StopRule) (s : State) → HasRuns s → Fits stop s
fits (Stop.At n) s runs = tt
fits (Stop.RunEnd run) s runs = runs
fits Stop.NotRunning s runs = tt

some_reach : (b : Bool) (n : ℕ) → unwrap_or (some_if b n) n ≡ n
some_reach true n = refl
some_reach false n = refl

standing_reach : (stop : StopRule) (owner : Owner) (log : List LogRecord) (s : State) → Fits stop s → standing_log owner s ≡ Some log
    → unwrap_or (standing_end stop owner log s) (length log) ≡ reach_by stop log
standing_reach (Stop.At n) owner log s fit is = refl
standing_reach (Stop.RunEnd run) owner log s fit is = run_stands owner run log s fit is
standing_reach Stop.NotRunning owner log s fit is = some_reach (at_rest owner s) (length log)

kept_stop : (stop : StopRule) (log : List LogRecord) → kept_end stop log ≡ reach_by stop log
kept_stop (Stop.At n) log = refl
kept_stop (Stop.RunEnd run) log = refl
kept_stop Stop.NotRunning log = refl

kept_reach : (kept : Option (List LogRecord)) (spec : LogSpec) (s : State) → IsTrue (is_some kept)
    → unwrap_or (end_by (found_in None kept) spec s) (length (unwrap_or kept [])) ≡ reach_by spec.stop (unwrap_or kept [])
kept_reach None spec s is = absurd (false≢true is)
kept_reach (Some log) spec s is = kept_stop spec.stop log

found_reach : (standing : Option (List LogRecord)) (spec : LogSpec) (s : State) → standing_log spec.owner s ≡ standing
    → IsTrue (is_some (option_or standing (kept_log spec.owner s))) → Fits spec.stop s
    → unwrap_or (end_by (found_in standing (kept_log spec.owner s)) spec s) (length (unwrap_or (option_or standing (kept_log spec.owner s)) []))
    ≡ reach_by spec.stop (unwrap_or (option_or standing (kept_log spec.owner s)) [])
found_reach (Some log) spec s stands is fit = standing_reach spec.stop spec.owner log s fit stands
found_reach None spec s stands is fit = kept_reach (kept_log spec.owner s) spec s is

pub reach_is : (s : State) (spec : LogSpec) → IsTrue (is_kept s spec.owner) → Fits spec.stop s
    → log_reach s spec ≡ reach_by spec.stop (log_of s spec.owner)
reach_is s spec kept fit = found_reach (standing_log spec.owner s) spec s refl kept fit

reach_longer : (stop : StopRule) (log rest : List LogRecord) → reach_by stop log ≤ reach_by stop (log ++ rest)
reach_longer (Stop.At n) log rest = omega arith
reach_longer (Stop.RunEnd run) log rest = run_longer run log rest
reach_longer Stop.NotRunning log rest = let e = length-append log rest in omega (arith, e)

-- a stream goes no less far while its log is kept
pub reach_on : (s s' : State) (spec : LogSpec) (place : ℕ) (rest : List LogRecord) → HasRuns s → HasRuns s' → IsTrue (is_kept s spec.owner)
    → IsTrue (is_kept s' spec.owner) → log_of s' spec.owner ≡ log_of s spec.owner ++ rest → place ≤ log_reach s spec
    → place ≤ log_reach s' spec
reach_on s s' spec place rest runs runs' kept kept' grew le =
    let e = reach_is s spec kept (fits spec.stop s runs) in
    let f = reach_is s' spec kept' (fits spec.stop s' runs') ∙ ap (reach_by spec.stop) grew in
    let more = reach_longer spec.stop (log_of s spec.owner) rest in omega (arith, e, f, more, le)

pub reach_known : (s : State) (spec : LogSpec) (n : ℕ) → log_end s spec ≡ Some n → log_reach s spec ≡ n
reach_known s spec n is = ap (λ o. unwrap_or o (length (log_of s spec.owner))) is

-- ---- of a log that is no longer kept

abbrev IsPlace : Option ℕ → Type 0
IsPlace None = ⊥
IsPlace (Some n) = Unit {0}

no_place : (n : ℕ) → None ≡ Some n → ⊥
no_place n is = subst IsPlace (sym is) tt

lost_by : (standing kept : Option (List LogRecord)) (spec : LogSpec) (s : State) → is_some (option_or standing kept) ≡ false
    → end_by (found_in standing kept) spec s ≡ fixed_end spec.stop
lost_by (Some log) kept spec s lost = absurd (false≢true (sym lost))
lost_by None None spec s lost = refl
lost_by None (Some log) spec s lost = absurd (false≢true (sym lost))

-- only a fixed place is known
lost_end : (s : State) (spec : LogSpec) → is_kept s spec.owner ≡ false → log_end s spec ≡ fixed_end spec.stop
lost_end s spec lost = lost_by (standing_log spec.owner s) (kept_log spec.owner s) spec s lost

standing_fixed : (stop : StopRule) (owner : Owner) (log : List LogRecord) (s : State) (n : ℕ) → fixed_end stop ≡ Some n
    → standing_end stop owner log s ≡ Some n
standing_fixed (Stop.At m) owner log s n is = is
standing_fixed (Stop.RunEnd run) owner log s n is = absurd (no_place n is)
standing_fixed Stop.NotRunning owner log s n is = absurd (no_place n is)

kept_fixed : (stop : StopRule) (log : List LogRecord) (n : ℕ) → fixed_end stop ≡ Some n → Some (kept_end stop log) ≡ Some n
kept_fixed (Stop.At m) log n is = is
kept_fixed (Stop.RunEnd run) log n is = absurd (no_place n is)
kept_fixed Stop.NotRunning log n is = absurd (no_place n is)

end_fixed : (standing kept : Option (List LogRecord)) (spec : LogSpec) (s : State) (n : ℕ) → fixed_end spec.stop ≡ Some n
    → end_by (found_in standing kept) spec s ≡ Some n
end_fixed (Some log) kept spec s n is = standing_fixed spec.stop spec.owner log s n is
end_fixed None (Some log) spec s n is = kept_fixed spec.stop log n is
end_fixed None None spec s n is = is

-- what is known of it then was known before
pub known_before : (s s' : State) (spec : LogSpec) (n : ℕ) → is_kept s' spec.owner ≡ false → log_end s' spec ≡ Some n → log_end s spec ≡ Some n
known_before s s' spec n lost is = end_fixed (standing_log spec.owner s) (kept_log spec.owner s) spec s n (sym (lost_end s' spec lost) ∙ is)
