-- A part of a log's stream, of what the machine tells and what was appended.
use Rattle.std.proofs.Common.{◌≡◌, ◌≤◌, ◌<◌, ◌+◌, ◌∷◌, min, ℕ, List, [], ◌++◌, sym, ◌∙◌, ap, subst, arith, false, Option, Some, None, unwrap_or, drop, take, length, length-take, length-drop}
use Rattle.std.proofs.lemmas.Bool.Decides.{nat_tests}
use Rattle.std.proofs.lemmas.List.{take-take, drop-take}
use Rattle.engine_text.specs.declared.log.LogRecord.{LogRecord}
use Rattle.engine_text.specs.declared.reply.LogSpec.{LogSpec}
use Rattle.engine_text.specs.declared.step.Step.{Step}
use Rattle.machine_model.specs.State.{State}
use Rattle.machine_model.specs.History.{Charter, IsLegal, after_step, state_after, DuesUntil, SomeDues}
use Rattle.machine_model.specs.LogStream.{log_end, log_of, log_reach}
use Rattle.reading_calls.specs.LogParts.{HasMore}
use Rattle.session_model.specs.Pass.{PassView}
use Rattle.session_model.specs.Turning.{Turn}
use Rattle.session_model.specs.declared.turned.Part.{Part}
use Rattle.session_model.specs.declared.turned.Part.TheVariants as P
use Rattle.session_model.specs.declared.turned.Turned.TheVariants as T
use Rattle.daemon_core.specs.Framing.{IsTimed, Passes, asked_bytes}
use Rattle.daemon_core.specs.LogTurns.{GoesOn, LogSays, ends_by}
use Rattle.daemon_core.specs.PartTurns.{PartDues, PartTurn}
use Rattle.daemon_core.proofs.StampLemmas.{all_dropped, all_taken, log_timed}

-- ---- records of a log from a place on

reach_past : (end : Option ℕ) (size place : ℕ) → ends_by end place ≡ false → place < size → place < unwrap_or end size
reach_past None size place before below = below
reach_past (Some n) size place before below = grind (arith, nat_tests, before)

records_left : (log : List LogRecord) (reach place : ℕ) → place < reach → place < length log
    → length (drop place (take reach log)) + place ≡ min reach (length log)
records_left log reach place far below =
    let e = length-drop place (take reach log) in
    let f = length-take reach log in omega (arith, e, f, far, below)

pub some_left : (s : State) (spec : LogSpec) (place : ℕ) (records : List LogRecord) → GoesOn s spec place → HasMore s spec place records
    → 0 < length records
some_left s spec place records goes more =
    let log : List LogRecord = log_of s spec.owner in
    let far = reach_past (log_end s spec) (length log) place goes.0 more.1 in
    let left = records_left log (log_reach s spec) place far more.1 in
    let same = ap length more.3 in
    let below = more.1 in
    omega (arith, far, left, same, below)

pub timed_left : (ch : Charter) (h : List Step) (s : State) (spec : LogSpec) (place : ℕ) (records : List LogRecord) → IsLegal ch h
    → s ≡ state_after ch h → HasMore s spec place records → IsTimed records
timed_left ch h s spec place records legal is more =
    let timed : IsTimed (log_of s spec.owner) = subst (λ x. IsTimed (log_of x spec.owner)) (sym is) (log_timed ch h spec.owner legal) in
    subst IsTimed (sym more.3)
    (all_dropped (λ (r : LogRecord). r.moment ≤ 9000000000000) place (take (log_reach s spec) (log_of s spec.owner))
    (all_taken (λ (r : LogRecord). r.moment ≤ 9000000000000) (log_reach s spec) (log_of s spec.owner) timed))

-- so many of them lie within the log, and before the stream's end
pub within : (s : State) (spec : LogSpec) (place n : ℕ) (records : List LogRecord) → GoesOn s spec place → HasMore s spec place records
    → n ≤ length records → (place + n ≤ length (log_of s spec.owner)) × (place + n ≤ log_reach s spec)
within s spec place n records goes more le =
    let log : List LogRecord = log_of s spec.owner in
    let reach : ℕ = log_reach s spec in
    let far : place < reach = reach_past (log_end s spec) (length log) place goes.0 more.1 in
    let left = records_left log reach place far more.1 in
    let same = ap length more.3 in
    (omega (arith, left, same, le), omega (arith, left, same, le))

-- the frames of the first n of them were appended
pub told_more : (s : State) (spec : LogSpec) (place n : ℕ) (records : List LogRecord) (old new : List ℕ) → GoesOn s spec place
    → HasMore s spec place records → Passes spec records n old new → LogSays s spec place (P.More (place + n)) old new
told_more s spec place n records old new goes more (some, le, told) =
    let log : List LogRecord = log_of s spec.owner in
    let reach : ℕ = log_reach s spec in
    let fits = within s spec place n records goes more le in
    let between : drop place (take (place + n) log) ≡ take n records =
    ap (drop place) (sym (take-take (place + n) reach log fits.1)) ∙ drop-take place n (take reach log) ∙ ap (take n) (sym more.3) in (
      goes,
      more.0,
      omega (arith, some),
      fits.0,
      fits.1,
      told ∙ ap (λ y. old ++ asked_bytes spec y) (sym between),
    )

-- ---- behind a turn without a call

some_first : (s : State) (u : ℕ) (ds : List Step) → DuesUntil s u ds → SomeDues s u ds
some_first s u [] h = tt
some_first s u (Step.Due ∷ ds) h = (h.0, some_first (after_step s Step.Due) u ds h.1)
some_first s u (Step.Call k t c ∷ ds) h = absurd h

dues_of : (s : State) (u : ℕ) (part : Part) (ds : List Step) → DuesUntil s u ds → PartDues s u part ds
dues_of s u P.NoMemory ds h = some_first s u ds h
dues_of s u (P.More next) ds h = h
dues_of s u P.UpToDate ds h = h
dues_of s u P.Whole ds h = h
dues_of s u (P.Gone next first) ds h = h

-- a part was told of the history behind it
pub part_told : (k handed : ℕ) (part : Part) (told : Charter → List Step → Type 0) (p q : PassView) → Turn k handed None T.Nothing p q
    → told q.charter q.seen → PartTurn k handed part told p q
part_told k handed part told p q turn says = record {
  turns = turn.turns;
  dues = dues_of _ _ part turn.turns.own turn.says;
  says = subst (λ ch. told ch q.seen) turn.turns.stays.charter says;
}

-- or there was no memory
pub part_short : (k handed : ℕ) (told : Charter → List Step → Type 0) (p q : PassView) → Turn k handed None T.NoMemory p q
    → told p.charter q.seen → PartTurn k handed P.NoMemory told p q
part_short k handed told p q turn says = record { turns = turn.turns; dues = turn.says; says = says }
