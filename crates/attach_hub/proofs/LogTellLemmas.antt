-- What was told of a log, as its history goes on, and where it ends.
use Rattle.std.proofs.Common.{◌≡◌, ◌≤◌, ◌<◌, ℕ, List, [], ◌++◌, refl, sym, ◌∙◌, ap, subst, arith, Bool, true, false, Option, Some, None, length, length-append}
use Rattle.std.specs.Prelude.{IsTrue, nat_lt}
use Rattle.std.proofs.lemmas.Bool.{false≢true}
use Rattle.std.proofs.lemmas.Bool.Decides.{nat_tests}
use Rattle.engine_text.specs.declared.log.LogRecord.{LogRecord}
use Rattle.engine_text.specs.declared.owner.Owner.{Owner}
use Rattle.engine_text.specs.declared.reply.LogSpec.{LogSpec}
use Rattle.engine_text.specs.declared.reply.Reply.TheVariants.{LogStream}
use Rattle.engine_text.specs.declared.step.Step.{Step}
use Rattle.machine_model.specs.State.{State}
use Rattle.machine_model.specs.LogStream.{first_kept_removal, is_kept, log_of, log_reach, log_end, log_bytes}
use Rattle.machine_model.specs.History.{Charter, Extends, IsLegal, state_after}
use Rattle.machine_model.proofs.Laws.{log_grows_law}
use Rattle.session_model.specs.declared.followed.Followed.TheVariants as F
use Rattle.session_model.specs.declared.turned.Part.TheVariants as P
use Rattle.session_model.specs.Exchange.{EndsBehind, EndsSo, IsBody, IsCaughtUp, IsLost}
use Rattle.session_model.proofs.HistoryLemmas.{extends_same, extends_on}
use Rattle.daemon_core.specs.LogTurns.{LogSays, ends_by, is_gone, is_whole_at}
use Rattle.attach_hub.specs.Following.{MayFollow}
use Rattle.attach_hub.proofs.LogLemmas.{bytes_join, bytes_none, bytes_on, reach_on, reach_known, known_before}
use Rattle.attach_hub.proofs.RunLemmas.{earlier_runs, legal_runs}

-- between two histories a body is what the log had to that place, when it was last kept
pub record TellsLog (ch : Charter) (spec : LogSpec) (a b : List Step) (body : List ℕ) (place : ℕ) : Type 0 where
  pub begins : spec.first ≤ place
  pub at : List Step
  pub from : Extends a at
  pub to : Extends at b
  pub kept : IsTrue (is_kept (state_after ch at) spec.owner)
  pub logged : place ≤ length (log_of (state_after ch at) spec.owner)
  pub reached : place ≤ log_reach (state_after ch at) spec
  pub tells : body ≡ log_bytes (state_after ch at) spec spec.first place

-- nothing yet
pub log_first : (ch : Charter) (spec : LogSpec) (a : List Step) → MayFollow (state_after ch a) spec → TellsLog ch spec a a [] spec.first
log_first ch spec a may = record {
  begins = omega arith;
  at = a;
  from = extends_same a;
  to = extends_same a;
  kept = may.kept;
  logged = may.logged;
  reached = may.reached;
  tells = sym (bytes_none (state_after ch a) spec spec.first);
}

-- the history goes on
pub log_later : (ch : Charter) (spec : LogSpec) (a b c : List Step) (body : List ℕ) (place : ℕ) → Extends b c
    → TellsLog ch spec a b body place → TellsLog ch spec a c body place
log_later ch spec a b c body place on t = record {
  begins = t.begins;
  at = t.at;
  from = t.from;
  to = extends_on t.at b c t.to on;
  kept = t.kept;
  logged = t.logged;
  reached = t.reached;
  tells = t.tells;
}

-- the log has grown since it was last kept
grown : (ch : Charter) (spec : LogSpec) (a b : List Step) (body : List ℕ) (place : ℕ) → (t : TellsLog ch spec a b body place) → IsLegal ch b
    → IsTrue (is_kept (state_after ch b) spec.owner)
    → (rest : List LogRecord) × (log_of (state_after ch b) spec.owner ≡ log_of (state_after ch t.at) spec.owner ++ rest)
grown ch spec a b body place t legal kept = log_grows_law ch t.at b spec.owner legal t.to t.kept kept

-- so the body so far is what it has now
still_tells : (ch : Charter) (spec : LogSpec) (a b : List Step) (body : List ℕ) (place : ℕ) → (t : TellsLog ch spec a b body place) → IsLegal ch b
    → IsTrue (is_kept (state_after ch b) spec.owner) → body ≡ log_bytes (state_after ch b) spec spec.first place
still_tells ch spec a b body place t legal kept =
    let more = grown ch spec a b body place t legal kept in
    t.tells ∙ sym (bytes_on (state_after ch t.at) (state_after ch b) spec spec.first place more.0 more.1 t.logged)

-- more was told
pub log_more : (ch : Charter) (spec : LogSpec) (a b : List Step) (body old new : List ℕ) (place next : ℕ) → Extends a b → IsLegal ch b
    → TellsLog ch spec a b body place → LogSays (state_after ch b) spec place (P.More next) old new → old ≡ []
    → TellsLog ch spec a b (body ++ new) next
log_more ch spec a b body old new place next extends legal t says empty =
    let s : State = state_after ch b in
    let begins = t.begins in
    let later : place < next = says.2 in
    let in_log : next ≤ length (log_of s spec.owner) = says.3 in
    record {
      begins = omega (arith, begins, later);
      at = b;
      from = extends;
      to = extends_same b;
      kept = says.1;
      logged = in_log;
      reached = says.4;
      tells = ap (λ y. body ++ y) (says.5 ∙ ap (λ y. y ++ log_bytes s spec place next) empty)
          ∙ ap (λ y. y ++ log_bytes s spec place next) (still_tells ch spec a b body place t legal says.1)
          ∙ sym (bytes_join s spec spec.first place next begins (omega (arith, later)) (omega (arith, later, in_log)));
    }

-- ---- a stream that isn't whole

-- what was told is a front of it
pub log_broken : (ch : Charter) (spec : LogSpec) (a b : List Step) (body : List ℕ) (place : ℕ) → TellsLog ch spec a b body place
    → IsBody ch (LogStream spec) false a b body
log_broken ch spec a b body place t =
    let s : State = state_after ch t.at in (
      t.at,
      t.from,
      t.to,
      (
        t.kept,
        (
          log_bytes s spec place (log_reach s spec),
          ap (λ y. y ++ log_bytes s spec place (log_reach s spec)) t.tells
              ∙ sym (bytes_join s spec spec.first place (log_reach s spec) t.begins t.reached t.logged),
        ),
      ),
    )

goes_behind : (s : State) (spec : LogSpec) (place : ℕ) → is_whole_at s spec place ≡ false → EndsBehind s spec place
goes_behind s spec place unended end is =
    let h : ends_by (Some end) place ≡ false = sym (ap (λ x. ends_by x place) is) ∙ unended in grind (arith, nat_tests, h)

-- the log is no longer kept: it is told to that place, as it last was
pub log_gone : (ch : Charter) (spec : LogSpec) (a b : List Step) (body old new ms : List ℕ) (place next first : ℕ) → Extends a b
    → TellsLog ch spec a b body place → LogSays (state_after ch b) spec place (P.Gone next first) old new
    → EndsSo ch (LogStream spec) (F.Lagged next first) body ms a b
log_gone ch spec a b body old new ms place next first extends t says =
    let s : State = state_after ch b in
    let behind = says.0 in (
      place,
      (
        b,
        extends,
        extends_same b,
        (
          record { lost = behind.1; removed = behind.2; kept = behind.3; before = behind.4 },
          goes_behind s spec place behind.0,
          (t.at, t.from, t.to, (t.kept, t.begins, t.logged, t.tells)),
        ),
      ),
    )

-- a log that isn't gone isn't lost
not_lost : (s : State) (owner : Owner) → is_gone s owner ≡ false → (removal first : ℕ) → IsLost s owner removal first → ⊥
not_lost s owner stands removal first x =
    let before : removal < first_kept_removal s = subst (λ n. removal < n) x.kept x.before in
    let less : nat_lt removal (first_kept_removal s) ≡ true = grind (arith, nat_tests, before) in
    let gone : is_gone s owner ≡ true = rw (x.lost, x.removed) less in
    false≢true (sym stands ∙ gone)

-- it was up to date: all that the log has was told
pub log_told : (ch : Charter) (spec : LogSpec) (a b : List Step) (body old new ms : List ℕ) (place : ℕ) → IsLegal ch b
    → TellsLog ch spec a b body place → LogSays (state_after ch b) spec place P.UpToDate old new → IsCaughtUp ch ms a b
    → EndsSo ch (LogStream spec) F.Stopped body ms a b
log_told ch spec a b body old new ms place legal t says caught =
    let s : State = state_after ch b in
    let reached : length (log_of s spec.owner) ≤ place = says.1 in (
      (
        λ kept.
            let more = grown ch spec a b body place t legal kept in
            let sum = ap length more.1 ∙ length-append (log_of (state_after ch t.at) spec.owner) more.0 in
            let logged = t.logged in
            let same : place ≡ length (log_of s spec.owner) = omega (arith, sum, logged, reached) in
            still_tells ch spec a b body place t legal kept ∙ ap (log_bytes s spec spec.first) same,
        λ end is. let far = goes_behind s spec place says.0.0 end is in omega (arith, far, reached),
        not_lost s spec.owner says.0.1,
      ),
      caught,
    )

-- ---- a stream that is whole

abbrev Known : Option ℕ → ℕ → Type 0
Known end place = (n : ℕ) × (end ≡ Some n) × (n ≤ place)

known_by : (end : Option ℕ) (place : ℕ) → ends_by end place ≡ true → Known end place
known_by None place h = absurd (false≢true h)
known_by (Some n) place h = (n, refl, grind (arith, nat_tests, h))

-- what was told is the stream to its end, where it was last kept
whole_body : (ch : Charter) (spec : LogSpec) (a b : List Step) (body : List ℕ) (place : ℕ) (kept : Bool) → Extends a b
    → IsLegal ch b → TellsLog ch spec a b body place → is_kept (state_after ch b) spec.owner ≡ kept
    → Known (log_end (state_after ch b) spec) place → IsBody ch (LogStream spec) true a b body
whole_body ch spec a b body place true extends legal t kept (n, is, le) =
    let s : State = state_after ch b in
    let grew = grown ch spec a b body place t legal kept in
    let reached = reach_on (state_after ch t.at) s spec place grew.0 (earlier_runs ch t.at b t.to legal) (legal_runs ch b legal) t.kept kept grew.1 t.reached in
    let e = reach_known s spec n is in
    let same : place ≡ n = omega (arith, e, reached, le) in (
      b,
      extends,
      extends_same b,
      (kept, (n, is, still_tells ch spec a b body place t legal kept ∙ ap (log_bytes s spec spec.first) same)),
    )
whole_body ch spec a b body place false extends legal t lost (n, is, le) =
    let s : State = state_after ch t.at in
    let was = known_before s (state_after ch b) spec n lost is in
    let e = reach_known s spec n was in
    let reached = t.reached in
    let same : place ≡ n = omega (arith, e, reached, le) in
    (t.at, t.from, t.to, (t.kept, (n, was, t.tells ∙ ap (log_bytes s spec spec.first) same)))

pub log_whole : (ch : Charter) (spec : LogSpec) (a b : List Step) (body old new : List ℕ) (place : ℕ) → Extends a b
    → IsLegal ch b → TellsLog ch spec a b body place → LogSays (state_after ch b) spec place P.Whole old new
    → IsBody ch (LogStream spec) true a b body
log_whole ch spec a b body old new place extends legal t says =
    let s : State = state_after ch b in
    whole_body ch spec a b body place (is_kept s spec.owner) extends legal t refl (known_by (log_end s spec) place says.0)
