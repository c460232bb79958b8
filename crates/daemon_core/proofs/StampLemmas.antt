-- No record of a log lies past the greatest moment, in any state of a legal history.
use Rattle.std.specs.Option.{option_or}
use Rattle.std.proofs.Common.{◌≡◌, ◌≤◌, ◌==◌, ℕ, zero, suc, Bool, true, false, if◌then◌else◌, List, [], ◌∷◌, ◌++◌, Option, Some, None, find, drop, take, unwrap_or, option_map, not, refl, sym, subst}
use Rattle.std.specs.List.{AllByRecursion, flat_map}
use Rattle.engine_text.specs.Owner.{same_owner}
use Rattle.engine_text.specs.declared.container.Container.{Container}
use Rattle.engine_text.specs.declared.log.KeptLogs.{KeptLogs}
use Rattle.engine_text.specs.declared.log.LogRecord.{LogRecord}
use Rattle.engine_text.specs.declared.log.OwnedLog.{OwnedLog}
use Rattle.engine_text.specs.declared.owner.Owner.{Owner}
use Rattle.engine_text.specs.declared.owner.Owner.TheVariants.{Container as OfContainer, Exec as OfExec}
use Rattle.engine_text.specs.declared.step.DueAction.{DueAction}
use Rattle.engine_text.specs.declared.step.Step.{Step}
use Rattle.machine_model.specs.State.{State, container_numbered}
use Rattle.machine_model.specs.Chain.{Effect, still}
use Rattle.machine_model.specs.Consistency.{IsConsistent}
use Rattle.machine_model.specs.Due.{least_due}
use Rattle.machine_model.specs.Effects.Destroy.{is_exec_of, logs_of}
use Rattle.machine_model.specs.Effects.Meet.{logged, record_of}
use Rattle.machine_model.specs.History.{Charter, IsLawful, AreLawful, IsLegal, after_step, state_from, state_after, opening_state}
use Rattle.machine_model.specs.LogStream.{log_among, standing_log, kept_log, log_of}
use Rattle.machine_model.specs.Step.{at_moment, step_of}
use Rattle.machine_model.proofs.ChangeLemmas.{all_updated, all_removed, all_filtered}
use Rattle.machine_model.proofs.ClosureLemmas.{IsClosed, runs_call, runs_due}
use Rattle.machine_model.proofs.Fold.RowLemmas.{made}
use Rattle.machine_model.proofs.Laws.{consistency_law, kept_step, timely_call, timely_due}
use Rattle.machine_model.proofs.ListLemmas.{all_append}
use Rattle.daemon_core.specs.Framing.{IsTimed}

-- ---- lists

pub all_dropped : {A : Type 0} (P : A → Type 0) (n : ℕ) (xs : List A) → AllByRecursion P xs → AllByRecursion P (drop n xs)
all_dropped P zero xs all = all
all_dropped P (suc n) [] all = tt
all_dropped P (suc n) (x ∷ xs) all = all_dropped P n xs all.1

pub all_taken : {A : Type 0} (P : A → Type 0) (n : ℕ) (xs : List A) → AllByRecursion P xs → AllByRecursion P (take n xs)
all_taken P zero xs all = tt
all_taken P (suc n) [] all = tt
all_taken P (suc n) (x ∷ xs) all = (all.0, all_taken P n xs all.1)

all_joined : {A B : Type 0} (P : B → Type 0) (f : A → List B) (xs : List A) → AllByRecursion (λ x. AllByRecursion P (f x)) xs
    → AllByRecursion P (flat_map f xs)
all_joined P f [] all = tt
all_joined P f (x ∷ xs) all = all_append P (f x) (flat_map f xs) all.0 (all_joined P f xs all.1)

abbrev IfThere : {A : Type 0} → (A → Type 0) → Option A → Type 0
IfThere P None = Unit {0}
IfThere P (Some x) = P x

first_or : {A : Type 0} (P : A → Type 0) (b : Bool) (x : A) (rest : Option A) → P x → IfThere P rest → IfThere P (if b then Some x else rest)
first_or P true x rest h more = h
first_or P false x rest h more = more

found : {A : Type 0} (P : A → Type 0) (p : A → Bool) (xs : List A) → AllByRecursion P xs → IfThere P (find p xs)
found P p [] all = tt
found P p (x ∷ xs) all = first_or P (p x) x (find p xs) all.0 (found P p xs all.1)

mapped : {A B : Type 0} (P : B → Type 0) (f : A → B) (o : Option A) → IfThere (λ x. P (f x)) o → IfThere P (option_map f o)
mapped P f None h = tt
mapped P f (Some x) h = h

-- ---- logs

abbrev AreTimed : List OwnedLog → Type 0
AreTimed logs = AllByRecursion (λ l. IsTimed l.log) logs

-- no record in this state lies past the greatest moment
abbrev HasTimedLogs : State → Type 0
HasTimedLogs s =
    (s.clock ≤ 9000000000000) × AllByRecursion (λ c. IsTimed c.life.log) s.containers × AreTimed s.outputs
    × AllByRecursion (λ k. AreTimed k.logs) s.kept

abbrev KeepsTimes : State → Effect → Type 0
KeepsTimes s e = HasTimedLogs s → HasTimedLogs e.state

one_later : (log : List LogRecord) (r : LogRecord) → IsTimed log → r.moment ≤ 9000000000000 → IsTimed (log ++ r ∷ [])
one_later log r timed le = all_append (λ (r : LogRecord). r.moment ≤ 9000000000000) log (r ∷ []) timed (le, tt)

timed_closed : IsClosed KeepsTimes
timed_closed = record {
  on_still = λ s h. h;
  on_after = λ s a b first second h. second (first h);
  on_told = λ s v at h. h;
  on_mounts = λ s a c h. h;
  on_ended = λ s d h. h;
  on_renew = λ s n f mark h. (
    h.0,
    all_updated (λ (c : Container). IsTimed c.life.log) (λ c. c.number == n) (made (λ name. name) f)
        (λ (c : Container) timed. subst IsTimed (sym (mark.log c.life)) timed) s.containers h.1,
    h.2,
    h.3,
  );
  on_log = λ s n stream payload h. (
    h.0,
    all_updated (λ (c : Container). IsTimed c.life.log) (λ c. c.number == n) (made (λ name. name) (logged stream payload s.clock))
        (λ (c : Container) timed. one_later c.life.log (record_of c.life.starts stream payload s.clock) timed h.0) s.containers h.1,
    h.2,
    h.3,
  );
  on_output = λ s n stream payload h. (
    h.0,
    h.1,
    all_updated (λ (o : OwnedLog). IsTimed o.log) (λ o. same_owner o.owner (OfExec n))
        (λ (o : OwnedLog). record o { log = o.log ++ record_of 1 stream payload s.clock ∷ [] })
        (λ (o : OwnedLog) timed. one_later o.log (record_of 1 stream payload s.clock) timed h.0) s.outputs h.2,
    h.3,
  );
  on_process = λ s owner f h. h;
  on_drop = λ s owner h. h;
  on_spawn = λ s owner program stdin room h. h;
  on_timers = λ s timers h. h;
  on_exec = λ s n f mark h. h;
  on_destroyed = λ s c is h.
      let own : IsTimed c.life.log = subst (IfThere (λ (c : Container). IsTimed c.life.log)) is
      (found (λ (c : Container). IsTimed c.life.log) (λ d. d.number == c.number) s.containers h.1) in
      let gone : KeptLogs = record { number = c.number; logs = logs_of c s } in (
        h.0,
        all_removed (λ (c : Container). IsTimed c.life.log) (λ d. d.number == c.number) s.containers h.1,
        all_filtered (λ (o : OwnedLog). IsTimed o.log) (λ l. not (is_exec_of c.number s l)) s.outputs h.2,
        all_dropped (λ (k : KeptLogs). AreTimed k.logs) _ (s.kept ++ gone ∷ [])
            (all_append (λ (k : KeptLogs). AreTimed k.logs) s.kept (gone ∷ []) h.3
            ((own, all_filtered (λ (o : OwnedLog). IsTimed o.log) (is_exec_of c.number s) s.outputs h.2), tt)),
      );
  on_begun = λ s connection c asked is h. h;
  on_time_out = λ s c h. h;
  on_end_ticket = λ s n h. h;
  on_made_volume = λ s name labels none h. h;
  on_gone_volume = λ s name unused h. h;
  on_made = λ s name spec free stand h.
      (h.0, all_append (λ (c : Container). IsTimed c.life.log) s.containers _ h.1 (tt, tt), h.2, h.3);
  on_made_exec = λ s c words stdin out err is h.
      (h.0, h.1, all_append (λ (o : OwnedLog). IsTimed o.log) s.outputs _ h.2 (tt, tt), h.3);
  on_renamed = λ s c name is free h. (
    h.0,
    all_updated (λ (c : Container). IsTimed c.life.log) (λ d. d.number == c.number) (made (λ old. name) (λ l. l))
        (λ (c : Container) timed. timed) s.containers h.1,
    h.2,
    h.3,
  );
}

-- ---- histories

timed_at : (s : State) (t : ℕ) → t ≤ 9000000000000 → HasTimedLogs s → HasTimedLogs (at_moment t s)
timed_at s t le h = (le, h.1, h.2, h.3)

due_timed : (s : State) (o : Option DueAction) → least_due s ≡ o → IsConsistent s → IsLawful s Step.Due → HasTimedLogs s
    → HasTimedLogs (unwrap_or (step_of o s) (still s)).state
due_timed s None is kept lawful h = h
due_timed s (Some d) is kept lawful h =
    runs_due timed_closed d (at_moment d.moment s) (timed_at s d.moment (timely_due s d kept lawful is).until h)

step_timed : (s : State) (x : Step) → IsConsistent s → IsLawful s x → HasTimedLogs s → HasTimedLogs (after_step s x)
step_timed s Step.Due kept lawful h = due_timed s (least_due s) refl kept lawful h
step_timed s (Step.Call k t c) kept lawful h =
    runs_call timed_closed c k (at_moment t s) (timed_at s t (timely_call s k t c kept lawful).until h)

timed_from : (s : State) (h : List Step) → IsConsistent s → AreLawful s h → HasTimedLogs s → HasTimedLogs (state_from s h)
timed_from s [] kept lawful timed = timed
timed_from s (x ∷ xs) kept lawful timed =
    timed_from (after_step s x) xs (kept_step s x kept lawful.0) lawful.1 (step_timed s x kept lawful.0 timed)

timed_after : (ch : Charter) (h : List Step) → IsLegal ch h → HasTimedLogs (state_after ch h)
timed_after ch h legal =
    timed_from (opening_state ch) h (consistency_law ch [] (legal.0, tt)) legal.1 (legal.0.1, tt, tt, tt)

-- ---- an owner's log

among : (owner : Owner) (logs : List OwnedLog) → AreTimed logs → IfThere IsTimed (log_among owner logs)
among owner logs all =
    mapped IsTimed (λ (l : OwnedLog). l.log) (find (λ l. same_owner l.owner owner) logs)
    (found (λ (l : OwnedLog). IsTimed l.log) (λ l. same_owner l.owner owner) logs all)

standing : (owner : Owner) (s : State) → HasTimedLogs s → IfThere IsTimed (standing_log owner s)
standing (OfContainer n) s h =
    mapped IsTimed (λ (c : Container). c.life.log) (container_numbered n s)
    (found (λ (c : Container). IsTimed c.life.log) (λ c. c.number == n) s.containers h.1)
standing (OfExec n) s h = among (OfExec n) s.outputs h.2

either : (a b : Option (List LogRecord)) → IfThere IsTimed a → IfThere IsTimed b → IsTimed (unwrap_or (option_or a b) [])
either None None h k = tt
either None (Some log) h k = k
either (Some log) b h k = h

pub log_timed : (ch : Charter) (h : List Step) (owner : Owner) → IsLegal ch h → IsTimed (log_of (state_after ch h) owner)
log_timed ch h owner legal =
    let s : State = state_after ch h in
    let timed = timed_after ch h legal in
    either (standing_log owner s) (kept_log owner s) (standing owner s timed)
    (among owner (flat_map (λ (k : KeptLogs). k.logs) s.kept) (all_joined (λ (l : OwnedLog). IsTimed l.log) (λ (k : KeptLogs). k.logs) s.kept timed.3))
