-- What is kept of the past: the logs of the last 64 removals, and the count and the last moments of the events.
use Rattle.std.specs.Option.{unwrap_or}
use Rattle.std.proofs.Common.{◌≡◌, ℕ, zero, suc, ◌+◌, ◌-◌, List, [], ◌∷◌, ◌++◌, Option, Some, None, map, drop, length, refl, ap, sym, ◌∙◌, subst, arith}
use Rattle.std.proofs.lemmas.List.{drop-append-le, length-drop, length-append, length-map, map-append}
use Rattle.container_table.specs.Lists.{last_of}
use Rattle.machine_model.specs.State.{State}
use Rattle.machine_model.specs.Chain.{Effect, still}
use Rattle.machine_model.specs.Call.{outcome_of}
use Rattle.machine_model.specs.Due.{least_due, due_effect}
use Rattle.machine_model.specs.Effects.Destroy.{logs_of}
use Rattle.machine_model.specs.Step.{at_moment, step_of, step_effect}
use Rattle.machine_model.specs.History.{Charter, opening_state, after_step, state_from, state_after, events_from, events_of}
use Rattle.machine_model.proofs.ListLemmas.{append_nil, append_assoc}
use Rattle.machine_model.proofs.ClosureLemmas.{IsClosed}
use Rattle.engine_text.specs.declared.container.Removed.{Removed}
use Rattle.engine_text.specs.declared.event.Event.{Event}
use Rattle.engine_text.specs.declared.log.KeptLogs.{KeptLogs}
use Rattle.engine_text.specs.declared.step.DueAction.{DueAction}
use Rattle.engine_text.specs.declared.step.Step.{Step}
use Rattle.machine_model.proofs.ClosureLemmas.{runs_call, runs_due}

-- ---- the last of a list

nothing_left : {A : Type 0} (m : ℕ) → drop {A = A} m [] ≡ []
nothing_left zero = refl
nothing_left (suc m) = refl

drop_twice : {A : Type 0} (m n : ℕ) (xs : List A) → drop m (drop n xs) ≡ drop (n + m) xs
drop_twice m zero xs = let e : m ≡ 0 + m = omega arith in ap (λ k. drop k xs) e
drop_twice m (suc n) [] = nothing_left m ∙ sym (nothing_left (suc n + m))
drop_twice m (suc n) (x ∷ xs) = let e : suc (n + m) ≡ suc n + m = omega arith in drop_twice m n xs ∙ ap (λ k. drop k (x ∷ xs)) e

pub last_of_more : {A : Type 0} (n : ℕ) (xs ys : List A) → last_of n (last_of n xs ++ ys) ≡ last_of n (xs ++ ys)
last_of_more n xs ys =
    let k : ℕ = length xs - n in
    let joined : drop k xs ++ ys ≡ drop k (xs ++ ys) = sym (drop-append-le k xs ys (omega arith)) in
    let long : length (drop k (xs ++ ys)) ≡ length xs + length ys - k = length-drop k (xs ++ ys) ∙ ap (λ m. m - k) (length-append xs ys) in
    let total : k + (length (drop k (xs ++ ys)) - n) ≡ length (xs ++ ys) - n = omega (arith, long, length-append xs ys) in
    ap (last_of n) joined ∙ (drop_twice (length (drop k (xs ++ ys)) - n) k (xs ++ ys) ∙ ap (λ m. drop m (xs ++ ys)) total)

map_drop : {A B : Type 0} (f : A → B) (j : ℕ) (xs : List A) → map f (drop j xs) ≡ drop j (map f xs)
map_drop f zero xs = refl
map_drop f (suc j) [] = refl
map_drop f (suc j) (x ∷ xs) = map_drop f j xs

map_last : {A B : Type 0} (f : A → B) (n : ℕ) (xs : List A) → map f (last_of n xs) ≡ last_of n (map f xs)
map_last f n xs = map_drop f (length xs - n) xs ∙ ap (λ k. drop (k - n) (map f xs)) (sym (length-map xs f))

-- ---- removals

-- the logs that are kept are those of the last 64 removals
abbrev pub IsTied : State → Type 0
IsTied s = map (λ k. k.number) s.kept ≡ last_of 64 (map (λ r. r.number) s.removed)

abbrev pub KeepsTie : State → Effect → Type 0
KeepsTie s e = IsTied s → IsTied e.state

removed_tie : (kept : List KeptLogs) (removed : List Removed) (k : KeptLogs) (r : Removed) → r.number ≡ k.number → map (λ k. k.number) kept ≡ last_of 64 (map (λ r. r.number) removed)
    → map (λ k. k.number) (last_of 64 (kept ++ k ∷ [])) ≡ last_of 64 (map (λ r. r.number) (removed ++ r ∷ []))
removed_tie kept removed k r is h =
    map_last (λ (k : KeptLogs). k.number) 64 (kept ++ k ∷ [])
    ∙ (ap (last_of 64) (map-append (λ (k : KeptLogs). k.number) kept (k ∷ []) ∙ ap (λ l. l ++ k.number ∷ []) h)
    ∙ (last_of_more 64 (map (λ r. r.number) removed) (k.number ∷ [])
    ∙ ap (last_of 64) (ap (λ n. map (λ r. r.number) removed ++ n ∷ []) (sym is) ∙ sym (map-append (λ (r : Removed). r.number) removed (r ∷ [])))))

pub tie_closed : IsClosed KeepsTie
tie_closed = record {
  on_still = λ s h. h;
  on_after = λ s a b first second h. second (first h);
  on_told = λ s v at h. h;
  on_mounts = λ s a c h. h;
  on_ended = λ s d h. h;
  on_renew = λ s n f mark h. h;
  on_log = λ s n stream payload h. h;
  on_output = λ s n stream payload h. h;
  on_process = λ s owner f h. h;
  on_drop = λ s owner h. h;
  on_spawn = λ s owner program stdin room h. h;
  on_timers = λ s timers h. h;
  on_exec = λ s n f mark h. h;
  on_destroyed = λ s c found h. removed_tie s.kept s.removed (record { number = c.number; logs = logs_of c s }) _ refl h;
  on_begun = λ s connection c asked found h. h;
  on_time_out = λ s c h. h;
  on_end_ticket = λ s n h. h;
  on_made_volume = λ s name labels none h. h;
  on_gone_volume = λ s name unused h. h;
  on_made = λ s name spec free stand h. h;
  on_made_exec = λ s c words stdin out err found h. h;
  on_renamed = λ s c name found free h. h;
}

due_tie : (s : State) (o : Option DueAction) → IsTied s → IsTied (unwrap_or (step_of o s) (still s)).state
due_tie s None h = h
due_tie s (Some d) h = runs_due tie_closed d (at_moment d.moment s) h

step_tie : (s : State) (x : Step) → IsTied s → IsTied (after_step s x)
step_tie s Step.Due h = due_tie s (least_due s) h
step_tie s (Step.Call connection moment c) h = runs_call tie_closed c connection (at_moment moment s) h

tie_from : (s : State) (h : List Step) → IsTied s → IsTied (state_from s h)
tie_from s [] k = k
tie_from s (x ∷ xs) k = tie_from (after_step s x) xs (step_tie s x k)

pub removals_tied : (charter : Charter) (h : List Step) → IsTied (state_after charter h)
removals_tied charter h = tie_from (opening_state charter) h refl

-- ---- events

abbrev pub KeepsCount : State → Effect → Type 0
KeepsCount s e = (e.state.event_moments ≡ s.event_moments) × (e.state.event_count ≡ s.event_count)

pub count_closed : IsClosed KeepsCount
count_closed = record {
  on_still = λ s. (refl, refl);
  on_after = λ s a b first second. (second.0 ∙ first.0, second.1 ∙ first.1);
  on_told = λ s v at. (refl, refl);
  on_mounts = λ s a c. (refl, refl);
  on_ended = λ s d. (refl, refl);
  on_renew = λ s n f mark. (refl, refl);
  on_log = λ s n stream payload. (refl, refl);
  on_output = λ s n stream payload. (refl, refl);
  on_process = λ s owner f. (refl, refl);
  on_drop = λ s owner. (refl, refl);
  on_spawn = λ s owner program stdin room. (refl, refl);
  on_timers = λ s timers. (refl, refl);
  on_exec = λ s n f mark. (refl, refl);
  on_destroyed = λ s c found. (refl, refl);
  on_begun = λ s connection c asked found. (refl, refl);
  on_time_out = λ s c. (refl, refl);
  on_end_ticket = λ s n. (refl, refl);
  on_made_volume = λ s name labels none. (refl, refl);
  on_gone_volume = λ s name unused. (refl, refl);
  on_made = λ s name spec free stand. (refl, refl);
  on_made_exec = λ s c words stdin out err found. (refl, refl);
  on_renamed = λ s c name found free. (refl, refl);
}

-- after these events
abbrev pub IsCounted : List Event → State → Type 0
IsCounted es s = (s.event_moments ≡ last_of 65536 (map (λ e. e.moment) es)) × (s.event_count ≡ length es)

counted_more : (es more : List Event) (s : State) (e : Effect) → KeepsCount s e → IsCounted es s
    → (last_of 65536 (e.state.event_moments ++ map (λ v. v.moment) more) ≡ last_of 65536 (map (λ v. v.moment) (es ++ more))) × (e.state.event_count + length more ≡ length (es ++ more))
counted_more es more s e same h = (
  ap (λ l. last_of 65536 (l ++ map (λ v. v.moment) more)) (same.0 ∙ h.0)
      ∙ (last_of_more 65536 (map (λ v. v.moment) es) (map (λ v. v.moment) more) ∙ ap (last_of 65536) (sym (map-append (λ (v : Event). v.moment) es more))),
  omega (arith, same.1, h.1, length-append es more),
)

due_counted : (es : List Event) (s : State) (o : Option DueAction) → IsCounted es s → IsCounted (es ++ (unwrap_or (step_of o s) (still s)).events) (unwrap_or (step_of o s) (still s)).state
due_counted es s None h = subst (λ l. IsCounted l s) (sym (append_nil es)) h
due_counted es s (Some d) h =
    let e : Effect = due_effect d (at_moment d.moment s) in
    counted_more es e.events s e (runs_due count_closed d (at_moment d.moment s)) h

step_counted : (es : List Event) (s : State) (x : Step) → IsCounted es s → IsCounted (es ++ (step_effect x s).events) (after_step s x)
step_counted es s Step.Due h = due_counted es s (least_due s) h
step_counted es s (Step.Call connection moment c) h =
    let e : Effect = (outcome_of c connection (at_moment moment s)).effect in
    counted_more es e.events s e (runs_call count_closed c connection (at_moment moment s)) h

counted_from : (es : List Event) (s : State) (h : List Step) → IsCounted es s → IsCounted (es ++ events_from s h) (state_from s h)
counted_from es s [] k = subst (λ l. IsCounted l s) (sym (append_nil es)) k
counted_from es s (x ∷ xs) k =
    subst (λ l. IsCounted l (state_from s (x ∷ xs))) (append_assoc es (step_effect x s).events (events_from (after_step s x) xs))
    (counted_from (es ++ (step_effect x s).events) (after_step s x) xs (step_counted es s x k))

-- the count is that of the history's events, and the moments are those of its last 65,536
pub events_counted : (charter : Charter) (h : List Step) → IsCounted (events_of charter h) (state_after charter h)
events_counted charter h = counted_from [] (opening_state charter) h (refl, refl)
