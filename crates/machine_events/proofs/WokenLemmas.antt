-- Which execs of a container still run once they went on.
use Rattle.std.proofs.Common.{◌≡◌, ◌≢◌, ℕ, ◌==◌, ◌&&◌, Bool, true, false, List, [], ◌∷◌, Option, Some, None, refl, ap, sym, ◌∙◌, subst, find, map, filter, if◌then◌else◌}
use Rattle.std.specs.Prelude.{option_map, is_some}
use Rattle.std.specs.List.{AllByRecursion}
use Rattle.std.proofs.lemmas.Bool.{eqb-true, eq-eqb}
use Rattle.engine_text.specs.Owner.{same_owner}
use Rattle.engine_text.specs.declared.exec.Exec.{Exec}
use Rattle.engine_text.specs.declared.owner.Owner.{Owner}
use Rattle.engine_text.specs.declared.script.Effect.{Effect as ProcessEffect}
use Rattle.engine_text.specs.declared.script.Effect.TheVariants.{Lives, Wrote, Ended}
use Rattle.container_table.specs.Lists.{update_first}
use Rattle.proc_kernel.specs.Foretelling.{code_in}
use Rattle.proc_kernel.specs.Processes.{Process, thaw}
use Rattle.proc_kernel.specs.Tables.{Entry, process_of, effect_of, change as changed_of, without as without_of}
use Rattle.machine_model.specs.Consistency.{AreDistinct, is_there}
use Rattle.machine_model.specs.State.{State, exec_numbered, is_live, running_execs, execs_of, drop_process, change_exec}
use Rattle.machine_model.specs.Chain.{each, with_found, and_then, change, tell_of}
use Rattle.machine_model.specs.Effects.Meet.{by_effect, step_process, stepped}
use Rattle.machine_model.specs.Effects.EndMain.{exec_ended}
use Rattle.machine_model.specs.EventTexts.{exec_die_event}
use Rattle.machine_events.specs.Foretold.{running_numbers}
use Rattle.machine_events.specs.ToldMeet.{thawed_code, lives_on, running_after, is_none}
use Rattle.machine_model.proofs.ItemLemmas.{All-imp}
use Rattle.machine_events.proofs.SettleLemmas.{tell_still}
use Rattle.machine_events.proofs.ToldLemmas.{AreAlike, stands_changed}
use Rattle.machine_events.proofs.WakeLemmas.{other_thawed, thaw_alike, Differ, AreSame, same_on}

-- ---- one process an owner

owners_either : (b : Bool) (e x : Entry) (xs ys : List Entry) → x.owner ≡ e.owner → map (λ (y : Entry). y.owner) ys ≡ map (λ (y : Entry). y.owner) xs → map (λ (y : Entry). y.owner) (if b then x ∷ xs else e ∷ ys) ≡ map (λ (y : Entry). y.owner) (e ∷ xs)
owners_either true e x xs ys h k = ap (λ o. o ∷ map (λ (y : Entry). y.owner) xs) h
owners_either false e x xs ys h k = ap (λ l. e.owner ∷ l) k

owners_changed : (o : Owner) (f : Process → Process) (es : List Entry) → map (λ (y : Entry). y.owner) (changed_of o f es) ≡ map (λ (y : Entry). y.owner) es
owners_changed o f [] = refl
owners_changed o f (e ∷ es) = owners_either (same_owner e.owner o) e (record e { process = f e.process }) es (changed_of o f es) refl (owners_changed o f es)

all_without : (P : Owner → Type 0) (o : Owner) (es : List Entry) → AllByRecursion P (map (λ (y : Entry). y.owner) es) → AllByRecursion P (map (λ (y : Entry). y.owner) (without_of o es))
all_without P o [] h = tt
all_without P o (e ∷ es) h = go (same_owner e.owner o) (all_without P o es h.1)
  where
    go : (b : Bool) → AllByRecursion P (map (λ (y : Entry). y.owner) (without_of o es)) → AllByRecursion P (map (λ (y : Entry). y.owner) (if b then es else e ∷ without_of o es))
    go true r = h.1
    go false r = (h.0, r)

-- an owner is gone, the others stay single
pub single_without : (o : Owner) (es : List Entry) → AreDistinct (map (λ (y : Entry). y.owner) es) → AreDistinct (map (λ (y : Entry). y.owner) (without_of o es))
single_without o [] d = tt
single_without o (e ∷ es) d = go (same_owner e.owner o) (single_without o es d.1)
  where
    go : (b : Bool) → AreDistinct (map (λ (y : Entry). y.owner) (without_of o es)) → AreDistinct (map (λ (y : Entry). y.owner) (if b then es else e ∷ without_of o es))
    go true r = d.1
    go false r = (all_without (λ p. e.owner ≢ p) o es d.0, r)

is_exec : (o : Owner) (k : ℕ) → same_owner o (Owner.Exec k) ≡ true → o ≡ Owner.Exec k
is_exec (Owner.Container n) k e = absurd (cc)
is_exec (Owner.Exec m) k e = ap Owner.Exec (eqb-true m k e)

none_of : (k : ℕ) (es : List Entry) → AllByRecursion (λ (p : Owner). Owner.Exec k ≢ p) (map (λ (y : Entry). y.owner) es) → process_of (Owner.Exec k) es ≡ None
none_of k [] h = refl
none_of k (e ∷ es) h = go (same_owner e.owner (Owner.Exec k)) refl (none_of k es h.1)
  where
    go : (b : Bool) → same_owner e.owner (Owner.Exec k) ≡ b → process_of (Owner.Exec k) es ≡ None → (if b then Some e.process else process_of (Owner.Exec k) es) ≡ None
    go true q rest = absurd (h.0 (sym (is_exec e.owner k q)))
    go false q rest = rest

-- the one process of an exec is gone
pub gone_without : (k : ℕ) (es : List Entry) → AreDistinct (map (λ (y : Entry). y.owner) es) → process_of (Owner.Exec k) (without_of (Owner.Exec k) es) ≡ None
gone_without k [] d = refl
gone_without k (e ∷ es) d = go (same_owner e.owner (Owner.Exec k)) refl (gone_without k es d.1)
  where
    go : (b : Bool) → same_owner e.owner (Owner.Exec k) ≡ b → process_of (Owner.Exec k) (without_of (Owner.Exec k) es) ≡ None → process_of (Owner.Exec k) (if b then es else e ∷ without_of (Owner.Exec k) es) ≡ None
    go true q rest = none_of k es (subst (λ (o : Owner). AllByRecursion (λ (p : Owner). o ≢ p) (map (λ (y : Entry). y.owner) es)) (is_exec e.owner k q) d.0)
    go false q rest = ap (λ b. if b then Some e.process else process_of (Owner.Exec k) (without_of (Owner.Exec k) es)) q ∙ rest

-- ---- a step of one exec

abbrev owners : State → List Owner
owners s = map (λ (y : Entry). y.owner) s.processes

found_single : (o : Option Exec) (code j : ℕ) (s : State) → AreDistinct (owners s)
    → AreDistinct (owners (with_found o (λ (x : Exec). and_then (tell_of (exec_die_event x.id code) x.container) (and_then (change (drop_process (Owner.Exec j))) (change (change_exec j (exec_ended code))))) s).state)
found_single None code j s d = d
found_single (Some x) code j s d =
    subst (λ (z : State). AreDistinct (map (λ (y : Entry). y.owner) (without_of (Owner.Exec j) z.processes))) (sym (tell_still (exec_die_event x.id code) x.container s)) (single_without (Owner.Exec j) s.processes d)

effect_single : (e : ProcessEffect) (j : ℕ) (s : State) → AreDistinct (owners s) → AreDistinct (owners (by_effect e (Owner.Exec j) s).state)
effect_single Lives j s d = d
effect_single (Wrote stream payload) j s d = d
effect_single (Ended code) j s d = found_single (exec_numbered j s) code j s d

step_single : (j : ℕ) (s : State) → AreDistinct (owners s) → AreDistinct (owners (step_process thaw (Owner.Exec j) s).state)
step_single j s d =
    effect_single (effect_of (thaw s.clock) (process_of (Owner.Exec j) s.processes)) j (stepped thaw (Owner.Exec j) s)
    (subst (λ (l : List Owner). AreDistinct l) (sym (owners_changed (Owner.Exec j) (λ p. (thaw s.clock p).process) s.processes)) d)

-- what an exec is known by
record Key : Type 0 where
  number : ℕ
  container : ℕ

abbrev key : Exec → Key
key x = record { number = x.number; container = x.container }

keys_either : (b : Bool) (x y : Exec) (xs ys : List Exec) → key y ≡ key x → map key ys ≡ map key xs → map key (if b then y ∷ xs else x ∷ ys) ≡ map key (x ∷ xs)
keys_either true x y xs ys h k = ap (λ z. z ∷ map key xs) h
keys_either false x y xs ys h k = ap (λ l. key x ∷ l) k

keys_ended : (j code : ℕ) (xs : List Exec) → map key (update_first (λ (x : Exec). x.number == j) (exec_ended code) xs) ≡ map key xs
keys_ended j code [] = refl
keys_ended j code (x ∷ xs) = keys_either (x.number == j) x (exec_ended code x) xs (update_first (λ (y : Exec). y.number == j) (exec_ended code) xs) refl (keys_ended j code xs)

found_keys : (o : Option Exec) (code j : ℕ) (s : State)
    → map key (with_found o (λ (x : Exec). and_then (tell_of (exec_die_event x.id code) x.container) (and_then (change (drop_process (Owner.Exec j))) (change (change_exec j (exec_ended code))))) s).state.execs ≡ map key s.execs
found_keys None code j s = refl
found_keys (Some x) code j s =
    ap (λ (z : State). map key (update_first (λ (y : Exec). y.number == j) (exec_ended code) z.execs)) (tell_still (exec_die_event x.id code) x.container s) ∙ keys_ended j code s.execs

effect_keys : (e : ProcessEffect) (j : ℕ) (s : State) → map key (by_effect e (Owner.Exec j) s).state.execs ≡ map key s.execs
effect_keys Lives j s = refl
effect_keys (Wrote stream payload) j s = refl
effect_keys (Ended code) j s = found_keys (exec_numbered j s) code j s

abbrev thaws : List Exec → State → State
thaws xs s = (each (λ (x : Exec). step_process thaw (Owner.Exec x.number)) xs s).state

thaws_keys : (xs : List Exec) (s : State) → map key (thaws xs s).execs ≡ map key s.execs
thaws_keys [] s = refl
thaws_keys (x ∷ xs) s =
    thaws_keys xs (step_process thaw (Owner.Exec x.number) s).state
    ∙ effect_keys (effect_of (thaw s.clock) (process_of (Owner.Exec x.number) s.processes)) x.number (stepped thaw (Owner.Exec x.number) s)

-- ---- whether it lives then

found_live : (j code : ℕ) (s : State) (x : Exec) (o : Option Exec) → o ≡ Some x → AreDistinct (owners s)
    → is_live (Owner.Exec j) (with_found o (λ (x : Exec). and_then (tell_of (exec_die_event x.id code) x.container) (and_then (change (drop_process (Owner.Exec j))) (change (change_exec j (exec_ended code))))) s).state ≡ false
found_live j code s x o e d =
    ap (λ (q : Option Exec). is_live (Owner.Exec j) (with_found q (λ (x : Exec). and_then (tell_of (exec_die_event x.id code) x.container) (and_then (change (drop_process (Owner.Exec j))) (change (change_exec j (exec_ended code))))) s).state) e
    ∙ (ap (λ (z : State). is_some (process_of (Owner.Exec j) (without_of (Owner.Exec j) z.processes))) (tell_still (exec_die_event x.id code) x.container s)
    ∙ ap is_some (gone_without j s.processes d))

effect_live : (e : ProcessEffect) (j : ℕ) (s : State) (x : Exec) → exec_numbered j s ≡ Some x → AreDistinct (owners s) → is_live (Owner.Exec j) s ≡ true
    → is_live (Owner.Exec j) (by_effect e (Owner.Exec j) s).state ≡ is_none (code_in e)
effect_live Lives j s x found d live = live
effect_live (Wrote stream payload) j s x found d live = live
effect_live (Ended code) j s x found d live = found_live j code s x (exec_numbered j s) found d

own_live : (j : ℕ) (s z : State) (x : Exec) → AreAlike s z → process_of (Owner.Exec j) z.processes ≡ process_of (Owner.Exec j) s.processes → exec_numbered j z ≡ Some x → AreDistinct (owners z) → is_live (Owner.Exec j) s ≡ true
    → is_live (Owner.Exec j) (step_process thaw (Owner.Exec j) z).state ≡ lives_on j s
own_live j s z x a same found d live =
    let e : ProcessEffect = effect_of (thaw z.clock) (process_of (Owner.Exec j) z.processes) in
    let y : State = stepped thaw (Owner.Exec j) z in
    let code : code_in e ≡ thawed_code j s = ap (λ o. code_in (effect_of (thaw z.clock) o)) same ∙ ap (λ t. code_in (effect_of (thaw t) (process_of (Owner.Exec j) s.processes))) a.clock in
    effect_live e j y x found
    (subst (λ (l : List Owner). AreDistinct l) (sym (owners_changed (Owner.Exec j) (λ p. (thaw z.clock p).process) z.processes)) d)
    (stands_changed (Owner.Exec j) (Owner.Exec j) (λ p. (thaw z.clock p).process) z.processes ∙ (ap is_some same ∙ live))
    ∙ ap is_none code

step_live : (j k : ℕ) (b : Bool) (s z : State) (x : Exec) → (j == k) ≡ b → AreAlike s z → process_of (Owner.Exec j) z.processes ≡ process_of (Owner.Exec j) s.processes → exec_numbered j z ≡ Some x → AreDistinct (owners z) → is_live (Owner.Exec j) s ≡ true
    → is_live (Owner.Exec k) (step_process thaw (Owner.Exec j) z).state ≡ (if b then lives_on j s else is_live (Owner.Exec k) z)
step_live j k true s z x e a same found d live =
    let at : j ≡ k = eqb-true j k e in
    sym (ap (λ (m : ℕ). is_live (Owner.Exec m) (step_process thaw (Owner.Exec j) z).state) at) ∙ own_live j s z x a same found d live
step_live j k false s z x e a same found d live = ap is_some (other_thawed j k z e)

-- once these went on
live_after : State → List Exec → ℕ → Bool → Bool
live_after s [] k b = b
live_after s (x ∷ xs) k b = live_after s xs k (if x.number == k then lives_on x.number s else b)

there_map : {A B : Type 0} (f : A → B) (o : Option A) → is_there (option_map f o) ≡ is_there o
there_map f None = refl
there_map f (Some x) = refl

some_there : {A : Type 0} (o : Option A) → is_there o ≡ true → (x : A) × (o ≡ Some x)
some_there None e = absurd (cc)
some_there (Some x) e = (x, refl)

alike_there : (s z : State) (k : ℕ) → AreAlike s z → is_there (exec_numbered k s) ≡ true → is_there (exec_numbered k z) ≡ true
alike_there s z k a e = sym (there_map _ (exec_numbered k z)) ∙ (ap is_there (a.execs k) ∙ (there_map _ (exec_numbered k s) ∙ e))

thaws_live : (xs : List Exec) (s z : State) (k : ℕ) → AreAlike s z → Differ xs → AreSame s z xs → AreDistinct (owners z)
    → AllByRecursion (λ (x : Exec). is_live (Owner.Exec x.number) s ≡ true) xs → AllByRecursion (λ (x : Exec). is_there (exec_numbered x.number s) ≡ true) xs
    → is_live (Owner.Exec k) (thaws xs z) ≡ live_after s xs k (is_live (Owner.Exec k) z)
unfolding live_after
thaws_live [] s z k a d h single live there = refl
thaws_live (x ∷ xs) s z k a d h single live there =
    let j : ℕ = x.number in
    let y : State = (step_process thaw (Owner.Exec j) z).state in
    let e : ProcessEffect = effect_of (thaw z.clock) (process_of (Owner.Exec j) z.processes) in
    let found = some_there (exec_numbered j z) (alike_there s z j a there.0) in
    thaws_live xs s y k (thaw_alike e j (λ p. (thaw z.clock p).process) s z a) d.1 (same_on j s z xs d.0 h.1) (step_single j z single) live.1 there.1
    ∙ ap (live_after s xs k) (step_live j k (j == k) s z found.0 refl a h.0 found.1 single live.0)

-- ---- which of them these are

stays_after : (s : State) (k : ℕ) (xs : List Exec) → live_after s xs k (lives_on k s) ≡ lives_on k s
unfolding live_after
stays_after s k [] = refl
stays_after s k (x ∷ xs) = ap (live_after s xs k) (go (x.number == k) refl) ∙ stays_after s k xs
  where
    go : (b : Bool) → (x.number == k) ≡ b → (if b then lives_on x.number s else lives_on k s) ≡ lives_on k s
    go true e = ap (λ j. lives_on j s) (eqb-true x.number k e)
    go false e = refl

dead_after : (s : State) (k : ℕ) (xs : List Exec) (b : Bool) → AllByRecursion (λ (x : Exec). is_live (Owner.Exec x.number) s ≡ true) xs → is_live (Owner.Exec k) s ≡ false → live_after s xs k b ≡ b
unfolding live_after
dead_after s k [] b live off = refl
dead_after s k (x ∷ xs) b live off = ap (live_after s xs k) (go (x.number == k) refl) ∙ dead_after s k xs b live.1 off
  where
    go : (c : Bool) → (x.number == k) ≡ c → (if c then lives_on x.number s else b) ≡ b
    go true e = let both : true ≡ false = sym live.0 ∙ (ap (λ j. is_live (Owner.Exec j) s) (eqb-true x.number k e) ∙ off) in absurd (cc)
    go false e = refl

-- the running ones of a container among these
abbrev live_of : ℕ → State → List Exec → List Exec
live_of n s xs = filter (λ (x : Exec). is_live (Owner.Exec x.number) s) (filter (λ (x : Exec). x.container == n) xs)

-- one more
more_of : (n : ℕ) (s : State) (x : Exec) (xs : List Exec) (c l : Bool) → (x.container == n) ≡ c → is_live (Owner.Exec x.number) s ≡ l → live_of n s (x ∷ xs) ≡ (if c && l then x ∷ live_of n s xs else live_of n s xs)
more_of n s x xs true l e h =
    ap (λ b. filter (λ (y : Exec). is_live (Owner.Exec y.number) s) (if b then x ∷ filter (λ (y : Exec). y.container == n) xs else filter (λ (y : Exec). y.container == n) xs)) e
    ∙ ap (λ b. if b then x ∷ live_of n s xs else live_of n s xs) h
more_of n s x xs false l e h =
    ap (λ b. filter (λ (y : Exec). is_live (Owner.Exec y.number) s) (if b then x ∷ filter (λ (y : Exec). y.container == n) xs else filter (λ (y : Exec). y.container == n) xs)) e

abbrev Hits : ℕ → State → List Exec → Exec → Type 0
Hits n s xs x = (x.container == n) ≡ true → is_live (Owner.Exec x.number) s ≡ true → (b : Bool) → live_after s (live_of n s xs) x.number b ≡ lives_on x.number s

all_hits : (n : ℕ) (s : State) (x : Exec) (xs ys : List Exec) → AllByRecursion (Hits n s xs) ys → AllByRecursion (Hits n s (x ∷ xs)) ys
unfolding live_after
all_hits n s x xs [] h = tt
all_hits n s x xs (y ∷ ys) h = (
  λ c l b. ap (λ (zs : List Exec). live_after s zs y.number b) (more_of n s x xs (x.container == n) (is_live (Owner.Exec x.number) s) refl refl) ∙ go c l ((x.container == n) && is_live (Owner.Exec x.number) s) b,
  all_hits n s x xs ys h.1,
)
  where
    go : (y.container == n) ≡ true → is_live (Owner.Exec y.number) s ≡ true → (t b : Bool) → live_after s (if t then x ∷ live_of n s xs else live_of n s xs) y.number b ≡ lives_on y.number s
    go c l true b = h.0 c l (if x.number == y.number then lives_on x.number s else b)
    go c l false b = h.0 c l b

hits : (n : ℕ) (s : State) (xs : List Exec) → AllByRecursion (Hits n s xs) xs
unfolding live_after
hits n s [] = tt
hits n s (x ∷ xs) = (
  λ c l b. ap (λ (zs : List Exec). live_after s zs x.number b) (more_of n s x xs true true c l)
      ∙ (ap (λ t. live_after s (live_of n s xs) x.number (if t then lives_on x.number s else b)) (eq-eqb x.number x.number refl) ∙ stays_after s x.number (live_of n s xs)),
  all_hits n s x xs xs (hits n s xs),
)

-- ---- by their keys

running_keys : (ℕ → Bool) → ℕ → List Key → List ℕ
running_keys live n [] = []
running_keys live n (k ∷ ks) = if (k.container == n) && live k.number then k.number ∷ running_keys live n ks else running_keys live n ks

by_keys : (live : ℕ → Bool) (n : ℕ) (xs : List Exec) → map (λ (x : Exec). x.number) (filter (λ (x : Exec). live x.number) (filter (λ (x : Exec). x.container == n) xs)) ≡ running_keys live n (map key xs)
unfolding running_keys
by_keys live n [] = refl
by_keys live n (x ∷ xs) = go (x.container == n) (live x.number) refl (by_keys live n xs)
  where
    go : (c l : Bool) → live x.number ≡ l → map (λ (x : Exec). x.number) (filter (λ (x : Exec). live x.number) (filter (λ (x : Exec). x.container == n) xs)) ≡ running_keys live n (map key xs)
        → map (λ (x : Exec). x.number) (filter (λ (x : Exec). live x.number) (if c then x ∷ filter (λ (x : Exec). x.container == n) xs else filter (λ (x : Exec). x.container == n) xs))
        ≡ (if c && l then x.number ∷ running_keys live n (map key xs) else running_keys live n (map key xs))
    go false l e h = h
    go true l e h = ap (λ b. map (λ (x : Exec). x.number) (if b then x ∷ filter (λ (x : Exec). live x.number) (filter (λ (x : Exec). x.container == n) xs) else filter (λ (x : Exec). live x.number) (filter (λ (x : Exec). x.container == n) xs))) e ∙ pick l h
      where
        pick : (l : Bool) → map (λ (x : Exec). x.number) (filter (λ (x : Exec). live x.number) (filter (λ (x : Exec). x.container == n) xs)) ≡ running_keys live n (map key xs)
            → map (λ (x : Exec). x.number) (if l then x ∷ filter (λ (x : Exec). live x.number) (filter (λ (x : Exec). x.container == n) xs) else filter (λ (x : Exec). live x.number) (filter (λ (x : Exec). x.container == n) xs)) ≡ (if l then x.number ∷ running_keys live n (map key xs) else running_keys live n (map key xs))
        pick true h = ap (λ l. x.number ∷ l) h
        pick false h = h

filter_keys : (p live : ℕ → Bool) (n : ℕ) (ks : List Key) → filter p (running_keys live n ks) ≡ running_keys (λ k. live k && p k) n ks
unfolding running_keys
filter_keys p live n [] = refl
filter_keys p live n (k ∷ ks) = go (k.container == n) (live k.number) (p k.number) refl (filter_keys p live n ks)
  where
    go : (c l q : Bool) → p k.number ≡ q → filter p (running_keys live n ks) ≡ running_keys (λ k. live k && p k) n ks
        → filter p (if c && l then k.number ∷ running_keys live n ks else running_keys live n ks) ≡ (if c && (l && q) then k.number ∷ running_keys (λ k. live k && p k) n ks else running_keys (λ k. live k && p k) n ks)
    go false l q e h = h
    go true false q e h = h
    go true true true e h = ap (λ b. if b then k.number ∷ filter p (running_keys live n ks) else filter p (running_keys live n ks)) e ∙ ap (λ l. k.number ∷ l) h
    go true true false e h = ap (λ b. if b then k.number ∷ filter p (running_keys live n ks) else filter p (running_keys live n ks)) e ∙ h

same_keys : (f g : ℕ → Bool) (n : ℕ) (xs : List Exec) → AllByRecursion (λ (x : Exec). (x.container == n) ≡ true → f x.number ≡ g x.number) xs → running_keys f n (map key xs) ≡ running_keys g n (map key xs)
unfolding running_keys
same_keys f g n [] h = refl
same_keys f g n (x ∷ xs) h = go (x.container == n) refl ∙ ap (λ l. if (x.container == n) && g x.number then x.number ∷ l else l) (same_keys f g n xs h.1)
  where
    go : (c : Bool) → (x.container == n) ≡ c → (if (x.container == n) && f x.number then x.number ∷ running_keys f n (map key xs) else running_keys f n (map key xs)) ≡ (if (x.container == n) && g x.number then x.number ∷ running_keys f n (map key xs) else running_keys f n (map key xs))
    go true e = ap (λ b. if (x.container == n) && b then x.number ∷ running_keys f n (map key xs) else running_keys f n (map key xs)) (h.0 e)
    go false e = ap (λ c. if c && f x.number then x.number ∷ running_keys f n (map key xs) else running_keys f n (map key xs)) e ∙ sym (ap (λ c. if c && g x.number then x.number ∷ running_keys f n (map key xs) else running_keys f n (map key xs)) e)

-- ---- all of the container's running execs

all_pass : (p : Exec → Bool) (xs : List Exec) → AllByRecursion (λ (x : Exec). p x ≡ true) (filter p xs)
all_pass p [] = tt
all_pass p (x ∷ xs) = go (p x) refl (all_pass p xs)
  where
    go : (b : Bool) → p x ≡ b → AllByRecursion (λ (x : Exec). p x ≡ true) (filter p xs) → AllByRecursion (λ (x : Exec). p x ≡ true) (if b then x ∷ filter p xs else filter p xs)
    go true e rest = (e, rest)
    go false e rest = rest

all_filtered : (P : Exec → Type 0) (p : Exec → Bool) (xs : List Exec) → AllByRecursion P xs → AllByRecursion P (filter p xs)
all_filtered P p [] h = tt
all_filtered P p (x ∷ xs) h = go (p x) (all_filtered P p xs h.1)
  where
    go : (b : Bool) → AllByRecursion P (filter p xs) → AllByRecursion P (if b then x ∷ filter p xs else filter p xs)
    go true rest = (h.0, rest)
    go false rest = rest

differ_filtered : (p : Exec → Bool) (xs : List Exec) → Differ xs → Differ (filter p xs)
differ_filtered p [] d = tt
differ_filtered p (x ∷ xs) d = go (p x) (differ_filtered p xs d.1)
  where
    go : (b : Bool) → Differ (filter p xs) → Differ (if b then x ∷ filter p xs else filter p xs)
    go true rest = (all_filtered (λ (y : Exec). (x.number == y.number) ≡ false) p xs d.0, rest)
    go false rest = rest

apart_from : (k : ℕ) (xs : List Exec) → AllByRecursion (λ (m : ℕ). k ≢ m) (map (λ (x : Exec). x.number) xs) → AllByRecursion (λ (y : Exec). (k == y.number) ≡ false) xs
apart_from k [] h = tt
apart_from k (x ∷ xs) h = (go (k == x.number) refl, apart_from k xs h.1)
  where
    go : (b : Bool) → (k == x.number) ≡ b → (k == x.number) ≡ false
    go true e = absurd (h.0 (eqb-true k x.number e))
    go false e = e

pub differ_of : (xs : List Exec) → AreDistinct (map (λ (x : Exec). x.number) xs) → Differ xs
differ_of [] d = tt
differ_of (x ∷ xs) d = (apart_from x.number xs d.0, differ_of xs d.1)

all_there : (x : Exec) (xs ys : List Exec) → AllByRecursion (λ (y : Exec). is_there (find (λ (z : Exec). z.number == y.number) xs) ≡ true) ys → AllByRecursion (λ (y : Exec). is_there (find (λ (z : Exec). z.number == y.number) (x ∷ xs)) ≡ true) ys
all_there x xs [] h = tt
all_there x xs (y ∷ ys) h = (go (x.number == y.number), all_there x xs ys h.1)
  where
    go : (b : Bool) → is_there (if b then Some x else find (λ (z : Exec). z.number == y.number) xs) ≡ true
    go true = refl
    go false = h.0

self_there : (xs : List Exec) → AllByRecursion (λ (y : Exec). is_there (find (λ (z : Exec). z.number == y.number) xs) ≡ true) xs
self_there [] = tt
self_there (x ∷ xs) = (ap (λ b. is_there (if b then Some x else find (λ (z : Exec). z.number == x.number) xs)) (eq-eqb x.number x.number refl), all_there x xs xs (self_there xs))

all_same : (s : State) (xs : List Exec) → AreSame s s xs
all_same s [] = tt
all_same s (x ∷ xs) = (refl, all_same s xs)

pub differ_running : (n : ℕ) (s : State) → AreDistinct (map (λ (x : Exec). x.number) s.execs) → Differ (running_execs n s)
differ_running n s d = differ_filtered (λ (x : Exec). is_live (Owner.Exec x.number) s) (execs_of n s) (differ_filtered (λ (x : Exec). x.container == n) s.execs (differ_of s.execs d))

pub same_running : (n : ℕ) (s : State) → AreSame s s (running_execs n s)
same_running n s = all_same s (running_execs n s)

after : (n : ℕ) (s : State) (x : Exec) → AllByRecursion (λ (y : Exec). is_live (Owner.Exec y.number) s ≡ true) (running_execs n s) → Hits n s s.execs x → (x.container == n) ≡ true → (b : Bool) → is_live (Owner.Exec x.number) s ≡ b
    → live_after s (running_execs n s) x.number (is_live (Owner.Exec x.number) s) ≡ (is_live (Owner.Exec x.number) s && lives_on x.number s)
after n s x lives h c true e = ap (live_after s (running_execs n s) x.number) e ∙ (h c e true ∙ sym (ap (λ b. b && lives_on x.number s) e))
after n s x lives h c false e = dead_after s x.number (running_execs n s) (is_live (Owner.Exec x.number) s) lives e ∙ (e ∙ sym (ap (λ b. b && lives_on x.number s) e))

-- those that run behind the thaw are those that ran and live on
pub runs_after : (n : ℕ) (s : State) → AreDistinct (map (λ (x : Exec). x.number) s.execs) → AreDistinct (map (λ (y : Entry). y.owner) s.processes)
    → running_numbers n (each (λ (x : Exec). step_process thaw (Owner.Exec x.number)) (running_execs n s) s).state ≡ running_after n s
runs_after n s numbers single =
    let xs : List Exec = running_execs n s in
    let z : State = thaws xs s in
    let lives : AllByRecursion (λ (x : Exec). is_live (Owner.Exec x.number) s ≡ true) xs = all_pass (λ (x : Exec). is_live (Owner.Exec x.number) s) (execs_of n s) in
    let there : AllByRecursion (λ (x : Exec). is_there (exec_numbered x.number s) ≡ true) xs =
    all_filtered (λ (x : Exec). is_there (exec_numbered x.number s) ≡ true) (λ (x : Exec). is_live (Owner.Exec x.number) s) (execs_of n s)
    (all_filtered (λ (x : Exec). is_there (exec_numbered x.number s) ≡ true) (λ (x : Exec). x.container == n) s.execs (self_there s.execs)) in
    let differ : Differ xs = differ_running n s numbers in
    by_keys (λ k. is_live (Owner.Exec k) z) n z.execs
    ∙ (ap (running_keys (λ k. is_live (Owner.Exec k) z) n) (thaws_keys xs s)
    ∙ (same_keys (λ k. is_live (Owner.Exec k) z) (λ k. is_live (Owner.Exec k) s && lives_on k s) n s.execs
    (All-imp (Hits n s s.execs) (λ (x : Exec). (x.container == n) ≡ true → is_live (Owner.Exec x.number) z ≡ (is_live (Owner.Exec x.number) s && lives_on x.number s))
    (λ x h c. thaws_live xs s s x.number (record { containers = refl; clock = refl; execs = λ k. refl }) differ (all_same s xs) single lives there ∙ after n s x lives h c (is_live (Owner.Exec x.number) s) refl) s.execs (hits n s s.execs))
    ∙ (sym (filter_keys (λ j. lives_on j s) (λ k. is_live (Owner.Exec k) s) n (map key s.execs))
    ∙ sym (ap (filter (λ j. lives_on j s)) (by_keys (λ k. is_live (Owner.Exec k) s) n s.execs)))))
