-- Each exec's container stands, and each exec has one output, in their order, through every effect.
use Rattle.std.proofs.Common.{◌≡◌, ◌≢◌, ℕ, ◌+◌, ◌<◌, ◌==◌, ◌||◌, Bool, true, false, not, inl, inr, List, [], ◌∷◌, ◌++◌, Option, Some, None, if◌then◌else◌, find, filter, map, refl, ap, sym, ◌∙◌, subst, arith}
use Rattle.std.proofs.lemmas.Bool.{eq-eqb}
use Rattle.std.proofs.lemmas.Bool.Decides.{eqb_tells}
use Rattle.std.proofs.lemmas.List.{map-append}
use Rattle.std.specs.Prelude.{IsTrue}
use Rattle.std.specs.List.{AllByRecursion, list_any}
use Rattle.container_table.specs.Lists.{update_first, remove_first}
use Rattle.engine_text.specs.Owner.{same_owner}
use Rattle.machine_model.specs.State.{State, execs_of}
use Rattle.machine_model.specs.Chain.{Effect}
use Rattle.machine_model.specs.Consistency.{AreDistinct, is_there}
use Rattle.machine_model.specs.Effects.Destroy.{is_exec_of}
use Rattle.machine_model.specs.Effects.Meet.{logged, record_of}
use Rattle.machine_model.specs.Calls.Create.{new_container}
use Rattle.machine_model.specs.Calls.ExecCreate.{new_exec}
use Rattle.machine_model.proofs.ListLemmas.{all_append, all_weaken, all_mapped, distinct_more, found_in_more}
use Rattle.machine_model.proofs.ChangeLemmas.{map_updated, all_updated, all_filtered, distinct_filtered}
use Rattle.machine_model.proofs.ClosureLemmas.{IsClosed}
use Rattle.machine_model.proofs.Fold.RowLemmas.{made}
use Rattle.machine_model.proofs.Fits.ExecLoopLemmas.{own_exec, all_passing}
use Rattle.machine_model.proofs.Kept.TicketLemmas.{there_changed}
use Rattle.machine_model.proofs.Tables.NumberLemmas.{other_stands, is_not, keep_if, find_filtered}
use Rattle.engine_text.specs.declared.container.Container.{Container}
use Rattle.engine_text.specs.declared.container.Life.{Life}
use Rattle.engine_text.specs.declared.exec.Exec.{Exec}
use Rattle.engine_text.specs.declared.log.OwnedLog.{OwnedLog}
use Rattle.engine_text.specs.declared.owner.Owner.{Owner}
use Rattle.engine_text.specs.declared.owner.Owner.TheVariants.{Container as OfContainer, Exec as OfExec}

-- ---- the relation

abbrev pub StandsAmong : List Container → Exec → Type 0
StandsAmong cs x = IsTrue (is_there (find (λ c. c.number == x.container) cs))

abbrev IsBelow : ℕ → Exec → Type 0
IsBelow next x = x.number < next

-- beside it, execs have distinct numbers below the next
abbrev pub ExecsOf : List Container → List Exec → List OwnedLog → ℕ → Type 0
ExecsOf cs xs os next =
    AllByRecursion (StandsAmong cs) xs × (map (λ o. o.owner) os ≡ map (λ x. OfExec x.number) xs) × AreDistinct (map (λ x. x.number) xs) × AllByRecursion (IsBelow next) xs

abbrev pub Execs : State → Type 0
Execs s = ExecsOf s.containers s.execs s.outputs s.next_number

abbrev pub KeepsExecs : State → Effect → Type 0
KeepsExecs s e = Execs s → Execs e.state

-- ---- other containers

among : (cs new : List Container) (xs : List Exec) (os : List OwnedLog) (next : ℕ) → ((n : ℕ) → is_there (find (λ c. c.number == n) cs) ≡ true → is_there (find (λ c. c.number == n) new) ≡ true)
    → ExecsOf cs xs os next → ExecsOf new xs os next
among cs new xs os next k h = (all_weaken (StandsAmong cs) (StandsAmong new) (λ x stands. k x.container stands) xs h.0, h.1, h.2, h.3)

renewed : (n : ℕ) (g : List ℕ → List ℕ) (f : Life → Life) (cs : List Container) (xs : List Exec) (os : List OwnedLog) (next : ℕ) → ExecsOf cs xs os next
    → ExecsOf (update_first (λ c. c.number == n) (made g f) cs) xs os next
renewed n g f cs xs os next h = among cs (update_first (λ c. c.number == n) (made g f) cs) xs os next (λ m there. there_changed n m g f cs there) h

later : (cs : List Container) (xs : List Exec) (os : List OwnedLog) (next : ℕ) → ExecsOf cs xs os next → ExecsOf cs xs os (next + 1)
later cs xs os next h = (h.0, h.1, h.2, all_weaken (IsBelow next) (IsBelow (next + 1)) (λ x low. omega (arith, low)) xs h.3)

-- ---- the removal of a container

turned : (m n : ℕ) → (m == n) ≡ (n == m)
turned m n = elim (eqb_tells m n) [ inl e ↦ e.0 ∙ sym (eq-eqb n m (sym e.1)) | inr e ↦ e.0 ∙ sym (is_not n m (λ same. e.1 (sym same))) ]

any_by : (a b : Bool) (y : Exec) (rest : Option Exec) (more : Bool) → a ≡ b → more ≡ is_there rest → (a || more) ≡ is_there (if b then Some y else rest)
any_by true true y rest more e h = refl
any_by false false y rest more e h = h
any_by true false y rest more e h = absurd (cc)
any_by false true y rest more e h = absurd (cc)

any_found : (m : ℕ) (xs : List Exec) → list_any (λ y. m == y.number) xs ≡ is_there (find (λ (y : Exec). y.number == m) xs)
any_found m [] = refl
any_found m (y ∷ ys) = any_by (m == y.number) (y.number == m) y (find (λ (y : Exec). y.number == m) ys) (list_any (λ y. m == y.number) ys) (turned m y.number) (any_found m ys)

kept_there : (b : Bool) (x : Exec) → is_there (if b then Some x else None) ≡ b
kept_there true x = refl
kept_there false x = refl

-- an exec's output is one of the container's exactly where the exec is
owned_as : (n : ℕ) (xs : List Exec) → AreDistinct (map (λ x. x.number) xs) → (x : Exec) → find (λ (y : Exec). y.number == x.number) xs ≡ Some x
    → list_any (λ y. x.number == y.number) (filter (λ y. y.container == n) xs) ≡ (x.container == n)
owned_as n xs distinct x own =
    any_found x.number (filter (λ y. y.container == n) xs)
    ∙ (ap is_there (find_filtered (λ (y : Exec). y.number) (λ y. y.container == n) x.number xs distinct ∙ ap (keep_if (λ (y : Exec). y.container == n)) own)
    ∙ kept_there (x.container == n) x)

abbrev head_of : List Owner → Owner
head_of [] = OfContainer 0
head_of (o ∷ os) = o

abbrev tail_of : List Owner → List Owner
tail_of [] = []
tail_of (o ∷ os) = os

left_by : (a b : Bool) (o : OwnedLog) (x : Exec) (os : List OwnedLog) (xs : List Exec) → a ≡ b → o.owner ≡ OfExec x.number → map (λ o. o.owner) os ≡ map (λ x. OfExec x.number) xs
    → map (λ o. o.owner) (if not a then o ∷ os else os) ≡ map (λ x. OfExec x.number) (if not b then x ∷ xs else xs)
left_by true true o x os xs e is h = h
left_by false false o x os xs e is h = λ i. is i ∷ h i
left_by true false o x os xs e is h = absurd (cc)
left_by false true o x os xs e is h = absurd (cc)

left : (owned : Owner → Bool) (n : ℕ) (os : List OwnedLog) (xs : List Exec) → map (λ o. o.owner) os ≡ map (λ x. OfExec x.number) xs → AllByRecursion (λ x. owned (OfExec x.number) ≡ (x.container == n)) xs
    → map (λ o. o.owner) (filter (λ o. not (owned o.owner)) os) ≡ map (λ x. OfExec x.number) (filter (λ x. not (x.container == n)) xs)
left owned n [] [] e h = refl
left owned n [] (x ∷ xs) e h = absurd (cc)
left owned n (o ∷ os) [] e h = absurd (cc)
left owned n (o ∷ os) (x ∷ xs) e h =
    let is : o.owner ≡ OfExec x.number = ap head_of e in
    left_by (owned o.owner) (x.container == n) o x (filter (λ o. not (owned o.owner)) os) (filter (λ x. not (x.container == n)) xs) (ap owned is ∙ h.0) is (left owned n os xs (ap tail_of e) h.1)

not_its : (n m : ℕ) → not (m == n) ≡ true → n ≢ m
not_its n m e same = let yes_it_is : (m == n) ≡ true = eq-eqb m n (sym same) in let never : false ≡ true = sym (ap not yes_it_is) ∙ e in absurd (cc)

others_stand : (n : ℕ) (cs : List Container) (xs : List Exec) → AllByRecursion (StandsAmong cs) xs
    → AllByRecursion (StandsAmong (remove_first (λ c. c.number == n) cs)) (filter (λ x. not (x.container == n)) xs)
others_stand n cs xs h =
    all_weaken (λ (x : Exec). StandsAmong cs x × (not (x.container == n) ≡ true)) (StandsAmong (remove_first (λ c. c.number == n) cs))
    (λ x k. ap is_there (other_stands n x.container cs (not_its n x.container k.1)) ∙ k.0) (filter (λ x. not (x.container == n)) xs)
    (all_passing (StandsAmong cs) (λ x. not (x.container == n)) xs h)

gone : (n : ℕ) (s : State) → Execs s
    → ExecsOf (remove_first (λ c. c.number == n) s.containers) (filter (λ x. not (x.container == n)) s.execs) (filter (λ l. not (is_exec_of n s l)) s.outputs) s.next_number
gone n s h =
    let owned : Owner → Bool = λ o. list_any (λ x. same_owner o (OfExec x.number)) (execs_of n s) in (
      others_stand n s.containers s.execs h.0,
      left owned n s.outputs s.execs h.1
          (all_weaken (λ (x : Exec). find (λ (y : Exec). y.number == x.number) s.execs ≡ Some x) (λ x. owned (OfExec x.number) ≡ (x.container == n)) (λ x own. owned_as n s.execs h.2 x own) s.execs (own_exec s.execs h.2)),
      distinct_filtered (λ (x : Exec). x.number) (λ x. not (x.container == n)) s.execs h.2,
      all_filtered (IsBelow s.next_number) (λ x. not (x.container == n)) s.execs h.3,
    )

-- ---- a new exec

more : (s : State) (c : Container) (words : List (List ℕ)) (stdin out err : Bool) → is_there (find (λ d. d.number == c.number) s.containers) ≡ true → Execs s
    → ExecsOf s.containers (s.execs ++ new_exec c words stdin out err s ∷ []) (s.outputs ++ record { owner = OfExec s.next_number; log = [] } ∷ []) (s.next_number + 1)
more s c words stdin out err there h =
    let x : Exec = new_exec c words stdin out err s in
    let o : OwnedLog = record { owner = OfExec s.next_number; log = [] } in (
      all_append (StandsAmong s.containers) s.execs (x ∷ []) h.0 (there, tt),
      map-append (λ (o : OwnedLog). o.owner) s.outputs (o ∷ []) ∙ (ap (λ l. l ++ OfExec s.next_number ∷ []) h.1 ∙ sym (map-append (λ (x : Exec). OfExec x.number) s.execs (x ∷ []))),
      subst AreDistinct (sym (map-append (λ (x : Exec). x.number) s.execs (x ∷ [])))
          (distinct_more (map (λ x. x.number) s.execs) s.next_number h.2
          (all_mapped (λ k. k ≢ s.next_number) (λ (x : Exec). x.number) s.execs (all_weaken (IsBelow s.next_number) (λ x. x.number ≢ s.next_number) (λ x low same. absurd (omega (arith, low, same))) s.execs h.3))),
      all_append (IsBelow (s.next_number + 1)) s.execs (x ∷ []) (all_weaken (IsBelow s.next_number) (IsBelow (s.next_number + 1)) (λ x low. omega (arith, low)) s.execs h.3) (omega arith, tt),
    )

-- ---- every effect

pub execs_closed : IsClosed KeepsExecs
execs_closed = record {
  on_still = λ s h. h;
  on_after = λ s a b first second h. second (first h);
  on_told = λ s v at h. h;
  on_mounts = λ s a c h. h;
  on_ended = λ s d h. h;
  on_renew = λ s n f mark h. renewed n (λ name. name) f s.containers s.execs s.outputs s.next_number h;
  on_log = λ s n stream payload h. renewed n (λ name. name) (logged stream payload s.clock) s.containers s.execs s.outputs s.next_number h;
  on_output = λ s n stream payload h. (
    h.0,
    map_updated (λ (o : OwnedLog). o.owner) (λ o. same_owner o.owner (OfExec n)) (λ o. record o { log = o.log ++ record_of 1 stream payload s.clock ∷ [] }) s.outputs (λ o. refl) ∙ h.1,
    h.2,
    h.3,
  );
  on_process = λ s owner f h. h;
  on_drop = λ s owner h. h;
  on_spawn = λ s owner program stdin room h. h;
  on_timers = λ s timers h. h;
  on_exec = λ s n f mark h. (
    all_updated (StandsAmong s.containers) (λ x. x.number == n) f (λ x stands. subst (λ k. IsTrue (is_there (find (λ c. c.number == k) s.containers))) (sym (mark.container x)) stands) s.execs h.0,
    h.1 ∙ sym (map_updated (λ (x : Exec). OfExec x.number) (λ x. x.number == n) f s.execs (λ x. ap OfExec (mark.number x))),
    subst AreDistinct (sym (map_updated (λ (x : Exec). x.number) (λ x. x.number == n) f s.execs mark.number)) h.2,
    all_updated (IsBelow s.next_number) (λ x. x.number == n) f (λ x low. subst (λ k. k < s.next_number) (sym (mark.number x)) low) s.execs h.3,
  );
  on_destroyed = λ s c found h. gone c.number s h;
  on_begun = λ s connection c asked found h. h;
  on_time_out = λ s c h. h;
  on_end_ticket = λ s n h. h;
  on_made_volume = λ s name labels none h. h;
  on_gone_volume = λ s name unused h. h;
  on_made = λ s name spec free stand h.
      later (s.containers ++ new_container name spec s ∷ []) s.execs s.outputs s.next_number
      (among s.containers (s.containers ++ new_container name spec s ∷ []) s.execs s.outputs s.next_number (λ m there. found_in_more (λ c. c.number == m) s.containers (new_container name spec s ∷ []) there) h);
  on_made_exec = λ s c words stdin out err found h. more s c words stdin out err (ap is_there found) h;
  on_renamed = λ s c name found free h. renewed c.number (λ old. name) (λ l. l) s.containers s.execs s.outputs s.next_number h;
}
