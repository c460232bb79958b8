-- A removal keeps the logs of the container and of its execs as they are, and those of all others.
use Rattle.std.specs.Prelude.{is_some, option_map}
use Rattle.std.specs.Option.{option_or}
use Rattle.std.proofs.Common.{◌≡◌, ℕ, zero, suc, ◌-◌, ◌≤◌, ◌<◌, ◌==◌, Bool, true, false, not, List, [], ◌∷◌, ◌++◌, Option, Some, None, find, filter, map, drop, length, if◌then◌else◌, refl, ap, sym, ◌∙◌, subst, arith, ◌⊎◌, inl, inr}
use Rattle.std.proofs.lemmas.Bool.{eqb-true, eq-eqb}
use Rattle.std.specs.List.{AllByRecursion, flat_map, list_any}
use Rattle.container_table.specs.Lists.{remove_first}
use Rattle.engine_text.specs.Owner.{same_owner}
use Rattle.machine_model.specs.State.{State, owner_number, container_numbered, execs_of}
use Rattle.machine_model.specs.Consistency.{AreDistinct}
use Rattle.machine_model.specs.Effects.Destroy.{is_exec_of, logs_of, without}
use Rattle.machine_model.specs.LogStream.{log_among, standing_log, log_found}
use Rattle.machine_model.proofs.ListLemmas.{append_nil, all_append, append_assoc}
use Rattle.machine_model.proofs.ChangeLemmas.{all_removed, distinct_removed}
use Rattle.machine_model.proofs.OwnerLemmas.{owner_is}
use Rattle.machine_model.proofs.Tables.NumberLemmas.{other_stands, itself_gone}
use Rattle.machine_model.proofs.Logs.GrowthLemmas.{Grows, KeptOnce, Lacks, Later, Owns, among, among_append, later_refl, no_logs}
use Rattle.engine_text.specs.declared.container.Container.{Container}
use Rattle.engine_text.specs.declared.exec.Exec.{Exec}
use Rattle.engine_text.specs.declared.log.KeptLogs.{KeptLogs}
use Rattle.engine_text.specs.declared.log.LogRecord.{LogRecord}
use Rattle.engine_text.specs.declared.log.OwnedLog.{OwnedLog}
use Rattle.engine_text.specs.declared.owner.Owner.{Owner}
use Rattle.engine_text.specs.declared.owner.Owner.TheVariants.{Container as OfContainer, Exec as OfExec}

-- ---- a removal

-- the log goes over to those that are kept, or stays
abbrev Moves : Option (List LogRecord) → Option (List LogRecord) → Option (List LogRecord) → Type 0
Moves x y kept = ((y ≡ None) × (kept ≡ x)) ⊎ ((y ≡ x) × (kept ≡ None))

all_drop : {A : Type 0} (P : A → Type 0) (j : ℕ) (xs : List A) → AllByRecursion P xs → AllByRecursion P (drop j xs)
all_drop P zero xs h = h
all_drop P (suc j) [] h = tt
all_drop P (suc j) (x ∷ xs) h = all_drop P j xs h.1

once_drop : (o : Owner) (j : ℕ) (ks : List KeptLogs) → KeptOnce o ks → KeptOnce o (drop j ks)
once_drop o zero ks h = h
once_drop o (suc j) [] h = tt
once_drop o (suc j) (k ∷ ks) h = once_drop o j ks h.1

more_lacks : (o : Owner) (ks : List KeptLogs) (k : KeptLogs) → AllByRecursion (Lacks o) ks → (log_among o k.logs ≡ None) → AllByRecursion (Lacks o) (ks ++ k ∷ [])
more_lacks o ks k h e = all_append (Lacks o) ks (k ∷ []) h (e, tt)

-- one removal more, of which the owner's log is none's before
once_by : (o : Owner) (x k : KeptLogs) (ks : List KeptLogs) → (log_among o x.logs ≡ None) ⊎ AllByRecursion (Lacks o) ks → (AllByRecursion (Lacks o) (x ∷ ks)) ⊎ (log_among o k.logs ≡ None)
    → (log_among o x.logs ≡ None) ⊎ AllByRecursion (Lacks o) (ks ++ k ∷ [])
once_by o x k ks (inl e) h = inl e
once_by o x k ks (inr all) (inl none) = inl none.0
once_by o x k ks (inr all) (inr e) = inr (more_lacks o ks k all e)

rest_of : (o : Owner) (x k : KeptLogs) (ks : List KeptLogs) → (AllByRecursion (Lacks o) (x ∷ ks)) ⊎ (log_among o k.logs ≡ None) → (AllByRecursion (Lacks o) ks) ⊎ (log_among o k.logs ≡ None)
rest_of o x k ks (inl all) = inl all.1
rest_of o x k ks (inr e) = inr e

once_more : (o : Owner) (ks : List KeptLogs) (k : KeptLogs) → KeptOnce o ks → (AllByRecursion (Lacks o) ks) ⊎ (log_among o k.logs ≡ None) → KeptOnce o (ks ++ k ∷ [])
once_more o [] k once h = (inr tt, tt)
once_more o (x ∷ ks) k once h = (once_by o x k ks once.0 h, once_more o ks k once.1 (rest_of o x k ks h))

-- what is dropped
among_drop : (o : Owner) (j : ℕ) (ks : List KeptLogs) → KeptOnce o ks → (among o (drop j ks) ≡ None) ⊎ (among o (drop j ks) ≡ among o ks)
among_drop o zero ks once = inr refl
among_drop o (suc j) [] once = inr refl
among_drop o (suc j) (k ∷ ks) once = dropped (among_drop o j ks once.1) once.0
  where
    dropped : (among o (drop j ks) ≡ None) ⊎ (among o (drop j ks) ≡ among o ks) → (log_among o k.logs ≡ None) ⊎ AllByRecursion (Lacks o) ks
        → (among o (drop j ks) ≡ None) ⊎ (among o (drop j ks) ≡ among o (k ∷ ks))
    dropped (inl e) h = inl e
    dropped (inr e) (inl none) = inr (e ∙ sym (among_append o k.logs (flat_map (λ k. k.logs) ks) ∙ ap (λ x. option_or x (among o ks)) none))
    dropped (inr e) (inr all) = inl (e ∙ no_logs o ks all)

flat_append : (ks : List KeptLogs) (k : KeptLogs) → flat_map (λ k. k.logs) (ks ++ k ∷ []) ≡ flat_map (λ k. k.logs) ks ++ k.logs
flat_append [] k = append_nil k.logs
flat_append (x ∷ ks) k = ap (λ l. x.logs ++ l) (flat_append ks k) ∙ sym (append_assoc x.logs (flat_map (λ k. k.logs) ks) k.logs)

or_none : (x : Option (List LogRecord)) → option_or x None ≡ x
or_none None = refl
or_none (Some l) = refl

among_more : (o : Owner) (ks : List KeptLogs) (k : KeptLogs) → among o (ks ++ k ∷ []) ≡ option_or (among o ks) (log_among o k.logs)
among_more o ks k = ap (log_among o) (flat_append ks k) ∙ among_append o (flat_map (λ k. k.logs) ks) k.logs

has_by : (x : Option (List LogRecord)) → (x ≡ None) ⊎ (is_some x ≡ true)
has_by None = inl refl
has_by (Some l) = inr refl

owns_moved : (o : Owner) (x y : Option (List LogRecord)) (ks : List KeptLogs) (k : KeptLogs) (next j : ℕ) → Moves x y (log_among o k.logs) → Owns o x ks next → Owns o y (drop j (ks ++ k ∷ [])) next
owns_moved o x y ks k next j (inl e) h = (
  λ low. let none = h.0 low in (e.0, all_drop (Lacks o) j (ks ++ k ∷ []) (more_lacks o ks k none.1 (e.1 ∙ none.0))),
  λ is. let never : false ≡ true = sym (ap is_some e.0) ∙ is in absurd (cc),
  once_drop o j (ks ++ k ∷ []) (once_more o ks k h.2 (of_it (has_by x))),
)
  where
    of_it : (x ≡ None) ⊎ (is_some x ≡ true) → (AllByRecursion (Lacks o) ks) ⊎ (log_among o k.logs ≡ None)
    of_it (inl none) = inr (e.1 ∙ none)
    of_it (inr is) = inl (h.1 is)
owns_moved o x y ks k next j (inr e) h = (
  λ low. let none = h.0 low in (e.0 ∙ none.0, all_drop (Lacks o) j (ks ++ k ∷ []) (more_lacks o ks k none.1 e.1)),
  λ is. all_drop (Lacks o) j (ks ++ k ∷ []) (more_lacks o ks k (h.1 (sym (ap is_some e.0) ∙ is)) e.1),
  once_drop o j (ks ++ k ∷ []) (once_more o ks k h.2 (inr e.1)),
)

later_or_none : (low : Type 0) (x y : Option (List LogRecord)) → (y ≡ None) ⊎ (y ≡ x) → Later low x y
later_or_none low x y (inl e) = subst (Later low x) (sym e) (to_none x)
  where
    to_none : (x : Option (List LogRecord)) → Later low x None
    to_none None = tt
    to_none (Some l) = tt
later_or_none low x y (inr e) = subst (Later low x) (sym e) (later_refl low x)

-- the same log, or none
found_moved : (o : Owner) (x y : Option (List LogRecord)) (ks : List KeptLogs) (k : KeptLogs) (next j : ℕ) → Moves x y (log_among o k.logs) → Owns o x ks next
    → (option_or y (among o (drop j (ks ++ k ∷ []))) ≡ None) ⊎ (option_or y (among o (drop j (ks ++ k ∷ []))) ≡ option_or x (among o ks))
found_moved o x y ks k next j moves h =
    by_drop moves (has_by x) (among_drop o j (ks ++ k ∷ []) (once_more o ks k h.2 (of_it moves (has_by x))))
  where
    of_it : Moves x y (log_among o k.logs) → (x ≡ None) ⊎ (is_some x ≡ true) → (AllByRecursion (Lacks o) ks) ⊎ (log_among o k.logs ≡ None)
    of_it (inr e) has = inr e.1
    of_it (inl e) (inl none) = inr (e.1 ∙ none)
    of_it (inl e) (inr is) = inl (h.1 is)

    -- all that is kept afterwards, before anything is dropped
    whole : Moves x y (log_among o k.logs) → (x ≡ None) ⊎ (is_some x ≡ true) → option_or y (among o (ks ++ k ∷ [])) ≡ option_or x (among o ks)
    whole (inr e) has = ap (λ w. option_or w (among o (ks ++ k ∷ []))) e.0 ∙ ap (option_or x) (among_more o ks k ∙ (ap (option_or (among o ks)) e.1 ∙ or_none (among o ks)))
    whole (inl e) (inl none) =
        ap (λ w. option_or w (among o (ks ++ k ∷ []))) (e.0 ∙ sym none) ∙ ap (option_or x) (among_more o ks k ∙ (ap (option_or (among o ks)) (e.1 ∙ none) ∙ or_none (among o ks)))
    whole (inl e) (inr is) =
        let lack : among o ks ≡ None = no_logs o ks (h.1 is) in
        ap (λ w. option_or w (among o (ks ++ k ∷ []))) e.0 ∙ (among_more o ks k ∙ (ap (λ w. option_or w (log_among o k.logs)) lack ∙ (e.1 ∙ (sym (or_none x) ∙ ap (option_or x) (sym lack)))))

    stays : Moves x y (log_among o k.logs) → (x ≡ None) ⊎ (is_some x ≡ true) → among o (drop j (ks ++ k ∷ [])) ≡ None
        → (option_or y (among o (drop j (ks ++ k ∷ []))) ≡ None) ⊎ (option_or y (among o (drop j (ks ++ k ∷ []))) ≡ option_or x (among o ks))
    stays (inl e) has gone = inl (ap (option_or y) gone ∙ (or_none y ∙ e.0))
    stays (inr e) (inl none) gone = inl (ap (option_or y) gone ∙ (or_none y ∙ (e.0 ∙ none)))
    stays (inr e) (inr is) gone = inr (ap (option_or y) gone ∙ (or_none y ∙ (e.0 ∙ (sym (or_none x) ∙ ap (option_or x) (sym (no_logs o ks (h.1 is)))))))

    by_drop : Moves x y (log_among o k.logs) → (x ≡ None) ⊎ (is_some x ≡ true) → (among o (drop j (ks ++ k ∷ [])) ≡ None) ⊎ (among o (drop j (ks ++ k ∷ [])) ≡ among o (ks ++ k ∷ []))
        → (option_or y (among o (drop j (ks ++ k ∷ []))) ≡ None) ⊎ (option_or y (among o (drop j (ks ++ k ∷ []))) ≡ option_or x (among o ks))
    by_drop moves has (inl gone) = stays moves has gone
    by_drop moves has (inr same) = inr (ap (option_or y) same ∙ whole moves has)

-- ---- the removal of a container

filter_cons : {A : Type 0} (p q : A → Bool) (pb qb : Bool) (x : A) (xs : List A) → q x ≡ qb → p x ≡ pb → (p x ≡ true → q x ≡ true) → find p (filter q xs) ≡ find p xs
    → find p (if qb then x ∷ filter q xs else filter q xs) ≡ (if pb then Some x else find p xs)
filter_cons p q true true x xs eq ep k more = ap (λ b. if b then Some x else find p (filter q xs)) ep
filter_cons p q false true x xs eq ep k more = ap (λ b. if b then Some x else find p (filter q xs)) ep ∙ more
filter_cons p q true false x xs eq ep k more = let t : q x ≡ true = k ep in let never : false ≡ true = sym eq ∙ t in absurd (cc)
filter_cons p q false false x xs eq ep k more = more

-- those that it finds are kept
find_filtered : {A : Type 0} (p q : A → Bool) (xs : List A) → ((x : A) → p x ≡ true → q x ≡ true) → find p (filter q xs) ≡ find p xs
find_filtered p q [] k = refl
find_filtered p q (x ∷ xs) k = filter_cons p q (p x) (q x) x xs refl refl (k x) (find_filtered p q xs k)

gone_cons : {A : Type 0} (p q : A → Bool) (qb : Bool) (x : A) (xs : List A) → q x ≡ qb → (p x ≡ true → q x ≡ false) → find p (filter q xs) ≡ None
    → find p (if qb then x ∷ filter q xs else filter q xs) ≡ None
gone_cons p q true x xs eq k more = refused (p x) refl
  where
    refused : (b : Bool) → p x ≡ b → find p (x ∷ filter q xs) ≡ None
    refused true e = let f : q x ≡ false = k e in let never : true ≡ false = sym eq ∙ f in absurd (cc)
    refused false e = ap (λ b. if b then Some x else find p (filter q xs)) e ∙ more
gone_cons p q false x xs eq k more = more

-- those that it finds are not
find_gone : {A : Type 0} (p q : A → Bool) (xs : List A) → ((x : A) → p x ≡ true → q x ≡ false) → find p (filter q xs) ≡ None
find_gone p q [] k = refl
find_gone p q (x ∷ xs) k = gone_cons p q (q x) x xs refl (k x) (find_gone p q xs k)

-- no output is a container's among those of execs
any_container : (m : ℕ) (xs : List Exec) → list_any (λ x. same_owner (OfContainer m) (OfExec x.number)) xs ≡ false
any_container m [] = refl
any_container m (x ∷ xs) = any_container m xs

not_exec : (n m : ℕ) (s : State) (l : OwnedLog) → same_owner l.owner (OfContainer m) ≡ true → is_exec_of n s l ≡ false
not_exec n m s l e =
    subst (λ o. list_any (λ x. same_owner o (OfExec x.number)) (execs_of n s) ≡ false) (sym (owner_is l.owner (OfContainer m) e)) (any_container m (execs_of n s))

moved_container : (b : Bool) (c : Container) (s : State) (m : ℕ) → (c.number == m) ≡ b → container_numbered c.number s ≡ Some c → AreDistinct (map (λ c. c.number) s.containers)
    → Moves (standing_log (OfContainer m) s) (standing_log (OfContainer m) (without c s))
    (option_map (λ (l : OwnedLog). l.log) (if b then Some (record { owner = OfContainer c.number; log = c.life.log }) else find (λ l. same_owner l.owner (OfContainer m)) (filter (is_exec_of c.number s) s.outputs)))
moved_container true c s m e found distinct =
    let is : c.number ≡ m = eqb-true c.number m e in
    inl (
      ap (option_map (λ (c : Container). c.life.log)) (subst (λ k. find (λ d. d.number == k) (remove_first (λ d. d.number == c.number) s.containers) ≡ None) is (itself_gone c.number s.containers distinct)),
      sym (ap (option_map (λ (c : Container). c.life.log)) (subst (λ k. container_numbered k s ≡ Some c) is found)),
    )
moved_container false c s m e found distinct =
    inr (
      ap (option_map (λ (c : Container). c.life.log)) (other_stands c.number m s.containers (λ same. let t : (c.number == m) ≡ true = eq-eqb c.number m same in let never : false ≡ true = sym e ∙ t in absurd (cc))),
      ap (option_map (λ (l : OwnedLog). l.log)) (find_gone (λ l. same_owner l.owner (OfContainer m)) (is_exec_of c.number s) s.outputs (λ l is. not_exec c.number m s l is)),
    )

exec_is : (n m : ℕ) (s : State) (b : Bool) (l : OwnedLog) → list_any (λ x. same_owner (OfExec m) (OfExec x.number)) (execs_of n s) ≡ b → same_owner l.owner (OfExec m) ≡ true → is_exec_of n s l ≡ b
exec_is n m s b l e is = subst (λ o. list_any (λ x. same_owner o (OfExec x.number)) (execs_of n s) ≡ b) (sym (owner_is l.owner (OfExec m) is)) e

moved_exec : (b : Bool) (c : Container) (s : State) (m : ℕ) → list_any (λ x. same_owner (OfExec m) (OfExec x.number)) (execs_of c.number s) ≡ b
    → Moves (standing_log (OfExec m) s) (standing_log (OfExec m) (without c s)) (log_among (OfExec m) (filter (is_exec_of c.number s) s.outputs))
moved_exec true c s m e =
    inl (
      ap (option_map (λ (l : OwnedLog). l.log)) (find_gone (λ l. same_owner l.owner (OfExec m)) (λ l. not (is_exec_of c.number s l)) s.outputs (λ l is. ap not (exec_is c.number m s true l e is))),
      ap (option_map (λ (l : OwnedLog). l.log)) (find_filtered (λ l. same_owner l.owner (OfExec m)) (is_exec_of c.number s) s.outputs (λ l is. exec_is c.number m s true l e is)),
    )
moved_exec false c s m e =
    inr (
      ap (option_map (λ (l : OwnedLog). l.log)) (find_filtered (λ l. same_owner l.owner (OfExec m)) (λ l. not (is_exec_of c.number s l)) s.outputs (λ l is. ap not (exec_is c.number m s false l e is))),
      ap (option_map (λ (l : OwnedLog). l.log)) (find_gone (λ l. same_owner l.owner (OfExec m)) (is_exec_of c.number s) s.outputs (λ l is. exec_is c.number m s false l e is)),
    )

moved : (o : Owner) (c : Container) (s : State) → container_numbered c.number s ≡ Some c → AreDistinct (map (λ c. c.number) s.containers)
    → Moves (standing_log o s) (standing_log o (without c s)) (log_among o (logs_of c s))
moved (OfContainer m) c s found distinct = moved_container (c.number == m) c s m refl found distinct
moved (OfExec m) c s found distinct = moved_exec (list_any (λ x. same_owner (OfExec m) (OfExec x.number)) (execs_of c.number s)) c s m refl

pub grows_destroyed : (o : Owner) (s : State) (c : Container) → container_numbered c.number s ≡ Some c
    → Grows o s (record { state = without c s; events = []; died = [] })
grows_destroyed o s c found h =
    let k : KeptLogs = record { number = c.number; logs = logs_of c s } in
    let j : ℕ = length (s.kept ++ k ∷ []) - 64 in
    let moves = moved o c s found h.1 in (
      (
        owns_moved o (standing_log o s) (standing_log o (without c s)) s.kept k s.next_number j moves h.0,
        distinct_removed (λ (c : Container). c.number) (λ d. d.number == c.number) s.containers h.1,
        all_removed (λ c. c.number < s.next_number) (λ d. d.number == c.number) s.containers h.2,
      ),
      omega arith,
      later_or_none (s.next_number ≤ owner_number o) (log_found o s) (log_found o (without c s))
          (found_moved o (standing_log o s) (standing_log o (without c s)) s.kept k s.next_number j moves h.0),
    )
