-- Ids, names and numbers stay distinct through every effect.
use Rattle.std.proofs.Common.{◌≡◌, ◌≢◌, ℕ, ◌+◌, ◌^◌, ◌≤◌, ◌<◌, ◌==◌, Bool, true, false, not, List, [], ◌∷◌, ◌++◌, None, filter, map, if◌then◌else◌, refl, ap, sym, ◌∙◌, subst, arith}
use Rattle.std.specs.List.{AllByRecursion}
use Rattle.container_table.specs.Lists.{update_first, remove_first}
use Rattle.engine_text.specs.Id.{id_of}
use Rattle.engine_text.specs.Texts.{same_bytes}
use Rattle.machine_model.specs.State.{State}
use Rattle.machine_model.specs.Chain.{Effect}
use Rattle.machine_model.specs.Names.{holder}
use Rattle.machine_model.specs.Consistency.{AreDistinct, HasNames}
use Rattle.machine_model.specs.Calls.Create.{new_container, new_volume}
use Rattle.machine_model.specs.Calls.ExecCreate.{new_exec}
use Rattle.machine_model.specs.Calls.Rename.{named}
use Rattle.machine_model.specs.Effects.Meet.{logged}
use Rattle.machine_model.proofs.ListLemmas.{all_append, all_front, all_back, all_weaken, all_mapped, all_of_mapped, all_both, all_between, distinct_between, distinct_more, refused_where_none, append_assoc, distinct_front, distinct_back}
use Rattle.machine_model.proofs.VolumeLemmas.{distinct_placed, differs}
use Rattle.machine_model.proofs.IdLemmas.{id_of_below}
use Rattle.machine_model.proofs.Fold.RowLemmas.{made}
use Rattle.machine_model.proofs.ChangeLemmas.{map_updated, all_updated, all_removed, distinct_removed, all_map_removed, all_map_filtered, distinct_filtered, all_filtered}
use Rattle.machine_model.proofs.ClosureLemmas.{IsClosed, IsExecMark}
use Rattle.engine_text.specs.declared.container.Container.{Container}
use Rattle.engine_text.specs.declared.container.Life.{Life}
use Rattle.engine_text.specs.declared.exec.Exec.{Exec}
use Rattle.engine_text.specs.declared.volume.Volume.{Volume}

-- ---- the relation

-- what HasNames says, by the parts of a state
abbrev pub NamesOf : List ℕ → List Container → List Exec → List Volume → ℕ → Type 0
NamesOf seed cs xs vs n =
    AreDistinct (map (λ c. c.id) cs ++ map (λ x. x.id) xs) × AreDistinct (map (λ c. c.name) cs) × AreDistinct (map (λ c. c.number) cs ++ map (λ x. x.number) xs)
    × AreDistinct (map (λ v. v.name) vs) × AllByRecursion (λ k. k < n) (map (λ c. c.number) cs ++ map (λ x. x.number) xs)
    × AllByRecursion (λ c. c.id ≡ id_of seed c.number) cs × AllByRecursion (λ x. x.id ≡ id_of seed x.number) xs

abbrev pub Names : State → Type 0
Names s = NamesOf s.seed s.containers s.execs s.volumes s.next_number

-- numbers only rise, and while they fit, names are kept
abbrev pub KeepsNames : State → Effect → Type 0
KeepsNames s e = (s.next_number ≤ e.state.next_number) × (e.state.next_number < 2 ^ 64 → Names s → Names e.state)

-- ---- lists

apart : {A : Type 0} (xs ys : List A) → AreDistinct (xs ++ ys) → AllByRecursion (λ x. AllByRecursion (λ y. x ≢ y) ys) xs
apart [] ys h = tt
apart (x ∷ xs) ys h = (all_back (λ y. x ≢ y) xs ys h.0, apart xs ys h.1)

joined : {A : Type 0} (xs ys : List A) → AreDistinct xs → AreDistinct ys → AllByRecursion (λ x. AllByRecursion (λ y. x ≢ y) ys) xs → AreDistinct (xs ++ ys)
joined [] ys hx hy h = hy
joined (x ∷ xs) ys hx hy h = (all_append (λ y. x ≢ y) xs ys hx.0 h.0, joined xs ys hx.1 hy h.1)

-- fewer of both
distinct_fewer : {B : Type 0} (f : Container → B) (g : Exec → B) (p : Container → Bool) (q : Exec → Bool) (cs : List Container) (xs : List Exec)
    → AreDistinct (map f cs ++ map g xs) → AreDistinct (map f (remove_first p cs) ++ map g (filter q xs))
distinct_fewer f g p q cs xs h =
    joined (map f (remove_first p cs)) (map g (filter q xs)) (distinct_removed f p cs (distinct_front (map f cs) (map g xs) h))
    (distinct_filtered g q xs (distinct_back (map f cs) (map g xs) h))
    (all_map_removed (λ y. AllByRecursion (λ z. y ≢ z) (map g (filter q xs))) f p cs
    (all_weaken (λ y. AllByRecursion (λ z. y ≢ z) (map g xs)) (λ y. AllByRecursion (λ z. y ≢ z) (map g (filter q xs))) (λ y all. all_map_filtered (λ z. y ≢ z) g q xs all) (map f cs)
    (apart (map f cs) (map g xs) h)))

map_more : {A B : Type 0} (f : A → B) (xs : List A) (x : A) → map f (xs ++ x ∷ []) ≡ map f xs ++ f x ∷ []
map_more f [] x = refl
map_more f (y ∷ xs) x = ap (λ l. f y ∷ l) (map_more f xs x)

-- ---- changes

names_changed : (seed : List ℕ) (cs : List Container) (xs : List Exec) (vs : List Volume) (next n : ℕ) (f : Life → Life) → NamesOf seed cs xs vs next
    → NamesOf seed (update_first (λ c. c.number == n) (made (λ name. name) f) cs) xs vs next
names_changed seed cs xs vs next n f h =
    let p : Container → Bool = λ c. c.number == n in (
      subst (λ l. AreDistinct (l ++ map (λ x. x.id) xs)) (sym (map_updated (λ (c : Container). c.id) p (made (λ name. name) f) cs (λ c. refl))) h.0,
      subst AreDistinct (sym (map_updated (λ (c : Container). c.name) p (made (λ name. name) f) cs (λ c. refl))) h.1,
      subst (λ l. AreDistinct (l ++ map (λ x. x.number) xs)) (sym (map_updated (λ (c : Container). c.number) p (made (λ name. name) f) cs (λ c. refl))) h.2,
      h.3,
      subst (λ l. AllByRecursion (λ k. k < next) (l ++ map (λ x. x.number) xs)) (sym (map_updated (λ (c : Container). c.number) p (made (λ name. name) f) cs (λ c. refl))) h.4,
      all_updated (λ c. c.id ≡ id_of seed c.number) p (made (λ name. name) f) (λ c e. e) cs h.5,
      h.6,
    )

other_by : (b : Bool) (name other : List ℕ) (c : Container) (cs new : List Container) → other ≢ name → AllByRecursion (λ m. other ≢ m) (map (λ c. c.name) (c ∷ cs))
    → AllByRecursion (λ m. other ≢ m) (map (λ c. c.name) new) → AllByRecursion (λ m. other ≢ m) (map (λ c. c.name) (if b then named name c ∷ cs else c ∷ new))
other_by true name other c cs new free h more = (free, h.1)
other_by false name other c cs new free h more = (h.0, more)

other_names : (p : Container → Bool) (name other : List ℕ) (cs : List Container) → other ≢ name → AllByRecursion (λ m. other ≢ m) (map (λ c. c.name) cs)
    → AllByRecursion (λ m. other ≢ m) (map (λ c. c.name) (update_first p (named name) cs))
other_names p name other [] free h = tt
other_names p name other (c ∷ cs) free h = other_by (p c) name other c cs (update_first p (named name) cs) free h (other_names p name other cs free h.1)

renamed_by : (b : Bool) (p : Container → Bool) (name : List ℕ) (c : Container) (cs : List Container) → AllByRecursion (λ m. m ≢ name) (map (λ c. c.name) (c ∷ cs)) → AreDistinct (map (λ c. c.name) (c ∷ cs))
    → AreDistinct (map (λ c. c.name) (update_first p (named name) cs)) → AreDistinct (map (λ c. c.name) (if b then named name c ∷ cs else c ∷ update_first p (named name) cs))
renamed_by true p name c cs free h more = (all_weaken (λ m. m ≢ name) (λ m. name ≢ m) (λ m differs same. differs (sym same)) (map (λ c. c.name) cs) free.1, h.1)
renamed_by false p name c cs free h more = (other_names p name c.name cs free.0 h.0, more)

distinct_renamed : (p : Container → Bool) (name : List ℕ) (cs : List Container) → AllByRecursion (λ m. m ≢ name) (map (λ c. c.name) cs) → AreDistinct (map (λ c. c.name) cs)
    → AreDistinct (map (λ c. c.name) (update_first p (named name) cs))
distinct_renamed p name [] free h = tt
distinct_renamed p name (c ∷ cs) free h = renamed_by (p c) p name c cs free h (distinct_renamed p name cs free.1 h.1)

free_name : (name : List ℕ) (cs : List Container) → holder name cs ≡ None → AllByRecursion (λ m. m ≢ name) (map (λ c. c.name) cs)
free_name name cs e =
    all_mapped (λ m. m ≢ name) (λ (c : Container). c.name) cs
    (all_weaken (λ c. same_bytes c.name name ≡ false) (λ c. c.name ≢ name) (λ c no_other. differs c.name name no_other) cs (refused_where_none (λ c. same_bytes c.name name) cs e))

names_renamed : (seed : List ℕ) (cs : List Container) (xs : List Exec) (vs : List Volume) (next n : ℕ) (name : List ℕ) → holder name cs ≡ None → NamesOf seed cs xs vs next
    → NamesOf seed (update_first (λ c. c.number == n) (named name) cs) xs vs next
names_renamed seed cs xs vs next n name free h =
    let p : Container → Bool = λ c. c.number == n in (
      subst (λ l. AreDistinct (l ++ map (λ x. x.id) xs)) (sym (map_updated (λ (c : Container). c.id) p (named name) cs (λ c. refl))) h.0,
      distinct_renamed p name cs (free_name name cs free) h.1,
      subst (λ l. AreDistinct (l ++ map (λ x. x.number) xs)) (sym (map_updated (λ (c : Container). c.number) p (named name) cs (λ c. refl))) h.2,
      h.3,
      subst (λ l. AllByRecursion (λ k. k < next) (l ++ map (λ x. x.number) xs)) (sym (map_updated (λ (c : Container). c.number) p (named name) cs (λ c. refl))) h.4,
      all_updated (λ c. c.id ≡ id_of seed c.number) p (named name) (λ c e. e) cs h.5,
      h.6,
    )

names_exec : (seed : List ℕ) (cs : List Container) (xs : List Exec) (vs : List Volume) (next n : ℕ) (f : Exec → Exec) → IsExecMark f → NamesOf seed cs xs vs next
    → NamesOf seed cs (update_first (λ x. x.number == n) f xs) vs next
names_exec seed cs xs vs next n f mark h =
    let p : Exec → Bool = λ x. x.number == n in (
      subst (λ l. AreDistinct (map (λ c. c.id) cs ++ l)) (sym (map_updated (λ (x : Exec). x.id) p f xs mark.id)) h.0,
      h.1,
      subst (λ l. AreDistinct (map (λ c. c.number) cs ++ l)) (sym (map_updated (λ (x : Exec). x.number) p f xs mark.number)) h.2,
      h.3,
      subst (λ l. AllByRecursion (λ k. k < next) (map (λ c. c.number) cs ++ l)) (sym (map_updated (λ (x : Exec). x.number) p f xs mark.number)) h.4,
      h.5,
      all_updated (λ x. x.id ≡ id_of seed x.number) p f (λ x e. mark.id x ∙ (e ∙ ap (id_of seed) (sym (mark.number x)))) xs h.6,
    )

names_fewer : (seed : List ℕ) (cs : List Container) (xs : List Exec) (vs : List Volume) (next : ℕ) (p : Container → Bool) (q : Exec → Bool) → NamesOf seed cs xs vs next
    → NamesOf seed (remove_first p cs) (filter q xs) vs next
names_fewer seed cs xs vs next p q h = (
  distinct_fewer (λ c. c.id) (λ x. x.id) p q cs xs h.0,
  distinct_removed (λ (c : Container). c.name) p cs h.1,
  distinct_fewer (λ c. c.number) (λ x. x.number) p q cs xs h.2,
  h.3,
  all_append (λ k. k < next) (map (λ c. c.number) (remove_first p cs)) (map (λ x. x.number) (filter q xs))
      (all_map_removed (λ k. k < next) (λ c. c.number) p cs (all_front (λ k. k < next) (map (λ c. c.number) cs) (map (λ x. x.number) xs) h.4))
      (all_map_filtered (λ k. k < next) (λ x. x.number) q xs (all_back (λ k. k < next) (map (λ c. c.number) cs) (map (λ x. x.number) xs) h.4)),
  all_removed (λ c. c.id ≡ id_of seed c.number) p cs h.5,
  all_filtered (λ x. x.id ≡ id_of seed x.number) q xs h.6,
)

-- ---- a new number

other_ids : (seed : List ℕ) (cs : List Container) (xs : List Exec) (vs : List Volume) (next : ℕ) → next < 2 ^ 64 → NamesOf seed cs xs vs next
    → AllByRecursion (λ i. i ≢ id_of seed next) (map (λ c. c.id) cs ++ map (λ x. x.id) xs)
other_ids seed cs xs vs next most h =
    all_append (λ i. i ≢ id_of seed next) (map (λ c. c.id) cs) (map (λ x. x.id) xs)
    (all_mapped (λ i. i ≢ id_of seed next) (λ (c : Container). c.id) cs
    (all_both (λ c. c.number < next) (λ c. c.id ≡ id_of seed c.number) (λ c. c.id ≢ id_of seed next) (λ c low is. id_of_below seed c.number next c.id low most is) cs
    (all_of_mapped (λ k. k < next) (λ (c : Container). c.number) cs (all_front (λ k. k < next) (map (λ c. c.number) cs) (map (λ x. x.number) xs) h.4)) h.5))
    (all_mapped (λ i. i ≢ id_of seed next) (λ (x : Exec). x.id) xs
    (all_both (λ x. x.number < next) (λ x. x.id ≡ id_of seed x.number) (λ x. x.id ≢ id_of seed next) (λ x low is. id_of_below seed x.number next x.id low most is) xs
    (all_of_mapped (λ k. k < next) (λ (x : Exec). x.number) xs (all_back (λ k. k < next) (map (λ c. c.number) cs) (map (λ x. x.number) xs) h.4)) h.6))

other_numbers : (ns : List ℕ) (next : ℕ) → AllByRecursion (λ k. k < next) ns → AllByRecursion (λ k. k ≢ next) ns
other_numbers ns next h = all_weaken (λ k. k < next) (λ k. k ≢ next) (λ k low e. omega (arith, low, e)) ns h

names_made : (seed : List ℕ) (cs : List Container) (xs : List Exec) (vs : List Volume) (next : ℕ) (c : Container) → next < 2 ^ 64 → c.number ≡ next → c.id ≡ id_of seed next → holder c.name cs ≡ None
    → NamesOf seed cs xs vs next → NamesOf seed (cs ++ c ∷ []) xs vs (next + 1)
names_made seed cs xs vs next c most number id free h =
    let other_id : AllByRecursion (λ i. i ≢ c.id) (map (λ c. c.id) cs ++ map (λ x. x.id) xs) =
    subst (λ j. AllByRecursion (λ i. i ≢ j) (map (λ c. c.id) cs ++ map (λ x. x.id) xs)) (sym id) (other_ids seed cs xs vs next most h) in
    let other_number : AllByRecursion (λ k. k ≢ c.number) (map (λ c. c.number) cs ++ map (λ x. x.number) xs) =
    subst (λ j. AllByRecursion (λ k. k ≢ j) (map (λ c. c.number) cs ++ map (λ x. x.number) xs)) (sym number) (other_numbers (map (λ c. c.number) cs ++ map (λ x. x.number) xs) next h.4) in (
      subst (λ l. AreDistinct (l ++ map (λ x. x.id) xs)) (sym (map_more (λ (c : Container). c.id) cs c)) (distinct_between (map (λ c. c.id) cs) (map (λ x. x.id) xs) c.id h.0 other_id),
      subst AreDistinct (sym (map_more (λ (c : Container). c.name) cs c)) (distinct_more (map (λ c. c.name) cs) c.name h.1 (free_name c.name cs free)),
      subst (λ l. AreDistinct (l ++ map (λ x. x.number) xs)) (sym (map_more (λ (c : Container). c.number) cs c)) (distinct_between (map (λ c. c.number) cs) (map (λ x. x.number) xs) c.number h.2 other_number),
      h.3,
      subst (λ l. AllByRecursion (λ k. k < next + 1) (l ++ map (λ x. x.number) xs)) (sym (map_more (λ (c : Container). c.number) cs c))
          (all_between (λ k. k < next + 1) (map (λ c. c.number) cs) (map (λ x. x.number) xs) c.number
          (all_weaken (λ k. k < next) (λ k. k < next + 1) (λ k low. omega (arith, low)) (map (λ c. c.number) cs ++ map (λ x. x.number) xs) h.4) (omega (arith, number))),
      all_append (λ c. c.id ≡ id_of seed c.number) cs (c ∷ []) h.5 (id ∙ ap (id_of seed) (sym number), tt),
      h.6,
    )

names_made_exec : (seed : List ℕ) (cs : List Container) (xs : List Exec) (vs : List Volume) (next : ℕ) (x : Exec) → next < 2 ^ 64 → x.number ≡ next → x.id ≡ id_of seed next
    → NamesOf seed cs xs vs next → NamesOf seed cs (xs ++ x ∷ []) vs (next + 1)
names_made_exec seed cs xs vs next x most number id h =
    let ids : List (List ℕ) = map (λ c. c.id) cs ++ map (λ x. x.id) xs in
    let ns : List ℕ = map (λ c. c.number) cs ++ map (λ x. x.number) xs in
    let more_ids : ids ++ x.id ∷ [] ≡ map (λ c. c.id) cs ++ map (λ x. x.id) (xs ++ x ∷ []) =
    append_assoc (map (λ c. c.id) cs) (map (λ x. x.id) xs) (x.id ∷ []) ∙ ap (λ l. map (λ c. c.id) cs ++ l) (sym (map_more (λ (x : Exec). x.id) xs x)) in
    let more_ns : ns ++ x.number ∷ [] ≡ map (λ c. c.number) cs ++ map (λ x. x.number) (xs ++ x ∷ []) =
    append_assoc (map (λ c. c.number) cs) (map (λ x. x.number) xs) (x.number ∷ []) ∙ ap (λ l. map (λ c. c.number) cs ++ l) (sym (map_more (λ (x : Exec). x.number) xs x)) in (
      subst AreDistinct more_ids (distinct_more ids x.id h.0 (subst (λ j. AllByRecursion (λ i. i ≢ j) ids) (sym id) (other_ids seed cs xs vs next most h))),
      h.1,
      subst AreDistinct more_ns (distinct_more ns x.number h.2 (subst (λ j. AllByRecursion (λ k. k ≢ j) ns) (sym number) (other_numbers ns next h.4))),
      h.3,
      subst (AllByRecursion (λ k. k < next + 1)) more_ns
          (all_append (λ k. k < next + 1) ns (x.number ∷ []) (all_weaken (λ k. k < next) (λ k. k < next + 1) (λ k low. omega (arith, low)) ns h.4) (omega (arith, number), tt)),
      h.5,
      all_append (λ x. x.id ≡ id_of seed x.number) xs (x ∷ []) h.6 (id ∙ ap (id_of seed) (sym number), tt),
    )

-- ---- every effect

same : (s : State) → (s.next_number ≤ s.next_number) × (s.next_number < 2 ^ 64 → Names s → Names s)
same s = (omega arith, λ most h. h)

pub names_closed : IsClosed KeepsNames
names_closed = record {
  on_still = λ s. same s;
  on_after = λ s a b first second. (omega (arith, first.0, second.0), λ most h. second.1 most (first.1 (omega (arith, most, second.0)) h));
  on_told = λ s v at. same s;
  on_mounts = λ s a c. same s;
  on_ended = λ s d. same s;
  on_renew = λ s n f mark. (omega arith, λ most h. names_changed s.seed s.containers s.execs s.volumes s.next_number n f h);
  on_log = λ s n stream payload. (omega arith, λ most h. names_changed s.seed s.containers s.execs s.volumes s.next_number n (logged stream payload s.clock) h);
  on_output = λ s n stream payload. same s;
  on_process = λ s owner f. same s;
  on_drop = λ s owner. same s;
  on_spawn = λ s owner program stdin room. same s;
  on_timers = λ s timers. same s;
  on_exec = λ s n f mark. (omega arith, λ most h. names_exec s.seed s.containers s.execs s.volumes s.next_number n f mark h);
  on_destroyed = λ s c found.
      (omega arith, λ most h. names_fewer s.seed s.containers s.execs s.volumes s.next_number (λ d. d.number == c.number) (λ x. not (x.container == c.number)) h);
  on_begun = λ s connection c asked found. same s;
  on_time_out = λ s c. same s;
  on_end_ticket = λ s n. same s;
  on_made_volume = λ s name labels none. (
    omega arith,
    λ most h. (
      h.0,
      h.1,
      h.2,
      distinct_placed (new_volume name labels s.clock) s.volumes
          (all_weaken (λ v. same_bytes v.name name ≡ false) (λ (v : Volume). name ≢ v.name) (λ v other is. differs v.name name other (sym is)) s.volumes (refused_where_none (λ (v : Volume). same_bytes v.name name) s.volumes none)) h.3,
      h.4,
      h.5,
      h.6,
    ),
  );
  on_gone_volume = λ s name unused. (omega arith, λ most h. (h.0, h.1, h.2, distinct_removed (λ (v : Volume). v.name) (λ v. same_bytes v.name name) s.volumes h.3, h.4, h.5, h.6));
  on_made = λ s name spec free stand.
      (omega arith, λ most h. names_made s.seed s.containers s.execs s.volumes s.next_number (new_container name spec s) (omega (arith, most)) refl refl free h);
  on_made_exec = λ s c words stdin out err found.
      (omega arith, λ most h. names_made_exec s.seed s.containers s.execs s.volumes s.next_number (new_exec c words stdin out err s) (omega (arith, most)) refl refl h);
  on_renamed = λ s c name found free. (omega arith, λ most h. names_renamed s.seed s.containers s.execs s.volumes s.next_number c.number name free h);
}

-- ---- as HasNames

pub names_of : (s : State) → HasNames s → Names s
names_of s h = (h.ids, h.names, h.numbers, h.volumes, h.below, h.container_ids, h.exec_ids)

pub has_names : (s : State) → Names s → HasNames s
has_names s h = record { ids = h.0; names = h.1; numbers = h.2; volumes = h.3; below = h.4; container_ids = h.5; exec_ids = h.6 }
