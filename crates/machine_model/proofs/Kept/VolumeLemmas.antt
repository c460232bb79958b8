-- Each mount names a volume that stands and keeps the reference, through every effect.
use Rattle.std.proofs.Common.{◌≡◌, ◌≢◌, ℕ, ◌+◌, ◌<◌, ◌==◌, Bool, true, false, not, List, [], ◌∷◌, ◌++◌, IsTrue, Option, Some, find, filter, map, if◌then◌else◌, refl, ap, sym, ◌∙◌, subst, arith, ◌||◌}
use Rattle.std.proofs.lemmas.Bool.{eqb-true}
use Rattle.std.proofs.lemmas.Grind.{flat_map-append}
use Rattle.std.specs.List.{AllByRecursion, flat_map, list_any}
use Rattle.std.specs.Cmp.Lexicographic.{bytes_decides}
use Rattle.container_table.specs.Lists.{update_first, remove_first}
use Rattle.engine_text.specs.Texts.{same_bytes}
use Rattle.machine_model.specs.State.{State}
use Rattle.machine_model.specs.Chain.{Effect}
use Rattle.machine_model.specs.Consistency.{AreDistinct, is_there, use_of, uses_of}
use Rattle.machine_model.specs.Calls.Create.{new_container, new_volume, placed}
use Rattle.machine_model.specs.Effects.Meet.{logged}
use Rattle.machine_model.proofs.ListLemmas.{append_nil, all_front, all_back, all_of_mapped, all_both, all_append, all_weaken, distinct_more, below_more, more_numbers}
use Rattle.machine_model.proofs.VolumeLemmas.{finds_beside}
use Rattle.machine_model.proofs.Fold.RowLemmas.{made}
use Rattle.machine_model.proofs.ChangeLemmas.{map_updated, all_updated, all_removed, distinct_removed}
use Rattle.machine_model.proofs.ClosureLemmas.{IsClosed}
use Rattle.engine_text.specs.declared.container.Container.{Container}
use Rattle.engine_text.specs.declared.container.Life.{Life}
use Rattle.engine_text.specs.declared.mounts.Mount.{Mount}
use Rattle.engine_text.specs.declared.volume.Volume.{Volume}
use Rattle.engine_text.specs.declared.volume.VolumeUse.{VolumeUse}

-- ---- the relation

-- a container's mounts name volumes among these
abbrev pub MountsIn : List Volume → Container → Type 0
MountsIn vs c = AllByRecursion (λ m. IsTrue (is_there (find (λ v. same_bytes v.name m.volume) vs))) c.life.mounts

-- what HasVolumes says, and what of the numbers a removal and a create need
abbrev pub VolumesOf : List Container → List Volume → List VolumeUse → ℕ → Type 0
VolumesOf cs vs us next =
    AllByRecursion (MountsIn vs) cs × (us ≡ flat_map uses_of cs) × AreDistinct (map (λ c. c.number) cs) × AllByRecursion (λ c. c.number < next) cs

abbrev pub KeepsVolumes : State → Effect → Type 0
KeepsVolumes s e = VolumesOf s.containers s.volumes s.uses s.next_number → VolumesOf e.state.containers e.state.volumes e.state.uses e.state.next_number

-- ---- changes of containers

uses_at : (b : Bool) (g : List ℕ → List ℕ) (f : Life → Life) (c : Container) (cs new : List Container) → (f c.life).mounts ≡ c.life.mounts → flat_map uses_of new ≡ flat_map uses_of cs
    → flat_map uses_of (if b then made g f c ∷ cs else c ∷ new) ≡ flat_map uses_of (c ∷ cs)
uses_at true g f c cs new e more = ap (λ (ms : List Mount). map (λ m. record { volume = m.volume; container = c.number }) ms ++ flat_map uses_of cs) e
uses_at false g f c cs new e more = ap (λ l. uses_of c ++ l) more

uses_changed : (n : ℕ) (g : List ℕ → List ℕ) (f : Life → Life) (cs : List Container) → ((l : Life) → (f l).mounts ≡ l.mounts)
    → flat_map uses_of (update_first (λ c. c.number == n) (made g f) cs) ≡ flat_map uses_of cs
uses_changed n g f [] k = refl
uses_changed n g f (c ∷ cs) k = uses_at (c.number == n) g f c cs (update_first (λ c. c.number == n) (made g f) cs) (k c.life) (uses_changed n g f cs k)

volumes_changed : (cs : List Container) (vs : List Volume) (us : List VolumeUse) (next n : ℕ) (g : List ℕ → List ℕ) (f : Life → Life) → ((l : Life) → (f l).mounts ≡ l.mounts)
    → VolumesOf cs vs us next → VolumesOf (update_first (λ c. c.number == n) (made g f) cs) vs us next
volumes_changed cs vs us next n g f k h = (
  all_updated (MountsIn vs) (λ c. c.number == n) (made g f)
      (λ c stand. subst (AllByRecursion (λ (m : Mount). IsTrue (is_there (find (λ v. same_bytes v.name m.volume) vs)))) (sym (k c.life)) stand) cs h.0,
  h.1 ∙ sym (uses_changed n g f cs k),
  subst AreDistinct (sym (map_updated (λ (c : Container). c.number) (λ c. c.number == n) (made g f) cs (λ c. refl))) h.2,
  all_updated (λ c. c.number < next) (λ c. c.number == n) (made g f) (λ c low. low) cs h.3,
)

-- ---- the removal of a container

filter_append : (p : VolumeUse → Bool) (a b : List VolumeUse) → filter p (a ++ b) ≡ filter p a ++ filter p b
filter_append p [] b = refl
filter_append p (x ∷ a) b = by_head (p x) (filter_append p a b)
  where
    by_head : (t : Bool) → filter p (a ++ b) ≡ filter p a ++ filter p b → (if t then x ∷ filter p (a ++ b) else filter p (a ++ b)) ≡ (if t then x ∷ filter p a else filter p a) ++ filter p b
    by_head true e = ap (λ l. x ∷ l) e
    by_head false e = e

none_left : (n k : ℕ) (ms : List Mount) → (k == n) ≡ true → filter (λ (u : VolumeUse). not (u.container == n)) (map (λ m. record { volume = m.volume; container = k }) ms) ≡ []
none_left n k [] e = refl
none_left n k (m ∷ ms) e =
    ap (λ b. if not b then record { volume = m.volume; container = k } ∷ filter (λ (u : VolumeUse). not (u.container == n)) (map (λ m. record { volume = m.volume; container = k }) ms) else filter (λ (u : VolumeUse). not (u.container == n)) (map (λ m. record { volume = m.volume; container = k }) ms)) e
    ∙ none_left n k ms e

all_left : (n k : ℕ) (ms : List Mount) → (k == n) ≡ false → filter (λ (u : VolumeUse). not (u.container == n)) (map (λ m. record { volume = m.volume; container = k }) ms) ≡ map (λ m. record { volume = m.volume; container = k }) ms
all_left n k [] e = refl
all_left n k (m ∷ ms) e =
    ap (λ b. if not b then record { volume = m.volume; container = k } ∷ filter (λ (u : VolumeUse). not (u.container == n)) (map (λ m. record { volume = m.volume; container = k }) ms) else filter (λ (u : VolumeUse). not (u.container == n)) (map (λ m. record { volume = m.volume; container = k }) ms)) e
    ∙ ap (λ l. record { volume = m.volume; container = k } ∷ l) (all_left n k ms e)

is_other : (b : Bool) (m n : ℕ) → (m == n) ≡ b → n ≢ m → b ≡ false
is_other true m n e other = absurd (other (sym (eqb-true m n e)))
is_other false m n e other = refl

all_stay : (n : ℕ) (cs : List Container) → AllByRecursion (λ k. n ≢ k) (map (λ c. c.number) cs) → filter (λ (u : VolumeUse). not (u.container == n)) (flat_map uses_of cs) ≡ flat_map uses_of cs
all_stay n [] h = refl
all_stay n (c ∷ cs) h =
    let one : filter (λ (u : VolumeUse). not (u.container == n)) (uses_of c) ≡ uses_of c = all_left n c.number c.life.mounts (is_other (c.number == n) c.number n refl h.0) in
    let more : filter (λ (u : VolumeUse). not (u.container == n)) (flat_map uses_of cs) ≡ flat_map uses_of cs = all_stay n cs h.1 in
    filter_append (λ (u : VolumeUse). not (u.container == n)) (uses_of c) (flat_map uses_of cs) ∙ (λ i. one i ++ more i)

left_by : (b : Bool) (n : ℕ) (c : Container) (cs left : List Container) → (c.number == n) ≡ b → AllByRecursion (λ k. c.number ≢ k) (map (λ c. c.number) cs)
    → filter (λ (u : VolumeUse). not (u.container == n)) (flat_map uses_of cs) ≡ flat_map uses_of left
    → filter (λ (u : VolumeUse). not (u.container == n)) (flat_map uses_of (c ∷ cs)) ≡ flat_map uses_of (if b then cs else c ∷ left)
left_by true n c cs left e other more =
    let one : filter (λ (u : VolumeUse). not (u.container == n)) (uses_of c) ≡ [] = none_left n c.number c.life.mounts e in
    let rest : filter (λ (u : VolumeUse). not (u.container == n)) (flat_map uses_of cs) ≡ flat_map uses_of cs =
    all_stay n cs (subst (λ k. AllByRecursion (λ j. k ≢ j) (map (λ c. c.number) cs)) (eqb-true c.number n e) other) in
    filter_append (λ (u : VolumeUse). not (u.container == n)) (uses_of c) (flat_map uses_of cs) ∙ (λ i. one i ++ rest i)
left_by false n c cs left e other more =
    let one : filter (λ (u : VolumeUse). not (u.container == n)) (uses_of c) ≡ uses_of c = all_left n c.number c.life.mounts e in
    filter_append (λ (u : VolumeUse). not (u.container == n)) (uses_of c) (flat_map uses_of cs) ∙ (λ i. one i ++ more i)

uses_left : (n : ℕ) (cs : List Container) → AreDistinct (map (λ c. c.number) cs)
    → filter (λ (u : VolumeUse). not (u.container == n)) (flat_map uses_of cs) ≡ flat_map uses_of (remove_first (λ c. c.number == n) cs)
uses_left n [] h = refl
uses_left n (c ∷ cs) h = left_by (c.number == n) n c cs (remove_first (λ c. c.number == n) cs) refl h.0 (uses_left n cs h.1)

-- ---- volumes

mounts_more : (vs new : List Volume) (cs : List Container) → ((name : List ℕ) → is_there (find (λ v. same_bytes v.name name) vs) ≡ true → is_there (find (λ v. same_bytes v.name name) new) ≡ true)
    → AllByRecursion (MountsIn vs) cs → AllByRecursion (MountsIn new) cs
mounts_more vs new cs k h =
    all_weaken (MountsIn vs) (MountsIn new)
    (λ c stand. all_weaken (λ m. IsTrue (is_there (find (λ v. same_bytes v.name m.volume) vs))) (λ m. IsTrue (is_there (find (λ v. same_bytes v.name m.volume) new))) (λ m there. k m.volume there) c.life.mounts stand) cs h

any_cons : (b c : Bool) → (b || c) ≡ false → (b ≡ false) × (c ≡ false)
any_cons true c e = absurd (cc)
any_cons false c e = (refl, e)

none_passes : {A : Type 0} (p : A → Bool) (xs : List A) → list_any p xs ≡ false → AllByRecursion (λ x. p x ≡ false) xs
none_passes p [] e = tt
none_passes p (x ∷ xs) e = let one = any_cons (p x) (list_any p xs) e in (one.0, none_passes p xs one.1)

unused_in : (name : List ℕ) (cs : List Container) → AllByRecursion (λ u. same_bytes u.volume name ≡ false) (flat_map uses_of cs)
    → AllByRecursion (λ c. AllByRecursion (λ m. same_bytes m.volume name ≡ false) c.life.mounts) cs
unused_in name [] h = tt
unused_in name (c ∷ cs) h = (
  all_of_mapped (λ (u : VolumeUse). same_bytes u.volume name ≡ false) (use_of c) c.life.mounts (all_front (λ (u : VolumeUse). same_bytes u.volume name ≡ false) (uses_of c) (flat_map uses_of cs) h),
  unused_in name cs (all_back (λ (u : VolumeUse). same_bytes u.volume name ≡ false) (uses_of c) (flat_map uses_of cs) h),
)

left_at : (b d : Bool) (name other : List ℕ) (v : Volume) (rest : Option Volume) → same_bytes v.name name ≡ true → same_bytes v.name other ≡ d → same_bytes other name ≡ false
    → is_there (if d then Some v else rest) ≡ true → is_there rest ≡ true
left_at b true name other v rest e f differ h =
    let one : v.name ≡ name = (bytes_decides v.name name).0 e in
    let two : v.name ≡ other = (bytes_decides v.name other).0 f in
    let yes_it_is : same_bytes other name ≡ true = (bytes_decides other name).1 (sym two ∙ one) in
    let never : false ≡ true = sym differ ∙ yes_it_is in
    absurd (cc)
left_at b false name other v rest e f differ h = h

there_past : (b : Bool) (v : Volume) (r t : Option Volume) → (is_there r ≡ true → is_there t ≡ true) → is_there (if b then Some v else r) ≡ true → is_there (if b then Some v else t) ≡ true
there_past true v r t k h = refl
there_past false v r t k h = k h

volume_by : (b : Bool) (name other : List ℕ) (v : Volume) (vs left : List Volume) → same_bytes v.name name ≡ b → same_bytes other name ≡ false
    → (is_there (find (λ w. same_bytes w.name other) vs) ≡ true → is_there (find (λ w. same_bytes w.name other) left) ≡ true)
    → is_there (find (λ w. same_bytes w.name other) (v ∷ vs)) ≡ true → is_there (find (λ w. same_bytes w.name other) (if b then vs else v ∷ left)) ≡ true
volume_by true name other v vs left e differ k h = left_at true (same_bytes v.name other) name other v (find (λ w. same_bytes w.name other) vs) e refl differ h
volume_by false name other v vs left e differ k h = there_past (same_bytes v.name other) v (find (λ w. same_bytes w.name other) vs) (find (λ w. same_bytes w.name other) left) k h

volume_left : (name other : List ℕ) (vs : List Volume) → same_bytes other name ≡ false → is_there (find (λ w. same_bytes w.name other) vs) ≡ true
    → is_there (find (λ w. same_bytes w.name other) (remove_first (λ w. same_bytes w.name name) vs)) ≡ true
volume_left name other [] differ h = h
volume_left name other (v ∷ vs) differ h =
    volume_by (same_bytes v.name name) name other v vs (remove_first (λ w. same_bytes w.name name) vs) refl differ (volume_left name other vs differ) h

gone_mounts : (name : List ℕ) (vs : List Volume) (cs : List Container) → AllByRecursion (λ c. AllByRecursion (λ m. same_bytes m.volume name ≡ false) c.life.mounts) cs → AllByRecursion (MountsIn vs) cs
    → AllByRecursion (MountsIn (remove_first (λ v. same_bytes v.name name) vs)) cs
gone_mounts name vs cs other h =
    all_both (λ (c : Container). AllByRecursion (λ m. same_bytes m.volume name ≡ false) c.life.mounts) (MountsIn vs) (MountsIn (remove_first (λ v. same_bytes v.name name) vs))
    (λ c differ stand.
    all_both (λ (m : Mount). same_bytes m.volume name ≡ false) (λ (m : Mount). IsTrue (is_there (find (λ v. same_bytes v.name m.volume) vs)))
    (λ (m : Mount). IsTrue (is_there (find (λ v. same_bytes v.name m.volume) (remove_first (λ v. same_bytes v.name name) vs)))) (λ m d there. volume_left name m.volume vs d there) c.life.mounts differ stand)
    cs other h

-- ---- a new container

volumes_made : (cs : List Container) (vs : List Volume) (us : List VolumeUse) (next : ℕ) (c : Container) → c.number ≡ next → MountsIn vs c → VolumesOf cs vs us next
    → VolumesOf (cs ++ c ∷ []) vs (us ++ uses_of c) (next + 1)
volumes_made cs vs us next c is stand h = (
  all_append (MountsIn vs) cs (c ∷ []) h.0 (stand, tt),
  ap (λ l. l ++ uses_of c) h.1 ∙ sym (flat_map-append uses_of cs (c ∷ []) ∙ ap (λ l. flat_map uses_of cs ++ l) (append_nil (uses_of c))),
  subst AreDistinct (sym (more_numbers cs c)) (distinct_more (map (λ c. c.number) cs) c.number h.2 (subst (λ n. AllByRecursion (λ k. k ≢ n) (map (λ c. c.number) cs)) (sym is) (below_more next cs h.3))),
  all_append (λ c. c.number < next + 1) cs (c ∷ []) (all_weaken (λ c. c.number < next) (λ c. c.number < next + 1) (λ c low. omega (arith, low)) cs h.3) (omega (arith, is), tt),
)

-- ---- every effect

pub volumes_closed : IsClosed KeepsVolumes
volumes_closed = record {
  on_still = λ s h. h;
  on_after = λ s a b first second h. second (first h);
  on_told = λ s v at h. h;
  on_mounts = λ s a c h. h;
  on_ended = λ s d h. h;
  on_renew = λ s n f mark h. volumes_changed s.containers s.volumes s.uses s.next_number n (λ name. name) f mark.mounts h;
  on_log = λ s n stream payload h. volumes_changed s.containers s.volumes s.uses s.next_number n (λ name. name) (logged stream payload s.clock) (λ l. refl) h;
  on_output = λ s n stream payload h. h;
  on_process = λ s owner f h. h;
  on_drop = λ s owner h. h;
  on_spawn = λ s owner program stdin room h. h;
  on_timers = λ s timers h. h;
  on_exec = λ s n f mark h. h;
  on_destroyed = λ s c found h. (
    all_removed (MountsIn s.volumes) (λ d. d.number == c.number) s.containers h.0,
    ap (filter (λ (u : VolumeUse). not (u.container == c.number))) h.1 ∙ uses_left c.number s.containers h.2,
    distinct_removed (λ (c : Container). c.number) (λ d. d.number == c.number) s.containers h.2,
    all_removed (λ c. c.number < s.next_number) (λ d. d.number == c.number) s.containers h.3,
  );
  on_begun = λ s connection c asked found h. h;
  on_time_out = λ s c h. h;
  on_end_ticket = λ s n h. h;
  on_made_volume = λ s name labels none h. (
    mounts_more s.volumes (placed (new_volume name labels s.clock) s.volumes) s.containers
        (λ other there. finds_beside (λ v. same_bytes v.name other) (new_volume name labels s.clock) s.volumes there) h.0,
    h.1,
    h.2,
    h.3,
  );
  on_gone_volume = λ s name unused h. (
    gone_mounts name s.volumes s.containers
        (unused_in name s.containers (subst (AllByRecursion (λ (u : VolumeUse). same_bytes u.volume name ≡ false)) h.1 (none_passes (λ (u : VolumeUse). same_bytes u.volume name) s.uses unused))) h.0,
    h.1,
    h.2,
    h.3,
  );
  on_made = λ s name spec free stand h. volumes_made s.containers s.volumes s.uses s.next_number (new_container name spec s) refl stand h;
  on_made_exec = λ s c words stdin out err found h. (h.0, h.1, h.2, all_weaken (λ c. c.number < s.next_number) (λ c. c.number < s.next_number + 1) (λ c low. omega (arith, low)) s.containers h.3);
  on_renamed = λ s c name found free h. volumes_changed s.containers s.volumes s.uses s.next_number c.number (λ old. name) (λ l. l) (λ l. refl) h;
}
