-- The volumes that a create makes, told before it.
use Rattle.std.proofs.Common.{◌≡◌, ◌≢◌, ℕ, ◌+◌, ◌<◌, ◌≤◌, ◌||◌, not, Bool, true, false, List, [], ◌∷◌, ◌++◌, Option, Some, None, Ordering, Less, Equal, Greater, refl, ap, sym, ◌∙◌, subst, arith, find, if◌then◌else◌, length, map, filter, append-nil}
use Rattle.std.specs.Ordering.{nat_cmp, match_ordering}
use Rattle.std.specs.Cmp.Lexicographic.{slice_cmp, bytes_decides}
use Rattle.std.specs.List.{AllByRecursion, list_any, remove}
use Rattle.std.specs.Prelude.{slice_index_or}
use Rattle.std.proofs.lemmas.List.{length-map}
use Rattle.engine_text.specs.Texts.{same_bytes}
use Rattle.engine_text.specs.declared.container.Container.{Container}
use Rattle.engine_text.specs.declared.event.Action.TheVariants.{Create}
use Rattle.engine_text.specs.declared.mounts.Mount.{Mount}
use Rattle.engine_text.specs.declared.pairs.Pair.{Pair}
use Rattle.engine_text.specs.declared.step.DueAction.{DueAction}
use Rattle.engine_text.specs.declared.volume.Volume.{Volume}
use Rattle.engine_text.specs.declared.volume.VolumeUse.{VolumeUse}
use Rattle.volume_table.specs.Volumes as table
use Rattle.volume_table.specs.declared.answers.Made.{Made}
use Rattle.machine_model.specs.Calls.Create.{add, make_missing, new_volume, placed, unless_it_stands, volume_named, with_new}
use Rattle.machine_model.specs.Chain.{each}
use Rattle.machine_model.specs.Consistency.{AreDistinct, is_there}
use Rattle.machine_model.specs.EventTexts.{plain_event, volume_event}
use Rattle.machine_model.specs.State.{State}
use Rattle.machine_model.proofs.ListLemmas.{all_of_mapped}
use Rattle.machine_model.proofs.VolumeLemmas.{made, mounts_stand, with_mounts}
use Rattle.machine_model.proofs.ItemLemmas.{All-both, All-imp, All-map}
use Rattle.machine_events.proofs.OnceLemmas.{all_once, any_once, distinct_once, length_filter, length_once, once_filter, once_snoc, passed, push}
use Rattle.machine_model.proofs.RemoveLemmas.{filter_end, map_end}
use Rattle.machine_events.specs.NewVolumes.{AreMissing, missing_volumes, once, stands, told_volumes, with_volumes}

-- ---- whether a volume stands

abbrev named : List ℕ → Volume → Bool
named name v = same_bytes v.name name

or_there : {A : Type 0} (b : Bool) (x : A) (o : Option A) → is_there (if b then Some x else o) ≡ (b || is_there o)
or_there true x o = refl
or_there false x o = refl

or_swap : (a b c : Bool) → (a || (b || c)) ≡ (b || (a || c))
or_swap true true c = refl
or_swap true false c = refl
or_swap false true c = refl
or_swap false false c = refl

by_order : (p : Volume → Bool) (o : Ordering) (v w : Volume) (ws ps : List Volume) → is_there (find p ps) ≡ (p v || is_there (find p ws))
    → is_there (find p (match_ordering o (v ∷ w ∷ ws) (v ∷ w ∷ ws) (w ∷ ps))) ≡ (p v || is_there (find p (w ∷ ws)))
by_order p Less v w ws ps e = or_there (p v) v (find p (w ∷ ws))
by_order p Equal v w ws ps e = or_there (p v) v (find p (w ∷ ws))
by_order p Greater v w ws ps e =
    or_there (p w) w (find p ps) ∙ (ap (λ b. p w || b) e ∙ (or_swap (p w) (p v) (is_there (find p ws)) ∙ ap (λ b. p v || b) (sym (or_there (p w) w (find p ws)))))

found_placed : (p : Volume → Bool) (v : Volume) (ws : List Volume) → is_there (find p (placed v ws)) ≡ (p v || is_there (find p ws))
found_placed p v [] = or_there (p v) v None
found_placed p v (w ∷ ws) = by_order p (slice_cmp nat_cmp v.name w.name) v w ws (placed v ws) (found_placed p v ws)

-- ---- those that don't stand, each once

abbrev made_of : ℕ → List ℕ → Volume
made_of t name = new_volume name [] t

abbrev is_new : List Volume → List ℕ → Bool
is_new vs name = not (stands vs name)

abbrev names_of : List Mount → List (List ℕ)
names_of ms = map (λ m. m.volume) ms

by_both : (a b : Bool) (k : List ℕ) (l : List (List ℕ)) → (if not (a || b) then k ∷ l else l) ≡ (if not b then (if not a then k ∷ l else l) else l)
by_both true true k l = refl
by_both true false k l = refl
by_both false true k l = refl
by_both false false k l = refl

-- once a volume is in its place, the other names are new
new_placed : (v : Volume) (vs : List Volume) (ks : List (List ℕ)) → filter (is_new (placed v vs)) ks ≡ filter (λ k. not (same_bytes v.name k)) (filter (is_new vs) ks)
new_placed v vs [] = refl
new_placed v vs (k ∷ ks) =
    ap (λ b. if not b then k ∷ filter (is_new (placed v vs)) ks else filter (is_new (placed v vs)) ks) (found_placed (named k) v vs)
    ∙ (by_both (same_bytes v.name k) (stands vs k) k (filter (is_new (placed v vs)) ks)
    ∙ (ap (λ l. if not (stands vs k) then (if not (same_bytes v.name k) then k ∷ l else l) else l) (new_placed v vs ks)
    ∙ sym (push (λ n. not (same_bytes v.name n)) (not (stands vs k)) k (filter (is_new vs) ks))))

missing_known : (t : ℕ) (m : Mount) (ms : List Mount) (vs : List Volume) → stands vs m.volume ≡ true → missing_volumes t (m ∷ ms) vs ≡ missing_volumes t ms vs
missing_known t m ms vs e = ap (λ b. map (made_of t) (once (if not b then m.volume ∷ filter (is_new vs) (names_of ms) else filter (is_new vs) (names_of ms)))) e

missing_first : (t : ℕ) (m : Mount) (ms : List Mount) (vs : List Volume) → stands vs m.volume ≡ false
    → missing_volumes t (m ∷ ms) vs ≡ made_of t m.volume ∷ missing_volumes t ms (placed (made_of t m.volume) vs)
missing_first t m ms vs e =
    let ks : List (List ℕ) = filter (is_new vs) (names_of ms) in
    ap (λ b. map (made_of t) (once (if not b then m.volume ∷ ks else ks))) e
    ∙ ap (λ l. made_of t m.volume ∷ map (made_of t) l)
    (sym (once_filter (λ n. not (same_bytes m.volume n)) ks) ∙ ap once (sym (new_placed (made_of t m.volume) vs (names_of ms))))

-- ---- what is made, and told

abbrev pub with_made : List Volume → State → State
with_made vs s = record s { volumes = with_volumes vs s.volumes }

abbrev Tells : List Mount → State → Type 0
Tells ms s = ((each make_missing ms s).state ≡ with_made (missing_volumes s.clock ms s.volumes) s)
    × ((each make_missing ms s).events ≡ told_volumes (missing_volumes s.clock ms s.volumes) s.clock)

one_mount : (o : Option Volume) (m : Mount) (ms : List Mount) (s : State) → volume_named m.volume s ≡ o → ((z : State) → Tells ms z) → Tells (m ∷ ms) s
one_mount (Some v) m ms s e rest =
    let known = missing_known s.clock m ms s.volumes (ap is_there e) in (
      ap (λ q. (each make_missing ms (unless_it_stands q m.volume s).state).state) e ∙ ((rest s).0 ∙ ap (λ l. with_made l s) (sym known)),
      ap (λ q. (unless_it_stands q m.volume s).events ++ (each make_missing ms (unless_it_stands q m.volume s).state).events) e
          ∙ ((rest s).1 ∙ ap (λ l. told_volumes l s.clock) (sym known)),
    )
one_mount None m ms s e rest =
    let v : Volume = made_of s.clock m.volume in
    let z : State = record s { volumes = placed v s.volumes } in
    let first = missing_first s.clock m ms s.volumes (ap is_there e) in (
      ap (λ q. (each make_missing ms (unless_it_stands q m.volume s).state).state) e ∙ ((rest z).0 ∙ ap (λ l. with_made l s) (sym first)),
      ap (λ q. (unless_it_stands q m.volume s).events ++ (each make_missing ms (unless_it_stands q m.volume s).state).events) e
          ∙ (ap (λ l. volume_event Create m.volume s.clock ∷ l) (rest z).1 ∙ ap (λ l. told_volumes l s.clock) (sym first)),
    )

tells : (ms : List Mount) (s : State) → Tells ms s
tells [] s = (refl, refl)
tells (m ∷ ms) s = one_mount (volume_named m.volume s) m ms s refl (λ z. tells ms z)

-- ---- a create

abbrev pub new_volumes : Container → State → List Volume
new_volumes c s = missing_volumes s.clock c.life.mounts s.volumes

pub added : (c : Container) (s : State) → (add c s).state ≡ with_new c (with_made (new_volumes c s) s)
added c s = ap (with_new c) (tells c.life.mounts s).0

-- a state with these parts is the state after it
pub added_parts : (c : Container) (s : State) (cs : List Container) (ts : List DueAction) (vs : List Volume) (us : List VolumeUse) → cs ≡ s.containers ++ c ∷ [] → ts ≡ s.timers
    → vs ≡ with_volumes (new_volumes c s) s.volumes → us ≡ s.uses ++ map (λ m. record { volume = m.volume; container = c.number }) c.life.mounts
    → record s { containers = cs; timers = ts; volumes = vs; uses = us; next_number = s.next_number + 1 } ≡ (add c s).state
added_parts c s cs ts vs us h1 h2 h3 h4 =
    ap (λ (l : List Container). record s { containers = l; timers = ts; volumes = vs; uses = us; next_number = s.next_number + 1 }) h1
    ∙ (ap (λ (l : List DueAction). record s { containers = s.containers ++ c ∷ []; timers = l; volumes = vs; uses = us; next_number = s.next_number + 1 }) h2
    ∙ (ap (λ (l : List Volume). record s { containers = s.containers ++ c ∷ []; volumes = l; uses = us; next_number = s.next_number + 1 }) h3
    ∙ (ap (λ (l : List VolumeUse). record s { containers = s.containers ++ c ∷ []; volumes = with_volumes (new_volumes c s) s.volumes; uses = l; next_number = s.next_number + 1 }) h4
    ∙ sym (added c s))))

pub added_told : (c : Container) (s : State) → (add c s).events ≡ told_volumes (new_volumes c s) s.clock ++ plain_event Create c s.clock ∷ []
added_told c s = ap (λ l. l ++ plain_event Create c (each make_missing c.life.mounts s).state.clock ∷ []) (tells c.life.mounts s).1
    ∙ ap (λ (z : State). told_volumes (new_volumes c s) s.clock ++ plain_event Create c z.clock ∷ []) (tells c.life.mounts s).0

none_each_missing : (ms : List Mount) (s : State) → [] ≡ (each make_missing ms s).died
none_each_missing [] s = refl
none_each_missing (m ∷ ms) s = none_by (volume_named m.volume s) m ms s refl (λ z. none_each_missing ms z)
  where
    none_by : (o : Option Volume) (m : Mount) (ms : List Mount) (s : State) → volume_named m.volume s ≡ o → ((z : State) → [] ≡ (each make_missing ms z).died) → [] ≡ (each make_missing (m ∷ ms) s).died
    none_by None m ms s e rest = rest (unless_it_stands None m.volume s).state ∙ sym (ap (λ q. (unless_it_stands q m.volume s).died ++ (each make_missing ms (unless_it_stands q m.volume s).state).died) e)
    none_by (Some v) m ms s e rest = rest s ∙ sym (ap (λ q. (unless_it_stands q m.volume s).died ++ (each make_missing ms (unless_it_stands q m.volume s).state).died) e)

pub none_added : (c : Container) (s : State) → [] ≡ (add c s).died
none_added c s = none_each_missing c.life.mounts s ∙ sym (append-nil (each make_missing c.life.mounts s).died)

-- the mounts' volumes stand then
pub all_stand : (ms : List Mount) (s : State) → AllByRecursion (λ m. is_there (find (named m.volume) (with_volumes (missing_volumes s.clock ms s.volumes) s.volumes)) ≡ true) ms
all_stand ms s =
    let same : with_mounts ms s.clock s.volumes ≡ with_volumes (missing_volumes s.clock ms s.volumes) s.volumes =
    ap (λ (z : State). z.volumes) (sym (made ms s).0 ∙ (tells ms s).0) in
    subst (λ vs. AllByRecursion (λ (m : Mount). is_there (find (named m.volume) vs) ≡ true) ms) same (mounts_stand ms s.clock s.volumes)

-- at most as many are made as there are mounts
pub few_missing : (t : ℕ) (ms : List Mount) (vs : List Volume) → length (missing_volumes t ms vs) ≤ length ms
few_missing t ms vs =
    let e : length (missing_volumes t ms vs) ≡ length (once (filter (is_new vs) (names_of ms))) = simp length-map refl in
    let f : length (names_of ms) ≡ length ms = simp length-map refl in
    let most = length_once (filter (is_new vs) (names_of ms)) in
    let few = length_filter (is_new vs) (names_of ms) in omega (arith, e, f, most, few)

-- ---- mount by mount

any_made : (t : ℕ) (name : List ℕ) (ks : List (List ℕ)) → list_any (named name) (map (made_of t) ks) ≡ list_any (λ k. same_bytes k name) ks
any_made t name [] = refl
any_made t name (k ∷ ks) = ap (λ b. same_bytes k name || b) (any_made t name ks)

-- whether the volume of one more mount is made or stands
abbrev pub is_known : List ℕ → List Volume → List Volume → Bool
is_known name made vs = list_any (named name) made || stands vs name

snoc_by : (stood among : Bool) (t : ℕ) (n : List ℕ) (ks : List (List ℕ)) (vs : List Volume) → stands vs n ≡ stood → list_any (λ k. same_bytes k n) (filter (is_new vs) ks) ≡ among
    → map (made_of t) (once (filter (is_new vs) (ks ++ n ∷ []))) ≡ (if among || stood then map (made_of t) (once (filter (is_new vs) ks)) else map (made_of t) (once (filter (is_new vs) ks)) ++ made_of t n ∷ [])
snoc_by true true t n ks vs e f = ap (λ l. map (made_of t) (once l)) (filter_end (is_new vs) false ks n (ap not e))
snoc_by true false t n ks vs e f = ap (λ l. map (made_of t) (once l)) (filter_end (is_new vs) false ks n (ap not e))
snoc_by false true t n ks vs e f =
    let new : List (List ℕ) = filter (is_new vs) ks in
    ap (λ l. map (made_of t) (once l)) (filter_end (is_new vs) true ks n (ap not e))
    ∙ ap (map (made_of t)) (once_snoc new n ∙ ap (λ b. if b then once new else once new ++ n ∷ []) f)
snoc_by false false t n ks vs e f =
    let new : List (List ℕ) = filter (is_new vs) ks in
    ap (λ l. map (made_of t) (once l)) (filter_end (is_new vs) true ks n (ap not e))
    ∙ (ap (map (made_of t)) (once_snoc new n ∙ ap (λ b. if b then once new else once new ++ n ∷ []) f) ∙ map_end (made_of t) (once new) n)

missing_snoc : (t : ℕ) (ms : List Mount) (m : Mount) (vs : List Volume)
    → missing_volumes t (ms ++ m ∷ []) vs ≡ (if is_known m.volume (missing_volumes t ms vs) vs then missing_volumes t ms vs else missing_volumes t ms vs ++ made_of t m.volume ∷ [])
missing_snoc t ms m vs =
    let new : List (List ℕ) = filter (is_new vs) (names_of ms) in
    let among : list_any (named m.volume) (missing_volumes t ms vs) ≡ list_any (λ k. same_bytes k m.volume) new = any_made t m.volume (once new) ∙ any_once (λ k. same_bytes k m.volume) new in
    ap (λ l. map (made_of t) (once (filter (is_new vs) l))) (map_end (λ (x : Mount). x.volume) ms m)
    ∙ (snoc_by (stands vs m.volume) (list_any (λ k. same_bytes k m.volume) new) t m.volume (names_of ms) vs refl refl
    ∙ ap (λ b. if b || stands vs m.volume then missing_volumes t ms vs else missing_volumes t ms vs ++ made_of t m.volume ∷ []) (sym among))

pub known_more : (t : ℕ) (ms : List Mount) (m : Mount) (vs made : List Volume) → made ≡ missing_volumes t ms vs → is_known m.volume made vs ≡ true → made ≡ missing_volumes t (ms ++ m ∷ []) vs
known_more t ms m vs made e known =
    let known_here : is_known m.volume (missing_volumes t ms vs) vs ≡ true = sym (ap (λ l. is_known m.volume l vs) e) ∙ known in
    e ∙ sym (missing_snoc t ms m vs ∙ ap (λ b. if b then missing_volumes t ms vs else missing_volumes t ms vs ++ made_of t m.volume ∷ []) known_here)

pub new_more : (t : ℕ) (ms : List Mount) (m : Mount) (vs made more : List Volume) (v : Volume) → made ≡ missing_volumes t ms vs → is_known m.volume made vs ≡ false
    → more ≡ made ++ v ∷ [] → v ≡ new_volume m.volume [] t → more ≡ missing_volumes t (ms ++ m ∷ []) vs
new_more t ms m vs made more v e known is one =
    let known_here : is_known m.volume (missing_volumes t ms vs) vs ≡ false = sym (ap (λ l. is_known m.volume l vs) e) ∙ known in
    is ∙ (ap (λ l. l ++ v ∷ []) e ∙ (ap (λ x. missing_volumes t ms vs ++ x ∷ []) one
    ∙ sym (missing_snoc t ms m vs ∙ ap (λ b. if b then missing_volumes t ms vs else missing_volumes t ms vs ++ made_of t m.volume ∷ []) known_here)))

pub made_as : (name : List ℕ) (labels : List Pair) (n : List ℕ) (t : ℕ) → name ≡ n → labels ≡ [] → record { name = name; labels = labels; created = t } ≡ new_volume n [] t
made_as name labels n t e f = ap (λ (k : List ℕ). new_volume k labels t) e ∙ ap (λ (l : List Pair). new_volume n l t) f

-- ---- none of them stands

new_stands : (vs : List Volume) (n : List ℕ) (b : Bool) → stands vs n ≡ b → not b ≡ true → stands vs n ≡ false
new_stands vs n true e fails = absurd (cc)
new_stands vs n false e fails = e

named_as : (t : ℕ) (ks : List (List ℕ)) → map (λ (v : Volume). v.name) (map (made_of t) ks) ≡ ks
named_as t [] = refl
named_as t (k ∷ ks) = ap (λ l. k ∷ l) (named_as t ks)

pub are_missing : (t : ℕ) (ms : List Mount) (vs : List Volume) → AreMissing (missing_volumes t ms vs) vs
are_missing t ms vs =
    let new : List (List ℕ) = filter (is_new vs) (names_of ms) in
    record {
      fresh = All-map (λ v. stands vs v.name ≡ false) (made_of t) (once new)
          (all_once (λ n. stands vs n ≡ false) new
          (All-imp (λ n. is_new vs n ≡ true) (λ n. stands vs n ≡ false) (λ n e. new_stands vs n (stands vs n) refl e) new (passed (is_new vs) (names_of ms))));
      apart = subst (λ (l : List (List ℕ)). AreDistinct l) (sym (named_as t (once new))) (distinct_once new);
    }

-- ---- volume by volume, in the table

pub same_placed : (v : Volume) (vs : List Volume) → table.placed v vs ≡ placed v vs
same_placed v [] = refl
same_placed v (w ∷ ws) = ap (λ l. match_ordering (slice_cmp nat_cmp v.name w.name) (v ∷ w ∷ ws) (v ∷ w ∷ ws) (w ∷ l)) (same_placed v ws)

created_by : (o : Option Volume) (r : Made) (v : Volume) (vs new : List Volume) → is_there o ≡ false → r ≡ table.creation o → new ≡ table.after_creation r v vs → new ≡ placed v vs
created_by None r v vs new fails answer is = is ∙ (ap (λ q. table.after_creation q v vs) answer ∙ same_placed v vs)
created_by (Some w) r v vs new fails answer is = absurd (cc)

-- one that doesn't stand is made
pub created : (r : Made) (v : Volume) (vs new : List Volume) → stands vs v.name ≡ false → r ≡ table.creation (find (named v.name) vs) → new ≡ table.after_creation r v vs → new ≡ placed v vs
created r v vs new fails answer is = created_by (find (named v.name) vs) r v vs new fails answer is

ordered_length : (o : Ordering) (v w : Volume) (ws ps : List Volume) → length ps ≡ length ws + 1 → length (match_ordering o (v ∷ w ∷ ws) (v ∷ w ∷ ws) (w ∷ ps)) ≡ length (w ∷ ws) + 1
ordered_length Less v w ws ps e = omega arith
ordered_length Equal v w ws ps e = omega arith
ordered_length Greater v w ws ps e = omega (arith, e)

pub placed_length : (v : Volume) (ws : List Volume) → length (placed v ws) ≡ length ws + 1
placed_length v [] = refl
placed_length v (w ∷ ws) = ordered_length (slice_cmp nat_cmp v.name w.name) v w ws (placed v ws) (placed_length v ws)

or_none : (a b : Bool) → a ≡ false → b ≡ false → (a || b) ≡ false
or_none true b e f = absurd (cc)
or_none false b e f = f

other_name : (a b : List ℕ) (t : Bool) → same_bytes a b ≡ t → a ≢ b → same_bytes a b ≡ false
other_name a b true e other = absurd (other ((bytes_decides a b).0 e))
other_name a b false e other = e

rest_missing : (v : Volume) (rest vs : List Volume) → AreMissing (v ∷ rest) vs → AreMissing rest (placed v vs)
rest_missing v rest vs h = record {
  fresh = All-imp (λ u. (v.name ≢ u.name) × (stands vs u.name ≡ false)) (λ u. stands (placed v vs) u.name ≡ false)
      (λ u e. found_placed (named u.name) v vs ∙ or_none (same_bytes v.name u.name) (stands vs u.name) (other_name v.name u.name (same_bytes v.name u.name) refl e.0) e.1)
      rest (All-both (λ u. v.name ≢ u.name) (λ u. stands vs u.name ≡ false) rest (all_of_mapped (λ n. v.name ≢ n) (λ (u : Volume). u.name) rest h.apart.0) h.fresh.1);
  apart = h.apart.1;
}

-- what is left, once the first is in its place
pub record IsRest (items : List Volume) (v : Volume) (vs : List Volume) : Type 0 where
  pub fresh : stands vs v.name ≡ false
  pub rest : AreMissing (remove items 0) (placed v vs)
  pub same : with_volumes (remove items 0) (placed v vs) ≡ with_volumes items vs

first_of : (w v : Volume) (rest vs : List Volume) → w ≡ v → AreMissing (w ∷ rest) vs → IsRest (w ∷ rest) v vs
first_of w v rest vs e h = subst (λ (x : Volume). IsRest (w ∷ rest) x vs) e (record { fresh = h.fresh.0; rest = rest_missing w rest vs h; same = refl })

pub first_made : (items : List Volume) (v d : Volume) (vs : List Volume) → 0 < length items → v ≡ slice_index_or items 0 d → AreMissing items vs → IsRest items v vs
first_made [] v d vs low e h = absurd (omega (arith, low))
first_made (w ∷ items) v d vs low e h = first_of w v items vs (sym e) h
