-- The rows of a fold beside the containers: each row is its container's summary, but those of one number stand as said.
use Rattle.std.proofs.Common.{◌≡◌, ◌≢◌, ℕ, ◌==◌, nat_eq, Bool, true, false, List, [], ◌∷◌, Option, Some, None, find, map, if◌then◌else◌, refl, ap, sym, ◌∙◌, subst, arith}
use Rattle.std.proofs.lemmas.Bool.{eqb-true}
use Rattle.std.proofs.lemmas.Bool.Decides.{Decides-eqb, nat_tests}
use Rattle.std.proofs.lemmas.Slice.Eq.{slice_eq-Decides}
use Rattle.std.specs.Bool.{Decides}
use Rattle.std.specs.List.{AllByRecursion}
use Rattle.engine_text.specs.Texts.{same_bytes}
use Rattle.container_table.specs.Lists.{update_first, remove_first}
use Rattle.machine_model.specs.Consistency.{AreDistinct}
use Rattle.machine_model.specs.Summary.{summary_row}
use Rattle.machine_model.proofs.ListLemmas.{refused_where_none}
use Rattle.engine_text.specs.declared.container.Container.{Container}
use Rattle.engine_text.specs.declared.container.Life.{Life}
use Rattle.engine_text.specs.declared.event.FoldRow.{FoldRow}

same_bytes-Decides : (xs ys : List ℕ) → Decides (same_bytes xs ys) (xs ≡ ys)
same_bytes-Decides xs ys = slice_eq-Decides {E = nat_eq} Decides-eqb xs ys (same_bytes xs ys) refl

same_true : (xs ys : List ℕ) → xs ≡ ys → same_bytes xs ys ≡ true
same_true xs ys e = grind (arith, same_bytes-Decides xs ys, nat_tests)

same_false : (xs ys : List ℕ) → xs ≢ ys → same_bytes xs ys ≡ false
same_false xs ys e = grind (arith, same_bytes-Decides xs ys, nat_tests)

-- ---- the relation

-- a row and its container, by whether it is one of those
abbrev pub At : Bool → (FoldRow → Container → Type 0) → FoldRow → Container → Type 0
At true P r c = (r.id ≡ c.id) × P r c
At false P r c = r ≡ summary_row c

-- row by row: where the number is n it is as P says
abbrev pub RowsBut : ℕ → (FoldRow → Container → Type 0) → List FoldRow → List Container → Type 0
RowsBut n P [] [] = Unit {0}
RowsBut n P [] (c ∷ cs) = ⊥
RowsBut n P (r ∷ rs) [] = ⊥
RowsBut n P (r ∷ rs) (c ∷ cs) = At (c.number == n) P r c × RowsBut n P rs cs

-- the row is the summary
abbrev pub Same : FoldRow → Container → Type 0
Same r c = r ≡ summary_row c

-- that container, as P says
abbrev pub Is : Container → (FoldRow → Container → Type 0) → FoldRow → Container → Type 0
Is c P r d = (d ≡ c) × P r d

at_id : (b : Bool) (P : FoldRow → Container → Type 0) (r : FoldRow) (c : Container) → At b P r c → r.id ≡ c.id
at_id true P r c h = h.0
at_id false P r c h = ap (λ (x : FoldRow). x.id) h

at_weaken : (b : Bool) (P Q : FoldRow → Container → Type 0) (r : FoldRow) (c : Container) → (r.id ≡ c.id → P r c → Q r c) → At b P r c → At b Q r c
at_weaken true P Q r c k h = (h.0, k h.0 h.1)
at_weaken false P Q r c k h = h

pub weaker : (n : ℕ) (P Q : FoldRow → Container → Type 0) → ((r : FoldRow) (c : Container) → r.id ≡ c.id → P r c → Q r c)
    → (rs : List FoldRow) (cs : List Container) → RowsBut n P rs cs → RowsBut n Q rs cs
weaker n P Q k [] [] h = tt
weaker n P Q k [] (c ∷ cs) h = absurd h
weaker n P Q k (r ∷ rs) [] h = absurd h
weaker n P Q k (r ∷ rs) (c ∷ cs) h = (at_weaken (c.number == n) P Q r c (k r c) h.0, weaker n P Q k rs cs h.1)

-- ---- all are summaries

at_summary : (b : Bool) (c : Container) → At b Same (summary_row c) c
at_summary true c = (refl, refl)
at_summary false c = refl

pub whole : (n : ℕ) (cs : List Container) → RowsBut n Same (map summary_row cs) cs
whole n [] = tt
whole n (c ∷ cs) = (at_summary (c.number == n) c, whole n cs)

at_same : (b : Bool) (r : FoldRow) (c : Container) → At b Same r c → r ≡ summary_row c
at_same true r c h = h.1
at_same false r c h = h

pub exact : (n : ℕ) (rs : List FoldRow) (cs : List Container) → RowsBut n Same rs cs → rs ≡ map summary_row cs
exact n [] [] h = refl
exact n [] (c ∷ cs) h = absurd h
exact n (r ∷ rs) [] h = absurd h
exact n (r ∷ rs) (c ∷ cs) h =
    let one : r ≡ summary_row c = at_same (c.number == n) r c h.0 in
    let more : rs ≡ map summary_row cs = exact n rs cs h.1 in
    λ i. one i ∷ more i

-- ---- where nobody has the number

at_other : (b : Bool) (P Q : FoldRow → Container → Type 0) (r : FoldRow) (c : Container) → b ≡ false → At b P r c → At b Q r c
at_other b P Q r c e h =
    let here : At false P r c = subst (λ x. At x P r c) e h in
    subst (λ x. At x Q r c) (sym e) here

others : (n : ℕ) (P Q : FoldRow → Container → Type 0) (rs : List FoldRow) (cs : List Container)
    → AllByRecursion (λ c. (c.number == n) ≡ false) cs → RowsBut n P rs cs → RowsBut n Q rs cs
others n P Q [] [] e h = tt
others n P Q [] (c ∷ cs) e h = absurd h
others n P Q (r ∷ rs) [] e h = absurd h
others n P Q (r ∷ rs) (c ∷ cs) e h = (at_other (c.number == n) P Q r c e.0 h.0, others n P Q rs cs e.1 h.1)

pub nobody : (n : ℕ) (P Q : FoldRow → Container → Type 0) (rs : List FoldRow) (cs : List Container)
    → find (λ c. c.number == n) cs ≡ None → RowsBut n P rs cs → RowsBut n Q rs cs
nobody n P Q rs cs e h = others n P Q rs cs (refused_where_none (λ c. c.number == n) cs e) h

is_no : (b : Bool) (m n : ℕ) → (m == n) ≡ b → n ≢ m → b ≡ false
is_no true m n e differs = absurd (differs (sym (eqb-true m n e)))
is_no false m n e differs = refl

unlike : (n : ℕ) (cs : List Container) → AllByRecursion (λ m. n ≢ m) (map (λ c. c.number) cs) → AllByRecursion (λ c. (c.number == n) ≡ false) cs
unlike n [] h = tt
unlike n (c ∷ cs) h = (is_no (c.number == n) c.number n refl h.0, unlike n cs h.1)

-- behind the one that has it
behind : (n m : ℕ) (P Q : FoldRow → Container → Type 0) (rs : List FoldRow) (cs : List Container)
    → (m == n) ≡ true → AllByRecursion (λ k. m ≢ k) (map (λ c. c.number) cs) → RowsBut n P rs cs → RowsBut n Q rs cs
behind n m P Q rs cs e distinct h =
    let is : m ≡ n = eqb-true m n e in
    others n P Q rs cs (unlike n cs (subst (λ k. AllByRecursion (λ j. k ≢ j) (map (λ c. c.number) cs)) is distinct)) h

-- ---- the one that is found

pub same_some : {A : Type 0} (x y : A) → Some x ≡ Some y → x ≡ y
same_some x y e = cc

number_by : (b : Bool) (n : ℕ) (x c : Container) (rest : Option Container) → (x.number == n) ≡ b → (if b then Some x else rest) ≡ Some c
    → (rest ≡ Some c → c.number ≡ n) → c.number ≡ n
number_by true n x c rest e found more = subst (λ (d : Container). d.number ≡ n) (same_some x c found) (eqb-true x.number n e)
number_by false n x c rest e found more = more found

pub found_number : (n : ℕ) (c : Container) (cs : List Container) → find (λ d. d.number == n) cs ≡ Some c → c.number ≡ n
found_number n c [] found = absurd (cc)
found_number n c (x ∷ cs) found = number_by (x.number == n) n x c (find (λ d. d.number == n) cs) refl found (found_number n c cs)

held_by : {B : Type 0} (b : Bool) (P : B → Type 0) (f : Container → B) (x c : Container) (rest : Option Container) → (if b then Some x else rest) ≡ Some c
    → P (f x) → (rest ≡ Some c → P (f c)) → P (f c)
held_by true P f x c rest found first more = subst (λ (d : Container). P (f d)) (same_some x c found) first
held_by false P f x c rest found first more = more found

-- what holds of each holds of it
pub held : {B : Type 0} (n : ℕ) (P : B → Type 0) (f : Container → B) (c : Container) (cs : List Container) → find (λ d. d.number == n) cs ≡ Some c
    → AllByRecursion P (map f cs) → P (f c)
held n P f c [] found all = absurd (cc)
held n P f c (x ∷ cs) found all = held_by (x.number == n) P f x c (find (λ d. d.number == n) cs) found all.0 (λ more. held n P f c cs more all.1)

pin_cons : (b : Bool) (n : ℕ) (c x : Container) (r : FoldRow) (P : FoldRow → Container → Type 0) (rs : List FoldRow) (cs : List Container) (rest : Option Container)
    → (x.number == n) ≡ b → (if b then Some x else rest) ≡ Some c → AllByRecursion (λ m. x.number ≢ m) (map (λ c. c.number) cs)
    → At b P r x → RowsBut n P rs cs → (rest ≡ Some c → RowsBut n (Is c P) rs cs) → At b (Is c P) r x × RowsBut n (Is c P) rs cs
pin_cons true n c x r P rs cs rest e found distinct h hs more = ((h.0, (same_some x c found, h.1)), behind n x.number P (Is c P) rs cs e distinct hs)
pin_cons false n c x r P rs cs rest e found distinct h hs more = (h, more found)

pub pin : (n : ℕ) (c : Container) (P : FoldRow → Container → Type 0) (rs : List FoldRow) (cs : List Container)
    → AreDistinct (map (λ d. d.number) cs) → find (λ d. d.number == n) cs ≡ Some c → RowsBut n P rs cs → RowsBut n (Is c P) rs cs
pin n c P [] [] distinct found h = tt
pin n c P [] (x ∷ cs) distinct found h = absurd h
pin n c P (r ∷ rs) [] distinct found h = absurd h
pin n c P (r ∷ rs) (x ∷ cs) distinct found h =
    pin_cons (x.number == n) n c x r P rs cs (find (λ d. d.number == n) cs) refl found distinct.0 h.0 h.1 (λ more. pin n c P rs cs distinct.1 more h.1)

-- ---- changes

-- a container with another name and another life
abbrev pub made : (List ℕ → List ℕ) → (Life → Life) → Container → Container
made g f c = record c { name = g c.name; life = f c.life }

changed_cons : (b : Bool) (n : ℕ) (g : List ℕ → List ℕ) (f : Life → Life) (P Q : FoldRow → Container → Type 0) (r : FoldRow) (x : Container)
    (rs : List FoldRow) (cs new : List Container)
    → (x.number == n) ≡ b → AllByRecursion (λ m. x.number ≢ m) (map (λ c. c.number) cs)
    → ((r : FoldRow) (c : Container) → r.id ≡ c.id → P r c → Q r (made g f c)) → At b P r x → RowsBut n P rs cs → RowsBut n Q rs new
    → RowsBut n Q (r ∷ rs) (if b then made g f x ∷ cs else x ∷ new)
changed_cons true n g f P Q r x rs cs new e distinct k h hs more =
    (subst (λ b. At b Q r (made g f x)) (sym e) (h.0, k r x h.0 h.1), behind n x.number P Q rs cs e distinct hs)
changed_cons false n g f P Q r x rs cs new e distinct k h hs more = (subst (λ b. At b Q r x) (sym e) h, more)

-- the container of that number changed
pub changed : (n : ℕ) (g : List ℕ → List ℕ) (f : Life → Life) (P Q : FoldRow → Container → Type 0)
    → ((r : FoldRow) (c : Container) → r.id ≡ c.id → P r c → Q r (made g f c))
    → (rs : List FoldRow) (cs : List Container) → AreDistinct (map (λ c. c.number) cs) → RowsBut n P rs cs
    → RowsBut n Q rs (update_first (λ c. c.number == n) (made g f) cs)
changed n g f P Q k [] [] distinct h = tt
changed n g f P Q k [] (c ∷ cs) distinct h = absurd h
changed n g f P Q k (r ∷ rs) [] distinct h = absurd h
changed n g f P Q k (r ∷ rs) (c ∷ cs) distinct h =
    changed_cons (c.number == n) n g f P Q r c rs cs (update_first (λ c. c.number == n) (made g f) cs) refl distinct.0 k h.0 h.1
    (changed n g f P Q k rs cs distinct.1 h.1)

told_cons : (b : Bool) (n : ℕ) (c x : Container) (k : FoldRow → FoldRow) (P Q : FoldRow → Container → Type 0) (r : FoldRow)
    (rs new : List FoldRow) (cs : List Container) (rest : Option Container)
    → (x.number == n) ≡ b → (if b then Some x else rest) ≡ Some c → AllByRecursion (λ m. x.number ≢ m) (map (λ c. c.number) cs)
    → (rest ≡ Some c → x.id ≢ c.id) → ((r : FoldRow) → r.id ≡ c.id → P r c → ((k r).id ≡ c.id) × Q (k r) c)
    → At b P r x → RowsBut n P rs cs → (rest ≡ Some c → RowsBut n Q new cs)
    → RowsBut n Q (if same_bytes r.id c.id then k r ∷ rs else r ∷ new) (x ∷ cs)
told_cons true n c x k P Q r rs new cs rest e found distinct apart makes h hs more =
    let is : x ≡ c = same_some x c found in
    let id : r.id ≡ c.id = h.0 ∙ ap (λ (d : Container). d.id) is in
    let one : ((k r).id ≡ c.id) × Q (k r) c = makes r id (subst (λ (d : Container). P r d) is h.1) in
    let there : At true Q (k r) x = subst (λ (d : Container). At true Q (k r) d) (sym is) one in
    let all : RowsBut n Q (k r ∷ rs) (x ∷ cs) = (subst (λ b. At b Q (k r) x) (sym e) there, behind n x.number P Q rs cs e distinct hs) in
    subst (λ b. RowsBut n Q (if b then k r ∷ rs else r ∷ new) (x ∷ cs)) (sym (same_true r.id c.id id)) all
told_cons false n c x k P Q r rs new cs rest e found distinct apart makes h hs more =
    let other : r.id ≢ c.id = λ same. apart found (sym (ap (λ (y : FoldRow). y.id) h) ∙ same) in
    let all : RowsBut n Q (r ∷ new) (x ∷ cs) = (subst (λ b. At b Q r x) (sym e) h, more found) in
    subst (λ b. RowsBut n Q (if b then k r ∷ rs else r ∷ new) (x ∷ cs)) (sym (same_false r.id c.id other)) all

-- its row changed
pub told : (n : ℕ) (c : Container) (k : FoldRow → FoldRow) (P Q : FoldRow → Container → Type 0)
    → ((r : FoldRow) → r.id ≡ c.id → P r c → ((k r).id ≡ c.id) × Q (k r) c)
    → (rs : List FoldRow) (cs : List Container) → AreDistinct (map (λ d. d.id) cs) → AreDistinct (map (λ d. d.number) cs)
    → find (λ d. d.number == n) cs ≡ Some c → RowsBut n P rs cs → RowsBut n Q (update_first (λ r. same_bytes r.id c.id) k rs) cs
told n c k P Q makes [] [] ids numbers found h = tt
told n c k P Q makes [] (x ∷ cs) ids numbers found h = absurd h
told n c k P Q makes (r ∷ rs) [] ids numbers found h = absurd h
told n c k P Q makes (r ∷ rs) (x ∷ cs) ids numbers found h =
    told_cons (x.number == n) n c x k P Q r rs (update_first (λ r. same_bytes r.id c.id) k rs) cs (find (λ d. d.number == n) cs) refl found numbers.0
    (λ more. held n (λ i. x.id ≢ i) (λ d. d.id) c cs more ids.0) makes h.0 h.1 (λ more. told n c k P Q makes rs cs ids.1 numbers.1 more h.1)

gone_cons : (b : Bool) (n : ℕ) (c x : Container) (P Q : FoldRow → Container → Type 0) (r : FoldRow)
    (rs new : List FoldRow) (cs left : List Container) (rest : Option Container)
    → (x.number == n) ≡ b → (if b then Some x else rest) ≡ Some c → AllByRecursion (λ m. x.number ≢ m) (map (λ c. c.number) cs)
    → (rest ≡ Some c → x.id ≢ c.id) → At b P r x → RowsBut n P rs cs → (rest ≡ Some c → RowsBut n Q new left)
    → RowsBut n Q (if same_bytes r.id c.id then rs else r ∷ new) (if b then cs else x ∷ left)
gone_cons true n c x P Q r rs new cs left rest e found distinct apart h hs more =
    let is : x ≡ c = same_some x c found in
    let id : r.id ≡ c.id = h.0 ∙ ap (λ (d : Container). d.id) is in
    subst (λ b. RowsBut n Q (if b then rs else r ∷ new) cs) (sym (same_true r.id c.id id)) (behind n x.number P Q rs cs e distinct hs)
gone_cons false n c x P Q r rs new cs left rest e found distinct apart h hs more =
    let other : r.id ≢ c.id = λ same. apart found (sym (ap (λ (y : FoldRow). y.id) h) ∙ same) in
    let all : RowsBut n Q (r ∷ new) (x ∷ left) = (subst (λ b. At b Q r x) (sym e) h, more found) in
    subst (λ b. RowsBut n Q (if b then rs else r ∷ new) (x ∷ left)) (sym (same_false r.id c.id other)) all

-- both gone
pub gone : (n : ℕ) (c : Container) (P Q : FoldRow → Container → Type 0)
    → (rs : List FoldRow) (cs : List Container) → AreDistinct (map (λ d. d.id) cs) → AreDistinct (map (λ d. d.number) cs)
    → find (λ d. d.number == n) cs ≡ Some c → RowsBut n P rs cs
    → RowsBut n Q (remove_first (λ r. same_bytes r.id c.id) rs) (remove_first (λ d. d.number == n) cs)
gone n c P Q [] [] ids numbers found h = tt
gone n c P Q [] (x ∷ cs) ids numbers found h = absurd h
gone n c P Q (r ∷ rs) [] ids numbers found h = absurd h
gone n c P Q (r ∷ rs) (x ∷ cs) ids numbers found h =
    gone_cons (x.number == n) n c x P Q r rs (remove_first (λ r. same_bytes r.id c.id) rs) cs (remove_first (λ d. d.number == n) cs)
    (find (λ d. d.number == n) cs) refl found numbers.0 (λ more. held n (λ i. x.id ≢ i) (λ d. d.id) c cs more ids.0) h.0 h.1
    (λ more. gone n c P Q rs cs ids.1 numbers.1 more h.1)
