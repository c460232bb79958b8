-- What effects tell: from rows that are summaries but for one container's, the fold of the events leads to such rows again.
use Rattle.std.proofs.Common.{◌≡◌, ℕ, ◌==◌, ◌≤◌, not, List, [], ◌∷◌, ◌++◌, Option, Some, None, map, refl, sym, subst}
use Rattle.std.specs.List.{AllByRecursion}
use Rattle.engine_text.specs.Texts.{same_bytes}
use Rattle.container_table.specs.Lists.{update_first}
use Rattle.machine_model.specs.State.{State, container_numbered}
use Rattle.machine_model.specs.Chain.{Effect, still, change, and_then, each, with_found, with_container, tell, tell_of, tell_mounts, renew}
use Rattle.machine_model.specs.EventTexts.{mount_event}
use Rattle.machine_model.specs.Consistency.{AreDistinct}
use Rattle.machine_model.specs.Summary.{summary_row, fold_kind, fold_on, inspect_summary}
use Rattle.machine_model.specs.Ranges.{AreCoded, IsLifeInRange, IsByte}
use Rattle.machine_model.proofs.Fold.RowLemmas.{RowsBut, Same, Is, weaker, whole, exact, nobody, found_number, pin, changed, told, made}
use Rattle.machine_model.proofs.ChangeLemmas.{map_updated, all_updated}
use Rattle.engine_text.specs.declared.exec.Exec.{Exec}
use Rattle.engine_text.specs.declared.container.Container.{Container}
use Rattle.engine_text.specs.declared.container.Life.{Life}
use Rattle.engine_text.specs.declared.mounts.Mount.{Mount}
use Rattle.engine_text.specs.declared.event.Action.{Action}
use Rattle.engine_text.specs.declared.event.Event.{Event}
use Rattle.engine_text.specs.declared.event.FoldRow.{FoldRow}

-- ---- what the fold needs of a state, and each effect keeps

abbrev pub LifeInRange : Container → Type 0
LifeInRange c = IsLifeInRange c.life

abbrev pub HasByte : Exec → Type 0
HasByte x = IsByte x.code

-- ids and numbers are distinct, process ids aren't 0, and codes and signals lie in their ranges
abbrev pub Fit : State → Type 0
Fit s =
    AreDistinct (map (λ c. c.id) s.containers) × AreDistinct (map (λ c. c.number) s.containers) × (1 ≤ s.next_pid)
    × AreCoded s.processes × AllByRecursion LifeInRange s.containers × AllByRecursion HasByte s.execs

-- ---- the relation

-- before it the row of container n is as P says and the others are summaries; behind it, as Q says
pub record Tells (n : ℕ) (P : FoldRow → Container → Type 0) (e : State → Effect) (Q : FoldRow → Container → Type 0) : Type 0 where
  pub holds : (s : State) (rows : List FoldRow) → Fit s → RowsBut n P rows s.containers
      → Fit (e s).state × RowsBut n Q (fold_on rows (e s).events) (e s).state.containers

pub fold_append : (rows : List FoldRow) (a b : List Event) → fold_on rows (a ++ b) ≡ fold_on (fold_on rows a) b
fold_append rows [] b = refl
fold_append rows (e ∷ a) b = fold_append (fold_kind e.kind e rows) a b

-- one after the other
pub tells_then : {n : ℕ} {P Q R : FoldRow → Container → Type 0} {e f : State → Effect} → Tells n P e Q → Tells n Q f R → Tells n P (and_then e f) R
tells_then {n} {P} {Q} {R} {e} {f} first second = record {
  holds = λ s rows fit beside.
      let a = first.holds s rows fit beside in
      let b = second.holds (e s).state (fold_on rows (e s).events) a.0 a.1 in
      (b.0, subst (λ rs. RowsBut n R rs (f (e s).state).state.containers) (sym (fold_append rows (e s).events (f (e s).state).events)) b.1);
}

-- weaker before, stronger behind
pub tells_from : {n : ℕ} {P Q R : FoldRow → Container → Type 0} {e : State → Effect} → ((r : FoldRow) (c : Container) → r.id ≡ c.id → P r c → Q r c)
    → Tells n Q e R → Tells n P e R
tells_from {n} {P} {Q} {R} {e} k one = record { holds = λ s rows fit beside. one.holds s rows fit (weaker n P Q k rows s.containers beside) }

pub tells_to : {n : ℕ} {P Q R : FoldRow → Container → Type 0} {e : State → Effect} → ((r : FoldRow) (c : Container) → r.id ≡ c.id → Q r c → R r c)
    → Tells n P e Q → Tells n P e R
tells_to {n} {P} {Q} {R} {e} k one = record {
  holds = λ s rows fit beside.
      let a = one.holds s rows fit beside in
      (a.0, weaker n Q R k (fold_on rows (e s).events) (e s).state.containers a.1);
}

pub tells_still : {n : ℕ} {P : FoldRow → Container → Type 0} → Tells n P still P
tells_still = record { holds = λ s rows fit beside. (fit, beside) }

pub tells_each : {A : Type 0} {n : ℕ} {P : FoldRow → Container → Type 0} {f : A → State → Effect} → ((x : A) → Tells n P (f x) P)
    → (xs : List A) → Tells n P (each f xs) P
tells_each k [] = tells_still
tells_each k (x ∷ xs) = tells_then (k x) (tells_each k xs)

pub tells_found : {A : Type 0} {n : ℕ} {P : FoldRow → Container → Type 0} (o : Option A) {f : A → State → Effect} → ((x : A) → Tells n P (f x) P)
    → Tells n P (with_found o f) P
tells_found None k = tells_still
tells_found (Some x) k = k x

-- an effect that depends on the state
pub tells_at : {n : ℕ} {P Q : FoldRow → Container → Type 0} (e : State → State → Effect) → ((s : State) → Tells n P (e s) Q) → Tells n P (λ s. e s s) Q
tells_at e k = record { holds = λ s. (k s).holds s }

-- the container as it stands
with_by : (n : ℕ) (P Q : FoldRow → Container → Type 0) (f : Container → State → Effect) (s : State) (rows : List FoldRow) (o : Option Container)
    → ((c : Container) → c.number ≡ n → Tells n (Is c P) (f c) Q) → container_numbered n s ≡ o → Fit s → RowsBut n P rows s.containers
    → Fit (with_found o f s).state × RowsBut n Q (fold_on rows (with_found o f s).events) (with_found o f s).state.containers
with_by n P Q f s rows None k e fit beside = (fit, nobody n P Q rows s.containers e beside)
with_by n P Q f s rows (Some c) k e fit beside =
    (k c (found_number n c s.containers e)).holds s rows fit (pin n c P rows s.containers fit.1 e beside)

pub tells_with : {n : ℕ} {P Q : FoldRow → Container → Type 0} (f : Container → State → Effect)
    → ((c : Container) → c.number ≡ n → Tells n (Is c P) (f c) Q) → Tells n P (with_container n f) Q
tells_with {n} {P} {Q} f k = record { holds = λ s rows fit beside. with_by n P Q f s rows (container_numbered n s) k refl fit beside }

-- ---- events

row_by : (n : ℕ) (P Q : FoldRow → Container → Type 0) (event : Container → ℕ → Event) (k : Container → ℕ → FoldRow → FoldRow) (s : State) (rows : List FoldRow)
    (o : Option Container)
    → ((c : Container) (t : ℕ) (rs : List FoldRow) → fold_on rs (event c t ∷ []) ≡ update_first (λ r. same_bytes r.id c.id) (k c t) rs)
    → ((r : FoldRow) (c : Container) (t : ℕ) → r.id ≡ c.id → P r c → ((k c t r).id ≡ c.id) × Q (k c t r) c)
    → container_numbered n s ≡ o → Fit s → RowsBut n P rows s.containers
    → Fit (with_found o (λ c s. tell (event c s.clock ∷ []) s) s).state
    × RowsBut n Q (fold_on rows (with_found o (λ c s. tell (event c s.clock ∷ []) s) s).events) (with_found o (λ c s. tell (event c s.clock ∷ []) s) s).state.containers
row_by n P Q event k s rows None is makes e fit beside = (fit, nobody n P Q rows s.containers e beside)
row_by n P Q event k s rows (Some c) is makes e fit beside = (
  fit,
  subst (λ rs. RowsBut n Q rs s.containers) (sym (is c s.clock rows))
      (told n c (k c s.clock) P Q (λ r. makes r c s.clock) rows s.containers fit.0 fit.1 e beside),
)

-- one that changes its row
pub tells_row : {n : ℕ} {P Q : FoldRow → Container → Type 0} (event : Container → ℕ → Event) (k : Container → ℕ → FoldRow → FoldRow)
    → ((c : Container) (t : ℕ) (rs : List FoldRow) → fold_on rs (event c t ∷ []) ≡ update_first (λ r. same_bytes r.id c.id) (k c t) rs)
    → ((r : FoldRow) (c : Container) (t : ℕ) → r.id ≡ c.id → P r c → ((k c t r).id ≡ c.id) × Q (k c t r) c)
    → Tells n P (tell_of event n) Q
tells_row {n} {P} {Q} event k is makes = record { holds = λ s rows fit beside. row_by n P Q event k s rows (container_numbered n s) is makes refl fit beside }

-- one that changes no row
pub tells_quiet : {n : ℕ} {P : FoldRow → Container → Type 0} (m : ℕ) (event : Container → ℕ → Event)
    → ((c : Container) (t : ℕ) (rs : List FoldRow) → fold_on rs (event c t ∷ []) ≡ rs) → Tells n P (tell_of event m) P
tells_quiet {n} {P} m event is =
    tells_at (λ s. with_found (container_numbered m s) (λ c s. tell (event c s.clock ∷ []) s))
    (λ s. tells_found (container_numbered m s) (λ c. record { holds = λ s rows fit beside. (fit, subst (λ rs. RowsBut n P rs s.containers) (sym (is c s.clock rows)) beside) }))

mounts_quiet : (a : Action) (c : Container) (t : ℕ) (ms : List Mount) (rows : List FoldRow) → fold_on rows (map (λ m. mount_event a m.volume c t) ms) ≡ rows
mounts_quiet a c t [] rows = refl
mounts_quiet a c t (m ∷ ms) rows = mounts_quiet a c t ms rows

pub tells_mounts : {n : ℕ} {P : FoldRow → Container → Type 0} (m : ℕ) (a : Action) → Tells n P (tell_mounts a m) P
tells_mounts {n} {P} m a =
    tells_at (λ s. with_found (container_numbered m s) (λ c s. tell (map (λ m. mount_event a m.volume c s.clock) c.life.mounts) s))
    (λ s. tells_found (container_numbered m s) (λ c. record { holds = λ s rows fit beside. (fit, subst (λ rs. RowsBut n P rs s.containers) (sym (mounts_quiet a c s.clock c.life.mounts rows)) beside) }))

-- ---- changes

pub fit_changed : (s : State) (n : ℕ) (g : List ℕ → List ℕ) (f : Life → Life) → ((l : Life) → IsLifeInRange l → IsLifeInRange (f l)) → Fit s
    → Fit (record s { containers = update_first (λ c. c.number == n) (made g f) s.containers })
fit_changed s n g f keeps fit = (
  subst AreDistinct (sym (map_updated (λ (c : Container). c.id) (λ c. c.number == n) (made g f) s.containers (λ c. refl))) fit.0,
  subst AreDistinct (sym (map_updated (λ (c : Container). c.number) (λ c. c.number == n) (made g f) s.containers (λ c. refl))) fit.1,
  fit.2,
  fit.3,
  all_updated LifeInRange (λ c. c.number == n) (made g f) (λ c low. keeps c.life low) s.containers fit.4,
  fit.5,
)

-- its life
pub tells_renew : {n : ℕ} {P Q : FoldRow → Container → Type 0} (f : State → Life → Life) → ((s : State) (l : Life) → IsLifeInRange l → IsLifeInRange (f s l))
    → ((s : State) → Fit s → (r : FoldRow) (c : Container) → r.id ≡ c.id → P r c → Q r (made (λ name. name) (f s) c))
    → Tells n P (λ s. renew n (f s) s) Q
tells_renew {n} {P} {Q} f keeps makes = record {
  holds = λ s rows fit beside.
      (fit_changed s n (λ name. name) (f s) (keeps s) fit, changed n (λ name. name) (f s) P Q (makes s fit) rows s.containers fit.1 beside);
}

-- what touches no container
pub tells_apart : {n : ℕ} {P : FoldRow → Container → Type 0} (g : State → State) → ((s : State) → (g s).containers ≡ s.containers) → ((s : State) → Fit s → Fit (g s))
    → Tells n P (change g) P
tells_apart {n} {P} g same keeps = record { holds = λ s rows fit beside. (keeps s fit, subst (λ cs. RowsBut n P rows cs) (sym (same s)) beside) }

-- ---- rows

-- a row by its parts
pub row_is : (r : FoldRow) (c : Container) → r.id ≡ c.id → r.name ≡ c.name → r.live ≡ not (c.life.pid == 0) → r.paused ≡ (summary_row c).paused → r.code ≡ c.life.code
    → r ≡ summary_row c
row_is r c id name live paused code = λ i. record { id = id i; name = name i; live = live i; paused = paused i; code = code i }

-- ---- whole effects

-- what goes along with a history, beside consistency
abbrev pub Carried : State → Type 0
Carried s = (1 ≤ s.next_pid) × AreCoded s.processes × AllByRecursion LifeInRange s.containers × AllByRecursion HasByte s.execs

-- what an effect tells of a state
abbrev pub Folded : State → Effect → Type 0
Folded s e = (fold_on (inspect_summary s) e.events ≡ inspect_summary e.state) × Carried e.state

pub folded_by : (n : ℕ) (Q : FoldRow → Container → Type 0) (e : State → Effect) (s : State) → ((r : FoldRow) (c : Container) → r.id ≡ c.id → Q r c → Same r c)
    → Tells n Same e Q → Fit s → Folded s (e s)
folded_by n Q e s k tells fit =
    let a = tells.holds s (inspect_summary s) fit (whole n s.containers) in
    (exact n (fold_on (inspect_summary s) (e s).events) (e s).state.containers (weaker n Q Same k (fold_on (inspect_summary s) (e s).events) (e s).state.containers a.1), (a.0.2, a.0.3, a.0.4, a.0.5))

-- from the container that was found
pub folded_at : (c : Container) (Q : FoldRow → Container → Type 0) (e : State → Effect) (s : State) → ((r : FoldRow) (d : Container) → r.id ≡ d.id → Q r d → Same r d)
    → container_numbered c.number s ≡ Some c → Tells c.number (Is c Same) e Q → Fit s → Folded s (e s)
folded_at c Q e s k found tells fit =
    let n : ℕ = c.number in
    let a = tells.holds s (inspect_summary s) fit (pin n c Same (inspect_summary s) s.containers fit.1 found (whole n s.containers)) in
    (exact n (fold_on (inspect_summary s) (e s).events) (e s).state.containers (weaker n Q Same k (fold_on (inspect_summary s) (e s).events) (e s).state.containers a.1), (a.0.2, a.0.3, a.0.4, a.0.5))

pub folded_still : (s : State) → Fit s → Folded s (still s)
folded_still s fit = (refl, (fit.2, fit.3, fit.4, fit.5))
