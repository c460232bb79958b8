-- Changes of the first row of an id, and where the rows of an id stand behind them.
use Rattle.std.proofs.Common.{◌≡◌, ◌+◌, ℕ, suc, List, [], ◌∷◌, ◌++◌, drop, map, filter, refl, sym, ap, ◌∙◌, Bool, true, false, cond}
use Rattle.std.specs.Prelude.{if◌then◌else◌}
use Rattle.std.proofs.lemmas.Slice.Eq.{bytes_eq-Decides}
use Rattle.engine_text.specs.Lists.{update_first, remove_first}
use Rattle.engine_text.specs.Texts.{same_bytes}
use Rattle.engine_text.specs.declared.event.FoldRow.{FoldRow}
use Rattle.engine_client.specs.Rows.{marks}

-- whether a row is of this id
abbrev pub is_of : List ℕ → FoldRow → Bool
is_of id r = same_bytes r.id id

-- ---- changes of the first row of an id

-- what is changed is the first row of this id, where there is one
pub record IsAtFirst (id : List ℕ) (g : List FoldRow → List FoldRow) : Type 0 where
  pub none : g [] ≡ []
  pub past : (rows more : List FoldRow) → marks id rows ≡ [] → g (rows ++ more) ≡ rows ++ g more
  pub here : (rows more : List FoldRow) (m : ℕ) (ms : List ℕ) → marks id rows ≡ m ∷ ms → g (rows ++ more) ≡ g rows ++ more

pub no_cons : (x : ℕ) (xs : List ℕ) → x ∷ xs ≡ [] → ⊥
no_cons x xs e = cc

pub no_nil : (x : ℕ) (xs : List ℕ) → [] ≡ x ∷ xs → ⊥
no_nil x xs e = cc

pub head_is : (a b : ℕ) (xs ys : List ℕ) → a ∷ xs ≡ b ∷ ys → a ≡ b
head_is a b xs ys e = cc

pub zero_suc : (p : ℕ) → 0 ≡ suc p → ⊥
zero_suc p e = cc

-- a mark more, or none
abbrev pub marked : Bool → List ℕ → List ℕ
marked t ms = cond t (0 ∷ ms) ms

pub marks_cons : (id : List ℕ) (r : FoldRow) (rows : List FoldRow) → marks id (r ∷ rows) ≡ marked (is_of id r) (marks id rows)
marks_cons id r rows = by (is_of id r)
  where
    by : (t : Bool) → map {B = ℕ} (λ (x : FoldRow). 0) (cond t (r ∷ filter (λ (x : FoldRow). same_bytes x.id id) rows) (filter (λ (x : FoldRow). same_bytes x.id id) rows)) ≡ marked t (marks id rows)
    by true = refl
    by false = refl

-- the marks of a row's list, by what the test of the row is
marks_as : (id : List ℕ) (r : FoldRow) (rows : List FoldRow) (t : Bool) → is_of id r ≡ t → marks id (r ∷ rows) ≡ marked t (marks id rows)
marks_as id r rows t is = marks_cons id r rows ∙ ap (λ b. marked b (marks id rows)) is

module _ (id : List ℕ) (f : FoldRow → FoldRow) where
  update_past : (rows more : List FoldRow) → marks id rows ≡ [] → update_first (is_of id) f (rows ++ more) ≡ rows ++ update_first (is_of id) f more
  update_past [] more e = refl
  update_past (r ∷ rows) more e = by (is_of id r) (sym (marks_cons id r rows) ∙ e) (update_past rows more)
    where
      by : (t : Bool) → marked t (marks id rows) ≡ [] → (marks id rows ≡ [] → update_first (is_of id) f (rows ++ more) ≡ rows ++ update_first (is_of id) f more)
          → (if t then f r ∷ (rows ++ more) else r ∷ update_first (is_of id) f (rows ++ more)) ≡ r ∷ (rows ++ update_first (is_of id) f more)
      by true e rest = absurd (no_cons 0 (marks id rows) e)
      by false e rest = ap (λ l. r ∷ l) (rest e)

  update_here : (rows more : List FoldRow) (m : ℕ) (ms : List ℕ) → marks id rows ≡ m ∷ ms → update_first (is_of id) f (rows ++ more) ≡ update_first (is_of id) f rows ++ more
  update_here [] more m ms e = absurd (no_nil m ms e)
  update_here (r ∷ rows) more m ms e = by (is_of id r) (sym (marks_cons id r rows) ∙ e) (update_here rows more m ms)
    where
      by : (t : Bool) → marked t (marks id rows) ≡ m ∷ ms
          → (marks id rows ≡ m ∷ ms → update_first (is_of id) f (rows ++ more) ≡ update_first (is_of id) f rows ++ more)
          → (if t then f r ∷ (rows ++ more) else r ∷ update_first (is_of id) f (rows ++ more)) ≡ (if t then f r ∷ rows else r ∷ update_first (is_of id) f rows) ++ more
      by true e rest = refl
      by false e rest = ap (λ l. r ∷ l) (rest e)

  pub update_at_first : IsAtFirst id (update_first (is_of id) f)
  update_at_first = record { none = refl; past = update_past; here = update_here }

  -- the rows of an id stay where they are
  pub update_marks : ((r : FoldRow) → (f r).id ≡ r.id) → (q : List ℕ) (rows : List FoldRow) → marks q (update_first (is_of id) f rows) ≡ marks q rows
  update_marks keeps q [] = refl
  update_marks keeps q (r ∷ rows) = by (is_of id r) (update_marks keeps q rows)
    where
      by : (t : Bool) → marks q (update_first (is_of id) f rows) ≡ marks q rows
          → marks q (if t then f r ∷ rows else r ∷ update_first (is_of id) f rows) ≡ marks q (r ∷ rows)
      by true rest = marks_as q (f r) rows (is_of q r) (ap (λ i. same_bytes i q) (keeps r)) ∙ sym (marks_cons q r rows)
      by false rest = marks_cons q r (update_first (is_of id) f rows) ∙ ap (marked (is_of q r)) rest ∙ sym (marks_cons q r rows)

module _ (id : List ℕ) where
  remove_past : (rows more : List FoldRow) → marks id rows ≡ [] → remove_first (is_of id) (rows ++ more) ≡ rows ++ remove_first (is_of id) more
  remove_past [] more e = refl
  remove_past (r ∷ rows) more e = by (is_of id r) (sym (marks_cons id r rows) ∙ e) (remove_past rows more)
    where
      by : (t : Bool) → marked t (marks id rows) ≡ [] → (marks id rows ≡ [] → remove_first (is_of id) (rows ++ more) ≡ rows ++ remove_first (is_of id) more)
          → (if t then rows ++ more else r ∷ remove_first (is_of id) (rows ++ more)) ≡ r ∷ (rows ++ remove_first (is_of id) more)
      by true e rest = absurd (no_cons 0 (marks id rows) e)
      by false e rest = ap (λ l. r ∷ l) (rest e)

  remove_here : (rows more : List FoldRow) (m : ℕ) (ms : List ℕ) → marks id rows ≡ m ∷ ms → remove_first (is_of id) (rows ++ more) ≡ remove_first (is_of id) rows ++ more
  remove_here [] more m ms e = absurd (no_nil m ms e)
  remove_here (r ∷ rows) more m ms e = by (is_of id r) (sym (marks_cons id r rows) ∙ e) (remove_here rows more m ms)
    where
      by : (t : Bool) → marked t (marks id rows) ≡ m ∷ ms
          → (marks id rows ≡ m ∷ ms → remove_first (is_of id) (rows ++ more) ≡ remove_first (is_of id) rows ++ more)
          → (if t then rows ++ more else r ∷ remove_first (is_of id) (rows ++ more)) ≡ (if t then rows else r ∷ remove_first (is_of id) rows) ++ more
      by true e rest = refl
      by false e rest = ap (λ l. r ∷ l) (rest e)

  pub remove_at_first : IsAtFirst id (remove_first (is_of id))
  remove_at_first = record { none = refl; past = remove_past; here = remove_here }

  -- the first row of the id is gone
  pub remove_marks : (rows : List FoldRow) → marks id (remove_first (is_of id) rows) ≡ drop 1 (marks id rows)
  remove_marks [] = refl
  remove_marks (r ∷ rows) = by (is_of id r) refl (remove_marks rows)
    where
      by : (t : Bool) → is_of id r ≡ t → marks id (remove_first (is_of id) rows) ≡ drop 1 (marks id rows)
          → marks id (if t then rows else r ∷ remove_first (is_of id) rows) ≡ drop 1 (marks id (r ∷ rows))
      by true is rest = sym (ap (λ l. drop 1 l) (marks_as id r rows true is))
      by false is rest = marks_as id r (remove_first (is_of id) rows) false is ∙ rest ∙ sym (ap (λ l. drop 1 l) (marks_as id r rows false is))

  -- those of another stay
  pub remove_others : (q : List ℕ) → same_bytes id q ≡ false → (rows : List FoldRow) → marks q (remove_first (is_of id) rows) ≡ marks q rows
  remove_others q other [] = refl
  remove_others q other (r ∷ rows) = by (is_of id r) refl (remove_others q other rows)
    where
      by : (t : Bool) → is_of id r ≡ t → marks q (remove_first (is_of id) rows) ≡ marks q rows
          → marks q (if t then rows else r ∷ remove_first (is_of id) rows) ≡ marks q (r ∷ rows)
      by true is rest = sym (marks_as q r rows false (ap (λ i. same_bytes i q) ((bytes_eq-Decides r.id id).0 is) ∙ other))
      by false is rest = marks_cons q r (remove_first (is_of id) rows) ∙ ap (marked (is_of q r)) rest ∙ sym (marks_cons q r rows)
