-- Items in rows: what a change of one row is to all items.
use Rattle.std.proofs.Common.{◌≡◌, ℕ, suc, zero, ◌+◌, ◌*◌, ◌<◌, ◌≤◌, ◌⊎◌, inl, inr, List, [], ◌∷◌, ◌++◌, length, get_or, refl, sym, ◌∙◌, subst, ap, arith, length-append, length-set}
use Rattle.std.specs.Prelude.{◌-◌, ◌/◌, ◌%◌}
use Rattle.std.specs.List.{insert, remove}
use Rattle.std.proofs.lemmas.Bool.{cases_lt}
use Rattle.std.proofs.lemmas.List.{append-nil, append_assoc, get_or_append_left, get_or-append_right, set-append_left, set-append_right}
use Rattle.std.proofs.lemmas.List.Edits.{insert-append_right, remove-append_right}
use Rattle.std.proofs.Math.ListN.{set}
use Rattle.std.specs.VecDeque.{deque_capacity, deque_with_item}
use Rattle.std.specs.declared.collections.VecDeque.{VecDeque}
use Rattle.container_table.specs.Rows.{row_length, joined, IsRow, AreRows}

module _ {T Z : Type 0} where
  alone : (row : VecDeque T Z) (behind : List T) → IsRow row behind → length row.items < row_length → length (row.items ++ behind) ≡ length row.items
  alone row behind is less =
      let none : length behind ≡ 0 = ap length (is.full less) in
      let both : length (row.items ++ behind) ≡ length row.items + length behind = length-append row.items behind in omega arith

  -- a row is full that has so much behind its start
  pub full_row : (row : VecDeque T Z) (behind : List T) (i : ℕ) → IsRow row behind → row_length ≤ i → i ≤ length (row.items ++ behind) → length row.items ≡ row_length
  full_row row behind i is far within = go (cases_lt (length row.items) row_length)
    where
      go : (length row.items < row_length) ⊎ (row_length ≤ length row.items) → length row.items ≡ row_length
      go (inl less) = let same : length (row.items ++ behind) ≡ length row.items = alone row behind is less in absurd (omega arith)
      go (inr more) = let fits : length row.items ≤ row_length = is.fits in omega arith

  pub put_behind : (row : VecDeque T Z) (rows rest more : List (VecDeque T Z)) (i : ℕ) (x : T) → rows ≡ row ∷ rest → AreRows rows → row_length ≤ i → i ≤ length (joined rows)
      → joined more ≡ insert (joined rest) (i - row_length) x → row.items ++ joined more ≡ insert (joined rows) i x
  put_behind row rows rest more i x is are far within put =
      ap (λ (l : List T). row.items ++ l) put ∙ sym (insert-append_right row.items (joined rest) row_length i x full far) ∙ ap (λ (l : List (VecDeque T Z)). insert (joined l) i x) (sym is)
    where
      here : AreRows (row ∷ rest)
      here = subst (λ (l : List (VecDeque T Z)). AreRows l) is are

      full : length row.items ≡ row_length
      full = full_row row (joined rest) i here.0 far (subst (λ (l : List (VecDeque T Z)). i ≤ length (joined l)) is within)

  pub out_behind : (row : VecDeque T Z) (rows rest less : List (VecDeque T Z)) (i : ℕ) → rows ≡ row ∷ rest → AreRows rows → row_length ≤ i → i < length (joined rows)
      → joined less ≡ remove (joined rest) (i - row_length) → row.items ++ joined less ≡ remove (joined rows) i
  out_behind row rows rest less i is are far within out =
      let here : AreRows (row ∷ rest) = subst (λ (l : List (VecDeque T Z)). AreRows l) is are in
      let low : i < length (joined (row ∷ rest)) = subst (λ (l : List (VecDeque T Z)). i < length (joined l)) is within in
      let full : length row.items ≡ row_length = full_row row (joined rest) i here.0 far (omega arith) in
      ap (λ (l : List T). row.items ++ l) out ∙ sym (remove-append_right row.items (joined rest) row_length i full far) ∙ ap (λ (l : List (VecDeque T Z)). remove (joined l) i) (sym is)

  -- ---- the item at a place

  pub in_first : (row : VecDeque T Z) (behind : List T) (k : ℕ) → IsRow row behind → k < row_length → k < length (row.items ++ behind) → k < length row.items
  in_first row behind k is low within = go (cases_lt (length row.items) row_length)
    where
      go : (length row.items < row_length) ⊎ (row_length ≤ length row.items) → k < length row.items
      go (inl less) = let same : length (row.items ++ behind) ≡ length row.items = alone row behind is less in omega arith
      go (inr more) = omega arith

  pub record Stands (rows : List (VecDeque T Z)) (r k : ℕ) (q : VecDeque T Z) : Type 0 where
    pub row : r < length rows
    pub place : k < length (get_or rows r q).items
    pub is : (d : T) → get_or (joined rows) (row_length * r + k) d ≡ get_or (get_or rows r q).items k d

  pub stands : (rows : List (VecDeque T Z)) (r k : ℕ) (q : VecDeque T Z) → AreRows rows → k < row_length → row_length * r + k < length (joined rows) → Stands rows r k q
  stands [] r k q are low within = absurd (omega arith)
  stands (row ∷ rows) zero k q are low within =
      let here : k < length row.items = in_first row (joined rows) k are.0 low (omega arith) in record {
        row = omega arith;
        place = here;
        is = λ d. ap (λ (j : ℕ). get_or (row.items ++ joined rows) j d) (start k) ∙ get_or_append_left row.items (joined rows) d k here;
      }
    where
      start : (k : ℕ) → row_length * 0 + k ≡ k
      start k = omega arith
  stands (row ∷ rows) (suc r) k q are low within =
      let full : length row.items ≡ row_length = full_row row (joined rows) (row_length * suc r + k) are.0 (omega arith) (omega arith) in
      let both : length (row.items ++ joined rows) ≡ length row.items + length (joined rows) = length-append row.items (joined rows) in
      let more : Stands rows r k q = stands rows r k q are.1 low (omega arith) in record {
        row = let low' : r < length rows = more.row in omega arith;
        place = more.place;
        is = λ d. get_or-append_right row.items (joined rows) row_length (row_length * suc r + k) d full (omega arith) ∙ ap (λ (j : ℕ). get_or (joined rows) j d) (behind r k) ∙ more.is d;
      }
    where
      behind : (r k : ℕ) → row_length * suc r + k - row_length ≡ row_length * r + k
      behind r k = omega arith

  -- ---- a row more

  pub rows_more : (rows : List (VecDeque T Z)) (row : VecDeque T Z) → AreRows rows → row_length ≤ deque_capacity row → row.items ≡ [] → AreRows (rows ++ row ∷ []) × (joined (rows ++ row ∷ []) ≡ joined rows)
  rows_more [] row are room empty = ((record { room = room; fits = subst (λ (l : List T). length l ≤ row_length) (sym empty) (omega arith); full = λ less. refl }, tt), ap (λ (l : List T). l ++ []) empty)
  rows_more (x ∷ xs) row are room empty =
      let more = rows_more xs row are.1 room empty in
      ((record { room = are.0.room; fits = are.0.fits; full = λ less. more.1 ∙ are.0.full less }, more.0), ap (λ (l : List T). x.items ++ l) more.1)

  pub few_items : (rows : List (VecDeque T Z)) → AreRows rows → length (joined rows) ≤ row_length * length rows
  few_items [] are = omega arith
  few_items (row ∷ rows) are =
      let both : length (row.items ++ joined rows) ≡ length row.items + length (joined rows) = length-append row.items (joined rows) in
      let fits : length row.items ≤ row_length = are.0.fits in
      let more : length (joined rows) ≤ row_length * length rows = few_items rows are.1 in omega arith

  pub row_there : (rows : List (VecDeque T Z)) (i : ℕ) → AreRows rows → i < length (joined rows) → i / row_length < length rows
  row_there rows i are within = let few : length (joined rows) ≤ row_length * length rows = few_items rows are in omega arith

  pub item_there : (rows : List (VecDeque T Z)) (i : ℕ) (q : VecDeque T Z) → AreRows rows → i < length (joined rows)
      → (i % row_length < length (get_or rows (i / row_length) q).items) × ((d : T) → get_or (joined rows) i d ≡ get_or (get_or rows (i / row_length) q).items (i % row_length) d)
  item_there rows i q are within =
      let is : row_length * (i / row_length) + i % row_length ≡ i = omega arith in
      let there : Stands rows (i / row_length) (i % row_length) q = stands rows (i / row_length) (i % row_length) q are (omega arith) (omega arith) in
      (there.place, λ d. ap (λ (j : ℕ). get_or (joined rows) j d) (sym is) ∙ there.is d)

  -- ---- the item at a place, changed

  pub set_there : (rows : List (VecDeque T Z)) (r k : ℕ) (q : VecDeque T Z) (w : T) → AreRows rows → k < row_length → row_length * r + k < length (joined rows) → q ≡ get_or rows r q
      → AreRows (set rows r (deque_with_item q k w)) × (joined (set rows r (deque_with_item q k w)) ≡ set (joined rows) (row_length * r + k) w)
  set_there [] r k q w are low within is = absurd (omega arith)
  set_there (row ∷ rows) zero k q w are low within is =
      let here : k < length row.items = in_first row (joined rows) k are.0 low (omega arith) in
      let same : length (set row.items k w) ≡ length row.items = length-set row.items k w in (
        (
          subst (λ (p : VecDeque T Z). IsRow (deque_with_item p k w) (joined rows)) (sym is) (record {
            room = are.0.room;
            fits = subst (λ (n : ℕ). n ≤ row_length) (sym same) are.0.fits;
            full = λ less. are.0.full (omega (arith, less, same));
          }),
          are.1,
        ),
        ap (λ (p : VecDeque T Z). set p.items k w ++ joined rows) is ∙ sym (set-append_left row.items (joined rows) k w here) ∙ ap (λ (j : ℕ). set (row.items ++ joined rows) j w) (start k),
      )
    where
      start : (k : ℕ) → k ≡ row_length * 0 + k
      start k = omega arith
  set_there (row ∷ rows) (suc r) k q w are low within is =
      let full : length row.items ≡ row_length = full_row row (joined rows) (row_length * suc r + k) are.0 (omega arith) (omega arith) in
      let both : length (row.items ++ joined rows) ≡ length row.items + length (joined rows) = length-append row.items (joined rows) in
      let more = set_there rows r k q w are.1 low (omega arith) is in (
        (record { room = are.0.room; fits = are.0.fits; full = λ less. absurd (omega (arith, less, full)) }, more.0),
        ap (λ (l : List T). row.items ++ l) more.1 ∙ ap (λ (j : ℕ). row.items ++ set (joined rows) j w) (behind r k)
            ∙ sym (set-append_right row.items (joined rows) row_length (row_length * suc r + k) w full (omega arith)),
      )
    where
      behind : (r k : ℕ) → row_length * r + k ≡ row_length * suc r + k - row_length
      behind r k = omega arith

  -- ---- an item more

  pub pushed_there : (rows : List (VecDeque T Z)) (r : ℕ) (q new : VecDeque T Z) (x : T) → AreRows rows → r < length rows → row_length * r ≤ length (joined rows) → length (joined rows) < row_length * suc r → q ≡ get_or rows r q
      → new.items ≡ q.items ++ x ∷ [] → deque_capacity new ≡ deque_capacity q → AreRows (set rows r new) × (joined (set rows r new) ≡ joined rows ++ x ∷ [])
  pushed_there [] r q new x are there low high is items room = absurd (omega arith)
  pushed_there (row ∷ rows) zero q new x are there low high is items room =
      let both : length (row.items ++ joined rows) ≡ length row.items + length (joined rows) = length-append row.items (joined rows) in
      let none : joined rows ≡ [] = are.0.full (omega arith) in
      let more : new.items ≡ row.items ++ x ∷ [] = items ∙ ap (λ (p : VecDeque T Z). p.items ++ x ∷ []) is in
      let long : length new.items ≡ length row.items + 1 = ap length more ∙ length-append row.items (x ∷ []) in (
        (
          record {
            room = subst (λ (n : ℕ). row_length ≤ n) (sym (room ∙ ap deque_capacity is)) are.0.room;
            fits = omega arith;
            full = λ less. none;
          },
          are.1,
        ),
        ap (λ (l : List T). new.items ++ l) none ∙ append-nil new.items ∙ more ∙ ap (λ (l : List T). l ++ x ∷ []) (sym (append-nil row.items) ∙ ap (λ (l : List T). row.items ++ l) (sym none)),
      )
  pushed_there (row ∷ rows) (suc r) q new x are there low high is items room =
      let full : length row.items ≡ row_length = full_row row (joined rows) (row_length * suc r) are.0 (omega arith) (omega arith) in
      let both : length (row.items ++ joined rows) ≡ length row.items + length (joined rows) = length-append row.items (joined rows) in
      let more = pushed_there rows r q new x are.1 (omega arith) (omega arith) (omega arith) is items room in (
        (record { room = are.0.room; fits = are.0.fits; full = λ less. absurd (omega (arith, less, full)) }, more.0),
        ap (λ (l : List T). row.items ++ l) more.1 ∙ sym (append_assoc row.items (joined rows) (x ∷ [])),
      )

  pub changed_there : (rows : List (VecDeque T Z)) (i : ℕ) (q : VecDeque T Z) (w : T) → AreRows rows → i < length (joined rows) → q ≡ get_or rows (i / row_length) q
      → AreRows (set rows (i / row_length) (deque_with_item q (i % row_length) w)) × (joined (set rows (i / row_length) (deque_with_item q (i % row_length) w)) ≡ set (joined rows) i w)
  changed_there rows i q w are within row =
      let is : row_length * (i / row_length) + i % row_length ≡ i = omega arith in
      let there = set_there rows (i / row_length) (i % row_length) q w are (omega arith) (omega arith) row in
      (there.0, there.1 ∙ ap (λ (j : ℕ). set (joined rows) j w) is)

  pub next_row : (rows : List (VecDeque T Z)) (n : ℕ) → n ≡ length (joined rows) → n < row_length * length rows → n / row_length < length rows
  next_row rows n is room = omega arith

  next_there : (rows : List (VecDeque T Z)) (r : ℕ) (q : VecDeque T Z) → AreRows rows → r < length rows → row_length * r ≤ length (joined rows) → length (joined rows) < row_length * suc r
      → length (get_or rows r q).items < deque_capacity (get_or rows r q)
  next_there [] r q are there low high = absurd (omega arith)
  next_there (row ∷ rows) zero q are there low high =
      let both : length (row.items ++ joined rows) ≡ length row.items + length (joined rows) = length-append row.items (joined rows) in
      let room : row_length ≤ deque_capacity row = are.0.room in omega arith
  next_there (row ∷ rows) (suc r) q are there low high =
      let full : length row.items ≡ row_length = full_row row (joined rows) (row_length * suc r) are.0 (omega arith) (omega arith) in
      let both : length (row.items ++ joined rows) ≡ length row.items + length (joined rows) = length-append row.items (joined rows) in
      next_there rows r q are.1 (omega arith) (omega arith) (omega arith)

  -- the row of the next item has room
  pub next_room : (rows : List (VecDeque T Z)) (n : ℕ) (q : VecDeque T Z) → AreRows rows → n ≡ length (joined rows) → n < row_length * length rows → q ≡ get_or rows (n / row_length) q
      → length q.items < deque_capacity q
  next_room rows n q are is room row =
      subst (λ (p : VecDeque T Z). length p.items < deque_capacity p) (sym row) (next_there rows (n / row_length) q are (next_row rows n is room) (omega arith) (omega arith))

  pub pushed : (rows : List (VecDeque T Z)) (n : ℕ) (q new : VecDeque T Z) (x : T) → AreRows rows → n ≡ length (joined rows) → n < row_length * length rows → q ≡ get_or rows (n / row_length) q
      → new.items ≡ q.items ++ x ∷ [] → deque_capacity new ≡ deque_capacity q → AreRows (set rows (n / row_length) new) × (joined (set rows (n / row_length) new) ≡ joined rows ++ x ∷ [])
  pushed rows n q new x are is room row items same = pushed_there rows (n / row_length) q new x are (next_row rows n is room) (omega arith) (omega arith) row items same
