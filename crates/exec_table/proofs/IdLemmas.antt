-- The numbers of execs in order of their ids: one found, one put in, some taken out.
use Rattle.std.proofs.Common.{◌≡◌, ℕ, zero, suc, ◌≤◌, Bool, true, false, if◌then◌else◌, List, [], ◌∷◌, ◌++◌, length, get_or, map, Option, Some, None, Result, Ok, Err, find, refl, sym, ◌∙◌, subst, ap, Ordering, MatchResult, eqb, arith}
use Rattle.std.specs.List.{AllByRecursion, insert, remove}
use Rattle.std.specs.List.Sorted.{IsBinarySearchResult, IsSearchInRange, IsStrictlySortedBy, IsNonDecreasingBy}
use Rattle.std.specs.Ordering.{ordering_index, is_lt}
use Rattle.std.specs.Cmp.{IsStrictWeakOrder}
use Rattle.std.proofs.lemmas.Bool.Decides.{nat_tests}
use Rattle.std.proofs.lemmas.Cmp.{nat_list_cmp_total}
use Rattle.std.proofs.lemmas.List.{length-map}
use Rattle.std.proofs.lemmas.List.Sorted.{ranks_by}
use Rattle.std.specs.declared.cmp.Ordering.TheVariants.{Less, Equal, Greater}
use Rattle.engine_text.specs.declared.exec.Exec.{Exec}
use Rattle.engine_text.specs.Lists.{remove_first, update_first}
use Rattle.engine_text.specs.Texts.{same_bytes}
use Rattle.container_table.specs.Order.{are_apart, AreApart}
use Rattle.container_table.specs.Search.{HoldsOf, Parts}
use Rattle.container_table.proofs.PlacedLemmas.{AreAlone, all_imp, all_in_order, all_found, alone_in_order, in_order_back, apart_append, apart_removed, in_order_append, in_order_remove, ordered, in_order_changed, length-in_order}
use Rattle.container_table.proofs.SearchLemmas.{Rises, rises_far, rises_made, found_place, holds_back, parts_back, find_at, find_none, none_passes, all_of_parts, parts_imp, insert_at, remove_at}
use Rattle.container_table.proofs.TextLemmas.{order, is_lt-Less, places_rise, same_if_equal, other_if_less, other_if_greater}
use Rattle.container_table.proofs.IndexLemmas.{apart_texts}
use Rattle.container_table.proofs.PrefixLemmas.{find_in_order, other_text}
use Rattle.container_table.proofs.KeptLemmas.{apart_kept, map_kept, none_all}
use Rattle.container_table.proofs.BoxLemmas.{remove_none}
use Rattle.exec_table.specs.Execs.{exec_numbered, exec_with_id}
use Rattle.exec_table.specs.ExecsInside.{by_row, execs_in, is_id_before, sorted_by_id, IsIndex, IsFresh, found_id, id_order}
use Rattle.exec_table.specs.declared.row.Row.{Row}
use Rattle.exec_table.proofs.OrderLemmas.{all_numbered, numbers_alone}

pub id_ranks : IsStrictWeakOrder is_id_before
id_ranks = ranks_by nat_list_cmp_total (λ (x : Exec). x.id)

-- ---- found

-- where an id was found in the order of ids, or would stand
abbrev pub IsLocated : List Exec → List ℕ → Result ℕ ℕ → Type 0
IsLocated xs id r =
    MatchResult r (HoldsOf (λ x. same_bytes x.id id ≡ true) (sorted_by_id xs))
    (Parts (λ x. order x.id id ≡ Less) (λ x. order x.id id ≡ Greater) (sorted_by_id xs))

abbrev HasOwnId : List Row → List ℕ → Exec → Type 0
HasOwnId rows id x = id_order (execs_in rows) id x.number ≡ order x.id id

own_ids : (rows : List Row) (id : List ℕ) → IsStrictlySortedBy by_row rows → AllByRecursion (HasOwnId rows id) (sorted_by_id (execs_in rows))
own_ids rows id sorted =
    all_in_order is_id_before (HasOwnId rows id) (execs_in rows)
    (all_imp (λ x. exec_numbered x.number (execs_in rows) ≡ Some x) (HasOwnId rows id) (λ x e. ap (λ (o : Option Exec). order (found_id o) id) e) (execs_in rows) (all_numbered rows sorted))

rises_ids : (id : List ℕ) (x y : Exec) → is_id_before x y ≡ true → ordering_index (order x.id id) ≤ ordering_index (order y.id id)
rises_ids id x y e = places_rise order nat_list_cmp_total x.id y.id id (is_lt-Less (order x.id y.id) e)

ids_rise : (rows : List Row) (id : List ℕ) → IsStrictlySortedBy by_row rows → AreApart is_id_before (execs_in rows)
    → Rises (λ n. ordering_index (id_order (execs_in rows) id n)) (map (λ x. x.number) (sorted_by_id (execs_in rows)))
ids_rise rows id sorted apart =
    rises_made (λ (x : Exec). x.number) (λ n. ordering_index (id_order (execs_in rows) id n)) (λ x. ordering_index (order x.id id)) is_id_before (sorted_by_id (execs_in rows))
    (ordered is_id_before id_ranks (execs_in rows) apart)
    (all_imp (HasOwnId rows id) (λ x. ordering_index (id_order (execs_in rows) id x.number) ≡ ordering_index (order x.id id)) (λ x e. ap ordering_index e) (sorted_by_id (execs_in rows)) (own_ids rows id sorted))
    (rises_ids id)

pub ids_dont_fall : (rows : List Row) (id : List ℕ) (ids : List ℕ) → IsStrictlySortedBy by_row rows → IsIndex (execs_in rows) ids → IsNonDecreasingBy (λ n. ordering_index (id_order (execs_in rows) id n)) ids
ids_dont_fall rows id ids sorted index =
    rises_far (λ n. ordering_index (id_order (execs_in rows) id n)) ids
    (subst (λ (es : List ℕ). Rises (λ n. ordering_index (id_order (execs_in rows) id n)) es) (sym index.is) (ids_rise rows id sorted index.apart))

pub located : (rows : List Row) (id : List ℕ) (ids : List ℕ) (r : Result ℕ ℕ) → IsStrictlySortedBy by_row rows → IsIndex (execs_in rows) ids
    → IsSearchInRange r (length ids) → IsBinarySearchResult (id_order (execs_in rows) id) ids r → IsLocated (execs_in rows) id r
located rows id ids r sorted index bound found = go r (found_place (id_order (execs_in rows) id) (map (λ x. x.number) l) r (ids_rise rows id sorted index.apart) bound' found')
  where
    l : List Exec
    l = sorted_by_id (execs_in rows)

    bound' : IsSearchInRange r (length (map (λ (x : Exec). x.number) l))
    bound' = subst (λ (es : List ℕ). IsSearchInRange r (length es)) index.is bound

    found' : IsBinarySearchResult (id_order (execs_in rows) id) (map (λ (x : Exec). x.number) l) r
    found' = subst (λ (es : List ℕ). IsBinarySearchResult (id_order (execs_in rows) id) es r) index.is found

    as_whole : (o : Ordering) → AllByRecursion (λ x. id_order (execs_in rows) id x.number ≡ o → order x.id id ≡ o) l
    as_whole o = all_imp (HasOwnId rows id) (λ x. id_order (execs_in rows) id x.number ≡ o → order x.id id ≡ o) (λ x e f. sym e ∙ f) l (own_ids rows id sorted)

    go : (r : Result ℕ ℕ) → MatchResult r (HoldsOf (λ n. id_order (execs_in rows) id n ≡ Equal) (map (λ x. x.number) l)) (Parts (λ n. id_order (execs_in rows) id n ≡ Less) (λ n. id_order (execs_in rows) id n ≡ Greater) (map (λ x. x.number) l))
        → IsLocated (execs_in rows) id r
    go (Ok i) m = holds_back (λ (x : Exec). x.number) (λ n. id_order (execs_in rows) id n ≡ Equal) (λ x. same_bytes x.id id ≡ true) l i
        (all_imp (λ x. id_order (execs_in rows) id x.number ≡ Equal → order x.id id ≡ Equal) (λ x. id_order (execs_in rows) id x.number ≡ Equal → same_bytes x.id id ≡ true)
        (λ x e f. same_if_equal x.id id (e f)) l (as_whole Equal)) m
    go (Err i) m = parts_back (λ (x : Exec). x.number) (λ n. id_order (execs_in rows) id n ≡ Less) (λ n. id_order (execs_in rows) id n ≡ Greater) (λ x. order x.id id ≡ Less) (λ x. order x.id id ≡ Greater) l i
        (as_whole Less) (as_whole Greater) m

ids_alone : (id : List ℕ) (xs : List Exec) → AreApart is_id_before xs → AreAlone (λ x. same_bytes x.id id) xs
ids_alone id [] h = tt
ids_alone id (x ∷ xs) h =
    (λ e. all_imp (λ y. are_apart is_id_before x y ≡ true) (λ y. same_bytes y.id id ≡ false) (λ y a. other_text x.id y.id id a e) xs h.0, ids_alone id xs h.1)

pub found_here : (rows : List Row) (id : List ℕ) (ids : List ℕ) (i : ℕ) (d : ℕ) → IsStrictlySortedBy by_row rows → IsIndex (execs_in rows) ids
    → HoldsOf (λ x. same_bytes x.id id ≡ true) (sorted_by_id (execs_in rows)) i
    → exec_numbered (get_or ids i d) (execs_in rows) ≡ exec_with_id id (execs_in rows)
found_here rows id ids i d sorted index at =
    ap (λ (es : List ℕ). exec_numbered (get_or es i d) xs) index.is ∙ ap (λ n. exec_numbered n xs) (one.2 d)
    ∙ all_found (λ x. exec_numbered x.number xs ≡ Some x) p xs one.0 (all_numbered rows sorted) found ∙ sym found
  where
    xs : List Exec
    xs = execs_in rows

    p : Exec → Bool
    p x = same_bytes x.id id

    alone : AreAlone p xs
    alone = ids_alone id xs index.apart

    one : (x : Exec) × (find p (sorted_by_id xs) ≡ Some x) × ((d : ℕ) → get_or (map (λ (x : Exec). x.number) (sorted_by_id xs)) i d ≡ x.number)
    one = find_at (λ (x : Exec). x.number) p (sorted_by_id xs) i (alone_in_order is_id_before p xs alone) at

    found : find p xs ≡ Some one.0
    found = sym (find_in_order is_id_before p xs alone) ∙ one.1

pub none_here : (id : List ℕ) (xs : List Exec) (i : ℕ) → Parts (λ x. order x.id id ≡ Less) (λ x. order x.id id ≡ Greater) (sorted_by_id xs) i → exec_with_id id xs ≡ None
none_here id xs i at =
    find_none (λ x. same_bytes x.id id) xs (in_order_back is_id_before (λ x. same_bytes x.id id ≡ false) xs
    (all_of_parts (λ x. order x.id id ≡ Less) (λ x. order x.id id ≡ Greater) (λ x. same_bytes x.id id ≡ false) (sorted_by_id xs) i
    (λ x e. other_if_less x.id id e) (λ x e. other_if_greater x.id id e) at))

-- ---- put in

pub fresh_for : (id : List ℕ) (xs ys : List Exec) → xs ≡ ys → exec_with_id id ys ≡ None → IsFresh id xs
fresh_for id xs ys e none = none_all (λ x. same_bytes x.id id) xs (ap (find (λ x. same_bytes x.id id)) e ∙ none)

pub none_fresh : (xs : List Exec) (id : List ℕ) (i : ℕ) → IsFresh id xs → HoldsOf (λ x. same_bytes x.id id ≡ true) (sorted_by_id xs) i → ⊥
none_fresh xs id i fresh h =
    none_passes (λ x. same_bytes x.id id) (sorted_by_id xs) i (all_in_order is_id_before (λ x. same_bytes x.id id ≡ false) xs fresh) h

pub filed : (xs : List Exec) (x : Exec) (ids more : List ℕ) (i : ℕ) → IsIndex xs ids → IsFresh x.id xs
    → Parts (λ y. order y.id x.id ≡ Less) (λ y. order y.id x.id ≡ Greater) (sorted_by_id xs) i
    → more ≡ insert ids i x.number → IsIndex (xs ++ x ∷ []) more
filed xs x ids more i index fresh at put = record {
  apart = apart_append is_id_before xs x index.apart apart;
  is =
      put ∙ ap (λ (es : List ℕ). insert es i x.number) index.is
      ∙ insert_at (λ (y : Exec). y.number) is_id_before x (sorted_by_id xs) i
      (parts_imp (λ y. order y.id x.id ≡ Less) (λ y. order y.id x.id ≡ Greater) (λ y. is_id_before y x ≡ true) (λ y. is_id_before y x ≡ false)
      (sorted_by_id xs) i (before x) (behind x) at)
      ∙ ap (map (λ (y : Exec). y.number)) (sym (in_order_append is_id_before id_ranks xs x apart));
}
  where
    before : (x y : Exec) → order y.id x.id ≡ Less → is_id_before y x ≡ true
    before x y e = ap is_lt e

    behind : (x y : Exec) → order y.id x.id ≡ Greater → is_id_before y x ≡ false
    behind x y e = ap is_lt e

    apart : AllByRecursion (λ y. are_apart is_id_before y x ≡ true) xs
    apart = all_imp (λ y. same_bytes y.id x.id ≡ false) (λ y. are_apart is_id_before y x ≡ true) (λ y e. apart_texts y.id x.id e) xs fresh

-- ---- kept where neither numbers nor ids change

pub index_kept : (n : ℕ) (f : Exec → Exec) (xs ys : List Exec) (ids : List ℕ) → ((x : Exec) → (f x).id ≡ x.id) → ((x : Exec) → (f x).number ≡ x.number)
    → AreAlone (λ x. eqb x.number n) xs → ys ≡ update_first (λ x. eqb x.number n) f xs → IsIndex xs ids → IsIndex ys ids
index_kept n f xs ys ids same number alone e index = subst (λ (zs : List Exec). IsIndex zs ids) (sym e) (record {
  apart = apart_kept is_id_before (λ x. eqb x.number n) f left right xs index.apart;
  is =
      index.is ∙ sym (map_kept (λ (x : Exec). x.number) (λ x. eqb x.number n) f number (sorted_by_id xs))
      ∙ ap (map (λ (x : Exec). x.number)) (sym (in_order_changed is_id_before id_ranks (λ x. eqb x.number n) f left right (λ x. ap (λ m. eqb m n) (number x)) xs alone));
})
  where
    left : (y z : Exec) → is_id_before (f y) z ≡ is_id_before y z
    left y z = rw (same y) refl

    right : (y z : Exec) → is_id_before y (f z) ≡ is_id_before y z
    right y z = rw (same z) refl

-- ---- one taken out

own_byte : (n : ℕ) → eqb n n ≡ true
own_byte n = grind (arith, nat_tests)

own_bytes : (a : List ℕ) → same_bytes a a ≡ true
own_bytes [] = refl
own_bytes (n ∷ ns) = rw (own_byte n) (own_bytes ns)

-- who has the id of the exec with that number is that exec
only_one : (n : ℕ) (x : Exec) (xs : List Exec) → AreAlone (λ y. same_bytes y.id x.id) xs → exec_numbered n xs ≡ Some x → same_bytes x.id x.id ≡ true
    → AllByRecursion (λ y. same_bytes y.id x.id ≡ true → eqb y.number n ≡ true) xs
only_one n x [] alone found same = tt
only_one n x (y ∷ ys) alone found same = go (eqb y.number n) refl found (λ f. only_one n x ys alone.1 f same)
  where
    go : (b : Bool) → eqb y.number n ≡ b → (if b then Some y else exec_numbered n ys) ≡ Some x → (exec_numbered n ys ≡ Some x → AllByRecursion (λ y. same_bytes y.id x.id ≡ true → eqb y.number n ≡ true) ys)
        → AllByRecursion (λ y. same_bytes y.id x.id ≡ true → eqb y.number n ≡ true) (y ∷ ys)
    go true e f more =
        let is : x ≡ y = cc in (
          λ p. e,
          all_imp (λ z. same_bytes z.id x.id ≡ false) (λ z. same_bytes z.id x.id ≡ true → eqb z.number n ≡ true) (λ z no yes. absurd (cc)) ys
              (alone.0 (subst (λ (z : Exec). same_bytes z.id x.id ≡ true) is same)),
        )
    go false e f more =
        (λ p. let no : same_bytes x.id x.id ≡ false = all_found (λ z. same_bytes z.id x.id ≡ false) (λ z. eqb z.number n) ys x (alone.0 p) f in absurd (cc), more f)

holds_all : (P Q : Exec → Type 0) (l : List Exec) (i : ℕ) → AllByRecursion (λ y. P y → Q y) l → HoldsOf P l i → HoldsOf Q l i
holds_all P Q [] i h e = e
holds_all P Q (y ∷ ys) zero h e = h.0 e
holds_all P Q (y ∷ ys) (suc i) h e = holds_all P Q ys i h.1 e

pub unfiled : (rows : List Row) (n : ℕ) (x : Exec) (ids : List ℕ) (i : ℕ) → IsStrictlySortedBy by_row rows → IsIndex (execs_in rows) ids → exec_numbered n (execs_in rows) ≡ Some x
    → HoldsOf (λ y. same_bytes y.id x.id ≡ true) (sorted_by_id (execs_in rows)) i → IsIndex (remove_first (λ (y : Exec). eqb y.number n) (execs_in rows)) (remove ids i)
unfiled rows n x ids i sorted index found at = record {
  apart = apart_removed is_id_before (λ (y : Exec). eqb y.number n) (execs_in rows) index.apart;
  is =
      ap (λ (es : List ℕ). remove es i) index.is
      ∙ remove_at (λ (y : Exec). y.number) (λ (y : Exec). eqb y.number n) (sorted_by_id (execs_in rows)) i
      (alone_in_order is_id_before (λ (y : Exec). eqb y.number n) (execs_in rows) (numbers_alone n rows sorted))
      (holds_all (λ y. same_bytes y.id x.id ≡ true) (λ y. eqb y.number n ≡ true) (sorted_by_id (execs_in rows)) i
      (all_in_order is_id_before (λ y. same_bytes y.id x.id ≡ true → eqb y.number n ≡ true) (execs_in rows)
      (only_one n x (execs_in rows) (ids_alone x.id (execs_in rows) index.apart) found (own_bytes x.id))) at)
      ∙ ap (map (λ (y : Exec). y.number)) (sym (in_order_remove is_id_before id_ranks (λ (y : Exec). eqb y.number n) (execs_in rows) index.apart (numbers_alone n rows sorted)));
}

pub none_unfiled : (rows : List Row) (n : ℕ) (x : Exec) (i : ℕ) → exec_numbered n (execs_in rows) ≡ Some x
    → Parts (λ y. order y.id x.id ≡ Less) (λ y. order y.id x.id ≡ Greater) (sorted_by_id (execs_in rows)) i → ⊥
none_unfiled rows n x i found at =
    let other : same_bytes x.id x.id ≡ false = all_found (λ y. same_bytes y.id x.id ≡ false) (λ y. eqb y.number n) (execs_in rows) x
    (in_order_back is_id_before (λ y. same_bytes y.id x.id ≡ false) (execs_in rows)
    (all_of_parts (λ y. order y.id x.id ≡ Less) (λ y. order y.id x.id ≡ Greater) (λ y. same_bytes y.id x.id ≡ false) (sorted_by_id (execs_in rows)) i
    (λ y e. other_if_less y.id x.id e) (λ y e. other_if_greater y.id x.id e) at)) found in
    let same : same_bytes x.id x.id ≡ true = own_bytes x.id in absurd (cc)

-- where none has the number
pub index_without : (n : ℕ) (xs : List Exec) (ids : List ℕ) → exec_numbered n xs ≡ None → IsIndex xs ids → IsIndex (remove_first (λ (y : Exec). eqb y.number n) xs) ids
index_without n xs ids none index = subst (λ (ys : List Exec). IsIndex ys ids) (sym (go xs none)) index
  where
    go : (xs : List Exec) → exec_numbered n xs ≡ None → remove_first (λ (y : Exec). eqb y.number n) xs ≡ xs
    go xs e = remove_none (λ (y : Exec). eqb y.number n) xs (none_all (λ (y : Exec). eqb y.number n) xs e)

-- an index has as many numbers as there are execs
pub index_length : (xs : List Exec) (ids : List ℕ) → IsIndex xs ids → length ids ≡ length xs
index_length xs ids index =
    let e : length (map (λ (x : Exec). x.number) (sorted_by_id xs)) ≡ length (sorted_by_id xs) = simp length-map refl in
    ap length index.is ∙ e ∙ length-in_order is_id_before xs
