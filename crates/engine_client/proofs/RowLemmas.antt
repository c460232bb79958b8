-- Rows in folds: where those of an id stand, and what an event changes.
use Rattle.std.proofs.Common.{◌≡◌, ◌<◌, ◌+◌, ℕ, zero, suc, List, [], ◌∷◌, ◌++◌, length, get_or, set, drop, map, take, refl, sym, ap, ◌∙◌, subst, append_assoc, append-nil, Option, Some, None, Bool, true, false, codes, arith}
use Rattle.std.specs.Prelude.{slice_get, flat_map, if◌then◌else◌}
use Rattle.std.proofs.lemmas.List.{map-append, take_more}
use Rattle.std.proofs.lemmas.Grind.{flat_map-append}
use Rattle.std.proofs.lemmas.Slice.Eq.{bytes_eq-Decides}
use Rattle.engine_text.specs.Lists.{remove_first}
use Rattle.engine_text.specs.Texts.{same_bytes}
use Rattle.engine_text.specs.declared.event.Event.{Event}
use Rattle.engine_text.specs.declared.event.EventKind.{EventKind}
use Rattle.engine_text.specs.declared.event.EventKind.TheVariants.{Container as OfContainer}
use Rattle.engine_text.specs.declared.event.Action.{Action}
use Rattle.engine_text.specs.declared.event.FoldRow.{FoldRow}
use Rattle.event_ring.specs.Filter.{attribute}
use Rattle.event_ring.specs.Fold.{new_row, exit_code, fold_action, fold_kind}
use Rattle.client_model.specs.Commands.Watch.{row_line}
use Rattle.engine_client.specs.Rows.{joined, marks, places_in, Places, places_at, IsIndexed, IsChange}
use Rattle.engine_client.proofs.FirstRowLemmas.{is_of, IsAtFirst, no_cons, no_nil, head_is, zero_suc, marked, marks_cons, update_at_first, update_marks, remove_at_first, remove_marks, remove_others}

-- ---- a change in the fold where the first row stands

mapped_none : (l : List ℕ) → map suc l ≡ [] → l ≡ []
mapped_none [] e = refl
mapped_none (x ∷ xs) e = absurd (no_cons (suc x) (map suc xs) e)

-- a list of later places begins with this one
record IsLater (p : ℕ) (ps l : List ℕ) : Type 0 where
  behind : List ℕ
  is : l ≡ p ∷ behind
  rest : ps ≡ map suc behind

later : (p : ℕ) (ps l : List ℕ) → map suc l ≡ suc p ∷ ps → IsLater p ps l
later p ps [] e = absurd (no_nil (suc p) ps e)
later p ps (x ∷ xs) e = record { behind = xs; is = cc; rest = cc }

not_later : (ps l : List ℕ) → map suc l ≡ zero ∷ ps → ⊥
not_later ps [] e = no_nil zero ps e
not_later ps (x ∷ xs) e = zero_suc x (sym (head_is (suc x) zero (map suc xs) ps e))

-- marks are zeros
marks_zero : (id : List ℕ) (rows : List FoldRow) (m : ℕ) (ms : List ℕ) → marks id rows ≡ m ∷ ms → m ≡ 0
marks_zero id [] m ms e = absurd (no_nil m ms e)
marks_zero id (r ∷ rows) m ms e = by (is_of id r) (sym (marks_cons id r rows) ∙ e) (marks_zero id rows m ms)
  where
    by : (t : Bool) → marked t (marks id rows) ≡ m ∷ ms → (marks id rows ≡ m ∷ ms → m ≡ 0) → m ≡ 0
    by true e rest = sym (head_is 0 m (marks id rows) ms e)
    by false e rest = rest e

-- no mark stands at a later place
not_marked : (id : List ℕ) (rows : List FoldRow) (m p : ℕ) (ms more ps : List ℕ) → marks id rows ≡ m ∷ ms → m ∷ more ≡ suc p ∷ ps → ⊥
not_marked id rows m p ms more ps is e = zero_suc p (sym (marks_zero id rows m ms is) ∙ head_is m (suc p) more ps e)

module _ (id : List ℕ) (g : List FoldRow → List FoldRow) (first : IsAtFirst id g) where
  -- without a row of the id nothing is changed
  joined_nowhere : (folds : List (List FoldRow)) → places_in id folds ≡ [] → g (joined folds) ≡ joined folds
  joined_nowhere [] e = first.none
  joined_nowhere (rows ∷ folds) e = by (marks id rows) refl e (joined_nowhere folds)
    where
      by : (ms : List ℕ) → marks id rows ≡ ms → ms ++ map suc (places_in id folds) ≡ [] → (places_in id folds ≡ [] → g (joined folds) ≡ joined folds)
          → g (rows ++ joined folds) ≡ rows ++ joined folds
      by [] is e rest = first.past rows (joined folds) is ∙ ap (λ l. rows ++ l) (rest (mapped_none (places_in id folds) e))
      by (m ∷ ms) is e rest = absurd (no_cons m (ms ++ map suc (places_in id folds)) e)

  joined_at : (folds : List (List FoldRow)) (p : ℕ) (ps : List ℕ) (d : List FoldRow) → places_in id folds ≡ p ∷ ps
      → joined (set folds p (g (get_or folds p d))) ≡ g (joined folds)
  joined_at [] p ps d e = absurd (no_nil p ps e)
  joined_at (rows ∷ folds) zero ps d e = by (marks id rows) refl e
    where
      by : (ms : List ℕ) → marks id rows ≡ ms → ms ++ map suc (places_in id folds) ≡ zero ∷ ps → g rows ++ joined folds ≡ g (rows ++ joined folds)
      by [] is e = absurd (not_later ps (places_in id folds) e)
      by (m ∷ ms) is e = sym (first.here rows (joined folds) m ms is)
  joined_at (rows ∷ folds) (suc p) ps d e = by (marks id rows) refl e (λ qs. joined_at folds p qs d)
    where
      by : (ms : List ℕ) → marks id rows ≡ ms → ms ++ map suc (places_in id folds) ≡ suc p ∷ ps
          → ((qs : List ℕ) → places_in id folds ≡ p ∷ qs → joined (set folds p (g (get_or folds p d))) ≡ g (joined folds))
          → rows ++ joined (set folds p (g (get_or folds p d))) ≡ g (rows ++ joined folds)
      by [] is e rest =
          let l = later p ps (places_in id folds) e in
          ap (λ k. rows ++ k) (rest l.behind l.is) ∙ sym (first.past rows (joined folds) is)
      by (m ∷ ms) is e rest = absurd (not_marked id rows m p ms (ms ++ map suc (places_in id folds)) ps is e)

-- the rows of an id that a change leaves as many stand where they stood
places_stay : (q : List ℕ) (g : List FoldRow → List FoldRow) → ((rows : List FoldRow) → marks q (g rows) ≡ marks q rows)
    → (folds : List (List FoldRow)) (p : ℕ) (d : List FoldRow) → places_in q (set folds p (g (get_or folds p d))) ≡ places_in q folds
places_stay q g same [] p d = refl
places_stay q g same (rows ∷ folds) zero d = ap (λ ms. ms ++ map suc (places_in q folds)) (same rows)
places_stay q g same (rows ∷ folds) (suc p) d = ap (λ l. marks q rows ++ map suc l) (places_stay q g same folds p d)

-- where the first is taken away, the others stand where they stood
places_left : (id : List ℕ) (folds : List (List FoldRow)) (p : ℕ) (ps : List ℕ) (d : List FoldRow) → places_in id folds ≡ p ∷ ps
    → places_in id (set folds p (remove_first (is_of id) (get_or folds p d))) ≡ ps
places_left id [] p ps d e = absurd (no_nil p ps e)
places_left id (rows ∷ folds) zero ps d e = by (marks id rows) refl e
  where
    by : (ms : List ℕ) → marks id rows ≡ ms → ms ++ map suc (places_in id folds) ≡ zero ∷ ps
        → marks id (remove_first (is_of id) rows) ++ map suc (places_in id folds) ≡ ps
    by [] is e = absurd (not_later ps (places_in id folds) e)
    by (m ∷ ms) is e =
        ap (λ l. l ++ map suc (places_in id folds)) (remove_marks id rows ∙ ap (λ l. drop 1 l) is) ∙ ap (λ l. drop 1 l) e
places_left id (rows ∷ folds) (suc p) ps d e = by (marks id rows) refl e (λ qs. places_left id folds p qs d)
  where
    by : (ms : List ℕ) → marks id rows ≡ ms → ms ++ map suc (places_in id folds) ≡ suc p ∷ ps
        → ((qs : List ℕ) → places_in id folds ≡ p ∷ qs → places_in id (set folds p (remove_first (is_of id) (get_or folds p d))) ≡ qs)
        → marks id rows ++ map suc (places_in id (set folds p (remove_first (is_of id) (get_or folds p d)))) ≡ ps
    by [] is e rest =
        let l = later p ps (places_in id folds) e in
        ap (λ ms. ms ++ map suc (places_in id (set folds p (remove_first (is_of id) (get_or folds p d))))) is
        ∙ ap (map suc) (rest l.behind l.is) ∙ sym l.rest
    by (m ∷ ms) is e rest = absurd (not_marked id rows m p ms (ms ++ map suc (places_in id folds)) ps is e)

-- ---- a row more

-- where a new last fold stands
abbrev last_place : Bool → ℕ → List ℕ
last_place t n = if t then n ∷ [] else []

mark_one : (q : List ℕ) (r : FoldRow) → marks q (r ∷ []) ≡ last_place (is_of q r) 0
mark_one q r = marks_cons q r [] ∙ by (is_of q r)
  where
    by : (t : Bool) → marked t [] ≡ last_place t 0
    by true = refl
    by false = refl

raised : (t : Bool) (n k : ℕ) → k ≡ suc n → map suc (last_place t n) ≡ last_place t k
raised true n k is = ap (λ j. j ∷ []) (sym is)
raised false n k is = refl

places_more : (q : List ℕ) (folds : List (List FoldRow)) (r : FoldRow)
    → places_in q (folds ++ (r ∷ []) ∷ []) ≡ places_in q folds ++ last_place (is_of q r) (length folds)
places_more q [] r = append-nil (marks q (r ∷ [])) ∙ mark_one q r
places_more q (rows ∷ folds) r =
    ap (λ l. marks q rows ++ map suc l) (places_more q folds r)
    ∙ ap (λ l. marks q rows ++ l) (map-append suc (places_in q folds) (last_place (is_of q r) (length folds)))
    ∙ ap (λ l. marks q rows ++ (map suc (places_in q folds) ++ l)) (raised (is_of q r) (length folds) (length (rows ∷ folds)) (omega arith))
    ∙ sym (append_assoc (marks q rows) (map suc (places_in q folds)) (last_place (is_of q r) (length (rows ∷ folds))))

joined_more : (folds : List (List FoldRow)) (r : FoldRow) → joined (folds ++ (r ∷ []) ∷ []) ≡ joined folds ++ r ∷ []
joined_more folds r = flat_map-append (λ (rows : List FoldRow). rows) folds ((r ∷ []) ∷ [])

-- ---- what an action changes

changes_first : (a : Action) (e : Event) → IsChange a → IsAtFirst e.id (fold_action a e)
changes_first Action.Create e is = absurd is
changes_first Action.Destroy e is = absurd is
changes_first Action.Start e is = update_at_first e.id (λ r. record r { live = true; code = 0 })
changes_first Action.Die e is = update_at_first e.id (λ r. record r { live = false; paused = false; code = exit_code e })
changes_first Action.Pause e is = update_at_first e.id (λ r. record r { paused = true })
changes_first Action.Unpause e is = update_at_first e.id (λ r. record r { paused = false })
changes_first Action.Rename e is = update_at_first e.id (λ r. record r { name = attribute (codes "name") e })
changes_first Action.Kill e is = record { none = refl; past = λ rows more m. refl; here = λ rows more m ms h. refl }
changes_first Action.Stop e is = record { none = refl; past = λ rows more m. refl; here = λ rows more m ms h. refl }
changes_first Action.Restart e is = record { none = refl; past = λ rows more m. refl; here = λ rows more m ms h. refl }
changes_first Action.Attach e is = record { none = refl; past = λ rows more m. refl; here = λ rows more m ms h. refl }
changes_first Action.ExecCreate e is = record { none = refl; past = λ rows more m. refl; here = λ rows more m ms h. refl }
changes_first Action.ExecStart e is = record { none = refl; past = λ rows more m. refl; here = λ rows more m ms h. refl }
changes_first Action.ExecDie e is = record { none = refl; past = λ rows more m. refl; here = λ rows more m ms h. refl }
changes_first Action.Mount e is = record { none = refl; past = λ rows more m. refl; here = λ rows more m ms h. refl }
changes_first Action.Unmount e is = record { none = refl; past = λ rows more m. refl; here = λ rows more m ms h. refl }
changes_first Action.Update e is = record { none = refl; past = λ rows more m. refl; here = λ rows more m ms h. refl }

changes_marks : (a : Action) (e : Event) → IsChange a → (q : List ℕ) (rows : List FoldRow) → marks q (fold_action a e rows) ≡ marks q rows
changes_marks Action.Create e is q rows = absurd is
changes_marks Action.Destroy e is q rows = absurd is
changes_marks Action.Start e is q rows = update_marks e.id (λ r. record r { live = true; code = 0 }) (λ r. refl) q rows
changes_marks Action.Die e is q rows = update_marks e.id (λ r. record r { live = false; paused = false; code = exit_code e }) (λ r. refl) q rows
changes_marks Action.Pause e is q rows = update_marks e.id (λ r. record r { paused = true }) (λ r. refl) q rows
changes_marks Action.Unpause e is q rows = update_marks e.id (λ r. record r { paused = false }) (λ r. refl) q rows
changes_marks Action.Rename e is q rows = update_marks e.id (λ r. record r { name = attribute (codes "name") e }) (λ r. refl) q rows
changes_marks Action.Kill e is q rows = refl
changes_marks Action.Stop e is q rows = refl
changes_marks Action.Restart e is q rows = refl
changes_marks Action.Attach e is q rows = refl
changes_marks Action.ExecCreate e is q rows = refl
changes_marks Action.ExecStart e is q rows = refl
changes_marks Action.ExecDie e is q rows = refl
changes_marks Action.Mount e is q rows = refl
changes_marks Action.Unmount e is q rows = refl
changes_marks Action.Update e is q rows = refl

pub is_change : (a : Action) → (a ≡ Action.Create → ⊥) → (a ≡ Action.Destroy → ⊥) → IsChange a
is_change Action.Create m t = m refl
is_change Action.Destroy m t = t refl
is_change Action.Start m t = tt
is_change Action.Die m t = tt
is_change Action.Pause m t = tt
is_change Action.Unpause m t = tt
is_change Action.Rename m t = tt
is_change Action.Kill m t = tt
is_change Action.Stop m t = tt
is_change Action.Restart m t = tt
is_change Action.Attach m t = tt
is_change Action.ExecCreate m t = tt
is_change Action.ExecStart m t = tt
is_change Action.ExecDie m t = tt
is_change Action.Mount m t = tt
is_change Action.Unmount m t = tt
is_change Action.Update m t = tt

-- ---- what an event changes, by where the rows of its id are found

first_of : (l : List ℕ) (p : ℕ) → slice_get l 0 ≡ Some p → l ≡ p ∷ drop 1 l
first_of [] p e = absurd (cc)
first_of (x ∷ xs) p e = cc

none_of : (l : List ℕ) → slice_get l 0 ≡ None → l ≡ []
none_of [] e = refl
none_of (x ∷ xs) e = absurd (cc)

within_so : (id : List ℕ) (folds : List (List FoldRow)) (p : ℕ) (ps : List ℕ) → places_in id folds ≡ p ∷ ps → p < length folds
within_so id [] p ps e = absurd (no_nil p ps e)
within_so id (rows ∷ folds) zero ps e = omega arith
within_so id (rows ∷ folds) (suc p) ps e = by (marks id rows) refl e (within_so id folds p)
  where
    by : (ms : List ℕ) → marks id rows ≡ ms → ms ++ map suc (places_in id folds) ≡ suc p ∷ ps
        → ((qs : List ℕ) → places_in id folds ≡ p ∷ qs → p < length folds) → suc p < length (rows ∷ folds)
    by [] is e rest = let l = later p ps (places_in id folds) e in let w = rest l.behind l.is in omega arith
    by (m ∷ ms) is e rest = absurd (not_marked id rows m p ms (ms ++ map suc (places_in id folds)) ps is e)

module _ (places : Places) (folds : List (List FoldRow)) (found : IsIndexed places folds) where
  -- where the first row of an id stands
  stands : (id : List ℕ) (r : Option ℕ) (p : ℕ) → r ≡ slice_get (places_at places id) 0 → r ≡ Some p → places_in id folds ≡ p ∷ drop 1 (places_in id folds)
  stands id r p is e = first_of (places_in id folds) p (ap (λ l. slice_get l 0) (sym (found id)) ∙ sym is ∙ e)

  stands_nowhere : (id : List ℕ) (r : Option ℕ) → r ≡ slice_get (places_at places id) 0 → r ≡ None → places_in id folds ≡ []
  stands_nowhere id r is e = none_of (places_in id folds) (ap (λ l. slice_get l 0) (sym (found id)) ∙ sym is ∙ e)

  pub stands_within : (id : List ℕ) (r : Option ℕ) (p : ℕ) → r ≡ slice_get (places_at places id) 0 → r ≡ Some p → p < length folds
  stands_within id r p is e = within_so id folds p (drop 1 (places_in id folds)) (stands id r p is e)

  -- the index and the folds as they were
  pub found_same : (places' : Places) (folds' : List (List FoldRow)) → ((q : List ℕ) → places_at places' q ≡ places_at places q) → folds' ≡ folds → IsIndexed places' folds'
  found_same places' folds' same is = λ q. same q ∙ found q ∙ sym (ap (places_in q) is)

  module _ (e : Event) (kind : e.kind ≡ OfContainer) where
    module _ (change : IsChange e.action) where
      changing : IsAtFirst e.id (fold_kind e.kind e)
      changing = subst (λ (k : EventKind). IsAtFirst e.id (fold_kind k e)) (sym kind) (changes_first e.action e change)

      staying : (q : List ℕ) (rows : List FoldRow) → marks q (fold_kind e.kind e rows) ≡ marks q rows
      staying q rows = subst (λ (k : EventKind). marks q (fold_kind k e rows) ≡ marks q rows) (sym kind) (changes_marks e.action e change q rows)

      pub changed_found : (p : ℕ) (folds' : List (List FoldRow)) → ((d : List FoldRow) → folds' ≡ set folds p (fold_kind e.kind e (get_or folds p d))) → IsIndexed places folds'
      changed_found p folds' is = λ q. found q ∙ sym (ap (places_in q) (is []) ∙ places_stay q (fold_kind e.kind e) (staying q) folds p [])

      pub changed_rows : (r : Option ℕ) (p : ℕ) (folds' : List (List FoldRow)) → r ≡ slice_get (places_at places e.id) 0 → r ≡ Some p
          → ((d : List FoldRow) → folds' ≡ set folds p (fold_kind e.kind e (get_or folds p d))) → joined folds' ≡ fold_kind e.kind e (joined folds)
      changed_rows r p folds' at some is =
          ap joined (is []) ∙ joined_at e.id (fold_kind e.kind e) changing folds p (drop 1 (places_in e.id folds)) [] (stands e.id r p at some)

      pub unchanged_rows : (r : Option ℕ) → r ≡ slice_get (places_at places e.id) 0 → r ≡ None → joined folds ≡ fold_kind e.kind e (joined folds)
      unchanged_rows r at none = sym (joined_nowhere e.id (fold_kind e.kind e) changing folds (stands_nowhere e.id r at none))

    module _ (destroys : e.action ≡ Action.Destroy) where
      removing : (rows : List FoldRow) → fold_kind e.kind e rows ≡ remove_first (is_of e.id) rows
      removing rows = ap (λ k. fold_kind k e rows) kind ∙ ap (λ a. fold_action a e rows) destroys

      pub destroyed_found : (r : Option ℕ) (p : ℕ) (places' : Places) (folds' : List (List FoldRow)) → r ≡ slice_get (places_at places e.id) 0 → r ≡ Some p
          → ((d : List FoldRow) → folds' ≡ set folds p (fold_kind e.kind e (get_or folds p d)))
          → ((q : List ℕ) → places_at places' q ≡ (if same_bytes e.id q then drop 1 (places_at places q) else places_at places q)) → IsIndexed places' folds'
      destroyed_found r p places' folds' at some is gone = λ q. by q (same_bytes e.id q) refl (gone q)
        where
          removed : folds' ≡ set folds p (remove_first (is_of e.id) (get_or folds p []))
          removed = is [] ∙ ap (set folds p) (removing (get_or folds p []))

          by : (q : List ℕ) (t : Bool) → same_bytes e.id q ≡ t → places_at places' q ≡ (if t then drop 1 (places_at places q) else places_at places q)
              → places_at places' q ≡ places_in q folds'
          by q true same has =
              let one : e.id ≡ q = (bytes_eq-Decides e.id q).0 same in
              has ∙ ap (λ l. drop 1 l) (found q)
              ∙ subst (λ (i : List ℕ). drop 1 (places_in i folds) ≡ places_in i folds') one
              (sym (ap (places_in e.id) removed ∙ places_left e.id folds p (drop 1 (places_in e.id folds)) [] (stands e.id r p at some)))
          by q false other has =
              has ∙ found q ∙ sym (ap (places_in q) removed ∙ places_stay q (remove_first (is_of e.id)) (remove_others e.id q other) folds p [])

      pub destroyed_rows : (r : Option ℕ) (p : ℕ) (folds' : List (List FoldRow)) → r ≡ slice_get (places_at places e.id) 0 → r ≡ Some p
          → ((d : List FoldRow) → folds' ≡ set folds p (fold_kind e.kind e (get_or folds p d))) → joined folds' ≡ fold_kind e.kind e (joined folds)
      destroyed_rows r p folds' at some is =
          ap joined (is [] ∙ ap (set folds p) (removing (get_or folds p [])))
          ∙ joined_at e.id (remove_first (is_of e.id)) (remove_at_first e.id) folds p (drop 1 (places_in e.id folds)) [] (stands e.id r p at some)
          ∙ sym (removing (joined folds))

      pub undestroyed_rows : (r : Option ℕ) → r ≡ slice_get (places_at places e.id) 0 → r ≡ None → joined folds ≡ fold_kind e.kind e (joined folds)
      undestroyed_rows r at none =
          sym (removing (joined folds) ∙ joined_nowhere e.id (remove_first (is_of e.id)) (remove_at_first e.id) folds (stands_nowhere e.id r at none))

    module _ (creates : e.action ≡ Action.Create) (fold : List FoldRow) (made : fold ≡ fold_kind e.kind e []) where
      making : (rows : List FoldRow) → fold_kind e.kind e rows ≡ rows ++ new_row e ∷ []
      making rows = ap (λ k. fold_kind k e rows) kind ∙ ap (λ a. fold_action a e rows) creates

      one_row : fold ≡ new_row e ∷ []
      one_row = made ∙ making []

      pub created_found : (places' : Places) (before folds' : List (List FoldRow)) (n : ℕ) → before ≡ folds → n ≡ length folds → folds' ≡ before ++ fold ∷ []
          → ((q : List ℕ) → places_at places' q ≡ places_at places q ++ (if same_bytes e.id q then n ∷ [] else [])) → IsIndexed places' folds'
      created_found places' before folds' n was is more has = λ q.
          has q ∙ ap (λ l. l ++ last_place (same_bytes e.id q) n) (found q) ∙ ap (λ k. places_in q folds ++ last_place (same_bytes e.id q) k) is
          ∙ sym (ap (places_in q) (more ∙ ap (λ l. l ++ fold ∷ []) was ∙ ap (λ x. folds ++ x ∷ []) one_row) ∙ places_more q folds (new_row e))

      pub created_rows : (before folds' : List (List FoldRow)) → before ≡ folds → folds' ≡ before ++ fold ∷ [] → joined folds' ≡ fold_kind e.kind e (joined folds)
      created_rows before folds' was more =
          ap joined (more ∙ ap (λ l. l ++ fold ∷ []) was ∙ ap (λ x. folds ++ x ∷ []) one_row) ∙ joined_more folds (new_row e) ∙ sym (making (joined folds))

-- ---- lines

-- one fold's lines behind those of the folds before it
pub lines_more : (folds : List (List FoldRow)) (i : ℕ) (lines more : List (List ℕ)) (d : List FoldRow) → i < length folds
    → lines ≡ map row_line (joined (take i folds)) → more ≡ lines ++ map row_line (get_or folds i d) → more ≡ map row_line (joined (take (i + 1) folds))
lines_more folds i lines more d within is then_is =
    then_is ∙ ap (λ l. l ++ map row_line (get_or folds i d)) is
    ∙ sym (map-append row_line (joined (take i folds)) (get_or folds i d))
    ∙ ap (map row_line) (sym (joined_one (take i folds) (get_or folds i d)))
    ∙ ap (λ l. map row_line (joined l)) (sym (take_more folds i d within))
  where
    joined_one : (before : List (List FoldRow)) (rows : List FoldRow) → joined (before ++ rows ∷ []) ≡ joined before ++ rows
    joined_one before rows =
        flat_map-append (λ (rows : List FoldRow). rows) before (rows ∷ []) ∙ ap (λ l. joined before ++ l) (append-nil rows)
