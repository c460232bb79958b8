-- One more answer is counted.
use Rattle.std.proofs.Common.{arith, ◌≡◌, ◌≢◌, ◌<◌, ◌≤◌, ◌+◌, ℕ, Bool, true, false, List, [], ◌∷◌, ◌++◌, length, get_or, set, ap, sym, refl, ◌∙◌, length-append, length-set, append_assoc, append-nil, replicate, subst}
use Rattle.std.specs.Prelude.{◌==◌, filter}
use Rattle.std.proofs.lemmas.Bool.Decides.{nat_tests}
use Rattle.std.proofs.lemmas.List.{get_or-set_same, get_or-set_other}
use Rattle.std.proofs.lemmas.List.Elements.{filter-append}
use Rattle.std.proofs.lemmas.List.FromFn.{length-map-range_with_len, get_or-map-range_with_len, fill_by_all}
use Rattle.drill_model.specs.Answers.{IsAnswer, HasNoAnswer, HaveStatuses, NoMore, OneMore, count_of, counts_of}

-- no status is counted more often than there are answers
pub count_few : (s : ℕ) (seen : List ℕ) → count_of s seen ≤ length seen
count_few s [] = omega arith
count_few s (x ∷ seen) = go (count_few s seen) (x == s) refl
  where
    go : count_of s seen ≤ length seen → (t : Bool) → (x == s) ≡ t → count_of s (x ∷ seen) ≤ length (x ∷ seen)
    go rest true e = rw e (omega (arith, rest))
    go rest false e = rw e (omega (arith, rest))

-- the last one is counted for its own status
same_more : (s : ℕ) (seen : List ℕ) → count_of s (seen ++ s ∷ []) ≡ count_of s seen + 1
same_more s seen =
    let is : (s == s) ≡ true = grind (arith, nat_tests) in
    ap length (filter-append (λ y. y == s) seen (s ∷ []))
    ∙ length-append (filter (λ y. y == s) seen) (filter (λ y. y == s) (s ∷ []))
    ∙ ap (λ n. count_of s seen + n) (rw is refl)

-- and for no other
other_more : (s x : ℕ) (seen : List ℕ) → s ≢ x → count_of s (seen ++ x ∷ []) ≡ count_of s seen
other_more s x seen differ =
    let no : (x == s) ≡ false = grind (arith, nat_tests, differ) in
    let none : count_of s seen + 0 ≡ count_of s seen = omega arith in
    ap length (filter-append (λ y. y == s) seen (x ∷ []))
    ∙ length-append (filter (λ y. y == s) seen) (filter (λ y. y == s) (x ∷ []))
    ∙ ap (λ n. count_of s seen + n) (rw no refl) ∙ none

pub count_at : (seen : List ℕ) (x : ℕ) → x < 600 → get_or (counts_of seen) x 0 ≡ count_of x seen
unfolding counts_of
count_at seen x below =
    let at : 0 + x ≡ x = omega arith in
    get_or-map-range_with_len (λ s. count_of s seen) 0 600 x x 0 below at

pub counts_long : (seen : List ℕ) → length (counts_of seen) ≡ 600
unfolding counts_of
counts_long seen = length-map-range_with_len (λ s. count_of s seen) 0 600

-- one place of the table is raised
pub counts_more : (seen : List ℕ) (x : ℕ) → x < 600 → set (counts_of seen) x (count_of x seen + 1) ≡ counts_of (seen ++ x ∷ [])
unfolding counts_of
counts_more seen x below =
    fill_by_all (λ s. count_of s (seen ++ x ∷ [])) (set (counts_of seen) x (count_of x seen + 1)) 600 0
    (length-set (counts_of seen) x (count_of x seen + 1) ∙ counts_long seen) at
  where
    long : length (counts_of seen) ≡ 600
    long = counts_long seen

    here : (k : ℕ) → k ≡ x → get_or (set (counts_of seen) x (count_of x seen + 1)) k 0 ≡ count_of k (seen ++ x ∷ [])
    here k is = rw is (get_or-set_same (counts_of seen) x (count_of x seen + 1) 0 (omega (arith, long, below)) ∙ sym (same_more x seen))

    there : (k : ℕ) → k < 600 → k ≢ x → get_or (set (counts_of seen) x (count_of x seen + 1)) k 0 ≡ count_of k (seen ++ x ∷ [])
    there k lt differ = get_or-set_other (counts_of seen) x k (count_of x seen + 1) 0 differ ∙ count_at seen k lt ∙ sym (other_more k x seen differ)

    go : (k : ℕ) → k < 600 → (t : Bool) → (k == x) ≡ t → get_or (set (counts_of seen) x (count_of x seen + 1)) k 0 ≡ count_of k (seen ++ x ∷ [])
    go k lt true e = let is : k ≡ x = grind (arith, nat_tests, e) in here k is
    go k lt false e = let differ : k ≢ x = grind (arith, nat_tests, e) in there k lt differ

    at : (k : ℕ) → k < 600 → get_or (set (counts_of seen) x (count_of x seen + 1)) k 0 ≡ count_of k (seen ++ x ∷ [])
    at k lt = go k lt (k == x) refl

none_counted : replicate 600 0 ≡ counts_of []
unfolding counts_of
none_counted = refl

-- ---- along the bytes

-- so many answers have been seen, and counted, and this is left of the bytes
pub record Tallied (bytes rest counts : List ℕ) : Type 0 where
  pub seen : List ℕ
  pub more : (statuses : List ℕ) → HaveStatuses rest statuses → HaveStatuses bytes (seen ++ statuses)
  pub counted : counts ≡ counts_of seen
  pub few : length seen + length rest ≤ length bytes

pub none_seen : (bytes counts : List ℕ) → counts ≡ replicate 600 0 → Tallied bytes bytes counts
none_seen bytes counts is = record { seen = []; more = λ statuses h. h; counted = is ∙ none_counted; few = omega arith }

pub one_seen : (bytes rest counts : List ℕ) (status : ℕ) (behind : List ℕ) → Tallied bytes rest counts → status < 600
    → ((one : List ℕ) × IsAnswer one status × (rest ≡ one ++ behind)) → length behind < length rest
    → Tallied bytes behind (set counts status (get_or counts status 0 + 1))
one_seen bytes rest counts status behind t below (one, answer, is) shorter = record {
  seen = t.seen ++ status ∷ [];
  more = λ statuses h. subst (HaveStatuses bytes) (sym (append_assoc t.seen (status ∷ []) statuses))
      (t.more (status ∷ statuses) (subst (λ b. HaveStatuses b (status ∷ statuses)) (sym is) (OneMore one behind statuses status answer h)));
  counted = ap (λ (l : List ℕ). set l status (get_or l status 0 + 1)) t.counted
      ∙ ap (λ (n : ℕ). set (counts_of t.seen) status (n + 1)) (count_at t.seen status below) ∙ counts_more t.seen status below;
  few = omega (arith, t.few, shorter, length-append t.seen (status ∷ []));
}

-- no status has been counted as often as the bytes are long, while some are left
pub count_fits : (bytes rest counts : List ℕ) (status : ℕ) → Tallied bytes rest counts → status < 600 → 0 < length rest
    → get_or counts status 0 + 1 ≤ length bytes
count_fits bytes rest counts status t below some =
    let is : get_or counts status 0 ≡ count_of status t.seen = ap (λ (l : List ℕ). get_or l status 0) t.counted ∙ count_at t.seen status below in
    let few : count_of status t.seen ≤ length t.seen = count_few status t.seen in
    omega (arith, is, few, t.few, some)

pub tallied_long : (bytes rest counts : List ℕ) → Tallied bytes rest counts → length counts ≡ 600
tallied_long bytes rest counts t = ap length t.counted ∙ counts_long t.seen

pub all_seen : (bytes rest counts : List ℕ) → Tallied bytes rest counts → HasNoAnswer rest
    → (statuses : List ℕ) × HaveStatuses bytes statuses × (counts ≡ counts_of statuses)
all_seen bytes rest counts t none =
    (t.seen, subst (HaveStatuses bytes) (append-nil t.seen) (t.more [] (NoMore rest none)), t.counted)
