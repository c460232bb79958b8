-- A list of containers, one after the other, up to its limit.
use Rattle.std.proofs.Common.{◌≡◌, ℕ, zero, suc, ◌≤◌, ◌+◌, Bool, true, false, List, [], ◌∷◌, ◌++◌, Option, Some, None, refl, ap, sym, ◌∙◌, arith, map, filter, reverse, take, length, if◌then◌else◌, append-nil, append_assoc}
use Rattle.std.specs.Prelude.{slice_get}
use Rattle.std.specs.Option.{option_map_or}
use Rattle.std.proofs.lemmas.Bool.{false≢true}
use Rattle.std.proofs.lemmas.Bool.Decides.{nat_tests}
use Rattle.std.proofs.lemmas.List.{take_all, take-append-le, take-map, length-append, reverse-append}
use Rattle.machine_model.specs.Views.{listed}
use Rattle.engine_text.specs.declared.container.Container.{Container}
use Rattle.engine_text.specs.declared.listed.Listed.{Listed}
use Rattle.reading_calls.specs.Calls.List.{is_reached}

-- no more items than the limit lets in
abbrev pub IsWithin : Option ℕ → ℕ → Type 0
IsWithin None count = Unit {0}
IsWithin (Some limit) count = count ≤ limit

-- what is listed of these, newest first
abbrev pub listed_in : (Container → Bool) → List Container → List Listed
listed_in p cs = map listed (filter p (reverse cs))

either : (b : Bool) (c : Container) (cs : List Container)
    → map listed (if b then c ∷ cs else cs) ≡ map listed (if b then c ∷ [] else []) ++ map listed cs
either true c cs = refl
either false c cs = refl

-- the newest comes first
newest_first : (p : Container → Bool) (cs older : List Container) (c : Container) → cs ≡ older ++ c ∷ []
    → listed_in p cs ≡ map listed (filter p (c ∷ [])) ++ listed_in p older
newest_first p cs older c e =
    ap (listed_in p) e
    ∙ (ap (λ ds. map listed (filter p ds)) (reverse-append older (c ∷ []))
    ∙ either (p c) c (filter p (reverse older)))

-- the first ones and one more
one_more : (cs : List Container) (n : ℕ) (c : Container) → slice_get cs n ≡ Some c → take (suc n) cs ≡ take n cs ++ c ∷ []
one_more [] zero c e = absurd (cc)
one_more [] (suc n) c e = absurd (cc)
one_more (d ∷ ds) zero c e = let is : d ≡ c = cc in ap (λ x. x ∷ []) is
one_more (d ∷ ds) (suc n) c e = ap (λ l. d ∷ l) (one_more ds n c e)

-- one container further
pub one_further : (p : Container → Bool) (cs : List Container) (m n : ℕ) (c : Container) (all items more : List Listed) → m ≡ suc n → slice_get cs n ≡ Some c
    → more ≡ items ++ map listed (filter p (c ∷ [])) → all ≡ items ++ listed_in p (take m cs) → all ≡ more ++ listed_in p (take n cs)
one_further p cs m n c all items more is e added whole =
    whole
    ∙ (ap (λ l. items ++ l) (newest_first p (take m cs) (take n cs) c (ap (λ k. take k cs) is ∙ one_more cs n c e))
    ∙ (sym (append_assoc items (map listed (filter p (c ∷ []))) (listed_in p (take n cs)))
    ∙ ap (λ l. l ++ listed_in p (take n cs)) (sym added)))

one_at_most : (b : Bool) (c : Container) → length (map listed (if b then c ∷ [] else [])) ≤ 1
one_at_most true c = omega arith
one_at_most false c = omega arith

-- a limit that isn't reached lets one more in
pub lets_in : (limit : Option ℕ) (p : Container → Bool) (c : Container) (items more : List Listed) → is_reached limit (length items) ≡ false
    → more ≡ items ++ map listed (filter p (c ∷ [])) → IsWithin limit (length more)
lets_in None p c items more below added = tt
lets_in (Some limit) p c items more below added =
    let one : List Listed = map listed (filter p (c ∷ [])) in
    let count : length more ≡ length items + length one = ap length added ∙ length-append items one in
    let few : length one ≤ 1 = one_at_most (p c) c in
    grind (arith, nat_tests, count, few, below)

-- nothing behind a limit that is reached counts
pub cut_off : (limit : Option ℕ) (cs : List Container) (items rest : List Listed) → is_reached limit (length items) ≡ true → IsWithin limit (length items)
    → map listed cs ≡ items ++ rest → items ≡ map listed (option_map_or (λ n. take n cs) limit cs)
cut_off None cs items rest full within whole = absurd (false≢true full)
cut_off (Some limit) cs items rest full within whole =
    let least : limit ≤ length items = grind (arith, nat_tests, full) in
    sym (sym (take-map listed limit cs) ∙ (ap (take limit) whole ∙ (take-append-le limit items rest least ∙ take_all limit items within)))

-- the limit lets all in
pub all_in : (limit : Option ℕ) (cs : List Container) (items : List Listed) → IsWithin limit (length items) → map listed cs ≡ items → items ≡ map listed (option_map_or (λ n. take n cs) limit cs)
all_in None cs items within whole = sym whole
all_in (Some limit) cs items within whole = sym (sym (take-map listed limit cs) ∙ (ap (take limit) whole ∙ take_all limit items within))

-- none is left
pub none_left : (p : Container → Bool) (cs : List Container) (n : ℕ) (all items : List Listed) → n ≡ 0 → all ≡ items ++ listed_in p (take n cs) → all ≡ items
none_left p cs n all items none whole = whole ∙ (ap (λ k. items ++ listed_in p (take k cs)) none ∙ append-nil items)
