-- One vector more is told.
use Rattle.std.proofs.Common.{ℕ, ◌≡◌, ◌+◌, List, [], ◌∷◌, ◌++◌, length, Bool, true, false, Option, Some, None, refl, ap, ◌∙◌, sym, subst, arith, suc, ◌<◌, take, get_or}
use Rattle.std.specs.Prelude.{map, filter, not}
use Rattle.std.specs.Option.{option_or}
use Rattle.std.proofs.lemmas.List.{map-append, length-append, append-nil}
use Rattle.std.proofs.Math.Seq.{take-suc}
use Rattle.std.proofs.lemmas.List.Elements.{filter-append}
use Rattle.engine_conformance.specs.declared.report.Report.{Report}
use Rattle.engine_conformance.specs.Reports.{Reports, failing, first_of}

-- those that fail of two lists are those of one and then of the other
pub failing_of_both : (a b : List (ℕ × Bool)) → failing (a ++ b) ≡ failing a ++ failing b
failing_of_both a b = ap (map (λ vector. vector.0)) (filter-append (λ vector. not vector.1) a b) ∙ map-append (λ vector. vector.0) (filter (λ vector. not vector.1) a) (filter (λ vector. not vector.1) b)

-- the first of two lists' is the first of the one, or else of the other
pub first_of_both : (a : List ℕ) (n : ℕ) → first_of (a ++ n ∷ []) ≡ option_or (first_of a) (Some n)
first_of_both [] n = refl
first_of_both (m ∷ a) n = refl

pub passes_more : (numbers : List ℕ) (vector : ℕ) (r : Report) → Reports numbers r → Reports (numbers ++ vector ∷ []) (record { passed = r.passed + 1; failed = r.failed; first = r.first })
passes_more numbers vector r h = record {
  ran = h.ran ++ (vector, true) ∷ [];
  are = map-append (λ vector. vector.0) h.ran ((vector, true) ∷ []) ∙ ap (λ l. l ++ vector ∷ []) h.are;
  passed = ap (λ n. n + 1) h.passed ∙ sym (ap length (filter-append (λ vector. vector.1) h.ran ((vector, true) ∷ [])) ∙ length-append (filter (λ vector. vector.1) h.ran) ((vector, true) ∷ []));
  failed = h.failed ∙ sym (ap length (failing_of_both h.ran ((vector, true) ∷ []) ∙ append-nil (failing h.ran)));
  first = h.first ∙ sym (ap first_of (failing_of_both h.ran ((vector, true) ∷ []) ∙ append-nil (failing h.ran)));
}

pub fails_more : (numbers : List ℕ) (vector : ℕ) (r : Report) (first : Option ℕ) → first ≡ option_or r.first (Some vector) → Reports numbers r → Reports (numbers ++ vector ∷ []) (record { passed = r.passed; failed = r.failed + 1; first = first })
fails_more numbers vector r first is h = record {
  ran = h.ran ++ (vector, false) ∷ [];
  are = map-append (λ vector. vector.0) h.ran ((vector, false) ∷ []) ∙ ap (λ l. l ++ vector ∷ []) h.are;
  passed = h.passed ∙ sym (ap length (filter-append (λ vector. vector.1) h.ran ((vector, false) ∷ []) ∙ append-nil (filter (λ vector. vector.1) h.ran)));
  failed = ap (λ n. n + 1) h.failed ∙ sym (ap length (failing_of_both h.ran ((vector, false) ∷ [])) ∙ length-append (failing h.ran) (vector ∷ []));
  first = is ∙ ap (λ o. option_or o (Some vector)) h.first ∙ sym (ap first_of (failing_of_both h.ran ((vector, false) ∷ [])) ∙ first_of_both (failing h.ran) vector);
}

-- each vector came out so, or fails
pub split_counts : (ran : List (ℕ × Bool)) → length (filter (λ vector. vector.1) ran) + length (failing ran) ≡ length (map (λ vector. vector.0) ran)
split_counts [] = refl
split_counts ((n, true) ∷ ran) = let rest = split_counts ran in omega arith
split_counts ((n, false) ∷ ran) = let rest = split_counts ran in omega arith

-- as many vectors were told as there are
pub counts_all : (numbers : List ℕ) (r : Report) → Reports numbers r → r.passed + r.failed ≡ length numbers
counts_all numbers r h = ap (λ n. n + r.failed) h.passed ∙ ap (λ n. length (filter (λ vector. vector.1) h.ran) + n) h.failed ∙ split_counts h.ran ∙ ap length h.are

-- one number more of a list
pub take_one_more : (ns : List ℕ) (j : ℕ) → j < length ns → take (j + 1) ns ≡ take j ns ++ (get_or ns j 0 ∷ [])
take_one_more ns j short = let is : suc j ≡ j + 1 = omega arith in
    subst (λ k. take k ns ≡ take j ns ++ (get_or ns j 0 ∷ [])) is (take-suc ns j 0 short)
