use Rattle.std.proofs.Common.{ap, ◌∙◌, sym, subst, arith, length, List, ℕ, take, min, ◌≡◌, ◌+◌, ◌++◌, [], ◌∷◌}
use Rattle.std.proofs.lemmas.List.{length-take}
use Rattle.std.proofs.lemmas.List.FromFn.{get_or-range_with_len}
use Rattle.engine_conformance.specs.Reports.{Reports, vectors}
use Rattle.engine_conformance.proofs.ReportLemmas.{counts_all, take_one_more}
use Rattle.engine_conformance.proofs.vectors.run_all.Goals as goal

pub with-report-requires : goal.with-report-requires
with-report-requires g c = let counted = counts_all (take c.vectors.place vectors) c.vectors.report c.vectors.invariant in
    let short : length (take c.vectors.place vectors) ≡ min c.vectors.place 26 = length-take c.vectors.place vectors in omega arith

pub vectors-preserved : goal.vectors-preserved
vectors-preserved g c = let at = c.vectors.place in
    let one_more : 1 + at ≡ at + 1 = omega arith in
    subst (λ ns. Reports ns c.with-report.result)
    (sym (take_one_more vectors at c.vectors-test.true ∙ ap (λ n. take at vectors ++ n ∷ []) (get_or-range_with_len 1 26 at 0 c.vectors-test.true ∙ one_more)))
    (c.with-report.ensures (take at vectors) c.vectors.invariant)

pub returns : goal.returns
returns g c = let all : c.vectors.place ≡ 26 = let least = c.vectors-test.false in let most = c.vectors.auto.place-end in omega arith in
    subst (λ n. Reports (take n vectors) c.vectors.report) all c.vectors.invariant
