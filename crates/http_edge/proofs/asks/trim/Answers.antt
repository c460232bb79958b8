use Rattle.std.proofs.Common.{◌≡◌, ℕ, List, reverse, slice_range, sym, ap, ◌∙◌, arith}
use Rattle.std.proofs.lemmas.List.{reverse-reverse}
use Rattle.httparse.specs.Grammar.{skip_ows, trim_ows}
use Rattle.httparse.proofs.TrimLemmas.{skip_ows_yes, skip_ows_no, slice_first, slice_last, slice_empty}
use Rattle.http_edge.proofs.asks.trim.Goals.{then-loop-start-test+else-is_blank, else-loop-start-test, then-loop-end-test+else-is_blank-2, else-loop-end-test}
use Rattle.http_edge.proofs.asks.trim.Goals as goal

pub loop-end-init : goal.loop-end-init
unfolding trim_ows
loop-end-init c =
    let here = slice_range c.args.bytes.now c.loop-start.start (Rattle.std.proofs.Common.length c.args.bytes.now) in
    let stays : skip_ows here ≡ here =
    elim c.loop-start-test.branch [
      | then-loop-start-test+else-is_blank w ↦
          skip_ows_no (slice_first _ _ _ w.loop-start-test.true (omega arith)) w.if-is_blank.ensures
      | else-loop-start-test w ↦
          let empty = slice_empty c.args.bytes.now c.loop-start.start _ (omega arith) (omega arith) in
          ap skip_ows empty ∙ sym empty
    ] in record {
      ordered = omega arith;
      within = omega arith;
      same = ap (λ (t : List ℕ). reverse (skip_ows (reverse t))) (c.loop-start.invariant.same ∙ stays);
    }

pub loop-end-preserved : goal.loop-end-preserved
loop-end-preserved c =
    let last = slice_last c.args.bytes.now _ _ c.loop-end-test.true (omega arith) in record {
      ordered = omega arith;
      within = omega arith;
      same = c.loop-end.invariant.same ∙ ap reverse (skip_ows_yes last c.if-is_blank-2.ensures);
    }

pub returns : goal.returns
returns c = elim c.loop-end-test.branch [
  | then-loop-end-test+else-is_blank-2 w ↦
      let last = slice_last c.args.bytes.now _ _ w.loop-end-test.true (omega arith) in
      sym (c.loop-end.invariant.same ∙ ap reverse (skip_ows_no last w.if-is_blank-2.ensures) ∙ reverse-reverse _)
  | else-loop-end-test w ↦
      let empty = slice_empty c.args.bytes.now c.loop-start.start c.loop-end.end (omega arith) (omega arith) in
      empty ∙ ap (λ (t : List ℕ). reverse (skip_ows (reverse t))) (sym empty) ∙ sym c.loop-end.invariant.same
]
