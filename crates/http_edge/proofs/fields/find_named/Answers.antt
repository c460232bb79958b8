use Rattle.std.proofs.Common.{refl}
use Rattle.http_edge.proofs.FieldLemmas.{counts_named, counts_other, same_name, other_name}
use Rattle.http_edge.proofs.fields.find_named.Goals as goal
use Rattle.http_edge.proofs.fields.find_named.Goals.{then-eq_ignore_ascii_case, else-eq_ignore_ascii_case}

pub loop-field-preserved : goal.loop-field-preserved
loop-field-preserved c = elim c.if-eq_ignore_ascii_case.branch [
  | then-eq_ignore_ascii_case w ↦ rw w.found-is (counts_named _ _ _ _ _ _ c.loop-field-test.true
      (same_name _ _ _ c.of.ensures (w.if-eq_ignore_ascii_case.ensures.test.0 refl))
      (rw w.of-then-eq_ignore_ascii_case.ensures at (w.with-found.ensures _ c.loop-field.invariant)))
  | else-eq_ignore_ascii_case w ↦ rw w.found-is (counts_other _ _ _ _ _ _ c.loop-field-test.true
      (other_name _ _ _ c.of.ensures (λ e. absurd (cc (w.if-eq_ignore_ascii_case.ensures.test.1 e)))) c.loop-field.invariant)
]
