use Rattle.std.proofs.Common.{◌≡◌, length, map}
use Rattle.engine_text.specs.Filter.{filter_word}
use Rattle.engine_text.specs.Soundness.{are_rising}
use Rattle.engine_text.specs.declared.filter.FilterRow.{FilterRow}
use Rattle.journal_lines.proofs.sound.rising.do_rows_rise.Given as goal

abbrev pub invariant-rows : goal.invariant-rows
invariant-rows l = are_rising (map (λ (r : FilterRow). filter_word r.key) l.rest) ≡ are_rising (map (λ (r : FilterRow). filter_word r.key) l.fn.rows)

abbrev pub decreases-rows : goal.decreases-rows
decreases-rows l = length l.rest
