use Rattle.std.proofs.Common.{◌-◌, length, take, get_or, sym, ap, ◌∙◌}
use Rattle.engine_text.specs.Query.{without_last_blanks}
use Rattle.engine_text.proofs.QueryLemmas.{without_last_blanks-blank, without_last_blanks-same, last_apart}
use Rattle.engine_text.proofs.query.without_last_blanks.Goals as goal

pub loop-left-preserved : goal.loop-left-preserved
loop-left-preserved c =
    let left = c.loop-left.left.now in
    let last = get_or left (length left - 1) 0 in
    let is = sym c.is_blank.ensures ∙ c.if-not-is_blank.false in
    let apart = last_apart left c.in-len1-up.len_at_least in
    sym (ap without_last_blanks apart ∙ without_last_blanks-blank (take (length left - 1) left) last is)
    ∙ c.loop-left.invariant

pub returns-then-not-is_blank : goal.returns-then-not-is_blank
returns-then-not-is_blank c =
    let left = c.loop-left.left.now in
    let last = get_or left (length left - 1) 0 in
    let is = sym c.is_blank.ensures ∙ c.if-not-is_blank.true in
    let apart = last_apart left c.in-len1-up.len_at_least in
    apart
    ∙ sym (ap without_last_blanks apart ∙ without_last_blanks-same (take (length left - 1) left) last is)
    ∙ c.loop-left.invariant
