use Rattle.std.proofs.Common.{◌++◌, ap, subst, ◌∙◌}
use Rattle.journal_lines.specs.Line.{IsHeaderFault}
use Rattle.history_replay.proofs.LineEndLemmas.{no_end_no_head, no_head}
use Rattle.history_replay.proofs.head.head_of.Goals as goal

pub returns-in_default-clause-none : goal.returns-in_default-clause-none
returns-in_default-clause-none c = no_end_no_head c.args.text.now c.in_default.ensures.none

pub returns-in-Ok-clause-whole : goal.returns-in-Ok-clause-whole
returns-in-Ok-clause-whole c = ap (λ l. l ++ c.in-Some.rest.now) c.in-Ok.ensures.taken.1 ∙ c.in-Some.ensures.whole

pub returns-in-Err-BadLine-clause-none : goal.returns-in-Err-BadLine-clause-none
returns-in-Err-BadLine-clause-none c =
    let refused = subst (IsHeaderFault c.in-Some.line.now) c.in-Err-BadLine.field-0-is c.in-Err-BadLine.ensures.refused in
    no_head c.args.text.now c.in-Some.line.now c.in-Some.rest.now c.in-Some.ensures.line c.in-Some.ensures.whole refused
