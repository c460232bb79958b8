use Rattle.std.proofs.Common.{ap, ◌==◌, ◌∙◌}
use Rattle.std.specs.List.{before_first, after_first}
use Rattle.http_edge.specs.Reader.{request_of}
use Rattle.lab_control.proofs.AskingLemmas.{by_parts}
use Rattle.lab_control.proofs.asking.asked_of.Goals as goal

pub returns : goal.returns
returns c =
    c.asked_by.ensures
    ∙ by_parts (request_of c.args.request.now) _ _ _ c.method.ensures
    (c.cut_at.ensures.front ∙ ap (before_first (λ b. b == 63)) c.target.ensures)
    (c.cut_at.ensures.back ∙ ap (after_first (λ b. b == 63)) c.target.ensures)
