use Rattle.std.proofs.Common.{◌≡◌, ◌++◌, Bool, false, subst, sym, ◌∙◌}
use Rattle.http_edge.specs.Response.{head_text}
use Rattle.engine_drill.specs.Reading.{form_by}
use Rattle.engine_drill.proofs.AnswerLemmas.{length_begins}
use Rattle.engine_drill.proofs.answers.length_in.Goals as goal

pub returns-clause-found : goal.returns-clause-found
returns-clause-found c = λ n behind fits bare e.
    let status = c.args.status in
    let bytes = c.args.bytes.now in
    c.told_length.ensures n fits
    (length_begins status n behind bytes
    (subst (λ (b : Bool). bytes ≡ head_text (record { status = status; form = form_by b n; close = false }) ++ behind) (sym c.is_bare.ensures ∙ c.if-is_bare.false) e))
