use Rattle.std.proofs.Common.{ap, drop, subst, ◌∙◌, Some, None}
use Rattle.std.proofs.lemmas.List.{take_rest}
use Rattle.response_reader.specs.Matching.{StatusSays}
use Rattle.response_reader.proofs.StatusLemmas.{taken_front, status_front, no_status_front}
use Rattle.response_reader.proofs.heads.front_of.Goals as goal

pub returns-in-Some : goal.returns-in-Some
returns-in-Some c =
    let bytes = c.args.bytes.now in
    let taken = taken_front bytes c.takeover.result c.takeover-2.result c.front_by.result c.front_by-2.result c.either-taken_over.result
    c.takeover.ensures c.takeover-2.ensures c.front_by.ensures c.front_by-2.ensures c.either-taken_over.ensures in
    let says = subst (StatusSays (Some c.in-Some.status)) (take_rest bytes c.min.result ∙ ap (λ n. drop n bytes) c.min.ensures) c.in-Some.ensures in
    rw c.either.ensures (status_front bytes c.in-Some.status says c.either-taken_over.result c.framed_front.result taken c.framed_front.ensures)

pub returns-in-None : goal.returns-in-None
returns-in-None c =
    let bytes = c.args.bytes.now in
    let taken = taken_front bytes c.takeover.result c.takeover-2.result c.front_by.result c.front_by-2.result c.either-taken_over.result
    c.takeover.ensures c.takeover-2.ensures c.front_by.ensures c.front_by-2.ensures c.either-taken_over.ensures in
    let says = subst (StatusSays None) (take_rest bytes c.min.result ∙ ap (λ n. drop n bytes) c.min.ensures) c.in-None.ensures in
    no_status_front bytes says c.either-taken_over.result taken
