use Rattle.std.proofs.Common.{◌≡◌, ◌++◌, ℕ, List, subst, sym, ap, ◌∙◌}
use Rattle.std.proofs.lemmas.List.{take_rest}
use Rattle.http_edge.specs.Response.{head_text}
use Rattle.http_edge.specs.declared.head.Head.{Head}
use Rattle.engine_drill.proofs.AnswerLemmas.{if_none, never_found, none_by_status, none_by_head, none_by_size, is_answer}
use Rattle.engine_drill.proofs.answers.first_answer.Goals as goal

pub returns-in_err-status-clause-none : goal.returns-in_err-status-clause-none
returns-in_err-status-clause-none c =
    if_none _ (none_by_status c.args.bytes.now (λ status final begins. never_found status (c.in_err-status.ensures.found status final begins)))

pub returns-in_err-behind-clause-none : goal.returns-in_err-behind-clause-none
returns-in_err-behind-clause-none c =
    let bytes = c.args.bytes.now in
    let status = c.in_ok-status.status in
    let size = c.length_in-size.result in
    if_none _ (none_by_head bytes status size c.in_ok-status.ensures.found c.length_in-size.ensures.found
    (λ b e. c.in_err-behind.ensures.none b (subst (λ (h : Head). bytes ≡ head_text h ++ b) (sym c.head_of-head.ensures) e)))

pub returns-then-behind-size-clause-none : goal.returns-then-behind-size-clause-none
returns-then-behind-size-clause-none c =
    let bytes = c.args.bytes.now in
    let status = c.in_ok-status.status in
    let size = c.length_in-size.result in
    let rest = c.in_ok-behind.behind.now in
    none_by_size bytes status size c.in_ok-status.ensures.found c.length_in-size.ensures.found rest
    (subst (λ (h : Head). bytes ≡ head_text h ++ rest) c.head_of-head.ensures c.in_ok-behind.ensures.some) c.if-behind-size.true

pub returns-clause-some : goal.returns-clause-some
returns-clause-some c =
    let bytes = c.args.bytes.now in
    let status = c.in_ok-status.status in
    let size = c.length_in-size.result in
    let rest = c.in_ok-behind.behind.now in
    let a = is_answer bytes rest status size c.in_ok-status.ensures.known c.length_in-size.type_inv c.length_in-size.ensures.bare
    (subst (λ (h : Head). bytes ≡ head_text h ++ rest) c.head_of-head.ensures c.in_ok-behind.ensures.some) c.if-behind-size.false in
    (a.0, a.1, a.2 ∙ ap (λ (r : List ℕ). a.0 ++ r) (sym (take_rest rest size)))
