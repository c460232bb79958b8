use Rattle.std.proofs.Common.{◌≡◌, ◌<◌, List, ◌∙◌, sym, ap, subst, arith, length}
use Rattle.std.specs.List.{remove}
use Rattle.std.specs.VecDeque.{deque_len}
use Rattle.engine_text.specs.declared.step.DueAction.{DueAction}
use Rattle.container_table.specs.Dues.{DueList, without_due}
use Rattle.container_table.specs.DuesInside.{IsUnreversed}
use Rattle.container_table.proofs.DueLemmas.{removed_due, left_due, taken_out, unreversed_without}
use Rattle.container_table.proofs.dues.Dues.remove.Goals as goal

pub invariant_of-self : goal.invariant_of-self
invariant_of-self c =
    let gone = removed_due c.args.action.now c.self.inside.list.items c.place_of-place.result c.place_of-place.ensures.place (sym c.is_at.ensures ∙ c.if-is_at.true) in
    let whole : deque_len c.self.inside.list ≡ length c.self.inside.list.items = c.self.inside.list.ok.0 in
    let low : c.place_of-place.result < length c.self.inside.list.items = gone.0 in
    let now = taken_out c.remove.result _ (c.remove.ensures.succeeds c.args.action.now (omega arith)) (c.remove.new.self.items ≡ remove c.self.inside.list.items c.place_of-place.result) c.remove.ensures.items ∙ gone.1 in
    subst (λ (ds : List DueAction). IsUnreversed ds) (sym now) (unreversed_without c.args.action.now c.self.inside.list.items c.self.invariant)

pub returns-then-is_at-clause-actions : goal.returns-then-is_at-clause-actions
returns-then-is_at-clause-actions c =
    let gone = removed_due c.args.action.now c.self.inside.list.items c.place_of-place.result c.place_of-place.ensures.place (sym c.is_at.ensures ∙ c.if-is_at.true) in
    let whole : deque_len c.self.inside.list ≡ length c.self.inside.list.items = c.self.inside.list.ok.0 in
    let low : c.place_of-place.result < length c.self.inside.list.items = gone.0 in
    taken_out c.remove.result _ (c.remove.ensures.succeeds c.args.action.now (omega arith)) (c.remove.new.self.items ≡ remove c.self.inside.list.items c.place_of-place.result) c.remove.ensures.items
    ∙ gone.1 ∙ ap (λ (l : DueList). without_due c.args.action.now l.actions) c.self.view_is

pub returns-else-is_at-clause-actions : goal.returns-else-is_at-clause-actions
returns-else-is_at-clause-actions c =
    ap (λ (l : DueList). l.actions) (sym c.self.view_is)
    ∙ left_due c.args.action.now c.self.inside.list.items c.place_of-place.result c.self.invariant c.place_of-place.ensures.place (sym c.is_at.ensures ∙ c.if-is_at.false)
    ∙ ap (λ (l : DueList). without_due c.args.action.now l.actions) c.self.view_is
