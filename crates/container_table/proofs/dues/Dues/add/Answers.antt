use Rattle.std.proofs.Common.{◌≡◌, ◌<◌, List, ◌∙◌, sym, ap, subst, length, arith}
use Rattle.std.specs.List.{insert}
use Rattle.std.specs.VecDeque.{deque_len, deque_capacity}
use Rattle.engine_text.specs.declared.step.DueAction.{DueAction}
use Rattle.container_table.specs.Dues.{DueList, with_due}
use Rattle.container_table.specs.DuesInside.{IsUnreversed}
use Rattle.container_table.proofs.DueLemmas.{inserted_due, put_in, unreversed_with}
use Rattle.container_table.proofs.dues.Dues.add.Goals as goal

pub invariant_of-self : goal.invariant_of-self
invariant_of-self c =
    let room : length c.self.inside.list.items < deque_capacity c.self.inside.list = subst (λ (l : DueList). length l.actions < l.places) (sym c.self.view_is) c.requires in
    let whole : deque_len c.self.inside.list ≡ length c.self.inside.list.items = c.self.inside.list.ok.0 in
    let now : c.insert.new.self.items ≡ insert c.self.inside.list.items c.place_of-place.result c.args.action.now = put_in c.args.action.now c.self.inside.list c.insert.new.self c.insert.result c.place_of-place.result (omega arith) c.insert.ensures.items c.insert.ensures.full in
    subst (λ (ds : List DueAction). IsUnreversed ds)
    (sym (now ∙ inserted_due c.args.action.now c.self.inside.list.items c.place_of-place.result c.place_of-place.ensures.place))
    (unreversed_with c.args.action.now c.self.inside.list.items c.self.invariant)

pub returns-clause-actions : goal.returns-clause-actions
returns-clause-actions c =
    let room : length c.self.inside.list.items < deque_capacity c.self.inside.list = subst (λ (l : DueList). length l.actions < l.places) (sym c.self.view_is) c.requires in
    let whole : deque_len c.self.inside.list ≡ length c.self.inside.list.items = c.self.inside.list.ok.0 in
    put_in c.args.action.now c.self.inside.list c.insert.new.self c.insert.result c.place_of-place.result (omega arith) c.insert.ensures.items c.insert.ensures.full
    ∙ inserted_due c.args.action.now c.self.inside.list.items c.place_of-place.result c.place_of-place.ensures.place
    ∙ ap (λ (l : DueList). with_due c.args.action.now l.actions) c.self.view_is
