use Rattle.std.proofs.Common.{List, ◌∙◌, sym, ap, subst}
use Rattle.std.specs.List.{insert}
use Rattle.engine_text.specs.declared.step.DueAction.{DueAction}
use Rattle.container_table.specs.Order.{in_order, IsInOrder}
use Rattle.container_table.specs.Timers.{is_before, is_listed_before}
use Rattle.container_table.proofs.IndexLemmas.{inserted}
use Rattle.container_table.proofs.TimerLemmas.{due_in_order, none_listed, none_due, inserted_listed, inserted_due, in_order_placed}
use Rattle.container_table.proofs.timers.put_in.Goals as goal

pub unreachable-requires : goal.unreachable-requires
unreachable-requires c = none_listed c.args.listed.now.items c.args.timer.now c.in_default.field-0 c.requires.fresh (rw c.as_slice.ensures.value at c.in_default.ensures.place)

pub due_place-requires : goal.due_place-requires
due_place-requires c =
    subst (λ (es : List DueAction). IsInOrder is_before es) (sym (c.as_slice-2.ensures.value ∙ c.requires.due)) (due_in_order c.args.listed.now.items c.requires.order)

pub unreachable-requires-in_default-due_place : goal.unreachable-requires-in_default-due_place
unreachable-requires-in_default-due_place c =
    none_due c.args.listed.now.items c.args.due.now.items c.args.timer.now c.in_default-due_place.field-0 c.requires.due c.requires.fresh (rw c.as_slice-2.ensures.value at c.in_default-due_place.ensures.place)

pub returns-clause-listed : goal.returns-clause-listed
returns-clause-listed c =
    inserted c.insert.result c.insert.new.self.items (insert c.args.listed.now.items c.in-Err.i c.args.timer.now) c.args.listed.now.items (c.insert.ensures.succeeds c.requires.room) c.insert.ensures.items
    ∙ inserted_listed c.args.listed.now.items c.args.timer.now c.in-Err.i (rw c.as_slice.ensures.value at c.in-Err.ensures.place)

pub returns-clause-order : goal.returns-clause-order
returns-clause-order c =
    subst (λ (es : List DueAction). IsInOrder is_listed_before es)
    (sym (inserted c.insert.result c.insert.new.self.items (insert c.args.listed.now.items c.in-Err.i c.args.timer.now) c.args.listed.now.items (c.insert.ensures.succeeds c.requires.room) c.insert.ensures.items
    ∙ inserted_listed c.args.listed.now.items c.args.timer.now c.in-Err.i (rw c.as_slice.ensures.value at c.in-Err.ensures.place)))
    (in_order_placed c.args.listed.now.items c.args.timer.now c.requires.order c.requires.fresh)

pub returns-clause-due : goal.returns-clause-due
returns-clause-due c =
    inserted c.insert-2.result c.insert-2.new.self.items (insert c.args.due.now.items c.in-Err-due_place.j c.args.timer.now) c.args.due.now.items (c.insert-2.ensures.succeeds c.requires.due_room) c.insert-2.ensures.items
    ∙ inserted_due c.args.listed.now.items c.args.due.now.items c.args.timer.now c.in-Err-due_place.j c.requires.due c.requires.fresh (rw c.as_slice-2.ensures.value at c.in-Err-due_place.ensures.place)
    ∙ ap (in_order is_before)
    (sym (inserted c.insert.result c.insert.new.self.items (insert c.args.listed.now.items c.in-Err.i c.args.timer.now) c.args.listed.now.items (c.insert.ensures.succeeds c.requires.room) c.insert.ensures.items
    ∙ inserted_listed c.args.listed.now.items c.args.timer.now c.in-Err.i (rw c.as_slice.ensures.value at c.in-Err.ensures.place)))
