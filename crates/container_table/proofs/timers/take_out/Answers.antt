use Rattle.std.proofs.Common.{◌≡◌, List, None, ◌∙◌, sym, ap, subst}
use Rattle.engine_text.specs.declared.step.DueAction.{DueAction}
use Rattle.container_table.specs.Order.{in_order, IsInOrder}
use Rattle.container_table.specs.Search.{HoldsOf, Parts}
use Rattle.container_table.specs.Timers.{timer_in, is_before, is_listed_before}
use Rattle.container_table.specs.DueOrders.{listed_order, due_order}
use Rattle.std.specs.declared.cmp.Ordering.TheVariants.{Less, Equal, Greater}
use Rattle.container_table.proofs.SearchLemmas.{holds_at, holds_bound}
use Rattle.container_table.proofs.TimerLemmas.{no_timer_here, cleared_none, due_in_order, due_somewhere, removed_listed, removed_due, in_order_cleared, none_cleared, timers_alone}
use Rattle.container_table.proofs.timers.take_out.Goals as goal

pub returns-in_default-clause-gone : goal.returns-in_default-clause-gone
returns-in_default-clause-gone c = no_timer_here c.args.listed.now.items c.args.key.now c.in_default.field-0 (rw c.as_slice.ensures.value at c.in_default.ensures.place)

pub returns-in_default-clause-listed : goal.returns-in_default-clause-listed
returns-in_default-clause-listed c =
    sym (cleared_none c.args.key.now.rank c.args.key.now.number c.args.listed.now.items
    (no_timer_here c.args.listed.now.items c.args.key.now c.in_default.field-0 (rw c.as_slice.ensures.value at c.in_default.ensures.place)))

pub due_place-requires : goal.due_place-requires
due_place-requires c =
    subst (λ (es : List DueAction). IsInOrder is_before es) (sym (c.as_slice-2.ensures.value ∙ c.requires.due)) (due_in_order c.args.listed.now.items c.requires.order)

pub unreachable-requires : goal.unreachable-requires
unreachable-requires c =
    let at : HoldsOf (λ d. listed_order d c.args.key.now ≡ Equal) c.args.listed.now.items c.in-Ok.i = rw c.as_slice.ensures.value at c.in-Ok.ensures.place in
    let parts : Parts (λ e. due_order e c.index.result.now ≡ Less) (λ e. due_order e c.index.result.now ≡ Greater) c.args.due.now.items c.in_default-due_place.field-0 = rw c.as_slice-2.ensures.value at c.in_default-due_place.ensures.place in
    due_somewhere c.args.listed.now.items c.args.due.now.items c.in-Ok.i c.in_default-due_place.field-0 c.index.result.now c.requires.due
    (holds_bound (λ d. listed_order d c.args.key.now ≡ Equal) c.args.listed.now.items c.in-Ok.i at)
    (subst (λ (t : DueAction). Parts (λ e. due_order e t ≡ Less) (λ e. due_order e t ≡ Greater) c.args.due.now.items c.in_default-due_place.field-0) c.index.ensures parts)

pub returns-clause-listed : goal.returns-clause-listed
returns-clause-listed c =
    c.remove.ensures.items ∙ removed_listed c.args.listed.now.items c.args.key.now c.in-Ok.i c.requires.order (rw c.as_slice.ensures.value at c.in-Ok.ensures.place)

pub returns-clause-order : goal.returns-clause-order
returns-clause-order c =
    subst (λ (es : List DueAction). IsInOrder is_listed_before es) (sym (c.remove.ensures.items ∙ removed_listed c.args.listed.now.items c.args.key.now c.in-Ok.i c.requires.order (rw c.as_slice.ensures.value at c.in-Ok.ensures.place)))
    (in_order_cleared c.args.key.now.rank c.args.key.now.number c.args.listed.now.items c.requires.order)

pub returns-clause-gone : goal.returns-clause-gone
returns-clause-gone c =
    subst (λ (es : List DueAction). timer_in c.args.key.now.rank c.args.key.now.number es ≡ None)
    (sym (c.remove.ensures.items ∙ removed_listed c.args.listed.now.items c.args.key.now c.in-Ok.i c.requires.order (rw c.as_slice.ensures.value at c.in-Ok.ensures.place)))
    (none_cleared c.args.key.now.rank c.args.key.now.number c.args.listed.now.items (timers_alone c.args.key.now.rank c.args.key.now.number c.args.listed.now.items c.requires.order))

pub returns-clause-due : goal.returns-clause-due
returns-clause-due c =
    let at : HoldsOf (λ d. listed_order d c.args.key.now ≡ Equal) c.args.listed.now.items c.in-Ok.i = rw c.as_slice.ensures.value at c.in-Ok.ensures.place in
    let same : listed_order c.index.result.now c.args.key.now ≡ Equal =
    subst (λ (t : DueAction). listed_order t c.args.key.now ≡ Equal) (sym c.index.ensures) (holds_at (λ d. listed_order d c.args.key.now ≡ Equal) c.args.listed.now.items c.in-Ok.i c.index.result.now at) in
    c.remove-2.ensures.items
    ∙ removed_due c.args.listed.now.items c.args.due.now.items c.args.key.now c.index.result.now c.in-Ok-due_place.j c.requires.order c.requires.due same (rw c.as_slice-2.ensures.value at c.in-Ok-due_place.ensures.place)
    ∙ ap (in_order is_before) (sym (c.remove.ensures.items ∙ removed_listed c.args.listed.now.items c.args.key.now c.in-Ok.i c.requires.order at))
