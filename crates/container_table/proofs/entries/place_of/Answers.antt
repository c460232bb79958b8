use Rattle.std.proofs.Common.{List, ℕ, sym, subst, nat_lt}
use Rattle.std.specs.List.Sorted.{IsSearchInRange}
use Rattle.container_table.specs.Order.{IsInOrder}
use Rattle.container_table.specs.Held.{contents}
use Rattle.container_table.proofs.HeldLemmas.{order_numbers, numbers_rise, less_before, greater_behind, number_placed, length-numbers}
use Rattle.container_table.proofs.SpanLemmas.{spans}
use Rattle.container_table.proofs.entries.place_of.Goals as goal

pub least_place-low-requires : goal.least_place-low-requires
least_place-low-requires c = subst (λ (ns : List ℕ). IsInOrder nat_lt ns) (sym c.requires.numbers) (order_numbers (contents c.args.held.now.list.items) c.requires.order)

pub last_place-high-requires : goal.last_place-high-requires
last_place-high-requires c = subst (λ (ns : List ℕ). IsInOrder nat_lt ns) (sym c.requires.numbers) (order_numbers (contents c.args.held.now.list.items) c.requires.order)

pub place_between-requires-clause-rises : goal.place_between-requires-clause-rises
place_between-requires-clause-rises c = numbers_rise c.args.number (contents c.args.held.now.list.items) c.args.held.now.numbers.items c.requires.order c.requires.numbers

pub place_between-requires-clause-order : goal.place_between-requires-clause-order
place_between-requires-clause-order c =
    spans c.args.held.now.numbers.items c.least_place-low.result c.last_place-high.result c.args.number c.least_place-low.ensures.bound c.least_place-low.ensures.below c.last_place-high.ensures.above

pub place_between-requires-clause-below : goal.place_between-requires-clause-below
place_between-requires-clause-below c = less_before c.args.number c.args.held.now.numbers.items c.least_place-low.result c.least_place-low.ensures.bound c.least_place-low.ensures.below

pub place_between-requires-clause-above : goal.place_between-requires-clause-above
place_between-requires-clause-above c = greater_behind c.args.number c.args.held.now.numbers.items c.last_place-high.result c.last_place-high.ensures.above

pub returns-clause-bound : goal.returns-clause-bound
returns-clause-bound c =
    subst (λ (k : ℕ). IsSearchInRange c.place_between.result k) (length-numbers c.args.held.now.list.items c.args.held.now.numbers.items c.requires.numbers) c.place_between.ensures.bound

pub returns-clause-place : goal.returns-clause-place
returns-clause-place c =
    number_placed c.args.number (contents c.args.held.now.list.items) c.args.held.now.numbers.items c.place_between.result c.requires.order c.requires.numbers
    c.place_between.ensures.bound c.place_between.ensures.place
