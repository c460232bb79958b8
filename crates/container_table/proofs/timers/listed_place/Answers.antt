use Rattle.std.proofs.Common.{rules}
use Rattle.std.proofs.lemmas.Fn.{always_returns_same}
use Rattle.container_table.specs.DueOrders.{listed_order}
use Rattle.container_table.specs.Timers.{is_listed_before}
use Rattle.container_table.proofs.TimerLemmas.{found_by, listed_total, listed_less}
use Rattle.container_table.proofs.timers.listed_place.Goals as goal

pub returns-clause-place : goal.returns-clause-place
returns-clause-place c =
    found_by listed_order is_listed_before listed_total listed_less c.args.listed.now c.args.timer.now c.binary_search_by.result c.requires c.binary_search_by.ensures.bound
    (c.binary_search_by.ensures.position (λ d. listed_order d c.args.timer.now) (always_returns_same _ _ _ (λ a r f' k. search rules)))
