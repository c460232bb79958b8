use Rattle.std.proofs.Common.{◌≡◌, suc, ◌-◌, Bool, true, false, List, filter, reverse, take, ap, sym, ◌∙◌, length, arith}
use Rattle.std.proofs.lemmas.Bool.Decides.{nat_tests}
use Rattle.machine_model.specs.Calls.List.{is_shown}
use Rattle.engine_text.specs.declared.container.Container.{Container}
use Rattle.container_table.specs.Logs.{container_in}
use Rattle.reading_calls.specs.Calls.List.{is_reached}
use Rattle.reading_calls.proofs.ListedLemmas.{listed_in, one_further, lets_in, cut_off}
use Rattle.reading_calls.proofs.list.shown.Goals as goal

pub returns-then-is_reached : goal.returns-then-is_reached
returns-then-is_reached c =
    let p : Container → Bool = is_shown c.args.all c.args.rows.now in
    let count : c.len.result ≡ length c.older.items.items = omega (arith, c.len.ensures) in
    let full : is_reached c.args.limit (length c.older.items.items) ≡ true = ap (is_reached c.args.limit) (sym count) ∙ (sym c.is_reached.ensures ∙ c.if-is_reached.true) in
    cut_off c.args.limit (filter p (reverse c.args.tables.now.state.containers)) c.older.items.items (listed_in p (take c.older.left c.args.tables.now.state.containers)) full c.older.invariant.within c.older.invariant.whole

pub older-preserved : goal.older-preserved
older-preserved c =
    let p : Container → Bool = is_shown c.args.all c.args.rows.now in
    let cs : List Container = c.args.tables.now.state.containers in
    let added = c.in_ok-add_shown.ensures in
    let count : c.len.result ≡ length c.older.items.items = omega (arith, c.len.ensures) in
    let below : is_reached c.args.limit (length c.older.items.items) ≡ false = ap (is_reached c.args.limit) (sym count) ∙ (sym c.is_reached.ensures ∙ c.if-is_reached.false) in
    let is : c.older.left ≡ suc (c.older.left - 1) = grind (arith, nat_tests, c.older-test.true) in
    record {
      low = omega (arith, c.older.invariant.low);
      within = lets_in c.args.limit p (container_in c.container_at.result.now) c.older.items.items c.add_shown.new.items.items below added;
      whole = one_further p cs c.older.left (c.older.left - 1) (container_in c.container_at.result.now) (listed_in p cs) c.older.items.items c.add_shown.new.items.items is c.container_at.ensures added c.older.invariant.whole;
    }
