use Rattle.std.proofs.Common.{◌∙◌, ◌∷◌, [], List, length, filter, not, ap, sym, subst, eqb, arith, length-append}
use Rattle.std.specs.List.Sorted.{IsStrictlySortedBy}
use Rattle.engine_text.specs.declared.exec.Exec.{Exec}
use Rattle.exec_table.specs.ExecsInside.{by_row, execs_in, output_in, owned_in, IsIndex}
use Rattle.exec_table.specs.declared.row.Row.{Row}
use Rattle.exec_table.proofs.GoneLemmas.{sorted_less, execs_less, gone_over}
use Rattle.exec_table.proofs.OwnerLemmas.{owned_rise, first_low, is_left}
use Rattle.exec_table.proofs.removal.move_first.Goals as goal

pub start_of-place-requires : goal.start_of-place-requires
start_of-place-requires c = owned_rise c.args.rows.now.items c.args.owned.now.items c.requires.order c.requires.owned

pub remove-first-requires : goal.remove-first-requires
remove-first-requires c = first_low c.args.container c.args.rows.now.items c.args.owned.now.items c.start_of-place.result c.requires.order c.requires.owned c.start_of-place.ensures.place c.requires.some

pub returns-clause-order : goal.returns-clause-order
returns-clause-order c =
    subst (λ (rs : List Row). IsStrictlySortedBy by_row rs) (sym c.move_out.ensures.rows) (sorted_less (λ (r : Row). eqb r.exec.number c.remove-first.result.number) c.args.rows.now.items c.requires.order)

pub returns-clause-ids : goal.returns-clause-ids
returns-clause-ids c =
    subst (λ (xs : List Exec). IsIndex xs c.unfile.new.ids.items) (sym (ap execs_in c.move_out.ensures.rows ∙ execs_less c.remove-first.result.number c.args.rows.now.items)) c.unfile.ensures.index

pub returns-clause-owned : goal.returns-clause-owned
returns-clause-owned c =
    let left = is_left c.args.container c.args.rows.now.items c.args.owned.now.items c.remove-first.result c.start_of-place.result c.requires.order c.requires.owned c.start_of-place.ensures.place c.requires.some
    c.remove-first.ensures.value in
    c.remove-first.ensures.items ∙ left.index ∙ ap (λ (rs : List Row). owned_in (execs_in rs)) (sym c.move_out.ensures.rows)

pub returns-clause-stay : goal.returns-clause-stay
returns-clause-stay c =
    let left = is_left c.args.container c.args.rows.now.items c.args.owned.now.items c.remove-first.result c.start_of-place.result c.requires.order c.requires.owned c.start_of-place.ensures.place c.requires.some
    c.remove-first.ensures.value in
    ap (filter (λ (r : Row). not (eqb r.exec.container c.args.container))) c.move_out.ensures.rows ∙ left.gone.stay

pub returns-clause-go : goal.returns-clause-go
returns-clause-go c =
    let left = is_left c.args.container c.args.rows.now.items c.args.owned.now.items c.remove-first.result c.start_of-place.result c.requires.order c.requires.owned c.start_of-place.ensures.place c.requires.some
    c.remove-first.ensures.value in
    gone_over c.args.into.now.items c.move_out.new.into.items left.gone.row (filter (λ (r : Row). eqb r.exec.container c.args.container) c.args.rows.now.items)
    (filter (λ (r : Row). eqb r.exec.container c.args.container) c.move_out.new.rows.items)
    (c.move_out.ensures.into left.gone.row left.gone.found)
    (left.gone.go ∙ ap (λ (rs : List Row). left.gone.row ∷ filter (λ (r : Row). eqb r.exec.container c.args.container) rs) (sym c.move_out.ensures.rows))

pub returns-clause-left : goal.returns-clause-left
returns-clause-left c =
    let left = is_left c.args.container c.args.rows.now.items c.args.owned.now.items c.remove-first.result c.start_of-place.result c.requires.order c.requires.owned c.start_of-place.ensures.place c.requires.some
    c.remove-first.ensures.value in
    let all = ap length left.gone.go in
    let new = ap (λ (rs : List Row). length (filter (λ (r : Row). eqb r.exec.container c.args.container) rs)) c.move_out.ensures.rows in
    omega (arith, all, new)

pub returns-clause-more : goal.returns-clause-more
returns-clause-more c =
    let left = is_left c.args.container c.args.rows.now.items c.args.owned.now.items c.remove-first.result c.start_of-place.result c.requires.order c.requires.owned c.start_of-place.ensures.place c.requires.some
    c.remove-first.ensures.value in
    let long = ap length (c.move_out.ensures.into left.gone.row left.gone.found) ∙ length-append c.args.into.now.items (output_in left.gone.row ∷ []) in
    omega (arith, long, c.args.into.now.ok.0, c.move_out.new.into.ok.0)
