use Rattle.std.proofs.Common.{◌∙◌, ap, eqb, sym, refl}
use Rattle.engine_text.specs.declared.exec.Exec.{Exec}
use Rattle.engine_text.specs.Lists.{update_first}
use Rattle.exec_table.specs.Execs.{ExecTable, ended}
use Rattle.exec_table.specs.ExecsInside.{execs_in, output_in, room_in}
use Rattle.exec_table.specs.declared.row.Row.{Row}
use Rattle.exec_table.proofs.OrderLemmas.{sorted_same, numbers_alone}
use Rattle.exec_table.proofs.IdLemmas.{index_kept}
use Rattle.exec_table.proofs.OwnerLemmas.{owned_kept}
use Rattle.exec_table.proofs.RowLemmas.{changed_in, unchanged_in, set_same}
use Rattle.exec_table.proofs.execs.Execs.ended.Goals as goal

pub invariant_of-self : goal.invariant_of-self
invariant_of-self c =
    let at = sym c.place_of.ensures ∙ c.in-Some.is in
    let now = changed_in (λ (x : Exec). eqb x.number c.args.number) (λ (r : Row). r.exec) (ended c.args.code) c.self.inside.rows.items c.in-Some.i c.at_mut-row.result.now _ at (ap (λ (r : Row). ended c.args.code r.exec) c.at_mut-row.ensures.value) in
    record {
      order = sorted_same c.self.inside.rows.items _ (set_same (λ (r : Row). r.exec.number) c.at_mut-row.result.now _ c.self.inside.rows.items c.in-Some.i (ap (λ (r : Row). r.exec.number) c.at_mut-row.ensures.value)) c.self.invariant.order;
      ids = index_kept c.args.number (ended c.args.code) (execs_in c.self.inside.rows.items) _ c.self.inside.ids.items (λ x. refl) (λ x. refl) (numbers_alone c.args.number c.self.inside.rows.items c.self.invariant.order) now c.self.invariant.ids;
      owned = owned_kept c.args.number (ended c.args.code) (execs_in c.self.inside.rows.items) _ c.self.inside.owned.items (λ x. refl) (λ x. refl) (λ x. refl) (numbers_alone c.args.number c.self.inside.rows.items c.self.invariant.order) now c.self.invariant.owned;
    }

pub returns-in-Some-clause-execs : goal.returns-in-Some-clause-execs
returns-in-Some-clause-execs c =
    let at = sym c.place_of.ensures ∙ c.in-Some.is in
    changed_in (λ (x : Exec). eqb x.number c.args.number) (λ (r : Row). r.exec) (ended c.args.code) c.self.inside.rows.items c.in-Some.i c.at_mut-row.result.now _ at (ap (λ (r : Row). ended c.args.code r.exec) c.at_mut-row.ensures.value)
    ∙ ap (λ (t : ExecTable). update_first (λ (x : Exec). eqb x.number c.args.number) (ended c.args.code) t.execs) c.self.view_is

pub returns-in-Some-clause-outputs : goal.returns-in-Some-clause-outputs
returns-in-Some-clause-outputs c =
    set_same output_in c.at_mut-row.result.now _ c.self.inside.rows.items c.in-Some.i (ap output_in c.at_mut-row.ensures.value)
    ∙ ap (λ (t : ExecTable). t.outputs) c.self.view_is

pub returns-in-Some-clause-rooms : goal.returns-in-Some-clause-rooms
returns-in-Some-clause-rooms c =
    set_same room_in c.at_mut-row.result.now _ c.self.inside.rows.items c.in-Some.i (ap room_in c.at_mut-row.ensures.value)
    ∙ ap (λ (t : ExecTable). t.rooms) c.self.view_is

pub returns-in_default-clause-execs : goal.returns-in_default-clause-execs
returns-in_default-clause-execs c =
    let at = sym c.place_of.ensures ∙ c.in_default.is in
    ap (λ (t : ExecTable). t.execs) (sym c.self.view_is)
    ∙ unchanged_in (λ (x : Exec). eqb x.number c.args.number) (λ (r : Row). r.exec) (ended c.args.code) c.self.inside.rows.items at
    ∙ ap (λ (t : ExecTable). update_first (λ (x : Exec). eqb x.number c.args.number) (ended c.args.code) t.execs) c.self.view_is
