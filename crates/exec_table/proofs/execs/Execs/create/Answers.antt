use Rattle.std.proofs.Common.{◌≡◌, ◌<◌, ℕ, map, List, [], ◌∷◌, ◌++◌, length, ap, sym, subst, ◌∙◌, arith}
use Rattle.engine_text.specs.declared.exec.Exec.{Exec}
use Rattle.engine_text.specs.declared.log.LogRecord.{LogRecord}
use Rattle.engine_text.specs.declared.owner.Owner.{Owner}
use Rattle.exec_table.specs.Execs.{ExecTable}
use Rattle.exec_table.specs.ExecsInside.{execs_in, output_in, outputs_in, owned_in, room_in, IsIndex}
use Rattle.exec_table.specs.declared.row.Row.{Row}
use Rattle.exec_table.proofs.OrderLemmas.{sorted_push}
use Rattle.exec_table.proofs.IdLemmas.{fresh_for, index_length}
use Rattle.exec_table.proofs.OwnerLemmas.{owned_length, owned_rise}
use Rattle.exec_table.proofs.RowLemmas.{more_in, rows_counted}
use Rattle.exec_table.proofs.execs.Execs.create.Goals as goal

pub file-requires-clause-fresh : goal.file-requires-clause-fresh
file-requires-clause-fresh c = fresh_for c.args.exec.id _ c.args.self.now.execs (ap (λ (t : ExecTable). t.execs) c.self.view_is) c.requires.fresh

pub file-requires-clause-room : goal.file-requires-clause-room
file-requires-clause-room c =
    let room = subst (λ (t : ExecTable). length t.execs < t.places) (sym c.self.view_is) c.requires.room in
    let many : length c.self.inside.ids.items ≡ length (execs_in c.self.inside.rows.items) = index_length (execs_in c.self.inside.rows.items) c.self.inside.ids.items c.self.invariant.ids in
    omega (arith, room, many)

pub file-requires-2-clause-rises : goal.file-requires-2-clause-rises
file-requires-2-clause-rises c = owned_rise c.self.inside.rows.items c.self.inside.owned.items c.self.invariant.order c.self.invariant.owned

pub file-requires-2-clause-room : goal.file-requires-2-clause-room
file-requires-2-clause-room c =
    let room = subst (λ (t : ExecTable). length t.execs < t.places) (sym c.self.view_is) c.requires.room in
    let many : length c.self.inside.owned.items ≡ length (execs_in c.self.inside.rows.items) = owned_length (execs_in c.self.inside.rows.items) c.self.inside.owned.items c.self.invariant.owned in
    omega (arith, room, many)

pub push-requires : goal.push-requires
push-requires c =
    let room = subst (λ (t : ExecTable). length t.execs < t.places) (sym c.self.view_is) c.requires.room in
    let many : length (execs_in c.self.inside.rows.items) ≡ length c.self.inside.rows.items = rows_counted c.self.inside.rows.items in
    omega (arith, room, many)

pub invariant_of-self : goal.invariant_of-self
invariant_of-self c =
    let row : Row = record { exec = c.args.exec; log = c.new-log.result } in
    let more : execs_in c.push.new.self.items ≡ execs_in c.self.inside.rows.items ++ c.args.exec ∷ [] = ap execs_in c.push.ensures.items ∙ more_in (λ (r : Row). r.exec) c.self.inside.rows.items row in
    let shown = ap (λ (t : ExecTable). t.execs) c.self.view_is in
    record {
      order = rw c.push.ensures.items (sorted_push c.self.inside.rows.items row c.self.invariant.order (rw shown c.requires.above));
      ids = subst (λ (xs : List Exec). IsIndex xs c.file.new.ids.items) (sym more) c.file.ensures.index;
      owned = c.file-2.ensures.index (execs_in c.self.inside.rows.items) c.self.invariant.owned (rw shown c.requires.above) ∙ ap owned_in (sym more);
    }

pub returns-clause-execs : goal.returns-clause-execs
returns-clause-execs c =
    ap execs_in c.push.ensures.items ∙ more_in (λ (r : Row). r.exec) c.self.inside.rows.items (record { exec = c.args.exec; log = c.new-log.result })
    ∙ ap (λ (t : ExecTable). t.execs ++ c.args.exec ∷ []) c.self.view_is

pub returns-clause-outputs : goal.returns-clause-outputs
returns-clause-outputs c =
    ap outputs_in c.push.ensures.items ∙ more_in output_in c.self.inside.rows.items (record { exec = c.args.exec; log = c.new-log.result })
    ∙ ap (λ (log : List LogRecord). outputs_in c.self.inside.rows.items ++ (record { owner = Owner.Exec c.args.exec.number; log = log }) ∷ []) c.new-log.ensures.records
    ∙ ap (λ (t : ExecTable). t.outputs ++ (record { owner = Owner.Exec c.args.exec.number; log = [] }) ∷ []) c.self.view_is

pub returns-clause-rooms : goal.returns-clause-rooms
returns-clause-rooms c =
    ap (map room_in) c.push.ensures.items ∙ more_in room_in c.self.inside.rows.items (record { exec = c.args.exec; log = c.new-log.result })
    ∙ ap (λ (n : ℕ). map room_in c.self.inside.rows.items ++ n ∷ []) c.new-log.ensures.room
    ∙ ap (λ (t : ExecTable). t.rooms ++ 0 ∷ []) c.self.view_is
