use Rattle.std.proofs.Common.{◌≡◌, ◌≤◌, suc, length, min, sym, ap, subst, arith}
use Rattle.std.specs.Prelude.{vec_capacity, vec_len}
use Rattle.container_table.specs.Tables.{Timed}
use Rattle.container_table.specs.Timers.{with_timer, cleared}
use Rattle.container_table.proofs.TimerLemmas.{length-with_timer}
use Rattle.container_table.proofs.timers.Timers.set.Goals as goal

pub put_in-requires-clause-room : goal.put_in-requires-clause-room
put_in-requires-clause-room c =
    let fits : length (with_timer c.args.moment c.args.rank c.args.number c.self.inside.listed.items) ≤ min (vec_capacity c.self.inside.listed) (vec_capacity c.self.inside.due) =
    subst (λ (k : Timed). length (with_timer c.args.moment c.args.rank c.args.number k.timers) ≤ k.places) (sym c.self.view_is) c.requires in
    let size : length (with_timer c.args.moment c.args.rank c.args.number c.self.inside.listed.items) ≡ suc (length (cleared c.args.rank c.args.number c.self.inside.listed.items)) =
    length-with_timer c.args.moment c.args.rank c.args.number c.self.inside.listed.items in
    let left : length c.take_out.new.listed.items ≡ length (cleared c.args.rank c.args.number c.self.inside.listed.items) = ap length c.take_out.ensures.listed in
    let whole : vec_len c.take_out.new.listed ≡ length c.take_out.new.listed.items = c.take_out.new.listed.ok.0 in
    let same : vec_capacity c.take_out.new.listed ≡ vec_capacity c.self.inside.listed = c.take_out.ensures.capacity in
    omega arith

pub put_in-requires-clause-due_room : goal.put_in-requires-clause-due_room
put_in-requires-clause-due_room c =
    let fits : length (with_timer c.args.moment c.args.rank c.args.number c.self.inside.listed.items) ≤ min (vec_capacity c.self.inside.listed) (vec_capacity c.self.inside.due) =
    subst (λ (k : Timed). length (with_timer c.args.moment c.args.rank c.args.number k.timers) ≤ k.places) (sym c.self.view_is) c.requires in
    let size : length (with_timer c.args.moment c.args.rank c.args.number c.self.inside.listed.items) ≡ suc (length (cleared c.args.rank c.args.number c.self.inside.listed.items)) =
    length-with_timer c.args.moment c.args.rank c.args.number c.self.inside.listed.items in
    let left : length c.take_out.new.listed.items ≡ length (cleared c.args.rank c.args.number c.self.inside.listed.items) = ap length c.take_out.ensures.listed in
    let whole : vec_len c.take_out.new.listed ≡ length c.take_out.new.listed.items = c.take_out.new.listed.ok.0 in
    let len : vec_len c.take_out.new.due ≡ vec_len c.take_out.new.listed = c.take_out.ensures.len in
    let same : vec_capacity c.take_out.new.due ≡ vec_capacity c.self.inside.due = c.take_out.ensures.due_capacity in
    omega arith
