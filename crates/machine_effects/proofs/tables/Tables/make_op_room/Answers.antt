use Rattle.std.proofs.Common.{List, ap, ◌∙◌}
use Rattle.proc_kernel.specs.Tables.{Entry, length_at, process_of}
use Rattle.machine_events.specs.Memory.{Memory}
use Rattle.machine_effects.specs.Views.Tables.{memory_of}
use Rattle.machine_events.proofs.RoomLemmas.{op_room}
use Rattle.machine_effects.proofs.tables.Tables.make_op_room.Goals as goal

pub returns-clause-room : goal.returns-clause-room
returns-clause-room c =
    op_room c.reserve.result c.args.owner c.reserve_end_of.new.self c.reserve_record.new.self _ c.record_length-length.result
    c.in_ok-reserve_end_of.ensures.room c.in_ok-reserve_record.ensures.kept c.reserve_record.ensures.state c.reserve_record.ensures.room
    (ap (λ (ps : List Entry). record (memory_of c.self.inside).state { processes = ps }) c.reserve.ensures.processes ∙ ap (λ (m : Memory). m.state) c.self.view_is)
    (ap (λ (m : Memory). m.room) c.self.view_is) (ap (λ (m : Memory). m.logs) c.self.view_is) (ap (λ (m : Memory). m.outputs) c.self.view_is)
    (c.record_length-length.ensures ∙ ap (λ (ps : List Entry). length_at (process_of c.args.owner ps)) c.kernel.ensures ∙ ap (λ (m : Memory). length_at (process_of c.args.owner m.state.processes)) c.self.view_is)
    c.reserve.ensures.spare c.reserve.ensures.bytes
