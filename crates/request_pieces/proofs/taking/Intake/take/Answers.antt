use Rattle.std.proofs.Common.{arith, length, ◌+◌, ◌-◌, ap, refl}
use Rattle.request_pieces.proofs.TakeLemmas.{taken_fits, taken_whole, taken_refused, taken_part}
use Rattle.request_pieces.proofs.taking.Intake.take.Goals as goal

pub overflow_sub-used : goal.overflow_sub-used
overflow_sub-used c = omega (arith, c.len.ensures.count, taken_fits c.args.self.now c.args.self.now c.args.piece.now c.new-rest.result c.take_all.new.piece c.new-rest.ensures.rest c.take_all.new.ahead c.take_all.new.buffers c.in-Whole.found c.requires.0 c.in-Whole.ensures c.requires.1)

pub returns-in-Whole : goal.returns-in-Whole
returns-in-Whole c =
    taken_whole c.args.self.now c.forget.new.self c.args.piece.now c.new-rest.result c.take_all.new.piece c.new-rest.ensures.rest c.take_all.new.ahead c.take_all.new.buffers c.in-Whole.found _ _ c.in-Whole.ensures
    (ap (λ n. length c.args.piece.now - (length c.take_all.new.piece.rest.now + n)) c.len.ensures.count) c.saturating_add-count.ensures c.forget.ensures.none c.forget.ensures.buffers

pub returns-in-Refused : goal.returns-in-Refused
returns-in-Refused c =
    taken_refused c.args.self.now c.forget-in-Refused.new.self c.args.piece.now c.new-rest.result c.take_all.new.piece c.new-rest.ensures.rest c.take_all.new.ahead c.take_all.new.buffers c.in-Refused.status c.in-Refused.ensures c.forget-in-Refused.ensures.none

pub returns-in-Awaits : goal.returns-in-Awaits
returns-in-Awaits c =
    taken_part c.args.self.now _ c.args.piece.now c.new-rest.result c.take_all.new.piece c.new-rest.ensures.rest c.take_all.new.ahead c.take_all.new.buffers c.in-Awaits.inside c.in-Awaits.ensures refl refl refl c.saturating_add-self.ensures
