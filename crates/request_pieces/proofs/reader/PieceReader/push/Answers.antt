use Rattle.std.proofs.Common.{refl}
use Rattle.std.specs.Prelude.{None, Some}
use Rattle.request_pieces.specs.declared.reader.Pushed.TheVariants.{Bad, CutShort}
use Rattle.request_pieces.proofs.PushLemmas.{push_request, push_bad, push_more, push_end, push_cut, sound_request, sound_bad, sound_more, sound_cut}
use Rattle.request_pieces.proofs.reader.PieceReader.push.Goals as goal

pub take-requires : goal.take-requires
take-requires c = (c.self.invariant.bytes, c.self.invariant.taken)

pub invariant_of-self : goal.invariant_of-self
invariant_of-self c =
    sound_request c.self.inside.intake _ c.args.piece.now c.self.invariant.bytes c.self.invariant.taken c.in-Request.found c.in-Request.count c.in-Request.used _ c.in-Request.ensures refl refl c.in_default.is

pub invariant_of-self-in-Refused : goal.invariant_of-self-in-Refused
invariant_of-self-in-Refused c =
    sound_bad c.self.inside.intake _ c.args.piece.now c.self.invariant.bytes c.self.invariant.taken c.in-Refused.status c.self.inside.taken c.in-Refused.ensures refl refl

pub invariant_of-self-then-not-end : goal.invariant_of-self-then-not-end
invariant_of-self-then-not-end c =
    sound_more c.self.inside.intake _ c.args.piece.now c.self.invariant.bytes c.self.invariant.taken c.in-Awaits.ensures refl c.in_default.is

pub invariant_of-self-then-self-eq0 : goal.invariant_of-self-then-self-eq0
invariant_of-self-then-self-eq0 c =
    sound_more c.self.inside.intake _ c.args.piece.now c.self.invariant.bytes c.self.invariant.taken c.in-Awaits-2.ensures refl c.in_default.is

pub invariant_of-self-in-Awaits-1 : goal.invariant_of-self-in-Awaits-1
invariant_of-self-in-Awaits-1 c =
    sound_cut c.self.inside.intake _ c.args.piece.now c.self.invariant.bytes c.self.invariant.taken c.in-Awaits-3.ensures refl refl

pub returns-in-Request : goal.returns-in-Request
returns-in-Request c =
    push_request c.self.inside
    (record { intake = c.take.new.self; shown = Some (record { found = c.in-Request.found; coded = c.saturating_sub-coded.result }); taken = c.saturating_add-self-inside.result; stopped = c.self.inside.stopped })
    c.args.self.now c.self.view_is c.in_default.is c.args.piece.now c.args.end c.self.invariant.bytes c.in-Request.found c.in-Request.count c.in-Request.used _ c.self.invariant.taken c.in-Request.ensures refl refl
    c.saturating_sub-coded.ensures c.saturating_add-self-inside.ensures c.in_default.is

pub returns-in-Refused : goal.returns-in-Refused
returns-in-Refused c =
    push_bad c.self.inside
    (record { intake = c.take.new.self; shown = None; taken = c.self.inside.taken; stopped = Some (Bad c.in-Refused.status c.self.inside.taken) })
    c.args.self.now c.self.view_is c.in_default.is c.args.piece.now c.args.end c.in-Refused.status c.self.inside.taken c.in-Refused.ensures refl refl refl refl

pub returns-in-Awaits : goal.returns-in-Awaits
returns-in-Awaits c =
    push_more c.self.inside (record { intake = c.take.new.self; shown = None; taken = c.self.inside.taken; stopped = c.self.inside.stopped })
    c.args.self.now c.self.view_is c.in_default.is c.args.piece.now c.args.end c.in-Awaits.ensures refl refl c.if-not-end.true c.in_default.is

pub returns-in-Awaits-2 : goal.returns-in-Awaits-2
returns-in-Awaits-2 c =
    push_end c.self.inside (record { intake = c.take.new.self; shown = None; taken = c.self.inside.taken; stopped = c.self.inside.stopped })
    c.args.self.now c.self.view_is c.in_default.is c.args.piece.now c.args.end c.in-Awaits-2.ensures refl refl c.if-not-end.false c.if-self-eq0.true c.in_default.is

pub returns-in-Awaits-3 : goal.returns-in-Awaits-3
returns-in-Awaits-3 c =
    push_cut c.self.inside (record { intake = c.take.new.self; shown = None; taken = c.self.inside.taken; stopped = Some CutShort })
    c.args.self.now c.self.view_is c.in_default.is c.args.piece.now c.args.end c.in-Awaits-3.ensures refl refl c.if-not-end.false c.if-self-eq0.false refl
