use Rattle.request_pieces.proofs.HeadLemmas.{head_framed, head_less, head_never, head_long, head_none, head_part, no_fault}
use Rattle.request_pieces.proofs.head.take_head.Goals as goal

pub returns-in-Head-clause-says : goal.returns-in-Head-clause-says
returns-in-Head-clause-says c = head_framed c.args.buffers.now c.take_framed.new.buffers _ _ c.args.piece.now c.read_head.new.source c.in-Head.ensures.fills c.take_framed.result _ c.take_framed.ensures

pub returns-in-Head-clause-less : goal.returns-in-Head-clause-less
returns-in-Head-clause-less c = head_less c.args.buffers.now c.take_framed.new.buffers _ _ c.args.piece.now c.read_head.new.source c.in-Head.ensures.fills c.take_framed.result _ c.take_framed.ensures

pub returns-in-Malformed-clause-says : goal.returns-in-Malformed-clause-says
returns-in-Malformed-clause-says c = head_never c.args.buffers.now c.read_head.new.self _ _ c.args.piece.now c.read_head.new.source c.in-Malformed.ensures.fills c.in-Malformed.ensures.within c.in-Malformed.ensures.facts

pub returns-in-TooLong-clause-says : goal.returns-in-TooLong-clause-says
returns-in-TooLong-clause-says c =
    let facts = c.in-TooLong.ensures.facts in
    head_long c.args.buffers.now c.read_head.new.self _ _ c.args.piece.now c.read_head.new.source c.in-TooLong.ensures.fills facts.0 facts.1 facts.2

pub returns-in-End-clause-says : goal.returns-in-End-clause-says
returns-in-End-clause-says c =
    let facts = c.in-End.ensures.facts in
    head_none c.args.buffers.now c.read_head.new.self _ _ c.args.piece.now c.read_head.new.source c.in-End.ensures.fills facts.0 facts.1

pub returns-in-CutShort-clause-says : goal.returns-in-CutShort-clause-says
returns-in-CutShort-clause-says c =
    let facts = c.in-CutShort.ensures.facts in
    head_part c.args.buffers.now c.read_head.new.self _ _ c.args.piece.now c.read_head.new.source c.in-CutShort.ensures.fills facts.0 facts.1 facts.2 facts.3 facts.4

pub unreachable-requires : goal.unreachable-requires
unreachable-requires c = let facts = c.in-Failed.ensures.facts in no_fault c.args.piece.now c.read_head.new.source facts.1
