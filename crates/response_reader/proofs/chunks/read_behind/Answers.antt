use Rattle.std.proofs.Common.{arith, ◌≡◌}
use Rattle.response_reader.proofs.ChunkLemmas.{last_read, last_refused, last_cut, last_failed}
use Rattle.response_reader.proofs.chunks.read_behind.Goals as goal

pub returns-in-Whole : goal.returns-in-Whole
returns-in-Whole g c =
    let none : c.args.size ≡ 0 = omega arith in
    last_read c.args.size c.args.count _ _ _ _ none c.in-Whole.field-0 c.in-Whole.more c.in-Whole.ensures

pub returns-in-Refused : goal.returns-in-Refused
returns-in-Refused g c =
    let none : c.args.size ≡ 0 = omega arith in
    last_refused c.args.size c.args.count _ c.read_part.new.ahead _ _ none c.in-Refused.ensures

pub returns-in-CutShort : goal.returns-in-CutShort
returns-in-CutShort g c =
    let none : c.args.size ≡ 0 = omega arith in
    last_cut c.args.size c.args.count _ c.read_part.new.ahead _ _ none (c.in-CutShort.ensures.0, c.in-CutShort.ensures.1)

pub returns-in-Failed : goal.returns-in-Failed
returns-in-Failed g c =
    let none : c.args.size ≡ 0 = omega arith in
    last_failed c.args.size c.args.count _ c.read_part.new.ahead _ _ none c.in-Failed.ensures
