use Rattle.http_edge.proofs.ChunkingLemmas.{piece_cut, piece_failed, piece_read, end_refused, end_cut, end_failed}
use Rattle.http_edge.proofs.chunked.read_piece.Goals as goal

pub returns-in-CutShort-clause-says : goal.returns-in-CutShort-clause-says
returns-in-CutShort-clause-says g c =
    piece_cut c.args.size c.args.count _ c.args.body.now.items c.grow.new.body.items _ _ c.requires.fits c.grow.new.ahead c.in-CutShort.ensures.says

pub returns-in-Failed-clause-says : goal.returns-in-Failed-clause-says
returns-in-Failed-clause-says g c =
    piece_failed c.args.size c.args.count _ c.args.body.now.items c.grow.new.body.items _ _ c.requires.fits c.grow.new.ahead c.in-Failed.ensures.says

pub returns-in-Whole-read_part-clause-says : goal.returns-in-Whole-read_part-clause-says
returns-in-Whole-read_part-clause-says g c =
    piece_read c.args.size c.args.count _ c.args.body.now.items c.grow.new.body.items _ _ c.requires.fits c.grow.new.ahead c.requires.some c.in-Whole.ensures.says
    c.in-Whole-read_part.field-0 c.in-Whole-read_part.field-1 _ _ c.in-Whole-read_part.ensures

pub returns-in-Refused-clause-says : goal.returns-in-Refused-clause-says
returns-in-Refused-clause-says g c =
    end_refused c.args.size c.args.count _ c.args.body.now.items c.grow.new.body.items _ _ c.requires.fits c.grow.new.ahead c.requires.some c.in-Whole.ensures.says
    c.read_part.new.ahead _ c.in-Refused.ensures

pub returns-in-CutShort-read_part-clause-says : goal.returns-in-CutShort-read_part-clause-says
returns-in-CutShort-read_part-clause-says g c =
    end_cut c.args.size c.args.count _ c.args.body.now.items c.grow.new.body.items _ _ c.requires.fits c.grow.new.ahead c.requires.some c.in-Whole.ensures.says
    c.read_part.new.ahead _ (c.in-CutShort-read_part.ensures.0, c.in-CutShort-read_part.ensures.1)

pub returns-in-Failed-read_part-clause-says : goal.returns-in-Failed-read_part-clause-says
returns-in-Failed-read_part-clause-says g c =
    end_failed c.args.size c.args.count _ c.args.body.now.items c.grow.new.body.items _ _ c.requires.fits c.grow.new.ahead c.requires.some c.in-Whole.ensures.says
    c.read_part.new.ahead _ c.in-Failed-read_part.ensures
