use Rattle.std.proofs.Common.{arith, ◌<◌, ◌≤◌, length, sym, subst}
use Rattle.http_edge.specs.Parts.{part_limit}
use Rattle.http_edge.specs.Reading.{Reached}
use Rattle.http_edge.specs.Chunking.{PartBy}
use Rattle.http_edge.proofs.ReadLemmas.{fills_on, ended_on, failed_on}
use Rattle.http_edge.proofs.ChunkingLemmas.{part_whole, part_long, part_cut}
use Rattle.http_edge.proofs.parts.read_part.Goals as goal

pub returns-in-Whole : goal.returns-in-Whole
returns-in-Whole g c =
    let facts = rw (c.window.ensures, c.as_slice.ensures) at c.in-Whole.ensures in
    subst (λ a. Reached c.args.ahead.now (g.S.Source.gives c.args.source.now) (g.S.Source.gives c.more.source) (PartBy c.args.part c.in-Whole.size c.in-Whole.count a))
    (sym c.skip.ensures) (part_whole c.args.part _ _ _ _ c.more.invariant c.in-Whole.size c.in-Whole.count facts)

pub returns-then-len-limit_of : goal.returns-then-len-limit_of
returns-then-len-limit_of g c =
    let long : part_limit c.args.part ≤ length c.more.ahead = omega arith in
    part_long c.args.part _ _ _ _ c.more.invariant long (rw (c.window.ensures, c.as_slice.ensures) at c.in-Piece.ensures)

pub more-preserved : goal.more-preserved
more-preserved g c = fills_on _ _ _ _ _ _ c.more.invariant c.in-Bytes.ensures.reads.1

pub returns-in-End : goal.returns-in-End
returns-in-End g c =
    let short : length c.more.ahead < part_limit c.args.part = omega arith in
    let reads = c.in-End.ensures.reads in (
      part_cut c.args.part _ _ _ _ c.more.invariant _ _ short (rw (c.window.ensures, c.as_slice.ensures) at c.in-Piece.ensures) reads.0 reads.1,
      ended_on _ _ _ _ _ c.more.invariant reads.2,
      fills_on _ _ _ _ _ _ c.more.invariant reads.1,
    )

pub returns-in-Failed : goal.returns-in-Failed
returns-in-Failed g c =
    let short : length c.more.ahead < part_limit c.args.part = omega arith in
    let reads = c.in-Failed.ensures.reads in (
      part_cut c.args.part _ _ _ _ c.more.invariant _ _ short (rw (c.window.ensures, c.as_slice.ensures) at c.in-Piece.ensures) reads.0 reads.1,
      failed_on _ _ _ _ (g.S.Source.gives c.read.new.source) c.more.invariant reads.2,
    )
