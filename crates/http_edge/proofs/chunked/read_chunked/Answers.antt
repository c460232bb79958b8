use Rattle.http_edge.proofs.ChunkingLemmas.{more_read, more_bound, whole_read, refused_read, cut_read, ended_read, failed_read}
use Rattle.http_edge.proofs.chunked.read_chunked.Goals as goal

pub more-preserved : goal.more-preserved
more-preserved g c =
    let says = c.in-Chunk.ensures.says in
    let bound = more_bound _ _ _ _ _ _ c.more.invariant.read _ _ _ _ says c.more.invariant.bound in
    record {
      room = c.in-Chunk.ensures.room;
      fits = bound.1;
      bound = bound.2;
      read = more_read _ _ _ _ _ _ c.more.invariant.read _ _ _ _ says;
    }

pub returns-in-Last-clause-says : goal.returns-in-Last-clause-says
returns-in-Last-clause-says g c =
    whole_read _ _ _ _ _ _ c.more.invariant.read c.more.invariant.fits _ _ c.in-Last.more _ c.in-Last.ensures.says

pub returns-in-Refused-clause-says : goal.returns-in-Refused-clause-says
returns-in-Refused-clause-says g c =
    refused_read _ _ _ _ _ _ c.more.invariant.read c.more.invariant.fits c.in-Refused.status _ c.in-Refused.ensures.says

pub returns-in-CutShort-clause-says : goal.returns-in-CutShort-clause-says
returns-in-CutShort-clause-says g c =
    let says = c.in-CutShort.ensures.says in
    (cut_read _ _ _ _ _ _ c.more.invariant.read c.more.invariant.fits _ says.0, ended_read _ _ _ _ _ _ c.more.invariant.read _ says.1)

pub returns-in-Failed-clause-says : goal.returns-in-Failed-clause-says
returns-in-Failed-clause-says g c =
    let says = c.in-Failed.ensures.says in (
      cut_read _ _ _ _ _ _ c.more.invariant.read c.more.invariant.fits _ says.0,
      failed_read _ _ _ _ _ _ c.more.invariant.read (g.S.Source.gives c.read_chunk.new.source) says.1,
    )
