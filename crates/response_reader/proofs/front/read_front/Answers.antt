use Rattle.std.proofs.Common.{subst}
use Rattle.http_edge.proofs.ReadLemmas.{fills_on, reached, ended_on, failed_on}
use Rattle.response_reader.specs.Fronts.{NeverHas, IsPartOf}
use Rattle.response_reader.specs.Heads.{IsHead}
use Rattle.response_reader.proofs.ChunkLemmas.{head_cut}
use Rattle.response_reader.proofs.front.read_front.Goals as goal

pub returns-in-Never : goal.returns-in-Never
returns-in-Never g c = reached _ _ _ _ (NeverHas IsHead) c.more.invariant (subst (NeverHas IsHead) c.as_slice.ensures c.in-Never.ensures)

pub more-preserved : goal.more-preserved
more-preserved g c = fills_on _ _ _ _ _ _ c.more.invariant c.in-Bytes.ensures.reads.1

pub returns-in-End : goal.returns-in-End
returns-in-End g c =
    let reads = c.in-End.ensures.reads in (
      head_cut _ _ _ _ _ _ c.more.invariant (subst (IsPartOf IsHead) c.as_slice.ensures c.in-Part.ensures.0) reads.0 reads.1,
      ended_on _ _ _ _ _ c.more.invariant reads.2,
    )

pub returns-in-Failed : goal.returns-in-Failed
returns-in-Failed g c =
    let reads = c.in-Failed.ensures.reads in (
      head_cut _ _ _ _ _ _ c.more.invariant (subst (IsPartOf IsHead) c.as_slice.ensures c.in-Part.ensures.0) reads.0 reads.1,
      failed_on _ _ _ _ (g.S.Source.gives c.read.new.source) c.more.invariant reads.2,
    )
