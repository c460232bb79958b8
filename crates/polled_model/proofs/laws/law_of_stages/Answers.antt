use Rattle.polled_model.proofs.StageLemmas.{beside, reading, writing}
use Rattle.polled_model.proofs.WaitLemmas.{waiting, waiting_early}
use Rattle.polled_model.proofs.StreamLemmas.{streaming}
use Rattle.polled_model.proofs.EndLemmas.{ending}
use Rattle.polled_model.proofs.laws.law_of_stages.Goals as goal

pub returns : goal.returns
returns c ch k s = record {
  beside = beside ch k s;
  reads = λ tail. reading ch k tail s;
  waits = λ n r behind. waiting ch k n r behind s;
  early = λ n r behind rest. waiting_early ch k n r behind rest s;
  streams = λ r behind reply place body rest. streaming ch k r behind reply place body rest s;
  writes = λ part rest. writing ch k part rest s;
  endings = ending ch k s;
}
