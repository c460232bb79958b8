use Rattle.polled_model.proofs.ProgressLemmas.{progress}
use Rattle.polled_model.proofs.laws.law_of_progress.Goals as goal

pub returns : goal.returns
returns c = progress
