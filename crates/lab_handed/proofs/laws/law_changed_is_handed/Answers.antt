use Rattle.lab_handed.proofs.SpellLemmas.{changed_is_handed}
use Rattle.lab_handed.proofs.laws.law_changed_is_handed.Goals as goal

pub returns : goal.returns
returns c = changed_is_handed
