use Rattle.history_replay.proofs.UpgradeLemmas.{upgrade_law}
use Rattle.history_replay.proofs.laws.law_upgrade.Goals as goal

pub returns : goal.returns
returns c = upgrade_law
