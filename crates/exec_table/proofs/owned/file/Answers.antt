use Rattle.exec_table.proofs.OwnerLemmas.{filed_owned}
use Rattle.exec_table.proofs.owned.file.Goals as goal

pub returns-clause-index : goal.returns-clause-index
returns-clause-index c xs is low =
    filed_owned c.args.exec.now xs c.args.owned.now.items c.insert.new.self.items c.end_of-place.result is low c.end_of-place.ensures.place c.insert.ensures.items
