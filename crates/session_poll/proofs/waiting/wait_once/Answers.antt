use Rattle.session_model.specs.declared.turned.Turned.TheVariants as T
use Rattle.session_poll.proofs.WaitMoveLemmas.{still_begun}
use Rattle.session_poll.proofs.waiting.wait_once.Goals as goal

pub drop_ticket-requires-clause-begun : goal.drop_ticket-requires-clause-begun
drop_ticket-requires-clause-begun g c =
    still_begun c.args.conn c.args.told.now.handed c.args.ticket T.NoMemory _ _ tt c.in-NoMemory.ensures.comes c.requires.begun

pub drop_ticket-requires-in-NotYet-clause-begun : goal.drop_ticket-requires-in-NotYet-clause-begun
drop_ticket-requires-in-NotYet-clause-begun g c =
    still_begun c.args.conn c.args.told.now.handed c.args.ticket T.NotYet _ _ tt c.in-NotYet.ensures.comes c.requires.begun

pub drop_ticket-requires-in-Err-clause-begun : goal.drop_ticket-requires-in-Err-clause-begun
drop_ticket-requires-in-Err-clause-begun g c =
    still_begun c.args.conn c.args.told.now.handed c.args.ticket T.NotYet _ _ tt c.in-NotYet-2.ensures.comes c.requires.begun
