use Rattle.std.proofs.Common.{◌∙◌, subst, sym}
use Rattle.session_model.specs.Turning.{MayAsk, Turn}
use Rattle.daemon_core.specs.Keeping.{history_of}
use Rattle.daemon_core.specs.Passing.{charter, whole_pass}
use Rattle.daemon_core.proofs.TicketLemmas.{dropped}
use Rattle.daemon_core.proofs.daemon.Daemon.turn.Goals as goal

pub drop_ticket-requires : goal.drop_ticket-requires
drop_ticket-requires c =
    let d = c.args.self.now in
    subst (MayAsk (charter d) c.args.conn (history_of d.stored.journal)) (dropped _ c.in-Some.ticket (sym c.drop_of.ensures ∙ c.in-Some.is)) c.requires

pub returns-in-Some : goal.returns-in-Some
returns-in-Some c =
    subst (λ o. Turn c.args.conn c.args.handed o c.drop_ticket.result (whole_pass c.args.self.now) (whole_pass c.drop_ticket.new.self))
    (sym (dropped _ c.in-Some.ticket (sym c.drop_of.ensures ∙ c.in-Some.is))) (c.drop_ticket.ensures c.args.handed)
