use Rattle.std.proofs.Common.{◌≡◌, eqb, sym, None, Some, Ok, Err, position, rules}
use Rattle.std.specs.Ordering.{nat_cmp}
use Rattle.std.proofs.lemmas.Cmp.{nat_cmp_total}
use Rattle.std.proofs.lemmas.List.Sorted.{answers_always}
use Rattle.engine_text.proofs.PlaceLemmas.{searched, find_at, find_nowhere}
use Rattle.engine_text.specs.declared.ticket.Asked.{Asked}
use Rattle.machine_tables.specs.declared.held.HeldTicket.{HeldTicket}
use Rattle.machine_tables.proofs.RisingLemmas.{same_number}
use Rattle.machine_tables.proofs.ticket_rows.halved.Goals as goal

abbrev nothing : HeldTicket
nothing = record { number = 0; connection = 0; container = 0; asked = Asked.Stop; ready = None }

pub returns-in-Ok : goal.returns-in-Ok
returns-in-Ok c =
    let p = λ (t : HeldTicket). eqb t.number c.args.number in
    let by_key = c.in-Ok.ensures.position (λ (t : HeldTicket). t.number) (answers_always _ _ _ (λ f a r g called. search rules)) in
    let at : Some c.in-Ok.i ≡ position p c.args.tickets.now =
    searched nat_cmp nat_cmp_total (λ (t : HeldTicket). t.number) p c.args.number (λ t. same_number t.number c.args.number) c.args.tickets.now c.requires (Ok c.in-Ok.i) c.in-Ok.ensures.bound by_key in
    sym (find_at p c.args.tickets.now c.in-Ok.i nothing (sym at))

pub returns-in-Err : goal.returns-in-Err
returns-in-Err c =
    let p = λ (t : HeldTicket). eqb t.number c.args.number in
    let by_key = c.in-Err.ensures.position (λ (t : HeldTicket). t.number) (answers_always _ _ _ (λ f a r g called. search rules)) in
    let at : None ≡ position p c.args.tickets.now =
    searched nat_cmp nat_cmp_total (λ (t : HeldTicket). t.number) p c.args.number (λ t. same_number t.number c.args.number) c.args.tickets.now c.requires (Err c.in-Err.field-0) c.in-Err.ensures.bound by_key in
    sym (find_nowhere p c.args.tickets.now (sym at))
