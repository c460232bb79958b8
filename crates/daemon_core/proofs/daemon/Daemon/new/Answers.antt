use Rattle.std.proofs.Common.{rules, [], ◌∙◌, sym, ap, subst, arith, length}
use Rattle.event_ring.specs.Ring.{ring_of}
use Rattle.machine_model.specs.State.{State}
use Rattle.machine_model.specs.History.{IsLegal, events_of, state_after}
use Rattle.daemon_core.specs.Keeping.{told_entries}
use Rattle.daemon_core.specs.Storing.{charter_of, pass_of}
use Rattle.daemon_core.proofs.DaemonLemmas.{as_stored}
use Rattle.daemon_core.proofs.KeepLemmas.{history_new, told_none}
use Rattle.daemon_core.proofs.RingLemmas.{holds_last}
use Rattle.daemon_core.proofs.daemon.Daemon.new.Goals as goal

pub invariant_of-result-clause-state : goal.invariant_of-result-clause-state
invariant_of-result-clause-state c =
    let ch = charter_of c.args.seed c.args.moment c.args.greatest in
    let j = c.in_ok-new-2.field-0 in
    let none = history_new j c.in_ok-new-2.ensures.entries c.in_ok-new-2.ensures.since in
    as_stored (record { machine = c.in_ok-new.field-0; journal = j; ring = c.in_ok-new-3.field-0 }) _
    (c.in_ok-new.ensures ∙ ap (state_after ch) (sym none))

pub invariant_of-result-clause-told : goal.invariant_of-result-clause-told
invariant_of-result-clause-told c =
    let ch = charter_of c.args.seed c.args.moment c.args.greatest in
    let j = c.in_ok-new-2.field-0 in
    let none = history_new j c.in_ok-new-2.ensures.entries c.in_ok-new-2.ensures.since in
    holds_last ch (record { machine = c.in_ok-new.field-0; journal = j; ring = c.in_ok-new-3.field-0 })
    (c.in_ok-new-3.ensures ∙ ap (λ xs. ring_of (events_of ch xs)) (sym none))
    (c.in_ok-new-2.ensures.entries ∙ sym (told_none ch) ∙ ap (told_entries ch) (sym none))

pub invariant_of-result-clause-legal : goal.invariant_of-result-clause-legal
invariant_of-result-clause-legal c =
    let ch = charter_of c.args.seed c.args.moment c.args.greatest in
    let j = c.in_ok-new-2.field-0 in
    let none = history_new j c.in_ok-new-2.ensures.entries c.in_ok-new-2.ensures.since in
    let opened : IsLegal ch [] = search rules in
    subst (IsLegal ch) (sym none) opened

pub returns : goal.returns
returns c =
    let ch = charter_of c.args.seed c.args.moment c.args.greatest in
    ap (pass_of ch) (history_new c.in_ok-new-2.field-0 c.in_ok-new-2.ensures.entries c.in_ok-new-2.ensures.since)

pub invariant_of-result-clause-ends : goal.invariant_of-result-clause-ends
invariant_of-result-clause-ends c =
    let none = ap length c.in_ok-new-2.ensures.entries in
    let idle = ap (λ (s : State). length s.tickets) c.in_ok-new.ensures in
    omega (arith, none, idle)
