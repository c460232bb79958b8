use Rattle.std.proofs.Common.{arith, ◌<◌, ◌-◌, ap, refl, subst, sym}
use Rattle.exchange_laws.proofs.ClassLemmas.{asked_feeds, asked_kind, asked_sound, asked_whole}
use Rattle.session_poll.specs.Asking.{IsAsking}
use Rattle.session_poll.specs.Going.{Steps, told_of}
use Rattle.session_poll.specs.Left.{left_of}
use Rattle.session_poll.proofs.AskMoveLemmas.{call_less, call_made, call_tells, call_wanted}
use Rattle.session_poll.proofs.ToldLemmas.{tells_same}
use Rattle.session_poll.proofs.session.Session.ask_on.Goals as goal

pub returns-then-budget-eq0-clause-steps : goal.returns-then-budget-eq0-clause-steps
returns-then-budget-eq0-clause-steps g c v =
    let p = g.T.Turns.pass c.args.turns.now in
    subst (λ r. Steps p.charter c.args.self.now.conn (told_of c.args.told.now) r c.args.self.now c.args.self.now p p v v c.args.budget.now c.args.budget.now) (sym c.yields.ensures.result)
    (call_wanted c.args.self.now.conn (told_of c.args.told.now) c.args.self.now p c.args.budget.now c.requires.asks c.if-budget-eq0.true v)

pub ask_once-asked-requires-clause-sound : goal.ask_once-asked-requires-clause-sound
ask_once-asked-requires-clause-sound g c =
    let asks = subst IsAsking c.in-Asks.is c.requires.asks in asked_sound asks.0 c.in-Asks.call asks.1

pub ask_once-asked-requires-clause-feeds : goal.ask_once-asked-requires-clause-feeds
ask_once-asked-requires-clause-feeds g c =
    let asks = subst IsAsking c.in-Asks.is c.requires.asks in asked_feeds asks.0 c.in-Asks.call asks.1

pub ask_once-asked-requires-clause-kind : goal.ask_once-asked-requires-clause-kind
ask_once-asked-requires-clause-kind g c =
    let asks = subst IsAsking c.in-Asks.is c.requires.asks in asked_kind asks.0 c.in-Asks.call asks.1

pub ask_once-asked-requires-clause-whole : goal.ask_once-asked-requires-clause-whole
ask_once-asked-requires-clause-whole g c =
    let asks = subst IsAsking c.in-Asks.is c.requires.asks in asked_whole asks.0 c.in-Asks.call asks.1

pub returns-clause-steps : goal.returns-clause-steps
returns-clause-steps g c v =
    let asks = subst IsAsking c.in-Asks.is c.requires.asks in
    call_made c.args.self.now.conn (told_of c.args.told.now) c.args.self.now c.in-Asks.call c.in-Asks.terms c.in-Asks.early (g.T.Turns.pass c.args.turns.now)
    (g.T.Turns.pass c.ask_once-asked.new.turns) c.args.budget.now _ c.ask_once-asked.result c.go_by.result c.in-Asks.is (asked_feeds asks.0 c.in-Asks.call asks.1)
    c.ask_once-asked.ensures c.go_by.ensures (omega (arith, c.if-budget-eq0.false))
    (ap (λ n. record c.args.budget.now { turns = c.args.budget.now.turns - n }) c.calls_of.ensures) v

pub returns-then-budget-eq0-clause-tells : goal.returns-then-budget-eq0-clause-tells
returns-then-budget-eq0-clause-tells g c = tells_same c.args.self.now.state c.args.budget.now c.args.budget.now refl refl

pub returns-clause-tells : goal.returns-clause-tells
returns-clause-tells g c =
    call_tells c.ask_once-asked.result c.in-Asks.terms c.in-Asks.early c.args.self.now.state c.go_by.result c.args.budget.now _ c.go_by.ensures (omega arith)

pub returns-clause-less : goal.returns-clause-less
returns-clause-less g c =
    subst (λ n. left_of (record c.args.self.now { state = c.go_by.result }) (record c.args.budget.now { turns = c.args.budget.now.turns - n }) < left_of c.args.self.now c.args.budget.now) (sym c.calls_of.ensures)
    (call_less c.args.self.now c.ask_once-asked.result c.in-Asks.call c.in-Asks.terms c.in-Asks.early c.go_by.result c.args.budget.now c.in-Asks.is c.go_by.ensures
    (omega (arith, c.if-budget-eq0.false)))
