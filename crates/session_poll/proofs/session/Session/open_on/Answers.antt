use Rattle.std.proofs.Common.{arith, ◌<◌, refl, subst, sym}
use Rattle.api_routes.specs.declared.class.Takeover.{Takeover}
use Rattle.exchange_laws.proofs.ClassLemmas.{streamed_kind, streamed_sound}
use Rattle.exchange_laws.proofs.ReplyLemmas.{feeds_none}
use Rattle.session_poll.specs.Going.{Steps, TellsBy, told_of}
use Rattle.session_poll.specs.Left.{left_of}
use Rattle.session_poll.specs.declared.state.Step.TheVariants as came
use Rattle.session_poll.specs.Streaming.{IsOpening}
use Rattle.session_poll.proofs.StreamMoveLemmas.{called_less, called_tells, opened_whole, stream_called, stream_wanted}
use Rattle.session_poll.proofs.ToldLemmas.{tells_same}
use Rattle.session_poll.proofs.session.Session.open_on.Goals as goal

pub returns-then-budget-eq0-clause-steps : goal.returns-then-budget-eq0-clause-steps
returns-then-budget-eq0-clause-steps g c v =
    let p = g.T.Turns.pass c.args.turns.now in
    subst (λ r. Steps p.charter c.args.self.now.conn (told_of c.args.told.now) r c.args.self.now c.args.self.now p p v v c.args.budget.now c.args.budget.now) (sym c.yields.ensures.result)
    (stream_wanted c.args.self.now.conn (told_of c.args.told.now) c.args.self.now p c.args.budget.now c.requires.opens c.if-budget-eq0.true v)

pub returns-then-budget-eq0-clause-tells : goal.returns-then-budget-eq0-clause-tells
returns-then-budget-eq0-clause-tells g c = tells_same c.args.self.now.state c.args.budget.now c.args.budget.now refl refl

pub open_once-opened-requires-clause-sound : goal.open_once-opened-requires-clause-sound
open_once-opened-requires-clause-sound g c =
    let opens = subst IsOpening c.in-Opens.is c.requires.opens in streamed_sound opens.0 c.in-Opens.call Takeover.None opens.1

pub open_once-opened-requires-clause-streamed : goal.open_once-opened-requires-clause-streamed
open_once-opened-requires-clause-streamed g c =
    let opens = subst IsOpening c.in-Opens.is c.requires.opens in streamed_kind opens.0 c.in-Opens.call opens.1

pub open_by-requires : goal.open_by-requires
open_by-requires g c = opened_whole c.open_once-opened.result _ _ c.open_once-opened.ensures.so

pub left_behind-requires : goal.left_behind-requires
left_behind-requires g c = omega (arith, c.if-budget-eq0.false)

pub returns-clause-steps : goal.returns-clause-steps
returns-clause-steps g c v =
    let opens = subst IsOpening c.in-Opens.is c.requires.opens in
    let p = g.T.Turns.pass c.args.turns.now in
    let q = g.T.Turns.pass c.open_once-opened.new.turns in
    subst (Steps p.charter c.args.self.now.conn (told_of c.args.told.now) came.On c.args.self.now (record c.args.self.now { state = c.open_by.result }) p q v v c.args.budget.now)
    (sym c.left_behind.ensures)
    (stream_called c.args.self.now.conn (told_of c.args.told.now) c.args.self.now c.in-Opens.call c.in-Opens.terms p q c.args.budget.now c.open_once-opened.result
    c.open_by.result c.in-Opens.is (feeds_none c.in-Opens.call (streamed_kind opens.0 c.in-Opens.call opens.1)) c.open_once-opened.ensures c.open_by.ensures
    (omega (arith, c.if-budget-eq0.false)) v)

pub returns-clause-tells : goal.returns-clause-tells
returns-clause-tells g c =
    subst (TellsBy c.args.self.now.state c.open_by.result c.args.budget.now) (sym c.left_behind.ensures)
    (called_tells c.open_once-opened.result c.in-Opens.terms c.args.self.now.state c.open_by.result c.args.budget.now c.requires.opens c.open_by.ensures
    (omega (arith, c.if-budget-eq0.false)))

pub returns-clause-less : goal.returns-clause-less
returns-clause-less g c =
    subst (λ b. left_of (record c.args.self.now { state = c.open_by.result }) b < left_of c.args.self.now c.args.budget.now) (sym c.left_behind.ensures)
    (called_less c.args.self.now c.open_once-opened.result c.in-Opens.terms c.open_by.result c.args.budget.now c.requires.opens c.open_by.ensures
    (omega (arith, c.if-budget-eq0.false)))
