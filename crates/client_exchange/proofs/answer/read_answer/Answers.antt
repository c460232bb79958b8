use Rattle.std.proofs.Common.{inl, inr}
use Rattle.client_exchange.proofs.AnswerLemmas.{below, above, head_stands, bad_head, cut_head, head_failed, refusal_says}
use Rattle.client_exchange.proofs.answer.read_answer.Goals as goal

pub returns-then-status-lt400 : goal.returns-then-status-lt400
returns-then-status-lt400 g c =
    let says = c.in-Head.ensures.says.1 in
    c.go_on.ensures _ says.0 c.requires.new (head_stands _ _ _ _ says.0 c.requires.unread says.4 says.3)
    (below c.in-Head.status says.0.status says.1 c.if-status-lt400.true) says.1 says.2

pub returns-else-status-lt400 : goal.returns-else-status-lt400
returns-else-status-lt400 g c =
    let says = c.in-Head.ensures.says.1 in
    refusal_says c.refusal.result c.in-Head.status says.0.status c.args.taker.now.showing c.args.taker.now _ _ _ _ says.1
    (c.refusal.ensures _ says.0 c.requires.new (head_stands _ _ _ _ says.0 c.requires.unread says.4 says.3)
    (above c.in-Head.status says.0.status says.1 c.if-status-lt400.false))

pub returns-in-BadHead : goal.returns-in-BadHead
returns-in-BadHead g c = inl (bad_head c.args.taker.now.showing c.in-BadHead.at _ _ _ _ _ c.requires.unread c.in-BadHead.ensures.says)

pub returns-in-CutShort : goal.returns-in-CutShort
returns-in-CutShort g c = inl (cut_head c.args.taker.now.showing _ _ _ _ _ c.requires.new c.requires.unread c.in-CutShort.ensures.says)

pub returns-in-ReadFault : goal.returns-in-ReadFault
returns-in-ReadFault g c = inr (head_failed c.args.taker.now.showing _ _ _ _ _ c.requires.unread c.in-ReadFault.ensures.says)
