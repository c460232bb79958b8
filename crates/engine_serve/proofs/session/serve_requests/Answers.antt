use Rattle.std.proofs.Common.{refl, ap, Ok, Err}
use Rattle.engine_serve.proofs.RequestLemmas.{bad_at, begins, closes_at, cut_at, ends_at, ends_over_at, fault_at, goes, over_connection, over_numbers, unread_at}
use Rattle.engine_serve.proofs.session.serve_requests.Goals as goal

pub returns-in_default-clause-serves : goal.returns-in_default-clause-serves
returns-in_default-clause-serves g c = λ legal. unread_at _ _ _ refl c.requires.numbers legal

pub loop-init : goal.loop-init
loop-init g c = record {
  iterator = (tt, tt);
  stands = begins _ _ _ c.in-Ok.reader refl c.requires.numbers (ap (λ r. r.stopped) c.in-Ok.ensures) (ap (λ r. r.ahead) c.in-Ok.ensures);
}

pub loop-preserved : goal.loop-preserved
loop-preserved g c = record {
  iterator = (tt, tt);
  stands = goes c.in-Request.request _ c.in-Answered-On.field-0 _ _ _ _ _ _ c.loop.reader c.next-in-loop.follows.lender-at-none c.loop.invariant.stands
      c.in-Request.is c.next-in-loop.follows.holds-at-none c.answer.ensures.same c.in-Answered-On.field-0-is c.in-Answered-On.ensures.tries;
}

pub answer-requires-clause-numbers : goal.answer-requires-clause-numbers
answer-requires-clause-numbers g c κs within = c.loop.invariant.stands.numbers

pub overtake-requires-clause-connection : goal.overtake-requires-clause-connection
overtake-requires-clause-connection g c κs within = over_connection c.args.conn.now c.loop.conn c.answer.new.conn c.loop.invariant.stands.who c.answer.ensures.same c.requires.connection

pub overtake-requires-clause-numbers : goal.overtake-requires-clause-numbers
overtake-requires-clause-numbers g c κs within = over_numbers _ _ _ _ _ c.loop.invariant.stands.numbers c.answer.ensures.same c.in-Over.ensures.tries.0

pub overtake-requires-clause-may : goal.overtake-requires-clause-may
overtake-requires-clause-may g c κs within = c.in-Over.ensures.tries.0.may

pub returns-in-Answered-Ends-clause-serves : goal.returns-in-Answered-Ends-clause-serves
returns-in-Answered-Ends-clause-serves g c =
    λ legal. ends_at c.in-Request.request _ c.in-Answered-Ends.field-0 c.in-Answered-Ends.ending _ _ _ _ _ _ _ c.loop.reader
    c.next-in-loop.follows.lender-at-none c.loop.invariant.stands c.in-Request.is c.next-in-loop.follows.holds-at-none c.in-Answered-Ends.field-0-is
    c.in-Answered-Ends.ending-is c.in-Answered-Ends.ensures.tries legal

pub returns-in-Over-clause-serves : goal.returns-in-Over-clause-serves
returns-in-Over-clause-serves g c =
    λ legal. ends_over_at c.in-Request.request _ c.in-Over.upgrade c.in-Over.spec c.overtake.result _ _ _ _ _ _ _ _ c.loop.reader
    c.next-in-loop.follows.lender-at-none c.loop.invariant.stands c.in-Request.is c.next-in-loop.follows.holds-at-none c.in-Over.ensures.tries.0
    c.in-Over.ensures.tries.1 c.answer.ensures.same c.overtake.ensures.overtakes legal

pub returns-in-End-clause-serves : goal.returns-in-End-clause-serves
returns-in-End-clause-serves g c =
    λ legal. closes_at _ _ _ _ _ _ c.loop.reader c.next-in-loop.follows.lender-at-none c.loop.invariant.stands c.in-End.is
    c.next-in-loop.follows.holds-at-none legal

pub returns-in-CutShort-clause-serves : goal.returns-in-CutShort-clause-serves
returns-in-CutShort-clause-serves g c =
    λ legal. cut_at _ _ _ _ _ _ c.loop.reader c.next-in-loop.follows.lender-at-none c.loop.invariant.stands c.in-CutShort.is
    c.next-in-loop.follows.holds-at-none legal

pub returns-in-ReadFault-clause-serves : goal.returns-in-ReadFault-clause-serves
returns-in-ReadFault-clause-serves g c =
    λ legal. fault_at _ _ _ _ _ _ c.loop.reader c.next-in-loop.follows.lender-at-none c.loop.invariant.stands c.in-ReadFault.is
    c.next-in-loop.follows.holds-at-none legal

pub returns-in-Ok-write_refusal-clause-serves : goal.returns-in-Ok-write_refusal-clause-serves
returns-in-Ok-write_refusal-clause-serves g c =
    λ legal. bad_at (Ok c.in-Ok-write_refusal.field-0) _ c.in-Bad.status c.in-Bad.at _ _ _ _ _ _ _ c.loop.reader
    c.next-in-loop.follows.lender-at-none c.loop.invariant.stands c.in-Bad.is c.next-in-loop.follows.holds-at-none c.conn-in-Bad.view_is
    c.in-Ok-write_refusal.ensures legal

pub returns-in-Err-clause-serves : goal.returns-in-Err-clause-serves
returns-in-Err-clause-serves g c =
    λ legal. bad_at (Err c.in-Err.field-0) _ c.in-Bad.status c.in-Bad.at _ _ _ _ _ _ _ c.loop.reader
    c.next-in-loop.follows.lender-at-none c.loop.invariant.stands c.in-Bad.is c.next-in-loop.follows.holds-at-none c.conn-in-Bad.view_is
    c.in-Err.ensures legal
