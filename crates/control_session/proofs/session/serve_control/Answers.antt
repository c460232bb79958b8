use Rattle.std.proofs.Common.{refl, ap, inr}
use Rattle.control_session.proofs.SessionLemmas.{begins, goes, ends_bad, ends_by, ends_unread}
use Rattle.control_session.specs.declared.way.Way.TheVariants as way
use Rattle.control_session.proofs.session.serve_control.Goals as goal

pub returns-in_default : goal.returns-in_default
returns-in_default g c = inr (refl, refl, refl)

pub loop-init : goal.loop-init
loop-init g c = record {
  iterator = (tt, tt);
  stands = begins _ _ _ c.in-Ok.reader (ap (λ r. r.stopped) c.in-Ok.ensures) (ap (λ r. r.ahead) c.in-Ok.ensures);
}

pub loop-preserved : goal.loop-preserved
loop-preserved g c = record {
  iterator = (tt, tt);
  stands = goes _ c.in-Request.request _ c.answer-written.result c.way_by.result c.asked_of-asked.result c.of.result c.terms_by-terms.result _ _ _ _ _ _ c.loop.reader
      c.next-in-loop.follows.lender-at-none c.loop.invariant.stands c.in-Request.is c.next-in-loop.follows.holds-at-none c.asked_of-asked.ensures c.of.ensures
      c.terms_by-terms.ensures c.answer-written.ensures c.way_by.ensures c.in-On.is;
}

pub returns-in-Closes : goal.returns-in-Closes
returns-in-Closes g c =
    ends_by _ c.in-Request.request _ c.answer-written.result c.way_by.result way.Closes _ c.asked_of-asked.result c.of.result c.terms_by-terms.result _ _ _ _ _ _ c.loop.reader
    c.next-in-loop.follows.lender-at-none c.loop.invariant.stands c.in-Request.is c.next-in-loop.follows.holds-at-none c.asked_of-asked.ensures c.of.ensures
    c.terms_by-terms.ensures c.answer-written.ensures c.way_by.ensures c.in-Closes.is refl

pub returns-in-Stops : goal.returns-in-Stops
returns-in-Stops g c =
    ends_by _ c.in-Request.request _ c.answer-written.result c.way_by.result way.Stops _ c.asked_of-asked.result c.of.result c.terms_by-terms.result _ _ _ _ _ _ c.loop.reader
    c.next-in-loop.follows.lender-at-none c.loop.invariant.stands c.in-Request.is c.next-in-loop.follows.holds-at-none c.asked_of-asked.ensures c.of.ensures
    c.terms_by-terms.ensures c.answer-written.ensures c.way_by.ensures c.in-Stops.is refl

pub returns-in-Bad : goal.returns-in-Bad
returns-in-Bad g c =
    ends_bad _ _ c.write_refusal.result c.in-Bad.status c.in-Bad.at _ _ _ _ _ _ c.loop.reader c.next-in-loop.follows.lender-at-none c.loop.invariant.stands c.in-Bad.is
    c.next-in-loop.follows.holds-at-none c.write_refusal.ensures

pub returns-in-End : goal.returns-in-End
returns-in-End g c = ends_unread _ _ _ _ _ _ _ c.loop.reader c.next-in-loop.follows.lender-at-none c.loop.invariant.stands c.in-End.is c.next-in-loop.follows.holds-at-none
