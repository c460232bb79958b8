use Rattle.std.proofs.Common.{ℕ, List, Some, ap, sym, ◌∙◌, subst}
use Rattle.health_watch.specs.declared.mark.Mark.{Mark}
use Rattle.health_watch.specs.Advancing.{FindSays, told_by}
use Rattle.health_watch.specs.Watching.{Watched, NextSays}
use Rattle.health_watch.specs.WatchInside.{watch_inside, StandsAt}
use Rattle.health_watch.proofs.NextLemmas.{found}
use Rattle.health_watch.proofs.watch.Watch.next.Goals as goal

pub invariant_of-self : goal.invariant_of-self
invariant_of-self c =
    let i = c.self.inside in
    let says = subst (λ (u : ℕ). FindSays i.spec i.marks.items u i.position c.in_ok-change.change c.find.new.self) c.asked_to-asked.ensures
    (subst (λ (l : List Mark). FindSays i.spec l c.asked_to-asked.result i.position c.in_ok-change.change c.find.new.self) c.as_slice.ensures.value c.in_ok-change.ensures) in
    let told_is = c.told_by.ensures ∙ ap (told_by c.in_ok-change.change) c.asked_to-asked.ensures in
    record {
      timed = c.self.invariant.timed;
      latest = c.self.invariant.latest;
      stands = subst (λ (u : ℕ). StandsAt i.spec i.marks.items c.find.new.self.place c.find.new.self.reached (Some u)) (sym told_is)
          (found i.id i.spec i.marks.items i.seen i.told c.args.until i.position c.find.new.self c.in_ok-change.change c.self.invariant.stands says).0;
    }

pub returns-clause-ok : goal.returns-clause-ok
returns-clause-ok c =
    let i = c.self.inside in
    let says = subst (λ (u : ℕ). FindSays i.spec i.marks.items u i.position c.in_ok-change.change c.find.new.self) c.asked_to-asked.ensures
    (subst (λ (l : List Mark). FindSays i.spec l c.asked_to-asked.result i.position c.in_ok-change.change c.find.new.self) c.as_slice.ensures.value c.in_ok-change.ensures) in
    let told_is = c.told_by.ensures ∙ ap (told_by c.in_ok-change.change) c.asked_to-asked.ensures in
    subst (λ (w : Watched). NextSays c.args.until w c.in_ok-change.change (record { id = i.id; spec = i.spec; marks = i.marks.items; seen = i.seen; told = Some c.told_by.result })) c.self.view_is
    (subst (λ (u : ℕ). NextSays c.args.until (watch_inside i) c.in_ok-change.change (record { id = i.id; spec = i.spec; marks = i.marks.items; seen = i.seen; told = Some u })) (sym told_is)
    (found i.id i.spec i.marks.items i.seen i.told c.args.until i.position c.find.new.self c.in_ok-change.change c.self.invariant.stands says).1)
