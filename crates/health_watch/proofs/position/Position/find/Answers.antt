use Rattle.std.proofs.Common.{ℕ, ◌+◌, Option, None, sym, subst}
use Rattle.health_watch.specs.declared.health.Change.{Change}
use Rattle.health_watch.specs.declared.mark.Mark.{Mark}
use Rattle.health_watch.specs.declared.reached.Reached.{Reached}
use Rattle.health_watch.specs.Reaching.{MarkSays, limit_by}
use Rattle.health_watch.specs.Advancing.{AreSized, AdvanceSays, HasCome}
use Rattle.health_watch.proofs.WatchLemmas.{sized_turned}
use Rattle.health_watch.proofs.FindLemmas.{come_mark, come_none, come_change}
use Rattle.health_watch.proofs.position.Position.find.Goals as goal

pub returns-in-Some : goal.returns-in-Some
returns-in-Some c cs from since at low now =
    come_change c.args.spec.now c.args.marks.now c.args.until c.loop-change.self c.advance.new.self cs from c.mark_until-mark.result c.in-Some.change
    (c.loop-change.invariant.came cs from since at low now) c.mark_until-mark.ensures
    (subst (λ (o : Option Change). AdvanceSays c.args.spec.now (limit_by c.mark_until-mark.result c.args.until) c.loop-change.self.reached o c.advance.new.self) c.in-Some.is
    (subst (λ (n : ℕ). AdvanceSays c.args.spec.now n c.loop-change.self.reached c.in_ok-change.field-0 c.advance.new.self) c.limit_by-limit.ensures.moment c.in_ok-change.ensures.found))

pub returns-in_default-mark : goal.returns-in_default-mark
returns-in_default-mark c cs from since at low now =
    come_none c.args.spec.now c.args.marks.now c.args.until c.loop-change.self c.advance.new.self cs from
    (c.loop-change.invariant.came cs from since at low now)
    (subst (λ (m : Option Mark). MarkSays c.args.until c.loop-change.self.place c.args.marks.now m) c.in_default-mark.is c.mark_until-mark.ensures)
    (subst (λ (m : Option Mark). AdvanceSays c.args.spec.now (limit_by m c.args.until) c.loop-change.self.reached None c.advance.new.self) c.in_default-mark.is
    (subst (λ (o : Option Change). AdvanceSays c.args.spec.now (limit_by c.mark_until-mark.result c.args.until) c.loop-change.self.reached o c.advance.new.self) c.in_default.is
    (subst (λ (n : ℕ). AdvanceSays c.args.spec.now n c.loop-change.self.reached c.in_ok-change.field-0 c.advance.new.self) c.limit_by-limit.ensures.moment c.in_ok-change.ensures.found)))

pub loop-change-preserved : goal.loop-change-preserved
loop-change-preserved c = record {
  came = λ cs from since at low now.
      subst (λ (r : Reached). HasCome c.args.spec.now c.args.marks.now c.args.until (record { place = c.loop-change.self.place + 1; reached = r }) cs from) (sym c.turn.ensures)
      (come_mark c.args.spec.now c.args.marks.now c.args.until c.loop-change.self c.advance.new.self cs from c.in-Some-mark.mark
      (c.loop-change.invariant.came cs from since at low now)
      (subst (λ (m : Option Mark). MarkSays c.args.until c.loop-change.self.place c.args.marks.now m) c.in-Some-mark.is c.mark_until-mark.ensures)
      (subst (λ (m : Option Mark). AdvanceSays c.args.spec.now (limit_by m c.args.until) c.loop-change.self.reached None c.advance.new.self) c.in-Some-mark.is
      (subst (λ (o : Option Change). AdvanceSays c.args.spec.now (limit_by c.mark_until-mark.result c.args.until) c.loop-change.self.reached o c.advance.new.self) c.in_default.is
      (subst (λ (n : ℕ). AdvanceSays c.args.spec.now n c.loop-change.self.reached c.in_ok-change.field-0 c.advance.new.self) c.limit_by-limit.ensures.moment c.in_ok-change.ensures.found))));
  sized = subst (λ (r : Reached). AreSized r.tally.streak r.run) (sym c.turn.ensures) (sized_turned c.args.spec.now c.in-Some-mark.mark c.advance.new.self c.in_ok-change.ensures.sized);
}
