use Rattle.std.proofs.Common.{◌≡◌, List, [], ◌∷◌, ◌++◌, arith, ap, sym, ◌∙◌, subst}
use Rattle.health_watch.specs.declared.mark.Mark.{Mark}
use Rattle.health_watch.specs.Watching.{Watched, MayCome, health_up_to, health_told}
use Rattle.health_watch.specs.WatchInside.{IsLatest, StandsAt}
use Rattle.health_watch.proofs.WatchLemmas.{latest_later, latest_more, stands_on}
use Rattle.health_watch.proofs.watch.Watch.event.Goals as goal

pub invariant_of-self-2 : goal.invariant_of-self-2
invariant_of-self-2 c =
    let i = c.self.inside in
    let may = subst (λ (w : Watched). MayCome w c.args.event.now.moment) (sym c.self.view_is) c.requires in
    let k : Mark = record { turn = c.in-Some.turn; moment = c.args.event.now.moment } in
    let latest = latest_later i.seen c.args.event.now.moment i.marks.items may.0 c.self.invariant.latest in
    let is : c.push_reserved.new.self.items ≡ i.marks.items ++ k ∷ [] = c.push_reserved.ensures.items ∙ ap (λ (l : List Mark). l ++ k ∷ []) c.reserve.ensures.items in
    record {
      timed = c.self.invariant.timed;
      latest = subst (λ (l : List Mark). IsLatest l c.args.event.now.moment) (sym is) (latest_more c.args.event.now.moment i.marks.items k (omega arith) latest);
      stands = subst (λ (l : List Mark). StandsAt i.spec l i.position.place i.position.reached i.told) (sym is)
          (stands_on i.spec i.marks.items i.position.place i.position.reached i.told k c.self.invariant.stands latest may.1).0;
    }

pub returns-clause-told : goal.returns-clause-told
returns-clause-told c =
    let i = c.self.inside in
    let may = subst (λ (w : Watched). MayCome w c.args.event.now.moment) (sym c.self.view_is) c.requires in
    let k : Mark = record { turn = c.in-Some.turn; moment = c.args.event.now.moment } in
    let latest = latest_later i.seen c.args.event.now.moment i.marks.items may.0 c.self.invariant.latest in
    let is : c.push_reserved.new.self.items ≡ i.marks.items ++ k ∷ [] = c.push_reserved.ensures.items ∙ ap (λ (l : List Mark). l ++ k ∷ []) c.reserve.ensures.items in
    ap (λ (l : List Mark). health_up_to i.spec l i.told) is
    ∙ (stands_on i.spec i.marks.items i.position.place i.position.reached i.told k c.self.invariant.stands latest may.1).1
    ∙ ap health_told c.self.view_is
