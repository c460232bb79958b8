use Rattle.std.proofs.Common.{◌≡◌, ◌<◌, ◌∷◌, List, drop, arith, ◌∙◌}
use Rattle.engine_text.specs.declared.event.Event.{Event}
use Rattle.daemon_core.proofs.LineLemmas.{lines_more, some_more}
use Rattle.daemon_core.proofs.lines.put_lines.Goals as goal

pub lines-preserved : goal.lines-preserved
lines-preserved c =
    let events : List Event = c.args.first.now ∷ c.args.rest in
    let at = c.lines in
    let e : Event = c.in-Some.prepared.now in
    let next : at.rest ≡ e ∷ c.next.new.self = c.in-Some.ensures.steps in
    let here : drop at.passed events ≡ e ∷ c.next.new.self = at.invariant.left ∙ next in
    let more = lines_more c.args.filter.now c.args.until events at.passed e c.next.new.self c.args.out.now.items at.out.items
    c.put_told-in-lines.new.out.items here at.invariant.told c.in_ok-put_told-2.ensures.ok in
    let some : 0 < at.passed = at.invariant.some in
    record {
      some = omega (arith, some);
      fits = some_more at.passed events e c.next.new.self here;
      left = more.0;
      told = more.1;
    }
