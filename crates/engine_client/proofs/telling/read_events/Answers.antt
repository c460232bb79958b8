use Rattle.std.proofs.Common.{List, [], ◌∷◌, ◌++◌, sym, ap, ◌∙◌}
use Rattle.engine_text.specs.declared.event.Event.{Event}
use Rattle.engine_client.proofs.WatchLemmas.{some_text}
use Rattle.engine_client.proofs.EventLemmas.{read_more, read_wrong, read_cut}
use Rattle.engine_client.proofs.telling.read_events.Goals as goal

pub lines-preserved : goal.lines-preserved
lines-preserved c =
    read_more c.lines.events.items c.push_reserved.new.self.items c.in-Ok.event c.lines.rest.now c.in-Some.line.now c.in-Some.behind.now c.args.body.now c.lines.invariant c.in-Some.ensures.line
    c.in-Ok.ensures.reads (c.push_reserved.ensures.items ∙ ap (λ (l : List Event). l ++ c.in-Ok.event ∷ []) c.reserve.ensures.items)

pub returns-in_default : goal.returns-in_default
returns-in_default c =
    read_cut c.lines.events.items c.lines.rest.now c.args.body.now c.lines.invariant (some_text c.lines.rest.now (sym c.is_empty.ensures ∙ c.lines-test.true)) c.in_default.ensures.none

pub returns-in-Err : goal.returns-in-Err
returns-in-Err c =
    read_wrong c.in-Err.fault c.lines.events.items c.lines.rest.now c.in-Some.line.now c.in-Some.behind.now c.args.body.now c.lines.invariant c.in-Some.ensures.line c.in-Err.ensures.reads
