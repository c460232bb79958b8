use Rattle.std.proofs.Common.{◌∙◌, ap}
use Rattle.std.specs.Box.{with_value}
use Rattle.engine_text.specs.declared.container.Life.{Life}
use Rattle.container_table.specs.LifeChanges.{with_change}
use Rattle.container_table.specs.Logs.{container_in, room_in}
use Rattle.container_table.specs.declared.held.Held.{Held}
use Rattle.container_table.proofs.BoxLemmas.{contents_at, rooms_kept}
use Rattle.container_table.proofs.LifeLemmas.{log_apart}
use Rattle.container_table.proofs.boxes.change.Goals as goal

pub returns-clause-contents : goal.returns-clause-contents
returns-clause-contents c =
    contents_at (with_change c.args.change) c.args.boxes.now.list.items c.args.i c.at_mut-held.result.now
    (with_value c.at_mut-held.result.now (record c.deref_mut.result.now { container = record c.deref_mut.result.now.container { life = c.change.new.life } }))
    (ap (λ (l : Life). record c.deref_mut.result.now.container { life = record l { log = c.deref_mut.result.now.log.records } }) c.change.ensures
    ∙ ap (λ (l : Life). record c.deref_mut.result.now.container { life = l }) (log_apart c.args.change c.deref_mut.result.now.container.life c.deref_mut.result.now.log.records)
    ∙ ap (λ (h : Held). with_change c.args.change (container_in h)) (c.deref_mut.ensures.value ∙ ap (λ b. b.value) c.at_mut-held.ensures.value))

pub returns-clause-rooms : goal.returns-clause-rooms
returns-clause-rooms c =
    rooms_kept c.args.boxes.now.list.items c.args.i c.at_mut-held.result.now
    (with_value c.at_mut-held.result.now (record c.deref_mut.result.now { container = record c.deref_mut.result.now.container { life = c.change.new.life } }))
    (ap room_in (c.deref_mut.ensures.value ∙ ap (λ b. b.value) c.at_mut-held.ensures.value))
