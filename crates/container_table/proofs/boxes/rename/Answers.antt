use Rattle.std.proofs.Common.{◌∙◌, ap}
use Rattle.std.specs.Prelude.{◌==◌}
use Rattle.std.specs.Box.{with_value}
use Rattle.engine_text.specs.declared.container.Container.{Container}
use Rattle.container_table.specs.Held.{contents}
use Rattle.container_table.specs.Logs.{container_in, room_in}
use Rattle.container_table.specs.declared.held.Held.{Held}
use Rattle.container_table.proofs.HeldLemmas.{contents_changed, numbers_alone}
use Rattle.container_table.proofs.BoxLemmas.{rooms_kept}
use Rattle.container_table.proofs.boxes.rename.Goals as goal

pub returns-clause-contents : goal.returns-clause-contents
returns-clause-contents c =
    contents_changed (λ d. d.number == c.args.number) (λ (d : Container). record d { name = c.args.name }) c.args.boxes.now.list.items c.args.i c.at_mut-held.result.now
    (with_value c.at_mut-held.result.now (record c.deref_mut.result.now { container = record c.deref_mut.result.now.container { name = c.args.name } }))
    (numbers_alone c.args.number (contents c.args.boxes.now.list.items) c.requires.boxed.order) c.requires.place
    (ap (λ (h : Held). record (container_in h) { name = c.args.name }) (c.deref_mut.ensures.value ∙ ap (λ b. b.value) c.at_mut-held.ensures.value))

pub returns-clause-rooms : goal.returns-clause-rooms
returns-clause-rooms c =
    rooms_kept c.args.boxes.now.list.items c.args.i c.at_mut-held.result.now
    (with_value c.at_mut-held.result.now (record c.deref_mut.result.now { container = record c.deref_mut.result.now.container { name = c.args.name } }))
    (ap room_in (c.deref_mut.ensures.value ∙ ap (λ b. b.value) c.at_mut-held.ensures.value))
