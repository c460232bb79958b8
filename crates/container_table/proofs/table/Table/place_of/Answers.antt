use Rattle.std.proofs.Common.{◌∙◌, ap, sym, position}
use Rattle.std.specs.Prelude.{◌==◌}
use Rattle.container_table.specs.Blank.{nothing_held}
use Rattle.container_table.specs.Logs.{container_in}
use Rattle.container_table.specs.Tables.{Holdings}
use Rattle.container_table.specs.Held.{contents}
use Rattle.container_table.proofs.LifeLemmas.{number_position, no_number_position}
use Rattle.container_table.proofs.table.Table.place_of.Goals as goal

pub returns-in-Ok : goal.returns-in-Ok
returns-in-Ok c =
    sym (number_position c.args.number (contents c.self.inside.boxes.list.items) c.in-Ok.place (container_in nothing_held) c.self.invariant.boxed.order c.in-Ok.ensures.place)
    ∙ ap (λ (k : Holdings). position (λ d. d.number == c.args.number) k.containers) c.self.view_is

pub returns-in-Err : goal.returns-in-Err
returns-in-Err c =
    sym (no_number_position c.args.number (contents c.self.inside.boxes.list.items) c.in-Err.field-0 c.in-Err.ensures.place)
    ∙ ap (λ (k : Holdings). position (λ d. d.number == c.args.number) k.containers) c.self.view_is
