use Rattle.std.proofs.Common.{◌++◌, ◌∙◌, refl, ap}
use Rattle.engine_text.specs.declared.container.Container.{Container}
use Rattle.engine_text.specs.declared.reply.Reply.TheVariants.{Answer}
use Rattle.machine_model.specs.Step.{at_moment}
use Rattle.machine_model.proofs.Fits.UnpauseLemmas.{paused_is}
use Rattle.container_table.specs.Logs.{container_in}
use Rattle.machine_events.specs.Foretold.{told_code}
use Rattle.machine_events.specs.ToldMeet.{running_after, told_wake}
use Rattle.changing_calls.proofs.UnpauseLemmas.{makes_unpause}
use Rattle.changing_calls.proofs.unpause.prepare_paused.Goals as goal

pub returns : goal.returns
returns c = makes_unpause _ c.args.moment c.args.tables.now.state (container_in c.args.h.now) c.woken_code-code.result c.in_ok-brought.brought
    c.new-events.result.items c.requires.kept c.requires.stands (paused_is c.args.h.now.container.life.status c.requires.paused) c.woken_code-code.ensures
    refl refl c.in_ok-brought.ensures (ap (λ b. Answer 204 b) c.new-body.ensures) c.new-events.ensures.items
    (c.in_ok-tell_woken.ensures ∙ ap (λ (d : Container). c.new-events.result.items
    ++ (told_wake c.args.h.now.container.number (container_in c.args.h.now) (at_moment c.args.moment c.args.tables.now.state)
    ++ told_code (running_after c.args.h.now.container.number (at_moment c.args.moment c.args.tables.now.state)) c.woken_code-code.result d c.in_ok-brought.brought.script (at_moment c.args.moment c.args.tables.now.state)))
    c.of-ending.ensures)
