use Rattle.std.proofs.Common.{refl, ap, sym, ◌∙◌, ◌++◌, ◌∷◌, []}
use Rattle.engine_text.specs.declared.reply.Reply.TheVariants.{Answer}
use Rattle.machine_model.specs.Step.{at_moment}
use Rattle.container_table.specs.Logs.{container_in}
use Rattle.machine_events.proofs.CallToldLemmas.{stop_restarting_told}
use Rattle.changing_calls.proofs.stop.prepare_restarting.Goals as goal

pub returns : goal.returns
returns c = record {
  moment = refl;
  effect = refl;
  events = c.in_ok-add.ensures ∙ (ap (λ l. l ++ c.in_ok-event.event ∷ []) c.new-events.ensures.items ∙ (ap (λ e. e ∷ []) c.in_ok-event.ensures
      ∙ sym (stop_restarting_told c.args.h.now.container.number (at_moment c.args.moment c.args.tables.now.state) (container_in c.args.h.now) c.requires)));
  reply = ap (λ b. Answer 204 b) c.new-body.ensures;
  brings = tt;
}
