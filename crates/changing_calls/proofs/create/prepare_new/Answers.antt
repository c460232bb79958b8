use Rattle.std.proofs.Common.{◌≡◌, refl, ap, sym, subst, ◌∙◌, List, ℕ, None}
use Rattle.engine_text.specs.declared.container.Container.{Container}
use Rattle.engine_text.specs.declared.reply.Reply.TheVariants.{Answer}
use Rattle.machine_model.specs.Calls.Create.{new_container}
use Rattle.machine_model.specs.Names.{holder}
use Rattle.machine_model.specs.Step.{at_moment}
use Rattle.container_table.specs.Logs.{container_in}
use Rattle.container_table.specs.declared.held.Held.{Held}
use Rattle.call_plans.proofs.CreateLemmas.{is_new, makes_create, new_held}
use Rattle.changing_calls.proofs.create.prepare_new.Goals as goal

pub returns : goal.returns
returns c =
    let name : List ℕ = c.name.inside.string.bytes.items in
    let made : Container = record { number = c.next_number.result; id = c.in_ok-next_id.field-0; name = name; life = c.in_ok-new_life.field-0 } in
    let h : Held = record { container = made; log = c.new.result } in
    makes_create _ c.args.moment c.args.tables.now.state c.args.name c.args.asked.now (container_in h) c.as_slice.result.now c.new-events.result.items c.tell_volumes.new.out.items c.in_ok-event.event
    (new_held c.next_number.result c.in_ok-next_id.field-0 name c.in_ok-new_life.field-0 c.new.result.records c.args.asked.now c.args.moment c.args.tables.now.state
    c.next_number.ensures c.in_ok-next_id.ensures c.in_ok-new_life.ensures c.new.ensures.records
    ∙ ap (λ n. new_container n c.args.asked.now (at_moment c.args.moment c.args.tables.now.state)) c.name.view_is)
    refl (λ z. refl)
    (is_new (container_in h) _ c.args.moment c.args.tables.now.state c.next_number.ensures c.in_ok-next_id.ensures
    (subst (λ (n : List ℕ). holder n c.args.tables.now.state.containers ≡ None) (sym c.name.view_is) c.requires) c.in_ok-volumes.ensures)
    (ap (Answer 201) c.in_ok-body.ensures) (c.as_slice.ensures.value ∙ c.in_ok-volumes.ensures)
    c.new-events.ensures.items c.in_ok-tell_volumes.ensures c.in_ok-add.ensures c.in_ok-event.ensures
