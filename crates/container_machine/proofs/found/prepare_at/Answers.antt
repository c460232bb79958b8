use Rattle.std.proofs.Common.{refl, ap, sym, ◌∙◌, subst}
use Rattle.std.specs.Prelude.{IsSome}
use Rattle.machine_model.specs.Call.{outcome_of}
use Rattle.machine_model.specs.Outcome.{Outcome}
use Rattle.machine_model.specs.State.{State}
use Rattle.machine_model.specs.Step.{at_moment}
use Rattle.container_table.specs.Logs.{container_in}
use Rattle.call_plans.specs.Making.{IsLooked, Makes}
use Rattle.call_plans.specs.declared.lookup.Looked.{Looked}
use Rattle.call_plans.proofs.AnswerLemmas.{made_or}
use Rattle.call_plans.proofs.MakeLemmas.{few_found}
use Rattle.call_plans.proofs.ReadyLemmas.{few}
use Rattle.container_machine.specs.Found.{found_outcome}
use Rattle.container_machine.proofs.FoundLemmas.{at_target}
use Rattle.container_machine.proofs.found.prepare_at.Goals as goal

pub prepare_found-requires-clause-named : goal.prepare_found-requires-clause-named
prepare_found-requires-clause-named c = subst (λ o. IsSome o) (sym c.requires.named) refl

pub prepare_found-requires-clause-starts : goal.prepare_found-requires-clause-starts
prepare_found-requires-clause-starts c =
    let l : IsLooked (Looked.Stands c.in-Stands.h) c.args.moment c.args.target.now c.args.tables.now.state = subst (λ (l : Looked). IsLooked l c.args.moment c.args.target.now c.args.tables.now.state) c.in-Stands.is c.in_ok-h.ensures in
    few_found c.in-Stands.h.now.container.number c.args.tables.now.state.containers (container_in c.in-Stands.h.now) (few c.args.tables.now.state c.requires.kept) l.0

pub returns-in-Stands : goal.returns-in-Stands
returns-in-Stands c =
    let l : IsLooked (Looked.Stands c.in-Stands.h) c.args.moment c.args.target.now c.args.tables.now.state = subst (λ (l : Looked). IsLooked l c.args.moment c.args.target.now c.args.tables.now.state) c.in-Stands.is c.in_ok-h.ensures in
    made_or _ c.args.moment c.args.tables.now.state (found_outcome c.args.call.now c.args.conn (container_in c.in-Stands.h.now)) (outcome_of c.args.call.now c.args.conn)
    (ap (λ (f : State → Outcome). f (at_moment c.args.moment c.args.tables.now.state)) (at_target c.args.call.now c.args.conn c.args.target.now c.requires.named)
    ∙ l.1 (found_outcome c.args.call.now c.args.conn)) c.prepare_found.ensures

pub returns-in-Refused : goal.returns-in-Refused
returns-in-Refused c =
    let l : IsLooked (Looked.Refused c.in-Refused.prepared) c.args.moment c.args.target.now c.args.tables.now.state = subst (λ (l : Looked). IsLooked l c.args.moment c.args.target.now c.args.tables.now.state) c.in-Refused.is c.in_ok-h.ensures in
    subst (λ (f : State → Outcome). Makes c.in-Refused.prepared c.args.moment c.args.tables.now.state f) (sym (at_target c.args.call.now c.args.conn c.args.target.now c.requires.named))
    (l (found_outcome c.args.call.now c.args.conn))
