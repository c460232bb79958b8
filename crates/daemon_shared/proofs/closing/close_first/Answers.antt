use Rattle.std.proofs.Common.{◌≡◌, ◌++◌, ◌∙◌, ap, subst}
use Rattle.std.specs.Option.{option_to_list}
use Rattle.door_model.specs.Worsts.{worse_of}
use Rattle.daemon_shared.proofs.RunLemmas.{serving_root, first_ready, first_keeps, first_owed, leaves_first}
use Rattle.daemon_shared.proofs.closing.close_first.Goals as goal

pub close_one-ending-requires-clause-root : goal.close_one-ending-requires-clause-root
close_one-ending-requires-clause-root g c κs within = serving_root _ _ _ _ _ _ _ _ _ c.requires.serving

pub close_one-ending-requires-clause-ready : goal.close_one-ending-requires-clause-ready
close_one-ending-requires-clause-ready g c κs within =
    first_ready _ _ _ _ _ _ _ c.pop_front.new.self.items _ _ _ c.requires.serving
    (subst (λ o. c.args.sessions.now.running.items ≡ option_to_list o ++ c.pop_front.new.self.items) c.in-Some.is c.pop_front.ensures.items)

pub close_one-ending-requires-clause-keeps : goal.close_one-ending-requires-clause-keeps
close_one-ending-requires-clause-keeps g c κs within =
    first_keeps _ _ _ _ _ _ _ c.pop_front.new.self.items _ _ _ c.requires.serving
    (subst (λ o. c.args.sessions.now.running.items ≡ option_to_list o ++ c.pop_front.new.self.items) c.in-Some.is c.pop_front.ensures.items)

pub close_one-ending-requires-clause-owed : goal.close_one-ending-requires-clause-owed
close_one-ending-requires-clause-owed g c κs within =
    first_owed _ _ _ _ _ _ _ c.pop_front.new.self.items _ _ _ c.requires.serving
    (subst (λ o. c.args.sessions.now.running.items ≡ option_to_list o ++ c.pop_front.new.self.items) c.in-Some.is c.pop_front.ensures.items)

pub returns-clause-leaves : goal.returns-clause-leaves
returns-clause-leaves g c =
    leaves_first _ _ _ _ _ _ _ _ _ _ _ _ _ _ _
    (subst (λ o. c.args.sessions.now.running.items ≡ option_to_list o ++ c.pop_front.new.self.items) c.in-Some.is c.pop_front.ensures.items)
    c.close_one-ending.ensures.closes (c.worse_of-sessions.ensures ∙ ap (λ z. worse_of c.args.sessions.now.ends z) c.called_by.ensures)
