use Rattle.std.proofs.Common.{inl, subst, ◌∙◌}
use Rattle.one_program.specs.Refusing.{Refuses}
use Rattle.one_program.proofs.refusing.tell_verdict.Goals as goal

pub returns-in-Ok : goal.returns-in-Ok
returns-in-Ok g c =
    inl (subst (λ l. Refuses l c.refuse.result (g.K.Sink.takes c.args.sink.now) (g.K.Sink.takes c.refuse.new.sink)) (c.deref.ensures ∙ c.in-Ok.ensures) c.refuse.ensures)
