use Rattle.std.proofs.Common.{arith, ◌<◌, ◌≤◌, ap, take, refl, sym, subst, ◌∙◌}
use Rattle.response_reader.specs.Steps.{IsGiving, missing_in}
use Rattle.response_reader.specs.contracts.reader.ResponseReader.{the_view}
use Rattle.response_reader.specs.declared.got.Stage.TheVariants as stage
use Rattle.response_reader.proofs.StepLemmas.{stays, is_over, gave, may_more, seen_as, seen_unended}
use Rattle.response_reader.proofs.AnswerLemmas.{input_ended, open_giving}
use Rattle.response_reader.proofs.reader.ResponseReader.give.Goals as goal

pub returns-then-missing-eq0-clause-says : goal.returns-then-missing-eq0-clause-says
returns-then-missing-eq0-clause-says g c =
    let giving = subst IsGiving c.left-left.ensures c.requires.stage in (
      open_giving _ c.requires.stage,
      stays _ _,
      is_over c.args.self.now c.left-left.result _ c.left-left.ensures (sym c.missing_in-missing.ensures ∙ c.if-missing-eq0.true) giving.0 giving.1,
    )

pub returns-in-End-clause-says : goal.returns-in-End-clause-says
returns-in-End-clause-says g c =
    let some : 0 < missing_in c.left-left.result = omega (arith, c.missing_in-missing.ensures, c.if-missing-eq0.false) in
    input_ended c.left-left.result c.end_of.result (the_view c.self.inside) c.args.self.now _ _ _ _ c.end_of.ensures c.self.view_is
    (ap (λ r. r.stage) c.self.view_is ∙ c.left-left.ensures) some refl refl refl c.in-End.ensures.0 c.in-End.ensures.1 c.in-End.ensures.2

pub returns-in-Failed-clause-says : goal.returns-in-Failed-clause-says
returns-in-Failed-clause-says g c =
    let some : 0 < missing_in c.left-left.result = omega (arith, c.missing_in-missing.ensures, c.if-missing-eq0.false) in (
      seen_unended (the_view c.self.inside) c.args.self.now _ _ c.self.view_is c.left-left.result c.left-left.ensures
          (may_more (the_view c.self.inside) c.left-left.result c.read_more.new.ahead _ _ some c.in-Failed.ensures.0 c.in-Failed.ensures.1),
      c.in-Failed.ensures.2,
    )

pub returns-clause-says : goal.returns-clause-says
returns-clause-says g c =
    let count = c.hand_out-count.ensures.count in
    let fits : c.hand_out-count.result ≤ missing_in c.left-left.result = omega (arith, count.2, c.missing_in-missing.ensures) in (
      open_giving _ c.requires.stage,
      count.0,
      count.1,
      seen_as (the_view c.self.inside) c.args.self.now _ _ c.self.view_is _ _ (take c.hand_out-count.result c.read_more.new.ahead) c.hand_out-count.ensures.front
          (gave (the_view c.self.inside) _ _ _ c.left-left.result c.hand_out-count.result c.read_more.new.ahead
          (ap (λ r. r.stage) c.self.view_is ∙ c.left-left.ensures) (ap stage.Body c.left_after.ensures) c.saturating_add-self-inside.ensures refl
          count.0 fits count.3 c.hand_out-count.ensures.left c.in-Some.ensures.1),
    )
