use Rattle.std.proofs.Common.{arith, ap, sym, ◌∷◌, ◌∙◌}
use Rattle.lab_front.specs.Queries.{decoded}
use Rattle.lab_front.proofs.QueryLemmas.{decoded_short, decoded_escape, decoded_plain}
use Rattle.lab_front.proofs.query.first_byte.Goals as goal

pub returns-in_default-clause-decodes : goal.returns-in_default-clause-decodes
returns-in_default-clause-decodes c =
    decoded_short c.args.byte c.args.rest.now (omega (arith, c.in_default.len_below)) ∙ ap (λ b. b ∷ decoded c.args.rest.now) (sym c.plain.ensures)

pub returns-in-Some-clause-decodes : goal.returns-in-Some-clause-decodes
returns-in-Some-clause-decodes c =
    decoded_escape c.args.byte c.in-Some.value c.args.rest.now (omega (arith, c.in-len2-up.len_at_least)) (sym c.escaped.ensures ∙ c.in-Some.is)

pub returns-in-None-clause-decodes : goal.returns-in-None-clause-decodes
returns-in-None-clause-decodes c =
    decoded_plain c.args.byte c.args.rest.now (omega (arith, c.in-len2-up.len_at_least)) (sym c.escaped.ensures ∙ c.in-None.is)
    ∙ ap (λ b. b ∷ decoded c.args.rest.now) (sym c.plain-in-None.ensures)
