use Rattle.std.proofs.Common.{arith, ◌<◌, ◌∙◌, ap, sym, length}
use Rattle.http_edge.specs.Message.{is_same_text}
use Rattle.http_edge.specs.Asks.{has_token}
use Rattle.http_edge.proofs.AskLemmas.{IsCut, token_found, token_missed, token_later, cut_twice}
use Rattle.http_edge.proofs.asks.has_token.Goals as goal

pub returns-then-is_same_text : goal.returns-then-is_same_text
returns-then-is_same_text c =
    let e = c.first_comma-end.ensures in
    let cut : IsCut c.parts.rest.now c.first_comma-end.result = record { within = e.within; before = e.before; found = e.found } in
    let same = ap (λ p. is_same_text p c.args.token.now) (sym c.trim.ensures) ∙ sym c.if-is_same_text.ensures in
    sym (c.parts.invariant ∙ token_found c.args.token.now c.parts.rest.now c.first_comma-end.result cut same)

pub returns-then-end-rest : goal.returns-then-end-rest
returns-then-end-rest c =
    let e = c.first_comma-end.ensures in
    let cut : IsCut c.parts.rest.now c.first_comma-end.result = record { within = e.within; before = e.before; found = e.found } in
    let other = ap (λ p. is_same_text p c.args.token.now) (sym c.trim.ensures) ∙ sym c.if-is_same_text.ensures in
    sym (c.parts.invariant ∙ token_missed c.args.token.now c.parts.rest.now c.first_comma-end.result cut c.if-end-rest.true other)

pub parts-preserved : goal.parts-preserved
parts-preserved c =
    let e = c.first_comma-end.ensures in
    let cut : IsCut c.parts.rest.now c.first_comma-end.result = record { within = e.within; before = e.before; found = e.found } in
    let other = ap (λ p. is_same_text p c.args.token.now) (sym c.trim.ensures) ∙ sym c.if-is_same_text.ensures in
    let less : c.first_comma-end.result < length c.parts.rest.now = omega arith in
    let later = token_later c.args.token.now c.parts.rest.now c.first_comma-end.result cut less other in
    c.parts.invariant ∙ later ∙ ap (has_token c.args.token.now) (sym (cut_twice c.parts.rest.now c.first_comma-end.result))
