use Rattle.std.proofs.Common.{◌≡◌, sym, ap, ◌∙◌}
use Rattle.client_model.specs.Plans.{first_line, fault_to}
use Rattle.client_exchange.proofs.AskingLemmas.{unasked, asked_ok, asked_err}
use Rattle.client_exchange.proofs.asking.ask.Goals as goal

pub returns-in_default : goal.returns-in_default
returns-in_default g c = λ r is. unasked r c.args.ask.now.input c.args.ask.now.showing _ _

pub returns-in-Ok-exchange_as : goal.returns-in-Ok-exchange_as
returns-in-Ok-exchange_as g c = λ r is.
    let line : c.in-Ok.line ≡ first_line c.deref-2.result.now = c.in-Ok.ensures ∙ ap first_line (c.deref.ensures.value ∙ sym c.deref-2.ensures.value) in
    asked_ok r _ (c.deref-2.ensures.value ∙ is) _ c.args.ask.now.showing c.fresh_taker-taker.ensures.showing _ _ _ _ _ c.args.ask.now.input c.in-Ok-exchange_as.got c.body_of.result c.in-Ok-exchange_as.ensures
    (record {
      line_is = c.body_of.ensures.line ∙ line;
      status = c.body_of.ensures.status;
      first = c.body_of.ensures.first;
      bytes = c.body_of.ensures.bytes;
      whole = c.body_of.ensures.whole;
    })

pub returns-in-Err : goal.returns-in-Err
returns-in-Err g c = λ r is.
    let line : c.in-Ok.line ≡ first_line c.deref-2.result.now = c.in-Ok.ensures ∙ ap first_line (c.deref.ensures.value ∙ sym c.deref-2.ensures.value) in
    asked_err r _ (c.deref-2.ensures.value ∙ is) _ c.args.ask.now.showing c.fresh_taker-taker.ensures.showing _ _ _ _ _ c.args.ask.now.input c.in-Err.failure c.fault_to.result c.in-Err.ensures
    (c.fault_to.ensures ∙ ap (λ l. fault_to l c.in-Err.failure.status c.in-Err.failure.fault) line)
