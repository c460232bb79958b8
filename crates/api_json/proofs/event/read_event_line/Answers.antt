use Rattle.std.proofs.Common.{◌≡◌, true, false, arith, refl, sym, ap, ◌∙◌, not, Bool, bytes_eq}
use Rattle.std.proofs.lemmas.Slice.Eq.{bytes_eq-Decides}
use Rattle.serde_json.specs.View.{view}
use Rattle.engine_text.specs.declared.event.Event.{Event}
use Rattle.api_json.specs.EventRules.{attributes_fit}
use Rattle.api_json.specs.Event.{event_data, event_of, event_line_text}
use Rattle.api_json.proofs.EventLemmas.{sound, event_back, event_at}
use Rattle.api_json.proofs.event.read_event_line.Goals as goal

not_false : (b : Bool) → not b ≡ false → b ≡ true
not_false true e = refl
not_false false e = cc e

pub returns-in_default-clause-refused : goal.returns-in_default-clause-refused
returns-in_default-clause-refused c = (refl, λ e h is. (rw c.in_default.is at c.in_ok-value.ensures.none) (event_data e) (sound e h) is)

pub returns-in_default-2-clause-refused : goal.returns-in_default-2-clause-refused
returns-in_default-2-clause-refused c = (
  refl,
  λ e h is.
      let same = (rw c.in-Some.is at c.in_ok-value.ensures.some) (event_data e) (sound e h) is in
      cc (sym c.in_default-2.is ∙ c.in_ok-event.ensures ∙ ap event_of same ∙ event_back e h),
)

pub returns-then-event-gt-GREATEST_MOMENT-clause-refused : goal.returns-then-event-gt-GREATEST_MOMENT-clause-refused
returns-then-event-gt-GREATEST_MOMENT-clause-refused c = (
  refl,
  λ e h is.
      let same = (rw c.in-Some.is at c.in_ok-value.ensures.some) (event_data e) (sound e h) is in
      let read = event_at c.in-Some-2.event (view c.in-Some.value) e (sym c.in-Some-2.is ∙ c.in_ok-event.ensures) same h in
      let moment : c.in-Some-2.event.moment ≡ e.moment = ap (λ (x : Event). x.moment) read in
      omega (arith, h.0, c.if-event-gt-GREATEST_MOMENT.true, moment),
)

pub returns-then-not-attributes_fit-clause-refused : goal.returns-then-not-attributes_fit-clause-refused
returns-then-not-attributes_fit-clause-refused c = (
  refl,
  λ e h is.
      let same = (rw c.in-Some.is at c.in_ok-value.ensures.some) (event_data e) (sound e h) is in
      let read = event_at c.in-Some-2.event (view c.in-Some.value) e (sym c.in-Some-2.is ∙ c.in_ok-event.ensures) same h in
      let fit = ap (λ (x : Event). attributes_fit x.kind x.action x.attributes) read ∙ h.1 in
      let told = c.attributes_fit.ensures ∙ ap (attributes_fit c.in-Some-2.event.kind c.in-Some-2.event.action) c.as_slice.ensures in
      cc (sym c.if-not-attributes_fit.true ∙ told ∙ fit),
)

pub returns-then-ne-clause-refused : goal.returns-then-ne-clause-refused
returns-then-ne-clause-refused c = (
  refl,
  λ e h is.
      let same = (rw c.in-Some.is at c.in_ok-value.ensures.some) (event_data e) (sound e h) is in
      let read = event_at c.in-Some-2.event (view c.in-Some.value) e (sym c.in-Some-2.is ∙ c.in_ok-event.ensures) same h in
      let equal : c.in_ok-again.again.items ≡ c.args.line.now = c.in_ok-again.ensures ∙ ap event_line_text read ∙ is in
      let true_one = (bytes_eq-Decides c.as_slice-2.result.now c.args.line.now).1 (c.as_slice-2.ensures.value ∙ equal) in
      cc (sym c.if-ne.true ∙ c.ne.ensures ∙ ap not true_one),
)

pub returns-clause-taken : goal.returns-clause-taken
returns-clause-taken c =
    let told = c.attributes_fit.ensures ∙ ap (attributes_fit c.in-Some-2.event.kind c.in-Some-2.event.action) c.as_slice.ensures in
    let fit = sym told ∙ c.if-not-attributes_fit.false in
    let equal = (bytes_eq-Decides c.as_slice-2.result.now c.args.line.now).0 (not_false (bytes_eq c.as_slice-2.result.now c.args.line.now) (sym c.ne.ensures ∙ c.if-ne.false)) in (
      (omega (arith, c.if-event-gt-GREATEST_MOMENT.false), fit, c.utf8-2.ensures, c.utf8-2-2.ensures),
      sym c.in_ok-again.ensures ∙ sym c.as_slice-2.ensures.value ∙ equal,
    )
