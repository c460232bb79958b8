use Rattle.std.proofs.Common.{◌≤◌, ℕ, length, Bool, Option, Some, None, sym, ap, ◌∙◌, arith, subst}
use Rattle.std.proofs.lemmas.List.{take_all}
use Rattle.jiff_core.specs.declared.timestamp.Timestamp.{Timestamp}
use Rattle.engine_text.specs.Moment as spec
use Rattle.engine_text.specs.Moment.{moment_text}
use Rattle.engine_text.proofs.YearLemmas.{printed}
use Rattle.engine_text.proofs.CalendarLemmas.{pinned}
use Rattle.engine_text.proofs.MomentLemmas.{IsUtf8-moment_text}
use Rattle.engine_text.proofs.moment.moment_text.Goals as goal

pub copy_from_slice-requires-2 : goal.copy_from_slice-requires-2
copy_from_slice-requires-2 c =
    let chosen = c.precision-printer.ensures ∙ ap (λ (o : Bool × ℕ × Option ℕ). (o.0, o.1, Some 9)) c.new.ensures in
    let fits : c.in-Some.ms ≤ 9_000_000_000_000 = subst spec.IsMoment c.in-Some.is c.requires in
    let made = ap (λ (x : Timestamp). x.nanosecond) c.to_plain.ensures ∙ c.in-Ok.ensures.value in
    let text = printed c.precision-printer.result c.in-Some.ms c.to_plain.result.nanosecond c.timestamp_text-text.result.bytes chosen fits made c.timestamp_text-text.ensures in
    sym (ap length (c.as_bytes.ensures.value ∙ c.as_str.ensures.value) ∙ text.1)

pub returns-clause-shown : goal.returns-clause-shown
returns-clause-shown c =
    let chosen = c.precision-printer.ensures ∙ ap (λ (o : Bool × ℕ × Option ℕ). (o.0, o.1, Some 9)) c.new.ensures in
    let fits : c.in-Some.ms ≤ 9_000_000_000_000 = subst spec.IsMoment c.in-Some.is c.requires in
    let made = ap (λ (x : Timestamp). x.nanosecond) c.to_plain.ensures ∙ c.in-Ok.ensures.value in
    let text = printed c.precision-printer.result c.in-Some.ms c.to_plain.result.nanosecond c.timestamp_text-text.result.bytes chosen fits made c.timestamp_text-text.ensures in
    let bytes = c.copy_from_slice-2.ensures.after ∙ c.as_bytes.ensures.value ∙ c.as_str.ensures.value in
    let all = take_all 30 c.copy_from_slice-2.new.self (omega arith) in
    rw (c.in-Some.is, all, bytes) text.0

pub returns-clause-text : goal.returns-clause-text
unfolding moment_text
returns-clause-text c =
    let chosen = c.precision-printer.ensures ∙ ap (λ (o : Bool × ℕ × Option ℕ). (o.0, o.1, Some 9)) c.new.ensures in
    let fits : c.in-Some.ms ≤ 9_000_000_000_000 = subst spec.IsMoment c.in-Some.is c.requires in
    let made = ap (λ (x : Timestamp). x.nanosecond) c.to_plain.ensures ∙ c.in-Ok.ensures.value in
    let text = printed c.precision-printer.result c.in-Some.ms c.to_plain.result.nanosecond c.timestamp_text-text.result.bytes chosen fits made c.timestamp_text-text.ensures in
    let bytes = c.copy_from_slice-2.ensures.after ∙ c.as_bytes.ensures.value ∙ c.as_str.ensures.value in
    let all = take_all 30 c.copy_from_slice-2.new.self (omega arith) in
    rw (c.in-Some.is, all, bytes) (pinned c.in-Some.ms c.timestamp_text-text.result.bytes fits text.0)

pub returns-in_default-clause-utf8 : goal.returns-in_default-clause-utf8
unfolding moment_text
returns-in_default-clause-utf8 c = rw c.copy_from_slice.ensures.after (IsUtf8-moment_text None tt)
