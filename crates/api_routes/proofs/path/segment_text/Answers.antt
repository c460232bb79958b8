use Rattle.std.proofs.Common.{◌≡◌, sym, ◌∙◌, ap, subst}
use Rattle.std.specs.Str.{IsUtf8}
use Rattle.percent_encoding.specs.Percent.{percent_decode}
use Rattle.api_routes.proofs.TextLemmas.{text-of, bad-escape, no-text}
use Rattle.api_routes.proofs.path.segment_text.Goals as goal

pub returns-then-not-escapes_well : goal.returns-then-not-escapes_well
returns-then-not-escapes_well c = bad-escape _ (cc)

pub returns-in_ok-of-in-Ok : goal.returns-in_ok-of-in-Ok
returns-in_ok-of-in-Ok c =
    let input : c.percent_decode.result.bytes.now ≡ c.args.segment.now = cc in
    let text = ap percent_decode input in
    text-of _ _ (cc) (subst IsUtf8 text c.in-Ok.ensures.ok_only_if_utf8) (c.in_ok-of-in-Ok.ensures ∙ c.as_str.ensures.value ∙ c.in-Ok.ensures.value ∙ text)

pub returns-in-Err-Utf8 : goal.returns-in-Err-Utf8
returns-in-Err-Utf8 c =
    let input : c.percent_decode.result.bytes.now ≡ c.args.segment.now = cc in
    no-text _ (λ u. let same = c.in-Err-Utf8.ensures.utf8 (subst IsUtf8 (sym (ap percent_decode input)) u) in cc)
