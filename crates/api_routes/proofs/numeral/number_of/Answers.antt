use Rattle.std.proofs.Common.{◌≡◌, Some, None, ap, ◌∙◌, sym, if◌then◌else◌}
use Rattle.std.specs.Result.{result_ok}
use Rattle.std.specs.Str.Parse.{digits_value}
use Rattle.api_routes.specs.Numeral.{number_of}
use Rattle.api_routes.proofs.NumeralLemmas.{parsed, number-small}
use Rattle.api_routes.proofs.numeral.number_of.Goals as goal

pub returns : goal.returns
returns c =
    let good = sym c.is_numeral.ensures ∙ c.if-not-is_numeral.false in
    let value : c.ok.result ≡ number_of c.args.most c.args.text.now =
    c.ok.ensures.value ∙ ap result_ok (parsed c.args.most c.args.text.now _ c.requires c.parse.ensures.value.0 good)
    ∙ sym (ap (λ b. if b then Some (digits_value 10 c.args.text.now) else None) good)
    in
    record { value = value; bound = number-small c.args.most c.args.text.now _ value }
