use Rattle.std.proofs.Common.{◌≡◌, [], take}
use Rattle.form_urlencoded.specs.Form.{extend_pairs}
use Rattle.api_json.specs.Values.{pairs_of}
use Rattle.client_parts.proofs.requests.escaped.form_of.Given as goal

abbrev pub invariant-query : goal.invariant-query
invariant-query l = l.form ≡ record { prefix = []; form = extend_pairs [] (pairs_of (take l.pair-index l.query)) }
