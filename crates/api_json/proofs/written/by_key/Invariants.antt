use Rattle.std.proofs.Common.{◌≡◌, drop}
use Rattle.serde_json.specs.Data.{no_members}
use Rattle.json_laws.specs.Pairs.{pairs_members, put_pairs}
use Rattle.api_json.specs.Values.{pairs_of}
use Rattle.api_json.specs.Written.{lent_texts}
use Rattle.api_json.proofs.written.by_key.Given as goal

abbrev pub invariant-pairs : goal.invariant-pairs
invariant-pairs l = put_pairs (pairs_of (drop l.pair-index l.pairs)) (pairs_members (lent_texts l.map.entries)) ≡ put_pairs (pairs_of l.fn.pairs) no_members
