use Rattle.std.proofs.Common.{◌≡◌, drop}
use Rattle.serde_json.specs.Data.{no_members}
use Rattle.json_laws.specs.Pairs.{put_pairs}
use Rattle.api_json.specs.Values.{pairs_of}
use Rattle.json_objects.specs.Object.{members_in}
use Rattle.journal_lines.proofs.writing.values.pairs_value.Given as goal

abbrev pub invariant-pairs : goal.invariant-pairs
invariant-pairs l = put_pairs (pairs_of (drop l.pair-index l.pairs)) (members_in l.object) ≡ put_pairs (pairs_of l.fn.pairs) no_members
