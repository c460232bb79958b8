use Rattle.std.proofs.Common.{[], drop}
use Rattle.api_json.specs.List.{listed_data}
use Rattle.api_json.specs.Values.{list_of}
use Rattle.api_json.specs.Written.{tokens_of}
use Rattle.api_json.proofs.WrittenLemmas.{Lacks, items_left}
use Rattle.api_json.proofs.list.list_body.Given as goal

abbrev pub invariant-items : goal.invariant-items
invariant-items l = Lacks (record { before = []; tokens = []; spare = 0 }) l.out (items_left listed_data (drop l.item-index l.items)) (tokens_of (list_of listed_data l.items))
