use Rattle.std.proofs.Common.{ℕ, ◌+◌, List, drop, sym, ap, ◌∙◌}
use Rattle.std.proofs.lemmas.List.{at_drop_more, at_drop_all}
use Rattle.serde_json.specs.Data.{string, put}
use Rattle.engine_text.specs.declared.pairs.Pair.{Pair}
use Rattle.json_laws.specs.Pairs.{pairs_members, put_pairs}
use Rattle.api_json.specs.Values.{pairs_of}
use Rattle.api_json.specs.Written.{lent_texts}
use Rattle.api_json.proofs.WrittenLemmas.{members-insert_entry}
use Rattle.api_json.proofs.written.by_key.Goals as goal

pub pairs-preserved : goal.pairs-preserved
pairs-preserved c =
    let es = c.pairs.map.entries in
    let before = pairs_members (lent_texts es) in
    let item = c.pair-item.result in
    let rest = pairs_of (drop (c.pairs.pair-index + 1) c.args.pairs.now) in
    let new = ap (λ m. pairs_members (lent_texts m)) c.in_ok-insert.ensures.entries ∙ members-insert_entry es c.as_str.result c.as_str-in-pairs.result in
    let key = ap (λ (k : List ℕ). put k (string c.as_str-in-pairs.result.now) before) c.as_str.ensures in
    let value = ap (λ (v : List ℕ). put (item.key) (string v) before) c.as_str-in-pairs.ensures in
    let at_item = ap (λ (p : Pair). put_pairs rest (put (p.key) (string (p.value)) before)) c.pair-item.is in
    let step = at_drop_more (λ ps. put_pairs (pairs_of ps) before) c.args.pairs.now c.pairs.pair-index item c.pairs-test.true in
    ap (put_pairs rest) (new ∙ key ∙ value) ∙ at_item ∙ sym step ∙ c.pairs.invariant

pub returns : goal.returns
returns c =
    let all = at_drop_all (λ ps. put_pairs (pairs_of ps) (pairs_members (lent_texts c.pairs.map.entries))) c.args.pairs.now c.pairs.pair-index c.pairs-test.false in
    sym all ∙ c.pairs.invariant
