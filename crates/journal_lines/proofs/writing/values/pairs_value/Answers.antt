use Rattle.std.proofs.Common.{◌+◌, ℕ, List, drop, sym, ap, ap₂, ◌∙◌}
use Rattle.std.proofs.lemmas.List.{at_drop_more, at_drop_all}
use Rattle.serde_json.specs.Data.{string, put, object}
use Rattle.json_laws.specs.Pairs.{put_pairs}
use Rattle.api_json.specs.Values.{pairs_of}
use Rattle.engine_text.specs.declared.pairs.Pair.{Pair}
use Rattle.json_objects.specs.Object.{members_in}
use Rattle.journal_lines.proofs.writing.values.pairs_value.Goals as goal

pub pairs-preserved : goal.pairs-preserved
pairs-preserved c =
    let before = members_in c.pairs.object in
    let rest = pairs_of (drop (c.pairs.pair-index + 1) c.args.pairs.now) in
    let item = c.pair-item.result in
    let step = at_drop_more (λ ps. put_pairs (pairs_of ps) before) c.args.pairs.now c.pairs.pair-index item c.pairs-test.true in
    let placed =
    c.in_ok-object.ensures ∙ ap₂ (λ (k v : List ℕ). put k (string v) before) c.as_str.ensures c.as_str-in-pairs.ensures in
    let at_item = ap (λ (p : Pair). put_pairs rest (put (p.key) (string (p.value)) before)) c.pair-item.is in
    ap (put_pairs rest) placed ∙ at_item ∙ sym step ∙ c.pairs.invariant

pub returns : goal.returns
returns c =
    let all = at_drop_all (λ ps. put_pairs (pairs_of ps) (members_in c.pairs.object)) c.args.pairs.now c.pairs.pair-index c.pairs-test.false in
    c.value.ensures ∙ ap object (sym all ∙ c.pairs.invariant)
