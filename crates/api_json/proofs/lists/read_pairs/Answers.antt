use Rattle.std.proofs.Common.{◌≡◌, ◌++◌, string_bytes, option_map, Some, List, ap, sym, ◌∙◌}
use Rattle.serde_json.specs.View.{view, members_view}
use Rattle.engine_text.specs.declared.pairs.Pair.{Pair}
use Rattle.api_json.specs.Lists.{pairs_of_members}
use Rattle.api_json.proofs.ListLemmas.{pairs_more}
use Rattle.api_json.proofs.lists.read_pairs.Goals as goal

pub members-preserved : goal.members-preserved
members-preserved c =
    let k = string_bytes c.in-Some.key.now in
    let key : c.in_ok-key.key ≡ k = c.in_ok-key.ensures ∙ c.as_str-in-members.ensures.value in
    let pair : Pair = record { key = c.in_ok-key.key; value = c.in_ok-value.value } in
    let step = pairs_more c.members.pairs pair k (view c.in-Some.value.now) (members_view c.next.new.self) key (ap Some c.in_ok-value.ensures ∙ c.in-Some-as_str.ensures) in
    let grown = ap (λ (ps : List Pair). option_map (λ (more : List Pair). ps ++ more) (pairs_of_members (members_view c.next.new.self))) c.in_ok-push.ensures.ok in
    let began = ap (λ es. option_map (λ (more : List Pair). c.members.pairs ++ more) (pairs_of_members (members_view es))) c.in-Some.ensures.steps in
    (tt, tt, grown ∙ step ∙ sym began ∙ c.members.invariant.2)
