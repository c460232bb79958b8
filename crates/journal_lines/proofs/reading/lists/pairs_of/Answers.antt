use Rattle.std.proofs.Common.{◌≡◌, string_bytes, sym, ap, ◌∙◌, List}
use Rattle.serde_json.specs.View.{view, members_view}
use Rattle.api_json.specs.Lists.{pairs_of_members}
use Rattle.engine_text.specs.declared.pairs.Pair.{Pair}
use Rattle.journal_lines.proofs.ListLemmas.{behind, pairs_more}
use Rattle.journal_lines.proofs.reading.lists.pairs_of.Goals as goal

pub members-preserved : goal.members-preserved
members-preserved c =
    let k = string_bytes c.in-Some.key.now in
    let same : c.in_ok-key.key ≡ k = c.in_ok-key.ensures ∙ c.as_str.ensures.value in
    let pair : Pair = record { key = c.in_ok-key.key; value = c.in_ok-value.value } in
    let step = pairs_more c.members.pairs pair k (view c.in-Some.value.now) (members_view c.next.new.self) same c.in_ok-value.ensures in
    let grown = ap (λ (ps : List Pair). behind ps (pairs_of_members (members_view c.next.new.self))) c.in_ok-push.ensures.ok in
    let began = ap (λ es. behind c.members.pairs (pairs_of_members (members_view es))) c.in-Some.ensures.steps in
    (tt, tt, grown ∙ step ∙ sym began ∙ c.members.invariant.2)
