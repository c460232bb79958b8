use Rattle.std.proofs.Common.{◌≡◌, ◌++◌, Some, Bool, ℕ, List, option_map, ap, sym, ◌∙◌, string_bytes}
use Rattle.serde_json.specs.View.{view, members_view}
use Rattle.api_json.specs.Filters.{true_keys}
use Rattle.api_json.proofs.ListLemmas.{keys_more}
use Rattle.api_json.proofs.filters.true_keys.Goals as goal

pub members-preserved-in_ok-push : goal.members-preserved-in_ok-push
members-preserved-in_ok-push c =
    let k = string_bytes c.in-Some.key.now in
    let key : c.in_ok-of.field-0 ≡ k = c.in_ok-of.ensures ∙ c.as_str.ensures.value in
    let on = ap (λ (b : Bool). Some b) (sym c.if-on.true) ∙ c.in-Some-as_bool.ensures in
    let step = keys_more c.members.words c.in_ok-of.field-0 k (view c.in-Some.value.now) (members_view c.next.new.self) key on in
    let grown = ap (λ (ws : List (List ℕ)). option_map (λ (more : List (List ℕ)). ws ++ more) (true_keys (members_view c.next.new.self))) c.in_ok-push.ensures.ok in
    let began = ap (λ es. option_map (λ (more : List (List ℕ)). c.members.words ++ more) (true_keys (members_view es))) c.in-Some.ensures.steps in
    (tt, tt, grown ∙ step ∙ sym began ∙ c.members.invariant.2)
