use Rattle.std.proofs.Common.{◌++◌, List, option_map, ap, sym, ◌∙◌, string_bytes}
use Rattle.serde_json.specs.View.{view, members_view}
use Rattle.engine_text.specs.declared.filter.FilterRow.{FilterRow}
use Rattle.api_json.specs.Filters.{row_of, rows_in}
use Rattle.api_json.proofs.ListLemmas.{rows_more}
use Rattle.api_json.proofs.filters.rows_in.Goals as goal

pub members-preserved : goal.members-preserved
members-preserved c =
    let keys = c.args.keys.now in
    let name = string_bytes c.in-Some.name.now in
    let row = sym c.in-Some-2.is ∙ c.in_ok-row.ensures ∙ ap (λ n. row_of keys n (view c.in-Some.value.now)) c.as_str.ensures.value in
    let step = rows_more keys c.members.rows c.in-Some-2.row name (view c.in-Some.value.now) (members_view c.next.new.self) row in
    let grown = ap (λ (rs : List FilterRow). option_map (λ (more : List FilterRow). rs ++ more) (rows_in keys (members_view c.next.new.self))) c.in_ok-push.ensures.ok in
    let began = ap (λ es. option_map (λ (more : List FilterRow). c.members.rows ++ more) (rows_in keys (members_view es))) c.in-Some.ensures.steps in
    (tt, tt, grown ∙ step ∙ sym began ∙ c.members.invariant.2)
