use Rattle.std.proofs.Common.{◌≡◌, ◌∙◌, ℕ, List, drop, ap, subst}
use Rattle.std.specs.Prelude.{slice_get, if◌then◌else◌}
use Rattle.engine_text.specs.Texts.{same_bytes}
use Rattle.engine_client.specs.Rows.{places_at}
use Rattle.engine_client.proofs.RowLemmas.{stands_within, destroyed_found, destroyed_rows, undestroyed_rows}
use Rattle.engine_client.proofs.rows.destroy.Goals as goal

pub returns-in_default-clause-rows : goal.returns-in_default-clause-rows
returns-in_default-clause-rows c =
    undestroyed_rows c.args.places.now c.args.folds.now.items c.requires.found c.args.event.now c.requires.kind c.requires.action c.first_place.result
    (c.first_place.ensures ∙ ap (λ i. slice_get (places_at c.args.places.now i) 0) c.as_str.ensures) c.in_default.is

pub step_at-requires-clause-within : goal.step_at-requires-clause-within
step_at-requires-clause-within c =
    stands_within c.args.places.now c.args.folds.now.items c.requires.found _ c.first_place.result c.in-Some.place c.first_place.ensures c.in-Some.is

pub returns-clause-found : goal.returns-clause-found
returns-clause-found c =
    destroyed_found c.args.places.now c.args.folds.now.items c.requires.found c.args.event.now c.requires.kind c.requires.action c.first_place.result c.in-Some.place
    c.drop_place.new.places c.step_at.new.folds.items (c.first_place.ensures ∙ ap (λ i. slice_get (places_at c.args.places.now i) 0) c.as_str.ensures) c.in-Some.is
    c.in_ok-step_at.ensures.ok
    (subst (λ (i : List ℕ). (q : List ℕ) → places_at c.drop_place.new.places q ≡ (if same_bytes i q then drop 1 (places_at c.args.places.now q) else places_at c.args.places.now q))
    c.as_str-2.ensures c.drop_place.ensures)

pub returns-clause-rows : goal.returns-clause-rows
returns-clause-rows c =
    destroyed_rows c.args.places.now c.args.folds.now.items c.requires.found c.args.event.now c.requires.kind c.requires.action c.first_place.result c.in-Some.place
    c.step_at.new.folds.items (c.first_place.ensures ∙ ap (λ i. slice_get (places_at c.args.places.now i) 0) c.as_str.ensures) c.in-Some.is c.in_ok-step_at.ensures.ok
