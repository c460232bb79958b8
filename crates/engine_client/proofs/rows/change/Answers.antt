use Rattle.std.proofs.Common.{◌∙◌, refl, ap}
use Rattle.std.specs.Prelude.{slice_get}
use Rattle.engine_client.specs.Rows.{places_at}
use Rattle.engine_client.proofs.IndexLemmas.{on_ok, either_way}
use Rattle.engine_client.proofs.RowLemmas.{stands_within, found_same, changed_found, changed_rows, unchanged_rows}
use Rattle.engine_client.proofs.rows.change.Goals as goal

pub step_at-requires-clause-within : goal.step_at-requires-clause-within
step_at-requires-clause-within c =
    stands_within c.args.places.now c.args.folds.now.items c.requires.found _ c.first_place.result c.in-Some.place c.first_place.ensures c.in-Some.is

pub returns-in-Some-clause-found : goal.returns-in-Some-clause-found
returns-in-Some-clause-found c =
    either_way c.step_at.result _ _ _
    (changed_found c.args.places.now c.args.folds.now.items c.requires.found c.args.event.now c.requires.kind c.requires.action c.in-Some.place c.step_at.new.folds.items)
    (found_same c.args.places.now c.args.folds.now.items c.requires.found c.args.places.now c.step_at.new.folds.items (λ q. refl))
    c.step_at.ensures.ok c.step_at.ensures.err

pub returns-in-Some-clause-rows : goal.returns-in-Some-clause-rows
returns-in-Some-clause-rows c =
    on_ok c.step_at.result _ _
    (changed_rows c.args.places.now c.args.folds.now.items c.requires.found c.args.event.now c.requires.kind c.requires.action c.first_place.result c.in-Some.place
    c.step_at.new.folds.items (c.first_place.ensures ∙ ap (λ i. slice_get (places_at c.args.places.now i) 0) c.as_str.ensures) c.in-Some.is)
    c.step_at.ensures.ok

pub returns-in-None-clause-rows : goal.returns-in-None-clause-rows
returns-in-None-clause-rows c =
    unchanged_rows c.args.places.now c.args.folds.now.items c.requires.found c.args.event.now c.requires.kind c.requires.action c.first_place.result
    (c.first_place.ensures ∙ ap (λ i. slice_get (places_at c.args.places.now i) 0) c.as_str.ensures) c.in-None.is
