use Rattle.std.proofs.Common.{◌≡◌, ◌∷◌, ◌∙◌, ◌++◌, ℕ, List, [], ap, subst}
use Rattle.std.specs.Prelude.{if◌then◌else◌}
use Rattle.engine_text.specs.Texts.{same_bytes}
use Rattle.event_ring.specs.Fold.{fold_kind}
use Rattle.engine_client.specs.Rows.{places_at}
use Rattle.engine_client.proofs.RowLemmas.{created_found}
use Rattle.engine_client.proofs.rows.create.Goals as goal

pub returns-clause-found : goal.returns-clause-found
returns-clause-found c =
    created_found c.args.places.now c.args.folds.now.items c.requires.found c.args.event.now c.requires.kind c.requires.action c.fold_step.new.self
    (c.in_ok-fold_step.ensures.ok ∙ ap (fold_kind c.args.event.now.kind c.args.event.now) c.in_ok-fold.ensures)
    c.add_place.new.places c.reserve.new.self.items c.push_reserved.new.self.items c.len.result c.in_ok-reserve.ensures.items
    (c.len.ensures ∙ c.in_ok-reserve.ensures.len ∙ c.args.folds.now.ok.0) c.push_reserved.ensures.items
    (subst (λ (i : List ℕ). (q : List ℕ) → places_at c.add_place.new.places q ≡ places_at c.args.places.now q ++ (if same_bytes i q then c.len.result ∷ [] else [])) c.as_str.ensures
    c.in_ok-add_place.ensures.ok)
