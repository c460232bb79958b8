use Rattle.std.proofs.Common.{◌≡◌, ◌∷◌, ◌∙◌, ◌++◌, ℕ, List, [], ap, subst, Some, string_bytes}
use Rattle.std.specs.Prelude.{if◌then◌else◌}
use Rattle.std.proofs.lemmas.Map.Text.{hash_map_updates_text}
use Rattle.engine_text.specs.Texts.{same_bytes}
use Rattle.engine_client.specs.Rows.{places_at}
use Rattle.engine_client.proofs.IndexLemmas.{put}
use Rattle.engine_client.proofs.rows.put_place.Goals as goal

pub returns-in-Ok-clause-ok : goal.returns-in-Ok-clause-ok
returns-in-Ok-clause-ok c =
    let w = c.push_place.new.there in
    let key = string_bytes c.in_ok-key.key in
    subst (λ (i : List ℕ). (q : List ℕ) → places_at c.insert.new.self q ≡ (if same_bytes i q then c.args.place ∷ [] else places_at c.args.places.now q)) c.in_ok-key.ensures.ok
    (put c.args.places.now c.insert.new.self key w (hash_map_updates_text key c.args.places.now c.insert.new.self (Some w) c.in-Ok.ensures.updates)
    c.args.place (c.in_ok-push_place.ensures.ok ∙ ap (λ l. l ++ c.args.place ∷ []) c.new-there.ensures.items))
