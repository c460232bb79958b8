use Rattle.std.proofs.Common.{refl, sym, subst, Some}
use Rattle.std.specs.Prelude.{IsSome}
use Rattle.std.proofs.lemmas.Map.Text.{hash_map_updates_text}
use Rattle.engine_client.proofs.IndexLemmas.{popped}
use Rattle.engine_client.proofs.rows.drop_place.Goals as goal

pub returns-in-Some : goal.returns-in-Some
returns-in-Some c =
    let w = c.pop_front.new.self in
    popped c.args.places.now (c.get_mut.follows.lender w) c.args.id.now w
    (hash_map_updates_text c.args.id.now c.args.places.now (c.get_mut.follows.lender w) (Some w) ((c.get_mut.follows.holds w).3 (subst (λ o. IsSome o) c.in-Some.ensures.value refl)))
    c.in-Some.there.now (sym c.in-Some.ensures.value) c.pop_front.ensures.rest
