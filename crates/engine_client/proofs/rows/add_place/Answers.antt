use Rattle.std.proofs.Common.{refl, sym, subst, Some}
use Rattle.std.specs.Prelude.{IsSome}
use Rattle.std.proofs.lemmas.Map.Text.{hash_map_updates_text}
use Rattle.engine_client.proofs.IndexLemmas.{on_ok, on_err, pushed, kept}
use Rattle.engine_client.proofs.rows.add_place.Goals as goal

pub returns-in-Some-clause-ok : goal.returns-in-Some-clause-ok
returns-in-Some-clause-ok c =
    let w = c.push_place.new.there in
    on_ok c.push_place.result _ _
    (pushed c.args.places.now (c.get_mut.follows.lender w) c.args.id.now w
    (hash_map_updates_text c.args.id.now c.args.places.now (c.get_mut.follows.lender w) (Some w) ((c.get_mut.follows.holds w).3 (subst (λ o. IsSome o) c.in-Some.ensures.value refl)))
    c.in-Some.there.now c.args.place (sym c.in-Some.ensures.value)) c.push_place.ensures.ok

pub returns-in-Some-clause-err : goal.returns-in-Some-clause-err
returns-in-Some-clause-err c =
    let w = c.push_place.new.there in
    on_err c.push_place.result _ _
    (kept c.args.places.now (c.get_mut.follows.lender w) c.args.id.now w
    (hash_map_updates_text c.args.id.now c.args.places.now (c.get_mut.follows.lender w) (Some w) ((c.get_mut.follows.holds w).3 (subst (λ o. IsSome o) c.in-Some.ensures.value refl)))
    c.in-Some.there.now (sym c.in-Some.ensures.value)) c.push_place.ensures.err
