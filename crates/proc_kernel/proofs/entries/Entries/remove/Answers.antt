use Rattle.std.proofs.Common.{◌≡◌, ◌<◌, ap, sym, ◌∙◌, arith, List, refl, subst, map, remove, length, true, get_or}
use Rattle.std.proofs.lemmas.List.{length-map}
use Rattle.proc_kernel.specs.declared.entries.Row.{Row}
use Rattle.proc_kernel.specs.Entries.{EntryList, is_row}
use Rattle.proc_kernel.proofs.EntryLemmas.{gone, gone_alone, still, owners_removed}
use Rattle.proc_kernel.proofs.entries.Entries.remove.Goals as goal

pub invariant_of-self : goal.invariant_of-self
invariant_of-self c =
    let i = c.self.inside in
    let row = c.remove-row.result in
    let has = c.has_row.ensures c.if-has_row.true in
    let long = ap (λ (t : EntryList). length t.owners) c.self.view_is in
    let low : c.args.place < length i.by_turn.items = omega (arith, c.requires, long, length-map i.by_turn.items (λ (r : Row). r.owner)) in
    let within : c.rows_before-at.result < length i.by_owner.items = subst (λ (l : List Row). c.rows_before-at.result < length l) c.as_slice-rows.ensures.value has.0 in
    let same : is_row row (get_or i.by_owner.items c.rows_before-at.result row) ≡ true = subst (λ (l : List Row). is_row row (get_or l c.rows_before-at.result row) ≡ true) c.as_slice-rows.ensures.value has.1 in
    let entry : is_row (get_or i.by_turn.items c.args.place row) (get_or i.by_owner.items c.rows_before-at.result row) ≡ true = ap (λ (r : Row). is_row r (get_or i.by_owner.items c.rows_before-at.result row)) (sym c.remove-row.ensures.value) ∙ same in
    still _ _ _ _ _ c.remove-row.ensures.items c.remove.ensures.items (gone i.turn i.by_turn.items i.by_owner.items c.args.place c.rows_before-at.result row low within entry c.self.invariant)

pub invariant_of-self-else-has_row : goal.invariant_of-self-else-has_row
invariant_of-self-else-has_row c =
    let i = c.self.inside in
    let long = ap (λ (t : EntryList). length t.owners) c.self.view_is in
    let low : c.args.place < length i.by_turn.items = omega (arith, c.requires, long, length-map i.by_turn.items (λ (r : Row). r.owner)) in
    still _ _ _ _ _ c.remove-row.ensures.items refl (gone_alone i.turn i.by_turn.items i.by_owner.items c.args.place c.remove-row.result low c.self.invariant)

pub returns-then-has_row-clause-owners : goal.returns-then-has_row-clause-owners
returns-then-has_row-clause-owners c =
    ap (map (λ (r : Row). r.owner)) c.remove-row.ensures.items ∙ owners_removed c.self.inside.by_turn.items c.args.place ∙ ap (λ (t : EntryList). remove t.owners c.args.place) c.self.view_is

pub returns-else-has_row-clause-owners : goal.returns-else-has_row-clause-owners
returns-else-has_row-clause-owners c =
    ap (map (λ (r : Row). r.owner)) c.remove-row.ensures.items ∙ owners_removed c.self.inside.by_turn.items c.args.place ∙ ap (λ (t : EntryList). remove t.owners c.args.place) c.self.view_is
