use Rattle.std.proofs.Common.{◌≡◌, ◌<◌, ◌≤◌, ◌-◌, true, false, min, ap, sym, ◌∙◌, arith, List, refl, subst, length, insert, vec_len, vec_capacity, if◌then◌else◌}
use Rattle.std.specs.List.Sorted.{IsPartitionPoint}
use Rattle.proc_kernel.specs.declared.entries.Row.{Row}
use Rattle.proc_kernel.specs.Entries.{EntryList, stands_before}
use Rattle.proc_kernel.proofs.EntryLemmas.{begun, still}
use Rattle.proc_kernel.proofs.entries.Entries.push_reserved.Goals as goal

pub invariant_of-self : goal.invariant_of-self
invariant_of-self c =
    let i = c.self.inside in
    let row : Row = record { owner = c.args.owner; born = i.turn } in
    let n = c.rows_before-at.result in
    let room : 0 < min (vec_capacity i.by_turn - vec_len i.by_turn) (vec_capacity i.by_owner - vec_len i.by_owner) = subst (λ (t : EntryList). 0 < t.room) (sym c.self.view_is) c.requires in
    let ok = c.insert.ensures.succeeds (omega (arith, room)) in
    let point : IsPartitionPoint (λ x. stands_before x row ≡ true) (λ x. stands_before x row ≡ false) i.by_owner.items n =
    subst (λ (l : List Row). IsPartitionPoint (λ x. stands_before x row ≡ true) (λ x. stands_before x row ≡ false) l n) c.as_slice.ensures.value c.rows_before-at.ensures.point in
    let within : n ≤ length i.by_owner.items = subst (λ (l : List Row). n ≤ length l) c.as_slice.ensures.value c.rows_before-at.ensures.within in
    let inserted : c.insert.new.self.items ≡ insert i.by_owner.items n row = c.insert.ensures.items ∙ ap (λ b. if b then insert i.by_owner.items n row else i.by_owner.items) ok in
    still _ _ _ _ _ c.push_reserved.ensures.items inserted (begun i.turn c.next_turn-self-inside.result i.by_turn.items i.by_owner.items row n c.next_turn-self-inside.ensures refl within point c.self.invariant)
