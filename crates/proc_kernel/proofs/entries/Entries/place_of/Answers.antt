use Rattle.std.proofs.Common.{◌≤◌, ap, sym, ◌∙◌, arith, length}
use Rattle.std.proofs.lemmas.Bool.Decides.{nat_tests}
use Rattle.proc_kernel.specs.Entries.{EntryList, AreEntries}
use Rattle.proc_kernel.proofs.EntryLemmas.{still, past_rows, anothers, none_before, place_seen}
use Rattle.proc_kernel.proofs.entries.Entries.place_of.Goals as goal

pub returns-in_err-row : goal.returns-in_err-row
returns-in_err-row c =
    let entries = c.as_slice-entries.result.now in
    let rows = c.as_slice-rows.result.now in
    let sound : AreEntries c.self.inside.turn entries rows = still _ _ _ _ _ c.as_slice-entries.ensures.value c.as_slice-rows.ensures.value c.self.invariant in
    let lookup = c.in_err-row.ensures.lookup in
    let past : length rows ≤ c.rows_before-at.result = grind (arith, nat_tests, lookup) in
    c.from_residual.ensures ∙ sym (place_seen c.args.owner _ c.self.inside.by_turn.items entries (ap (λ (t : EntryList). t.owners) c.self.view_is) c.as_slice-entries.ensures.value
    ∙ past_rows c.args.owner c.self.inside.turn c.rows_before-at.result entries rows sound c.rows_before-at.ensures.point past)

pub returns-then-not-same_owner : goal.returns-then-not-same_owner
returns-then-not-same_owner c =
    let entries = c.as_slice-entries.result.now in
    let rows = c.as_slice-rows.result.now in
    let sound : AreEntries c.self.inside.turn entries rows = still _ _ _ _ _ c.as_slice-entries.ensures.value c.as_slice-rows.ensures.value c.self.invariant in
    sym (place_seen c.args.owner _ c.self.inside.by_turn.items entries (ap (λ (t : EntryList). t.owners) c.self.view_is) c.as_slice-entries.ensures.value
    ∙ anothers c.args.owner c.self.inside.turn c.rows_before-at.result entries rows c.in_ok-row.field-0.now sound c.rows_before-at.ensures.point c.in_ok-row.ensures.lookup.1 (sym c.same_owner.ensures ∙ c.if-not-same_owner.true))

pub place_from-requires-clause-none : goal.place_from-requires-clause-none
place_from-requires-clause-none c =
    let entries = c.as_slice-entries.result.now in
    let rows = c.as_slice-rows.result.now in
    let sound : AreEntries c.self.inside.turn entries rows = still _ _ _ _ _ c.as_slice-entries.ensures.value c.as_slice-rows.ensures.value c.self.invariant in
    none_before c.args.owner c.self.inside.turn c.rows_before-at.result c.rows_born_before-from.result entries rows c.in_ok-row.field-0.now sound c.rows_before-at.ensures.point c.rows_born_before-from.ensures.point c.rows_born_before-from.ensures.within c.in_ok-row.ensures.lookup.1

pub returns : goal.returns
returns c =
    let entries = c.as_slice-entries.result.now in
    c.place_from.ensures ∙ sym (place_seen c.args.owner _ c.self.inside.by_turn.items entries (ap (λ (t : EntryList). t.owners) c.self.view_is) c.as_slice-entries.ensures.value)
