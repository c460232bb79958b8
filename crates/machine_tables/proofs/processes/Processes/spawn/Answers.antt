use Rattle.std.proofs.Common.{◌≡◌, ◌<◌, List, [], ◌∷◌, ◌++◌, Option, ℕ, ◌∙◌, ap, sym, subst, arith, length}
use Rattle.std.specs.Prelude.{slice_get}
use Rattle.proc_kernel.specs.Processes.{next_due, spawn}
use Rattle.proc_kernel.specs.Tables.{Entry, Table, begun, due_in}
use Rattle.machine_tables.specs.LeastDue.{with_due_at}
use Rattle.machine_tables.proofs.ProcessLemmas.{dues_of, dues_more, few_dues, last_in, length_more}
use Rattle.machine_tables.proofs.processes.Processes.spawn.Goals as goal

pub note-requires : goal.note-requires
note-requires c =
    let few = few_dues c.self.inside.kernel.processes in
    let many = ap length c.self.invariant.dues in
    let some : 0 < c.self.inside.spare = subst (λ (t : Table). 0 < t.spare) (sym c.self.view_is) c.requires in
    omega (arith, few, many, c.self.invariant.places, some)

pub spawn-requires : goal.spawn-requires
spawn-requires c = let some : 0 < c.self.inside.spare = subst (λ (t : Table). 0 < t.spare) (sym c.self.view_is) c.requires in omega (arith, some, c.self.invariant.spare)

pub returns-clause-spare : goal.returns-clause-spare
returns-clause-spare c =
    let some : 0 < c.self.inside.spare = subst (λ (t : Table). 0 < t.spare) (sym c.self.view_is) c.requires in
    let same = ap (λ (t : Table). t.spare) c.self.view_is in
    omega (arith, some, same)

pub invariant_of-self : goal.invariant_of-self
invariant_of-self c =
    let ps : List Entry = c.self.inside.kernel.processes in
    let e : Entry = begun c.args.owner (spawn c.args.script c.args.moment c.args.stdin c.args.room) in
    let due : c.due_of-due.result ≡ next_due e.process =
    c.due_of-due.ensures ∙ ap (λ (l : List Entry). due_in (slice_get l c.len-place.result)) c.spawn.ensures.processes
    ∙ ap (λ (n : ℕ). due_in (slice_get (ps ++ e ∷ []) n)) c.len-place.ensures ∙ last_in ps e in
    let more = ap length c.spawn.ensures.processes ∙ length_more ps e in
    let some : 0 < c.self.inside.spare = subst (λ (t : Table). 0 < t.spare) (sym c.self.view_is) c.requires in
    record {
      dues = c.note.ensures.actions ∙ ap (with_due_at c.args.owner c.due_of-due.result) c.self.invariant.dues
          ∙ ap (λ (o : Option ℕ). with_due_at c.args.owner o (dues_of ps)) due
          ∙ sym (dues_more ps e) ∙ ap dues_of (sym c.spawn.ensures.processes);
      spare = omega (arith, c.self.invariant.spare, c.spawn.ensures.spare);
      places = omega (arith, c.self.invariant.places, more, c.note.ensures.places, some);
    }
