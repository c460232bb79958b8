-- What the least due action finds: of an op the process whose it is, of a deadline or a timer the container.
use Rattle.std.specs.Option.{is_some}
use Rattle.std.proofs.Common.{◌≡◌, ◌≢◌, ℕ, ◌==◌, Bool, true, false, List, [], ◌∷◌, Option, Some, None, find, if◌then◌else◌, refl, ap, sym, ◌∙◌, subst, arith, inl, inr, IsTrue, not}
use Rattle.std.proofs.lemmas.Bool.{eqb-true}
use Rattle.std.proofs.lemmas.Bool.Decides.{eqb_tells}
use Rattle.std.specs.List.{AllByRecursion, filter_map, list_any}
use Rattle.container_table.specs.Timers.{is_before}
use Rattle.engine_text.specs.Owner.{same_owner}
use Rattle.engine_text.specs.declared.container.Container.{Container}
use Rattle.engine_text.specs.declared.owner.Owner.{Owner}
use Rattle.engine_text.specs.declared.owner.Owner.TheVariants.{Container as OfContainer, Exec as OfExec}
use Rattle.engine_text.specs.declared.step.DueAction.{DueAction}
use Rattle.proc_kernel.specs.Processes.{Process, next_due}
use Rattle.proc_kernel.specs.Tables.{Entry, due_at, process_of}
use Rattle.machine_model.specs.State.{State, container_numbered, owner_number}
use Rattle.machine_model.specs.Consistency.{HasOwner, IsConsistent, TimerStands, is_there}
use Rattle.machine_model.specs.Due.{action_at, due_actions, least_due}
use Rattle.machine_model.proofs.DueLemmas.{all_actions, exec_apart, own_process, owner_of, passes}
use Rattle.machine_model.proofs.ListLemmas.{all_append, all_both, all_weaken}
use Rattle.machine_model.proofs.ObeyLemmas.{found_all}
use Rattle.machine_model.proofs.OwnerLemmas.{owner_is}
use Rattle.machine_events.specs.Ops.{owner_at}

-- ---- whose a number is

-- of two owners with one number only one has a process
no_both : (s : State) (n : ℕ) (o : Option Container) → container_numbered n s ≡ o → is_there o ≡ true → IsConsistent s → HasOwner s (OfExec n) → ⊥
no_both s n None e there k exec = absurd (cc)
no_both s n (Some c) e there k exec = exec_apart s n k exec c e

by_main : (s : State) (n : ℕ) (q : Option Process) → process_of (OfContainer n) s.processes ≡ q → IsConsistent s → HasOwner s (OfExec n) → OfExec n ≡ (if is_some q then OfContainer n else OfExec n)
by_main s n None e k exec = refl
by_main s n (Some q) e k exec = absurd (no_both s n (container_numbered n s) refl (owner_of (HasOwner s) (OfContainer n) q s.processes e k.processes.owners) k exec)

named : (s : State) (o : Owner) (p : Process) → IsConsistent s → HasOwner s o → process_of o s.processes ≡ Some p → o ≡ owner_at (owner_number o) s
named s (OfContainer n) p k there is = sym (ap (λ q. if is_some q then OfContainer n else OfExec n) is)
named s (OfExec n) p k there is = by_main s n (process_of (OfContainer n) s.processes) refl k there

-- an owner's process is found by its number
behind : (x : Entry) (o : Owner) (p : Process) (b : Bool) (rest : Option Process) → same_owner x.owner o ≡ b → owner_number x.owner ≢ owner_number o → (if b then Some x.process else rest) ≡ Some p → rest ≡ Some p
behind x o p true rest e other found = absurd (other (ap owner_number (owner_is x.owner o e)))
behind x o p false rest e other found = found

found_by_number : (o : Owner) (p : Process) (es : List Entry) → process_of o es ≡ Some p → (e : Entry) × (find (λ e. owner_number e.owner == owner_number o) es ≡ Some e)
found_by_number o p [] found = absurd (cc)
found_by_number o p (x ∷ xs) found =
    elim (eqb_tells (owner_number x.owner) (owner_number o)) [
      | inl h ↦ (x, ap (λ b. if b then Some x else find (λ (e : Entry). owner_number e.owner == owner_number o) xs) h.0)
      | inr h ↦
          let r = found_by_number o p xs (behind x o p (same_owner x.owner o) (process_of o xs) refl h.1 found) in
          (r.0, ap (λ b. if b then Some x else find (λ (e : Entry). owner_number e.owner == owner_number o) xs) h.0 ∙ r.1)
    ]

-- ---- what is due

-- an op: the process of its number, whose op is due then
pub record OpStands (s : State) (d : DueAction) : Type 0 where
  pub due : due_at (process_of (owner_at d.number s) s.processes) ≡ Some d.moment
  pub owner : HasOwner s (owner_at d.number s)
  pub entry : Entry
  pub found : find (λ (e : Entry). owner_number e.owner == d.number) s.processes ≡ Some entry
  pub is : entry.owner ≡ owner_at d.number s

abbrev pub DueStands : State → DueAction → Type 0
DueStands s d = ((d.rank ≡ 0) → OpStands s d) × ((d.rank ≢ 0) → TimerStands s d)

abbrev Owns : State → Entry → Type 0
Owns s e = HasOwner s e.owner × (process_of e.owner s.processes ≡ Some e.process)

op_stands : (s : State) (e : Entry) (m : ℕ) → IsConsistent s → AllByRecursion (Owns s) s.processes → Owns s e → next_due e.process ≡ Some m → OpStands s (record { moment = m; rank = 0; number = owner_number e.owner })
op_stands s e m k all own due =
    let is : e.owner ≡ owner_at (owner_number e.owner) s = named s e.owner e.process k own.0 own.1 in
    let f = found_by_number e.owner e.process s.processes own.1 in
    let same : owner_number f.0.owner ≡ owner_number e.owner = eqb-true (owner_number f.0.owner) (owner_number e.owner) (passes (λ (x : Entry). owner_number x.owner == owner_number e.owner) f.0 s.processes f.1) in
    let found : Owns s f.0 = found_all (Owns s) (λ (x : Entry). owner_number x.owner == owner_number e.owner) f.0 s.processes f.1 all in
    record {
      due = ap (λ o. due_at (process_of o s.processes)) (sym is) ∙ (ap due_at own.1 ∙ due);
      owner = subst (HasOwner s) is own.0;
      entry = f.0;
      found = f.1;
      is = named s f.0.owner f.0.process k found.0 found.1 ∙ ap (λ n. owner_at n s) same;
    }

all_stand : (s : State) → IsConsistent s → AllByRecursion (DueStands s) (due_actions s)
all_stand s k =
    let all : AllByRecursion (Owns s) s.processes = all_both (λ (e : Entry). HasOwner s e.owner) (λ (e : Entry). process_of e.owner s.processes ≡ Some e.process) (Owns s) (λ e there is. (there, is)) s.processes
    k.processes.owners (own_process s.processes k.processes.single) in
    all_append (DueStands s) (filter_map (λ e. action_at (owner_number e.owner) (next_due e.process)) s.processes) s.timers
    (all_actions (DueStands s) s.processes (all_weaken (Owns s) _ (λ e own m due. (λ zero. op_stands s e m k all own due, λ other. absurd (other refl))) s.processes all))
    (all_weaken (TimerStands s) (DueStands s) (λ d stands. (λ zero. absurd (omega (arith, stands.least, zero)), λ other. stands)) s.timers k.timers.timers)

pub due_stands : (s : State) (d : DueAction) → IsConsistent s → least_due s ≡ Some d → DueStands s d
due_stands s d k e = found_all (DueStands s) (λ d. not (list_any (λ e. is_before e d) (due_actions s))) d (due_actions s) e (all_stand s k)

-- the container of a deadline or a timer
pub container_stands : (s : State) (d : DueAction) → IsConsistent s → least_due s ≡ Some d → d.rank ≢ 0 → IsTrue (is_there (container_numbered d.number s))
container_stands s d k e other = ((due_stands s d k e).1 other).container

-- its rank is 1, 2 or 3
pub last_rank : (s : State) (d : DueAction) → IsConsistent s → least_due s ≡ Some d → d.rank ≢ 0 → d.rank ≢ 1 → d.rank ≢ 2 → d.rank ≡ 3
last_rank s d k e r0 r1 r2 =
    let t = (due_stands s d k e).1 r0 in
    omega (arith, t.least, t.greatest, r0, r1, r2)
