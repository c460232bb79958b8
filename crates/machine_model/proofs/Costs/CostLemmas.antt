-- What effects cost: a relation between a cost, a state and an effect that each single change keeps is kept by every effect.
use Rattle.std.proofs.Common.{◌≡◌, ℕ, ◌+◌, ◌≤◌, ◌&&◌, Bool, true, false, List, [], ◌∷◌, Option, Some, None, find, map, length, refl, sym, subst, arith}
use Rattle.std.proofs.lemmas.Bool.{leb-true}
use Rattle.std.specs.Prelude.{nat_le}
use Rattle.std.specs.List.{AllByRecursion}
use Rattle.engine_text.specs.Scripts.{Program}
use Rattle.engine_text.specs.Texts.{same_bytes}
use Rattle.proc_kernel.specs.Processes.{Process, ProcessStep, feed}
use Rattle.proc_kernel.specs.Tables.{process_of, effect_of, room_at}
use Rattle.proc_kernel.specs.Times.{AreShort}
use Rattle.machine_model.specs.State.{State, container_numbered, change_container, change_exec, change_process, drop_process}
use Rattle.machine_model.specs.Chain.{Effect, Died, still, change, after, and_then, each, with_found, with_container, tell, tell_of, tell_mounts, renew}
use Rattle.machine_model.specs.EventTexts.{mount_event}
use Rattle.machine_model.specs.Effects.Launch.{spawn, launched, container_room}
use Rattle.machine_model.specs.Effects.Destroy.{without}
use Rattle.machine_model.specs.Effects.EndMain.{end_exec, end_execs}
use Rattle.machine_model.specs.Effects.Meet.{stepped, write_record}
use Rattle.machine_model.specs.Tickets.{begun}
use Rattle.machine_model.specs.Due.{time_out, restarted}
use Rattle.machine_model.specs.Calls.Create.{placed, new_volume, with_new, new_container}
use Rattle.machine_model.specs.Calls.ExecCreate.{with_exec, new_exec}
use Rattle.machine_model.specs.Calls.ExecStart.{started, exec_room}
use Rattle.machine_model.specs.Calls.Rename.{named}
use Rattle.machine_model.specs.Calls.Take.{end_ticket}
use Rattle.machine_model.specs.Calls.Volumes.{without_volume}
use Rattle.machine_model.proofs.Fold.RowLemmas.{found_number}
use Rattle.machine_model.proofs.ObeyLemmas.{both_true}
use Rattle.machine_model.proofs.Processes.LimitLemmas.{IsStep, MoveFits}
use Rattle.engine_text.specs.declared.call.CreateSpec.{CreateSpec}
use Rattle.engine_text.specs.declared.container.Container.{Container}
use Rattle.engine_text.specs.declared.container.Life.{Life}
use Rattle.engine_text.specs.declared.event.Action.{Action}
use Rattle.engine_text.specs.declared.event.Event.{Event}
use Rattle.engine_text.specs.declared.exec.Exec.{Exec}
use Rattle.engine_text.specs.declared.owner.Owner.{Owner}
use Rattle.engine_text.specs.declared.owner.Owner.TheVariants.{Container as OfContainer, Exec as OfExec}
use Rattle.engine_text.specs.declared.pairs.Pair.{Pair}
use Rattle.engine_text.specs.declared.script.Effect.{Effect as ProcessEffect}
use Rattle.engine_text.specs.declared.script.Effect.TheVariants.{Lives, Wrote, Ended}
use Rattle.engine_text.specs.declared.step.DueAction.{DueAction}
use Rattle.engine_text.specs.declared.ticket.Asked.{Asked}
use Rattle.machine_model.specs.Names.{holder}
use Rattle.machine_model.specs.Ranges.{IsPast}
use Rattle.machine_model.specs.Consistency.{is_there}
use Rattle.std.specs.Prelude.{IsTrue}
use Rattle.std.proofs.Common.{false}
use Rattle.machine_model.specs.Calls.Create.{volume_named}
use Rattle.machine_model.specs.Calls.Volumes.{is_in_use}

-- ---- costs

-- events (an exec's end is paid at its start), processes, numbers, tickets, restarts
pub record Cost : Type 0 where
  pub told : ℕ
  pub spawns : ℕ
  pub makes : ℕ
  pub asks : ℕ
  pub retries : ℕ

abbrev pub none : Cost
none = record { told = 0; spawns = 0; makes = 0; asks = 0; retries = 0 }

abbrev pub tells : ℕ → Cost
tells n = record { told = n; spawns = 0; makes = 0; asks = 0; retries = 0 }

abbrev pub plus : Cost → Cost → Cost
plus a b = record {
  told = a.told + b.told;
  spawns = a.spawns + b.spawns;
  makes = a.makes + b.makes;
  asks = a.asks + b.asks;
  retries = a.retries + b.retries;
}

pub record IsMost (a b : Cost) : Type 0 where
  pub told : a.told ≤ b.told
  pub spawns : a.spawns ≤ b.spawns
  pub makes : a.makes ≤ b.makes
  pub asks : a.asks ≤ b.asks
  pub retries : a.retries ≤ b.retries

abbrev pub is_most : Cost → Cost → Bool
is_most a b =
    nat_le a.told b.told && (nat_le a.spawns b.spawns && (nat_le a.makes b.makes && (nat_le a.asks b.asks && nat_le a.retries b.retries)))

pub most_of : (a b : Cost) → is_most a b ≡ true → IsMost a b
most_of a b e =
    let one = both_true (nat_le a.told b.told) _ e in
    let two = both_true (nat_le a.spawns b.spawns) _ one.1 in
    let three = both_true (nat_le a.makes b.makes) _ two.1 in
    let four = both_true (nat_le a.asks b.asks) _ three.1 in
    record {
      told = leb-true a.told b.told one.0;
      spawns = leb-true a.spawns b.spawns two.0;
      makes = leb-true a.makes b.makes three.0;
      asks = leb-true a.asks b.asks four.0;
      retries = leb-true a.retries b.retries four.1;
    }

-- ---- single changes

-- what a change of a life at a moment leaves
pub record IsQuiet (t : ℕ) (f : Life → Life) : Type 0 where
  pub mounts : (l : Life) → (f l).mounts ≡ l.mounts
  pub log : (l : Life) → (f l).log ≡ l.log
  pub starts : (l : Life) → (f l).starts ≡ l.starts
  pub restarts : (l : Life) → (f l).restarts ≤ l.restarts
  pub moments : (l : Life) → IsPast t l → IsPast t (f l)

-- what a step of a process writes
abbrev pub write_part : ProcessEffect → Owner → State → Effect
write_part Lives owner = still
write_part (Wrote stream payload) owner = write_record owner stream payload
write_part (Ended code) owner = still

abbrev pub AreFrom : ℕ → List DueAction → Type 0
AreFrom t ds = AllByRecursion (λ d. t ≤ d.moment) ds

-- each single change is one of these; P says that calls are sound and find what they wait for, and
-- E which tickets may be ended
pub record IsPriced (P : Type 0) (E : ℕ → Type 0) (R : Cost → State → Effect → Type 0) : Type 0 where
  pub on_still : (s : State) → R none s (still s)
  pub on_after : (x y : Cost) (s : State) (a b : Effect) → R x s a → R y a.state b → R (plus x y) s (after a b)
  pub on_more : (x y : Cost) (s : State) (e : Effect) → (P → IsMost x y) → R x s e → R y s e
  pub on_told : (s : State) (v : Event) → v.moment ≡ s.clock → R (tells 1) s (tell (v ∷ []) s)
  pub on_mounts : (s : State) (a : Action) (c : Container) → container_numbered c.number s ≡ Some c → R (tells 16) s (tell (map (λ m. mount_event a m.volume c s.clock) c.life.mounts) s)
  pub on_ended : (s : State) (d : Died) → R none s (record { state = s; events = []; died = d ∷ [] })
  pub on_renew : (s : State) (n : ℕ) (f : Life → Life) → IsQuiet s.clock f → R none s (renew n f s)
  pub on_retry : (s : State) (n : ℕ) → R (record { told = 0; spawns = 0; makes = 0; asks = 0; retries = 1 }) s (renew n restarted s)
  pub on_step : (s : State) (owner : Owner) (step : ℕ → Process → ProcessStep) → IsStep step
      → R none s (and_then (change (stepped step owner)) (write_part (effect_of (step s.clock) (process_of owner s.processes)) owner) s)
  pub on_move : (s : State) (owner : Owner) (f : Process → Process) → ((p : Process) → MoveFits s.clock p (f p)) → R none s (still (change_process owner f s))
  pub on_feed : (s : State) (owner : Owner) (bytes : List ℕ) → (P → length bytes ≤ room_at (process_of owner s.processes)) → R none s (still (change_process owner (feed bytes s.clock) s))
  pub on_drop : (s : State) (n : ℕ) → R none s (still (drop_process (OfContainer n) s))
  pub on_end_exec : (s : State) (code n : ℕ) (p : Process) → process_of (OfExec n) s.processes ≡ Some p → R none s (end_exec code n s)
  pub on_end_execs : (s : State) (n : ℕ) → R none s (end_execs n s)
  pub on_launch : (s : State) (c : Container) (program : Program) → container_numbered c.number s ≡ Some c → AreShort program.ops
      → R (record { told = 0; spawns = 1; makes = 0; asks = 0; retries = 0 }) s
      (and_then (λ s. renew c.number (launched s) s) (change (spawn (OfContainer c.number) program c.life.open_stdin (container_room c))) s)
  pub on_start_exec : (s : State) (id : List ℕ) (x : Exec) (program : Program) (stdin : Bool) → find (λ y. same_bytes y.id id) s.execs ≡ Some x → x.started ≡ false → AreShort program.ops
      → R (record { told = 1; spawns = 1; makes = 0; asks = 0; retries = 0 }) s
      (and_then (λ s. still (change_exec x.number (started s) s)) (change (spawn (OfExec x.number) program stdin exec_room)) s)
  pub on_timers : (s : State) (timers : List DueAction) → (AreFrom s.clock s.timers → AreFrom s.clock timers) → R none s (still (record s { timers = timers }))
  pub on_destroyed : (s : State) (c : Container) → container_numbered c.number s ≡ Some c → R none s (still (without c s))
  pub on_begun : (s : State) (connection : ℕ) (c : Container) (asked : Asked) → container_numbered c.number s ≡ Some c → R (record { told = 0; spawns = 0; makes = 0; asks = 1; retries = 0 }) s (still (begun connection c.number asked s))
  pub on_time_out : (s : State) (c : Container) → R none s (still (time_out c s))
  pub on_end_ticket : (s : State) (n : ℕ) → E n → R none s (still (end_ticket n s))
  pub on_volumes : (s : State) (name : List ℕ) (labels : List Pair) → volume_named name s ≡ None → R none s (still (record s { volumes = placed (new_volume name labels s.clock) s.volumes }))
  pub on_gone_volume : (s : State) (name : List ℕ) → is_in_use name s ≡ false → R none s (still (without_volume name s))
  pub on_made : (s : State) (name : List ℕ) (spec : CreateSpec) → (P → length spec.mounts ≤ 16) → holder name s.containers ≡ None
      → AllByRecursion (λ m. IsTrue (is_there (volume_named m.volume s))) spec.mounts
      → R (record { told = 0; spawns = 0; makes = 1; asks = 0; retries = 0 }) s (still (with_new (new_container name spec s) s))
  pub on_made_exec : (s : State) (c : Container) (words : List (List ℕ)) (stdin out err : Bool) → container_numbered c.number s ≡ Some c
      → R (record { told = 0; spawns = 0; makes = 1; asks = 0; retries = 0 }) s (still (with_exec (new_exec c words stdin out err s) s))
  pub on_renamed : (s : State) (c : Container) (name : List ℕ) → container_numbered c.number s ≡ Some c → holder name s.containers ≡ None → R none s (still (change_container c.number (named name) s))

-- ---- chains of them

pub record Costs (R : Cost → State → Effect → Type 0) (x : Cost) (e : State → Effect) : Type 0 where
  pub holds : (s : State) → R x s (e s)

pub costs_still : {P : Type 0} {E : ℕ → Type 0} {R : Cost → State → Effect → Type 0} → IsPriced P E R → Costs R none still
costs_still k = record { holds = k.on_still }

pub costs_then : {P : Type 0} {E : ℕ → Type 0} {R : Cost → State → Effect → Type 0} {x y : Cost} {e f : State → Effect} → IsPriced P E R → Costs R x e → Costs R y f → Costs R (plus x y) (and_then e f)
costs_then {R} {x} {y} {e} {f} k first second = record { holds = λ s. k.on_after x y s (e s) (f (e s).state) (first.holds s) (second.holds (e s).state) }

pub costs_most : {P : Type 0} {E : ℕ → Type 0} {R : Cost → State → Effect → Type 0} {x y : Cost} {e : State → Effect} → IsPriced P E R → Costs R x e → is_most x y ≡ true → Costs R y e
costs_most {R} {x} {y} {e} k one low = record { holds = λ s. k.on_more x y s (e s) (λ p. most_of x y low) (one.holds s) }

pub costs_at : {R : Cost → State → Effect → Type 0} {x : Cost} (e : State → State → Effect) → ((s : State) → R x s (e s s)) → Costs R x (λ s. e s s)
costs_at e k = record { holds = k }

from_none : (y : Cost) → IsMost none y
from_none y = record { told = omega arith; spawns = omega arith; makes = omega arith; asks = omega arith; retries = omega arith }

pub costs_nothing : {P : Type 0} {E : ℕ → Type 0} {R : Cost → State → Effect → Type 0} (y : Cost) → IsPriced P E R → (s : State) → R y s (still s)
costs_nothing y k s = k.on_more none y s (still s) (λ p. from_none y) (k.on_still s)

with_by : {P : Type 0} {E : ℕ → Type 0} (R : Cost → State → Effect → Type 0) (x : Cost) → IsPriced P E R → (f : Container → State → Effect) (n : ℕ) (s : State) (o : Option Container) → container_numbered n s ≡ o
    → ((c : Container) → container_numbered c.number s ≡ Some c → R x s (f c s)) → R x s (with_found o f s)
with_by R x k f n s None e one = costs_nothing x k s
with_by R x k f n s (Some c) e one = one c (subst (λ m. container_numbered m s ≡ Some c) (sym (found_number n c s.containers e)) e)

pub costs_with : {P : Type 0} {E : ℕ → Type 0} {R : Cost → State → Effect → Type 0} {x : Cost} {f : Container → State → Effect} → IsPriced P E R → (n : ℕ)
    → ((s : State) (c : Container) → container_numbered c.number s ≡ Some c → R x s (f c s)) → Costs R x (with_container n f)
costs_with {R} {x} {f} k n one = record { holds = λ s. with_by R x k f n s (container_numbered n s) refl (one s) }

pub costs_tell : {P : Type 0} {E : ℕ → Type 0} {R : Cost → State → Effect → Type 0} → IsPriced P E R → (event : Container → ℕ → Event) (n : ℕ) → ((c : Container) (t : ℕ) → (event c t).moment ≡ t) → Costs R (tells 1) (tell_of event n)
costs_tell k event n at = costs_with k n (λ s c found. k.on_told s (event c s.clock) (at c s.clock))

pub costs_mounts : {P : Type 0} {E : ℕ → Type 0} {R : Cost → State → Effect → Type 0} → IsPriced P E R → (a : Action) (n : ℕ) → Costs R (tells 16) (tell_mounts a n)
costs_mounts k a n = costs_with k n (λ s c found. k.on_mounts s a c found)

pub costs_renew : {P : Type 0} {E : ℕ → Type 0} {R : Cost → State → Effect → Type 0} → IsPriced P E R → (n : ℕ) (f : Life → Life) → ((t : ℕ) → IsQuiet t f) → Costs R none (renew n f)
costs_renew k n f mark = record { holds = λ s. k.on_renew s n f (mark s.clock) }

pub costs_timers : {P : Type 0} {E : ℕ → Type 0} {R : Cost → State → Effect → Type 0} → IsPriced P E R → (g : State → List DueAction) → ((s : State) → AreFrom s.clock s.timers → AreFrom s.clock (g s))
    → Costs R none (change (λ s. record s { timers = g s }))
costs_timers k g keeps = record { holds = λ s. k.on_timers s (g s) (keeps s) }

-- each costs nothing
pub costs_each : {P : Type 0} {E : ℕ → Type 0} {R : Cost → State → Effect → Type 0} {A : Type 0} {f : A → State → Effect} → IsPriced P E R → ((x : A) → Costs R none (f x)) → (xs : List A) → Costs R none (each f xs)
costs_each k one [] = costs_still k
costs_each k one (x ∷ xs) = costs_then k (one x) (costs_each k one xs)
