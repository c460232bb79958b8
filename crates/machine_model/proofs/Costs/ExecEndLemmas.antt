-- What the end of execs leaves as it is.
use Rattle.std.proofs.Common.{◌≡◌, ℕ, ◌==◌, List, [], ◌∷◌, map, refl, sym, ◌∙◌, subst, inl, inr}
use Rattle.std.specs.List.{AllByRecursion}
use Rattle.proc_kernel.specs.Tables.{Entry}
use Rattle.machine_model.specs.State.{State, running_execs}
use Rattle.machine_model.specs.Chain.{each}
use Rattle.machine_model.specs.Effects.EndMain.{end_exec, end_execs, exec_ended}
use Rattle.machine_model.proofs.ChangeLemmas.{map_updated}
use Rattle.machine_model.proofs.Tables.ProcessLemmas.{All_without}
use Rattle.machine_model.proofs.Fits.ExecLoopLemmas.{end_exec_state}
use Rattle.engine_text.specs.declared.exec.Exec.{Exec}
use Rattle.engine_text.specs.declared.owner.Owner.TheVariants.{Exec as OfExec}

pub record Level (s t : State) : Type 0 where
  pub containers : t.containers ≡ s.containers
  pub volumes : t.volumes ≡ s.volumes
  pub outputs : t.outputs ≡ s.outputs
  pub timers : t.timers ≡ s.timers
  pub tickets : t.tickets ≡ s.tickets
  pub exec_numbers : map (λ x. x.number) t.execs ≡ map (λ x. x.number) s.execs
  pub next_number : t.next_number ≡ s.next_number
  pub next_ticket : t.next_ticket ≡ s.next_ticket
  pub next_pid : t.next_pid ≡ s.next_pid
  pub steps : t.step_count ≡ s.step_count
  pub events : t.event_count ≡ s.event_count
  pub clock : t.clock ≡ s.clock
  pub calls : t.call_count ≡ s.call_count

level_none : (s : State) → Level s s
level_none s = record { containers = refl; volumes = refl; outputs = refl; timers = refl; tickets = refl; exec_numbers = refl; next_number = refl; next_ticket = refl; next_pid = refl; steps = refl; events = refl; clock = refl; calls = refl }

pub level_then : (s t u : State) → Level s t → Level t u → Level s u
level_then s t u a b = record {
  containers = b.containers ∙ a.containers;
  volumes = b.volumes ∙ a.volumes;
  outputs = b.outputs ∙ a.outputs;
  timers = b.timers ∙ a.timers;
  tickets = b.tickets ∙ a.tickets;
  exec_numbers = b.exec_numbers ∙ a.exec_numbers;
  next_number = b.next_number ∙ a.next_number;
  next_ticket = b.next_ticket ∙ a.next_ticket;
  next_pid = b.next_pid ∙ a.next_pid;
  steps = b.steps ∙ a.steps;
  events = b.events ∙ a.events;
  clock = b.clock ∙ a.clock;
  calls = b.calls ∙ a.calls;
}

pub level_end : (code k : ℕ) (s : State) → Level s (end_exec code k s).state
level_end code k s = elim (end_exec_state code k s) [
  | inl same ↦ subst (Level s) (sym same.1) (level_none s)
  | inr same ↦ subst (Level s) (sym same) (record {
    containers = refl;
    volumes = refl;
    outputs = refl;
    timers = refl;
    tickets = refl;
    exec_numbers = map_updated (λ (x : Exec). x.number) (λ x. x.number == k) (exec_ended code) s.execs (λ x. refl);
    next_number = refl;
    next_ticket = refl;
    next_pid = refl;
    steps = refl;
    events = refl;
    clock = refl;
    calls = refl;
  })
]

level_each : (xs : List Exec) (s : State) → Level s (each (λ (x : Exec). end_exec 137 x.number) xs s).state
level_each [] s = level_none s
level_each (x ∷ xs) s =
    let t : State = (end_exec 137 x.number s).state in
    level_then s t (each (λ (x : Exec). end_exec 137 x.number) xs t).state (level_end 137 x.number s) (level_each xs t)

pub level_ends : (n : ℕ) (s : State) → Level s (end_execs n s).state
level_ends n s = level_each (running_execs n s) s

-- what holds of each process holds of each that is left
processes_end : (P : Entry → Type 0) (code k : ℕ) (s : State) → AllByRecursion P s.processes → AllByRecursion P (end_exec code k s).state.processes
processes_end P code k s h = elim (end_exec_state code k s) [
  | inl same ↦ subst (λ (t : State). AllByRecursion P t.processes) (sym same.1) h
  | inr same ↦ subst (λ (t : State). AllByRecursion P t.processes) (sym same) (All_without P (OfExec k) s.processes h)
]

processes_each : (P : Entry → Type 0) (xs : List Exec) (s : State) → AllByRecursion P s.processes → AllByRecursion P (each (λ (x : Exec). end_exec 137 x.number) xs s).state.processes
processes_each P [] s h = h
processes_each P (x ∷ xs) s h = processes_each P xs (end_exec 137 x.number s).state (processes_end P 137 x.number s h)

pub left_by_end : (P : Entry → Type 0) (code k : ℕ) (s : State) → AllByRecursion P s.processes → AllByRecursion P (end_exec code k s).state.processes
left_by_end P code k s h = processes_end P code k s h

pub left_by_ends : (P : Entry → Type 0) (n : ℕ) (s : State) → AllByRecursion P s.processes → AllByRecursion P (end_execs n s).state.processes
left_by_ends P n s h = processes_each P (running_execs n s) s h
