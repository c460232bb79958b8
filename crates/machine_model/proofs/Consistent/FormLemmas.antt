-- The form in which effects keep what holds of a state, and that a state in that form is consistent.
use Rattle.std.proofs.Common.{◌≡◌, ℕ, ◌+◌, ◌*◌, ◌^◌, ◌<◌, ◌≤◌, ◌==◌, Bool, true, false, List, [], ◌∷◌, Option, Some, None, if◌then◌else◌, find, map, length, refl, sym, subst, arith, suc, ap, ◌∙◌, ◌||◌}
use Rattle.std.proofs.lemmas.Bool.{ltb-true, leb-false}
use Rattle.std.proofs.Math.Nat.{min-le_right}
use Rattle.std.specs.Prelude.{IsTrue, nat_le, is_some}
use Rattle.std.specs.Option.{is_some, option_map_or}
use Rattle.std.specs.List.{AllByRecursion, filter_map, cons_option}
use Rattle.container_table.specs.Lists.{remove_first}
use Rattle.proc_kernel.specs.Processes.{next_due, Process}
use Rattle.proc_kernel.specs.Tables.{Entry, process_of}
use Rattle.proc_kernel.specs.Times.{IsUndue}
use Rattle.proc_kernel.proofs.TimeLemmas.{timely_later}
use Rattle.container_table.proofs.LeastLemmas.{least_from}
use Rattle.api_json.specs.Status.{is_restarting}
use Rattle.engine_text.specs.Owner.{same_owner}
use Rattle.proc_kernel.specs.Catalogue.{program_of}
use Rattle.proc_kernel.specs.Times as proc
use Rattle.machine_model.specs.State.{State, owner_number, container_numbered, exec_numbered, is_live}
use Rattle.machine_model.specs.Due.{action_at, due_actions}
use Rattle.machine_model.specs.Step.{at_moment}
use Rattle.machine_model.specs.Ready.{is_ready}
use Rattle.machine_model.specs.Tickets.{ticket_numbered}
use Rattle.machine_model.specs.History.{greatest_moment, has_steps, IsTimely, has_ticket, is_due}
use Rattle.machine_model.specs.Consistency.{HasCounts, IsConsistent, live_execs, is_there, HasProgram, IsUnstarted, HasNoOutput, HasLogRoom, HasOutputRoom, HasExecs, CanGoOn, room_left, HasStarted}
use Rattle.machine_model.specs.Effects.Launch.{log_size}
use Rattle.machine_model.proofs.ListLemmas.{all_front, all_back, all_of_mapped, all_weaken, all_both, all_mapped}
use Rattle.machine_model.proofs.Kept.NameLemmas.{Names, has_names}
use Rattle.machine_model.proofs.Kept.TableLemmas.{Volumes, has_volumes, Tickets}
use Rattle.machine_model.proofs.Kept.TicketLemmas.{has_tickets}
use Rattle.machine_model.proofs.Fits.CallLemmas.{PartsFit}
use Rattle.machine_model.proofs.Fits.FreshLemmas.{Fresh}
use Rattle.machine_model.proofs.Fits.StepLemmas.{has_timers, own_container, all_fine}
use Rattle.machine_model.proofs.Kept.EventLemmas.{Few, paid_for}
use Rattle.machine_model.proofs.Kept.TimeLemmas.{FitsAt, Times}
use Rattle.machine_model.proofs.Kept.ClockLemmas.{Past}
use Rattle.machine_model.proofs.Kept.ProcessLemmas.{has_processes, within_limits, live_paid}
use Rattle.machine_model.proofs.OwnerLemmas.{same_owner-refl}
use Rattle.machine_model.proofs.Fold.TellLemmas.{Carried}
use Rattle.machine_model.proofs.Kept.ExecLemmas.{Execs}
use Rattle.machine_model.proofs.Fits.ExecLoopLemmas.{own_exec}
use Rattle.machine_model.proofs.Fits.LogRoomLemmas.{RoomBy, OutputFits, IsEmptyOf, exec_room_in, life_of}
use Rattle.machine_model.proofs.Fits.PartLemmas.{parts_of, Watches, ExecBy}
use Rattle.machine_model.proofs.Fits.LaunchLemmas.{Fine}
use Rattle.engine_text.specs.declared.container.Container.{Container}
use Rattle.engine_text.specs.declared.exec.Exec.{Exec}
use Rattle.engine_text.specs.declared.call.Call.{Call}
use Rattle.engine_text.specs.declared.step.DueAction.{DueAction}
use Rattle.engine_text.specs.declared.ticket.Ticket.{Ticket}
use Rattle.engine_text.specs.declared.container.Life.{Life}
use Rattle.engine_text.specs.declared.log.OwnedLog.{OwnedLog}
use Rattle.engine_text.specs.declared.owner.Owner.{Owner}
use Rattle.engine_text.specs.declared.owner.Owner.TheVariants.{Container as OfContainer, Exec as OfExec}

-- the counts, with the processes of execs in place of the running execs
pub record Counts (s : State) : Type 0 where
  pub tickets : length s.tickets ≤ s.step_count
  pub steps : length s.tickets + s.step_count ≤ 2 ^ 57
  pub events : s.event_count + paid_for s.processes ≤ 64 * s.step_count
  pub calls : s.call_count ≤ s.step_count
  pub next_number : s.next_number ≤ s.step_count
  pub next_ticket : s.next_ticket ≤ s.step_count
  pub next_pid : s.next_pid ≤ 1001 + s.step_count
  pub starts : AllByRecursion (λ c. c.life.starts ≤ s.step_count) s.containers
  pub restarts : AllByRecursion (λ c. c.life.restarts ≤ s.step_count) s.containers

-- the parts that effects keep, each by a relation of its own
pub record KeptForm (s : State) : Type 0 where
  pub names : Names s
  pub mains : PartsFit s
  pub volumes : Volumes s
  pub tickets : Tickets s
  pub execs : Execs s
  pub times : Times s
  pub clock : s.clock ≤ greatest_moment
  pub few : Few s
  pub ranges : Carried s
  pub past : Past s
  pub counts : Counts s

-- ---- counts

has_counts : (s : State) → PartsFit s → Counts s → HasCounts s
has_counts s mains h = record {
  tickets = h.tickets;
  steps = h.steps;
  events = let least : length (live_execs s) ≤ paid_for s.processes = live_paid s mains.0.5 in omega (arith, h.events, least);
  calls = h.calls;
  starts = h.starts;
  restarts = h.restarts;
  started = all_weaken (λ c. Fine c.life (parts_of c.number s).main (parts_of c.number s).stop (parts_of c.number s).removal (parts_of c.number s).restart) (λ c. HasStarted c.life) (λ c fine. fine.0.started) s.containers (all_fine s mains);
}

-- ---- execs and what processes need

program_by : (l : Life) (p : Option Process) (a b c : Bool) (live : Bool) → is_some p ≡ live → (live || is_restarting l.status) ≡ true → Fine l p a b c → is_there (program_of l.words 1) ≡ true
program_by l p a b c true e h fine = fine.0.program e 1
program_by l p a b c false e h fine = fine.0.again (fine.0.restart ∙ h) 1

unstarted_by : (W : ℕ → Process → Type 0) (x : Exec) (p : Option Process) → x.started ≡ false → ExecBy W (Some x) p → is_some p ≡ false
unstarted_by W x None e h = refl
unstarted_by W x (Some q) e h = let no_way : false ≡ true = sym e ∙ h.1 in absurd (cc)

room_by : (o : Option Life) (l : Life) (p : Option Process) → o ≡ Some l → RoomBy o p → log_size l.log + room_left p ≤ 4194304
room_by None l p e h = absurd (cc)
room_by (Some k) l p e h = let same : log_size k.log ≡ log_size l.log = ap size_in e in omega (arith, same, h)
  where
    size_in : Option Life → ℕ
    size_in None = 0
    size_in (Some x) = log_size x.log

has_program : (s : State) (c : Container) → Fine c.life (parts_of c.number s).main (parts_of c.number s).stop (parts_of c.number s).removal (parts_of c.number s).restart → HasProgram s c
has_program s c fine lives =
    let v = parts_of c.number s in
    program_by c.life v.main v.stop v.removal v.restart (is_live (OfContainer c.number) s) refl lives fine

is_unstarted : (s : State) → PartsFit s → (x : Exec) → exec_numbered x.number s ≡ Some x → IsUnstarted s x
is_unstarted s h x own fresh =
    unstarted_by (λ k p. Watches (parts_of k s) p) x (process_of (OfExec x.number) s.processes) fresh (subst (λ o. ExecBy (λ k p. Watches (parts_of k s) p) o (process_of (OfExec x.number) s.processes)) own (h.0.6 x.number))

has_no_output : (s : State) → PartsFit s → (x : Exec) → exec_numbered x.number s ≡ Some x → HasNoOutput s x
has_no_output s h x own fresh =
    all_weaken (IsEmptyOf x.number) (λ (o : OwnedLog). o.owner ≡ OfExec x.number → log_size o.log ≡ 0)
    (λ o none is. none (subst (λ w. same_owner w (OfExec x.number) ≡ true) (sym is) (same_owner-refl (OfExec x.number)))) s.outputs (h.0.7.empty x.number x own fresh)

has_execs : (s : State) → PartsFit s → Execs s → HasExecs s
has_execs s h execs =
    let own = own_exec s.execs h.0.5 in
    record {
      containers = execs.0;
      outputs = execs.1;
      unstarted = all_weaken (λ (x : Exec). exec_numbered x.number s ≡ Some x) (IsUnstarted s) (λ x is. is_unstarted s h x is) s.execs own;
      empty = all_weaken (λ (x : Exec). exec_numbered x.number s ≡ Some x) (HasNoOutput s) (λ x is. has_no_output s h x is) s.execs own;
    }

-- an output is of an exec
abbrev pub IsExecs : Owner → Type 0
IsExecs o = (k : ℕ) × (o ≡ OfExec k)

pub of_execs : (os : List OwnedLog) (xs : List Exec) → map (λ o. o.owner) os ≡ map (λ x. OfExec x.number) xs → AllByRecursion (λ o. IsExecs o.owner) os
of_execs os xs same =
    all_of_mapped IsExecs (λ (o : OwnedLog). o.owner) os (subst (AllByRecursion IsExecs) (sym same) (all_mapped IsExecs (λ (x : Exec). OfExec x.number) xs (each xs)))
  where
    each : (xs : List Exec) → AllByRecursion (λ x. IsExecs (OfExec x.number)) xs
    each [] = tt
    each (x ∷ xs) = ((x.number, refl), each xs)

pub same_room : (es : List Entry) (o : Owner) → IsExecs o → exec_room_in o es ≡ room_left (process_of o es)
same_room es o is = ap (λ w. exec_room_in w es) is.1 ∙ sym (ap (λ w. room_left (process_of w es)) is.1)

output_room : (s : State) (o : OwnedLog) → IsExecs o.owner → OutputFits s.processes o → HasOutputRoom s o
output_room s o is fits = let same : exec_room_in o.owner s.processes ≡ room_left (process_of o.owner s.processes) = same_room s.processes o.owner is in omega (arith, same, fits)

can_go_on : (s : State) → PartsFit s → Execs s → Times s → CanGoOn s
can_go_on s h execs times = record {
  programs = all_weaken (λ c. Fine c.life (parts_of c.number s).main (parts_of c.number s).stop (parts_of c.number s).removal (parts_of c.number s).restart) (HasProgram s) (λ c fine. has_program s c fine) s.containers (all_fine s h);
  logs = all_weaken (λ (c : Container). container_numbered c.number s ≡ Some c) (HasLogRoom s)
      (λ c own. room_by (life_of (container_numbered c.number s)) c.life (process_of (OfContainer c.number) s.processes) (ap life_of own) (h.0.7.mains c.number)) s.containers (own_container s.containers h.0.0);
  outputs = all_both (λ (o : OwnedLog). IsExecs o.owner) (OutputFits s.processes) (HasOutputRoom s) (λ o is fits. output_room s o is fits) s.outputs (of_execs s.outputs s.execs execs.1) h.0.7.outputs;
  times = all_weaken (FitsAt s.clock) (λ e. proc.IsTimely s.clock e.process) (λ e fits. fits.0) s.processes times.0;
}

-- ---- all of it

pub consistent : (s : State) → KeptForm s → IsConsistent s
consistent s h = record {
  names = has_names s h.names;
  processes = has_processes s h.mains;
  timers = has_timers s h.mains;
  volumes = has_volumes s h.volumes;
  tickets = has_tickets s h.tickets;
  limits = within_limits s h.mains h.times h.clock;
  counts = has_counts s h.mains h.counts;
  numbers = record { next_number = h.counts.next_number; next_ticket = h.counts.next_ticket; next_pid = h.counts.next_pid; first_pid = h.mains.0.4 };
  execs = has_execs s h.mains h.execs;
  going = can_go_on s h.mains h.execs h.times;
  ranges = record { processes = h.ranges.1; lives = h.ranges.2; codes = h.ranges.3; mounts = h.few.0; moments = h.past.0; volumes = h.past.1 };
}

abbrev OutputsBelow : State → Type 0
OutputsBelow s = AllByRecursion (λ o. owner_number o.owner < s.next_number) s.outputs

outputs_below : (s : State) → Execs s → OutputsBelow s
outputs_below s h =
    all_of_mapped (λ w. owner_number w < s.next_number) (λ (o : OwnedLog). o.owner) s.outputs
    (subst (AllByRecursion (λ w. owner_number w < s.next_number)) (sym h.1) (all_mapped (λ w. owner_number w < s.next_number) (λ (x : Exec). OfExec x.number) s.execs h.3))

pub fresh_of : (s : State) → Names s → Execs s → Fresh s
fresh_of s names execs = record {
  below = all_of_mapped (λ k. k < s.next_number) (λ (c : Container). c.number) s.containers (all_front (λ k. k < s.next_number) (map (λ c. c.number) s.containers) (map (λ x. x.number) s.execs) names.4);
  execs_below = all_of_mapped (λ k. k < s.next_number) (λ (x : Exec). x.number) s.execs (all_back (λ k. k < s.next_number) (map (λ c. c.number) s.containers) (map (λ x. x.number) s.execs) names.4);
  outputs_below = outputs_below s execs;
}

-- ---- the moment of a step

-- where nothing is due at or before a moment, each due moment lies behind it
dues_later : (s : State) (t : ℕ) → is_due s t ≡ false → AllByRecursion (λ d. t < d.moment) (due_actions s)
dues_later s t e = least_from (suc t) (due_actions s) (λ d is. leb-false d.moment t (ap (λ o. (option_map_or (λ (d : DueAction). nat_le d.moment t) o false)) (sym is) ∙ e))

entry_due : (t n : ℕ) (o : Option ℕ) (rest : List DueAction) → AllByRecursion (λ d. t ≤ d.moment) (cons_option (action_at n o) rest) → IsUndue t o × AllByRecursion (λ d. t ≤ d.moment) rest
entry_due t n None rest h = (tt, h)
entry_due t n (Some m) rest h = (h.0, h.1)

pub entries_due : (t : ℕ) (es : List Entry) → AllByRecursion (λ d. t ≤ d.moment) (filter_map (λ e. action_at (owner_number e.owner) (next_due e.process)) es)
    → AllByRecursion (λ e. IsUndue t (next_due e.process)) es
entries_due t [] h = tt
entries_due t (e ∷ es) h =
    let one = entry_due t (owner_number e.owner) (next_due e.process) (filter_map (λ e. action_at (owner_number e.owner) (next_due e.process)) es) h in
    (one.0, entries_due t es one.1)

pub times_at : (s : State) (t : ℕ) → s.clock ≤ t → AllByRecursion (λ d. t ≤ d.moment) (due_actions s) → Times s → Times (at_moment t s)
times_at s t later all times =
    let acts : List DueAction = filter_map (λ e. action_at (owner_number e.owner) (next_due e.process)) s.processes in (
      all_both (λ (e : Entry). IsUndue t (next_due e.process)) (FitsAt s.clock) (FitsAt t) (λ e due fits. (timely_later s.clock t e.process later due fits.0, fits.1)) s.processes
          (entries_due t s.processes (all_front (λ (d : DueAction). t ≤ d.moment) acts s.timers all)) times.0,
      all_back (λ (d : DueAction). t ≤ d.moment) acts s.timers all,
    )

-- what a lawful call finds at its moment
pub record Opens (s : State) (moment : ℕ) (c : Call) : Type 0 where
  pub dues : AllByRecursion (λ d. moment ≤ d.moment) (due_actions s)
  pub times : Times (at_moment moment s)
  pub clock : moment ≤ greatest_moment
  pub ready : IsTrue (is_ready s c)

pub timely_opens : (s : State) (moment : ℕ) (c : Call) → IsTimely s moment → IsTrue (is_ready s c) → Times s → Opens s moment c
timely_opens s moment c timely ready times =
    let dues = all_weaken (λ (d : DueAction). moment < d.moment) (λ d. moment ≤ d.moment) (λ d low. omega (arith, low)) (due_actions s) (dues_later s moment timely.2) in
    record {
      dues = dues;
      times = times_at s moment timely.0 dues times;
      clock = omega (arith, timely.1, min-le_right (s.clock + 604800000) greatest_moment);
      ready = ready;
    }

pub drop_opens : (s : State) (moment ticket : ℕ) → moment ≡ s.clock → KeptForm s → Opens s moment (Call.Drop ticket)
drop_opens s moment ticket e h = record {
  dues = subst (λ m. AllByRecursion (λ d. m ≤ d.moment) (due_actions s)) (sym e) (consistent s h).limits.dues;
  times = subst (λ m. Times (at_moment m s)) (sym e) h.times;
  clock = omega (arith, e, h.clock);
  ready = refl;
}

-- ---- tickets and steps

removed_by : (b : Bool) (x t : Ticket) (rest : Option Ticket) (xs ys : List Ticket) → (if b then Some x else rest) ≡ Some t → (rest ≡ Some t → length xs ≡ 1 + length ys) → length (x ∷ xs) ≡ 1 + length (if b then xs else x ∷ ys)
removed_by true x t rest xs ys e more = omega arith
removed_by false x t rest xs ys e more =
    let less : length xs ≡ 1 + length ys = more e in
    let one : length (x ∷ xs) ≡ 1 + length xs = omega arith in
    let two : length (x ∷ ys) ≡ 1 + length ys = omega arith in
    omega (arith, less, one, two)

removed_one : (p : Ticket → Bool) (t : Ticket) (ts : List Ticket) → find p ts ≡ Some t → length ts ≡ 1 + length (remove_first p ts)
removed_one p t [] e = absurd (cc)
removed_one p t (x ∷ ts) e = removed_by (p x) x t (find p ts) ts (remove_first p ts) e (λ more. removed_one p t ts more)

there_is : (connection : ℕ) (o : Option Ticket) → (option_map_or (λ (t : Ticket). t.connection == connection) o false) ≡ true → (t : Ticket) × (o ≡ Some t)
there_is connection None e = absurd (cc)
there_is connection (Some t) e = (t, refl)

pub one_less : (s : State) (connection n : ℕ) → IsTrue (has_ticket s connection n) → length s.tickets ≡ 1 + length (remove_first (λ t. t.number == n) s.tickets)
one_less s connection n e = let there = there_is connection (ticket_numbered n s) e in removed_one (λ t. t.number == n) there.0 s.tickets there.1

-- the tickets and the steps, behind a call
abbrev pub StepsFit : State → List Ticket → Type 0
StepsFit s ts = length ts + (s.step_count + 1) ≤ 2 ^ 57

pub few_steps : (s : State) (ts : List Ticket) → IsTrue (has_steps s) → length ts ≤ length s.tickets + 1 → length s.tickets ≤ s.step_count → StepsFit s ts
few_steps s ts e more least = let low : s.step_count < 2 ^ 56 = ltb-true s.step_count (2 ^ 56) e in omega (arith, low, more, least)
