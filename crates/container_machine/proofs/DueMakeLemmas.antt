-- A due step that is made ready is what the least due action does, and may be committed.
use Rattle.std.proofs.Common.{◌≡◌, IsTrue, ℕ, ◌+◌, ◌==◌, true, ◌<◌, ◌≤◌, List, [], ◌++◌, Option, Some, None, refl, ap, sym, ◌∙◌, subst, arith, find}
use Rattle.engine_text.specs.Id.{id_of}
use Rattle.engine_text.specs.Scripts.{Program}
use Rattle.engine_text.specs.declared.container.Container.{Container}
use Rattle.engine_text.specs.declared.event.Event.{Event}
use Rattle.engine_text.specs.declared.owner.Owner.{Owner}
use Rattle.engine_text.specs.declared.step.DueAction.{DueAction}
use Rattle.engine_text.specs.declared.step.Step.{Step}
use Rattle.proc_kernel.specs.Catalogue.{program_of}
use Rattle.proc_kernel.specs.Foretelling.{code_at}
use Rattle.proc_kernel.specs.Processes.{run_due, signal}
use Rattle.proc_kernel.specs.Tables.{Entry, process_of, due_at as op_due_at}
use Rattle.container_table.specs.Ranks.{rank_numbered}
use Rattle.machine_model.specs.State.{State, container_numbered}
use Rattle.machine_model.specs.Chain.{Effect, with_found}
use Rattle.machine_model.specs.Consistency.{HasOwner, IsConsistent, is_there}
use Rattle.machine_model.specs.Due.{by_rank, least_due, stop_deadline}
use Rattle.machine_model.specs.Effects.Meet.{step_process}
use Rattle.machine_model.specs.History.{IsLawful, latest}
use Rattle.machine_model.specs.Step.{at_moment}
use Rattle.machine_model.proofs.Laws.{IsMomentOf, kept_due, timely_due}
use Rattle.machine_model.proofs.ObeyLemmas.{found_all}
use Rattle.machine_events.specs.Deadlines.{CanRestart, HasId}
use Rattle.machine_events.specs.Foretold.{told_launch}
use Rattle.machine_events.specs.Memory.{Memory, standing}
use Rattle.machine_events.specs.Ops.{CanEnd, HasEndRoomOf, HasRecordRoom, owner_at}
use Rattle.machine_events.specs.ToldCalls.{told_op}
use Rattle.machine_events.specs.ToldKill.{told_kill}
use Rattle.machine_events.specs.declared.end_memory.EndMemory.{EndMemory}
use Rattle.machine_events.proofs.CallToldLemmas.{OwnerStands, op_told, removal_deadline_told, restart_timer_told}
use Rattle.machine_events.proofs.DiedToldLemmas.{main_died, stop_deadline_died}
use Rattle.machine_events.proofs.KillToldLemmas.{stop_deadline_told}
use Rattle.machine_events.proofs.SettleLemmas.{has_number}
use Rattle.container_machine.specs.DuePlans.{due_plan_effect, BringsDue, FitsDue, HasDueRoom, ServesOwner}
use Rattle.container_machine.specs.Dues.{due_at, IsForDue, MakesDue}
use Rattle.call_plans.specs.Parts.{MachineParts}
use Rattle.call_plans.specs.RunEnds.{IsEndMemory, IsOwnerMemory}
use Rattle.container_machine.specs.declared.due.DuePlan.{DuePlan}
use Rattle.container_machine.specs.declared.due.PreparedDue.{PreparedDue}
use Rattle.container_machine.proofs.DueFoundLemmas.{OpStands, due_stands}
use Rattle.call_plans.proofs.MakeLemmas.{stand_once}
use Rattle.call_plans.proofs.ReadyLemmas.{few, settles, timely}
use Rattle.call_plans.proofs.RunEndLemmas.{kill_next, main_next, own_script, script_for, serves_end}
use Rattle.std.specs.Prelude.{nat_le, false}
use Rattle.std.specs.Option.{option_map_or}

-- an action's effect, by its rank
of_rank : (d : DueAction) (r : ℕ) (s : State) → d.rank ≡ r → due_at d s ≡ by_rank (rank_numbered r) d.number (at_moment d.moment s)
of_rank d r s e = ap (λ k. by_rank (rank_numbered k) d.number (at_moment d.moment s)) e

one_then : (empty out told : List Event) → empty ≡ [] → out ≡ empty ++ told → out ≡ told
one_then empty out told e h = h ∙ ap (λ l. l ++ told) e

-- ---- an op

there_is : (o : Option Container) → is_there o ≡ true → (c : Container) × (o ≡ Some c)
there_is None e = absurd (cc)
there_is (Some c) e = (c, refl)

stands_with : (o : Owner) (s : State) → HasOwner s o → (script : Option Program) × OwnerStands o script s
stands_with (Owner.Container n) s there = let c = there_is (container_numbered n s) there in (own_script c.0, (c.0, c.1, refl))
stands_with (Owner.Exec n) s there = (None, tt)

-- at each moment
stands_at : (o : Owner) (script : Option Program) (t : ℕ) (s : State) → OwnerStands o script s → OwnerStands o script (at_moment t s)
stands_at (Owner.Container n) script t s h = h
stands_at (Owner.Exec n) script t s h = tt

-- what is told of the op with the script that is brought is what is told with the other
told_with : (o : Owner) (code : Option ℕ) (s z : State) (brought : EndMemory) (there : HasOwner s o) → z.containers ≡ s.containers → IsOwnerMemory code o s brought → told_op o code brought.script z ≡ told_op o code (stands_with o s there).0 z
unfolding stands_with there_is
told_with (Owner.Container n) code s z brought there same of =
    let c = there_is (container_numbered n s) there in
    main_next (container_numbered n z) code c.0 brought.script z (ap (λ l. find (λ (d : Container). d.number == n) l) same ∙ c.1) (script_for code n c.0 s brought (of c.0 c.1))
told_with (Owner.Exec n) code s z brought there same of = refl

-- what is brought is what the end of the owner's process wants
serves_op : (o : Owner) (code : Option ℕ) (t : ℕ) (s : State) (brought : EndMemory) → HasOwner s o → code ≡ code_at (run_due t) (process_of o s.processes) → IsOwnerMemory code o s brought → ServesOwner o brought (at_moment t s)
serves_op (Owner.Container n) code t s brought there is of =
    let c = there_is (container_numbered n s) there in
    let z : State = at_moment t s in
    serves_end code n c.0.life.goal c.0 c.0 s z brought (step_process run_due (Owner.Container n) z).died (main_died run_due n z code is) (of c.0 c.1) c.1 refl refl refl
serves_op (Owner.Exec n) code t s brought there is of = tt

pub makes_op : (p : PreparedDue) (d : DueAction) (s : State) (o : Owner) (brought : EndMemory) (code : Option ℕ) (empty : List Event) → IsConsistent s → least_due s ≡ Some d → d.rank ≡ 0
    → o ≡ owner_at d.number s → IsOwnerMemory code o s brought → ((t : ℕ) → code ≡ code_at (run_due t) (process_of o s.processes))
    → p.moment ≡ d.moment → p.plan ≡ DuePlan.Op o brought → empty ≡ [] → p.events.items ≡ empty ++ told_op o code brought.script (at_moment d.moment s) → MakesDue p d s
makes_op p d s o brought code empty k least rank is of code_is moment plan none events =
    let op : OpStands s d = (due_stands s d k least).0 rank in
    let z : State = at_moment d.moment s in
    let same : op.entry.owner ≡ o = op.is ∙ sym is in
    let there : HasOwner s o = subst (HasOwner s) (sym is) op.owner in
    let effect : step_process run_due o z ≡ due_at d s =
    ap (λ w. step_process run_due w z) (sym same) ∙ (sym (ap (λ q. with_found q (λ (e : Entry). step_process run_due e.owner) z) op.found) ∙ sym (of_rank d 0 s rank)) in
    let stands : (script : Option Program) × OwnerStands o script s = stands_with o s there in
    let told : (due_at d s).events ≡ told_op o code stands.0 z =
    ap (λ (e : Effect). e.events) (of_rank d 0 s rank)
    ∙ (op_told d.number op.entry z stands.0 code op.found (subst (λ w. OwnerStands w stands.0 z) (sym same) (stands_at o stands.0 d.moment s stands.1)) (code_is d.moment ∙ ap (λ w. code_at (run_due d.moment) (process_of w s.processes)) (sym same))
    ∙ ap (λ w. told_op w code stands.0 z) same) in
    record {
      moment = moment;
      effect = ap (λ q. due_plan_effect q z) plan ∙ effect;
      events = one_then empty p.events.items (told_op o code brought.script z) none events ∙ (told_with o code s z brought there refl of ∙ sym told);
      brings = subst (λ q. BringsDue q d.moment s) (sym plan) (ap (λ w. op_due_at (process_of w s.processes)) is ∙ op.due, serves_op o code d.moment s brought there (code_is d.moment) of);
    }

-- ---- deadlines and timers

-- SIGKILL is met
pub makes_stop_deadline : (p : PreparedDue) (d : DueAction) (s : State) (c : Container) (brought : EndMemory) (code : Option ℕ) (empty : List Event) → IsConsistent s → d.rank ≡ 1
    → container_numbered d.number s ≡ Some c → IsEndMemory code c.life.goal d.number c s brought → ((t : ℕ) → code ≡ code_at (signal 9 true t) (process_of (Owner.Container d.number) s.processes))
    → p.moment ≡ d.moment → p.plan ≡ DuePlan.StopDeadline d.number brought → empty ≡ [] → p.events.items ≡ empty ++ told_kill 9 code c brought.script (at_moment d.moment s) → MakesDue p d s
makes_stop_deadline p d s c brought code empty k rank found of is moment plan none events =
    let z : State = at_moment d.moment s in
    let once = stand_once s k in
    record {
      moment = moment;
      effect = ap (λ q. due_plan_effect q z) plan ∙ sym (of_rank d 1 s rank);
      events = one_then empty p.events.items (told_kill 9 code c brought.script z) none events
          ∙ (kill_next 9 code c brought.script z (script_for code d.number c s brought of)
          ∙ (sym (stop_deadline_told d.number z c (own_script c) code found refl (record { execs = once.execs; processes = once.processes }) (is d.moment))
          ∙ sym (ap (λ (e : Effect). e.events) (of_rank d 1 s rank))));
      brings = subst (λ q. BringsDue q d.moment s) (sym plan)
          (serves_end code d.number c.life.goal c c s z brought (stop_deadline d.number z).died (stop_deadline_died d.number z c code found (is d.moment)) of found refl refl refl);
    }

-- nothing is told of a removal deadline
pub makes_removal_deadline : (p : PreparedDue) (d : DueAction) (s : State) → d.rank ≡ 2 → p.moment ≡ d.moment → p.plan ≡ DuePlan.RemovalDeadline d.number → p.events.items ≡ [] → MakesDue p d s
makes_removal_deadline p d s rank moment plan events =
    let z : State = at_moment d.moment s in
    record {
      moment = moment;
      effect = ap (λ q. due_plan_effect q z) plan ∙ sym (of_rank d 2 s rank);
      events = events ∙ (sym (removal_deadline_told d.number z) ∙ sym (ap (λ (e : Effect). e.events) (of_rank d 2 s rank)));
      brings = subst (λ q. BringsDue q d.moment s) (sym plan) tt;
    }

same_program : (c d : Container) → Some c ≡ Some d → program_of c.life.words (c.life.starts + 1) ≡ program_of d.life.words (d.life.starts + 1)
same_program c d e = let is : c ≡ d = cc in ap (λ (x : Container). program_of x.life.words (x.life.starts + 1)) is

-- a launch
pub makes_restart_timer : (p : PreparedDue) (d : DueAction) (s : State) (c : Container) (script : Option Program) (empty : List Event) → d.rank ≡ 3
    → container_numbered d.number s ≡ Some c → script ≡ program_of c.life.words (c.life.starts + 1)
    → p.moment ≡ d.moment → p.plan ≡ DuePlan.RestartTimer d.number script → empty ≡ [] → p.events.items ≡ empty ++ told_launch script c d.moment → MakesDue p d s
makes_restart_timer p d s c script empty rank found named moment plan none events =
    let z : State = at_moment d.moment s in
    record {
      moment = moment;
      effect = ap (λ q. due_plan_effect q z) plan ∙ sym (of_rank d 3 s rank);
      events = one_then empty p.events.items (told_launch script c d.moment) none events
          ∙ (ap (λ o. told_launch o c d.moment) named ∙ (sym (restart_timer_told d.number z c found) ∙ sym (ap (λ (e : Effect). e.events) (of_rank d 3 s rank))));
      brings = subst (λ q. BringsDue q d.moment s) (sym plan) (λ e at. named ∙ same_program c e (sym found ∙ at));
    }

-- ---- what is made ready may be committed

id_of_number : (s : State) (n : ℕ) → IsConsistent s → HasId n s
id_of_number s n k c found =
    found_all (λ (x : Container). x.id ≡ id_of s.seed x.number) (λ (x : Container). x.number == n) c s.containers found k.names.container_ids ∙ ap (id_of s.seed) (has_number n s c found)

restarts_of_number : (s : State) (n : ℕ) → IsConsistent s → CanRestart n s
restarts_of_number s n k c found =
    let low : c.life.restarts ≤ s.step_count = found_all (λ (x : Container). x.life.restarts ≤ s.step_count) (λ (x : Container). x.number == n) c s.containers found k.counts.restarts in
    omega (arith, low, k.counts.steps)

end_fits : (o : Owner) (brought : EndMemory) (t : ℕ) (m : Memory) → ServesOwner o brought (at_moment t m.state) → IsConsistent m.state → IsMomentOf m.state t → HasEndRoomOf o m → 1 < m.spare → CanEnd (step_process run_due) o brought (standing t m)
end_fits (Owner.Container n) brought t m serves k at room spare =
    let most : 0 < m.spare = omega (arith, spare) in
    (λ ended. settles n brought t m (serves ended) k at.until (record { execs = room.execs; timers = room.timers; removed = room.removed; kept = room.kept; spare = most }), most)
end_fits (Owner.Exec n) brought t m serves k at room spare = tt

record_fits : (o : Owner) (t : ℕ) (m : Memory) → HasRecordRoom o m → HasRecordRoom o (standing t m)
record_fits (Owner.Container n) t m room = room
record_fits (Owner.Exec n) t m room = room

pub fits_due : (plan : DuePlan) (t : ℕ) (m : Memory) → BringsDue plan t m.state → IsConsistent m.state → IsMomentOf m.state t → HasDueRoom plan m → FitsDue plan (standing t m)
fits_due (DuePlan.Op owner brought) t m brings k at room = record {
  due = brings.0;
  clock = at.until;
  length = room.length;
  kept = record_fits owner t m room.kept;
  end = end_fits owner brought t m brings.1 k at room.end room.spare;
  spare = room.spare;
}
fits_due (DuePlan.StopDeadline n brought) t m brings k at room =
    record { timely = timely t m.state at; room = room.execs; end = λ ended. settles n brought t m (brings ended) k at.until room; spare = room.spare }
fits_due (DuePlan.RemovalDeadline n) t m brings k at room = id_of_number m.state n k
fits_due (DuePlan.RestartTimer n script) t m brings k at room = (
  record { few = few m.state k; pid = omega (arith, k.numbers.next_pid, k.counts.steps); named = brings },
  restarts_of_number m.state n k,
  room.spare,
)

-- something is due before a lawful due step
pub is_something : (s : State) → IsLawful s Step.Due → least_due s ≡ None → ⊥
is_something s lawful e = let none : IsTrue (option_map_or (λ (d : DueAction). nat_le d.moment (latest s)) None false) = subst (λ o. IsTrue (option_map_or (λ (d : DueAction). nat_le d.moment (latest s)) o false)) e lawful.1 in absurd (cc)

pub ready_due : (p : PreparedDue) (w : MachineParts) (d : DueAction) → IsConsistent w.memory.state → IsLawful w.memory.state Step.Due → least_due w.memory.state ≡ Some d
    → MakesDue p d w.memory.state → HasDueRoom p.plan w.memory → IsForDue p w
ready_due p w d k lawful least makes room = record {
  due = d;
  least = least;
  makes = makes;
  fits = fits_due p.plan d.moment w.memory makes.brings k (timely_due w.memory.state d k lawful least) room;
  kept = kept_due w.memory.state k lawful;
}
