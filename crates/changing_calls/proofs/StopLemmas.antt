-- A stop that is made ready is the stop's outcome.
use Rattle.std.proofs.Common.{◌≡◌, ℕ, ◌==◌, ◌<◌, ◌≤◌, ℤ, true, List, [], ◌++◌, Option, Some, None, refl, ap, sym, ◌∙◌, subst, arith}
use mir.Syntax.{w32}
use mir.Val.{SFits, of_z, to_z}
use Rattle.std.specs.Prelude.{IfSome, unwrap_or}
use Rattle.std.proofs.lemmas.Int.{to_z-of_z}
use Rattle.engine_text.specs.declared.container.Container.{Container}
use Rattle.engine_text.specs.declared.container.Goal.{Goal}
use Rattle.engine_text.specs.declared.container.Life.{Life}
use Rattle.engine_text.specs.declared.event.Event.{Event}
use Rattle.engine_text.specs.declared.owner.Owner.{Owner}
use Rattle.engine_text.specs.declared.reply.Reply.TheVariants.{Begun}
use Rattle.engine_text.specs.declared.signal.Signal.{Signal}
use Rattle.engine_text.specs.declared.ticket.Asked.{Asked}
use Rattle.proc_kernel.specs.Foretelling.{code_at}
use Rattle.proc_kernel.specs.Processes.{signal}
use Rattle.proc_kernel.specs.Tables.{process_of}
use Rattle.machine_model.specs.Chain.{Effect}
use Rattle.machine_model.specs.Consistency.{IsConsistent}
use Rattle.machine_model.specs.Effects.Halt.{halt}
use Rattle.machine_model.specs.Ranges.{IsLifeInRange}
use Rattle.machine_model.specs.State.{State, change_life, container_numbered}
use Rattle.machine_model.specs.Step.{at_moment}
use Rattle.machine_model.specs.Tickets.{begins, begun}
use Rattle.machine_events.specs.Fit.{died_of, next_script}
use Rattle.machine_events.specs.Halts.{CanHalt, asked_of, goal_of, halted, life_change_of, noted_by}
use Rattle.machine_events.specs.ChangedLives.{renewed}
use Rattle.machine_events.specs.Memory.{Memory}
use Rattle.machine_tables.specs.Settled.{deaths}
use Rattle.machine_events.specs.ToldKill.{aimed, told_kill}
use Rattle.machine_tables.specs.declared.death.Death.{Death}
use Rattle.machine_events.specs.declared.halting.Halting.{Halting}
use Rattle.machine_events.specs.declared.end_memory.EndMemory.{EndMemory}
use Rattle.machine_events.proofs.DiedToldLemmas.{halt_died}
use Rattle.machine_events.proofs.HaltLemmas.{halt_begun, timely_begun}
use Rattle.machine_events.proofs.ToldLemmas.{found_renewed}
use Rattle.machine_events.proofs.KillToldLemmas.{Aims, halt_told, kill_begun, once_begun, restart_aims, stopping_aims}
use Rattle.call_plans.specs.Calls.Stop.{halt_effect}
use Rattle.call_plans.specs.Making.{Makes}
use Rattle.call_plans.specs.Needs.{Brings, CanEndFor}
use Rattle.call_plans.specs.Plans.{plan_effect, need_of}
use Rattle.call_plans.specs.declared.plan.Plan.{Plan}
use Rattle.machine_model.proofs.ObeyLemmas.{found_all}
use Rattle.call_plans.specs.declared.prepared.Prepared.{Prepared}
use Rattle.call_plans.specs.RunEnds.{IsEndMemory}
use Rattle.call_plans.proofs.MakeLemmas.{once_at}
use Rattle.call_plans.proofs.RunEndLemmas.{kill_next, own_script, script_aimed, serves_end}

-- ---- the signal is one of 1 to 31

own_signal : (n : ℕ) (s : State) (c : Container) → IsConsistent s → container_numbered n s ≡ Some c → c.life.stop_signal.number < 32
own_signal n s c k found =
    let within : IsLifeInRange c.life = found_all (λ (d : Container). IsLifeInRange d.life) (λ (d : Container). d.number == n) c s.containers found k.ranges.lives in
    let most : c.life.stop_signal.number ≤ 31 = within.2 in
    omega (arith, most)

-- the signal that is used
pub low_used : (o : Option Signal) (n : ℕ) (s : State) (c : Container) (m : ℕ) → IsConsistent s → container_numbered n s ≡ Some c → IfSome o (λ (x : Signal). x.number < 32) → m ≡ (unwrap_or o c.life.stop_signal).number → m < 32
low_used None n s c m k found given e = subst (λ j. j < 32) (sym e) (own_signal n s c k found)
low_used (Some x) n s c m k found given e = subst (λ j. j < 32) (sym e) given

-- ---- of a container that lives

aims : (halting : Halting) (l : Life) → Aims (life_change_of halting) (goal_of halting) l
aims Halting.Stop l = stopping_aims l
aims Halting.Restart l = restart_aims l

changed_script : (halting : Halting) (c : Container) → next_script (goal_of halting) c ≡ next_script (life_change_of halting c.life).goal (renewed (life_change_of halting) c)
changed_script Halting.Stop c = refl
changed_script Halting.Restart c = refl

pub makes_halt : (p : Prepared) (t : ℕ) (s : State) (c : Container) (connection : ℕ) (halting : Halting) (wait : Option ℤ) (asked : Option Signal) (sent : Signal) (seconds : ℤ) (goal : Goal) (code : Option ℕ) (brought : EndMemory) (ticket : ℕ) (empty : List Event)
    → IsConsistent s → container_numbered c.number s ≡ Some c → sent.number < 32 → sent.number ≡ (unwrap_or asked c.life.stop_signal).number → seconds ≡ (unwrap_or wait c.life.stop_after) → goal ≡ goal_of halting
    → ((u : ℕ) → code ≡ code_at (signal sent.number true u) (process_of (Owner.Container c.number) s.processes))
    → p.moment ≡ t → p.plan ≡ Plan.Halt connection c.number halting sent seconds brought → IsEndMemory code goal c.number c s brought → p.reply ≡ Begun ticket → ticket ≡ s.next_ticket
    → empty ≡ [] → p.events.items ≡ empty ++ told_kill sent.number code (aimed goal c) brought.script (at_moment t s)
    → Makes p t s (begins connection c (asked_of halting) (halt (life_change_of halting) wait asked c))
makes_halt p t s c connection halting wait asked sent seconds goal code brought ticket empty k found low used after aim is moment plan of reply next none events =
    let z : State = at_moment t s in
    let n : ℕ = c.number in
    let number : ℕ = (unwrap_or asked c.life.stop_signal).number in
    let life_change : Life → Life = life_change_of halting in
    let y : State = begun connection n (asked_of halting) z in
    let ends : code ≡ code_at (signal number true t) (process_of (Owner.Container n) s.processes) = is t ∙ ap (λ m. code_at (signal m true t) (process_of (Owner.Container n) s.processes)) used in
    let died : (halted halting seconds sent.number n y).died ≡ died_of n code =
    ap (λ m. (halted halting seconds m n y).died) used ∙ (ap (λ j. (halted halting j number n y).died) after ∙ halt_died life_change wait asked y c code found ends) in
    record {
      moment = moment;
      effect = ap (λ q. plan_effect q z) plan ∙ (ap (λ m. halt_effect connection n halting seconds m z) used ∙ ap (λ j. halt_effect connection n halting j number z) after);
      events = events ∙ (ap (λ l. l ++ told_kill sent.number code (aimed goal c) brought.script z) none
          ∙ (kill_next sent.number code (aimed goal c) brought.script z (script_aimed code goal n c s brought of)
          ∙ (ap (λ g. told_kill sent.number code (aimed g c) (own_script c) z) aim
          ∙ (ap (λ m. told_kill m code (aimed (goal_of halting) c) (own_script c) z) used
          ∙ (sym (kill_begun connection n (asked_of halting) number code (aimed (goal_of halting) c) (own_script c) z)
          ∙ sym (halt_told life_change (goal_of halting) wait asked y c (own_script c) code (aims halting c.life) found refl (once_begun connection n (asked_of halting) z (once_at t s k)) ends))))));
      reply = reply ∙ ap (λ m. Begun m) next;
      brings = subst (λ q. Brings (need_of q) t s) (sym plan) (
        serves_end code n goal c (renewed life_change c) s (change_life n life_change y) brought (halted halting seconds sent.number n y).died died of (found_renewed n life_change y c found)
            (ap (λ g. next_script g c) aim ∙ changed_script halting c) refl refl,
        low,
      );
    }

-- ---- what it does, in its parts; the seconds are passed on

halted_as : (connection n number : ℕ) (h : Halting) (z : ℤ) (asked : Asked) (s a : State) → SFits w32 z → asked ≡ asked_of h → a ≡ begun connection n asked s
    → halted h (to_z w32 (of_z w32 z)) number n a ≡ halted h z number n (begun connection n (asked_of h) s)
halted_as connection n number h z asked s a fits of begin =
    ap (λ k. halted h k number n a) (to_z-of_z w32 z fits) ∙ ap (halted h z number n) (begin ∙ ap (λ q. begun connection n q s) of)

pub halt_state : (connection n number : ℕ) (h : Halting) (z : ℤ) (asked : Asked) (s a b : State) → SFits w32 z → asked ≡ asked_of h → a ≡ begun connection n asked s
    → b ≡ (halted h (to_z w32 (of_z w32 z)) number n a).state → b ≡ (halt_effect connection n h z number s).state
halt_state connection n number h z asked s a b fits of begin e =
    e ∙ ap (λ (x : Effect). x.state) (halted_as connection n number h z asked s a fits of begin)

pub halt_ended : (connection n number : ℕ) (h : Halting) (z : ℤ) (asked : Asked) (s a : State) (code : Option ℕ) (death : Option Death) → SFits w32 z → asked ≡ asked_of h → a ≡ begun connection n asked s
    → deaths death ≡ died_of n code → died_of n code ≡ (halted h (to_z w32 (of_z w32 z)) number n a).died → deaths death ≡ (halt_effect connection n h z number s).died
halt_ended connection n number h z asked s a code death fits of begin is e =
    is ∙ (e ∙ ap (λ (x : Effect). x.died) (halted_as connection n number h z asked s a fits of begin))

-- the run may be ended behind the begin of its ticket
pub may_halt : (connection n number : ℕ) (h : Halting) (z : ℤ) (asked : Asked) (brought : EndMemory) (m a : Memory) → SFits w32 z → asked ≡ asked_of h → a.state ≡ begun connection n asked m.state → a.room ≡ m.room → a.spare ≡ m.spare
    → CanHalt h z number n brought (record m { state = begun connection n (asked_of h) m.state }) → CanHalt h (to_z w32 (of_z w32 z)) number n brought a
may_halt connection n number h z asked brought m a fits of begin room spare may =
    subst (λ k. CanHalt h k number n brought a) (sym (to_z-of_z w32 z fits))
    (halt_begun h z number n brought connection n (asked_of h) m a (begin ∙ ap (λ q. begun connection n q m.state) of) room spare may)

-- the run may be ended behind the begin of its ticket, with what its plan needs
pub can_halt : (connection n : ℕ) (h : Halting) (sent : ℕ) (z : ℤ) (brought : EndMemory) (m : Memory)
    → CanEndFor connection n (asked_of h) (noted_by h) (Some sent) (halted h z sent n) brought m
    → CanHalt h z sent n brought (record m { state = begun connection n (asked_of h) m.state })
can_halt connection n h sent z brought m may = record {
  timely = timely_begun connection n (asked_of h) m.state may.timely;
  execs = may.room;
  end = may.end;
  deadline = may.timers;
  spare = may.spare;
}
