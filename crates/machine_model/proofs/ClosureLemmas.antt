-- A relation between a state and an effect that each single change keeps is kept by every call and every due step.
use Rattle.std.proofs.Common.{◌≡◌, ℕ, ◌≤◌, Bool, List, [], ◌∷◌, Option, Some, None, map, refl, sym, subst}
use Rattle.std.specs.Prelude.{IsTrue, false}
use Rattle.std.specs.List.{AllByRecursion}
use Rattle.engine_text.specs.Scripts.{Program}
use Rattle.proc_kernel.specs.Processes.{Process}
use Rattle.machine_model.specs.State.{State, container_numbered, change_container, change_exec, change_process, drop_process}
use Rattle.machine_model.specs.Chain.{Effect, Died, still, after, and_then, each, with_found, with_container, tell, tell_of, renew}
use Rattle.machine_model.specs.EventTexts.{mount_event}
use Rattle.machine_model.specs.Effects.Launch.{spawn}
use Rattle.machine_model.specs.Effects.Destroy.{without}
use Rattle.machine_model.specs.Effects.Meet.{logged, put_output}
use Rattle.machine_model.specs.Tickets.{begun}
use Rattle.machine_model.specs.Due.{time_out}
use Rattle.machine_model.specs.Names.{holder}
use Rattle.machine_model.specs.Consistency.{is_there}
use Rattle.machine_model.specs.Calls.Create.{volume_named, placed, new_volume, with_new, new_container}
use Rattle.machine_model.specs.Calls.ExecCreate.{with_exec, new_exec}
use Rattle.machine_model.specs.Calls.Rename.{named}
use Rattle.machine_model.specs.Calls.Take.{end_ticket}
use Rattle.machine_model.specs.Calls.Volumes.{without_volume, is_in_use}
use Rattle.machine_model.proofs.Fold.RowLemmas.{found_number}
use Rattle.engine_text.specs.declared.call.CreateSpec.{CreateSpec}
use Rattle.engine_text.specs.declared.container.Container.{Container}
use Rattle.engine_text.specs.declared.container.Life.{Life}
use Rattle.engine_text.specs.declared.event.Action.{Action}
use Rattle.engine_text.specs.declared.exec.Exec.{Exec}
use Rattle.engine_text.specs.declared.owner.Owner.{Owner}
use Rattle.engine_text.specs.declared.pairs.Pair.{Pair}
use Rattle.engine_text.specs.declared.script.Stream.{Stream}
use Rattle.engine_text.specs.declared.step.DueAction.{DueAction}
use Rattle.engine_text.specs.declared.ticket.Asked.{Asked}
use Rattle.std.proofs.Common.{arith}
use Rattle.proc_kernel.specs.Processes.{feed}
use Rattle.proc_kernel.specs.Tables.{process_of, effect_of}
use Rattle.machine_model.specs.State.{exec_numbered, running_execs, change_life}
use Rattle.machine_model.specs.Call.{outcome_of}
use Rattle.machine_model.specs.Due.{restarted, due_effect}
use Rattle.machine_model.specs.EventTexts.{exec_die_event}
use Rattle.machine_model.specs.Effects.EndMain.{end_exec, end_execs, exec_ended}
use Rattle.machine_model.specs.Effects.Launch.{launched, container_room}
use Rattle.machine_model.specs.Effects.Meet.{stepped}
use Rattle.machine_model.specs.Calls.ExecStart.{started, exec_room}
use Rattle.machine_model.proofs.Costs.CostLemmas.{IsPriced, write_part}
use Rattle.machine_model.proofs.Costs.EffectLemmas.{costs_due}
use Rattle.machine_model.proofs.Costs.CallLemmas.{call_costs, ends_any}
use Rattle.engine_text.specs.declared.call.Call.{Call}
use Rattle.engine_text.specs.declared.event.Event.{Event}
use Rattle.engine_text.specs.declared.owner.Owner.TheVariants.{Container as OfContainer, Exec as OfExec}
use Rattle.engine_text.specs.declared.script.Effect.{Effect as ProcessEffect}
use Rattle.engine_text.specs.declared.script.Effect.TheVariants.{Lives, Wrote, Ended}

-- ---- single changes

-- what a change of a life leaves: all that a create sets, and the log
pub record IsMark (f : Life → Life) : Type 0 where
  pub mounts : (l : Life) → (f l).mounts ≡ l.mounts
  pub log : (l : Life) → (f l).log ≡ l.log
  pub starts : (l : Life) → l.starts ≤ (f l).starts

-- what a change of an exec leaves
pub record IsExecMark (f : Exec → Exec) : Type 0 where
  pub number : (x : Exec) → (f x).number ≡ x.number
  pub id : (x : Exec) → (f x).id ≡ x.id
  pub container : (x : Exec) → (f x).container ≡ x.container

-- each single change is one of these
pub record IsClosed (R : State → Effect → Type 0) : Type 0 where
  pub on_still : (s : State) → R s (still s)
  pub on_after : (s : State) (a b : Effect) → R s a → R a.state b → R s (after a b)
  pub on_told : (s : State) (v : Event) → v.moment ≡ s.clock → R s (tell (v ∷ []) s)
  pub on_mounts : (s : State) (a : Action) (c : Container) → R s (tell (map (λ m. mount_event a m.volume c s.clock) c.life.mounts) s)
  pub on_ended : (s : State) (d : Died) → R s (record { state = s; events = []; died = d ∷ [] })
  pub on_renew : (s : State) (n : ℕ) (f : Life → Life) → IsMark f → R s (renew n f s)
  pub on_log : (s : State) (n : ℕ) (stream : Stream) (payload : List ℕ) → R s (renew n (logged stream payload s.clock) s)
  pub on_output : (s : State) (n : ℕ) (stream : Stream) (payload : List ℕ) → R s (still (put_output n stream payload s))
  pub on_process : (s : State) (owner : Owner) (f : Process → Process) → R s (still (change_process owner f s))
  pub on_drop : (s : State) (owner : Owner) → R s (still (drop_process owner s))
  pub on_spawn : (s : State) (owner : Owner) (program : Program) (stdin : Bool) (room : ℕ) → R s (still (spawn owner program stdin room s))
  pub on_timers : (s : State) (timers : List DueAction) → R s (still (record s { timers = timers }))
  pub on_exec : (s : State) (n : ℕ) (f : Exec → Exec) → IsExecMark f → R s (still (change_exec n f s))
  pub on_destroyed : (s : State) (c : Container) → container_numbered c.number s ≡ Some c → R s (still (without c s))
  pub on_begun : (s : State) (connection : ℕ) (c : Container) (asked : Asked) → container_numbered c.number s ≡ Some c → R s (still (begun connection c.number asked s))
  pub on_time_out : (s : State) (c : Container) → R s (still (time_out c s))
  pub on_end_ticket : (s : State) (n : ℕ) → R s (still (end_ticket n s))
  pub on_made_volume : (s : State) (name : List ℕ) (labels : List Pair) → volume_named name s ≡ None → R s (still (record s { volumes = placed (new_volume name labels s.clock) s.volumes }))
  pub on_gone_volume : (s : State) (name : List ℕ) → is_in_use name s ≡ false → R s (still (without_volume name s))
  pub on_made : (s : State) (name : List ℕ) (spec : CreateSpec) → holder name s.containers ≡ None
      → AllByRecursion (λ m. IsTrue (is_there (volume_named m.volume s))) spec.mounts → R s (still (with_new (new_container name spec s) s))
  pub on_made_exec : (s : State) (c : Container) (words : List (List ℕ)) (stdin out err : Bool) → container_numbered c.number s ≡ Some c
      → R s (still (with_exec (new_exec c words stdin out err s) s))
  pub on_renamed : (s : State) (c : Container) (name : List ℕ) → container_numbered c.number s ≡ Some c → holder name s.containers ≡ None
      → R s (still (change_container c.number (named name) s))

-- ---- chains of them

pub record Runs (R : State → Effect → Type 0) (e : State → Effect) : Type 0 where
  pub holds : (s : State) → R s (e s)

pub runs_still : {R : State → Effect → Type 0} → IsClosed R → Runs R still
runs_still k = record { holds = k.on_still }

pub runs_then : {R : State → Effect → Type 0} {e f : State → Effect} → IsClosed R → Runs R e → Runs R f → Runs R (and_then e f)
runs_then {R} {e} {f} k first second = record { holds = λ s. k.on_after s (e s) (f (e s).state) (first.holds s) (second.holds (e s).state) }

pub runs_at : {R : State → Effect → Type 0} (e : State → State → Effect) → ((s : State) → R s (e s s)) → Runs R (λ s. e s s)
runs_at e k = record { holds = k }

pub runs_each : {R : State → Effect → Type 0} {A : Type 0} {f : A → State → Effect} → IsClosed R → ((x : A) → Runs R (f x)) → (xs : List A) → Runs R (each f xs)
runs_each k one [] = runs_still k
runs_each k one (x ∷ xs) = runs_then k (one x) (runs_each k one xs)

pub runs_found : {R : State → Effect → Type 0} {A : Type 0} {f : A → State → Effect} → IsClosed R → (o : Option A) → ((x : A) → Runs R (f x)) → Runs R (with_found o f)
runs_found k None one = runs_still k
runs_found k (Some x) one = one x

with_by : (R : State → Effect → Type 0) → IsClosed R → (f : Container → State → Effect) (n : ℕ) (s : State) (o : Option Container) → container_numbered n s ≡ o
    → ((c : Container) → container_numbered c.number s ≡ Some c → R s (f c s)) → R s (with_found o f s)
with_by R k f n s None e one = k.on_still s
with_by R k f n s (Some c) e one = one c (subst (λ m. container_numbered m s ≡ Some c) (sym (found_number n c s.containers e)) e)

pub runs_with : {R : State → Effect → Type 0} {f : Container → State → Effect} → IsClosed R → (n : ℕ)
    → ((s : State) (c : Container) → container_numbered c.number s ≡ Some c → R s (f c s)) → Runs R (with_container n f)
runs_with {R} {f} k n one = record { holds = λ s. with_by R k f n s (container_numbered n s) refl (one s) }

runs_tell : {R : State → Effect → Type 0} → IsClosed R → (event : Container → ℕ → Event) (n : ℕ) → ((c : Container) (t : ℕ) → (event c t).moment ≡ t) → Runs R (tell_of event n)
runs_tell k event n at = runs_with k n (λ s c found. k.on_told s (event c s.clock) (at c s.clock))

runs_end_exec : {R : State → Effect → Type 0} → IsClosed R → (code number : ℕ) → Runs R (end_exec code number)
runs_end_exec k code number =
    runs_at (λ s. with_found (exec_numbered number s) _)
    (λ s. (runs_found k (exec_numbered number s)
    (λ (x : Exec). runs_then k (runs_tell k (exec_die_event x.id code) x.container (λ c t. refl))
    (runs_then k (record { holds = λ s. k.on_drop s (OfExec number) })
    (record { holds = λ s. k.on_exec s number (exec_ended code) (record { number = λ x. refl; id = λ x. refl; container = λ x. refl }) })))).holds s)

runs_end_execs : {R : State → Effect → Type 0} → IsClosed R → (n : ℕ) → Runs R (end_execs n)
runs_end_execs k n =
    runs_at (λ s. each (λ (x : Exec). end_exec 137 x.number) (running_execs n s)) (λ s. (runs_each k (λ (x : Exec). runs_end_exec k 137 x.number) (running_execs n s)).holds s)

-- ---- a relation without a price is one with any

writes : {R : State → Effect → Type 0} → IsClosed R → (e : ProcessEffect) (owner : Owner) (s : State) → R s (write_part e owner s)
writes k Lives owner s = k.on_still s
writes k (Ended code) owner s = k.on_still s
writes k (Wrote stream payload) (OfContainer n) s = k.on_log s n stream payload
writes k (Wrote stream payload) (OfExec n) s = k.on_output s n stream payload

pub priced : {R : State → Effect → Type 0} → IsClosed R → IsPriced ⊥ (λ n. Unit {0}) (λ x s e. R s e)
priced {R} k = record {
  on_still = k.on_still;
  on_after = λ x y s a b first second. k.on_after s a b first second;
  on_more = λ x y s e low h. h;
  on_told = k.on_told;
  on_mounts = λ s a c found. k.on_mounts s a c;
  on_ended = k.on_ended;
  on_renew = λ s n f quiet. k.on_renew s n f (record { mounts = quiet.mounts; log = quiet.log; starts = λ l. let same : (f l).starts ≡ l.starts = quiet.starts l in omega (arith, same) });
  on_retry = λ s n. k.on_renew s n restarted (record { mounts = λ l. refl; log = λ l. refl; starts = λ l. omega arith });
  on_step = λ s owner step is.
      let t : State = stepped step owner s in
      let e : ProcessEffect = effect_of (step s.clock) (process_of owner s.processes) in
      k.on_after s (still t) (write_part e owner t) (k.on_process s owner (λ p. (step s.clock p).process)) (writes k e owner t);
  on_move = λ s owner f fits. k.on_process s owner f;
  on_feed = λ s owner bytes fits. k.on_process s owner (feed bytes s.clock);
  on_drop = λ s n. k.on_drop s (OfContainer n);
  on_end_exec = λ s code n p e. (runs_end_exec k code n).holds s;
  on_end_execs = λ s n. (runs_end_execs k n).holds s;
  on_launch = λ s c program found short.
      let t : State = change_life c.number (launched s) s in
      k.on_after s (renew c.number (launched s) s) (still (spawn (OfContainer c.number) program c.life.open_stdin (container_room c) t))
      (k.on_renew s c.number (launched s) (record { mounts = λ l. refl; log = λ l. refl; starts = λ l. omega arith })) (k.on_spawn t (OfContainer c.number) program c.life.open_stdin (container_room c));
  on_start_exec = λ s id x program stdin found fresh short.
      let t : State = change_exec x.number (started s) s in
      k.on_after s (still t) (still (spawn (OfExec x.number) program stdin exec_room t))
      (k.on_exec s x.number (started s) (record { number = λ x. refl; id = λ x. refl; container = λ x. refl })) (k.on_spawn t (OfExec x.number) program stdin exec_room);
  on_timers = λ s timers keeps. k.on_timers s timers;
  on_destroyed = k.on_destroyed;
  on_begun = k.on_begun;
  on_time_out = k.on_time_out;
  on_end_ticket = λ s n ends. k.on_end_ticket s n;
  on_volumes = k.on_made_volume;
  on_gone_volume = k.on_gone_volume;
  on_made = λ s name spec few free stand. k.on_made s name spec free stand;
  on_made_exec = k.on_made_exec;
  on_renamed = k.on_renamed;
}

-- what every call and every due step runs through
pub runs_call : {R : State → Effect → Type 0} → IsClosed R → (c : Call) (connection : ℕ) (s : State) → R s (outcome_of c connection s).effect
runs_call {R} k c connection s = call_costs (λ x s e. R s e) (priced k) c connection s (λ p. absurd p) (λ p. absurd p) (ends_any c)

pub runs_due : {R : State → Effect → Type 0} → IsClosed R → (d : DueAction) (s : State) → R s (due_effect d s)
runs_due k d s = (costs_due (priced k) d).holds s
