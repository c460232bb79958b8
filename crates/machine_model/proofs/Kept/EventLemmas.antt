-- An effect tells at most what it costs, where each end of an exec is paid by the process that is gone.
use Rattle.std.specs.Option.{is_some}
use Rattle.std.proofs.Common.{◌≡◌, ◌≢◌, ℕ, ◌+◌, ◌≤◌, ◌<◌, ◌==◌, Bool, true, false, not, List, [], ◌∷◌, ◌++◌, Option, Some, None, if◌then◌else◌, filter, map, length, refl, ap, sym, ◌∙◌, subst, arith}
use Rattle.std.proofs.lemmas.List.{length-append, length-map, map-append}
use Rattle.std.specs.List.{AllByRecursion}
use Rattle.engine_text.specs.Owner.{same_owner}
use Rattle.proc_kernel.specs.Processes.{Process, feed, spawn as spawned}
use Rattle.proc_kernel.specs.Tables.{Entry, process_of, effect_of}
use Rattle.proc_kernel.specs.Tables as tables
use Rattle.container_table.specs.Lists.{update_first}
use Rattle.machine_model.specs.State.{State, container_numbered, exec_numbered, is_live, running_execs, execs_of, change_process, change_exec, drop_process}
use Rattle.machine_model.specs.Chain.{Effect, each, after, still, with_found, tell, tell_of, and_then, change}
use Rattle.machine_model.specs.EventTexts.{exec_die_event, mount_event}
use Rattle.machine_model.specs.Consistency.{AreDistinct}
use Rattle.machine_model.specs.Due.{restarted}
use Rattle.machine_model.specs.Effects.Launch.{launched, container_room}
use Rattle.machine_model.specs.Effects.EndMain.{end_exec, end_execs, exec_ended}
use Rattle.machine_model.specs.Effects.Meet.{logged}
use Rattle.machine_model.specs.Calls.ExecStart.{started, exec_room}
use Rattle.machine_model.specs.Calls.ExecCreate.{new_exec}
use Rattle.machine_model.proofs.ListLemmas.{all_append, all_weaken, all_both, all_of_mapped, distinct_more, all_mapped}
use Rattle.machine_model.proofs.Fold.RowLemmas.{made}
use Rattle.machine_model.proofs.ChangeLemmas.{map_updated, all_updated, all_removed, distinct_filtered, all_filtered}
use Rattle.machine_model.proofs.ObeyLemmas.{found_all}
use Rattle.machine_model.proofs.Tables.ProcessLemmas.{changed_owners}
use Rattle.machine_model.proofs.Fits.ExecLoopLemmas.{told_state, touches_end, all_passing}
use Rattle.machine_model.proofs.Fits.MainPartLemmas.{more_owners}
use Rattle.machine_model.proofs.Costs.CostLemmas.{Cost, none, IsPriced, write_part}
use Rattle.machine_model.proofs.Costs.ExecEndLemmas.{Level, level_end, level_ends}
use Rattle.engine_text.specs.declared.container.Container.{Container}
use Rattle.engine_text.specs.declared.container.Life.{Life}
use Rattle.engine_text.specs.declared.event.Event.{Event}
use Rattle.engine_text.specs.declared.exec.Exec.{Exec}
use Rattle.engine_text.specs.declared.owner.Owner.{Owner}
use Rattle.engine_text.specs.declared.owner.Owner.TheVariants.{Container as OfContainer, Exec as OfExec}
use Rattle.engine_text.specs.declared.script.Effect.{Effect as ProcessEffect}
use Rattle.engine_text.specs.declared.script.Effect.TheVariants.{Lives, Wrote, Ended}
use Rattle.machine_model.proofs.Costs.CostLemmas.{IsMost}

-- ---- how many processes are of execs

abbrev pub execs_among : List Owner → ℕ
execs_among [] = 0
execs_among (OfContainer n ∷ os) = execs_among os
execs_among (OfExec n ∷ os) = 1 + execs_among os

abbrev pub paid_for : List Entry → ℕ
paid_for es = execs_among (map (λ e. e.owner) es)

map_if : (b : Bool) (e : Entry) (xs ys : List Entry) → map (λ e. e.owner) (if b then xs else e ∷ ys) ≡ (if b then map (λ e. e.owner) xs else e.owner ∷ map (λ e. e.owner) ys)
map_if true e xs ys = refl
map_if false e xs ys = refl

main_gone : (b : Bool) (o : Owner) (n : ℕ) (xs ys : List Owner) → same_owner o (OfContainer n) ≡ b → execs_among ys ≡ execs_among xs → execs_among (if b then xs else o ∷ ys) ≡ execs_among (o ∷ xs)
main_gone true (OfContainer m) n xs ys e h = refl
main_gone true (OfExec m) n xs ys e h = absurd (cc)
main_gone false (OfContainer m) n xs ys e h = h
main_gone false (OfExec m) n xs ys e h = ap (λ k. 1 + k) h

pub without_main : (n : ℕ) (es : List Entry) → paid_for (tables.without (OfContainer n) es) ≡ paid_for es
without_main n [] = refl
without_main n (e ∷ es) =
    ap execs_among (map_if (same_owner e.owner (OfContainer n)) e es (tables.without (OfContainer n) es))
    ∙ main_gone (same_owner e.owner (OfContainer n)) e.owner n (map (λ e. e.owner) es) (map (λ e. e.owner) (tables.without (OfContainer n) es)) refl (without_main n es)

exec_gone : (b : Bool) (o : Owner) (n : ℕ) (xs ys : List Owner) → same_owner o (OfExec n) ≡ b → (b ≡ false → execs_among xs ≡ 1 + execs_among ys) → execs_among (o ∷ xs) ≡ 1 + execs_among (if b then xs else o ∷ ys)
exec_gone true (OfExec m) n xs ys e h = refl
exec_gone true (OfContainer m) n xs ys e h = absurd (cc)
exec_gone false (OfContainer m) n xs ys e h = h refl
exec_gone false (OfExec m) n xs ys e h = ap (λ k. 1 + k) (h refl)

rest_some : (b : Bool) (q p : Process) (rest : Option Process) → (if b then Some q else rest) ≡ Some p → b ≡ false → rest ≡ Some p
rest_some true q p rest e f = absurd (cc)
rest_some false q p rest e f = e

pub without_exec : (n : ℕ) (p : Process) (es : List Entry) → process_of (OfExec n) es ≡ Some p → paid_for es ≡ 1 + paid_for (tables.without (OfExec n) es)
without_exec n p [] h = absurd (cc)
without_exec n p (e ∷ es) h =
    exec_gone (same_owner e.owner (OfExec n)) e.owner n (map (λ e. e.owner) es) (map (λ e. e.owner) (tables.without (OfExec n) es)) refl
    (λ off. without_exec n p es (rest_some (same_owner e.owner (OfExec n)) e.process p (process_of (OfExec n) es) h off))
    ∙ ap (λ l. 1 + execs_among l) (sym (map_if (same_owner e.owner (OfExec n)) e es (tables.without (OfExec n) es)))

one_more : (os : List Owner) (o : Owner) → execs_among (os ++ o ∷ []) ≡ execs_among os + execs_among (o ∷ [])
one_more [] o = omega arith
one_more (OfContainer n ∷ os) o = one_more os o
one_more (OfExec n ∷ os) o = let more : execs_among (os ++ o ∷ []) ≡ execs_among os + execs_among (o ∷ []) = one_more os o in omega (arith, more)

pub paid_more : (es : List Entry) (o : Owner) (p : Process) → paid_for (es ++ tables.begun o p ∷ []) ≡ paid_for es + execs_among (o ∷ [])
paid_more es o p = ap execs_among (more_owners es o p) ∙ one_more (map (λ e. e.owner) es) o

paid_changed : (o : Owner) (f : Process → Process) (es : List Entry) → paid_for (tables.change o f es) ≡ paid_for es
paid_changed o f es = ap execs_among (changed_owners o f es)

-- ---- the relation

-- at most 16 mounts each; the execs' numbers differ and lie below the next
abbrev pub FewOf : List Container → List ℕ → ℕ → Type 0
FewOf cs ns next = AllByRecursion (λ c. length c.life.mounts ≤ 16) cs × AreDistinct ns × AllByRecursion (λ k. k < next) ns

abbrev pub Few : State → Type 0
Few s = FewOf s.containers (map (λ x. x.number) s.execs) s.next_number

abbrev pub Paid : Cost → State → Effect → Type 0
Paid x s e = Few s → Few e.state × (length e.events + paid_for e.state.processes ≤ paid_for s.processes + x.told)

-- ---- the ends of execs

told_few_at : (o : Option Container) (event : Container → ℕ → Event) (s : State) → length (with_found o (λ c s. tell (event c s.clock ∷ []) s) s).events ≤ 1
told_few_at None event s = omega arith
told_few_at (Some c) event s = omega arith

end_at : (code k : ℕ) (s : State) (p : Process) (o : Option Exec) → process_of (OfExec k) s.processes ≡ Some p
    → (let e : Effect = with_found o (λ x. and_then (tell_of (exec_die_event x.id code) x.container)
    (and_then (change (drop_process (OfExec k))) (change (change_exec k (exec_ended code))))) s in
    length e.events + paid_for e.state.processes ≤ paid_for s.processes)
end_at code k s p None e = omega arith
end_at code k s p (Some x) e =
    let told : Effect = tell_of (exec_die_event x.id code) x.container s in
    let few : length told.events ≤ 1 = told_few_at (container_numbered x.container s) (exec_die_event x.id code) s in
    let all : length (told.events ++ []) ≡ length told.events + 0 = length-append told.events [] in
    let less : paid_for s.processes ≡ 1 + paid_for (tables.without (OfExec k) s.processes) = without_exec k p s.processes e in
    subst (λ (z : State). length (told.events ++ []) + paid_for (tables.without (OfExec k) z.processes) ≤ paid_for s.processes) (sym (told_state (exec_die_event x.id code) x.container s))
    (omega (arith, few, all, less))

end_pays : (code k : ℕ) (s : State) (p : Process) → process_of (OfExec k) s.processes ≡ Some p → length (end_exec code k s).events + paid_for (end_exec code k s).state.processes ≤ paid_for s.processes
end_pays code k s p e = end_at code k s p (exec_numbered k s) e

live_some : (o : Option Process) → is_some o ≡ true → (p : Process) × (o ≡ Some p)
live_some None e = absurd (cc)
live_some (Some p) e = (p, refl)

ends_pay : (xs : List Exec) (s : State) → AreDistinct (map (λ x. x.number) xs) → AllByRecursion (λ x. is_live (OfExec x.number) s ≡ true) xs
    → (let e : Effect = each (λ (x : Exec). end_exec 137 x.number) xs s in length e.events + paid_for e.state.processes ≤ paid_for s.processes)
ends_pay [] s h live = omega arith
ends_pay (x ∷ xs) s h live =
    let a : Effect = end_exec 137 x.number s in
    let b : Effect = each (λ (x : Exec). end_exec 137 x.number) xs a.state in
    let there = live_some (process_of (OfExec x.number) s.processes) live.0 in
    let first : length a.events + paid_for a.state.processes ≤ paid_for s.processes = end_pays 137 x.number s there.0 there.1 in
    let still_live = all_both (λ (y : Exec). x.number ≢ y.number) (λ y. is_live (OfExec y.number) s ≡ true) (λ y. is_live (OfExec y.number) a.state ≡ true)
    (λ y other k. ap is_some ((touches_end 137 x.number s).processes y.number other) ∙ k) xs (all_of_mapped (λ n. x.number ≢ n) (λ (y : Exec). y.number) xs h.0) live.1 in
    let rest : length b.events + paid_for b.state.processes ≤ paid_for a.state.processes = ends_pay xs a.state h.1 still_live in
    let both : length (a.events ++ b.events) ≡ length a.events + length b.events = length-append a.events b.events in
    omega (arith, first, rest, both)

all_end_pay : (n : ℕ) (s : State) → AreDistinct (map (λ x. x.number) s.execs) → length (end_execs n s).events + paid_for (end_execs n s).state.processes ≤ paid_for s.processes
all_end_pay n s h =
    let inner : AreDistinct (map (λ x. x.number) (execs_of n s)) = distinct_filtered (λ (x : Exec). x.number) (λ x. x.container == n) s.execs h in
    ends_pay (running_execs n s) s (distinct_filtered (λ (x : Exec). x.number) (λ x. is_live (OfExec x.number) s) (execs_of n s) inner)
    (all_weaken (λ (x : Exec). Unit {0} × (is_live (OfExec x.number) s ≡ true)) (λ x. is_live (OfExec x.number) s ≡ true) (λ x k. k.1) (running_execs n s)
    (all_passing (λ x. Unit {0}) (λ x. is_live (OfExec x.number) s) (execs_of n s) (all_unit (execs_of n s))))
  where
    all_unit : (xs : List Exec) → AllByRecursion (λ x. Unit {0}) xs
    all_unit [] = tt
    all_unit (x ∷ xs) = (tt, all_unit xs)

-- ---- single changes

few_level : (s t : State) → Level s t → Few s → Few t
few_level s t h few = (
  subst (AllByRecursion (λ (c : Container). length c.life.mounts ≤ 16)) (sym h.containers) few.0,
  subst AreDistinct (sym h.exec_numbers) few.1,
  subst (λ (ns : List ℕ). AllByRecursion (λ k. k < t.next_number) ns) (sym h.exec_numbers) (subst (λ next. AllByRecursion (λ k. k < next) (map (λ x. x.number) s.execs)) (sym h.next_number) few.2),
)

few_updated : (n : ℕ) (g : List ℕ → List ℕ) (f : Life → Life) (cs : List Container) → ((l : Life) → (f l).mounts ≡ l.mounts) → AllByRecursion (λ (c : Container). length c.life.mounts ≤ 16) cs
    → AllByRecursion (λ (c : Container). length c.life.mounts ≤ 16) (update_first (λ c. c.number == n) (made g f) cs)
few_updated n g f cs same h =
    all_updated (λ (c : Container). length c.life.mounts ≤ 16) (λ c. c.number == n) (made g f) (λ c k. let e : length (f c.life).mounts ≡ length c.life.mounts = ap length (same c.life) in omega (arith, k, e)) cs h

paid_moved : (o : Owner) (f : Process → Process) (s : State) → 0 + paid_for (tables.change o f s.processes) ≤ paid_for s.processes + 0
paid_moved o f s = let same : paid_for (tables.change o f s.processes) ≡ paid_for s.processes = paid_changed o f s.processes in omega (arith, same)

wrote : (s : State) (owner : Owner) (f : Process → Process) (e : ProcessEffect) → Paid none s (after (still (change_process owner f s)) (write_part e owner (change_process owner f s)))
wrote s owner f Lives few = (few, paid_moved owner f s)
wrote s owner f (Ended code) few = (few, paid_moved owner f s)
wrote s (OfExec n) f (Wrote stream payload) few = (few, paid_moved (OfExec n) f s)
wrote s (OfContainer n) f (Wrote stream payload) few =
    ((few_updated n (λ name. name) (logged stream payload s.clock) s.containers (λ l. refl) few.0, few.1, few.2), paid_moved (OfContainer n) f s)

below_more : (ns : List ℕ) (next : ℕ) → AllByRecursion (λ k. k < next) ns → AllByRecursion (λ k. k < next + 1) ns
below_more ns next h = all_weaken (λ k. k < next) (λ k. k < next + 1) (λ k low. omega (arith, low)) ns h

all_mapped_filtered : (p : Exec → Bool) (P : ℕ → Type 0) (xs : List Exec) → AllByRecursion P (map (λ x. x.number) xs) → AllByRecursion P (map (λ x. x.number) (filter p xs))
all_mapped_filtered p P xs h = all_mapped P (λ (x : Exec). x.number) (filter p xs) (all_filtered (λ (x : Exec). P x.number) p xs (all_of_mapped P (λ (x : Exec). x.number) xs h))

pub paid_priced : IsPriced (Unit {0}) (λ n. Unit {0}) Paid
paid_priced = record {
  on_still = λ s few. (few, omega arith);
  on_after = λ x y s a b first second few.
      let one = first few in
      let two = second one.0 in
      let both : length (a.events ++ b.events) ≡ length a.events + length b.events = length-append a.events b.events in
      (two.0, omega (arith, one.1, two.1, both));
  on_more = λ x y s e lows h few. let low : IsMost x y = lows tt in let one = h few in (one.0, omega (arith, one.1, low.told));
  on_told = λ s v at few. (few, omega arith);
  on_mounts = λ s a c found few.
      let most : length c.life.mounts ≤ 16 = found_all (λ (d : Container). length d.life.mounts ≤ 16) (λ d. d.number == c.number) c s.containers found few.0 in
      let same : length (map (λ m. mount_event a m.volume c s.clock) c.life.mounts) ≡ length c.life.mounts = length-map c.life.mounts (λ m. mount_event a m.volume c s.clock) in
      (few, omega (arith, most, same));
  on_ended = λ s d few. (few, omega arith);
  on_renew = λ s n f mark few. ((few_updated n (λ name. name) f s.containers mark.mounts few.0, few.1, few.2), omega arith);
  on_retry = λ s n few. ((few_updated n (λ name. name) restarted s.containers (λ l. refl) few.0, few.1, few.2), omega arith);
  on_step = λ s owner step is. wrote s owner (λ p. (step s.clock p).process) (effect_of (step s.clock) (process_of owner s.processes));
  on_move = λ s owner f fits few. (few, paid_moved owner f s);
  on_feed = λ s owner bytes fits few. (few, paid_moved owner (feed bytes s.clock) s);
  on_drop = λ s n few. (few, let same : paid_for (tables.without (OfContainer n) s.processes) ≡ paid_for s.processes = without_main n s.processes in omega (arith, same));
  on_end_exec = λ s code n p e few. (few_level s _ (level_end code n s) few, let pays = end_pays code n s p e in omega (arith, pays));
  on_end_execs = λ s n few. (few_level s _ (level_ends n s) few, let pays = all_end_pay n s few.1 in omega (arith, pays));
  on_launch = λ s c program found short few. (
    (few_updated c.number (λ name. name) (launched s) s.containers (λ l. refl) few.0, few.1, few.2),
    let same = paid_more s.processes (OfContainer c.number) (spawned program s.clock c.life.open_stdin (container_room c)) in omega (arith, same),
  );
  on_start_exec = λ s id x program stdin found fresh short few. (
    let numbers : map (λ y. y.number) (change_exec x.number (started s) s).execs ≡ map (λ y. y.number) s.execs = map_updated (λ (y : Exec). y.number) (λ y. y.number == x.number) (started s) s.execs (λ y. refl) in
        (few.0, subst AreDistinct (sym numbers) few.1, subst (AllByRecursion (λ k. k < s.next_number)) (sym numbers) few.2),
    let same = paid_more s.processes (OfExec x.number) (spawned program s.clock stdin exec_room) in omega (arith, same),
  );
  on_timers = λ s timers keeps few. (few, omega arith);
  on_destroyed = λ s c there few. (
    (
      all_removed (λ (d : Container). length d.life.mounts ≤ 16) (λ d. d.number == c.number) s.containers few.0,
      distinct_filtered (λ (x : Exec). x.number) (λ x. not (x.container == c.number)) s.execs few.1,
      all_mapped_filtered (λ x. not (x.container == c.number)) (λ k. k < s.next_number) s.execs few.2,
    ),
    omega arith,
  );
  on_begun = λ s connection c asked there few. (few, omega arith);
  on_time_out = λ s c few. (few, omega arith);
  on_end_ticket = λ s n ends few. (few, omega arith);
  on_volumes = λ s name labels free few. (few, omega arith);
  on_gone_volume = λ s name unused few. (few, omega arith);
  on_made = λ s name spec most free stand few. (
    (all_append (λ (d : Container). length d.life.mounts ≤ 16) s.containers _ few.0 (most tt, tt), few.1, below_more (map (λ x. x.number) s.execs) s.next_number few.2),
    omega arith,
  );
  on_made_exec = λ s c words stdin out err there few. (
    let x : Exec = new_exec c words stdin out err s in
        let more : map (λ y. y.number) (s.execs ++ x ∷ []) ≡ map (λ y. y.number) s.execs ++ s.next_number ∷ [] = map-append (λ (y : Exec). y.number) s.execs (x ∷ []) in (
          few.0,
          subst AreDistinct (sym more) (distinct_more (map (λ y. y.number) s.execs) s.next_number few.1 (all_weaken (λ k. k < s.next_number) (λ k. k ≢ s.next_number) (λ k low e. omega (arith, low, e)) (map (λ y. y.number) s.execs) few.2)),
          subst (AllByRecursion (λ k. k < s.next_number + 1)) (sym more) (all_append (λ k. k < s.next_number + 1) (map (λ y. y.number) s.execs) (s.next_number ∷ []) (below_more (map (λ y. y.number) s.execs) s.next_number few.2) (omega arith, tt)),
        ),
    omega arith,
  );
  on_renamed = λ s c name there free few. ((few_updated c.number (λ old. name) (λ l. l) s.containers (λ l. refl) few.0, few.1, few.2), omega arith);
}
