-- What fits still fits behind an exec create and an exec start.
use Rattle.std.proofs.Common.{◌≡◌, ◌≢◌, ℕ, ◌≤◌, ◌<◌, ◌==◌, ◌&&◌, Bool, true, false, not, List, [], ◌∷◌, ◌++◌, Option, Some, None, find, map, refl, ap, sym, ◌∙◌, subst, arith, inl, inr, ◌+◌}
use Rattle.std.proofs.lemmas.Bool.{eq-eqb}
use Rattle.std.proofs.lemmas.Bool.Decides.{eqb_tells}
use Rattle.std.specs.Prelude.{option_map, is_some}
use Rattle.std.specs.Option.{is_some, option_map_or}
use Rattle.std.specs.List.{AllByRecursion}
use Rattle.std.proofs.lemmas.List.{map-append}
use Rattle.api_json.specs.Status.{is_paused}
use Rattle.engine_text.specs.Texts.{same_bytes}
use Rattle.engine_text.specs.Scripts.{Program}
use Rattle.proc_kernel.specs.Processes.{Process, spawn as spawned}
use Rattle.proc_kernel.specs.Tables.{Entry, process_of, begun}
use Rattle.proc_kernel.specs.Catalogue.{program_of}
use Rattle.engine_text.specs.Owner.{same_owner}
use Rattle.machine_model.specs.State.{State, container_numbered, change_exec, owner_number, exec_numbered}
use Rattle.machine_model.specs.EventTexts.{exec_event}
use Rattle.machine_model.specs.Consistency.{AreDistinct, FitsStatus}
use Rattle.machine_model.specs.Effects.Launch.{spawn, log_size}
use Rattle.machine_model.specs.Calls.ExecCreate as exec_create
use Rattle.machine_model.specs.Calls.ExecCreate.{if_running}
use Rattle.machine_model.specs.Calls.ExecStart as exec_start
use Rattle.machine_model.specs.Calls.Start.{if_program}
use Rattle.machine_model.specs.Outcome.{Outcome, replies, answers, refused}
use Rattle.machine_model.specs.Views.{exec_body}
use Rattle.machine_model.proofs.ListLemmas.{all_append, all_weaken, all_both, distinct_more, found_nowhere, below_is_other, all_mapped}
use Rattle.machine_model.proofs.ChangeLemmas.{map_updated}
use Rattle.machine_model.proofs.ObeyLemmas.{found_all}
use Rattle.machine_model.proofs.Tables.ProcessLemmas.{begun_others, begun_stands}
use Rattle.machine_model.proofs.Tables.NumberLemmas.{is_not, find_updated, find_other, find_more_other, find_more_itself}
use Rattle.machine_model.proofs.Fits.ExecLoopLemmas.{own_exec}
use Rattle.machine_model.proofs.Fits.LaunchLemmas.{pid_lives, Fine, OnBy, Local}
use Rattle.machine_model.proofs.OwnerLemmas.{owner_is}
use Rattle.machine_model.proofs.Fits.LogRoomLemmas.{OutputFits, IsEmptyOf, room_in, exec_room_in}
use Rattle.machine_model.proofs.Fits.PartLemmas.{Roomy, Watches, IcyAs, ExecBy, ExecsBy, execs_moved, parts_of, life_of}
use Rattle.machine_model.proofs.Fits.MainPartLemmas.{no_owner, more_owners}
use Rattle.machine_model.proofs.Fits.CallLemmas.{PartsFit}
use Rattle.machine_model.proofs.Fits.FreshLemmas.{mains_told}
use Rattle.engine_text.specs.declared.log.OwnedLog.{OwnedLog}
use Rattle.engine_text.specs.declared.container.Container.{Container}
use Rattle.engine_text.specs.declared.exec.Exec.{Exec}
use Rattle.engine_text.specs.declared.owner.Owner.{Owner}
use Rattle.engine_text.specs.declared.owner.Owner.TheVariants.{Container as OfContainer, Exec as OfExec}
use Rattle.engine_text.specs.declared.status.Status.{Status}
use Rattle.engine_text.specs.declared.event.Action.TheVariants as Action
use Rattle.machine_model.specs.Refusals.{no_such_exec}

pub running_by : (u : Status) (c : Container) (f : State → Outcome) (s : State) → PartsFit s → (u ≡ Status.Running → PartsFit (f s).effect.state) → PartsFit (if_running u c f s).effect.state
running_by Status.Running c f s h one = one refl
running_by Status.Created c f s h one = h
running_by Status.Exited c f s h one = h
running_by Status.Paused c f s h one = h
running_by Status.Restarting c f s h one = h
running_by Status.Removing c f s h one = h
running_by Status.Dead c f s h one = h

-- a new exec
made_by : (W : ℕ → Process → Type 0) (x : Exec) (p : Option Process) → x.pid ≡ 0 → p ≡ None → ExecBy W (Some x) p
made_by W x None e none = ap (λ n. not (n == 0)) e
made_by W x (Some q) e none = absurd (cc)

nobody_runs : (W : ℕ → Process → Type 0) (o : Option Exec) (p : Option Process) → o ≡ None → ExecBy W o p → p ≡ None
nobody_runs W None p e h = h
nobody_runs W (Some x) p e h = absurd (cc)

pub mains_made_exec : (x : Exec) (s : State) → x.number ≡ s.next_number → x.pid ≡ 0 → AllByRecursion (λ x. x.number < s.next_number) s.execs → AllByRecursion (λ o. owner_number o.owner < s.next_number) s.outputs → PartsFit s
    → PartsFit (exec_create.with_exec x s)
mains_made_exec x s is pid below outputs_below h =
    let W : ℕ → Process → Type 0 = λ j p. Watches (parts_of j s) p in
    let all = subst (λ n. AllByRecursion (λ (y : Exec). y.number < n) s.execs) (sym is) below in
    let away = all_weaken (λ (y : Exec). y.number < x.number) (λ y. (y.number == x.number) ≡ false) (λ y low. below_is_other y.number x.number low) s.execs all in
    let absent : exec_numbered x.number s ≡ None = found_nowhere (λ (y : Exec). y.number == x.number) s.execs away in
    let none : process_of (OfExec x.number) s.processes ≡ None = nobody_runs W (exec_numbered x.number s) (process_of (OfExec x.number) s.processes) absent (h.0.6 x.number) in (
      (
        h.0.0,
        h.0.1,
        h.0.2,
        h.0.3,
        h.0.4,
        subst AreDistinct (sym (map-append (λ (y : Exec). y.number) s.execs (x ∷ [])))
            (distinct_more (map (λ y. y.number) s.execs) x.number h.0.5 (all_mapped (λ n. n ≢ x.number) (λ (y : Exec). y.number) s.execs (all_weaken (λ (y : Exec). y.number < x.number) (λ y. y.number ≢ x.number) (λ y low e. omega (arith, low, e)) s.execs all))),
        λ m. elim (eqb_tells x.number m) [
          | inl e ↦ subst (λ j. ExecBy W (find (λ (y : Exec). y.number == j) (s.execs ++ x ∷ [])) (process_of (OfExec j) s.processes)) e.1
              (subst (λ o. ExecBy W o (process_of (OfExec x.number) s.processes)) (sym (find_more_itself (λ (y : Exec). y.number) x s.execs absent)) (made_by W x (process_of (OfExec x.number) s.processes) pid none))
          | inr e ↦ subst (λ o. ExecBy W o (process_of (OfExec m) s.processes)) (sym (find_more_other (λ (y : Exec). y.number) m x e.1 s.execs)) (h.0.6 m)
        ],
        record {
          mains = h.0.7.mains;
          outputs = all_append (OutputFits s.processes) s.outputs _ h.0.7.outputs (let zero : room_in (process_of (OfExec x.number) s.processes) ≡ 0 = ap room_in none in omega (arith, zero), tt);
          empty = λ m y e fresh. all_append (IsEmptyOf m) s.outputs _ (elim (eqb_tells x.number m) [
            | inl same ↦ subst (λ j. AllByRecursion (IsEmptyOf j) s.outputs) same.1
                (all_weaken (λ (o : OwnedLog). owner_number o.owner < s.next_number) (IsEmptyOf x.number) (λ o low own. let at : owner_number o.owner ≡ x.number = ap owner_number (owner_is o.owner (OfExec x.number) own) in absurd (omega (arith, at, low, is))) s.outputs outputs_below)
            | inr other ↦ h.0.7.empty m y (sym (find_more_other (λ (y : Exec). y.number) m x other.1 s.execs) ∙ e) fresh
          ]) ((λ own. refl), tt);
        },
      ),
      h.1,
    )

-- an exec that starts
unstarted_by : (W : ℕ → Process → Type 0) (x : Exec) (p : Option Process) → x.started ≡ false → ExecBy W (Some x) p → p ≡ None
unstarted_by W x None e h = refl
unstarted_by W x (Some q) e h = let no_way : false ≡ true = sym e ∙ h.1 in absurd (cc)

started_by : (W : ℕ → Process → Type 0) (x : Exec) (q : Process) → not (x.pid == 0) ≡ true → x.started ≡ true → W x.container q → ExecBy W (Some x) (Some q)
started_by W x q pid started w = (pid, started, w)

abbrev started_in : Option Exec → Bool
started_in None = true
started_in (Some z) = z.started

begins_at : (b : Bool) (k : ℕ) (q : Process) (es : List Entry) → process_of (OfExec k) es ≡ None → (o : OwnedLog) → q.room ≤ 1048576 → same_owner o.owner (OfExec k) ≡ b → OutputFits es o → IsEmptyOf k o
    → OutputFits (es ++ begun (OfExec k) q ∷ []) o
begins_at true k q es none o low is fits empty =
    let stands : room_in (process_of (OfExec k) (es ++ begun (OfExec k) q ∷ [])) ≡ q.room = ap room_in (begun_stands (OfExec k) q es none) in
    let zero : log_size o.log ≡ 0 = empty is in
    subst (λ w. log_size o.log + exec_room_in w (es ++ begun (OfExec k) q ∷ []) ≤ 1048576) (sym (owner_is o.owner (OfExec k) is)) (omega (arith, stands, zero, low))
begins_at false k q es none o low is fits empty = let same = others_room o.owner is in omega (arith, same, fits)
  where
    others_room : (w : Owner) → same_owner w (OfExec k) ≡ false → exec_room_in w (es ++ begun (OfExec k) q ∷ []) ≡ exec_room_in w es
    others_room (OfContainer n) e = refl
    others_room (OfExec j) e = ap room_in (begun_others (OfExec k) (OfExec j) q es (is_not k j (λ same. let on : (j == k) ≡ true = eq-eqb j k (sym same) in let no_way : false ≡ true = sym e ∙ on in absurd (cc))))

begins_fits : (k : ℕ) (q : Process) (es : List Entry) → process_of (OfExec k) es ≡ None → (o : OwnedLog) → q.room ≤ 1048576 → OutputFits es o → IsEmptyOf k o → OutputFits (es ++ begun (OfExec k) q ∷ []) o
begins_fits k q es none o low fits empty = begins_at (same_owner o.owner (OfExec k)) k q es none o low refl fits empty

spawn_exec : (x : Exec) (p : Program) (stdin : Bool) (room : ℕ) (s : State) (c : Container) → exec_numbered x.number s ≡ Some x → x.started ≡ false → container_numbered x.container s ≡ Some c → c.life.status ≡ Status.Running → room ≤ 1048576 → PartsFit s
    → PartsFit (spawn (OfExec x.number) p stdin room (change_exec x.number (exec_start.started s) s))
spawn_exec x p stdin room s c found fresh stands runs low h =
    let k : ℕ = x.number in
    let q : Process = spawned p s.clock stdin room in
    let t : State = spawn (OfExec k) p stdin room (change_exec k (exec_start.started s) s) in
    let W : ℕ → Process → Type 0 = λ j p. Watches (parts_of j s) p in
    let none : process_of (OfExec k) s.processes ≡ None = unstarted_by W x (process_of (OfExec k) s.processes) fresh (subst (λ o. ExecBy W o (process_of (OfExec k) s.processes)) found (h.0.6 k)) in
    let same : (m : ℕ) → parts_of m t ≡ parts_of m s = λ m. ap (λ x. record (parts_of m s) { main = x }) (begun_others (OfExec k) (OfContainer m) q s.processes refl) in
    let fine : Fine c.life (parts_of x.container s).main (parts_of x.container s).stop (parts_of x.container s).removal (parts_of x.container s).restart =
    subst (λ o. OnBy Fine (life_of o) (parts_of x.container s).main (parts_of x.container s).stop (parts_of x.container s).removal (parts_of x.container s).restart) stands (h.1 x.container) in
    let live : is_some (parts_of x.container s).main ≡ true = subst (λ u. FitsStatus u (is_some (parts_of x.container s).main)) runs fine.0.status in
    let icy : IcyAs (parts_of x.container s).life q = subst (λ o. IcyAs (life_of o) q) (sym stands) (sym (ap is_paused runs)) in
    let execs : ExecsBy W t.execs t.processes = λ m. elim (eqb_tells k m) [
      | inl e ↦ subst (λ j. ExecBy W (find (λ (y : Exec). y.number == j) t.execs) (process_of (OfExec j) t.processes)) e.1
          (subst (λ o. ExecBy W o (process_of (OfExec k) t.processes)) (sym (find_updated (λ (y : Exec). y.number) k (exec_start.started s) (λ y. refl) s.execs ∙ ap (option_map (exec_start.started s)) found))
          (subst (ExecBy W (Some (exec_start.started s x))) (sym (begun_stands (OfExec k) q s.processes none)) (started_by W (exec_start.started s x) q (pid_lives s.next_pid h.0.4) refl (live, icy))))
      | inr e ↦ subst (λ o. ExecBy W o (process_of (OfExec m) t.processes)) (sym (find_other (λ (y : Exec). y.number) k m (exec_start.started s) (λ y. refl) e.1 s.execs))
          (subst (ExecBy W (exec_numbered m s)) (sym (begun_others (OfExec k) (OfExec m) q s.processes (is_not k m e.1))) (h.0.6 m))
    ] in (
      (
        h.0.0,
        subst AreDistinct (sym (more_owners s.processes (OfExec k) q)) (distinct_more (map (λ e. e.owner) s.processes) (OfExec k) h.0.1 (no_owner (OfExec k) s.processes none)),
        h.0.2,
        h.0.3,
        omega (arith, h.0.4),
        subst AreDistinct (sym (map_updated (λ (y : Exec). y.number) (λ y. y.number == k) (exec_start.started s) s.execs (λ y. refl))) h.0.5,
        execs_moved W (λ j p. Watches (parts_of j t) p) t.execs t.processes t.processes (λ m. refl) (λ j p w. subst (λ v. Watches v p) (sym (same j)) w) execs,
        record {
          mains = λ m. subst Roomy (sym (same m)) (h.0.7.mains m);
          outputs = all_both (OutputFits s.processes) (IsEmptyOf k) (OutputFits t.processes) (λ o fits empty. begins_fits k q s.processes none o low fits empty) s.outputs h.0.7.outputs (h.0.7.empty k x found fresh);
          empty = λ m y e fresh. elim (eqb_tells k m) [
            | inl is ↦
                let now : Some (exec_start.started s x) ≡ Some y =
                sym (find_updated (λ (y : Exec). y.number) k (exec_start.started s) (λ y. refl) s.execs ∙ ap (option_map (exec_start.started s)) found) ∙ subst (λ j. find (λ (z : Exec). z.number == j) t.execs ≡ Some y) (sym is.1) e in
                let on : y.started ≡ true = sym (ap started_in now) in
                let no_way : false ≡ true = sym fresh ∙ on in absurd (cc)
            | inr other ↦ h.0.7.empty m y (sym (find_other (λ (y : Exec). y.number) k m (exec_start.started s) (λ y. refl) other.1 s.execs) ∙ e) fresh
          ];
        },
      ),
      λ m. subst Local (sym (same m)) (h.1 m),
    )

exec_ran : (o : Option Program) (detach : Bool) (x : Exec) (c : Container) (s : State) → exec_numbered x.number s ≡ Some x → x.started ≡ false → container_numbered x.container s ≡ Some c → c.life.status ≡ Status.Running → PartsFit s
    → PartsFit (if_program o x.words (replies (exec_start.start_reply detach x) (exec_start.spawn_exec o detach x)) s).effect.state
exec_ran None detach x c s found fresh stands runs h = h
exec_ran (Some p) detach x c s found fresh stands runs h =
    let t : State = change_exec x.number (exec_start.started s) s in
    mains_told x.container (exec_event Action.ExecStart x.id) (spawn (OfExec x.number) p (x.stdin && not detach) exec_start.exec_room t)
    (spawn_exec x p (x.stdin && not detach) exec_start.exec_room s c found fresh stands runs (omega arith) h)

exec_unless : (b : Bool) (id : List ℕ) (detach : Bool) (x : Exec) (c : Container) (s : State) → x.started ≡ b → exec_numbered x.number s ≡ Some x → container_numbered x.container s ≡ Some c → PartsFit s
    → PartsFit (exec_start.unless_started b id (if_running c.life.status c (exec_start.run detach x)) s).effect.state
exec_unless true id detach x c s e found stands h = h
exec_unless false id detach x c s e found stands h =
    running_by c.life.status c (exec_start.run detach x) s h (λ runs. exec_ran (program_of x.words 1) detach x c s found e stands runs h)

exec_both : (o : Option Container) (id : List ℕ) (f : Container → State → Outcome) (s : State) → PartsFit s → ((c : Container) → o ≡ Some c → PartsFit (f c s).effect.state) → PartsFit (option_map_or f o (refused 404 (no_such_exec id)) s).effect.state
exec_both None id f s h one = h
exec_both (Some c) id f s h one = one c refl

pub exec_found : (o : Option Exec) (id : List ℕ) (detach : Bool) (s : State) → find (λ x. same_bytes x.id id) s.execs ≡ o → PartsFit s
    → PartsFit (exec_start.with_exec o id (λ x c. exec_start.unless_started x.started id (if_running c.life.status c (exec_start.run detach x))) s).effect.state
exec_found None id detach s e h = h
exec_found (Some x) id detach s e h =
    let own = found_all (λ (y : Exec). exec_numbered y.number s ≡ Some y) (λ x. same_bytes x.id id) x s.execs e (own_exec s.execs h.0.5) in
    exec_both (container_numbered x.container s) id _ s h (λ c stands. exec_unless x.started id detach x c s refl own stands h)

pub inspect_found : (o : Option Exec) (id : List ℕ) (s : State) → PartsFit s
    → PartsFit (exec_start.with_exec o id (λ x c s. answers 200 (exec_body s c x) s) s).effect.state
inspect_found None id s h = h
inspect_found (Some x) id s h = exec_both (container_numbered x.container s) id _ s h (λ c e. h)
