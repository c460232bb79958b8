-- What every call costs: at most 64 events, one process, one number, one ticket and one restart.
use Rattle.std.proofs.Common.{◌≡◌, ℕ, ◌+◌, ◌≤◌, ◌&&◌, Bool, true, false, not, List, [], ◌∷◌, Option, Some, None, find, length, refl, sym, subst, arith}
use Rattle.std.proofs.lemmas.Bool.{leb-true}
use Rattle.std.specs.Prelude.{IsTrue}
use Rattle.engine_text.specs.Scripts.{Program}
use Rattle.engine_text.specs.Texts.{same_bytes, without_slash}
use Rattle.proc_kernel.specs.Catalogue.{program_of}
use Rattle.proc_kernel.specs.Processes.{feed_end}
use Rattle.proc_kernel.specs.Tables.{process_of, room_at}
use Rattle.proc_kernel.specs.Times.{IsShortProgram}
use Rattle.proc_kernel.proofs.ProgramTimes.{program_short}
use Rattle.machine_model.specs.State.{State, container_numbered}
use Rattle.machine_model.specs.Chain.{Effect, still, change, and_then, each, tell, tell_of}
use Rattle.machine_model.specs.EventTexts.{plain_event, exec_event, volume_event}
use Rattle.machine_model.specs.Call.{outcome_of}
use Rattle.machine_model.specs.Outcome.{Outcome, replies, refused}
use Rattle.machine_model.specs.Tickets.{begins}
use Rattle.machine_model.specs.Names.{holder, chosen_name}
use Rattle.machine_model.specs.Filters.{is_image}
use Rattle.machine_model.specs.Ready.{is_ready, feed_is_ready}
use Rattle.api_json.specs.Status.{is_paused}
use Rattle.engine_text.specs.Soundness.{IsSound, is_create}
use Rattle.machine_model.specs.Streams.{RunState, Coming, Live, Over, run_state}
use Rattle.machine_model.specs.Calls.Create as create
use Rattle.machine_model.specs.Calls.Create.{volume_named, make_missing, make_volume, unless_it_stands, new_container, with_new, add}
use Rattle.machine_model.specs.Calls.ExecCreate as exec_create
use Rattle.machine_model.specs.Calls.ExecCreate.{if_running}
use Rattle.machine_model.specs.Calls.ExecStart as exec_start
use Rattle.machine_model.specs.Calls.Start as start
use Rattle.machine_model.specs.Calls.Start.{if_program}
use Rattle.machine_model.specs.Calls.Stop as stop
use Rattle.machine_model.specs.Calls.Restart as restart
use Rattle.machine_model.specs.Calls.Kill as kill
use Rattle.machine_model.specs.Calls.Pause as pause
use Rattle.machine_model.specs.Calls.Unpause as unpause
use Rattle.machine_model.specs.Calls.Rename as rename
use Rattle.machine_model.specs.Calls.Remove as remove
use Rattle.machine_model.specs.Calls.Update as update
use Rattle.machine_model.specs.Calls.Volumes as volumes
use Rattle.machine_model.specs.Calls.Feed as feeds
use Rattle.machine_model.specs.Calls.Take.{end_ticket}
use Rattle.machine_model.proofs.ObeyLemmas.{both_true}
use Rattle.machine_model.proofs.VolumeLemmas.{made as volumes_made, with_mounts}
use Rattle.machine_model.proofs.Processes.LimitLemmas.{feed_end_fits}
use Rattle.machine_model.proofs.Costs.CostLemmas.{Cost, none, tells, plus, most_of, IsPriced, Costs, costs_still, costs_then, costs_nothing, costs_tell}
use Rattle.machine_model.proofs.Costs.AnswerLemmas.{full, idle, top, ticket, at}
use Rattle.machine_model.proofs.Costs.StatusLemmas.{start_by, stop_by, restart_by, kill_by, pause_by, unpause_by, rename_by, update_by, remove_by}
use Rattle.engine_text.specs.declared.call.Call.{Call}
use Rattle.engine_text.specs.declared.call.CreateSpec.{CreateSpec}
use Rattle.engine_text.specs.declared.container.Container.{Container}
use Rattle.engine_text.specs.declared.exec.Exec.{Exec}
use Rattle.engine_text.specs.declared.mounts.Mount.{Mount}
use Rattle.engine_text.specs.declared.owner.Owner.{Owner}
use Rattle.engine_text.specs.declared.owner.Owner.TheVariants.{Container as OfContainer, Exec as OfExec}
use Rattle.engine_text.specs.declared.pairs.Pair.{Pair}
use Rattle.engine_text.specs.declared.status.Status.{Status}
use Rattle.engine_text.specs.declared.ticket.Asked.{Asked}
use Rattle.engine_text.specs.declared.volume.Volume.{Volume}
use Rattle.engine_text.specs.declared.event.Action.TheVariants as Action
use Rattle.machine_model.proofs.VolumeLemmas.{mounts_stand}
use Rattle.machine_model.specs.State.{container_numbered}
use Rattle.std.proofs.Common.{◌≡◌, Some, None}
use Rattle.std.specs.Option.{option_map_or}
use Rattle.machine_model.specs.Refusals.{no_such_exec}

-- ---- create

missing_by : {P : Type 0} {E : ℕ → Type 0} (R : Cost → State → Effect → Type 0) → IsPriced P E R → (o : Option Volume) (name : List ℕ) (s : State) → volume_named name s ≡ o → R (tells 1) s (unless_it_stands o name s)
missing_by R k None name s e =
    k.on_after none (tells 1) s _ _ (k.on_volumes s name [] e) (k.on_told (record s { volumes = create.placed (create.new_volume name [] s.clock) s.volumes }) (volume_event Action.Create name s.clock) refl)
missing_by R k (Some v) name s e = costs_nothing (tells 1) k s

missing : {P : Type 0} {E : ℕ → Type 0} (R : Cost → State → Effect → Type 0) → IsPriced P E R → (ms : List Mount) → Costs R (tells (length ms)) (each make_missing ms)
missing R k [] = costs_still k
missing R k (m ∷ ms) =
    let first : Costs R (tells 1) (make_missing m) = record { holds = λ s. missing_by R k (volume_named m.volume s) m.volume s refl } in
    let both : Costs R (plus (tells 1) (tells (length ms))) (each make_missing (m ∷ ms)) = costs_then k first (missing R k ms) in
    let longer : length (m ∷ ms) ≡ 1 + length ms = omega arith in
    record {
      holds = λ s. k.on_more (plus (tells 1) (tells (length ms))) (tells (length (m ∷ ms))) s (each make_missing (m ∷ ms) s)
          (λ p. record { told = omega (arith, longer); spawns = omega arith; makes = omega arith; asks = omega arith; retries = omega arith }) (both.holds s);
    }

abbrev add_cost : Cost
add_cost = record { told = 17; spawns = 0; makes = 1; asks = 0; retries = 0 }

abbrev then_add : Container → State → Effect
then_add c = and_then (change (with_new c)) (λ s. tell (plain_event Action.Create c s.clock ∷ []) s)

adds : {P : Type 0} {E : ℕ → Type 0} (R : Cost → State → Effect → Type 0) → IsPriced P E R → (name : List ℕ) (spec : CreateSpec) (s : State) → (P → length spec.mounts ≤ 16) → holder name s.containers ≡ None → R add_cost s (add (new_container name spec s) s)
adds R k name spec s few free =
    let c : Container = new_container name spec s in
    let a : Effect = each make_missing spec.mounts s in
    let t : State = record s { volumes = with_mounts spec.mounts s.clock s.volumes } in
    let first : R (tells 16) s a =
    k.on_more (tells (length spec.mounts)) (tells 16) s a (λ p. record { told = few p; spawns = omega arith; makes = omega arith; asks = omega arith; retries = omega arith }) ((missing R k spec.mounts).holds s) in
    let added : R (record { told = 1; spawns = 0; makes = 1; asks = 0; retries = 0 }) t (then_add c t) =
    k.on_after (record { told = 0; spawns = 0; makes = 1; asks = 0; retries = 0 }) (tells 1) t (still (with_new c t)) _ (k.on_made t name spec few free (mounts_stand spec.mounts s.clock s.volumes)) (k.on_told (with_new c t) (plain_event Action.Create c s.clock) refl) in
    let behind : R (record { told = 1; spawns = 0; makes = 1; asks = 0; retries = 0 }) a.state (then_add c a.state) =
    subst (λ (z : State). R (record { told = 1; spawns = 0; makes = 1; asks = 0; retries = 0 }) z (then_add c z)) (sym (volumes_made spec.mounts s).0) added in
    k.on_after (tells 16) (record { told = 1; spawns = 0; makes = 1; asks = 0; retries = 0 }) s a (then_add c a.state) first behind

pub few_mounts : (spec : CreateSpec) → is_create spec ≡ true → length spec.mounts ≤ 16
few_mounts spec e = leb-true (length spec.mounts) 16 (both_true _ _ (both_true _ _ (both_true _ _ (both_true _ _ e).0).0).1).0

create_holder : {P : Type 0} {E : ℕ → Type 0} (R : Cost → State → Effect → Type 0) → IsPriced P E R → (o : Option Container) (name : List ℕ) (spec : CreateSpec) (s : State) → (P → length spec.mounts ≤ 16) → holder name s.containers ≡ o → R full s (create.by_holder o name spec s).effect
create_holder R k (Some other) name spec s few e = idle R k s
create_holder R k None name spec s few e = k.on_more add_cost full s _ (λ p. most_of add_cost full refl) (adds R k name spec s few e)

create_image : {P : Type 0} {E : ℕ → Type 0} (R : Cost → State → Effect → Type 0) → IsPriced P E R → (b : Bool) (spec : CreateSpec) (s : State) → (P → length spec.mounts ≤ 16) → R full s (create.by_image b spec s).effect
create_image R k true spec s few =
    let name : List ℕ = chosen_name spec.name s.next_number s.containers in
    create_holder R k (holder name s.containers) name spec s few refl
create_image R k false spec s few = idle R k s

-- ---- execs

running_by : {P : Type 0} {E : ℕ → Type 0} (R : Cost → State → Effect → Type 0) → IsPriced P E R → (u : Status) (c : Container) (f : State → Outcome) (s : State) → R full s (f s).effect → R full s (if_running u c f s).effect
running_by R k Status.Running c f s one = one
running_by R k Status.Created c f s one = idle R k s
running_by R k Status.Exited c f s one = idle R k s
running_by R k Status.Paused c f s one = idle R k s
running_by R k Status.Restarting c f s one = idle R k s
running_by R k Status.Removing c f s one = idle R k s
running_by R k Status.Dead c f s one = idle R k s

exec_made : {P : Type 0} {E : ℕ → Type 0} (R : Cost → State → Effect → Type 0) → IsPriced P E R → (c : Container) (words : List (List ℕ)) (stdin out err : Bool) (s : State) → container_numbered c.number s ≡ Some c
    → R full s (exec_create.created (exec_create.new_exec c words stdin out err s) c s).effect
exec_made R k c words stdin out err s found =
    let x : Exec = exec_create.new_exec c words stdin out err s in
    let cost : Cost = record { told = 1; spawns = 0; makes = 1; asks = 0; retries = 0 } in
    k.on_more cost full s _ (λ p. most_of cost full refl)
    (k.on_after (record { told = 0; spawns = 0; makes = 1; asks = 0; retries = 0 }) (tells 1) s (still (exec_create.with_exec x s)) _ (k.on_made_exec s c words stdin out err found)
    ((costs_tell k (exec_event Action.ExecCreate x.id) c.number (λ c t. refl)).holds (exec_create.with_exec x s)))

exec_ran : {P : Type 0} {E : ℕ → Type 0} (R : Cost → State → Effect → Type 0) → IsPriced P E R → (id : List ℕ) (detach : Bool) (x : Exec) (o : Option Program) (s : State) → find (λ y. same_bytes y.id id) s.execs ≡ Some x → x.started ≡ false → IsShortProgram o
    → R full s (if_program o x.words (replies (exec_start.start_reply detach x) (exec_start.spawn_exec o detach x)) s).effect
exec_ran R k id detach x None s found fresh short = idle R k s
exec_ran R k id detach x (Some p) s found fresh short =
    let begin : Cost = record { told = 1; spawns = 1; makes = 0; asks = 0; retries = 0 } in
    let cost : Cost = record { told = 2; spawns = 1; makes = 0; asks = 0; retries = 0 } in
    k.on_more cost full s _ (λ p. most_of cost full refl)
    (k.on_after begin (tells 1) s _ _ (k.on_start_exec s id x p (x.stdin && not detach) found fresh short) ((costs_tell k (exec_event Action.ExecStart x.id) x.container (λ c t. refl)).holds _))

exec_unless : {P : Type 0} {E : ℕ → Type 0} (R : Cost → State → Effect → Type 0) → IsPriced P E R → (b : Bool) (id : List ℕ) (detach : Bool) (x : Exec) (c : Container) (s : State) → x.started ≡ b → find (λ y. same_bytes y.id id) s.execs ≡ Some x
    → R full s (exec_start.unless_started b id (if_running c.life.status c (exec_start.run detach x)) s).effect
exec_unless R k true id detach x c s e found = idle R k s
exec_unless R k false id detach x c s e found = running_by R k c.life.status c (exec_start.run detach x) s (exec_ran R k id detach x (program_of x.words 1) s found e (program_short x.words 1))

exec_both : {P : Type 0} {E : ℕ → Type 0} (R : Cost → State → Effect → Type 0) → IsPriced P E R → (o : Option Container) (id : List ℕ) (f : Container → State → Outcome) (s : State) → ((c : Container) → R full s (f c s).effect)
    → R full s (option_map_or f o (refused 404 (no_such_exec id)) s).effect
exec_both R k None id f s one = idle R k s
exec_both R k (Some c) id f s one = one c

exec_found : {P : Type 0} {E : ℕ → Type 0} (R : Cost → State → Effect → Type 0) → IsPriced P E R → (o : Option Exec) (id : List ℕ) (f : Exec → Container → State → Outcome) (s : State) → find (λ y. same_bytes y.id id) s.execs ≡ o
    → ((x : Exec) (c : Container) → find (λ y. same_bytes y.id id) s.execs ≡ Some x → R full s (f x c s).effect) → R full s (exec_start.with_exec o id f s).effect
exec_found R k None id f s e one = idle R k s
exec_found R k (Some x) id f s e one = exec_both R k (container_numbered x.container s) id (f x) s (λ c. one x c e)

-- ---- volumes

volume_standing : {P : Type 0} {E : ℕ → Type 0} (R : Cost → State → Effect → Type 0) → IsPriced P E R → (o : Option Volume) (name : List ℕ) (labels : List Pair) (s : State) → volume_named name s ≡ o → R full s (volumes.by_standing o name labels s).effect
volume_standing R k (Some v) name labels s e = idle R k s
volume_standing R k None name labels s e =
    k.on_more (tells 1) full s _ (λ p. most_of (tells 1) full refl)
    (k.on_after none (tells 1) s _ _ (k.on_volumes s name labels e) (k.on_told (record s { volumes = create.placed (create.new_volume name labels s.clock) s.volumes }) (volume_event Action.Create name s.clock) refl))

volume_found : {P : Type 0} {E : ℕ → Type 0} (R : Cost → State → Effect → Type 0) → IsPriced P E R → (o : Option Volume) (name : List ℕ) (f : Volume → State → Outcome) (s : State) → ((v : Volume) → R full s (f v s).effect)
    → R full s (volumes.with_volume o name f s).effect
volume_found R k None name f s one = idle R k s
volume_found R k (Some v) name f s one = one v

volume_unless : {P : Type 0} {E : ℕ → Type 0} (R : Cost → State → Effect → Type 0) → IsPriced P E R → (b : Bool) (name : List ℕ) (s : State) → volumes.is_in_use name s ≡ b → R full s (volumes.unless_in_use b name s).effect
volume_unless R k true name s e = idle R k s
volume_unless R k false name s e =
    k.on_more (tells 1) full s _ (λ p. most_of (tells 1) full refl)
    (k.on_after none (tells 1) s _ _ (k.on_gone_volume s name e) (k.on_told (volumes.without_volume name s) (volume_event Action.Destroy name s.clock) refl))

-- ---- feeds

feed_by : {P : Type 0} {E : ℕ → Type 0} (R : Cost → State → Effect → Type 0) → IsPriced P E R → (owner : Owner) (bytes : List ℕ) (s : State) (r : RunState) → (P → feed_is_ready r s owner bytes ≡ true) → R full s (feeds.feed_by r owner bytes s).effect
feed_by R k owner bytes s Live ready =
    k.on_more none full s _ (λ p. most_of none full refl) (k.on_feed s owner bytes (λ p. leb-true (length bytes) (room_at (process_of owner s.processes)) (ready p)))
feed_by R k owner bytes s Over ready = idle R k s
feed_by R k owner bytes s Coming ready = idle R k s

ends : {P : Type 0} {E : ℕ → Type 0} (R : Cost → State → Effect → Type 0) → IsPriced P E R → (owner : Owner) (s : State) → R full s (feeds.end_input owner s)
ends R k owner s = k.on_more none full s _ (λ p. most_of none full refl) (k.on_move s owner (feed_end s.clock) (λ p. feed_end_fits s.clock p))

end_if : {P : Type 0} {E : ℕ → Type 0} (R : Cost → State → Effect → Type 0) → IsPriced P E R → (b : Bool) (owner : Owner) (s : State) → R full s (feeds.ends_if b owner s)
end_if R k true owner s = ends R k owner s
end_if R k false owner s = idle R k s

end_with : {P : Type 0} {E : ℕ → Type 0} (R : Cost → State → Effect → Type 0) → IsPriced P E R → (o : Option Container) (owner : Owner) (s : State) → R full s (feeds.ends_with o owner s)
end_with R k None owner s = idle R k s
end_with R k (Some c) owner s = end_if R k c.life.stdin_once owner s

end_owner : {P : Type 0} {E : ℕ → Type 0} (R : Cost → State → Effect → Type 0) → IsPriced P E R → (owner : Owner) (s : State) → R full s (feeds.end_by_owner owner s)
end_owner R k (OfExec n) s = ends R k (OfExec n) s
end_owner R k (OfContainer n) s = end_with R k (container_numbered n s) (OfContainer n) s

end_by : {P : Type 0} {E : ℕ → Type 0} (R : Cost → State → Effect → Type 0) → IsPriced P E R → (owner : Owner) (s : State) (r : RunState) → R full s (feeds.feed_end_by r owner s).effect
end_by R k owner s Live = end_owner R k owner s
end_by R k owner s Over = idle R k s
end_by R k owner s Coming = idle R k s

ends_ticket : {P : Type 0} {E : ℕ → Type 0} (R : Cost → State → Effect → Type 0) → IsPriced P E R → (n : ℕ) (s : State) → E n → R full s (change (end_ticket n) s)
ends_ticket R k n s ends = k.on_more none full s _ (λ p. most_of none full refl) (k.on_end_ticket s n ends)

-- ---- every call

-- the ticket that a call ends, if it does, may be ended
abbrev pub EndsOnly : (ℕ → Type 0) → Call → Type 0
EndsOnly E (Call.Take n) = E n
EndsOnly E (Call.Drop n) = E n
EndsOnly E c = Unit {0}

-- where any may
pub ends_any : (c : Call) → EndsOnly (λ n. Unit {0}) c
ends_any (Call.Take n) = tt
ends_any (Call.Drop n) = tt
ends_any c = tt

pub call_costs : {P : Type 0} {E : ℕ → Type 0} (R : Cost → State → Effect → Type 0) → IsPriced P E R → (c : Call) (connection : ℕ) (s : State) → (P → IsSound c) → (P → IsTrue (is_ready s c)) → EndsOnly E c → R full s (outcome_of c connection s).effect
call_costs R k (Call.Create spec) connection s sound ready ends = create_image R k (is_image spec.image) spec s (λ p. few_mounts spec (sound p))
call_costs R k (Call.Start target) connection s sound ready ends = at R k s target (λ c. start.by_status c.life.status c) (λ c found. start_by R k c.life.status c s)
call_costs R k (Call.Stop target wait signal) connection s sound ready ends = at R k s target (λ c. stop.by_status c.life.status connection wait signal c) (λ c found. stop_by R k connection wait signal c.life.status c s found)
call_costs R k (Call.Restart target wait signal) connection s sound ready ends =
    at R k s target (λ c. restart.by_status c.life.status connection wait signal c) (λ c found. restart_by R k connection wait signal c.life.status c s found)
call_costs R k (Call.Kill target signal) connection s sound ready ends = at R k s target (λ c. kill.by_status c.life.status signal c) (λ c found. kill_by R k c.life.status signal c s)
call_costs R k (Call.Pause target) connection s sound ready ends = at R k s target (λ c. pause.by_status c.life.status c) (λ c found. pause_by R k c.life.status c s)
call_costs R k (Call.Unpause target) connection s sound ready ends = at R k s target unpause.unpause_outcome (λ c found. unpause_by R k (is_paused c.life.status) c s)
call_costs R k (Call.Rename target name) connection s sound ready ends = at R k s target (λ c. rename.by_status c.life.status (without_slash name) c) (λ c found. rename_by R k c.life.status (without_slash name) c s found)
call_costs R k (Call.Update target policy) connection s sound ready ends = at R k s target (λ c. update.by_status c.life.status policy c) (λ c found. update_by R k c.life.status policy c s)
call_costs R k (Call.Remove target force) connection s sound ready ends =
    at R k s target (λ c. remove.by_status c.life.status force connection c) (λ c found. remove_by R k c.life.status force connection c s found)
call_costs R k (Call.Wait target until) connection s sound ready ends =
    at R k s target (λ c. begins connection c (Asked.Wait until) still) (λ c found. ticket R none k connection c (Asked.Wait until) still s found (costs_still k) refl)
call_costs R k (Call.Inspect target) connection s sound ready ends = at R k s target _ (λ c found. idle R k s)
call_costs R k (Call.List all limit filter) connection s sound ready ends = idle R k s
call_costs R k (Call.Logs target ask) connection s sound ready ends = at R k s target _ (λ c found. idle R k s)
call_costs R k (Call.Attach target ask) connection s sound ready ends =
    at R k s target _ (λ c found. top R _ k (tell_of (plain_event Action.Attach) c.number) s (costs_tell k (plain_event Action.Attach) c.number (λ c t. refl)) refl)
call_costs R k (Call.ExecCreate target words stdin out err) connection s sound ready ends =
    at R k s target (λ c. if_running c.life.status c (λ s. exec_create.created (exec_create.new_exec c words stdin out err s) c s))
    (λ c found. running_by R k c.life.status c (λ s. exec_create.created (exec_create.new_exec c words stdin out err s) c s) s (exec_made R k c words stdin out err s found))
call_costs R k (Call.ExecStart id detach) connection s sound ready ends =
    exec_found R k (find (λ x. same_bytes x.id id) s.execs) id (λ x c. exec_start.unless_started x.started id (if_running c.life.status c (exec_start.run detach x))) s refl
    (λ x c found. exec_unless R k x.started id detach x c s refl found)
call_costs R k (Call.ExecInspect id) connection s sound ready ends = exec_found R k (find (λ x. same_bytes x.id id) s.execs) id _ s refl (λ x c found. idle R k s)
call_costs R k (Call.VolumeCreate name labels) connection s sound ready ends = volume_standing R k (volume_named name s) name labels s refl
call_costs R k (Call.VolumeInspect name) connection s sound ready ends = volume_found R k (volume_named name s) name _ s (λ v. idle R k s)
call_costs R k (Call.VolumeRemove name) connection s sound ready ends = volume_found R k (volume_named name s) name _ s (λ v. volume_unless R k (volumes.is_in_use name s) name s refl)
call_costs R k (Call.VolumeList filter) connection s sound ready ends = idle R k s
call_costs R k (Call.Events since until filter) connection s sound ready ends = idle R k s
call_costs R k Call.JournalRead connection s sound ready ends = idle R k s
call_costs R k (Call.Feed owner run bytes) connection s sound ready ends = feed_by R k owner bytes s (run_state owner run s) ready
call_costs R k (Call.FeedEnd owner run) connection s sound ready ends = end_by R k owner s (run_state owner run s)
call_costs R k (Call.Take n) connection s sound ready ends = ends_ticket R k n s ends
call_costs R k (Call.Drop n) connection s sound ready ends = ends_ticket R k n s ends
