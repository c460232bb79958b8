-- The stream that an attach or the start of an exec gives can be followed from the state that the call leaves.
use Rattle.std.specs.Prelude.{is_some, unwrap_or, option_map, not, ◌&&◌, IfSome, IsTrue}
use Rattle.std.specs.Option.{option_map_or, option_or}
use Rattle.std.proofs.Common.{◌≡◌, ◌≤◌, ◌==◌, ℕ, List, [], ◌∷◌, refl, sym, ◌∙◌, ap, subst, arith, Bool, true, false, if◌then◌else◌, Option, Some, None, find, map, length}
use Rattle.std.proofs.lemmas.Bool.{eq-eqb, false≢true}
use Rattle.engine_text.specs.Lists.{update_first}
use Rattle.engine_text.specs.Owner.{same_owner}
use Rattle.engine_text.specs.Scripts.{Program}
use Rattle.engine_text.specs.Texts.{same_bytes}
use Rattle.engine_text.specs.declared.call.AttachAsk.{AttachAsk}
use Rattle.engine_text.specs.declared.call.Call.TheVariants as call
use Rattle.engine_text.specs.declared.container.Container.{Container}
use Rattle.engine_text.specs.declared.container.Found.{Found}
use Rattle.engine_text.specs.declared.event.Action.TheVariants as Action
use Rattle.engine_text.specs.declared.exec.Exec.{Exec}
use Rattle.engine_text.specs.declared.log.LogRecord.{LogRecord}
use Rattle.engine_text.specs.declared.log.OwnedLog.{OwnedLog}
use Rattle.engine_text.specs.declared.owner.Owner.TheVariants.{Container as OfContainer, Exec as OfExec}
use Rattle.engine_text.specs.declared.reply.Reply.TheVariants.{LogStream}
use Rattle.engine_text.specs.declared.reply.StopRule.{StopRule}
use Rattle.engine_text.specs.declared.status.Status.{Status}
use Rattle.engine_text.specs.declared.status.Status.TheVariants.{Created, Running, Paused, Restarting, Removing, Exited, Dead}
use Rattle.engine_text.specs.declared.step.Step.{Step}
use Rattle.container_table.specs.Reference.{container_by}
use Rattle.proc_kernel.specs.Catalogue.{program_of}
use Rattle.machine_model.specs.State.{State, container_numbered, exec_numbered, change_exec}
use Rattle.machine_model.specs.Chain.{tell, tell_of, with_found}
use Rattle.machine_model.specs.EventTexts.{exec_event, plain_event}
use Rattle.machine_model.specs.Outcome.{Outcome, replies, by_found, refused}
use Rattle.machine_model.specs.Refusals.{no_such_container, no_such_exec}
use Rattle.machine_model.specs.Step.{at_moment}
use Rattle.machine_model.specs.Calls.Attach.{attach_spec, followed_run, run_of, stop_rule}
use Rattle.machine_model.specs.Calls.ExecCreate.{if_running}
use Rattle.machine_model.specs.Calls.ExecStart.{exec_room, exec_spec, run, spawn_exec, start_reply, started, unless_started, with_exec}
use Rattle.machine_model.specs.Calls.Start.{if_program}
use Rattle.machine_model.specs.Consistency.{IsConsistent}
use Rattle.machine_model.specs.Effects.Launch.{spawn}
use Rattle.machine_model.specs.History.{after_step, reply_of}
use Rattle.machine_model.specs.LogStream.{is_kept, kept_log, log_of, log_reach, some_if}
use Rattle.machine_model.proofs.Fold.RowLemmas.{found_number, same_some}
use Rattle.machine_model.proofs.ObeyLemmas.{found_all}
use Rattle.attach_hub.specs.Following.{MayFollow}
use Rattle.attach_hub.proofs.LogLemmas.{fits, reach_by, reach_is}
use Rattle.attach_hub.proofs.OpenLemmas.{Opens}
use Rattle.attach_hub.proofs.RunLemmas.{AreUpTo, HasRuns, run_whole, up_to}

-- ---- of a container

-- the followed run has begun last, or is the next one
run_least : (status : Status) (starts : ℕ) → starts ≤ followed_run status starts
run_least Created starts = omega arith
run_least Running starts = omega arith
run_least Paused starts = omega arith
run_least Restarting starts = omega arith
run_least Removing starts = omega arith
run_least Exited starts = omega arith
run_least Dead starts = omega arith

-- its end has all that is there, or the log's length is its end
attached_reach : (stream : Bool) (c : Container) → AreUpTo c.life.starts c.life.log → reach_by (stop_rule stream c) c.life.log ≡ length c.life.log
attached_reach true c all = run_whole (run_of c) c.life.log (up_to c.life.starts (run_of c) c.life.log (run_least c.life.status c.life.starts) all)
attached_reach false c all = refl

first_least : (logs : Bool) (n : ℕ) → (if logs then 0 else n) ≤ n
first_least true n = omega arith
first_least false n = omega arith

-- the run that is fed, if one is
asked_run : (b : Bool) (run : ℕ) → 1 ≤ run → IfSome (some_if b run) (λ n. 1 ≤ n)
asked_run true run least = least
asked_run false run least = tt

attach_at : (ask : AttachAsk) (c : Container) (t : State) → HasRuns t → container_numbered c.number t ≡ Some c → MayFollow t (attach_spec ask c)
attach_at ask c t runs found =
    let kept : IsTrue (is_kept t (OfContainer c.number)) =
    subst (λ o. IsTrue (is_some (option_or (option_map (λ (c : Container). c.life.log) o) (kept_log (OfContainer c.number) t)))) (sym found) refl in
    let log : log_of t (OfContainer c.number) ≡ c.life.log =
    ap (λ o. unwrap_or (option_or (option_map (λ (c : Container). c.life.log) o) (kept_log (OfContainer c.number) t)) []) found in
    let size = ap length log in
    let least = first_least ask.logs (length c.life.log) in
    let stop : StopRule = stop_rule ask.stream c in
    let all = found_all (λ c. AreUpTo c.life.starts c.life.log) (λ d. d.number == c.number) c t.containers found runs.containers in
    let reach : log_reach t (attach_spec ask c) ≡ reach_by stop (log_of t (OfContainer c.number)) =
    reach_is t (attach_spec ask c) kept (fits stop t runs) in
    let far : log_reach t (attach_spec ask c) ≡ length c.life.log = reach ∙ ap (reach_by stop) log ∙ attached_reach ask.stream c all in
    let logged : (if ask.logs then 0 else length c.life.log) ≤ length (log_of t (OfContainer c.number)) = omega (arith, least, size) in
    let reached : (if ask.logs then 0 else length c.life.log) ≤ log_reach t (attach_spec ask c) = omega (arith, least, far) in
    let least = found_all (λ c. 1 ≤ run_of c) (λ d. d.number == c.number) c t.containers found runs.attached in
    record { kept = kept; logged = logged; reached = reached; fed = asked_run (ask.stdin && c.life.open_stdin) (run_of c) least }

-- the answer of an attach to the container that was found
abbrev Attached : AttachAsk → Container → State → Outcome
Attached ask c = replies (LogStream (attach_spec ask c)) (tell_of (plain_event Action.Attach) c.number)

attach_one : (o : Option Container) (n : ℕ) (target : List ℕ) (ask : AttachAsk) (s t : State) → HasRuns t → container_numbered n t ≡ o
    → Opens (option_map_or {U = State → Outcome} (Attached ask) o (refused 404 (no_such_container target)) s).reply t
attach_one None n target ask s t runs is = tt
attach_one (Some c) n target ask s t runs is =
    attach_at ask c t runs (subst (λ m. container_numbered m t ≡ Some c) (sym (found_number n c t.containers is)) is)

attach_by : (found : Found) (target : List ℕ) (ask : AttachAsk) (s t : State) → HasRuns t → t.containers ≡ s.containers
    → Opens (by_found found target (Attached ask) s).reply t
attach_by (Found.One n) target ask s t runs same =
    attach_one (container_numbered n s) n target ask s t runs (ap (find (λ (c : Container). c.number == n)) same)
attach_by Found.None target ask s t runs same = tt
attach_by Found.Many target ask s t runs same = tt

-- an attach tells an event, and changes no container
told_by : (o : Option Container) (s : State) → (with_found o (λ (c : Container) (s : State). tell (plain_event Action.Attach c s.clock ∷ []) s) s).state.containers ≡ s.containers
told_by None s = refl
told_by (Some c) s = refl

told_one : (o : Option Container) (target : List ℕ) (ask : AttachAsk) (s : State)
    → (option_map_or {U = State → Outcome} (Attached ask) o (refused 404 (no_such_container target)) s).effect.state.containers ≡ s.containers
told_one None target ask s = refl
told_one (Some c) target ask s = told_by (container_numbered c.number s) s

told : (found : Found) (target : List ℕ) (ask : AttachAsk) (s : State) → (by_found found target (Attached ask) s).effect.state.containers ≡ s.containers
told (Found.One n) target ask s = told_one (container_numbered n s) target ask s
told Found.None target ask s = refl
told Found.Many target ask s = refl

pub attach_opens : (target : List ℕ) (ask : AttachAsk) (k t : ℕ) (s : State) → HasRuns (after_step s (Step.Call k t (call.Attach target ask)))
    → Opens (reply_of s k t (call.Attach target ask)) (after_step s (Step.Call k t (call.Attach target ask)))
attach_opens target ask k t s runs =
    let now : State = at_moment t s in
    attach_by (container_by now.containers target) target ask now (after_step s (Step.Call k t (call.Attach target ask))) runs
    (told (container_by now.containers target) target ask now)

-- ---- of an exec

-- each exec has its output
output_stands : (n : ℕ) (xs : List Exec) (os : List OwnedLog) → map (λ (o : OwnedLog). o.owner) os ≡ map (λ (x : Exec). OfExec x.number) xs
    → IsTrue (is_some (find (λ (x : Exec). x.number == n) xs)) → IsTrue (is_some (find (λ (o : OwnedLog). same_owner o.owner (OfExec n)) os))
output_stands n [] os same stands = absurd (false≢true stands)
output_stands n (x ∷ xs) [] same stands = absurd (cc)
output_stands n (x ∷ xs) (o ∷ os) same stands =
    let owner : o.owner ≡ OfExec x.number = cc in
    let rest : map (λ (o : OwnedLog). o.owner) os ≡ map (λ (x : Exec). OfExec x.number) xs = cc in
    by (x.number == n) (ap (λ w. same_owner w (OfExec n)) owner) stands (λ more. output_stands n xs os rest more)
  where
    by : (b : Bool) → same_owner o.owner (OfExec n) ≡ b → IsTrue (is_some (if b then Some x else find (λ (x : Exec). x.number == n) xs))
        → (IsTrue (is_some (find (λ (x : Exec). x.number == n) xs)) → IsTrue (is_some (find (λ (o : OwnedLog). same_owner o.owner (OfExec n)) os)))
        → IsTrue (is_some (if same_owner o.owner (OfExec n) then Some o else find (λ (o : OwnedLog). same_owner o.owner (OfExec n)) os))
    by true is stands more = rw is refl
    by false is stands more = rw is (more stands)

some_log : (o : Option OwnedLog) → IsTrue (is_some o) → IsTrue (is_some (option_map (λ (l : OwnedLog). l.log) o))
some_log None is = absurd (false≢true is)
some_log (Some l) is = refl

some_kept : (o kept : Option (List LogRecord)) → IsTrue (is_some o) → IsTrue (is_some (option_or o kept))
some_kept None kept is = absurd (false≢true is)
some_kept (Some l) kept is = refl

-- its stream begins at its output's begin
exec_at : (x : Exec) (t : State) → IsConsistent t → IsTrue (is_some (exec_numbered x.number t)) → MayFollow t (exec_spec x)
exec_at x t consistent stands = record {
  kept = some_kept _ (kept_log (OfExec x.number) t) (some_log _ (output_stands x.number t.execs t.outputs consistent.execs.outputs stands));
  logged = omega arith;
  reached = omega arith;
  fed = asked_run x.stdin 1 (omega arith);
}

-- an exec that was found stands under its number, also once it has started
updated_by : (p : Exec → Bool) (s : State) (x y : Exec) (ys : List Exec) (first same : Bool) → p y ≡ first → (y.number == x.number) ≡ same
    → (if first then Some y else find p ys) ≡ Some x
    → (find p ys ≡ Some x → IsTrue (is_some (find (λ (z : Exec). z.number == x.number) (update_first (λ (z : Exec). z.number == x.number) (started s) ys))))
    → IsTrue (is_some (find (λ (z : Exec). z.number == x.number) (if same then started s y ∷ ys else y ∷ update_first (λ (z : Exec). z.number == x.number) (started s) ys)))
updated_by p s x y ys first true is same found more = rw same refl
updated_by p s x y ys true false is same found more =
    let one : (x.number == x.number) ≡ false = ap (λ (z : Exec). z.number == x.number) (sym (same_some y x found)) ∙ same in
    absurd (false≢true (sym one ∙ eq-eqb x.number x.number refl))
updated_by p s x y ys false false is same found more = rw same (more found)

updated : (p : Exec → Bool) (s : State) (x : Exec) (xs : List Exec) → find p xs ≡ Some x
    → IsTrue (is_some (find (λ (z : Exec). z.number == x.number) (update_first (λ (z : Exec). z.number == x.number) (started s) xs)))
updated p s x [] found = absurd (cc)
updated p s x (y ∷ ys) found = updated_by p s x y ys (p y) (y.number == x.number) refl refl found (updated p s x ys)

spawned_tells : (o : Option Container) (x : Exec) (s : State)
    → (with_found o (λ (c : Container) (s : State). tell (exec_event Action.ExecStart x.id c s.clock ∷ []) s) s).state.execs ≡ s.execs
spawned_tells None x s = refl
spawned_tells (Some c) x s = refl

spawned : (script : Option Program) (detach : Bool) (x : Exec) (s : State)
    → (spawn_exec script detach x s).state.execs ≡ update_first (λ (y : Exec). y.number == x.number) (started s) s.execs
spawned None detach x s = spawned_tells _ x (change_exec x.number (started s) s)
spawned (Some p) detach x s = spawned_tells _ x (spawn (OfExec x.number) p (x.stdin && not detach) exec_room (change_exec x.number (started s) s))

-- what is answered opens a stream in a state with the execs of the outcome
abbrev OpensIn : Outcome → State → Type 0
OpensIn o t = t.execs ≡ o.effect.state.execs → Opens o.reply t

ran_reply : (detach : Bool) (script : Option Program) (x : Exec) (s t : State) (p : Exec → Bool) → IsConsistent t → find p s.execs ≡ Some x
    → OpensIn (replies (start_reply detach x) (spawn_exec script detach x) s) t
ran_reply true script x s t p consistent found same = tt
ran_reply false script x s t p consistent found same =
    exec_at x t consistent
    (subst (λ xs. IsTrue (is_some (find (λ (z : Exec). z.number == x.number) xs))) (sym (same ∙ spawned script false x s)) (updated p s x s.execs found))

ran : (o script : Option Program) (detach : Bool) (x : Exec) (s t : State) (p : Exec → Bool) → IsConsistent t → find p s.execs ≡ Some x
    → OpensIn (if_program o x.words (replies (start_reply detach x) (spawn_exec script detach x)) s) t
ran None script detach x s t p consistent found same = tt
ran (Some program) script detach x s t p consistent found same = ran_reply detach script x s t p consistent found same

by_running : (status : Status) (c : Container) (e : State → Outcome) (s t : State) → OpensIn (e s) t → OpensIn (if_running status c e s) t
by_running Running c e s t h = h
by_running Created c e s t h = λ same. tt
by_running Exited c e s t h = λ same. tt
by_running Paused c e s t h = λ same. tt
by_running Restarting c e s t h = λ same. tt
by_running Removing c e s t h = λ same. tt
by_running Dead c e s t h = λ same. tt

by_started : (b : Bool) (id : List ℕ) (e : State → Outcome) (s t : State) → OpensIn (e s) t → OpensIn (unless_started b id e s) t
by_started true id e s t h = λ same. tt
by_started false id e s t h = h

by_container : (o : Option Container) (id : List ℕ) (f : Container → State → Outcome) (s t : State) → ((c : Container) → OpensIn (f c s) t)
    → OpensIn (option_map_or f o (refused 404 (no_such_exec id)) s) t
by_container None id f s t h = λ same. tt
by_container (Some c) id f s t h = h c

by_exec : (o : Option Exec) (id : List ℕ) (detach : Bool) (s t : State) (p : Exec → Bool) → IsConsistent t → find p s.execs ≡ o
    → OpensIn (with_exec o id (λ x c. unless_started x.started id (if_running c.life.status c (run detach x))) s) t
by_exec None id detach s t p consistent found = λ same. tt
by_exec (Some x) id detach s t p consistent found =
    by_container (container_numbered x.container s) id (λ c. unless_started x.started id (if_running c.life.status c (run detach x))) s t
    (λ c. by_started x.started id (if_running c.life.status c (run detach x)) s t
    (by_running c.life.status c (run detach x) s t
    (ran (program_of x.words 1) (program_of x.words 1) detach x s t p consistent found)))

pub exec_opens : (id : List ℕ) (detach : Bool) (k t : ℕ) (s : State) → IsConsistent (after_step s (Step.Call k t (call.ExecStart id detach)))
    → Opens (reply_of s k t (call.ExecStart id detach)) (after_step s (Step.Call k t (call.ExecStart id detach)))
exec_opens id detach k t s consistent =
    let now : State = at_moment t s in
    by_exec (find (λ (x : Exec). same_bytes x.id id) now.execs) id detach now (after_step s (Step.Call k t (call.ExecStart id detach)))
    (λ (x : Exec). same_bytes x.id id) consistent refl refl
