-- What an exec create obeys.
use Rattle.std.proofs.Common.{◌≡◌, ℕ, Bool, List, [], ◌∷◌, Some, refl}
use Rattle.machine_model.specs.State.{State, container_numbered}
use Rattle.machine_model.specs.Chain.{change, and_then, tell_of}
use Rattle.machine_model.specs.Outcome.{Outcome, answers}
use Rattle.machine_model.specs.Call.{outcome_of}
use Rattle.machine_model.specs.EventTexts.{exec_event}
use Rattle.machine_model.specs.Calls.ExecCreate.{if_running, new_exec, with_exec, created}
use Rattle.machine_model.proofs.Fold.RowLemmas.{Same}
use Rattle.machine_model.proofs.Fold.TellLemmas.{Tells, tells_then, tells_quiet, tells_apart, HasByte}
use Rattle.machine_model.proofs.ObeyLemmas.{Obeys, obeys_answer, obeys_apart, obeys_at}
use Rattle.machine_model.proofs.ListLemmas.{all_append}
use Rattle.engine_text.specs.declared.call.Call.{Call}
use Rattle.engine_text.specs.declared.container.Container.{Container}
use Rattle.engine_text.specs.declared.reply.Reply.{Reply}
use Rattle.engine_text.specs.declared.status.Status.{Status}
use Rattle.engine_text.specs.declared.exec.Exec.{Exec}
use Rattle.engine_text.specs.declared.event.Action.TheVariants as Action

-- an exec needs a running container
pub if_running_case : (k : Call) (s : State) (c : Container) (f : State → Outcome) (u : Status) → Obeys k s (f s)
    → ((body : List ℕ) → Obeys k s (answers 409 body s)) → Obeys k s (if_running u c f s)
if_running_case k s c f Status.Running one refused = one
if_running_case k s c f Status.Created one refused = refused _
if_running_case k s c f Status.Exited one refused = refused _
if_running_case k s c f Status.Paused one refused = refused _
if_running_case k s c f Status.Restarting one refused = refused _
if_running_case k s c f Status.Removing one refused = refused _
if_running_case k s c f Status.Dead one refused = refused _

tells_created : (x : Exec) (c : Container) → HasByte x → Tells 0 Same (and_then (change (with_exec x)) (tell_of (exec_event Action.ExecCreate x.id) c.number)) Same
tells_created x c byte =
    tells_then (tells_apart (with_exec x) (λ s. refl) (λ s fit. (fit.0, fit.1, fit.2, fit.3, fit.4, all_append HasByte s.execs (x ∷ []) fit.5 (byte, tt))))
    (tells_quiet c.number (exec_event Action.ExecCreate x.id) (λ c t rs. refl))

makes : (target : List ℕ) (words : List (List ℕ)) (stdin out err : Bool) (s : State) (c : Container) → container_numbered c.number s ≡ Some c
    → Obeys (Call.ExecCreate target words stdin out err) s (created (new_exec c words stdin out err s) c s)
makes target words stdin out err s c found =
    let x : Exec = new_exec c words stdin out err s in
    obeys_apart (Call.ExecCreate target words stdin out err) s (Reply.Answer 201 _) (and_then (change (with_exec x)) (tell_of (exec_event Action.ExecCreate x.id) c.number)) (λ h. refl)
    (λ sound. tells_created x c tt)

pub exec_create_obeys : (target : List ℕ) (words : List (List ℕ)) (stdin out err : Bool) (connection : ℕ) (s : State)
    → Obeys (Call.ExecCreate target words stdin out err) s (outcome_of (Call.ExecCreate target words stdin out err) connection s)
exec_create_obeys target words stdin out err connection s =
    let k : Call = Call.ExecCreate target words stdin out err in
    obeys_at k s target (λ c. if_running c.life.status c (λ s. created (new_exec c words stdin out err s) c s)) refl refl
    (λ c found. if_running_case k s c (λ s. created (new_exec c words stdin out err s) c s) c.life.status (makes target words stdin out err s c found)
    (λ body. obeys_answer k s 409 body refl))
