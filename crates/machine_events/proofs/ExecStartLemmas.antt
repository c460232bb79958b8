-- The start of an exec, in the tables and in the state.
use Rattle.std.proofs.Common.{◌≡◌, ℕ, ◌==◌, ◌&&◌, Bool, not, Some, None, ap, sym, ◌∙◌}
use Rattle.std.proofs.lemmas.Bool.{eqb-true}
use Rattle.engine_text.specs.Scripts.{Program}
use Rattle.engine_text.specs.declared.event.Action.{Action}
use Rattle.engine_text.specs.declared.exec.Exec.{Exec}
use Rattle.machine_model.specs.Calls.ExecStart.{spawn_exec}
use Rattle.machine_model.specs.Chain.{with_found}
use Rattle.machine_model.specs.EventTexts.{exec_event}
use Rattle.machine_model.specs.State.{State, exec_numbered}
use Rattle.machine_events.specs.ExecStarts.{exec_begun, start_effect}
use Rattle.machine_events.proofs.SettleLemmas.{passes, tell_still}

-- the exec that is found has the number
pub has_exec_number : (n : ℕ) (s : State) (x : Exec) → exec_numbered n s ≡ Some x → x.number ≡ n
has_exec_number n s x e = eqb-true x.number n (passes (λ (y : Exec). y.number == n) s.execs x e)

-- of an exec that stands
pub start_some : (n : ℕ) (program : Program) (detach : Bool) (s : State) (x : Exec) → exec_numbered n s ≡ Some x
    → exec_begun n program (x.stdin && not detach) s ≡ (start_effect n program detach s).state
start_some n program detach s x found =
    let z : State = exec_begun x.number program (x.stdin && not detach) s in
    ap (λ k. exec_begun k program (x.stdin && not detach) s) (sym (has_exec_number n s x found))
    ∙ (sym (tell_still (exec_event Action.ExecStart x.id) x.container z) ∙ ap (λ o. (with_found o (spawn_exec (Some program) detach) s).state) (sym found))

-- of one that doesn't
pub start_none : (n : ℕ) (program : Program) (detach : Bool) (s : State) → exec_numbered n s ≡ None → s ≡ (start_effect n program detach s).state
start_none n program detach s none = ap (λ o. (with_found o (spawn_exec (Some program) detach) s).state) (sym none)
