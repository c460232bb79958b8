-- What a step of a written history does to the daemon on which it is made again.
use Rattle.std.proofs.Common.{◌≡◌, ◌++◌, ℕ, List, [], ◌∷◌, refl, sym, ap, subst, ◌∙◌, arith, Some, Result, Ok, Err}
use Rattle.std.specs.Prelude.{max, OnOk, OnErr}
use Rattle.engine_text.specs.declared.call.Call.{Call}
use Rattle.engine_text.specs.declared.memory.NoMemory.{NoMemory}
use Rattle.engine_text.specs.declared.step.Step.{Step}
use Rattle.machine_model.specs.State.{State}
use Rattle.machine_model.specs.History.{Charter, state_after}
use Rattle.machine_model.proofs.Histories.{run_append}
use Rattle.session_model.specs.Pass.{PassView}
use Rattle.daemon_core.specs.Storing.{pass_of}
use Rattle.history_replay.specs.Standing.{KeptHistory, Standing, behind}
use Rattle.engine_reboot.specs.Reopening.{behind_client, next_connection, standing_of}

-- ---- the next connection

pub next_due : (h : List Step) → next_connection (h ++ Step.Due ∷ []) ≡ next_connection h
next_due [] = refl
next_due (Step.Due ∷ h) = next_due h
next_due (Step.Call k t c ∷ h) = ap (max (behind_client k)) (next_due h)

max_swap : (a b c : ℕ) → max a (max b c) ≡ max b (max a c)
max_swap a b c = omega arith

pub next_call : (h : List Step) (k t : ℕ) (c : Call) → next_connection (h ++ Step.Call k t c ∷ []) ≡ max (behind_client k) (next_connection h)
next_call [] k t c = refl
next_call (Step.Due ∷ h) k t c = next_call h k t c
next_call (Step.Call j u d ∷ h) k t c =
    ap (max (behind_client j)) (next_call h k t c) ∙ max_swap (behind_client j) (behind_client k) (next_connection h)

pub due_next : {A : Type 0} (r : Result A NoMemory) (q : PassView) (ch : Charter) (h : List Step) → OnOk r (q ≡ pass_of ch (h ++ Step.Due ∷ []))
    → OnErr r (q ≡ pass_of ch h) → next_connection h ≡ next_connection q.seen
due_next (Ok x) q ch h made stays = sym (ap (λ (p : PassView). next_connection p.seen) made ∙ next_due h)
due_next (Err x) q ch h made stays = sym (ap (λ (p : PassView). next_connection p.seen) stays)

pub call_next : (q : PassView) (ch : Charter) (h : List Step) (k t next now : ℕ) (c : Call) → q ≡ pass_of ch (h ++ Step.Call k t c ∷ [])
    → next ≡ next_connection h → now ≡ max (behind_client k) next → now ≡ next_connection q.seen
call_next q ch h k t next now c made was is =
    is ∙ ap (max (behind_client k)) was ∙ sym (ap (λ (p : PassView). next_connection p.seen) made ∙ next_call h k t c)

-- ---- where it stands

-- who has seen more steps stands behind them
pub stands_on : (ch : Charter) (h more : List Step) → standing_of (pass_of ch (h ++ more)) ≡ behind (standing_of (pass_of ch h)) more
stands_on ch h more =
    ap (λ (y : State). record { state = y; kept = Some (record { charter = ch; steps = h ++ more }) }) (run_append ch h more)

pub made_on : {A : Type 0} (r : Result A NoMemory) (q : PassView) (ch : Charter) (h more : List Step) → OnOk r (q ≡ pass_of ch (h ++ more))
    → OnOk r (standing_of q ≡ behind (standing_of (pass_of ch h)) more)
made_on (Ok x) q ch h more is = ap standing_of is ∙ stands_on ch h more
made_on (Err x) q ch h more is = tt

pub stays_on : {A : Type 0} (r : Result A NoMemory) (p q : PassView) → OnErr r (q ≡ p) → OnErr r (standing_of q ≡ standing_of p)
stays_on (Ok x) p q same = tt
stays_on (Err x) p q same = ap standing_of same
