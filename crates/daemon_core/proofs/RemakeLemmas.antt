-- What a step of a written history does to a daemon.
use Rattle.std.proofs.Common.{◌≡◌, ◌++◌, ℕ, List, [], ◌∷◌, sym, ap, subst, ◌∙◌, Result, Ok, Err, IfOk}
use Rattle.std.specs.Prelude.{OnOk, OnErr}
use Rattle.engine_text.specs.declared.call.Call.{Call}
use Rattle.engine_text.specs.declared.memory.NoMemory.{NoMemory}
use Rattle.engine_text.specs.declared.reply.Reply.{Reply}
use Rattle.engine_text.specs.declared.step.Step.{Step}
use Rattle.machine_model.specs.State.{State}
use Rattle.machine_model.specs.History.{Charter, IsLawful, IsLegal, reply_of, state_after}
use Rattle.daemon_core.specs.Keeping.{history_of}
use Rattle.daemon_core.specs.Storing.{Adds, AddsDue, pass_of}
use Rattle.daemon_core.specs.declared.stored.Stored.{Stored}
use Rattle.daemon_core.proofs.DaemonLemmas.{Stands, stands_more}

-- ---- due steps

pub due_on : {A : Type 0} (r : Result A NoMemory) (ch : Charter) (d d' : Stored) → Stands ch d.machine.memory.state (history_of d.journal)
    → IsLawful d.machine.memory.state Step.Due
    → IfOk r (λ x. AddsDue d.machine.memory.state d'.machine.memory.state (history_of d.journal) (history_of d'.journal))
    → OnErr r (d'.machine.memory.state ≡ d.machine.memory.state) → OnErr r (d'.journal ≡ d.journal)
    → Stands ch d'.machine.memory.state (history_of d'.journal)
due_on (Ok x) ch d d' st lawful made _ _ =
    stands_more ch d.machine.memory.state d'.machine.memory.state (history_of d.journal) (history_of d'.journal) (Step.Due ∷ []) st
    made.state made.steps_are (lawful, tt)
due_on (Err x) ch d d' st lawful _ same same' = record {
  is = same ∙ st.is ∙ ap (λ j. state_after ch (history_of j)) (sym same');
  legal = subst (λ j. IsLegal ch (history_of j)) (sym same') st.legal;
}

pub due_made : {A : Type 0} (r : Result A NoMemory) (ch : Charter) (s s' : State) (h h' : List Step) → IfOk r (λ x. AddsDue s s' h h')
    → OnOk r (pass_of ch h' ≡ pass_of ch (h ++ Step.Due ∷ []))
due_made (Ok x) ch s s' h h' made = ap (pass_of ch) made.steps_are
due_made (Err x) ch s s' h h' made = tt

pub due_stays : {A : Type 0} (r : Result A NoMemory) (ch : Charter) (d d' : Stored) → OnErr r (d'.journal ≡ d.journal)
    → OnErr r (pass_of ch (history_of d'.journal) ≡ pass_of ch (history_of d.journal))
due_stays (Ok x) ch d d' same = tt
due_stays (Err x) ch d d' same = ap (λ j. pass_of ch (history_of j)) same

-- ---- calls

-- a call's copy is lawful where it is
pub call_lawful : (s at : State) (k t : ℕ) (made c : Call) → s ≡ at → made ≡ c → IsLawful at (Step.Call k t c) → IsLawful s (Step.Call k t made)
call_lawful s at k t made c is same lawful =
    subst (λ (y : State). IsLawful y (Step.Call k t made)) (sym is) (subst (λ (x : Call). IsLawful at (Step.Call k t x)) (sym same) lawful)

pub call_reply : (r : Result Reply NoMemory) (s s' at : State) (h h' : List Step) (k t : ℕ) (made c : Call) → s ≡ at → made ≡ c
    → IfOk r (λ x. Adds k t made x s s' h h') → IfOk r (λ x. x ≡ reply_of at k t c)
call_reply (Ok x) s s' at h h' k t made c is same adds =
    adds.reply ∙ ap (λ (y : State). reply_of y k t made) is ∙ ap (reply_of at k t) same
call_reply (Err x) s s' at h h' k t made c is same adds = tt

pub call_made : (r : Result Reply NoMemory) (ch : Charter) (s s' : State) (h h' : List Step) (k t : ℕ) (made c : Call) → made ≡ c
    → IfOk r (λ x. Adds k t made x s s' h h') → OnOk r (pass_of ch h' ≡ pass_of ch (h ++ Step.Call k t c ∷ []))
call_made (Ok x) ch s s' h h' k t made c same adds =
    ap (pass_of ch) (adds.steps_are ∙ ap (λ (y : Call). h ++ Step.Call k t y ∷ []) same)
call_made (Err x) ch s s' h h' k t made c same adds = tt

pub call_stays : (r : Result Reply NoMemory) (ch : Charter) (h h' : List Step) → OnErr r (h' ≡ h) → OnErr r (pass_of ch h' ≡ pass_of ch h)
call_stays (Ok x) ch h h' same = tt
call_stays (Err x) ch h h' same = ap (pass_of ch) same
