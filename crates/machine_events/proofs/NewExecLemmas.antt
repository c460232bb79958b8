-- A new exec, in the tables and in the state.
use Rattle.std.proofs.Common.{◌≡◌, ◌+◌, List, [], ◌∷◌, ◌++◌, ap, ◌∙◌}
use Rattle.engine_text.specs.declared.exec.Exec.{Exec}
use Rattle.engine_text.specs.declared.log.OwnedLog.{OwnedLog}
use Rattle.machine_model.specs.Calls.ExecCreate.{with_exec}
use Rattle.machine_model.specs.State.{State}
use Rattle.exec_table.specs.Execs.{empty_output}

-- a state with these parts is the state after it
pub added_exec : (x : Exec) (s : State) (es : List Exec) (os : List OwnedLog) (o : OwnedLog) → es ≡ s.execs ++ x ∷ [] → os ≡ s.outputs ++ o ∷ [] → o ≡ empty_output x.number
    → record s { execs = es; outputs = os; next_number = s.next_number + 1 } ≡ with_exec x s
added_exec x s es os o h1 h2 h3 =
    ap (λ (l : List Exec). record s { execs = l; outputs = os; next_number = s.next_number + 1 }) h1
    ∙ ap (λ (l : List OwnedLog). record s { execs = s.execs ++ x ∷ []; outputs = l; next_number = s.next_number + 1 }) (h2 ∙ ap (λ q. s.outputs ++ q ∷ []) h3)
