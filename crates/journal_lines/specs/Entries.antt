-- The entries of a history (own: one a call, with its reply and the due steps before it).
use Rattle.std.specs.Prelude.{ℕ, ◌+◌, List, [], ◌∷◌}
use Rattle.machine_model.specs.State.{State}
use Rattle.machine_model.specs.History.{Charter, opening_state, after_step, reply_of}
use Rattle.engine_text.specs.declared.entry.Entry.{Entry}
use Rattle.engine_text.specs.declared.step.Step.{Step}

-- The entries of these steps, so many due steps having stood since the call before.
abbrev pub entries_from : State → ℕ → List Step → List Entry
entries_from s dues [] = []
entries_from s dues (Step.Due ∷ xs) = entries_from (after_step s Step.Due) (dues + 1) xs
entries_from s dues (Step.Call connection moment c ∷ xs) =
    record { dues = dues; conn = connection; moment = moment; call = c; reply = reply_of s connection moment c }
    ∷ entries_from (after_step s (Step.Call connection moment c)) 0 xs

-- The entries of a history.
abbrev pub history_entries : Charter → List Step → List Entry
history_entries charter h = entries_from (opening_state charter) 0 h
