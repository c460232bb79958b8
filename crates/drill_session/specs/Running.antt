-- What a drill says of its one session, and of the report of what its requests came to (own).
use Rattle.std.specs.Prelude.{ℕ, ◌≡◌, ◌≢◌, ◌⊎◌, [], List, length, Some, Result, Ok, Err}
use Rattle.std.specs.List.{concat}
use Rattle.engine_ports.specs.Clock.{ClockView}
use Rattle.engine_ports.specs.Door.{outside}
use Rattle.engine_text.specs.declared.memory.NoMemory.{NoMemory}
use Rattle.engine_text.specs.declared.step.Step.{Step}
use Rattle.machine_model.specs.History.{Charter, events_of, state_after}
use Rattle.journal_lines.specs.Verdict.{IsVerdict}
use Rattle.journal_lines.specs.declared.format.Format.TheVariants.{Second}
use Rattle.journal_lines.specs.declared.verdict.Verdict.{Verdict}
use Rattle.journal_lines.specs.declared.verdict.Verdict.TheVariants.{Legal}
use Rattle.history_replay.specs.Legal.{journal_of, steps_told}
use Rattle.session_model.specs.declared.ending.Ending.{Ending}
use Rattle.session_model.specs.declared.ending.Ending.TheVariants as E
use Rattle.session_model.specs.Guarantee.{Serves}
use Rattle.daemon_core.specs.Storing.{charter_of, pass_of}
use Rattle.drill_model.specs.Source.{full_source, empty_sink}
use Rattle.drill_model.specs.Requests.{drill_requests}
use Rattle.drill_model.specs.Answers.{HaveStatuses, counts_of}
use Rattle.drill_model.specs.Report.{report_by}
use Rattle.drill_session.specs.declared.drill.Drill.{Drill}
use Rattle.drill_session.specs.declared.drill.Drilled.{Drilled}
use Rattle.drill_session.specs.declared.drill.Drilled.TheVariants.{Reported, Ended}

-- the daemon of a drill
abbrev pub charter_by : Drill → Charter
charter_by drill = charter_of drill.seed drill.opening drill.entries

-- one session of connection 0, by a new daemon: it reads the drill's requests, and ends so
pub record Session (ch : Charter) (requests : ℕ) (e : Ending) (t t' : ClockView) : Type 0 where
  pub history : List Step
  pub left : List ℕ
  pub ends : ℕ
  pub written : List ℕ
  pub faults : ℕ
  pub serves : Serves 0 e (pass_of ch []) (pass_of ch history)
      (outside (full_source (concat (drill_requests ch.seed requests)) 0) empty_sink t)
      (outside (full_source left ends) (record { wrote = Some written; faults = faults }) t')

-- the text is the report of so many requests, of what was written and of the history that they led to
pub record IsReport (ch : Charter) (requests : ℕ) (written : List ℕ) (h : List Step) (text : List ℕ) : Type 0 where
  pub statuses : List ℕ
  pub answered : HaveStatuses written statuses
  -- what is said of the history's whole journal: it is legal, with the steps up to the last call
  pub verdict : Verdict
  pub judged : IsVerdict ch (journal_of Second ch h) verdict
  pub legal : verdict ≡ Legal (steps_told ch h)
  pub text_is : text ≡ report_by requests (counts_of statuses) (length (events_of ch h)) (length (state_after ch h).containers) verdict

-- there is a report where the session is closed, and there alone. Want of memory is the one free answer: also that of
-- the sink in memory, which fails for it alone
abbrev pub Drills : Charter → ℕ → Result Drilled NoMemory → ClockView → ClockView → Type 0
Drills ch requests (Ok (Reported text)) t t' =
    (s : Session ch requests E.Closed t t') × IsReport ch requests s.written s.history text
Drills ch requests (Ok (Ended e)) t t' = (e ≢ E.Closed) × (e ≢ E.WriteFault) × Session ch requests e t t'
Drills ch requests (Err none) t t' = (t' ≡ t) ⊎ ((e : Ending) × Session ch requests e t t')
