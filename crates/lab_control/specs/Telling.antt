-- What control tells, and with which status (own).
use Rattle.std.specs.Prelude.{ℕ, ◌≡◌, ◌≤◌, List, ◌++◌, Result, Ok, Err, codes, decimal}
use Rattle.manual_clock.specs.Moves.{greatest_moment, moved_to, moved_by}
use Rattle.manual_clock.specs.declared.moving.MoveFault.{MoveFault}
use Rattle.manual_clock.specs.declared.moving.MoveFault.TheVariants.{Backwards, TooFar, PastGreatest}
use Rattle.lab_control.specs.declared.asking.Move.{Move}
use Rattle.lab_control.specs.declared.asking.Move.TheVariants.{To, By}
use Rattle.lab_control.specs.declared.telling.Told.{Told}
use Rattle.lab_control.specs.declared.telling.Told.TheVariants.{Moment, Refused, NoMove, Fixed, NoJournal, Stopping, Other}

-- ---- moves

-- the answer of a move at a moment
abbrev pub moved : ℕ → Move → Result ℕ MoveFault
moved now (To to) = moved_to now to
moved now (By ms) = moved_by now ms

-- what it tells
abbrev pub told_of : Result ℕ MoveFault → Told
told_of (Ok moment) = Moment moment
told_of (Err fault) = Refused fault

-- what a move tells by the moment that stood then
pub record MovedSo (step : Move) (told : Told) : Type 0 where
  pub now : ℕ
  pub within : now ≤ greatest_moment
  pub is : told ≡ told_of (moved now step)

-- ---- texts

abbrev pub moment_text : ℕ → List ℕ
moment_text moment = codes "{\"moment\":" ++ decimal moment ++ codes "}"

abbrev pub refusal_text : MoveFault → List ℕ
refusal_text Backwards = codes "{\"message\":\"the clock never goes back\"}"
refusal_text TooFar = codes "{\"message\":\"a move adds a week at most, 604800000 ms\"}"
refusal_text PastGreatest = codes "{\"message\":\"the clock goes up to 9000000000000\"}"

abbrev pub no_move_text : List ℕ
no_move_text = codes "{\"message\":\"a move is to=MS or by=MS, and MS has one to 13 decimal digits\"}"

abbrev pub fixed_text : List ℕ
fixed_text = codes "{\"message\":\"the clock is the system's, and can't be moved\"}"

abbrev pub no_journal_text : List ℕ
no_journal_text = codes "{\"message\":\"the daemon can't be asked for its journal\"}"

-- what control answers
abbrev pub list_text : List ℕ
list_text = codes "{\"message\":\"control answers GET /clock, POST /clock?to=MS, POST /clock?by=MS, GET /journal, GET /openapi.yaml and POST /stop\"}"

-- the answer's status, and its text
abbrev pub status_of : Told → ℕ
status_of (Moment moment) = 200
status_of (Refused fault) = 400
status_of NoMove = 400
status_of Fixed = 400
status_of NoJournal = 500
status_of Stopping = 200
status_of Other = 404

abbrev pub text_of : Told → List ℕ
text_of (Moment moment) = moment_text moment
text_of (Refused fault) = refusal_text fault
text_of NoMove = no_move_text
text_of Fixed = fixed_text
text_of NoJournal = no_journal_text
text_of Stopping = codes "{}"
text_of Other = list_text
