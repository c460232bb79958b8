-- What control answers a request, and how its connection goes on (own).
use Rattle.std.specs.Prelude.{ℕ, ◌≡◌, ◌≤◌, ◌||◌, Bool, true, false, List, Option, Some, None, Result, Ok, Err, if◌then◌else◌}
use Rattle.engine_ports.specs.Sink.{SinkView, WriteSays}
use Rattle.engine_ports.specs.declared.ports.Failed.{Failed}
use Rattle.json_answer.specs.Answer.{json_answer}
use Rattle.json_answer.specs.declared.asking.Terms.{Terms}
use Rattle.manual_clock.specs.Moves.{greatest_moment}
use Rattle.lab_control.specs.Telling.{MovedSo, status_of, text_of}
use Rattle.lab_control.specs.Describing.{description_answer}
use Rattle.lab_control.specs.declared.asking.Move.{Move}
use Rattle.lab_control.specs.declared.asking.Asked.{Asked}
use Rattle.lab_control.specs.declared.asking.Asked.TheVariants as A
use Rattle.lab_control.specs.declared.telling.Told.{Told}
use Rattle.lab_control.specs.declared.telling.Told.TheVariants as T
use Rattle.control_session.specs.declared.way.Way.{Way}
use Rattle.control_session.specs.declared.way.Way.TheVariants.{On, Closes, Stops}

-- ---- the connection

-- behind the journal and the program's end the connection closes
abbrev pub closes_behind : Asked → Bool
closes_behind A.Journal = true
closes_behind A.Stop = true
closes_behind asked = false

abbrev pub is_stop : Asked → Bool
is_stop A.Stop = true
is_stop asked = false

abbrev pub terms_by : Asked → Terms → Terms
terms_by asked terms = if closes_behind asked then record terms { close = true } else terms

-- the answer wasn't written whole
abbrev pub is_lost : Result (Unit {0}) Failed → Bool
is_lost (Ok x) = false
is_lost (Err x) = true

abbrev pub way_by : Asked → Terms → Result (Unit {0}) Failed → Way
way_by asked terms written =
    if is_stop asked then Stops
    else if terms.close || is_lost written then Closes
    else On

-- ---- the answer

-- a move of the clock that is shared, or of the system's, which isn't moved
abbrev pub MovesSo : {T : Type 0} → Option T → Move → Told → Type 0
MovesSo (Some time) step told = MovedSo step told
MovesSo None step told = told ≡ T.Fixed

-- what is told of what is asked for; of the journal only that it can't be asked for
abbrev pub MayTell : {T : Type 0} → Option T → Asked → Told → Type 0
MayTell time A.Moment told = (moment : ℕ) × (moment ≤ greatest_moment) × (told ≡ T.Moment moment)
MayTell time (A.Move step) told = MovesSo time step told
MayTell time A.NoMove told = told ≡ T.NoMove
MayTell time A.Journal told = told ≡ T.NoJournal
MayTell time A.Description told = ⊥
MayTell time A.Stop told = told ≡ T.Stopping
MayTell time A.Other told = told ≡ T.Other

-- the bytes tell it
abbrev pub IsTold : {T : Type 0} → Option T → Asked → Terms → List ℕ → Type 0
IsTold time asked terms bytes =
    (told : Told) × MayTell time asked told × (bytes ≡ json_answer terms (status_of told) (text_of told))

-- the whole answer: what is told, or the description; of the journal whatever the daemon answers
abbrev pub IsAnswer : {T : Type 0} → Option T → Asked → Terms → List ℕ → Type 0
IsAnswer time A.Description terms bytes = bytes ≡ description_answer terms
IsAnswer time A.Journal terms bytes = Unit {0}
IsAnswer time asked terms bytes = IsTold time asked terms bytes

-- it is written, or a front of it where a write fails
abbrev pub Answers : {T : Type 0} → Option T → Asked → Terms → Result (Unit {0}) Failed → SinkView → SinkView → Type 0
Answers time asked terms written u u' =
    (whole : List ℕ) × IsAnswer time asked terms whole × WriteSays written whole u u'

-- some bytes are written, or a front of them where a write fails
abbrev pub Writes : Result (Unit {0}) Failed → SinkView → SinkView → Type 0
Writes written u u' = (whole : List ℕ) × WriteSays written whole u u'
