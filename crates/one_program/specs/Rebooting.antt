-- What a run of a line with `--reboot` says: of the journal that is read, and of the daemon that goes on with it (own).
use Rattle.std.specs.Prelude.{ℕ, ◌≡◌, ◌⊎◌, List, codes}
use Rattle.engine_ports.specs.Clock.{ClockView}
use Rattle.engine_ports.specs.Sink.{SinkView}
use Rattle.engine_ports.specs.Door.{Outside}
use Rattle.engine_line.specs.declared.line.OneLine.{OneLine}
use Rattle.session_model.specs.declared.ending.Worst.TheVariants as worst
use Rattle.daemon_core.specs.Passing.{whole_pass}
use Rattle.engine_reboot.specs.Rebooting.{RebootSays}
use Rattle.engine_reboot.specs.declared.rebooting.Rebooted.{Rebooted}
use Rattle.engine_reboot.specs.declared.rebooting.Rebooted.TheVariants.{Ready, Old, NotLegal, Full, NoMemory}
use Rattle.polled_ports.specs.PollDoor.{PollDoorView}
use Rattle.program_parts.specs.Opening.{OpensAt}
use Rattle.one_program.specs.declared.reading.Unread.{Unread}
use Rattle.one_program.specs.Listening.{Listens, ServesDoor}
use Rattle.one_program.specs.Reading.{GivesText, IsUnread}
use Rattle.one_program.specs.Refusing.{Refuses, TellsNothing, TellsUnread, TellsVerdict}

-- the history of a text is made again, at the moment at which a new daemon would be opened
abbrev pub Remakes : OneLine → List ℕ → Rebooted → ClockView → ClockView → Type 0
Remakes line text rebooted t t' =
    (moment : ℕ) × OpensAt line.clock moment t t' × RebootSays text line.entries moment rebooted

-- neither the clock nor the door nor the runner is touched
abbrev pub Untouched : ClockView → ClockView → PollDoorView → PollDoorView → ℕ → ℕ → Type 0
Untouched t t' d d' faults faults' = (t' ≡ t) × (d' ≡ d) × (faults' ≡ faults)

-- the daemon that is ready serves at the address, and numbers its connections from the first; else it is told why there is none
abbrev pub ComesTo : Rebooted → List ℕ → OneLine → ℕ → SinkView → SinkView → ClockView → ClockView → PollDoorView → PollDoorView → ℕ → ℕ → Type 0
ComesTo (Ready daemon first) addr line status u u' t t' d d' faults faults' =
    (u' ≡ u) × Listens addr status t t' d d' faults faults' (λ bound. ServesDoor line first (whole_pass daemon) status t t' bound d' faults faults')
ComesTo Old addr line status u u' t t' d d' faults faults' =
    Refuses (codes "journal of format 1\n") status u u' × Untouched t t' d d' faults faults'
ComesTo (NotLegal verdict) addr line status u u' t t' d d' faults faults' =
    TellsVerdict verdict status u u' × Untouched t t' d d' faults faults'
ComesTo (Full entries) addr line status u u' t t' d d' faults faults' =
    Refuses (codes "journal is full\n") status u u' × Untouched t t' d d' faults faults'
ComesTo NoMemory addr line status u u' t t' d d' faults faults' =
    TellsNothing worst.NoMemory status u u' × Untouched t t' d d' faults faults'

-- the history of a text was made again, and this came of it
pub record Continues (text addr : List ℕ) (line : OneLine) (status : ℕ) (u u' : SinkView) (t t' : ClockView) (d d' : PollDoorView) (faults faults' : ℕ) : Type 0 where
  pub rebooted : Rebooted
  pub opened : ClockView
  pub remakes : Remakes line text rebooted t opened
  pub comes : ComesTo rebooted addr line status u u' opened t' d d' faults faults'

-- the source gave a text and ended, and the daemon goes on with it or not
pub record GoesOnWith (addr : List ℕ) (line : OneLine) (status : ℕ) (o o' : Outside) (d d' : PollDoorView) (faults faults' : ℕ) : Type 0 where
  pub text : List ℕ
  pub gives : GivesText text o.source o'.source
  pub continues : Continues text addr line status o.sink o'.sink o.clock o'.clock d d' faults faults'

-- or there is no journal, and that is told
pub record HasNoJournal (status : ℕ) (o o' : Outside) (d d' : PollDoorView) (faults faults' : ℕ) : Type 0 where
  pub why : Unread
  pub unread : IsUnread why o.source o'.source
  pub tells : TellsUnread why status o.sink o'.sink
  pub untouched : Untouched o.clock o'.clock d d' faults faults'

abbrev pub Reboots : List ℕ → OneLine → ℕ → Outside → Outside → PollDoorView → PollDoorView → ℕ → ℕ → Type 0
Reboots addr line status o o' d d' faults faults' =
    HasNoJournal status o o' d d' faults faults' ⊎ GoesOnWith addr line status o o' d d' faults faults'
