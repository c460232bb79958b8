-- What the definition of a run lets come, and what not.
use Rattle.std.proofs.Common.{◌≡◌, ◌⊎◌, ◌∙◌, inl, inr, ℕ, List, [], refl, subst, sym, arith, Option, Some, None}
use Rattle.std.specs.Prelude.{Result, Ok, Err}
use Rattle.engine_ports.specs.Rose.{Rose}
use Rattle.engine_ports.specs.Clock.{ClockView}
use Rattle.engine_ports.specs.Sink.{SinkView}
use Rattle.engine_ports.specs.Door.{Outside, outside, DoorView}
use Rattle.engine_text.specs.declared.memory.NoMemory.{NoMemory}
use Rattle.engine_line.specs.Lines.{line_of}
use Rattle.engine_line.specs.declared.line.Line.{Line}
use Rattle.engine_line.specs.declared.line.Stepping.{Stepping}
use Rattle.machine_model.specs.History.{Charter, HasNoCall, input_of}
use Rattle.session_model.specs.declared.ending.Ending.{Ending}
use Rattle.session_model.specs.declared.ending.Ending.TheVariants as E
use Rattle.session_model.specs.Session.{EndingCause}
use Rattle.session_model.specs.Guarantee.{Serves}
use Rattle.session_model.specs.Pass.{PassView, Every}
use Rattle.session_model.specs.Progress.{AddsOwn}
use Rattle.session_model.proofs.CauseLemmas.{causes}
use Rattle.daemon_core.specs.declared.daemon.Daemon.{Daemon}
use Rattle.daemon_core.specs.Passing.{whole_pass}
use Rattle.daemon_core.specs.Storing.{pass_of}
use Rattle.daemon_core.proofs.OwnFacts.{no_other}
use Rattle.daemon_shared.specs.Running.{ServesBy}
use Rattle.drill_session.specs.declared.drill.Drilled.{Drilled}
use Rattle.drill_session.specs.declared.drill.Drilled.TheVariants.{Reported, Ended}
use Rattle.drill_session.proofs.DrillLemmas.{no_read_fault, stopped_by}
use Rattle.engine_serve.specs.OwnClock.{unstopped}
use Rattle.program_parts.specs.Statuses.{status_of}
use Rattle.program_parts.proofs.StatusLemmas.{never_rose}
use Rattle.engine_program.specs.Opening.{charter_by, steps_of}
use Rattle.engine_program.specs.Drilling.{DrillsBy, TellsDrilled, RunsDrill}
use Rattle.engine_program.specs.Running.{RunsSession}
use Rattle.engine_program.specs.Program.{RunsLine, RunsProgram}

-- status 5 is that of a stopped session alone
five : (e : Ending) → status_of e ≡ 5 → e ≡ E.Stopped
five E.Stopped is = refl
five E.Closed is = absurd (omega (arith, is))
five E.CutShort is = absurd (omega (arith, is))
five (E.Refused status) is = absurd (omega (arith, is))
five E.JournalFull is = absurd (omega (arith, is))
five (E.Lagged next first) is = absurd (omega (arith, is))
five E.ReadFault is = absurd (omega (arith, is))
five E.WriteFault is = absurd (omega (arith, is))
five E.NoMemory is = absurd (omega (arith, is))

-- and never comes where the line sets the clock
pub never_five : (line : Line) (status : ℕ) (stepping : Stepping) (o o' : Outside) → line.clock ≡ Some stepping
    → RunsSession line status o o' → status ≡ 5 → ⊥
never_five line status stepping o o' sets ran is =
    let ch = charter_by line ran.opening in
    let old = outside o.source o.sink unstopped in
    let new = outside o'.source o'.sink unstopped in
    let by : (o'.clock ≡ ran.opened) × Serves 0 ran.ending (pass_of ch []) ran.pass old new =
    subst (λ (c : Option Stepping). ServesBy (steps_of c) 0 ran.ending (pass_of ch []) ran.pass (outside o.source o.sink ran.opened) o') sets ran.serves in
    let v = by.1 in
    let cause : EndingCause (Some ran.ending) old new =
    causes ch 0 ran.ending v.pumps
    (record { read = v.read; written = v.written; handed = v.goes.handed; from = []; to = ran.pass.seen; old = old; new = new })
    v.session in
    never_rose (subst (λ e. EndingCause (Some e) old new) (five ran.ending (sym ran.status_is ∙ is)) cause)

stopped_drill : (steps : ℕ × ℕ) (ch : Charter) (requests : ℕ) (t t' : ClockView)
    → DrillsBy (Some steps) ch requests (Ok (Ended E.Stopped)) t t' → ⊥
stopped_drill steps ch requests t t' drills = never_rose (stopped_by ch requests unstopped unstopped drills.1.2)

never_five_told : (steps : ℕ × ℕ) (ch : Charter) (requests : ℕ) (t t' : ClockView) (r : Result Drilled NoMemory) (status : ℕ) (u u' : SinkView)
    → DrillsBy (Some steps) ch requests r t t' → TellsDrilled r status u u' → status ≡ 5 → ⊥
never_five_told steps ch requests t t' (Ok (Reported text)) status u u' drills (Ok x, told, wrote) is = omega (arith, told, is)
never_five_told steps ch requests t t' (Ok (Reported text)) status u u' drills (Err x, told, wrote) is = omega (arith, told, is)
never_five_told steps ch requests t t' (Ok (Ended e)) status u u' drills told is =
    stopped_drill steps ch requests t t' (subst (λ x. DrillsBy (Some steps) ch requests (Ok (Ended x)) t t') (five e (sym told.0 ∙ is)) drills)
never_five_told steps ch requests t t' (Err none) status u u' drills told is = omega (arith, told.0, is)

-- nor of a drill
pub never_five_drilled : (line : Line) (requests status : ℕ) (stepping : Stepping) (u u' : SinkView) (t t' : ClockView) → line.clock ≡ Some stepping
    → RunsDrill line requests status u u' t t' → status ≡ 5 → ⊥
never_five_drilled line requests status stepping u u' t t' sets ran is =
    never_five_told (stepping.start, stepping.step) (charter_by line ran.opening) requests ran.opened t' ran.drilled status u u'
    (subst (λ (c : Option Stepping). DrillsBy (steps_of c) (charter_by line ran.opening) requests ran.drilled ran.opened t') sets ran.drills) ran.tells is

-- status 2 is that of no session
two : (e : Ending) → status_of e ≡ 2 → ⊥
two E.Closed is = omega (arith, is)
two E.CutShort is = omega (arith, is)
two (E.Refused status) is = omega (arith, is)
two E.Stopped is = omega (arith, is)
two E.JournalFull is = omega (arith, is)
two (E.Lagged next first) is = omega (arith, is)
two E.ReadFault is = omega (arith, is)
two E.WriteFault is = omega (arith, is)
two E.NoMemory is = omega (arith, is)

pub never_two : (line : Line) (status : ℕ) (o o' : Outside) → RunsSession line status o o' → status ≡ 2 → ⊥
never_two line status o o' ran is = two ran.ending (sym ran.status_is ∙ is)

-- nor is it that of a drill
never_two_told : (r : Result Drilled NoMemory) (status : ℕ) (u u' : SinkView) → TellsDrilled r status u u' → status ≡ 2 → ⊥
never_two_told (Ok (Reported text)) status u u' (Ok x, told, wrote) is = omega (arith, told, is)
never_two_told (Ok (Reported text)) status u u' (Err x, told, wrote) is = omega (arith, told, is)
never_two_told (Ok (Ended e)) status u u' told is = two e (sym told.0 ∙ is)
never_two_told (Err none) status u u' told is = omega (arith, told.0, is)

pub never_two_drilled : (line : Line) (requests status : ℕ) (u u' : SinkView) (t t' : ClockView)
    → RunsDrill line requests status u u' t t' → status ≡ 2 → ⊥
never_two_drilled line requests status u u' t t' ran is = never_two_told ran.drilled status u u' ran.tells is

-- a drill's status 4 comes of the report's write alone
unfailed : (e : Ending) → status_of e ≡ 4 → (e ≡ E.ReadFault) ⊎ (e ≡ E.WriteFault)
unfailed E.ReadFault is = inl refl
unfailed E.WriteFault is = inr refl
unfailed E.Closed is = absurd (omega (arith, is))
unfailed E.CutShort is = absurd (omega (arith, is))
unfailed (E.Refused status) is = absurd (omega (arith, is))
unfailed E.Stopped is = absurd (omega (arith, is))
unfailed E.JournalFull is = absurd (omega (arith, is))
unfailed (E.Lagged next first) is = absurd (omega (arith, is))
unfailed E.NoMemory is = absurd (omega (arith, is))

unread_drill : (steps : Option (ℕ × ℕ)) (ch : Charter) (requests : ℕ) (t t' : ClockView)
    → DrillsBy steps ch requests (Ok (Ended E.ReadFault)) t t' → ⊥
unread_drill None ch requests t t' drills = no_read_fault ch requests t t' drills.2
unread_drill (Some stepping) ch requests t t' drills = no_read_fault ch requests unstopped unstopped drills.1.2

unwritten_drill : (steps : Option (ℕ × ℕ)) (ch : Charter) (requests : ℕ) (t t' : ClockView)
    → DrillsBy steps ch requests (Ok (Ended E.WriteFault)) t t' → ⊥
unwritten_drill None ch requests t t' drills = drills.1 refl
unwritten_drill (Some stepping) ch requests t t' drills = drills.1.1 refl

four_told : (steps : Option (ℕ × ℕ)) (ch : Charter) (requests : ℕ) (t t' : ClockView) (r : Result Drilled NoMemory) (status : ℕ) (u u' : SinkView)
    → DrillsBy steps ch requests r t t' → TellsDrilled r status u u' → status ≡ 4 → Rose u.faults u'.faults
four_told steps ch requests t t' (Ok (Reported text)) status u u' drills (Ok x, told, wrote) is = absurd (omega (arith, told, is))
four_told steps ch requests t t' (Ok (Reported text)) status u u' drills (Err x, told, wrote) is = wrote.3
four_told steps ch requests t t' (Ok (Ended e)) status u u' drills told is = absurd (go (unfailed e (sym told.0 ∙ is)))
  where
    go : (e ≡ E.ReadFault) ⊎ (e ≡ E.WriteFault) → ⊥
    go (inl read) = unread_drill steps ch requests t t' (subst (λ x. DrillsBy steps ch requests (Ok (Ended x)) t t') read drills)
    go (inr write) = unwritten_drill steps ch requests t t' (subst (λ x. DrillsBy steps ch requests (Ok (Ended x)) t t') write drills)
four_told steps ch requests t t' (Err none) status u u' drills told is = absurd (omega (arith, told.0, is))

pub four_drilled : (line : Line) (requests status : ℕ) (u u' : SinkView) (t t' : ClockView)
    → RunsDrill line requests status u u' t t' → status ≡ 4 → Rose u.faults u'.faults
four_drilled line requests status u u' t t' ran is =
    four_told (steps_of line.clock) (charter_by line ran.opening) requests ran.opened t' ran.drilled status u u' ran.drills ran.tells is

-- and it is what words end with that aren't a line, where there was memory to read them
pub no_line : (words : List (List ℕ)) (status : ℕ) (o o' : Outside) (d d' : DoorView) → line_of words ≡ None
    → RunsProgram words status o o' d d' → (status ≡ 6) ⊎ (status ≡ 2)
no_line words status o o' d d' none (inl wants) = inl wants.0
no_line words status o o' d d' none (inr runs) =
    let told : RunsLine None status o o' d d' = subst (λ (l : Option Line). RunsLine l status o o' d d') none runs in
    inr told.0.0.0

-- ---- nobody else calls

adds_by : (steps : Option (ℕ × ℕ)) (k : ℕ) (e : Ending) (p q : PassView) (o o' : Outside) → ServesBy steps k e p q o o' → p.number ≡ Every
    → AddsOwn k p q
adds_by None k e p q o o' serves every = serves.goes.adds every
adds_by (Some stepping) k e p q o o' serves every = serves.1.goes.adds every

-- all calls of a session's daemon are of connection 0 and its standard input
pub all_own : (line : Line) (status : ℕ) (o o' : Outside) (ran : RunsSession line status o o') (d : Daemon) (n : ℕ) → ran.pass ≡ whole_pass d
    → (n ≡ 0 → ⊥) → (n ≡ input_of 0 → ⊥) → HasNoCall n ran.pass.seen
all_own line status o o' ran d n is other no_input =
    let ch = charter_by line ran.opening in
    let adds = adds_by (steps_of line.clock) 0 ran.ending (pass_of ch []) ran.pass (outside o.source o.sink ran.opened) o' ran.serves refl in
    subst (λ (q : PassView). HasNoCall n q.seen) (sym is)
    (no_other 0 n other no_input ch (whole_pass d).seen (subst (AddsOwn 0 (pass_of ch [])) is adds))
