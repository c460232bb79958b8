-- What the statuses 4 and 5 come of.
use Rattle.std.proofs.Common.{◌≡◌, ◌⊎◌, ◌∙◌, inl, inr, ⊎_elim, ℕ, zero, suc, List, [], ◌∷◌, ◌++◌, ◌≤◌, length, map, refl, subst, sym, ap, arith, Option, Some, None}
use Rattle.std.specs.Prelude.{Contains}
use Rattle.engine_ports.specs.Rose.{Rose}
use Rattle.engine_ports.specs.Clock.{ClockView}
use Rattle.engine_ports.specs.Door.{Outside, DoorView}
use Rattle.engine_ports.specs.Sink.{SinkView}
use Rattle.engine_ports.specs.Source.{SourceView}
use Rattle.engine_ports.proofs.PortLemmas.{rose_since}
use Rattle.engine_line.specs.declared.line.Beginning.{Beginning}
use Rattle.engine_line.specs.declared.line.Beginning.TheVariants.{New, Reboot}
use Rattle.engine_line.specs.declared.line.OneLine.{OneLine}
use Rattle.engine_line.specs.declared.line.Stepping.{Stepping}
use Rattle.session_model.specs.declared.ending.Worst.{Worst}
use Rattle.session_model.specs.declared.ending.Worst.TheVariants as W
use Rattle.session_model.specs.Session.{EndingCause}
use Rattle.session_model.specs.Pass.{PassView}
use Rattle.session_model.proofs.CauseLemmas.{causes}
use Rattle.daemon_core.specs.declared.daemon.Daemon.{Daemon}
use Rattle.daemon_core.specs.Passing.{whole_pass}
use Rattle.daemon_core.specs.Storing.{charter_of, pass_of}
use Rattle.door_model.specs.Connections.{most_from}
use Rattle.door_model.specs.Worsts.{called_by}
use Rattle.engine_reboot.specs.declared.rebooting.Rebooted.{Rebooted}
use Rattle.engine_reboot.specs.declared.rebooting.Rebooted.TheVariants.{Ready, Old, NotLegal, Full, NoMemory}
use Rattle.polled_ports.specs.PollDoor.{PollDoorView}
use Rattle.engine_loop.specs.Lives.{AllLived, Life, Lived, Run, by_clock, span_of}
use Rattle.engine_loop.specs.Running.{Halts, RunsLoop}
use Rattle.engine_serve.specs.OwnClock.{unstopped}
use Rattle.program_parts.specs.Statuses.{status_by}
use Rattle.program_parts.proofs.StatusLemmas.{fault_alone, faulted, stopped_alone, unstopped_by}
use Rattle.one_program.specs.declared.reading.Unread.{Unread}
use Rattle.one_program.specs.declared.reading.Unread.TheVariants as U
use Rattle.one_program.specs.Laws.{IsBeginning, SomeFailed, law_never_stopped, law_failed}
use Rattle.one_program.specs.Listening.{FailsToBind, GoesOn, HasNoMemory, Listens, RunnerFails, RunsBy, ServesDoor, ServesNew}
use Rattle.one_program.specs.Program.{BeginsBy, WantsMemory}
use Rattle.one_program.specs.Reading.{IsUnread}
use Rattle.one_program.specs.Rebooting.{ComesTo, GoesOnWith, HasNoJournal, Remakes}
use Rattle.one_program.specs.Refusing.{TellsUnread}

-- ---- the connections of a loop

lived_cause : (r : Run) (k : ℕ) (l : Life) → Lived r k l → EndingCause (Some l.ending) (by_clock l.came r.clock) (by_clock l.left r.clock_now)
lived_cause r k l x = causes r.charter k l.ending x.pumps (span_of r l (r.given ++ x.before) x.to) x.session

-- one that lived and called for this
abbrev Called : Run → List (ℕ × Life) → Worst → Type 0
Called r ls w = (x : ℕ × Life) × Contains ls x × Lived r x.0 x.1 × (called_by x.1.ending ≡ w)

called_for : (r : Run) (ls : List (ℕ × Life)) (w : Worst) → AllLived r ls → Contains (map (λ (x : ℕ × Life). called_by x.1.ending) ls) w → Called r ls w
called_for r [] w lived (i, less, at) = absurd (omega (arith, less))
called_for r (x ∷ ls) w lived (zero, less, at) = (x, (zero, omega arith, refl), lived.0, at)
called_for r (x ∷ ls) w lived (suc i, less, at) =
    let c = called_for r ls w lived.1 (i, omega (arith, less), at) in
    let found = c.1 in (c.0, (suc found.0, (let f = found.1 in omega (arith, f)), found.2), c.2, c.3)

either : (r : Run) (why w : Worst) (ls : List (ℕ × Life)) → AllLived r ls → Contains (why ∷ map (λ (x : ℕ × Life). called_by x.1.ending) ls) w → (why ≡ w) ⊎ Called r ls w
either r why w ls lived (zero, less, at) = inl at
either r why w ls lived (suc i, less, at) = inr (called_for r ls w lived (i, omega (arith, less), at))

never_halts : (why : Worst) (most n : ℕ) (d d' : DoorView) (t t' : ClockView) → why ≡ W.Stopped → Halts why most n d d' t t' → ⊥
never_halts why most n d d' t t' is halts = subst (λ y. Halts y most n d d' t t') is halts

halts_failed : (why : Worst) (most n : ℕ) (d d' : DoorView) (t t' : ClockView) → why ≡ W.Fault → Halts why most n d d' t t' → Rose d.faults d'.faults
halts_failed why most n d d' t t' is halts = subst (λ y. Halts y most n d d' t t') is halts

module _ (first most : ℕ) (w : Worst) (p q : PassView) (d d' : PollDoorView) (t t' : ClockView) (r : RunsLoop first most w p q d d' t t') where
  abbrev run_of : Run
  run_of = record { charter = p.charter; given = p.seen; added = r.added; moments = r.moments; clock = t; clock_now = t' }

  why_or_life : (r.why ≡ w) ⊎ Called run_of r.lives w
  why_or_life = either run_of r.why w r.lives r.lived r.worst_is.0

ran_unstopped : (first most : ℕ) (w : Worst) (p q : PassView) (d d' : PollDoorView) → RunsLoop first most w p q d d' unstopped unstopped → status_by w ≡ 5 → ⊥
ran_unstopped first most w p q d d' r is =
    let run = run_of first most w p q d d' unstopped unstopped r in
    ⊎_elim
    (λ (e : r.why ≡ w). never_halts r.why most (length r.cames) d.door d'.door unstopped unstopped (e ∙ stopped_alone w is) r.halts)
    (λ (one : Called run r.lives w). unstopped_by one.0.1.ending (by_clock one.0.1.came unstopped) (by_clock one.0.1.left unstopped) refl refl (lived_cause run one.0.0 one.0.1 one.2) (ap status_by one.3 ∙ is))
    (why_or_life first most w p q d d' unstopped unstopped r)

-- ---- a line's daemon behind its door

module _ (line : OneLine) (first : ℕ) (begun : PassView) where
  abbrev most : ℕ
  most = most_from first line.connections

  module _ (begins : IsBeginning line.beginning line first begun) (faults : ℕ) (bound d' : PollDoorView) (since : faults ≤ bound.door.faults) where
    ran_failed : (daemon : Daemon) (t t' : ClockView) → RunsLoop first most W.Fault begun (whole_pass daemon) bound d' t t' → Rose faults d'.door.faults ⊎ SomeFailed line d'
    ran_failed daemon t t' r =
        let run = run_of first most W.Fault begun (whole_pass daemon) bound d' t t' r in
        ⊎_elim
        (λ (e : r.why ≡ W.Fault). inl (rose_since faults bound.door.faults d'.door.faults since (halts_failed r.why most (length r.cames) bound.door d'.door t t' e r.halts)))
        (λ (one : Called run r.lives W.Fault). inr (record {
          first = first;
          begun = begun;
          begins = begins;
          daemon = daemon;
          bound = bound;
          clock = t;
          clock_now = t';
          runs = r;
          number = one.0.0;
          life = one.0.1;
          served = one.1;
          failed = faulted one.0.1.ending (by_clock one.0.1.came t) (by_clock one.0.1.left t') (lived_cause run one.0.0 one.0.1 one.2) (ap status_by one.3);
        }))
        (why_or_life first most W.Fault begun (whole_pass daemon) bound d' t t' r)

    ran_by : (clock : Option Stepping) (daemon : Daemon) (t t' : ClockView) → RunsBy clock first most W.Fault begun (whole_pass daemon) bound d' t t'
        → Rose faults d'.door.faults ⊎ SomeFailed line d'
    ran_by None daemon t t' runs = ran_failed daemon t t' runs
    ran_by (Some stepping) daemon t t' runs = ran_failed daemon unstopped unstopped runs.1

    door_failed : (t t' : ClockView) (n n' : ℕ) → ServesDoor line first begun 4 t t' bound d' n n' → Rose faults d'.door.faults ⊎ (Rose n n' ⊎ SomeFailed line d')
    door_failed t t' n n' serves = ⊎_elim
        (λ (none : HasNoMemory serves.worst t t' bound d' n n'). absurd (let e = serves.status_is ∙ ap status_by none.0 in omega (arith, e)))
        (λ came. ⊎_elim
        (λ (fails : RunnerFails serves.worst n n'). inr (inl fails.1))
        (λ (ran : GoesOn line first begun serves.worst t t' bound d').
        ⊎_elim inl (λ some. inr (inr some))
        (ran_by line.clock ran.0 t t'
        (subst (λ w. RunsBy line.clock first most w begun (whole_pass ran.0) bound d' t t') (fault_alone serves.worst (sym serves.status_is)) ran.1)))
        came)
        serves.comes

  door_unstopped : (stepping : Stepping) (bound d' : PollDoorView) (t t' : ClockView) (n n' : ℕ) → line.clock ≡ Some stepping → ServesDoor line first begun 5 t t' bound d' n n' → ⊥
  door_unstopped stepping bound d' t t' n n' sets serves = ⊎_elim
      (λ (none : HasNoMemory serves.worst t t' bound d' n n'). (let e = serves.status_is ∙ ap status_by none.0 in omega (arith, e)))
      (λ came. ⊎_elim
      (λ (fails : RunnerFails serves.worst n n'). (let e = serves.status_is ∙ ap status_by fails.0 in omega (arith, e)))
      (λ (ran : GoesOn line first begun serves.worst t t' bound d').
      ran_unstopped first most serves.worst begun (whole_pass ran.0) bound d'
      (subst (λ (c : Option Stepping). RunsBy c first most serves.worst begun (whole_pass ran.0) bound d' t t') sets ran.1).1
      (sym serves.status_is))
      came)
      serves.comes

-- ---- the binding

module _ (addr : List ℕ) (t t' : ClockView) (d d' : PollDoorView) (n n' : ℕ) (serves : PollDoorView → Type 0) where
  listens_unstopped : ((bound : PollDoorView) → serves bound → ⊥) → Listens addr 5 t t' d d' n n' serves → ⊥
  listens_unstopped never (inl unbound) = let e = unbound.status_is in omega (arith, e)
  listens_unstopped never (inr (bound, binds, ran)) = never bound ran

  listens_failed : (A : Type 0) → ((bound : PollDoorView) → d.door.faults ≤ bound.door.faults → serves bound → Rose d.door.faults d'.door.faults ⊎ A)
      → Listens addr 4 t t' d d' n n' serves → Rose d.door.faults d'.door.faults ⊎ A
  listens_failed A by (inl unbound) = inl unbound.risen
  listens_failed A by (inr (bound, binds, ran)) = by bound binds.0.faults ran

-- ---- a journal

unread_failed : (why : Unread) (v v' : SourceView) (u u' : SinkView) → IsUnread why v v' → TellsUnread why 4 u u' → Rose v.faults v'.faults
unread_failed U.TooLong v v' u u' unread tells = absurd (let e = tells.0 in omega (arith, e))
unread_failed U.Failed v v' u u' unread tells = unread.2.1
unread_failed U.NoMemory v v' u u' unread tells = absurd (let e = tells.0 in omega (arith, e))

unread_unstopped : (why : Unread) (u u' : SinkView) → TellsUnread why 5 u u' → ⊥
unread_unstopped U.TooLong u u' tells = let e = tells.0 in omega (arith, e)
unread_unstopped U.Failed u u' tells = let e = tells.0 in omega (arith, e)
unread_unstopped U.NoMemory u u' tells = let e = tells.0 in omega (arith, e)

module _ (line : OneLine) (addr : List ℕ) (u u' : SinkView) (t t' : ClockView) (d d' : PollDoorView) (n n' : ℕ) where
  came_unstopped : (stepping : Stepping) (rebooted : Rebooted) → line.clock ≡ Some stepping → ComesTo rebooted addr line 5 u u' t t' d d' n n' → ⊥
  came_unstopped stepping (Ready daemon first) sets comes =
      listens_unstopped addr t t' d d' n n' (λ bound. ServesDoor line first (whole_pass daemon) 5 t t' bound d' n n')
      (λ bound serves. door_unstopped line first (whole_pass daemon) stepping bound d' t t' n n' sets serves) comes.1
  came_unstopped stepping Old sets comes = let e = comes.0.0 in omega (arith, e)
  came_unstopped stepping (NotLegal verdict) sets comes = ⊎_elim (λ told. (let e = told.0 in omega (arith, e))) (λ told. (let e = told.0 in omega (arith, e))) comes.0
  came_unstopped stepping (Full entries) sets comes = let e = comes.0.0 in omega (arith, e)
  came_unstopped stepping NoMemory sets comes = let e = comes.0.0 in omega (arith, e)

  came_failed : (text : List ℕ) (rebooted : Rebooted) (before : ClockView) → line.beginning ≡ Reboot → Remakes line text rebooted before t → ComesTo rebooted addr line 4 u u' t t' d d' n n'
      → Rose d.door.faults d'.door.faults ⊎ (Rose n n' ⊎ SomeFailed line d')
  came_failed text (Ready daemon first) before is remakes comes =
      let begins : IsBeginning line.beginning line first (whole_pass daemon) =
      subst (λ b. IsBeginning b line first (whole_pass daemon)) (sym is) (text, remakes.0, daemon, remakes.2, refl) in
      listens_failed addr t t' d d' n n' (λ bound. ServesDoor line first (whole_pass daemon) 4 t t' bound d' n n') (Rose n n' ⊎ SomeFailed line d')
      (λ bound since serves. door_failed line first (whole_pass daemon) begins d.door.faults bound d' since t t' n n' serves) comes.1
  came_failed text Old before is remakes comes = absurd (let e = comes.0.0 in omega (arith, e))
  came_failed text (NotLegal verdict) before is remakes comes = absurd (⊎_elim (λ told. (let e = told.0 in omega (arith, e))) (λ told. (let e = told.0 in omega (arith, e))) comes.0)
  came_failed text (Full entries) before is remakes comes = absurd (let e = comes.0.0 in omega (arith, e))
  came_failed text NoMemory before is remakes comes = absurd (let e = comes.0.0 in omega (arith, e))

-- ---- the laws

module _ (line : OneLine) (addr : List ℕ) (o o' : Outside) (d d' : PollDoorView) (n n' : ℕ) where
  begun_unstopped : (stepping : Stepping) (b : Beginning) → line.clock ≡ Some stepping → BeginsBy b addr line 5 o o' d d' n n' → ⊥
  begun_unstopped stepping (New seed) sets begins =
      listens_unstopped addr o.clock o'.clock d d' n n' (λ bound. ServesNew line seed 5 o.clock o'.clock bound d' n n')
      (λ bound serves. door_unstopped line 0 _ stepping bound d' serves.opened o'.clock n n' sets serves.serves) begins.2
  begun_unstopped stepping Reboot sets begins = ⊎_elim
      (λ (none : HasNoJournal 5 o o' d d' n n'). unread_unstopped none.why o.sink o'.sink none.tells)
      (λ (goes : GoesOnWith addr line 5 o o' d d' n n'). came_unstopped line addr o.sink o'.sink goes.continues.opened o'.clock d d' n n' stepping goes.continues.rebooted sets goes.continues.comes)
      begins

  abbrev Failed : Type 0
  Failed = Rose d.door.faults d'.door.faults ⊎ (Rose n n' ⊎ (SomeFailed line d' ⊎ ((line.beginning ≡ Reboot) × Rose o.source.faults o'.source.faults)))

  among : Rose d.door.faults d'.door.faults ⊎ (Rose n n' ⊎ SomeFailed line d') → Failed
  among (inl door) = inl door
  among (inr (inl runner)) = inr (inl runner)
  among (inr (inr some)) = inr (inr (inl some))

  begun_failed : (b : Beginning) → line.beginning ≡ b → BeginsBy b addr line 4 o o' d d' n n' → Failed
  begun_failed (New seed) is begins =
      among (listens_failed addr o.clock o'.clock d d' n n' (λ bound. ServesNew line seed 4 o.clock o'.clock bound d' n n') (Rose n n' ⊎ SomeFailed line d')
      (λ bound since serves. door_failed line 0 _ (subst (λ b. IsBeginning b line 0 (pass_of (charter_of seed serves.opening line.entries) [])) (sym is) (serves.opening, refl, refl)) d.door.faults bound d' since serves.opened o'.clock n n' serves.serves)
      begins.2)
  begun_failed Reboot is begins = ⊎_elim
      (λ (none : HasNoJournal 4 o o' d d' n n'). inr (inr (inr (is, unread_failed none.why o.source o'.source o.sink o'.sink none.unread none.tells))))
      (λ (goes : GoesOnWith addr line 4 o o' d d' n n').
      among (came_failed line addr o.sink o'.sink goes.continues.opened o'.clock d d' n n' goes.text goes.continues.rebooted o.clock is goes.continues.remakes goes.continues.comes))
      begins

pub never_stopped : law_never_stopped
never_stopped line stepping o o' d d' n n' sets (inl wants) = let e = wants.0 in omega (arith, e)
never_stopped line stepping o o' d d' n n' sets (inr begins) = begun_unstopped line _ o o' d d' n n' stepping line.beginning sets begins

pub failed : law_failed
failed line o o' d d' n n' (inl wants) = absurd (let e = wants.0 in omega (arith, e))
failed line o o' d d' n n' (inr begins) = begun_failed line _ o o' d d' n n' line.beginning refl begins
