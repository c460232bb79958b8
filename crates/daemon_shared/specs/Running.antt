-- What running the shared daemon leaves: one history, and a life of each connection (own).
use Rattle.std.specs.Prelude.{ℕ, suc, ◌≡◌, ◌≤◌, ◌⊎◌, List, [], ◌∷◌, ◌++◌, length, map, Contains, Option, Some, None}
use Rattle.engine_text.specs.declared.step.Step.{Step}
use Rattle.engine_ports.specs.Rose.{Rose}
use Rattle.engine_ports.specs.Door.{Outside, outside, DoorView, IsNew, IsEmpty}
use Rattle.machine_model.specs.History.{Charter, IsLegal, HasNone, HasNoCall}
use Rattle.session_model.specs.declared.ending.Ending.{Ending}
use Rattle.session_model.specs.declared.ending.Worst.{Worst}
use Rattle.session_model.specs.declared.ending.Worst.TheVariants as worst
use Rattle.session_model.specs.Pass.{PassView, Only}
use Rattle.session_model.specs.Guarantee.{Serves}
use Rattle.daemon_core.specs.declared.daemon.Daemon.{Daemon}
use Rattle.daemon_core.specs.Passing.{whole_pass}
use Rattle.daemon_core.specs.Storing.{pass_of}
use Rattle.engine_serve.specs.OwnClock.{unstopped}
use Rattle.door_model.specs.Connections.{numbered, ComeIn, GoOut, IsNobodys}
use Rattle.door_model.specs.Worsts.{called_by, IsWorst}

-- ---- one connection

-- connection k was served by the clock that came with it; or, where a clock is set, by one of its
-- own, which tells no moments and is never stopped
abbrev pub ServesBy : Option (ℕ × ℕ) → ℕ → Ending → PassView → PassView → Outside → Outside → Type 0
ServesBy None k e p q o o' = Serves k e p q o o'
ServesBy (Some stepping) k e p q o o' =
    (o'.clock ≡ o.clock)
    × Serves k e p q (outside o.source o.sink unstopped) (outside o'.source o'.sink unstopped)

-- what came with a connection, what was left of it, what it had seen before and at its end, and how
-- its session ended
pub record Life : Type 0 where
  pub came : Outside
  pub left : Outside
  pub from : PassView
  pub to : PassView
  pub ending : Ending

-- connection k came new, and was served between two beginnings of the history; no call of it or of
-- its standard input stands before the first or behind the second
pub record Lived (ch : Charter) (h : List Step) (steps : Option (ℕ × ℕ)) (k : ℕ)
    (l : Life) : Type 0 where
  pub new : IsNew l.came
  pub number : l.from.number ≡ Only k
  pub charter : l.from.charter ≡ ch
  pub serves : ServesBy steps k l.ending l.from l.to l.came l.left
  pub before : HasNone k l.from.seen
  pub rest : List Step
  pub goes_on : h ≡ l.to.seen ++ rest
  pub behind : HasNone k rest

-- so did all of these, numbered from k on
abbrev pub AllLived : Charter → List Step → Option (ℕ × ℕ) → ℕ → List Life → Type 0
AllLived ch h steps k [] = Unit {0}
AllLived ch h steps k (l ∷ ls) = Lived ch h steps k l × AllLived ch h steps (suc k) ls

-- ---- all connections

-- why no more are taken in: so many came, or none is to come; the door failed; memory was refused
abbrev pub Halts : Worst → ℕ → ℕ → DoorView → DoorView → Type 0
Halts worst.Closed most count d d' = (count ≡ most) ⊎ IsEmpty d'.coming
Halts worst.Fault most count d d' = Rose d.faults d'.faults
Halts worst.NoMemory most count d d' = Unit {0}
Halts other most count d d' = ⊥

-- ---- the daemon

-- the daemon that is left has one legal history, which is empty or what some connection had seen at
-- its end; each connection that came is left to the door once, in order of number, and lived in that
-- history; no call in it is anybody else's; the door stays bound to its address
pub record RunsDaemon (ch : Charter) (steps : Option (ℕ × ℕ)) (most : ℕ) (worst : Worst)
    (daemon : Daemon) (d d' : DoorView) : Type 0 where
  pub history : List Step
  pub holds : whole_pass daemon ≡ pass_of ch history
  pub legal : IsLegal ch history
  pub lives : List Life
  pub saw : Contains ([] ∷ map (λ l. l.to.seen) lives) history
  pub few : length lives ≤ most
  pub came : ComeIn d.coming (map (λ l. l.came) lives) d'.coming
  pub left : GoOut d.past (numbered 0 (map (λ l. l.left) lives)) d'.past
  pub lived : AllLived ch history steps 0 lives
  pub whose : (n : ℕ) → IsNobodys 0 (length lives) n → HasNoCall n history
  pub faults : d.faults ≤ d'.faults
  pub bound : d'.bound ≡ d.bound
  pub why : Worst
  pub halts : Halts why most (length lives) d d'
  pub worst_is : IsWorst worst (why ∷ map (λ l. called_by l.ending) lives)
