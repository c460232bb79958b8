-- What a loop leaves: one history, and a life of each connection. own: the one-thread daemon of this project.
use Rattle.std.specs.Prelude.{ℕ, ◌≡◌, ◌≤◌, ◌⊎◌, List, [], ◌∷◌, ◌++◌, length, map, Contains, IsPermutation}
use Rattle.engine_ports.specs.Rose.{Rose}
use Rattle.engine_ports.specs.Clock.{ClockView, ClockHanded}
use Rattle.engine_ports.specs.Door.{Outside, DoorView, IsEmpty}
use Rattle.engine_text.specs.declared.call.Call.TheVariants.{Drop}
use Rattle.engine_text.specs.declared.step.Step.{Step}
use Rattle.machine_model.specs.History.{Charter, IsLegal, HasNoCall, moment_used, state_after}
use Rattle.session_model.specs.declared.ending.Worst.{Worst}
use Rattle.session_model.specs.declared.ending.Worst.TheVariants as worst
use Rattle.session_model.specs.Exchange.{AtSome}
use Rattle.session_model.specs.Moments.{StaysWithin}
use Rattle.session_model.specs.Pass.{PassView}
use Rattle.door_model.specs.Connections.{ComeIn, GoOut, IsNobodys, numbered}
use Rattle.door_model.specs.Worsts.{IsWorst, called_by}
use Rattle.polled_ports.specs.PollDoor.{PollDoorView}
use Rattle.engine_loop.specs.Lives.{AllLived, Life, Run}

-- why no more are taken in: so many came, none is to come, or the clock was stopped; or the door failed
abbrev pub Halts : Worst → ℕ → ℕ → DoorView → DoorView → ClockView → ClockView → Type 0
Halts worst.Closed most count d d' t t' = (count ≡ most) ⊎ (IsEmpty d'.coming ⊎ Rose t.stops t'.stops)
Halts worst.Fault most count d d' t t' = Rose d.faults d'.faults
Halts other most count d d' t t' = ⊥

-- a call, but a drop, stands at a moment that the clock handed, as it counts at some place of the history from a first one on
abbrev pub CallStands : Charter → List ℕ → List Step → List Step → Step → Type 0
CallStands ch ms from at Step.Due = Unit {0}
CallStands ch ms from at (Step.Call j t (Drop n)) = Unit {0}
CallStands ch ms from at (Step.Call j t c) =
    (m : ℕ) × Contains ms m × AtSome from at (λ place. t ≡ moment_used (state_after ch place) m)

-- so does each of these, of which the first stands behind a history
abbrev pub CallsStand : Charter → List ℕ → List Step → List Step → List Step → Type 0
CallsStand ch ms from at [] = Unit {0}
CallsStand ch ms from at (x ∷ xs) = CallStands ch ms from at x × CallsStand ch ms from (at ++ x ∷ []) xs

-- the number of a connection with what came with it, and with what was left of it
abbrev pub came_with : ℕ × Life → ℕ × Outside
came_with x = (x.0, x.1.came)

abbrev pub left_with : ℕ × Life → ℕ × Outside
left_with x = (x.0, x.1.left)

-- connections were served, numbered from the first on, and no more than may come: the history that is left is legal and goes on from
-- the given one by calls of theirs alone, at the clock's moments; each that came is left to the door once, as it ended, and has lived
-- in that history; and the worst is called for by one of them, or by what kept more from coming
pub record RunsLoop (first most : ℕ) (worst : Worst) (p q : PassView) (d d' : PollDoorView) (t t' : ClockView) : Type 0 where
  pub charter : q.charter ≡ p.charter
  pub legal : IsLegal q.charter q.seen
  pub added : List Step
  pub goes_on : q.seen ≡ p.seen ++ added
  pub moments : List ℕ
  pub clock : ClockHanded t moments t'
  pub cames : List Outside
  pub few : length cames ≤ most
  pub came : ComeIn d.door.coming cames d'.door.coming
  pub lives : List (ℕ × Life)
  pub each : IsPermutation (numbered first cames) (map came_with lives)
  pub left : GoOut d.door.past (map left_with lives) d'.door.past
  pub lived : AllLived (record { charter = p.charter; given = p.seen; added = added; moments = moments; clock = t; clock_now = t' }) lives
  pub whose : (n : ℕ) → IsNobodys first (length cames) n → HasNoCall n added
  pub stand : CallsStand p.charter moments p.seen p.seen added
  pub within : StaysWithin p.charter p.seen q.seen moments
  pub faults : d.door.faults ≤ d'.door.faults
  pub bound : d'.door.bound ≡ d.door.bound
  pub why : Worst
  pub halts : Halts why most (length cames) d.door d'.door t t'
  pub worst_is : IsWorst worst (why ∷ map (λ x. called_by x.1.ending) lives)
