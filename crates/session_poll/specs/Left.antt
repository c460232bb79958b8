-- How much of a poll is left (own: each step of it leaves less).
use Rattle.std.specs.Prelude.{ℕ, zero, suc, ◌<◌, ◌+◌, ◌-◌, ◌*◌, if◌then◌else◌}
use Rattle.session_poll.specs.declared.budget.Budget.{Budget}
use Rattle.session_poll.specs.declared.session.Session.{Session}
use Rattle.session_poll.specs.declared.state.State.{State}
use Rattle.session_poll.specs.declared.state.Step.{Step as Came}
use Rattle.session_poll.specs.declared.state.Step.TheVariants as came

-- how many steps that cost nothing lead from a state to the next request
abbrev pub steps_left : State → ℕ
steps_left State.Reads = 1
steps_left (State.Asks call terms early) = 4
steps_left (State.Waits ticket terms) = 3
steps_left (State.WaitsEarly ticket terms out) = 3
steps_left (State.Opens call terms) = 4
steps_left (State.Streams reply terms place out) = 3
steps_left (State.Sends answer) = 2
steps_left (State.Refuses out status) = 0

-- a call outweighs the parts of the stream that it begins, as many as calls are left
abbrev pub weight : ℕ → ℕ
weight zero = 0
weight (suc n) = weight n + suc n

-- a byte of the piece outweighs a request's steps, and a read, a write, a part or a call a whole piece
abbrev pub left_of : Session → Budget → ℕ
left_of x b = 20000 * (b.reads + b.writes + b.parts + weight b.turns) + 4 * (x.to - x.from) + steps_left x.state + (if x.ended then 0 else 1)

-- where the session goes on, less is left
abbrev pub LeavesLess : Came → Session → Session → Budget → Budget → Type 0
LeavesLess came.On x x' b b' = left_of x' b' < left_of x b
LeavesLess result x x' b b' = Unit {0}
