-- A session by a pass on the shared daemon: what it takes, and what it leaves (own).
use Rattle.std.specs.Prelude.{ℕ, ◌≡◌, ◌+◌, List, [], ◌++◌, true, Option}
use Rattle.atomic_table.specs.Seated.{TableId}
use Rattle.atomic_table.specs.declared.shared.Seat.{Seat}
use Rattle.engine_text.specs.declared.step.Step.{Step}
use Rattle.engine_ports.specs.Rose.{Rose}
use Rattle.engine_ports.specs.Source.{SourceView}
use Rattle.engine_ports.specs.Sink.{SinkView}
use Rattle.engine_ports.specs.Clock.{ClockView}
use Rattle.engine_ports.specs.Door.{Outside, outside, DoorView, IsNew, IsEmpty, SameDoor, TakesIn}
use Rattle.machine_model.specs.History.{Extends}
use Rattle.session_model.specs.Pass.{IsConnection}
use Rattle.session_model.specs.declared.ending.Worst.{Worst}
use Rattle.session_model.specs.declared.ending.Worst.TheVariants as worst
use Rattle.turnstile.specs.Claims.{Claim, times}
use Rattle.turnstile.specs.Plays.{Learned}
use Rattle.turnstile.specs.Turns.{IsPass}
use Rattle.turnstile.specs.declared.view.View.{View}
use Rattle.daemon_shared.specs.Sharing.{author_of, IsKept, shared_pass}
use Rattle.daemon_shared.specs.Running.{ServesBy}
use Rattle.daemon_shared.specs.declared.one_daemon.OneDaemon.{OneDaemon}
use Rattle.daemon_shared.specs.declared.one_daemon.Opening.{Opening}
use Rattle.daemon_shared.specs.declared.admission.Begun.{Begun}
use Rattle.daemon_shared.specs.declared.admission.Ended.{Ended}

-- a pass on the shared daemon
abbrev pub SharedSeat : Type 0
SharedSeat = Seat (Option OneDaemon) (View Step Opening)

-- the root, which made no call, and is to admit this number next
pub record IsRoot (table : TableId) (o : Option Opening) (next : ℕ) (p : SharedSeat) : Type 0 where
  pub pass : IsPass table p
  pub number : p.me.0.number ≡ 4294967295
  pub next_is : p.me.0.next ≡ next
  pub charter : p.me.0.charter ≡ o
  pub own_calls : p.me.0.own_calls ≡ []

-- what the root had seen begins what it has seen, and what was joined into it stands
pub record Grows (v w : View Step Opening) : Type 0 where
  pub seen : Extends v.seen w.seen
  pub more : List (Claim Step)
  pub joined_calls : w.joined_calls ≡ v.joined_calls ++ more

-- a pass of this number, which made no call
pub record IsNewcomer (table : TableId) (o : Option Opening) (n : ℕ) (p : SharedSeat) : Type 0 where
  pub pass : IsPass table p
  pub number : p.me.0.number ≡ n
  pub pair : p.me.0.pair ≡ true
  pub charter : p.me.0.charter ≡ o
  pub own_calls : p.me.0.own_calls ≡ []
  pub joined_calls : p.me.0.joined_calls ≡ []
  pub learned : Learned author_of IsKept p.me.0

-- no more was taken in, for this reason
abbrev pub Declines : Worst → DoorView → DoorView → Type 0
Declines worst.Closed d d' = SameDoor d d' × IsEmpty d.coming
Declines worst.Fault d d' = SameDoor d d' × Rose d.faults d'.faults
Declines other d d' = ⊥

module _ {S K C : Type 0} where
  -- what the parts of a connection tell
  abbrev pub told_by : (S → SourceView) → (K → SinkView) → (C → ClockView) → S → K → C → Outside
  told_by gives takes times s k c = outside (gives s) (takes k) (times c)

  -- what came with a connection
  abbrev pub start_of : {Q : Type 0} → (S → K → C → Outside) → Begun Q S K C → Outside
  start_of told b = told b.from b.into b.time

-- what a connection left, with its number
abbrev pub end_of : {Q P : Type 0} → (P → Outside) → Ended Q P → ℕ × Outside
end_of tells r = (r.number, tells r.past)

module _ {Q S K C : Type 0} (seat : Q → SharedSeat) where
  -- what a session asks of what it takes
  pub record CanServe (table : TableId) (b : Begun Q S K C) : Type 0 where
    pub connection : IsConnection b.number
    pub pass : IsPass table (seat b.pass)
    pub number : (seat b.pass).me.0.number ≡ b.number
    pub pair : (seat b.pass).me.0.pair ≡ true
    pub apart : times (seat b.pass).me.0.number (seat b.pass).me.0.joined_calls ≡ 0

  module _ (told : S → K → C → Outside) where
    -- a connection of this number that is about to be served
    pub record IsReady (table : TableId) (o : Option Opening) (n : ℕ)
        (b : Begun Q S K C) : Type 0 where
      pub number : b.number ≡ n
      pub newcomer : IsNewcomer table o n (seat b.pass)
      pub new : IsNew (start_of told b)

    -- the next connection was taken in: its pass has seen what the root has
    pub record Admits (table : TableId) (o : Option Opening) (n : ℕ) (root root' : SharedSeat)
        (d d' : DoorView) (b : Begun Q S K C) : Type 0 where
      pub ready : IsReady table o n b
      pub came : TakesIn (start_of told b) d d'
      pub is_root : IsRoot table o (n + 1) root'
      pub grows : Grows root.me.0 root'.me.0
      pub saw : (seat b.pass).me.0.seen ≡ root'.me.0.seen

    -- a session made this of what it took
    pub record Served {P : Type 0} (tells : P → Outside) (steps : Option (ℕ × ℕ))
        (b : Begun Q S K C) (r : Ended Q P) : Type 0 where
      pub number : r.number ≡ b.number
      pub pass : IsPass (seat b.pass).table_id (seat r.pass)
      pub learned : Learned author_of IsKept (seat r.pass).me.0
      pub serves : ServesBy steps b.number r.ending
          (shared_pass (seat b.pass).table_id (seat b.pass).me.0)
          (shared_pass (seat r.pass).table_id (seat r.pass).me.0) (start_of told b) (tells r.past)
