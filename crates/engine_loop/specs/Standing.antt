-- What a loop holds between two of its steps (own).
use Rattle.std.specs.Prelude.{ℕ, suc, ◌≡◌, ◌≤◌, ◌+◌, ◌⊎◌, ◌&&◌, Bool, true, false, nat_lt, not, ◌<◌, ◌-◌, List, [], ◌∷◌, ◌++◌, length, map, Option, None, Some, Contains, IsPermutation, IsTrue}
use Rattle.std.specs.VecDeque.{deque_items}
use Rattle.std.specs.Option.{is_none}
use Rattle.engine_ports.specs.Rose.{Rose}
use Rattle.engine_ports.specs.Clock.{ClockView, ClockHanded}
use Rattle.engine_ports.specs.Door.{Outside, DoorView, TakesIn}
use Rattle.engine_text.specs.declared.step.Step.{Step}
use Rattle.futures.specs.Task.{IsArmed}
use Rattle.futures.specs.declared.task.context.Context.{Context}
use Rattle.machine_model.specs.History.{HasNoCall}
use Rattle.session_model.specs.declared.ending.Worst.{Worst}
use Rattle.session_model.specs.declared.ending.Worst.TheVariants as worst
use Rattle.session_model.specs.Moments.{StaysWithin}
use Rattle.session_model.specs.Pass.{PassView, Every}
use Rattle.session_model.specs.Session.{Span}
use Rattle.daemon_core.specs.Passing.{alone_pass}
use Rattle.door_model.specs.Connections.{ComeIn, GoOut, IsNobodys, most_connections, numbered}
use Rattle.door_model.specs.Worsts.{IsWorst, called_by}
use Rattle.polled_ports.specs.PollDoor.{PollDoorView, untimed}
use Rattle.polled_ports.specs.PollSource.{PollSourceView}
use Rattle.polled_ports.specs.PollSink.{PollSinkView}
use Rattle.polled_model.specs.declared.polled.Cause.{Cause}
use Rattle.polled_model.specs.declared.polled.Polled.{Polled}
use Rattle.polled_model.specs.Polls.{Polls, Ports}
use Rattle.session_poll.specs.Standing.{IsAt}
use Rattle.engine_loop.specs.Lives.{AllLived, Life, Lives, Run}
use Rattle.engine_loop.specs.Pausing.{AllWait, LoopView, PausesLoop, Served, StoodSo}
use Rattle.engine_loop.specs.Running.{CallsStand, Halts, came_with, left_with}
use Rattle.engine_loop.specs.declared.coming.Coming.{Coming}
use Rattle.engine_loop.specs.declared.polling.Rest.{Rest}
use Rattle.engine_loop.specs.declared.connection.Halves.{Halves}
use Rattle.engine_loop.specs.declared.connection.Connection.{Connection}
use Rattle.engine_loop.specs.declared.serving.Serving.{Serving}

-- one more may come
abbrev pub is_open : Coming → Bool
is_open c = is_none c.end && nat_lt 0 c.left

-- why none comes any more: none is to come, where the door told nothing else
abbrev pub why_of : Option Worst → Worst
why_of None = worst.Closed
why_of (Some why) = why

-- how a loop began: from which number on, how many may come, and what its pass, its door and its clock were
pub record Start : Type 0 where
  pub first : ℕ
  pub most : ℕ
  pub pass : PassView
  pub door : PollDoorView
  pub clock : ClockView

-- of what polls had come to and what one more came to, this is what they come to: one at least waits for the machine only where that is so
-- of them
abbrev pub ComesOf : Rest → Rest → Rest → Type 0
ComesOf was result now = now ≡ Rest.Machine → (was ≡ Rest.Machine) ⊎ (result ≡ Rest.Machine)

-- there are numbers for all that may come
abbrev pub IsWithin : Start → Type 0
IsWithin o = (o.first + o.most ≤ most_connections) ⊎ (o.most ≡ 0)

abbrev pub run_by : Start → List Step → List ℕ → ClockView → Run
run_by o added moments t = record {
  charter = o.pass.charter;
  given = o.pass.seen;
  added = added;
  moments = moments;
  clock = o.clock;
  clock_now = t;
}

-- none of these numbers is this one
abbrev pub IsNoneOf : ℕ → List ℕ → Type 0
IsNoneOf k [] = Unit {0}
IsNoneOf k (n ∷ ns) = (n ≡ k → ⊥) × IsNoneOf k ns

-- no number is twice among these
abbrev pub AreApart : List ℕ → Type 0
AreApart [] = Unit {0}
AreApart (n ∷ ns) = IsNoneOf n ns × AreApart ns

-- these are numbers from the first on, and below the next
abbrev pub AreBelow : ℕ → ℕ → List ℕ → Type 0
AreBelow first next [] = Unit {0}
AreBelow first next (n ∷ ns) = ((first ≤ n) × (suc n ≤ next)) × AreBelow first next ns

abbrev pub served_number : Served → ℕ
served_number x = x.number

abbrev pub number_of : ℕ × Life → ℕ
number_of x = x.0

-- the door told why none comes any more
abbrev pub IsClosed : Option Worst → ℕ → ℕ → DoorView → DoorView → ClockView → ClockView → Type 0
IsClosed None most count d d' t t' = Unit {0}
IsClosed (Some why) most count d d' t t' = Halts why most count d d' t t'

module _ {S K : Type 0} (gives : S → PollSourceView) (takes : K → PollSinkView) where
  abbrev pub ports_in : Halves S K → Ports
  ports_in c = record { source = gives c.source.port; sink = takes c.sink.port }

  -- what came with a connection that is served
  abbrev pub came_in : Connection S K → Outside
  came_in x = untimed (gives x.came.value.source.port) (takes x.came.value.sink.port)

  abbrev pub served_with : Connection S K → ℕ × Outside
  served_with x = (x.number, came_in x)

  abbrev pub served_by : Connection S K → Served
  served_by x = record { number = x.number; came = came_in x; now = ports_in x.conn }

  abbrev pub connection_number : Connection S K → ℕ
  connection_number x = x.number

  -- it is served, and its session stands where its span says
  abbrev pub IsServed : Run → Connection S K → Type 0
  IsServed r x = (s : Span) × Lives r x.number (came_in x) (ports_in x.conn) s × IsAt r.charter x.number x.session s × (x.session.conn ≡ x.number)

  abbrev pub AllServed : Run → List (Connection S K) → Type 0
  AllServed r [] = Unit {0}
  AllServed r (x ∷ xs) = IsServed r x × AllServed r xs

  -- those that came are served or have left, and no call is anybody else's
  pub record Stands (o : Start) (p : PassView) (connections : List (Connection S K)) (coming : Coming) (ends : Worst) (stop : Bool) (d : PollDoorView) (t : ClockView) : Type 0 where
    pub within_numbers : IsWithin o
    pub charter : p.charter ≡ o.pass.charter
    pub number : p.number ≡ Every
    pub pair : IsTrue p.pair
    pub alone : IsTrue p.alone
    pub added : List Step
    pub goes_on : p.seen ≡ o.pass.seen ++ added
    pub moments : List ℕ
    pub clock : ClockHanded o.clock moments t
    pub cames : List Outside
    pub next : coming.next ≡ o.first + length cames
    pub left : coming.left + length cames ≡ o.most
    pub closed : IsClosed coming.end o.most (length cames) o.door.door d.door o.clock t
    pub came : ComeIn o.door.door.coming cames d.door.coming
    pub lives : List (ℕ × Life)
    pub each : IsPermutation (numbered o.first cames) (map came_with lives ++ map served_with connections)
    pub apart : AreApart (map number_of lives ++ map connection_number connections)
    pub below : AreBelow o.first coming.next (map number_of lives ++ map connection_number connections)
    pub gone : GoOut o.door.door.past (map left_with lives) d.door.past
    pub lived : AllLived (run_by o added moments t) lives
    pub are_served : AllServed (run_by o added moments t) connections
    pub whose : (n : ℕ) → IsNobodys o.first (length cames) n → HasNoCall n added
    pub stand : CallsStand o.pass.charter moments o.pass.seen o.pass.seen added
    pub within : StaysWithin o.pass.charter o.pass.seen p.seen moments
    pub all_came : length connections ≤ length cames
    pub owed : length connections ≤ d.door.owed
    pub faults : o.door.door.faults ≤ d.door.faults
    pub bound : d.door.bound ≡ o.door.door.bound
    pub worst_is : IsWorst ends (worst.Closed ∷ map (λ x. called_by x.1.ending) lives)
    pub stops : IsTrue stop → Rose o.clock.stops t.stops

  -- what a loop holds stands so
  abbrev pub Serves : Start → Serving S K → PollDoorView → ClockView → Type 0
  Serves o v d t = Stands o (alone_pass v.turns) (deque_items v.connections) v.coming v.worst v.stop d t

  abbrev pub CanServe : Serving S K → PollDoorView → ClockView → Type 0
  CanServe v d t = (o : Start) × Serves o v d t

  -- a step of it led there, from wherever it began
  abbrev pub GoesOn : Serving S K → Serving S K → PollDoorView → PollDoorView → ClockView → ClockView → Type 0
  GoesOn v v' d d' t t' = (o : Start) → Serves o v d t → Serves o v' d' t'

  -- so it did behind a connection that came
  abbrev pub TakesOne : Serving S K → Serving S K → Outside → PollDoorView → PollDoorView → Type 0
  TakesOne v v' came d1 d' = (o : Start) (d : PollDoorView) (t : ClockView) → TakesIn came d.door d1.door → Serves o v d t → Serves o v' d' t

  -- a session was polled at one moment of the clock
  abbrev pub PollsConnection : Bool → Polled → Type 0 → Connection S K → Connection S K → PassView → PassView → ClockView → ClockView → Type 0
  PollsConnection stop result woken x x' p q t t' =
      (m : ℕ) × ClockHanded t (m ∷ []) t' × (x'.number ≡ x.number) × (x'.came ≡ x.came) × (x'.session.conn ≡ x.session.conn)
      × Polls x.number (record { handed = m; stop = stop }) result (IsAt p.charter x.number x.session) (IsAt p.charter x.number x'.session)
      woken p q (ports_in x.conn) (ports_in x'.conn)

  -- so these stood before a poll of the loop, or so they came in it
  abbrev pub AllStood : List Served → List (Connection S K) → Type 0
  AllStood before [] = Unit {0}
  AllStood before (x ∷ xs) = StoodSo before (served_by x) (ports_in x.conn) × AllStood before xs

  -- inside a poll of the loop: of those that it serves so many first ones are still to be polled, and the others were, and wait
  pub record InPoll (o : Start) (woken : Type 0) (before : List Served) (come_to : Rest) (left : ℕ) (p : PassView) (connections : List (Connection S K)) (coming : Coming) (ends : Worst) (stop : Bool) (d : PollDoorView) (t : ClockView) : Type 0 where
    pub so : Stands o p connections coming ends stop d t
    pub rest : List (Connection S K)
    pub done : List (Connection S K)
    pub split : connections ≡ rest ++ done
    pub count : length rest ≡ left
    pub stood : AllStood before rest
    pub causes : List Cause
    pub waits : AllWait (run_by o so.added so.moments t) woken before causes (map served_by done)
    pub machine : come_to ≡ Rest.Machine → Contains causes Cause.NotYet

  abbrev pub IsInPoll : Start → Type 0 → List Served → Rest → ℕ → Serving S K → PollDoorView → ClockView → Type 0
  IsInPoll o woken before come_to left v d t =
      InPoll o woken before come_to left (alone_pass v.turns) (deque_items v.connections) v.coming v.worst v.stop d t

  -- one of them was polled, and came to this
  abbrev pub PollsOne : Type 0 → Type 0 → Rest → Serving S K → Serving S K → PollDoorView → PollDoorView → ClockView → ClockView → Type 0
  PollsOne woken woken' result v v' d d' t t' =
      (o : Start) (before : List Served) (was now : Rest) (left : ℕ) → ComesOf was result now
      → IsInPoll o woken before was (left + 1) v d t → IsInPoll o woken' before now left v' d' t'

  -- each of them was polled once, and all came to this
  abbrev pub PollsAll : Type 0 → Rest → Serving S K → Serving S K → PollDoorView → PollDoorView → ClockView → ClockView → Type 0
  PollsAll woken result v v' d d' t t' =
      (o : Start) (before : List Served) → Serves o v d t → AllStood before (deque_items v.connections) → IsInPoll o woken before result 0 v' d' t'

  -- those that came stood as they came in, in this poll
  abbrev pub StandStill : Serving S K → Serving S K → Type 0
  StandStill v v' = (before : List Served) → AllStood before (deque_items v.connections) → AllStood before (deque_items v'.connections)

  -- one more may come, and the daemon doesn't stop
  abbrev pub takes_more : Serving S K → Bool
  takes_more v = not v.stop && is_open v.coming

  -- none may come, or the door registered
  abbrev pub DoorWaits : Serving S K → Context → PollDoorView → PollDoorView → Type 0
  DoorWaits v cx d d' = IsTrue (takes_more v) → IsArmed cx × Rose d.registered d'.registered

  -- what it is to one who watches its polls
  abbrev pub view_by : Serving S K → PollDoorView → ClockView → LoopView
  view_by v d t = record {
    served = map served_by (deque_items v.connections);
    takes_more = takes_more v;
    stop = v.stop;
    door = d;
    clock = t;
  }

  -- it waits, behind a poll, from wherever it began
  abbrev pub PausesSo : Type 0 → Serving S K → Serving S K → PollDoorView → PollDoorView → ClockView → ClockView → Type 0
  PausesSo woken v v' d d' t t' =
      (o : Start) → Serves o v d t
      → (so : Serves o v' d' t') × PausesLoop (run_by o so.added so.moments t') woken (view_by v d t) (view_by v' d' t')

-- there is a number for the next connection, and it may come
pub record MayTake (c : Coming) : Type 0 where
  pub open_still : c.end ≡ None
  pub more : 0 < c.left
  pub number : c.next < most_connections

-- one more came
abbrev pub one_less : Coming → Coming
one_less c = record c { next = c.next + 1; left = c.left - 1 }
