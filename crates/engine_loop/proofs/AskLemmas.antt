-- What the calls of a loop ask for, and what they are told by parts.
use Rattle.std.proofs.Common.{◌≡◌, ◌+◌, ◌-◌, ◌<◌, ◌≤◌, ◌⊎◌, ℕ, Bool, List, [], ◌∷◌, ◌++◌, length, map, Option, None, Some, refl, sym, ◌∙◌, ap, subst, arith}
use Rattle.std.specs.Prelude.{IsTrue}
use Rattle.std.specs.VecDeque.{deque_items}
use Rattle.engine_ports.specs.Clock.{ClockStood, ClockView}
use Rattle.engine_ports.specs.Rose.{Rose}
use Rattle.engine_ports.specs.Door.{LeaveSays, TakesIn}
use Rattle.session_model.specs.declared.ending.Worst.TheVariants as worst
use Rattle.daemon_core.specs.Passing.{alone_pass}
use Rattle.door_model.specs.Worsts.{worse_of}
use Rattle.polled_model.specs.declared.polled.Polled.{Polled}
use Rattle.polled_model.specs.Polls.{Polls, Ports, Told}
use Rattle.session_poll.specs.declared.session.Session.{Session}
use Rattle.session_model.specs.declared.ending.Worst.{Worst}
use Rattle.session_model.specs.Pass.{PassView}
use Rattle.session_model.specs.Session.{Span}
use Rattle.polled_ports.specs.PollDoor.{PollDoorView, untimed}
use Rattle.polled_ports.specs.PollSource.{PollSourceView}
use Rattle.polled_ports.specs.PollSink.{PollSinkView}
use Rattle.session_poll.specs.Standing.{CanPoll, IsAt, IsNew as IsNewSession}
use Rattle.engine_loop.specs.Standing.{AreBelow, MayTake, Serves, Stands, Start, came_in, number_of, ports_in, connection_number}
use Rattle.engine_loop.specs.declared.coming.Coming.{Coming}
use Rattle.engine_loop.specs.declared.connection.Connection.{Connection}
use Rattle.engine_loop.specs.declared.serving.Serving.{Serving}
use Rattle.engine_loop.proofs.DoorLemmas.{stands_paused, stands_refused}
use Rattle.engine_loop.proofs.NumberLemmas.{below_right}
use Rattle.engine_loop.proofs.PollLemmas.{number_below}
use Rattle.engine_loop.proofs.StandLemmas.{numbers_left, stands_taken, taken_one}

module _ {S K : Type 0} (gives : S → PollSourceView) (takes : K → PollSinkView) (o : Start) (p : PassView) where
  module _ (x : Connection S K) (xs : List (Connection S K)) (c : Coming) (w : Worst) (stop : Bool) (d : PollDoorView) (t : ClockView) (so : Stands gives takes o p (x ∷ xs) c w stop d t) where
    pub first_number : x.number < 2147483646
    first_number =
        let top = number_below o c.left (length so.cames) c.next x.number so.within_numbers so.left so.next (let s = so.all_came in omega (arith, s)) in
        let b = (below_right o.first c.next (map number_of so.lives) (x.number ∷ map (connection_number gives takes) xs) so.below).0.1 in omega (arith, top, b)

    pub first_stands : CanPoll p.charter x.number x.session p.seen (ports_in gives takes x.conn)
    first_stands = (
      so.are_served.0.0,
      so.are_served.0.1.to ∙ sym so.goes_on,
      so.are_served.0.1.at_ports,
      subst (λ ch. IsAt ch x.number x.session so.are_served.0.0) (sym so.charter) so.are_served.0.2,
    )

    pub first_conn : x.session.conn ≡ x.number
    first_conn = so.are_served.0.3

    pub first_owed : 0 < d.door.owed
    first_owed = let s = so.owed in omega (arith, s)

  pub front_number : (xs' : List (Connection S K)) (x : Connection S K) (xs : List (Connection S K)) (c : Coming) (w : Worst) (stop : Bool) (d : PollDoorView) (t : ClockView) → xs' ≡ x ∷ xs
      → Stands gives takes o p xs' c w stop d t → x.number < 2147483646
  front_number xs' x xs c w stop d t is so = first_number x xs c w stop d t (subst (λ l. Stands gives takes o p l c w stop d t) is so)

  pub may_take : (xs : List (Connection S K)) (c : Coming) (w : Worst) (stop : Bool) (d : PollDoorView) (t : ClockView) → c.end ≡ None → 0 < c.left → Stands gives takes o p xs c w stop d t → MayTake c
  may_take xs c w stop d t open_still more so = record {
    open_still = open_still;
    more = more;
    number = let n = so.next in let l = numbers_left o c.left (length so.cames) so.within_numbers so.left more in omega (arith, n, l);
  }

  -- the same by equal parts
  pub stands_as : (xs xs' : List (Connection S K)) (c c' : Coming) (w w' : Worst) (stop stop' : Bool) (d : PollDoorView) (t : ClockView)
      → xs' ≡ xs → c' ≡ c → w' ≡ w → stop' ≡ stop → Stands gives takes o p xs c w stop d t → Stands gives takes o p xs' c' w' stop' d t
  stands_as xs xs' c c' w w' stop stop' d t e f g h so =
      subst (λ (z : List (Connection S K) × (Coming × (Worst × Bool))). Stands gives takes o p z.0 z.1.0 z.1.1.0 z.1.1.1 d t) (λ i. (sym e i, (sym f i, (sym g i, sym h i)))) so

-- a poll by the number of the session, by that of the connection
pub polls_as : (k n : ℕ) (told : Told) (result : Polled) (x x' : Session) (woken : Type 0) (p q : PassView) (v v' : Ports) → k ≡ n
    → Polls k told result (IsAt p.charter k x) (IsAt p.charter k x') woken p q v v' → Polls n told result (IsAt p.charter n x) (IsAt p.charter n x') woken p q v v'
polls_as k n told result x x' woken p q v v' is polls = subst (λ j. Polls j told result (IsAt p.charter j x) (IsAt p.charter j x') woken p q v v') is polls

module _ {S K : Type 0} (gives : S → PollSourceView) (takes : K → PollSinkView) where
  abbrev taken_from : Coming → Coming → Coming
  taken_from old c = record c { next = old.next + 1; left = c.left - 1 }

  -- a connection that came is served
  pub taken_by : (old z : Serving S K) (x : Connection S K) (items : List (Connection S K)) (source : S) (sink : K) (d1 : PollDoorView) → z ≡ record old { connections = z.connections }
      → deque_items z.connections ≡ deque_items old.connections → items ≡ deque_items z.connections ++ x ∷ [] → x.number ≡ old.coming.next → MayTake old.coming → x.came.value ≡ x.conn
      → (x.conn.source.port ≡ source) × (x.conn.sink.port ≡ sink) → IsNewSession x.number x.session
      → (o : Start) (d : PollDoorView) (t : ClockView) → TakesIn (untimed (gives source) (takes sink)) d.door d1.door → Serves gives takes o old d t
      → Stands gives takes o (alone_pass z.turns) items (taken_from old.coming z.coming) z.worst z.stop d1 t
  taken_by old z x items source sink d1 same connections pushed number may came parts new o d t takes_in so =
      let came_is : came_in gives takes x ≡ untimed (gives source) (takes sink) =
      ap (λ y. untimed (gives y.source.port) (takes y.sink.port)) came ∙ (λ i. untimed (gives (parts.0 i)) (takes (parts.1 i))) in
      let stands = stands_taken gives takes o (alone_pass old.turns) (deque_items old.connections) old.coming old.worst old.stop d d1 t x number may.more came new may.open_still
      (subst (λ y. TakesIn y d.door d1.door) (sym came_is) takes_in) so in
      let there = subst (λ l. Stands gives takes o (alone_pass old.turns) l (taken_one gives takes old.coming) old.worst old.stop d1 t) (sym (pushed ∙ ap (λ l. l ++ x ∷ []) connections)) stands in
      subst (λ (y : Serving S K). Stands gives takes o (alone_pass y.turns) items (taken_from old.coming y.coming) y.worst y.stop d1 t) (sym same) there

  -- or is left to the door for want of memory
  pub refused_by : (old z : Serving S K) (w : Worst) (source : S) (sink : K) (d1 d2 : PollDoorView) → z ≡ record old { connections = z.connections } → deque_items z.connections ≡ deque_items old.connections
      → MayTake old.coming → w ≡ worse_of z.worst worst.NoMemory → LeaveSays old.coming.next (untimed (gives source) (takes sink)) d1.door d2.door
      → (o : Start) (d : PollDoorView) (t : ClockView) → TakesIn (untimed (gives source) (takes sink)) d.door d1.door → Serves gives takes o old d t
      → Stands gives takes o (alone_pass z.turns) (deque_items z.connections) (taken_from old.coming z.coming) w z.stop d2 t
  refused_by old z w source sink d1 d2 same connections may worse leaves o d t takes_in so =
      let stands = stands_refused gives takes o (alone_pass old.turns) (deque_items old.connections) old.coming old.worst w old.stop d d1 d2 t old.coming.next (untimed (gives source) (takes sink))
      refl may.more may.open_still takes_in leaves (worse ∙ ap (λ (y : Serving S K). worse_of y.worst worst.NoMemory) same) so in
      let there = subst (λ l. Stands gives takes o (alone_pass old.turns) l (taken_one gives takes old.coming) w old.stop d2 t) (sym connections) stands in
      subst (λ (y : Serving S K). Stands gives takes o (alone_pass y.turns) (deque_items z.connections) (taken_from old.coming y.coming) w y.stop d2 t) (sym same) there

  -- the clock paused
  pub paused_by : (old new : Serving S K) (d : PollDoorView) (t t1 : ClockView) → new ≡ record old { stop = new.stop } → ClockStood t t1
      → (IsTrue new.stop → IsTrue old.stop ⊎ Rose t.stops t1.stops) → (o : Start) → Serves gives takes o old d t → Serves gives takes o new d t1
  paused_by old new d t t1 same stood stops o so =
      subst (λ (y : Serving S K). Stands gives takes o (alone_pass y.turns) (deque_items y.connections) y.coming y.worst new.stop d t1) (sym same)
      (stands_paused gives takes o (alone_pass old.turns) (deque_items old.connections) old.coming old.worst old.stop new.stop d t t1 stood stops so)
