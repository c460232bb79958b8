-- The first session was polled: it waits behind the others, or has left.
use Rattle.std.proofs.Common.{◌≡◌, ℕ, List, [], ◌∷◌, ◌++◌, refl, sym, ◌∙◌, ap, subst}
use Rattle.std.specs.VecDeque.{deque_items}
use Rattle.engine_ports.specs.Clock.{ClockView}
use Rattle.engine_ports.specs.Door.{LeaveSays}
use Rattle.session_model.specs.declared.ending.Ending.{Ending}
use Rattle.session_model.specs.declared.ending.Worst.{Worst}
use Rattle.daemon_core.specs.Passing.{alone_pass}
use Rattle.daemon_core.specs.declared.alone.Alone.{Alone}
use Rattle.door_model.specs.Worsts.{called_by, worse_of}
use Rattle.polled_ports.specs.PollDoor.{PollDoorView, untimed}
use Rattle.polled_ports.specs.PollSource.{PollSourceView}
use Rattle.polled_ports.specs.PollSink.{PollSinkView}
use Rattle.polled_model.specs.declared.polled.Cause.{Cause}
use Rattle.polled_model.specs.declared.polled.Polled.TheVariants.{Done, Pending}
use Rattle.polled_model.specs.Polls.{Polls, Ports}
use Rattle.session_poll.specs.Standing.{IsAt}
use Rattle.engine_loop.specs.Standing.{PollsConnection, Serves, Stands, Start, ports_in}
use Rattle.engine_loop.specs.declared.connection.Halves.{Halves}
use Rattle.engine_loop.specs.declared.connection.Connection.{Connection}
use Rattle.engine_loop.specs.declared.serving.Serving.{Serving}
use Rattle.engine_loop.proofs.PollLemmas.{stands_done, stands_pending}

module _ {S K : Type 0} (gives : S → PollSourceView) (takes : K → PollSinkView) where
  pub pending_by : (old : Serving S K) (x x1 : Connection S K) (conn : Halves S K) (xs items : List (Connection S K)) (turns : Alone) (d : PollDoorView) (t t1 : ClockView) (cause : Cause) (woken : Type 0)
      → deque_items old.connections ≡ x ∷ xs → PollsConnection gives takes old.stop (Pending cause) woken x x1 (alone_pass old.turns) (alone_pass turns) t t1
      → conn.source.port ≡ x1.conn.source.port → conn.sink.port ≡ x1.conn.sink.port → items ≡ xs ++ (record x1 { conn = conn }) ∷ []
      → (o : Start) → Serves gives takes o old d t → Stands gives takes o (alone_pass turns) items old.coming old.worst old.stop d t1
  pending_by old x x1 conn xs items turns d t t1 cause woken first polled source sink pushed o so =
      let p = alone_pass old.turns in
      let q = alone_pass turns in
      let was = subst (λ l. Stands gives takes o p l old.coming old.worst old.stop d t) first so in
      let ports_are : ports_in gives takes x1.conn ≡ ports_in gives takes conn = (λ i. record { source = gives (sym source i); sink = takes (sym sink i) }) in
      let polls = subst (λ v. Polls x.number (record { handed = polled.0; stop = old.stop }) (Pending cause) (IsAt p.charter x.number x.session) (IsAt p.charter x.number x1.session) woken p q (ports_in gives takes x.conn) v)
      ports_are polled.5 in
      let stands = stands_pending gives takes o p q x (record x1 { conn = conn }) xs old.coming old.worst old.stop d t t1 polled.0 cause woken polled.1 refl refl polls polled.2 polled.3 polled.4 was in
      subst (λ l. Stands gives takes o q l old.coming old.worst old.stop d t1) (sym pushed) stands

  pub done_by : (old : Serving S K) (x x1 : Connection S K) (xs items : List (Connection S K)) (turns : Alone) (w : Worst) (d d' : PollDoorView) (t t1 : ClockView) (e : Ending) (woken : Type 0)
      → deque_items old.connections ≡ x ∷ xs → PollsConnection gives takes old.stop (Done e) woken x x1 (alone_pass old.turns) (alone_pass turns) t t1
      → w ≡ worse_of old.worst (called_by e) → LeaveSays x1.number (untimed (gives x1.conn.source.port) (takes x1.conn.sink.port)) d.door d'.door → items ≡ xs
      → (o : Start) → Serves gives takes o old d t → Stands gives takes o (alone_pass turns) items old.coming w old.stop d' t1
  done_by old x x1 xs items turns w d d' t t1 e woken first polled worse leaves popped o so =
      let p = alone_pass old.turns in
      let q = alone_pass turns in
      let was = subst (λ l. Stands gives takes o p l old.coming old.worst old.stop d t) first so in
      let stands = stands_done gives takes o p q x (ports_in gives takes x1.conn) xs old.coming old.worst w old.stop d d' t t1 polled.0 e _ woken polled.1 refl refl polled.5 worse
      (subst (λ n. LeaveSays n (untimed (gives x1.conn.source.port) (takes x1.conn.sink.port)) d.door d'.door) polled.2 leaves) was in
      subst (λ l. Stands gives takes o q l old.coming w old.stop d' t1) (sym popped) stands
