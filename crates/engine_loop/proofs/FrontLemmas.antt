-- The first of those that are still to be polled in a poll of the loop.
use Rattle.std.proofs.Common.{◌≡◌, ◌+◌, ◌⊎◌, ℕ, Bool, true, false, List, [], ◌∷◌, ◌++◌, length, map, refl, sym, ◌∙◌, ap, subst, arith, inl, inr, ⊎_elim}
use Rattle.std.specs.Prelude.{Contains}
use Rattle.std.specs.VecDeque.{deque_items}
use Rattle.std.proofs.lemmas.Bool.{false≢true}
use Rattle.engine_ports.specs.Clock.{ClockView}
use Rattle.engine_ports.specs.Door.{LeaveSays}
use Rattle.session_model.specs.declared.ending.Ending.{Ending}
use Rattle.session_model.specs.declared.ending.Worst.{Worst}
use Rattle.session_model.specs.Pass.{PassView}
use Rattle.daemon_core.specs.Passing.{alone_pass}
use Rattle.daemon_core.specs.declared.alone.Alone.{Alone}
use Rattle.door_model.specs.Worsts.{called_by, worse_of}
use Rattle.polled_ports.specs.PollDoor.{PollDoorView, untimed}
use Rattle.polled_ports.specs.PollSource.{PollSourceView}
use Rattle.polled_ports.specs.PollSink.{PollSinkView}
use Rattle.polled_model.specs.declared.polled.Cause.{Cause}
use Rattle.polled_model.specs.declared.polled.Polled.TheVariants.{Done, Pending}
use Rattle.polled_model.specs.Polls.{Polls}
use Rattle.session_poll.specs.Standing.{IsAt}
use Rattle.engine_loop.specs.Pausing.{AllWait, Served}
use Rattle.engine_loop.specs.Standing.{AllStood, ComesOf, InPoll, IsInPoll, PollsConnection, Stands, Start, ports_in, run_by, served_by}
use Rattle.engine_loop.specs.declared.coming.Coming.{Coming}
use Rattle.engine_loop.specs.declared.polling.Rest.{Rest}
use Rattle.engine_loop.specs.declared.connection.Halves.{Halves}
use Rattle.engine_loop.specs.declared.connection.Connection.{Connection}
use Rattle.engine_loop.specs.declared.serving.Serving.{Serving}
use Rattle.engine_loop.proofs.InPollLemmas.{leaves_on, moves_on}

module _ {A : Type 0} where
  abbrev behind_first : List A → List A
  behind_first [] = []
  behind_first (x ∷ xs) = xs

  abbrev first_or : A → List A → A
  first_or a [] = a
  first_or a (x ∷ xs) = x

abbrev is_machine : Rest → Bool
is_machine Rest.Machine = true
is_machine r = false

pub on_machine : Rest.On ≡ Rest.Machine → ⊥
on_machine e = false≢true (ap is_machine e)

pub ports_machine : Rest.Ports ≡ Rest.Machine → ⊥
ports_machine e = false≢true (ap is_machine e)

module _ {S K : Type 0} (gives : S → PollSourceView) (takes : K → PollSinkView) (o : Start) (woken : Type 0) (before : List Served) (was : Rest) (p : PassView) (c : Coming) (w : Worst) (stop : Bool) (d : PollDoorView) (t : ClockView) where
  -- the first of them is still to be polled, before these; those were
  pub record AtFront (x : Connection S K) (xs : List (Connection S K)) (left : ℕ) : Type 0 where
    pub rest : List (Connection S K)
    pub done : List (Connection S K)
    pub split : xs ≡ rest ++ done
    pub count : length rest ≡ left
    pub so : Stands gives takes o p (x ∷ (rest ++ done)) c w stop d t
    pub stood : AllStood gives takes before (x ∷ rest)
    pub causes : List Cause
    pub waits : AllWait (run_by o so.added so.moments t) woken before causes (map (served_by gives takes) done)
    pub machine : was ≡ Rest.Machine → Contains causes Cause.NotYet

  front_by : (left : ℕ) (x : Connection S K) (xs rest done : List (Connection S K)) → x ∷ xs ≡ rest ++ done → length rest ≡ left + 1 → AllStood gives takes before rest → (causes : List Cause)
      → (so : Stands gives takes o p (x ∷ xs) c w stop d t) → AllWait (run_by o so.added so.moments t) woken before causes (map (served_by gives takes) done)
      → (was ≡ Rest.Machine → Contains causes Cause.NotYet) → AtFront x xs left
  front_by left x xs [] done split count stood causes so waits machine = absurd (omega (arith, count))
  front_by left x xs (y ∷ rest) done split count stood causes so waits machine =
      let e : xs ≡ rest ++ done = ap behind_first split in
      let moved = subst (λ l. (so : Stands gives takes o p (x ∷ l) c w stop d t) × AllWait (run_by o so.added so.moments t) woken before causes (map (served_by gives takes) done)) e (so, waits) in
      record {
        rest = rest;
        done = done;
        split = e;
        count = omega (arith, count);
        so = moved.0;
        stood = subst (λ z. AllStood gives takes before (z ∷ rest)) (sym (ap (first_or x) split)) stood;
        causes = causes;
        waits = moved.1;
        machine = machine;
      }

  pub at_front : (left : ℕ) (x : Connection S K) (xs items : List (Connection S K)) → items ≡ x ∷ xs → InPoll gives takes o woken before was (left + 1) p items c w stop d t → AtFront x xs left
  at_front left x xs items is inside =
      let y = subst (λ l. InPoll gives takes o woken before was (left + 1) p l c w stop d t) is inside in
      front_by left x xs y.rest y.done y.split y.count y.stood y.causes y.so y.waits y.machine

module _ {S K : Type 0} (gives : S → PollSourceView) (takes : K → PollSinkView) where
  pub pending_in : (old : Serving S K) (x x1 : Connection S K) (conn : Halves S K) (xs items : List (Connection S K)) (turns : Alone) (d : PollDoorView) (t t1 : ClockView) (cause : Cause) (woken woken' : Type 0)
      → deque_items old.connections ≡ x ∷ xs → PollsConnection gives takes old.stop (Pending cause) woken' x x1 (alone_pass old.turns) (alone_pass turns) t t1
      → conn.source.port ≡ x1.conn.source.port → conn.sink.port ≡ x1.conn.sink.port → items ≡ xs ++ (record x1 { conn = conn }) ∷ []
      → (result : Rest) → (result ≡ Rest.Machine → cause ≡ Cause.NotYet) → (woken → woken')
      → (o : Start) (before : List Served) (was now : Rest) (left : ℕ) → ComesOf was result now → IsInPoll gives takes o woken before was (left + 1) old d t
      → InPoll gives takes o woken' before now left (alone_pass turns) items old.coming old.worst old.stop d t1
  pending_in old x x1 conn xs items turns d t t1 cause woken woken' first polled source sink pushed result by go o before was now left comes_of inside =
      let p = alone_pass old.turns in
      let q = alone_pass turns in
      let a = at_front gives takes o woken before was p old.coming old.worst old.stop d t left x xs (deque_items old.connections) first inside in
      let ports_are : ports_in gives takes x1.conn ≡ ports_in gives takes conn = (λ i. record { source = gives (sym source i); sink = takes (sym sink i) }) in
      let polls = subst (λ v. Polls x.number (record { handed = polled.0; stop = old.stop }) (Pending cause) (IsAt p.charter x.number x.session) (IsAt p.charter x.number x1.session) woken' p q (ports_in gives takes x.conn) v)
      ports_are polled.5 in
      let moved = moves_on gives takes o woken woken' before p q x (record x1 { conn = conn }) old.coming old.worst old.stop d t t1 polled.0 cause a.rest a.done a.so polled.1 refl refl polls polled.2 polled.3
      was now result a.causes comes_of by a.machine polled.4 go a.stood a.waits in
      subst (λ (z : ℕ × List (Connection S K)). InPoll gives takes o woken' before now z.0 q z.1 old.coming old.worst old.stop d t1)
      (λ i. (a.count i, sym (pushed ∙ ap (λ l. l ++ (record x1 { conn = conn }) ∷ []) a.split) i)) moved

  pub done_in : (old : Serving S K) (x x1 : Connection S K) (xs items : List (Connection S K)) (turns : Alone) (w : Worst) (d d' : PollDoorView) (t t1 : ClockView) (e : Ending) (woken woken' : Type 0)
      → deque_items old.connections ≡ x ∷ xs → PollsConnection gives takes old.stop (Done e) woken' x x1 (alone_pass old.turns) (alone_pass turns) t t1
      → w ≡ worse_of old.worst (called_by e) → LeaveSays x1.number (untimed (gives x1.conn.source.port) (takes x1.conn.sink.port)) d.door d'.door → items ≡ xs → (woken → woken')
      → (o : Start) (before : List Served) (was now : Rest) (left : ℕ) → ComesOf was Rest.On now → IsInPoll gives takes o woken before was (left + 1) old d t
      → InPoll gives takes o woken' before now left (alone_pass turns) items old.coming w old.stop d' t1
  done_in old x x1 xs items turns w d d' t t1 e woken woken' first polled worse leaves popped go o before was now left comes_of inside =
      let p = alone_pass old.turns in
      let q = alone_pass turns in
      let a = at_front gives takes o woken before was p old.coming old.worst old.stop d t left x xs (deque_items old.connections) first inside in
      let left_now = leaves_on gives takes o woken woken' before p q x old.coming old.worst w old.stop d d' t t1 polled.0 e _ (ports_in gives takes x1.conn) a.rest a.done a.so polled.1 refl refl polled.5 worse
      (subst (λ n. LeaveSays n (untimed (gives x1.conn.source.port) (takes x1.conn.sink.port)) d.door d'.door) polled.2 leaves)
      now a.causes (λ is. ⊎_elim (λ h. a.machine h) (λ h. absurd (on_machine h)) (comes_of is)) go a.stood.1 a.waits in
      subst (λ (z : ℕ × List (Connection S K)). InPoll gives takes o woken' before now z.0 q z.1 old.coming w old.stop d' t1)
      (λ i. (a.count i, sym (popped ∙ a.split) i)) left_now
