-- A poll of the loop: before the first session is polled, behind the last one, and where it pauses.
use Rattle.std.proofs.Common.{◌≡◌, ◌+◌, ◌≤◌, ◌⊎◌, ◌&&◌, ℕ, Bool, true, false, not, List, [], ◌∷◌, ◌++◌, length, map, refl, sym, ◌∙◌, ap, subst, arith, inl, inr, ⊎_elim, append-nil, append_assoc}
use Rattle.std.specs.Prelude.{Contains, IsTrue}
use Rattle.std.specs.VecDeque.{deque_items}
use Rattle.std.proofs.lemmas.Bool.{false≢true}
use Rattle.std.proofs.lemmas.List.Elements.{Contains-append_left, Contains-push}
use Rattle.engine_ports.specs.Clock.{ClockStood, ClockView}
use Rattle.engine_ports.specs.Rose.{Rose}
use Rattle.engine_ports.proofs.PortLemmas.{rose_since}
use Rattle.daemon_core.specs.Passing.{alone_pass}
use Rattle.polled_ports.specs.PollDoor.{PollDoorView, untimed}
use Rattle.polled_ports.specs.PollSource.{PollSourceView}
use Rattle.polled_ports.specs.PollSink.{PollSinkView}
use Rattle.polled_model.specs.declared.polled.Cause.{Cause}
use Rattle.engine_loop.specs.Lives.{Run}
use Rattle.engine_loop.specs.Pausing.{AllWait, PausesLoop, Served, StoodSo}
use Rattle.engine_loop.specs.Standing.{AllStood, GoesOn, IsInPoll, PollsAll, Serves, StandStill, Stands, Start, is_open, ports_in, run_by, served_by, takes_more, view_by}
use Rattle.engine_loop.specs.declared.coming.Coming.{Coming}
use Rattle.engine_loop.specs.declared.polling.Rest.{Rest}
use Rattle.engine_loop.specs.declared.connection.Connection.{Connection}
use Rattle.engine_loop.specs.declared.serving.Serving.{Serving}
use Rattle.engine_loop.proofs.DoorLemmas.{stands_paused}
use Rattle.engine_loop.proofs.FrontLemmas.{ports_machine}
use Rattle.engine_loop.proofs.WaitLemmas.{wait_still}

-- the daemon may go on only where it could before
door_by : (a b c : Bool) → (IsTrue a → IsTrue b) → IsTrue (not b && c) → IsTrue (not a && c)
door_by false false c still more = more
door_by true false c still more = absurd (false≢true (still refl))
door_by false true c still more = absurd (false≢true more)
door_by true true c still more = absurd (false≢true more)

module _ {S K : Type 0} (gives : S → PollSourceView) (takes : K → PollSinkView) where
  -- ---- those that are served stand as they do

  stood_first : (pre : List Served) (xs : List (Connection S K)) → AllStood gives takes (pre ++ map (served_by gives takes) xs) xs
  stood_first pre [] = tt
  stood_first pre (x ∷ xs) =
      let z = served_by gives takes x in
      let more = map (served_by gives takes) xs in
      let e : (pre ++ z ∷ []) ++ more ≡ pre ++ z ∷ more = append_assoc pre (z ∷ []) more in (
        inl (subst (λ l. Contains l z) e (Contains-append_left (pre ++ z ∷ []) more z (Contains-push pre z))),
        subst (λ l. AllStood gives takes l xs) e (stood_first (pre ++ z ∷ []) xs),
      )

  stood_more : (before : List Served) (xs : List (Connection S K)) (x : Connection S K) → AllStood gives takes before xs → StoodSo before (served_by gives takes x) (ports_in gives takes x.conn) → AllStood gives takes before (xs ++ x ∷ [])
  stood_more before [] x h s = (s, tt)
  stood_more before (y ∷ xs) x h s = (h.0, stood_more before xs x h.1 s)

  -- one more came in this poll
  pub stood_taken : (xs was items : List (Connection S K)) (x : Connection S K) → was ≡ xs → items ≡ was ++ x ∷ [] → x.came.value ≡ x.conn → (before : List Served) → AllStood gives takes before xs → AllStood gives takes before items
  stood_taken xs was items x same pushed came before stood =
      subst (AllStood gives takes before) (sym (pushed ∙ ap (λ l. l ++ x ∷ []) same))
      (stood_more before xs x stood (inr (sym (ap (λ y. untimed (gives y.source.port) (takes y.sink.port)) came))))

  pub stood_same : (xs items : List (Connection S K)) → items ≡ xs → (before : List Served) → AllStood gives takes before xs → AllStood gives takes before items
  stood_same xs items same before stood = subst (AllStood gives takes before) (sym same) stood

  -- ---- the poll begins, and nobody was polled

  pub poll_begins : (o : Start) (woken : Type 0) (before : List Served) (left : ℕ) (v : Serving S K) (d : PollDoorView) (t : ClockView) → length (deque_items v.connections) ≡ left
      → Serves gives takes o v d t → AllStood gives takes before (deque_items v.connections) → IsInPoll gives takes o woken before Rest.Ports left v d t
  poll_begins o woken before left v d t count so stood = record {
    so = so;
    rest = deque_items v.connections;
    done = [];
    split = sym (append-nil (deque_items v.connections));
    count = count;
    stood = stood;
    causes = [];
    waits = tt;
    machine = λ is. absurd (ports_machine is);
  }

  -- ---- all were polled

  all_wait : (r : Run) (woken : Type 0) (before : List Served) (cs : List Cause) (rest done xs : List (Connection S K)) → length rest ≡ 0 → xs ≡ rest ++ done
      → AllWait r woken before cs (map (served_by gives takes) done) → AllWait r woken before cs (map (served_by gives takes) xs)
  all_wait r woken before cs [] done xs count split waits = subst (λ l. AllWait r woken before cs (map (served_by gives takes) l)) (sym split) waits
  all_wait r woken before cs (y ∷ rest) done xs count split waits = absurd (omega (arith, count))

  module _ (old v1 v2 : Serving S K) (d d1 d2 : PollDoorView) (t t2 : ClockView) (woken armed : Type 0) (come_to : Rest)
      (goes : (t : ClockView) → GoesOn gives takes old v1 d d1 t t) (stood : StandStill gives takes old v1)
      (waits : IsTrue (takes_more gives takes v1) → armed × Rose d.registered d1.registered) (stop : v1.stop ≡ old.stop)
      (polled : PollsAll gives takes woken come_to v1 v2 d1 d2 t t2) (same : (v2.coming ≡ v1.coming) × (v2.stop ≡ v1.stop)) (registered : d2.registered ≡ d1.registered)
      (o : Start) (so : Serves gives takes o old d t) where
    abbrev before : List Served
    before = map (served_by gives takes) (deque_items old.connections)

    abbrev inside : IsInPoll gives takes o woken before come_to 0 v2 d2 t2
    inside = polled o before (goes t o so) (stood before (stood_first [] (deque_items old.connections)))

    abbrev so2 : Serves gives takes o v2 d2 t2
    so2 = inside.so

    waits_all : AllWait (run_by o so2.added so2.moments t2) woken before inside.causes (map (served_by gives takes) (deque_items v2.connections))
    waits_all = all_wait (run_by o so2.added so2.moments t2) woken before inside.causes inside.rest inside.done (deque_items v2.connections) inside.count inside.split inside.waits

    door : IsTrue (not v2.stop && is_open v2.coming) → Rose d.registered d2.registered
    door more = subst (Rose d.registered) (sym registered) (waits (subst (λ (z : Bool × Coming). IsTrue (not z.0 && is_open z.1)) (λ i. (same.1 i, same.0 i)) more)).1

    -- it doesn't pause
    pub waits_by : (so' : Serves gives takes o v2 d2 t2) × PausesLoop (run_by o so'.added so'.moments t2) woken (view_by gives takes old d t) (view_by gives takes v2 d2 t2)
    waits_by = (
      so2,
      record {
        causes = inside.causes;
        waits = waits_all;
        door = door;
        still = λ is. subst IsTrue (sym (same.1 ∙ stop)) is;
        stops = λ is. inl (subst IsTrue (same.1 ∙ stop) is);
      },
    )

    -- it pauses, since a session waits for the machine
    pub pauses_by : (v3 : Serving S K) (t3 : ClockView) → v3 ≡ record v2 { stop = v3.stop } → ClockStood t2 t3 → (IsTrue v3.stop → IsTrue v2.stop ⊎ Rose t2.stops t3.stops) → (IsTrue v2.stop → IsTrue v3.stop)
        → t.stops ≤ t2.stops → come_to ≡ Rest.Machine
        → (so' : Serves gives takes o v3 d2 t3) × PausesLoop (run_by o so'.added so'.moments t3) woken (view_by gives takes old d t) (view_by gives takes v3 d2 t3)
    unfolding stands_paused
    pauses_by v3 t3 parts stood3 stops still later machine =
        subst (λ (y : Serving S K). (so' : Stands gives takes o (alone_pass y.turns) (deque_items y.connections) y.coming y.worst v3.stop d2 t3)
        × PausesLoop (run_by o so'.added so'.moments t3) woken (view_by gives takes old d t)
        (record { served = map (served_by gives takes) (deque_items y.connections); takes_more = not v3.stop && is_open y.coming; stop = v3.stop; door = d2; clock = t3 }))
        (sym parts) (
          stands_paused gives takes o (alone_pass v2.turns) (deque_items v2.connections) v2.coming v2.worst v2.stop v3.stop d2 t2 t3 stood3 stops so2,
          record {
            causes = inside.causes;
            waits = wait_still (run_by o so2.added so2.moments t2) t3 stood3.stops woken before inside.causes (map (served_by gives takes) (deque_items v2.connections)) waits_all;
            door = λ more. door (door_by v2.stop v3.stop (is_open v2.coming) still more);
            still = λ is. still (subst IsTrue (sym (same.1 ∙ stop)) is);
            stops = λ is. ⊎_elim (λ was. inl (subst IsTrue (same.1 ∙ stop) was)) (λ rose. inr (rose_since t.stops t2.stops t3.stops later rose, inside.machine machine)) (stops is);
          },
        )
