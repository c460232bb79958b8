-- A loop between its polls, and at its end.
use Rattle.std.proofs.Common.{◌≡◌, ◌+◌, ◌-◌, ◌<◌, ◌≤◌, ℕ, List, [], ◌⊎◌, inl, inr, Option, Some, None, Bool, true, false, nat_le, refl, sym, ◌∙◌, ap, subst, arith}
use denote.Ref.{MutBor}
use Rattle.std.specs.Prelude.{IsTrue}
use Rattle.std.specs.VecDeque.{deque_items}
use Rattle.std.proofs.lemmas.Bool.Decides.{nat_tests}
use Rattle.engine_ports.specs.Clock.{ClockView}
use Rattle.machine_model.specs.History.{IsLegal}
use Rattle.session_model.specs.declared.ending.Worst.{Worst}
use Rattle.session_model.specs.declared.ending.Worst.TheVariants as worst
use Rattle.session_model.specs.Pass.{PassView}
use Rattle.daemon_core.specs.Passing.{alone_pass, whole_pass}
use Rattle.daemon_core.specs.declared.daemon.Daemon.{Daemon}
use Rattle.door_model.specs.Connections.{most_from}
use Rattle.door_model.specs.Worsts.{worse_of}
use Rattle.polled_ports.specs.PollDoor.{PollDoorView}
use Rattle.polled_ports.specs.PollSource.{PollSourceView}
use Rattle.polled_ports.specs.PollSink.{PollSinkView}
use Rattle.engine_loop.specs.Looping.{BeginsLoop, CanPollLoop, GivesLoop, LoopWaits, start_of}
use Rattle.engine_loop.specs.Running.{RunsLoop}
use Rattle.engine_loop.specs.Standing.{GoesOn, PausesSo, Serves, Stands, Start, is_open, why_of}
use Rattle.engine_loop.specs.declared.looping.Finished.{Finished}
use Rattle.engine_loop.specs.declared.looping.Held.{Held}
use Rattle.engine_loop.specs.declared.looping.Loop.{Loop}
use Rattle.engine_loop.specs.declared.serving.Serving.{Serving}
use Rattle.engine_loop.specs.declared.ticking.LentClock.{LentClock}
use Rattle.engine_loop.specs.declared.connection.Connection.{Connection}
use Rattle.engine_loop.proofs.DoorLemmas.{runs}
use Rattle.engine_loop.proofs.StandLemmas.{stands_first}

some_same : {A : Type 0} (x y : A) → Some x ≡ Some y → x ≡ y
some_same x y e = cc

module _ {S K D C : Type 0} (gives : S → PollSourceView) (takes : K → PollSinkView) (opens : D → PollDoorView) (times : C → ClockView) (which : C → ℕ) where
  -- what it holds, taken out
  pub record Holds (l : Loop D C S K) (h : Held D C S K) : Type 0 where
    pub door : h.door.ghost_name ≡ l.began.value.door.ghost_name
    pub clock : which h.clock ≡ which l.began.value.clock
    pub stands : Serves gives takes (start_of gives takes opens times which l.began.value) h.serving (opens h.door.now) (times h.clock)

  pub holds_by : (l : Loop D C S K) (h : Held D C S K) → l.held ≡ Some h → CanPollLoop gives takes opens times which l → Holds l h
  holds_by l h is can = subst (λ y. Holds l y) (some_same can.h h (sym can.holds ∙ is)) record { door = can.door; clock = can.clock; stands = can.stands }

  -- it is polled again
  pub again_by : (l l' : Loop D C S K) (h h' : Held D C S K) → l.held ≡ Some h → CanPollLoop gives takes opens times which l → l'.held ≡ Some h' → l'.began ≡ l.began
      → h'.door.ghost_name ≡ h.door.ghost_name → which h'.clock ≡ which h.clock
      → GoesOn gives takes h.serving h'.serving (opens h.door.now) (opens h'.door.now) (times h.clock) (times h'.clock) → CanPollLoop gives takes opens times which l'
  again_by l l' h h' is can is' began door clock goes =
      let holds = holds_by l h is can in record {
        h = h';
        holds = is';
        door = door ∙ holds.door ∙ ap (λ y. y.value.door.ghost_name) (sym began);
        clock = clock ∙ holds.clock ∙ ap (λ y. which y.value.clock) (sym began);
        stands = subst (λ y. Serves gives takes (start_of gives takes opens times which y.value) h'.serving (opens h'.door.now) (times h'.clock)) (sym began) (goes _ holds.stands);
      }

  -- it waits
  pub waits_in : (woken : Type 0) (l l' : Loop D C S K) (h h' : Held D C S K) → l.held ≡ Some h → CanPollLoop gives takes opens times which l → l'.held ≡ Some h'
      → PausesSo gives takes woken h.serving h'.serving (opens h.door.now) (opens h'.door.now) (times h.clock) (times h'.clock) → LoopWaits gives takes opens times which woken l l'
  waits_in woken l l' h h' is can is' pauses =
      let p = pauses (start_of gives takes opens times which l.began.value) (holds_by l h is can).stands in
      record { was = h; held = is; h = h'; holds = is'; stands = p.0; pauses = p.1 }

  -- what a later poll gives, this one does
  pub gives_since : (l l' : Loop D C S K) (f : Finished D C S K) → l'.began ≡ l.began → GivesLoop gives takes opens times which l' f → GivesLoop gives takes opens times which l f
  gives_since l l' f began given = record {
    door = given.door ∙ ap (λ y. y.value.door.ghost_name) began;
    clock = given.clock ∙ ap (λ y. which y.value.clock) began;
    runs = subst (λ y. RunsLoop y.value.serving.coming.next y.value.serving.coming.left f.worst (alone_pass y.value.serving.turns) (whole_pass f.daemon)
        (opens y.value.door.now) (opens f.door.now) (times y.value.clock) (times f.clock)) began given.runs;
  }

  -- it is over
  pub gives_by : (l : Loop D C S K) (h h' : Held D C S K) (f : Finished D C S K) → l.held ≡ Some h → CanPollLoop gives takes opens times which l
      → h'.door.ghost_name ≡ h.door.ghost_name → which h'.clock ≡ which h.clock
      → GoesOn gives takes h.serving h'.serving (opens h.door.now) (opens h'.door.now) (times h.clock) (times h'.clock)
      → (deque_items h'.serving.connections ≡ []) × (IsTrue h'.serving.stop ⊎ (is_open h'.serving.coming ≡ false))
      → f.worst ≡ worse_of (why_of h'.serving.coming.end) h'.serving.worst → whole_pass f.daemon ≡ alone_pass h'.serving.turns → (f.door ≡ h'.door) × (f.clock ≡ h'.clock)
      → GivesLoop gives takes opens times which l f
  gives_by l h h' f is can door clock goes over worse daemon lent =
      let holds = holds_by l h is can in
      let legal = subst (λ p. IsLegal p.charter p.seen) daemon f.daemon.legal in
      let o = start_of gives takes opens times which l.began.value in
      let v = h'.serving in
      let stands = subst (λ xs. Stands gives takes o (alone_pass v.turns) xs v.coming v.worst v.stop (opens h'.door.now) (times h'.clock)) over.0 (goes o holds.stands) in
      let run = runs gives takes o (alone_pass v.turns) v.coming v.worst f.worst v.stop (opens h'.door.now) (times h'.clock) legal worse over.1 stands in record {
        door = ap (λ y. y.ghost_name) lent.0 ∙ door ∙ holds.door;
        clock = ap which lent.1 ∙ clock ∙ holds.clock;
        runs = subst (λ (z : PassView × (MutBor D × C)). RunsLoop o.first o.most f.worst o.pass z.0 o.door (opens z.1.0.now) o.clock (times z.1.1))
            (λ i. (sym daemon i, (sym lent.0 i, sym lent.1 i))) run;
      }

  -- it is over, and what it held was taken out
  pub gives_taken : (l : Loop D C S K) (h h' taken : Held D C S K) (f : Finished D C S K) → l.held ≡ Some h → CanPollLoop gives takes opens times which l → Some h' ≡ Some taken
      → (h'.door.ghost_name ≡ h.door.ghost_name) × (which h'.clock ≡ which h.clock)
      → GoesOn gives takes h.serving h'.serving (opens h.door.now) (opens h'.door.now) (times h.clock) (times h'.clock)
      → (deque_items h'.serving.connections ≡ []) × (IsTrue h'.serving.stop ⊎ (is_open h'.serving.coming ≡ false))
      → f.worst ≡ worse_of (why_of taken.serving.coming.end) taken.serving.worst → whole_pass f.daemon ≡ alone_pass taken.serving.turns → (f.door ≡ taken.door) × (f.clock ≡ taken.clock)
      → GivesLoop gives takes opens times which l f
  gives_taken l h h' taken f is can took same goes over worse daemon lent =
      let e = some_same taken h' (sym took) in
      gives_by l h h' f is can same.0 same.1 goes over
      (subst (λ (y : Held D C S K). f.worst ≡ worse_of (why_of y.serving.coming.end) y.serving.worst) e worse)
      (subst (λ (y : Held D C S K). whole_pass f.daemon ≡ alone_pass y.serving.turns) e daemon)
      (subst (λ (y : Held D C S K). (f.door ≡ y.door) × (f.clock ≡ y.clock)) e lent)

-- ---- the beginning

within_by : (b : Bool) (first n : ℕ) → nat_le first 2147483646 ≡ b → n ≤ 2147483646 - first → (first + n ≤ 2147483646) ⊎ (n ≡ 0)
within_by true first n is le = inl (let l : first ≤ 2147483646 = grind (arith, nat_tests, is) in omega (arith, l, le))
within_by false first n is le = inr (let l : 2147483646 < first = grind (arith, nat_tests, is) in omega (arith, l, le))

most_within : (first : ℕ) (limit : Option ℕ) → most_from first limit ≤ 2147483646 - first
most_within first None = omega arith
most_within first (Some limit) = omega arith

module _ {S K D C : Type 0} (gives : S → PollSourceView) (takes : K → PollSinkView) (opens : D → PollDoorView) (times : C → ClockView) (which : C → ℕ) where
  begins_at : (first : ℕ) (limit : Option ℕ) (h : Held D C S K) → deque_items h.serving.connections ≡ [] → h.serving.coming ≡ record { next = first; left = most_from first limit; end = None }
      → h.serving.worst ≡ worst.Closed → h.serving.stop ≡ false → Serves gives takes (start_of gives takes opens times which h) h.serving (opens h.door.now) (times h.clock)
  begins_at first limit h none coming closed going =
      let o = start_of gives takes opens times which h in
      let next : o.first ≡ first = ap (λ c. c.next) coming in
      let left : o.most ≡ most_from first limit = ap (λ c. c.left) coming in
      let few : o.most ≤ 2147483646 - o.first = (let m = most_within first limit in omega (arith, m, next, left)) in
      let stands = stands_first gives takes o h.serving.coming (within_by (nat_le o.first 2147483646) o.first o.most refl few) refl refl refl refl refl (ap (λ c. c.end) coming) in
      subst (λ (z : List (Connection S K) × (Worst × Bool)). Stands gives takes o (alone_pass h.serving.turns) z.0 h.serving.coming z.1.0 z.1.1 (opens h.door.now) (times h.clock))
      (λ i. (sym none i, (sym closed i, sym going i))) stands

  pub begins_by : (first : ℕ) (limit : Option ℕ) (p : PassView) (door : MutBor D) (clock : C) (h : Held D C S K) (l : Loop D C S K) → l.held ≡ Some h → l.began.value ≡ h
      → deque_items h.serving.connections ≡ [] → h.serving.coming ≡ record { next = first; left = most_from first limit; end = None }
      → h.serving.worst ≡ worst.Closed → h.serving.stop ≡ false → alone_pass h.serving.turns ≡ p → h.door ≡ door → h.clock ≡ clock → BeginsLoop gives takes opens times which first limit p door clock l
  begins_by first limit p door clock h l is began none coming closed going pass door_is clock_is = record {
    can = record {
      h = h;
      holds = is;
      door = ap (λ (y : Held D C S K). y.door.ghost_name) (sym began);
      clock = ap (λ (y : Held D C S K). which y.clock) (sym began);
      stands = subst (λ y. Serves gives takes (start_of gives takes opens times which y) h.serving (opens h.door.now) (times h.clock)) (sym began) (begins_at first limit h none coming closed going);
    };
    first_is = ap (λ (y : Held D C S K). y.serving.coming.next) began ∙ ap (λ c. c.next) coming;
    most = ap (λ (y : Held D C S K). y.serving.coming.left) began ∙ ap (λ c. c.left) coming;
    pass = ap (λ (y : Held D C S K). alone_pass y.serving.turns) began ∙ pass;
    door_is = ap (λ (y : Held D C S K). y.door) began ∙ door_is;
    clock_is = ap (λ (y : Held D C S K). y.clock) began ∙ clock_is;
  }

  -- what the runner was given, ran
  ran : (first : ℕ) (limit : Option ℕ) (p : PassView) (door : MutBor D) (clock : C) (l : Loop D C S K) (f : Finished D C S K) → BeginsLoop gives takes opens times which first limit p door clock l
      → GivesLoop gives takes opens times which l f
      → RunsLoop first (most_from first limit) f.worst p (whole_pass f.daemon) (opens door.now) (opens f.door.now) (times clock) (times f.clock)
  ran first limit p door clock l f begins gives_it =
      subst (λ (z : ℕ × (ℕ × (PassView × (MutBor D × C)))). RunsLoop z.0 z.1.0 f.worst z.1.1.0 (whole_pass f.daemon) (opens z.1.1.1.0.now) (opens f.door.now) (times z.1.1.1.1) (times f.clock))
      (λ i. (begins.first_is i, (begins.most i, (begins.pass i, (begins.door_is i, begins.clock_is i))))) gives_it.runs

-- ---- a clock that was lent

module _ {S K D C : Type 0} (gives : S → PollSourceView) (takes : K → PollSinkView) (opens : D → PollDoorView) (times : C → ClockView) where
  -- the door and the clock were lent to what ran, which gave them back: so they are left as it left them
  pub ran_back : (first : ℕ) (limit : Option ℕ) (p : PassView) (door : MutBor D) (clock : LentClock C) (l : Loop D (LentClock C) S K) (f : Finished D (LentClock C) S K)
      (left : D) (ticked : C)
      → BeginsLoop gives takes opens (λ (t : LentClock C). times t.clock.now) (λ (t : LentClock C). t.clock.ghost_name) first limit p door clock l
      → GivesLoop gives takes opens (λ (t : LentClock C). times t.clock.now) (λ (t : LentClock C). t.clock.ghost_name) l f
      → (door.ghost_name ≡ f.door.ghost_name → left ≡ f.door.now) → (clock.clock.ghost_name ≡ f.clock.clock.ghost_name → ticked ≡ f.clock.clock.now)
      → RunsLoop first (most_from first limit) f.worst p (whole_pass f.daemon) (opens door.now) (opens left) (times clock.clock.now) (times ticked)
  ran_back first limit p door clock l f left ticked begins given left_is ticked_is =
      let a = left_is (ap (λ (y : MutBor D). y.ghost_name) (sym begins.door_is) ∙ sym given.door) in
      let b = ticked_is (ap (λ (t : LentClock C). t.clock.ghost_name) (sym begins.clock_is) ∙ sym given.clock) in
      subst (λ (z : D × C). RunsLoop first (most_from first limit) f.worst p (whole_pass f.daemon) (opens door.now) (opens z.0) (times clock.clock.now) (times z.1))
      (λ i. (sym a i, sym b i))
      (ran gives takes opens (λ (t : LentClock C). times t.clock.now) (λ (t : LentClock C). t.clock.ghost_name) first limit p door clock l f begins given)
