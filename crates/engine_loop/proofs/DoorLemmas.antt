-- What a loop holds behind an accept, a pause, and at its end.
use Rattle.std.proofs.Common.{◌≡◌, ◌+◌, ◌-◌, ◌<◌, ◌≤◌, ◌⊎◌, ◌&&◌, ℕ, suc, Bool, true, false, nat_lt, List, [], ◌∷◌, ◌++◌, length, map, Option, None, Some, inl, inr, ⊎_elim, refl, sym, ◌∙◌, ap, subst, arith, append-nil, append_assoc, length-append}
use Rattle.std.specs.Prelude.{Contains, IsPermutation, IsTrue}
use Rattle.std.specs.Option.{is_none}
use Rattle.std.proofs.lemmas.Bool.{false≢true}
use Rattle.std.proofs.lemmas.Bool.Decides.{nat_tests}
use Rattle.std.proofs.lemmas.List.Elements.{All-nil}
use Rattle.std.proofs.lemmas.List.Sorted.{IsPermutation-append_left, IsPermutation-middle, IsPermutation-push_more, IsPermutation-sym}
use Rattle.engine_ports.specs.Rose.{Rose}
use Rattle.engine_ports.specs.Clock.{ClockView, ClockHanded, ClockStood}
use Rattle.engine_ports.specs.Door.{Outside, DoorView, IsEmpty, IsNew, SameDoor, TakesIn, LeaveSays}
use Rattle.engine_ports.proofs.PortLemmas.{clock_on, clock_stood, rose_since, rose_until, sink_none, source_none}
use Rattle.engine_text.specs.declared.step.Step.{Step}
use Rattle.machine_model.specs.History.{Charter, HasNoCall, HasNone, IsLegal, state_after}
use Rattle.session_model.specs.declared.ending.Ending.TheVariants as E
use Rattle.session_model.specs.declared.ending.Worst.{Worst}
use Rattle.session_model.specs.declared.ending.Worst.TheVariants as worst
use Rattle.session_model.specs.Moments.{StaysWithin}
use Rattle.session_model.specs.Pass.{PassView, Every}
use Rattle.session_model.specs.Session.{IsSession, NoneYet, Span}
use Rattle.session_model.proofs.MomentLemmas.{within_on}
use Rattle.polled_ports.specs.PollDoor.{PollDoorView}
use Rattle.polled_ports.specs.PollSource.{PollSourceView}
use Rattle.polled_ports.specs.PollSink.{PollSinkView}
use Rattle.session_poll.proofs.StandingLemmas.{at_beside}
use Rattle.session_poll.proofs.StepLemmas.{none_fed}
use Rattle.door_model.specs.Connections.{ComeIn, GoOut, IsNobodys, numbered}
use Rattle.door_model.specs.Worsts.{IsWorst, called_by, worse_of}
use Rattle.door_model.proofs.ListLemmas.{come_more, map_more, numbered_more, out_more}
use Rattle.door_model.proofs.WorstLemmas.{worst_for, worst_more}
use Rattle.engine_loop.specs.Lives.{AllLived, Life, Lived, Lives, Run, by_clock, history}
use Rattle.engine_loop.specs.Running.{CallsStand, Halts, RunsLoop, came_with, left_with}
use Rattle.engine_loop.specs.Standing.{AllServed, AreApart, AreBelow, IsClosed, IsNoneOf, IsServed, Stands, Start, came_in, is_open, number_of, ports_in, run_by, connection_number, served_with, why_of}
use Rattle.engine_loop.specs.declared.coming.Coming.{Coming}
use Rattle.engine_loop.specs.declared.connection.Connection.{Connection}
use Rattle.engine_loop.proofs.CallLemmas.{calls_later, calls_on, none_of_next}
use Rattle.engine_loop.proofs.LiveLemmas.{further, lived_further, lives_further, quiet_further}
use Rattle.engine_loop.proofs.NumberLemmas.{apart_between, below_between, below_more, next_is_none}
use Rattle.engine_loop.proofs.ServedLemmas.{lived_more}
use Rattle.engine_loop.proofs.StandLemmas.{closed_later, numbers_left, owed_more, taken_one, whose_more}

module _ {S K : Type 0} (gives : S → PollSourceView) (takes : K → PollSinkView) where
  abbrev St : Start → PassView → List (Connection S K) → Coming → Worst → Bool → PollDoorView → ClockView → Type 0
  St = Stands gives takes

  -- the door only may have failed, and may have told why none comes any more
  pub stands_door : (o : Start) (p : PassView) (xs : List (Connection S K)) (c c' : Coming) (w : Worst) (stop : Bool) (d d' : PollDoorView) (t : ClockView)
      → SameDoor d.door d'.door → c'.next ≡ c.next → c'.left ≡ c.left
      → ((count : ℕ) → d.door.faults ≤ d'.door.faults → IsClosed c.end o.most count o.door.door d.door o.clock t → o.door.door.faults ≤ d.door.faults → IsClosed c'.end o.most count o.door.door d'.door o.clock t)
      → St o p xs c w stop d t → St o p xs c' w stop d' t
  stands_door o p xs c c' w stop d d' t same next left closed so = record {
    within_numbers = so.within_numbers;
    charter = so.charter;
    number = so.number;
    pair = so.pair;
    alone = so.alone;
    added = so.added;
    goes_on = so.goes_on;
    moments = so.moments;
    clock = so.clock;
    cames = so.cames;
    next = next ∙ so.next;
    left = ap (λ n. n + length so.cames) left ∙ so.left;
    closed = closed (length so.cames) same.faults so.closed so.faults;
    came = subst (λ z. ComeIn o.door.door.coming so.cames z) (sym same.coming) so.came;
    lives = so.lives;
    each = so.each;
    apart = so.apart;
    below = subst (λ n. AreBelow o.first n (map number_of so.lives ++ map (connection_number gives takes) xs)) (sym next) so.below;
    gone = subst (λ z. GoOut o.door.door.past (map left_with so.lives) z) (sym same.past) so.gone;
    lived = so.lived;
    are_served = so.are_served;
    whose = so.whose;
    stand = so.stand;
    within = so.within;
    all_came = so.all_came;
    owed = let w = so.owed in let e = same.owed in omega (arith, w, e);
    faults = let f = so.faults in let g = same.faults in omega (arith, f, g);
    bound = same.bound ∙ so.bound;
    worst_is = so.worst_is;
    stops = so.stops;
  }

  -- ---- one comes for whom there is no memory

  refused_lived : (r : Run) (k : ℕ) (came : Outside) → HasNone k r.added → IsNew came
      → Lived r k (record { came = came; left = came; ending = E.NoMemory; read = []; written = []; handed = [] })
  refused_lived r k came none new = record {
    new = new;
    source = source_none came.source;
    sink = sink_none came.sink;
    before = r.added;
    none_before = none;
    to = history r;
    behind = [];
    goes_on = sym (append-nil (history r));
    none_behind = refl;
    at_moments = All-nil (λ m. Contains r.moments m);
    feeds = inl (none_fed k r.added none);
    pumps = false;
    session = record {
      done = [];
      tail = [];
      mid = history r;
      bytes = [];
      last = [];
      early = [];
      late = [];
      requests = refl;
      answered = NoneYet (history r);
      ends = inl ((refl, refl), refl, refl, refl);
      wrote = refl;
      handed = refl;
    };
  }

  -- it is left to the door at once
  pub stands_refused : (o : Start) (p : PassView) (xs : List (Connection S K)) (c : Coming) (w w' : Worst) (stop : Bool) (d d1 d2 : PollDoorView) (t : ClockView) (k : ℕ) (came : Outside)
      → k ≡ c.next → 0 < c.left → c.end ≡ None → TakesIn came d.door d1.door → LeaveSays k came d1.door d2.door → w' ≡ worse_of w worst.NoMemory
      → St o p xs c w stop d t → St o p xs (taken_one gives takes c) w' stop d2 t
  stands_refused o p xs c w w' stop d d1 d2 t k came number more open_still takes_in leaves worse so =
      let k_is : k ≡ o.first + length so.cames = number ∙ so.next in
      let none : HasNone k so.added = subst (λ n. HasNone n so.added) (sym k_is) (none_of_next o.first (length so.cames) so.added (numbers_left o c.left (length so.cames) so.within_numbers so.left more) so.whose) in
      let one_more = length-append so.cames (came ∷ []) in
      let life : Life = record { came = came; left = came; ending = E.NoMemory; read = []; written = []; handed = [] } in
      let connections = map (connection_number gives takes) xs in
      let lives = map number_of so.lives in
      let numbers_are : map number_of (so.lives ++ (k, life) ∷ []) ++ connections ≡ lives ++ k ∷ connections =
      ap (λ l. l ++ connections) (map_more number_of so.lives (k, life)) ∙ append_assoc lives (k ∷ []) connections in
      record {
        within_numbers = so.within_numbers;
        charter = so.charter;
        number = so.number;
        pair = so.pair;
        alone = so.alone;
        added = so.added;
        goes_on = so.goes_on;
        moments = so.moments;
        clock = so.clock;
        cames = so.cames ++ came ∷ [];
        next = let n = so.next in omega (arith, n, one_more);
        left = let l = so.left in omega (arith, l, one_more, more);
        closed = subst (λ e. IsClosed e o.most (length (so.cames ++ came ∷ [])) o.door.door d2.door o.clock t) (sym open_still) tt;
        came = subst (λ z. ComeIn o.door.door.coming (so.cames ++ came ∷ []) z) (sym leaves.coming) (come_more o.door.door.coming d.door.coming d1.door.coming so.cames came so.came takes_in.came);
        lives = so.lives ++ (k, life) ∷ [];
        each = subst (λ l. IsPermutation l (map came_with (so.lives ++ (k, life) ∷ []) ++ map (served_with gives takes) xs)) (sym (numbered_more o.first so.cames came))
            (subst (λ n. IsPermutation (numbered o.first so.cames ++ (n, came) ∷ []) (map came_with (so.lives ++ (k, life) ∷ []) ++ map (served_with gives takes) xs)) k_is
            (IsPermutation-push_more (numbered o.first so.cames) (map came_with so.lives ++ map (served_with gives takes) xs) _ (k, came) so.each
            (subst (λ l. IsPermutation ((k, came) ∷ (map came_with so.lives ++ map (served_with gives takes) xs)) l)
            (sym (ap (λ l. l ++ map (served_with gives takes) xs) (map_more came_with so.lives (k, life)) ∙ append_assoc (map came_with so.lives) ((k, came) ∷ []) (map (served_with gives takes) xs)))
            (IsPermutation-sym _ _ (IsPermutation-middle (map came_with so.lives) (k, came) (map (served_with gives takes) xs))))));
        apart = subst AreApart (sym numbers_are) (apart_between k lives connections so.apart (subst (λ n. IsNoneOf n (lives ++ connections)) (sym number) (next_is_none o.first c.next (lives ++ connections) so.below)));
        below = subst (AreBelow o.first (c.next + 1)) (sym numbers_are) (below_between o.first (c.next + 1) k lives connections (below_more o.first c.next (c.next + 1) (lives ++ connections) (omega arith) so.below) (omega (arith, k_is), omega (arith, number)));
        gone = subst (λ l. GoOut o.door.door.past l d2.door.past) (sym (map_more left_with so.lives (k, life)))
            (out_more o.door.door.past d1.door.past d2.door.past (map left_with so.lives) _ (subst (λ z. GoOut o.door.door.past (map left_with so.lives) z) (sym takes_in.past) so.gone) leaves.past);
        lived = lived_more _ so.lives (k, life) so.lived (refused_lived _ k came none takes_in.new, tt);
        are_served = so.are_served;
        whose = λ n nobody. whose_more gives takes o.first (length so.cames) so.added so.whose n (subst (λ m. IsNobodys o.first m n) one_more nobody);
        stand = so.stand;
        within = so.within;
        all_came = let s = so.all_came in omega (arith, s, one_more);
        owed = let s = so.all_came in let few = numbers_left o c.left (length so.cames) so.within_numbers so.left more in
            let m = owed_more (length xs) d.door.owed d1.door.owed (omega (arith, s, few)) so.owed takes_in.owed in let h = leaves.owed in omega (arith, m, h);
        faults = let f = so.faults in let g = takes_in.faults in let h = leaves.faults in omega (arith, f, g, h);
        bound = leaves.bound ∙ takes_in.bound ∙ so.bound;
        worst_is = subst (λ l. IsWorst w' (worst.Closed ∷ l)) (sym (map_more (λ (y : ℕ × Life). called_by y.1.ending) so.lives (k, life)))
            (worst_more w worst.NoMemory w' (worst.Closed ∷ map (λ (y : ℕ × Life). called_by y.1.ending) so.lives) worse so.worst_is);
        stops = so.stops;
      }

  -- ---- a pause

  pub lived_still : (r : Run) (t : ClockView) → r.clock_now.stops ≤ t.stops → (xs : List (ℕ × Life)) → AllLived r xs → AllLived (further r [] [] t) xs
  lived_still r t later [] h = tt
  lived_still r t later (x ∷ xs) h = (lived_further r [] [] t later x.0 refl x.1 h.0, lived_still r t later xs h.1)

  pub serve_still : (r : Run) (t : ClockView) → r.clock_now.stops ≤ t.stops → (xs : List (Connection S K)) → AllServed gives takes r xs → AllServed gives takes (further r [] [] t) xs
  serve_still r t later [] h = tt
  serve_still r t later (x ∷ xs) h = (
    (
      record h.0.0 { to = history (further r [] [] t) },
      lives_further r [] [] t later x.number refl _ _ h.0.0 h.0.1,
      at_beside r.charter x.number x.session h.0.0 _ (quiet_further r [] [] t later x.number refl h.0.0 h.0.1.to) h.0.2,
      h.0.3,
    ),
    serve_still r t later xs h.1,
  )

  -- the clock paused, and may have been stopped
  unfoldable pub stands_paused : (o : Start) (p : PassView) (xs : List (Connection S K)) (c : Coming) (w : Worst) (stop stop' : Bool) (d : PollDoorView) (t t1 : ClockView)
      → ClockStood t t1 → (IsTrue stop' → IsTrue stop ⊎ Rose t.stops t1.stops) → St o p xs c w stop d t → St o p xs c w stop' d t1
  stands_paused o p xs c w stop stop' d t t1 stood stops so = record {
    within_numbers = so.within_numbers;
    charter = so.charter;
    number = so.number;
    pair = so.pair;
    alone = so.alone;
    added = so.added ++ [];
    goes_on = so.goes_on ∙ ap (λ l. o.pass.seen ++ l) (sym (append-nil so.added));
    moments = so.moments ++ [];
    clock = clock_on o.clock t t1 so.moments [] so.clock (clock_stood t t1 stood);
    cames = so.cames;
    next = so.next;
    left = so.left;
    closed = closed_later c.end o.most (length so.cames) o.door.door d.door d.door o.clock t t1 refl (omega arith) stood.stops so.closed;
    came = so.came;
    lives = so.lives;
    each = so.each;
    apart = so.apart;
    below = so.below;
    gone = so.gone;
    lived = lived_still _ t1 stood.stops so.lives so.lived;
    are_served = serve_still _ t1 stood.stops xs so.are_served;
    whose = λ n nobody. subst (λ l. HasNoCall n l) (sym (append-nil so.added)) (so.whose n nobody);
    stand = calls_on o.pass.charter o.pass.seen (so.moments ++ []) o.pass.seen so.added [] (calls_later o.pass.charter o.pass.seen so.moments [] o.pass.seen so.added so.stand) tt;
    within = subst (λ ms. StaysWithin o.pass.charter o.pass.seen p.seen ms) (sym (append-nil so.moments)) so.within;
    all_came = so.all_came;
    owed = so.owed;
    faults = so.faults;
    bound = so.bound;
    worst_is = so.worst_is;
    stops = λ is. ⊎_elim (λ before. rose_until o.clock.stops t.stops t1.stops (so.stops before) stood.stops) (λ rose. rose_since o.clock.stops t.stops t1.stops so.clock.stops rose) (stops is);
  }

  -- ---- the end

  -- so many came as may
  all_came : (left count most : ℕ) → nat_lt 0 left ≡ false → left + count ≡ most → count ≡ most
  all_came left count most none is = let l : left ≡ 0 = grind (arith, nat_tests, none) in omega (arith, l, is)

  halts_by : (end : Option Worst) (left count most : ℕ) (stop : Bool) (d d' : DoorView) (t t' : ClockView) → left + count ≡ most → (IsTrue stop → Rose t.stops t'.stops)
      → IsTrue stop ⊎ ((is_none end && nat_lt 0 left) ≡ false) → IsClosed end most count d d' t t' → Halts (why_of end) most count d d' t t'
  halts_by (Some why) left count most stop d d' t t' is stops over closed = closed
  halts_by None left count most stop d d' t t' is stops (inl stopped) closed = inr (inr (stops stopped))
  halts_by None left count most stop d d' t t' is stops (inr none) closed = inl (all_came left count most none is)

  pub runs : (o : Start) (p : PassView) (c : Coming) (w w' : Worst) (stop : Bool) (d : PollDoorView) (t : ClockView) → IsLegal p.charter p.seen → w' ≡ worse_of (why_of c.end) w
      → IsTrue stop ⊎ (is_open c ≡ false) → St o p [] c w stop d t → RunsLoop o.first o.most w' o.pass p o.door d o.clock t
  runs o p c w w' stop d t legal worse over so = record {
    charter = so.charter;
    legal = legal;
    added = so.added;
    goes_on = so.goes_on;
    moments = so.moments;
    clock = so.clock;
    cames = so.cames;
    few = let l = so.left in omega (arith, l);
    came = so.came;
    lives = so.lives;
    each = subst (λ l. IsPermutation (numbered o.first so.cames) l) (append-nil (map came_with so.lives)) so.each;
    left = so.gone;
    lived = so.lived;
    whose = so.whose;
    stand = so.stand;
    within = so.within;
    faults = so.faults;
    bound = so.bound;
    why = why_of c.end;
    halts = halts_by c.end c.left (length so.cames) o.most stop o.door.door d.door o.clock t so.left so.stops over so.closed;
    worst_is = subst (λ y. IsWorst y (why_of c.end ∷ map (λ (y : ℕ × Life). called_by y.1.ending) so.lives)) (sym worse) (worst_for (why_of c.end) w _ so.worst_is);
  }
