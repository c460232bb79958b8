-- What a loop holds, step by step.
use Rattle.std.proofs.Common.{◌≡◌, ◌≢◌, ◌+◌, ◌-◌, ◌<◌, ◌≤◌, ◌⊎◌, ℕ, suc, Bool, true, false, List, [], ◌∷◌, ◌++◌, length, map, All, Option, None, Some, inl, inr, ⊎_elim, refl, sym, ◌∙◌, ap, subst, arith, append-nil, append_assoc, length-append}
use Rattle.std.specs.Prelude.{Contains, IsPermutation, IsTrue}
use Rattle.std.specs.List.{filter}
use Rattle.std.proofs.lemmas.Bool.{false≢true}
use Rattle.std.proofs.lemmas.List.Elements.{All-nil, All-append, All-weaker, Contains-push, Contains-append_left}
use Rattle.std.proofs.lemmas.List.Sorted.{IsPermutation-refl, IsPermutation-sym, IsPermutation-trans, IsPermutation-append, IsPermutation-append_left, IsPermutation-append_comm, IsPermutation-middle, IsPermutation-push_more}
use Rattle.engine_ports.specs.Rose.{Rose}
use Rattle.engine_ports.specs.Clock.{ClockView, ClockHanded, ClockStood}
use Rattle.engine_ports.specs.Door.{Outside, DoorView, IsEmpty, IsNew, SameDoor, TakesIn, LeaveSays}
use Rattle.engine_ports.specs.Source.{SourceGave}
use Rattle.engine_ports.specs.Sink.{SinkTook}
use Rattle.engine_ports.proofs.PortLemmas.{clock_none, clock_on, clock_stood, rose_since, rose_until, sink_none, source_none}
use Rattle.engine_text.specs.declared.step.Step.{Step}
use Rattle.machine_model.specs.History.{Charter, HasNoCall, HasNone, state_after}
use Rattle.session_model.specs.declared.ending.Ending.TheVariants as E
use Rattle.session_model.specs.declared.ending.Worst.{Worst}
use Rattle.session_model.specs.declared.ending.Worst.TheVariants as worst
use Rattle.session_model.specs.Moments.{StaysWithin}
use Rattle.session_model.specs.Pass.{PassView, Every}
use Rattle.session_model.specs.Session.{NoneYet, Span}
use Rattle.polled_ports.specs.PollDoor.{PollDoorView, untimed}
use Rattle.polled_ports.specs.PollSource.{PollSourceView}
use Rattle.polled_ports.specs.PollSink.{PollSinkView}
use Rattle.polled_model.specs.Polls.{Ports}
use Rattle.session_poll.specs.Standing.{IsNew as IsNewSession}
use Rattle.engine_loop.proofs.NewLemmas.{beginning, new_at}
use Rattle.session_poll.proofs.StepLemmas.{none_fed}
use Rattle.door_model.specs.Connections.{ComeIn, GoOut, IsNobodys, numbered}
use Rattle.door_model.specs.Worsts.{IsWorst, called_by, worse_of}
use Rattle.door_model.proofs.ListLemmas.{come_more, come_none, map_more, numbered_more, out_more, out_none}
use Rattle.door_model.proofs.WorstLemmas.{worst_more, worst_one}
use Rattle.engine_loop.specs.Lives.{Life, Lived, Lives, Run, history}
use Rattle.engine_loop.specs.Running.{Halts, came_with, left_with}
use Rattle.engine_loop.specs.Standing.{AllServed, AreApart, AreBelow, IsClosed, IsNoneOf, IsWithin, IsServed, Stands, Start, came_in, number_of, ports_in, run_by, connection_number, served_with}
use Rattle.engine_loop.specs.declared.coming.Coming.{Coming}
use Rattle.engine_loop.specs.declared.connection.Connection.{Connection}
use Rattle.engine_loop.proofs.CallLemmas.{none_of_next}
use Rattle.engine_loop.proofs.NumberLemmas.{apart_last, below_append, below_more, next_is_none}
use Rattle.engine_loop.proofs.ServedLemmas.{lived_more, serve_more}

-- so many came, and more may: there is a number for the next
pub numbers_left : (o : Start) (left count : ℕ) → IsWithin o → left + count ≡ o.most → 0 < left → o.first + count < 2147483646
numbers_left o left count (inl few) is more = omega (arith, few, is, more)
numbers_left o left count (inr none) is more = absurd (omega (arith, none, is, more))

pub owed_more : (n a b : ℕ) → n < 2147483646 → n ≤ a → Rose a b → n + 1 ≤ b
owed_more n a b few le (inl lt) = omega arith
owed_more n a b few le (inr top) = omega arith

-- why the door told that none comes stays so
halts_later : (why : Worst) (most n : ℕ) (d d1 d2 : DoorView) (t t1 t2 : ClockView) → d2.coming ≡ d1.coming → d1.faults ≤ d2.faults → t1.stops ≤ t2.stops
    → Halts why most n d d1 t t1 → Halts why most n d d2 t t2
halts_later worst.Closed most n d d1 d2 t t1 t2 c f s (inl full) = inl full
halts_later worst.Closed most n d d1 d2 t t1 t2 c f s (inr (inl empty)) = inr (inl (subst (λ z. IsEmpty z) (sym c) empty))
halts_later worst.Closed most n d d1 d2 t t1 t2 c f s (inr (inr rose)) = inr (inr (rose_until t.stops t1.stops t2.stops rose s))
halts_later worst.Fault most n d d1 d2 t t1 t2 c f s rose = rose_until d.faults d1.faults d2.faults rose f
halts_later worst.NoMemory most n d d1 d2 t t1 t2 c f s never = absurd never
halts_later worst.Stopped most n d d1 d2 t t1 t2 c f s never = absurd never
halts_later worst.Refused most n d d1 d2 t t1 t2 c f s never = absurd never

pub closed_later : (end : Option Worst) (most n : ℕ) (d d1 d2 : DoorView) (t t1 t2 : ClockView) → d2.coming ≡ d1.coming → d1.faults ≤ d2.faults → t1.stops ≤ t2.stops
    → IsClosed end most n d d1 t t1 → IsClosed end most n d d2 t t2
closed_later None most n d d1 d2 t t1 t2 c f s h = tt
closed_later (Some why) most n d d1 d2 t t1 t2 c f s h = halts_later why most n d d1 d2 t t1 t2 c f s h

module _ {S K : Type 0} (gives : S → PollSourceView) (takes : K → PollSinkView) where
  abbrev St : Start → PassView → List (Connection S K) → Coming → Worst → Bool → PollDoorView → ClockView → Type 0
  St = Stands gives takes

  -- nobody came yet
  pub stands_first : (o : Start) (c : Coming) → IsWithin o → o.pass.number ≡ Every → IsTrue o.pass.pair → IsTrue o.pass.alone
      → c.next ≡ o.first → c.left ≡ o.most → c.end ≡ None → St o o.pass [] c worst.Closed false o.door o.clock
  stands_first o c few every pair alone next left end = record {
    within_numbers = few;
    charter = refl;
    number = every;
    pair = pair;
    alone = alone;
    added = [];
    goes_on = sym (append-nil o.pass.seen);
    moments = [];
    clock = clock_none o.clock;
    cames = [];
    next = next ∙ omega arith;
    left = omega (arith, left);
    closed = subst (λ e. IsClosed e o.most 0 o.door.door o.door.door o.clock o.clock) (sym end) tt;
    came = come_none o.door.door.coming;
    lives = [];
    each = IsPermutation-refl [];
    apart = tt;
    below = tt;
    gone = out_none o.door.door.past;
    lived = tt;
    are_served = tt;
    whose = λ n h. refl;
    stand = tt;
    within = omega arith;
    all_came = omega arith;
    owed = omega arith;
    faults = omega arith;
    bound = refl;
    worst_is = worst_one worst.Closed;
    stops = λ is. absurd (false≢true is);
  }

  -- ---- one comes

  -- one more that came
  abbrev pub taken_one : Coming → Coming
  taken_one c = record c { next = c.next + 1; left = c.left - 1 }

  -- a connection is served that has done nothing
  new_served : (o : Start) (p : PassView) (xs : List (Connection S K)) (c : Coming) (w : Worst) (stop : Bool) (d : PollDoorView) (t : ClockView) (x : Connection S K) (so : St o p xs c w stop d t)
      → x.number ≡ c.next → 0 < c.left → x.came.value ≡ x.conn → IsNewSession x.number x.session → IsNew (came_in gives takes x) → IsServed gives takes (run_by o so.added so.moments t) x
  new_served o p xs c w stop d t x so number more same new_session new =
      let r = run_by o so.added so.moments t in
      let v = ports_in gives takes x.conn in
      let k : x.number ≡ o.first + length so.cames = number ∙ so.next in
      let none : HasNone x.number so.added = subst (λ n. HasNone n so.added) (sym k) (none_of_next o.first (length so.cames) so.added (numbers_left o c.left (length so.cames) so.within_numbers so.left more) so.whose) in
      let came_is : came_in gives takes x ≡ untimed v.source v.sink = ap (λ y. untimed (gives y.source.port) (takes y.sink.port)) same in (
        beginning (history r) v,
        record {
          new = new;
          source = subst (λ y. SourceGave y.source [] v.source.source) (sym came_is) (source_none v.source.source);
          sink = subst (λ y. SinkTook y.sink [] v.sink.sink) (sym came_is) (sink_none v.sink.sink);
          before = so.added;
          none_before = none;
          from = refl;
          to = refl;
          at_moments = All-nil (λ m. Contains so.moments m);
          feeds = inl (none_fed x.number so.added none);
          old = sym came_is;
          at_ports = refl;
          stops = inl refl;
        },
        new_at o.pass.charter x.number x.session (history r) v new_session,
        new_session.conn,
      )

  -- who the numbers of one more aren't
  pub whose_more : (first count : ℕ) (added : List Step) → ((n : ℕ) → IsNobodys first count n → HasNoCall n added) → (n : ℕ) → IsNobodys first (count + 1) n → HasNoCall n added
  whose_more first count added whose n nobody = whose n (λ k from less. nobody k from (omega (arith, less)))

  -- it is served from now on
  pub stands_taken : (o : Start) (p : PassView) (xs : List (Connection S K)) (c : Coming) (w : Worst) (stop : Bool) (d d' : PollDoorView) (t : ClockView) (x : Connection S K)
      → x.number ≡ c.next → 0 < c.left → x.came.value ≡ x.conn → IsNewSession x.number x.session → c.end ≡ None → TakesIn (came_in gives takes x) d.door d'.door
      → St o p xs c w stop d t → St o p (xs ++ x ∷ []) (taken_one c) w stop d' t
  stands_taken o p xs c w stop d d' t x number more same new_session open_still takes_in so =
      let k : x.number ≡ o.first + length so.cames = number ∙ so.next in
      let one_more = length-append so.cames (came_in gives takes x ∷ []) in
      let numbers = map number_of so.lives ++ map (connection_number gives takes) xs in
      let numbers_are : map number_of so.lives ++ map (connection_number gives takes) (xs ++ x ∷ []) ≡ numbers ++ x.number ∷ [] =
      ap (λ l. map number_of so.lives ++ l) (map_more (connection_number gives takes) xs x) ∙ sym (append_assoc (map number_of so.lives) (map (connection_number gives takes) xs) (x.number ∷ [])) in
      record {
        within_numbers = so.within_numbers;
        charter = so.charter;
        number = so.number;
        pair = so.pair;
        alone = so.alone;
        added = so.added;
        goes_on = so.goes_on;
        moments = so.moments;
        clock = so.clock;
        cames = so.cames ++ came_in gives takes x ∷ [];
        next = let n = so.next in omega (arith, n, one_more);
        left = let l = so.left in omega (arith, l, one_more, more);
        closed = subst (λ e. IsClosed e o.most (length (so.cames ++ came_in gives takes x ∷ [])) o.door.door d'.door o.clock t) (sym open_still) tt;
        came = come_more o.door.door.coming d.door.coming d'.door.coming so.cames (came_in gives takes x) so.came takes_in.came;
        lives = so.lives;
        each = subst (λ l. IsPermutation l (map came_with so.lives ++ map (served_with gives takes) (xs ++ x ∷ []))) (sym (numbered_more o.first so.cames (came_in gives takes x)))
            (subst (λ l. IsPermutation (numbered o.first so.cames ++ (o.first + length so.cames, came_in gives takes x) ∷ []) l)
            (append_assoc (map came_with so.lives) (map (served_with gives takes) xs) (served_with gives takes x ∷ []) ∙ ap (λ l. map came_with so.lives ++ l) (sym (map_more (served_with gives takes) xs x)))
            (IsPermutation-append _ _ _ _ so.each
            (subst (λ n. IsPermutation ((n, came_in gives takes x) ∷ []) (served_with gives takes x ∷ [])) k (IsPermutation-refl (served_with gives takes x ∷ [])))));
        apart = subst AreApart (sym numbers_are) (apart_last x.number numbers so.apart (subst (λ n. IsNoneOf n numbers) (sym number) (next_is_none o.first c.next numbers so.below)));
        below = subst (AreBelow o.first (c.next + 1)) (sym numbers_are) (below_append o.first (c.next + 1) numbers (x.number ∷ []) (below_more o.first c.next (c.next + 1) numbers (omega arith) so.below) (((omega (arith, k), omega (arith, number)), tt)));
        gone = subst (λ z. GoOut o.door.door.past (map left_with so.lives) z) (sym takes_in.past) so.gone;
        lived = so.lived;
        are_served = serve_more gives takes _ xs x so.are_served (new_served o p xs c w stop d t x so number more same new_session takes_in.new);
        whose = λ n nobody. whose_more o.first (length so.cames) so.added so.whose n (subst (λ m. IsNobodys o.first m n) one_more nobody);
        stand = so.stand;
        within = so.within;
        all_came = let s = so.all_came in let l = length-append xs (x ∷ []) in omega (arith, s, l, one_more);
        owed = let l = length-append xs (x ∷ []) in let s = so.all_came in let few = numbers_left o c.left (length so.cames) so.within_numbers so.left more in
            let m = owed_more (length xs) d.door.owed d'.door.owed (omega (arith, s, few)) so.owed takes_in.owed in omega (arith, l, m);
        faults = let f = so.faults in let g = takes_in.faults in omega (arith, f, g);
        bound = takes_in.bound ∙ so.bound;
        worst_is = so.worst_is;
        stops = so.stops;
      }
