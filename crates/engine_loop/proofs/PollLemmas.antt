-- What a loop holds behind a poll of one session.
use Rattle.std.proofs.Common.{◌≡◌, ◌+◌, ◌<◌, ◌≤◌, ◌⊎◌, ℕ, suc, Bool, true, false, List, [], ◌∷◌, ◌++◌, length, map, All, Option, None, Some, inl, inr, ⊎_elim, refl, sym, ◌∙◌, ap, subst, arith, append-nil, append_assoc, length-append}
use Rattle.std.specs.Prelude.{Contains, IsPermutation, IsTrue}
use Rattle.std.specs.List.{filter}
use Rattle.std.proofs.lemmas.List.Elements.{All-append, All-weaker, Contains-push, Contains-append_left, filter-append}
use Rattle.std.proofs.lemmas.List.Sorted.{IsPermutation-refl, IsPermutation-trans, IsPermutation-append, IsPermutation-append_comm}
use Rattle.engine_ports.specs.Rose.{Rose}
use Rattle.engine_ports.specs.Source.{Gave, IsSpent, SourceEnded, SourceGave, SourceView}
use Rattle.engine_ports.specs.Clock.{ClockView, ClockHanded}
use Rattle.engine_ports.specs.Door.{Outside, DoorView, LeaveSays}
use Rattle.engine_ports.proofs.PortLemmas.{clock_on, rose_until, sink_on, source_on}
use Rattle.engine_text.specs.declared.step.Step.{Step}
use Rattle.machine_model.specs.History.{Charter, HasNoCall, HasNone, bears, calls_of, input_of}
use Rattle.session_model.specs.declared.ending.Ending.{Ending}
use Rattle.session_model.specs.declared.ending.Worst.{Worst}
use Rattle.session_model.specs.declared.ending.Worst.TheVariants as worst
use Rattle.session_model.specs.Moments.{StaysWithin}
use Rattle.session_model.specs.Pass.{PassView, Every, is_call}
use Rattle.session_model.specs.Session.{IsSession, Span}
use Rattle.session_model.proofs.MomentLemmas.{within_on}
use Rattle.polled_ports.specs.PollDoor.{PollDoorView, untimed}
use Rattle.polled_ports.specs.PollSource.{PollSourceView}
use Rattle.polled_ports.specs.PollSink.{PollSinkView}
use Rattle.polled_model.specs.declared.polled.Cause.{Cause}
use Rattle.polled_model.specs.declared.polled.Polled.{Polled}
use Rattle.polled_model.specs.declared.polled.Polled.TheVariants.{Done, Pending}
use Rattle.polled_model.specs.Polls.{AllStandAt, FeedsEndsSo, Polls, Ports, StandsAtPorts, Told, feeds_end, grown, stops_after}
use Rattle.session_poll.specs.Standing.{IsAt}
use Rattle.session_poll.proofs.StepLemmas.{fed_on}
use Rattle.door_model.specs.Connections.{ComeIn, GoOut, IsNobodys, numbered}
use Rattle.door_model.specs.Worsts.{IsWorst, called_by, worse_of}
use Rattle.door_model.proofs.ListLemmas.{map_more, out_more}
use Rattle.door_model.proofs.WorstLemmas.{worst_more}
use Rattle.engine_loop.specs.Lives.{AllLived, FeedsSo, Life, Lived, Lives, Run, by_clock, history}
use Rattle.engine_loop.specs.Running.{CallsStand, came_with, left_with}
use Rattle.engine_loop.specs.Standing.{AllServed, AreApart, AreBelow, IsServed, Stands, Start, came_in, number_of, ports_in, run_by, connection_number, served_with}
use Rattle.engine_loop.specs.declared.coming.Coming.{Coming}
use Rattle.engine_loop.specs.declared.connection.Connection.{Connection}
use Rattle.engine_loop.proofs.CallLemmas.{all_own, calls_by, calls_later, calls_on}
use Rattle.engine_loop.proofs.LiveLemmas.{session_by}
use Rattle.engine_loop.proofs.NumberLemmas.{apart_middle, apart_to_end, below_left, below_right, below_to_end}
use Rattle.engine_loop.proofs.OtherLemmas.{AllOwn, uncalled_other}
use Rattle.engine_loop.proofs.ServedLemmas.{lived_all, lived_more, serve_all, serve_more}
use Rattle.engine_loop.proofs.StandLemmas.{closed_later}

-- ---- ends

spent_on : (l m : Option (List ℕ)) (bytes : List ℕ) → IsSpent l → Gave l bytes m → IsSpent m
spent_on None None bytes spent gave = tt
spent_on None (Some m) bytes spent gave = absurd gave
spent_on (Some l) None bytes spent gave = absurd gave
spent_on (Some l) (Some m) [] spent gave = sym gave ∙ spent
spent_on (Some l) (Some m) (x ∷ bytes) spent gave = absurd (let e = ap length (sym gave ∙ spent) in omega (arith, e))

-- a source that has ended gives nothing more
pub ended_later : (u v w : SourceView) (bytes : List ℕ) → SourceEnded u v → SourceGave v bytes w → SourceEnded u w
ended_later u v w bytes ended gave = record { rose = rose_until u.ends v.ends w.ends ended.rose gave.ends; spent = spent_on v.left w.left bytes ended.spent gave.gave }

pub never_rose : (n : ℕ) → n ≡ 0 → Rose 0 n → ⊥
never_rose n is (inl less) = absurd (omega (arith, is, less))
never_rose n is (inr top) = absurd (omega (arith, is, top))

-- whose number stands among those that came
pub number_below : (o : Start) (left count next k : ℕ) → (o.first + o.most ≤ 2147483646) ⊎ (o.most ≡ 0) → left + count ≡ o.most → next ≡ o.first + count → 1 ≤ count → next ≤ 2147483646
number_below o left count next k (inl few) is at some = omega (arith, few, is, at)
number_below o left count next k (inr none) is at some = absurd (omega (arith, none, is, some))

module _ {S K : Type 0} (gives : S → PollSourceView) (takes : K → PollSinkView) where
  abbrev St : Start → PassView → List (Connection S K) → Coming → Worst → Bool → PollDoorView → ClockView → Type 0
  St = Stands gives takes

  -- ---- all but the session that was polled

  pub record Beside (o : Start) (q : PassView) (added : List Step) (moments : List ℕ) (count : ℕ) (lives : List (ℕ × Life)) (xs : List (Connection S K)) (t : ClockView) : Type 0 where
    pub charter : q.charter ≡ o.pass.charter
    pub number : q.number ≡ Every
    pub pair : IsTrue q.pair
    pub alone : IsTrue q.alone
    pub goes_on : q.seen ≡ o.pass.seen ++ added
    pub clock : ClockHanded o.clock moments t
    pub lived : AllLived (run_by o added moments t) lives
    pub are_served : AllServed gives takes (run_by o added moments t) xs
    pub whose : (n : ℕ) → IsNobodys o.first count n → HasNoCall n added
    pub stand : CallsStand o.pass.charter moments o.pass.seen o.pass.seen added
    pub within : StaysWithin o.pass.charter o.pass.seen q.seen moments

  module _ (o : Start) (p q : PassView) (x : Connection S K) (xs : List (Connection S K)) (c : Coming) (w : Worst) (stop : Bool) (d : PollDoorView) (t t1 : ClockView) (m : ℕ)
      (result : Polled) (after : Span → Type 0) (woken : Type 0) (v' : Ports)
      (so : St o p (x ∷ xs) c w stop d t) (told : ClockHanded t (m ∷ []) t1) (f : p.own_calls ≡ filter is_call p.seen) (g : q.own_calls ≡ filter is_call q.seen)
      (polls : Polls x.number (record { handed = m; stop = stop }) result (IsAt p.charter x.number x.session) after woken p q (ports_in gives takes x.conn) v') where
    abbrev added' : List Step
    added' = so.added ++ polls.own

    abbrev moments' : List ℕ
    moments' = so.moments ++ m ∷ []

    pub k_own : AllOwn x.number polls.own
    k_own = all_own x.number p q polls.own f g polls.seen (polls.adds so.number)

    goes : q.seen ≡ o.pass.seen ++ added'
    goes = polls.seen ∙ ap (λ h. h ++ polls.own) so.goes_on ∙ append_assoc o.pass.seen so.added polls.own

    in_middle : AreBelow o.first c.next (x.number ∷ map (connection_number gives takes) xs)
    in_middle = below_right o.first c.next (map number_of so.lives) (x.number ∷ map (connection_number gives takes) xs) so.below

    top : c.next ≤ 2147483646
    top = number_below o c.left (length so.cames) c.next x.number so.within_numbers so.left so.next (let s = so.all_came in omega (arith, s))

    whose_on : (n : ℕ) → IsNobodys o.first (length so.cames) n → HasNoCall n added'
    whose_on n nobody =
        let mine = nobody x.number in_middle.0.0 (let b = in_middle.0.1 in let e = so.next in omega (arith, b, e)) in
        filter-append (bears n) so.added polls.own ∙ ap (λ l. l ++ calls_of n polls.own) (so.whose n nobody) ∙ uncalled_other n x.number polls.own mine.0 mine.1 k_own

    stand_own : AllStandAt o.pass.charter x.number m (o.pass.seen ++ so.added) (o.pass.seen ++ so.added) polls.own
    stand_own = subst (λ h. AllStandAt o.pass.charter x.number m h h polls.own) so.goes_on (subst (λ ch. AllStandAt ch x.number m p.seen p.seen polls.own) so.charter polls.stand)

    within_own : StaysWithin o.pass.charter p.seen q.seen (m ∷ [])
    within_own = subst (λ ch. StaysWithin ch p.seen q.seen (m ∷ [])) so.charter (polls.within so.alone)

    pub beside : Beside o q added' moments' (length so.cames) so.lives xs t1
    beside =
        let apart = apart_middle x.number (map number_of so.lives) (map (connection_number gives takes) xs) so.apart in
        let r = run_by o so.added so.moments t in record {
          charter = polls.stays.charter ∙ so.charter;
          number = polls.stays.number ∙ so.number;
          pair = subst IsTrue (sym polls.stays.pair) so.pair;
          alone = subst IsTrue (sym polls.stays.alone) so.alone;
          goes_on = goes;
          clock = clock_on o.clock t t1 so.moments (m ∷ []) so.clock told;
          lived = lived_all r polls.own (m ∷ []) t1 told.stops x.number o.first c.next in_middle.0.1 top k_own so.lives apart.0
              (below_left o.first c.next (map number_of so.lives) (x.number ∷ map (connection_number gives takes) xs) so.below) so.lived;
          are_served = serve_all r polls.own (m ∷ []) t1 told.stops x.number o.first c.next in_middle.0.1 top k_own gives takes xs apart.1 in_middle.1 so.are_served.1;
          whose = whose_on;
          stand = calls_on o.pass.charter o.pass.seen moments' o.pass.seen so.added polls.own (calls_later o.pass.charter o.pass.seen so.moments (m ∷ []) o.pass.seen so.added so.stand)
              (calls_by o.pass.charter o.pass.seen moments' x.number m (o.pass.seen ++ so.added) (o.pass.seen ++ so.added) polls.own (so.added, refl) (Contains-push so.moments m) k_own stand_own);
          within = within_on o.pass.charter o.pass.seen p.seen q.seen so.moments (m ∷ []) so.within within_own;
        }

    -- ---- the session itself

    abbrev r' : Run
    r' = run_by o added' moments' t1

    abbrev before_span : Span
    before_span = so.are_served.0.0

    -- what the session has done by now
    abbrev after_span : Span
    after_span = grown before_span polls.read polls.written polls.moments q.seen stop v'

    at_seen : before_span.to ≡ p.seen
    at_seen = so.are_served.0.1.to ∙ sym so.goes_on

    was_at : IsAt p.charter x.number x.session before_span
    was_at = subst (λ ch. IsAt ch x.number x.session before_span) (sym so.charter) so.are_served.0.2

    feeds_on : FeedsEndsSo x.number polls.own after_span → FeedsSo (run_by o so.added so.moments t) x.number (came_in gives takes x).source (gives x.conn.source.port).source
        → FeedsSo r' x.number (came_in gives takes x).source v'.source.source
    feeds_on (inr ended) feeds = inr (subst (λ o. SourceEnded o.source v'.source.source) so.are_served.0.1.old ended)
    feeds_on (inl none) (inl f) = inl (fed_on x.number so.added polls.own f none)
    feeds_on (inl none) (inr ended) = inr (ended_later (came_in gives takes x).source (gives x.conn.source.port).source v'.source.source polls.read ended polls.source)

    stops_by : (b : Bool) → b ≡ stop → (n : ℕ) → (n ≡ 0) ⊎ Rose o.clock.stops t.stops → (stops_after b n ≡ 0) ⊎ Rose o.clock.stops t1.stops
    stops_by true is n before = inr (rose_until o.clock.stops t.stops t1.stops (so.stops (sym is)) told.stops)
    stops_by false is n (inl none) = inl none
    stops_by false is n (inr rose) = inr (rose_until o.clock.stops t.stops t1.stops rose told.stops)

    pub lives_on : Lives r' x.number (came_in gives takes x) v' after_span
    lives_on =
        let l = so.are_served.0.1 in record {
          new = l.new;
          source = source_on _ _ _ _ _ l.source polls.source;
          sink = sink_on _ _ _ _ _ l.sink polls.sink;
          before = l.before;
          none_before = l.none_before;
          from = l.from;
          to = goes;
          at_moments = All-append (λ n. Contains moments' n) before_span.handed polls.moments
              (All-weaker (λ n. Contains so.moments n) (λ n. Contains moments' n) (λ n. Contains-append_left so.moments (m ∷ []) n) before_span.handed l.at_moments)
              (All-weaker (λ n. n ≡ m) (λ n. Contains moments' n) (λ n is. subst (Contains moments') (sym is) (Contains-push so.moments m)) polls.moments polls.at_moment);
          feeds = feeds_on (polls.feeds before_span at_seen l.at_ports was_at) l.feeds;
          old = l.old;
          at_ports = refl;
          stops = stops_by stop refl before_span.new.clock.stops l.stops;
        }

    -- a clock that was told to stop in a poll of the session was stopped
    pub rose_by : Rose after_span.old.clock.stops after_span.new.clock.stops → Rose o.clock.stops t1.stops
    rose_by rose = ⊎_elim
        (λ none. absurd (never_rose after_span.new.clock.stops none (subst (λ y. Rose y.clock.stops after_span.new.clock.stops) so.are_served.0.1.old rose)))
        (λ h. h)
        lives_on.stops

-- ---- behind the poll

module _ {S K : Type 0} (gives : S → PollSourceView) (takes : K → PollSinkView) where
  -- the session goes to the end, and waits
  unfoldable pub stands_pending : (o : Start) (p q : PassView) (x x' : Connection S K) (xs : List (Connection S K)) (c : Coming) (w : Worst) (stop : Bool) (d : PollDoorView) (t t1 : ClockView) (m : ℕ)
      (cause : Cause) (woken : Type 0) → ClockHanded t (m ∷ []) t1 → p.own_calls ≡ filter is_call p.seen → q.own_calls ≡ filter is_call q.seen
      → Polls x.number (record { handed = m; stop = stop }) (Pending cause) (IsAt p.charter x.number x.session) (IsAt p.charter x.number x'.session) woken p q
      (ports_in gives takes x.conn) (ports_in gives takes x'.conn)
      → x'.number ≡ x.number → x'.came ≡ x.came → x'.session.conn ≡ x.session.conn → St gives takes o p (x ∷ xs) c w stop d t → St gives takes o q (xs ++ x' ∷ []) c w stop d t1
  stands_pending o p q x x' xs c w stop d t t1 m cause woken told f g polls number came conn so =
      let b = beside gives takes o p q x xs c w stop d t t1 m (Pending cause) _ woken _ so told f g polls in
      let l = lives_on gives takes o p q x xs c w stop d t t1 m (Pending cause) _ woken _ so told f g polls in
      let there = polls.comes so.are_served.0.0 (so.are_served.0.1.to ∙ sym so.goes_on) so.are_served.0.1.at_ports (subst (λ ch. IsAt ch x.number x.session so.are_served.0.0) (sym so.charter) so.are_served.0.2) in
      let s = grown so.are_served.0.0 polls.read polls.written polls.moments q.seen stop (ports_in gives takes x'.conn) in
      let same_with : (served_with gives takes x ≡ served_with gives takes x') = (λ i. (sym number i, untimed (gives (sym came i).value.source.port) (takes (sym came i).value.sink.port))) in
      let numbers_are : map (connection_number gives takes) (xs ++ x' ∷ []) ≡ map (connection_number gives takes) xs ++ x.number ∷ [] =
      map_more (connection_number gives takes) xs x' ∙ ap (λ n. map (connection_number gives takes) xs ++ n ∷ []) number in
      record {
        within_numbers = so.within_numbers;
        charter = b.charter;
        number = b.number;
        pair = b.pair;
        alone = b.alone;
        added = so.added ++ polls.own;
        goes_on = b.goes_on;
        moments = so.moments ++ m ∷ [];
        clock = b.clock;
        cames = so.cames;
        next = so.next;
        left = so.left;
        closed = closed_later c.end o.most (length so.cames) o.door.door d.door d.door o.clock t t1 refl (omega arith) told.stops so.closed;
        came = so.came;
        lives = so.lives;
        each = subst (λ l. IsPermutation (numbered o.first so.cames) (map came_with so.lives ++ l))
            (ap (λ z. map (served_with gives takes) xs ++ z ∷ []) same_with ∙ sym (map_more (served_with gives takes) xs x'))
            (IsPermutation-trans _ _ _ so.each (IsPermutation-append (map came_with so.lives) (map came_with so.lives) _ _ (IsPermutation-refl (map came_with so.lives)) (IsPermutation-append_comm (served_with gives takes x ∷ []) (map (served_with gives takes) xs))));
        apart = subst (λ l. AreApart (map number_of so.lives ++ l)) (sym numbers_are) (apart_to_end x.number (map number_of so.lives) (map (connection_number gives takes) xs) so.apart);
        below = subst (λ l. AreBelow o.first c.next (map number_of so.lives ++ l)) (sym numbers_are) (below_to_end o.first c.next x.number (map number_of so.lives) (map (connection_number gives takes) xs) so.below);
        gone = so.gone;
        lived = b.lived;
        are_served = serve_more gives takes (run_by o (so.added ++ polls.own) (so.moments ++ m ∷ []) t1) xs x' b.are_served
            (subst (λ (z : ℕ × Outside). (s : Span) × Lives (run_by o (so.added ++ polls.own) (so.moments ++ m ∷ []) t1) z.0 z.1 (ports_in gives takes x'.conn) s × IsAt o.pass.charter z.0 x'.session s × (x'.session.conn ≡ z.0)) same_with
            (s, l, subst (λ ch. IsAt ch x.number x'.session s) so.charter there.0, conn ∙ so.are_served.0.3));
        whose = b.whose;
        stand = b.stand;
        within = b.within;
        all_came = let s = so.all_came in let e = length-append xs (x' ∷ []) in omega (arith, s, e);
        owed = let s = so.owed in let e = length-append xs (x' ∷ []) in omega (arith, s, e);
        faults = so.faults;
        bound = so.bound;
        worst_is = so.worst_is;
        stops = λ is. rose_until o.clock.stops t.stops t1.stops (so.stops is) told.stops;
      }

  -- what was left of a connection whose session ended
  abbrev pub life_of : Connection S K → Ending → Span → Ports → Life
  life_of x e s v' = record { came = came_in gives takes x; left = untimed v'.source v'.sink; ending = e; read = s.read; written = s.written; handed = s.handed }

  pub lived_by : (r : Run) (k : ℕ) (came : Outside) (v' : Ports) (s : Span) (e : Ending) (pumps : Bool) (at behind : List Step) → Lives r k came v' s → (Rose s.old.clock.stops s.new.clock.stops → Rose r.clock.stops r.clock_now.stops)
      → HasNone k behind → s.to ≡ at ++ behind → IsSession r.charter k e pumps (record s { to = at })
      → Lived r k (record { came = came; left = untimed v'.source v'.sink; ending = e; read = s.read; written = s.written; handed = s.handed })
  lived_by r k came v' s e pumps at behind l go none is session = record {
    new = l.new;
    source = l.source;
    sink = l.sink;
    before = l.before;
    none_before = l.none_before;
    to = at;
    behind = behind;
    goes_on = sym l.to ∙ is;
    none_behind = none;
    at_moments = l.at_moments;
    feeds = l.feeds;
    pumps = pumps;
    session = subst (λ (z : List Step × (Outside × Outside)). IsSession r.charter k e pumps (record { read = s.read; written = s.written; handed = s.handed; from = z.0; to = at; old = by_clock z.1.0 r.clock; new = by_clock z.1.1 r.clock_now }))
        (λ i. (l.from i, (l.old i, l.at_ports i)))
        (session_by r.charter k e pumps (record s { to = at }) r.clock r.clock_now go session);
  }

  -- the session has ended, and its connection is left to the door
  unfoldable pub stands_done : (o : Start) (p q : PassView) (x : Connection S K) (v' : Ports) (xs : List (Connection S K)) (c : Coming) (w w' : Worst) (stop : Bool) (d d' : PollDoorView) (t t1 : ClockView) (m : ℕ)
      (e : Ending) (after : Span → Type 0) (woken : Type 0) → ClockHanded t (m ∷ []) t1 → p.own_calls ≡ filter is_call p.seen → q.own_calls ≡ filter is_call q.seen
      → Polls x.number (record { handed = m; stop = stop }) (Done e) (IsAt p.charter x.number x.session) after woken p q (ports_in gives takes x.conn) v'
      → w' ≡ worse_of w (called_by e) → LeaveSays x.number (untimed v'.source v'.sink) d.door d'.door
      → St gives takes o p (x ∷ xs) c w stop d t → St gives takes o q xs c w' stop d' t1
  stands_done o p q x v' xs c w w' stop d d' t t1 m e after woken told f g polls worse leaves so =
      let b = beside gives takes o p q x xs c w stop d t t1 m (Done e) _ woken _ so told f g polls in
      let l = lives_on gives takes o p q x xs c w stop d t t1 m (Done e) _ woken _ so told f g polls in
      let there = polls.comes so.are_served.0.0 (so.are_served.0.1.to ∙ sym so.goes_on) so.are_served.0.1.at_ports (subst (λ ch. IsAt ch x.number x.session so.are_served.0.0) (sym so.charter) so.are_served.0.2) in
      let s = grown so.are_served.0.0 polls.read polls.written polls.moments q.seen stop v' in
      let life = life_of x e s v' in
      let ended = there.0.1 in
      let numbers_are : map number_of (so.lives ++ (x.number, life) ∷ []) ++ map (connection_number gives takes) xs ≡ map number_of so.lives ++ x.number ∷ map (connection_number gives takes) xs =
      ap (λ l. l ++ map (connection_number gives takes) xs) (map_more number_of so.lives (x.number, life)) ∙ append_assoc (map number_of so.lives) (x.number ∷ []) (map (connection_number gives takes) xs) in
      record {
        within_numbers = so.within_numbers;
        charter = b.charter;
        number = b.number;
        pair = b.pair;
        alone = b.alone;
        added = so.added ++ polls.own;
        goes_on = b.goes_on;
        moments = so.moments ++ m ∷ [];
        clock = b.clock;
        cames = so.cames;
        next = so.next;
        left = so.left;
        closed = closed_later c.end o.most (length so.cames) o.door.door d.door d'.door o.clock t t1 leaves.coming (let h = leaves.faults in omega (arith, h)) told.stops so.closed;
        came = subst (λ z. ComeIn o.door.door.coming so.cames z) (sym leaves.coming) so.came;
        lives = so.lives ++ (x.number, life) ∷ [];
        each = subst (λ l. IsPermutation (numbered o.first so.cames) l)
            (sym (ap (λ l. l ++ map (served_with gives takes) xs) (map_more came_with so.lives (x.number, life)) ∙ append_assoc (map came_with so.lives) (served_with gives takes x ∷ []) (map (served_with gives takes) xs)))
            so.each;
        apart = subst AreApart (sym numbers_are) so.apart;
        below = subst (AreBelow o.first c.next) (sym numbers_are) so.below;
        gone = subst (λ l. GoOut o.door.door.past l d'.door.past) (sym (map_more left_with so.lives (x.number, life))) (out_more o.door.door.past d.door.past d'.door.past (map left_with so.lives) _ so.gone leaves.past);
        lived = lived_more _ so.lives (x.number, life) b.lived (
          lived_by _ x.number (came_in gives takes x) v' s e there.0.0 ended.0 ended.1.0 l (rose_by gives takes o p q x xs c w stop d t t1 m (Done e) _ woken _ so told f g polls) ended.1.1 ended.1.2
              (subst (λ ch. IsSession ch x.number e there.0.0 (record s { to = ended.0 })) so.charter ended.2),
          tt,
        );
        are_served = b.are_served;
        whose = b.whose;
        stand = b.stand;
        within = b.within;
        all_came = let s = so.all_came in omega (arith, s);
        owed = let s = so.owed in let h = leaves.owed in omega (arith, s, h);
        faults = let s = so.faults in let h = leaves.faults in omega (arith, s, h);
        bound = leaves.bound ∙ so.bound;
        worst_is = subst (λ l. IsWorst w' (worst.Closed ∷ l)) (sym (map_more (λ (y : ℕ × Life). called_by y.1.ending) so.lives (x.number, life)))
            (worst_more w (called_by e) w' (worst.Closed ∷ map (λ (y : ℕ × Life). called_by y.1.ending) so.lives) worse so.worst_is);
        stops = λ is. rose_until o.clock.stops t.stops t1.stops (so.stops is) told.stops;
      }
