-- Inside a poll of a loop: the first session is polled, and waits behind the others.
use Rattle.std.proofs.Common.{◌≡◌, ◌+◌, ◌<◌, ◌≤◌, ℕ, suc, Bool, List, [], ◌∷◌, ◌++◌, length, map, ⊎_elim, refl, sym, ◌∙◌, ap, subst, arith, append-nil, append_assoc}
use Rattle.std.specs.Prelude.{Contains}
use Rattle.std.specs.List.{filter}
use Rattle.std.proofs.lemmas.List.Elements.{Contains-append_left, Contains-push}
use Rattle.engine_ports.specs.Clock.{ClockView, ClockHanded}
use Rattle.engine_ports.specs.Door.{LeaveSays, Outside}
use Rattle.session_model.specs.declared.ending.Ending.{Ending}
use Rattle.session_model.specs.declared.ending.Worst.{Worst}
use Rattle.session_model.specs.Pass.{PassView, is_call}
use Rattle.session_model.specs.Session.{Span}
use Rattle.polled_ports.specs.PollDoor.{PollDoorView, untimed}
use Rattle.polled_ports.specs.PollSource.{PollSourceView}
use Rattle.polled_ports.specs.PollSink.{PollSinkView}
use Rattle.polled_model.specs.declared.polled.Cause.{Cause}
use Rattle.polled_model.specs.declared.polled.Polled.{Polled}
use Rattle.polled_model.specs.declared.polled.Polled.TheVariants.{Done, Pending}
use Rattle.polled_model.specs.Polls.{PausesFor, Polls, Ports, grown}
use Rattle.polled_model.specs.Progress.{IsProgress}
use Rattle.session_poll.specs.Standing.{IsAt}
use Rattle.door_model.specs.Worsts.{called_by, worse_of}
use Rattle.door_model.proofs.ListLemmas.{map_more}
use Rattle.engine_loop.specs.Lives.{Lives, Run, history}
use Rattle.engine_loop.specs.Pausing.{AllWait, Served, StoodSo, Waits}
use Rattle.engine_loop.specs.Standing.{AllStood, AreBelow, ComesOf, InPoll, IsNoneOf, Stands, Start, came_in, number_of, ports_in, run_by, connection_number, served_by, served_number}
use Rattle.engine_loop.specs.declared.coming.Coming.{Coming}
use Rattle.engine_loop.specs.declared.polling.Rest.{Rest}
use Rattle.engine_loop.specs.declared.connection.Connection.{Connection}
use Rattle.engine_loop.proofs.NumberLemmas.{apart_middle, below_right, none_of_right}
use Rattle.engine_loop.proofs.PollLemmas.{k_own, lives_on, number_below, stands_done, stands_pending}
use Rattle.engine_loop.proofs.WaitLemmas.{wait_all, wait_more}

-- the same span by another name of its history
lives_at : (r : Run) (k : ℕ) (came : Outside) (now : Ports) (s : Span) → Lives r k came now s → Lives r k came now (record s { to = history r })
lives_at r k came now s l = record {
  new = l.new;
  source = l.source;
  sink = l.sink;
  before = l.before;
  none_before = l.none_before;
  from = l.from;
  to = refl;
  at_moments = l.at_moments;
  feeds = l.feeds;
  old = l.old;
  at_ports = l.at_ports;
  stops = l.stops;
}

module _ {S K : Type 0} (gives : S → PollSourceView) (takes : K → PollSinkView) where
  numbers_served : (xs : List (Connection S K)) → map (connection_number gives takes) xs ≡ map served_number (map (served_by gives takes) xs)
  numbers_served [] = refl
  numbers_served (x ∷ xs) = ap (λ l. x.number ∷ l) (numbers_served xs)

  map_two : {A : Type 0} (f : Connection S K → A) (xs ys : List (Connection S K)) → map f (xs ++ ys) ≡ map f xs ++ map f ys
  map_two f [] ys = refl
  map_two f (x ∷ xs) ys = ap (λ l. f x ∷ l) (map_two f xs ys)

  module _ (o : Start) (woken woken' : Type 0) (before : List Served) (p q : PassView) (x : Connection S K) (c : Coming) (w : Worst) (stop : Bool) (d : PollDoorView) (t t1 : ClockView) (m : ℕ)
      (result : Polled) (after : Span → Type 0) (v' : Ports) (rest done : List (Connection S K)) (so : Stands gives takes o p (x ∷ (rest ++ done)) c w stop d t)
      (told : ClockHanded t (m ∷ []) t1) (f : p.own_calls ≡ filter is_call p.seen) (g : q.own_calls ≡ filter is_call q.seen)
      (polls : Polls x.number (record { handed = m; stop = stop }) result (IsAt p.charter x.number x.session) after woken' p q (ports_in gives takes x.conn) v') where
    wait_beside : (woken → woken') → (cs : List Cause) → AllWait (run_by o so.added so.moments t) woken before cs (map (served_by gives takes) done)
        → AllWait (run_by o (so.added ++ polls.own) (so.moments ++ m ∷ []) t1) woken' before cs (map (served_by gives takes) done)
    wait_beside go cs waits =
        let in_middle = below_right o.first c.next (map number_of so.lives) (x.number ∷ map (connection_number gives takes) (rest ++ done)) so.below in
        let top = number_below o c.left (length so.cames) c.next x.number so.within_numbers so.left so.next (let s = so.all_came in omega (arith, s)) in
        let apart = (apart_middle x.number (map number_of so.lives) (map (connection_number gives takes) (rest ++ done)) so.apart).1 in
        let names = map_two (connection_number gives takes) rest done ∙ ap (λ l. map (connection_number gives takes) rest ++ l) (numbers_served done) in
        wait_all (run_by o so.added so.moments t) polls.own (m ∷ []) t1 told.stops woken woken' go before x.number o.first c.next in_middle.0.1 top
        (k_own gives takes o p q x (rest ++ done) c w stop d t t1 m result after woken' v' so told f g polls)
        cs (map (served_by gives takes) done)
        (none_of_right x.number (map (connection_number gives takes) rest) (map served_number (map (served_by gives takes) done)) (subst (IsNoneOf x.number) names apart))
        (below_right o.first c.next (map (connection_number gives takes) rest) (map served_number (map (served_by gives takes) done)) (subst (AreBelow o.first c.next) names in_middle.1)) waits

  -- the first was polled, and has left
  pub leaves_on : (o : Start) (woken woken' : Type 0) (before : List Served) (p q : PassView) (x : Connection S K) (c : Coming) (w w' : Worst) (stop : Bool) (d d' : PollDoorView) (t t1 : ClockView) (m : ℕ)
      (e : Ending) (after : Span → Type 0) (v' : Ports) (rest done : List (Connection S K)) (so : Stands gives takes o p (x ∷ (rest ++ done)) c w stop d t)
      (told : ClockHanded t (m ∷ []) t1) (f : p.own_calls ≡ filter is_call p.seen) (g : q.own_calls ≡ filter is_call q.seen)
      (polls : Polls x.number (record { handed = m; stop = stop }) (Done e) (IsAt p.charter x.number x.session) after woken' p q (ports_in gives takes x.conn) v')
      → w' ≡ worse_of w (called_by e) → LeaveSays x.number (untimed v'.source v'.sink) d.door d'.door
      → (now : Rest) (cs : List Cause) → (now ≡ Rest.Machine → Contains cs Cause.NotYet) → (woken → woken') → AllStood gives takes before rest
      → AllWait (run_by o so.added so.moments t) woken before cs (map (served_by gives takes) done)
      → InPoll gives takes o woken' before now (length rest) q (rest ++ done) c w' stop d' t1
  unfolding stands_done
  leaves_on o woken woken' before p q x c w w' stop d d' t t1 m e after v' rest done so told f g polls worse leaves now cs machine go stood waits = record {
    so = stands_done gives takes o p q x v' (rest ++ done) c w w' stop d d' t t1 m e after woken' told f g polls worse leaves so;
    rest = rest;
    done = done;
    split = refl;
    count = refl;
    stood = stood;
    causes = cs;
    waits = wait_beside o woken woken' before p q x c w stop d t t1 m (Done e) after v' rest done so told f g polls go cs waits;
    machine = machine;
  }

  module _ (o : Start) (woken woken' : Type 0) (before : List Served) (p q : PassView) (x x' : Connection S K) (c : Coming) (w : Worst) (stop : Bool) (d : PollDoorView) (t t1 : ClockView) (m : ℕ) (cause : Cause)
      (rest done : List (Connection S K)) (so : Stands gives takes o p (x ∷ (rest ++ done)) c w stop d t)
      (told : ClockHanded t (m ∷ []) t1) (f : p.own_calls ≡ filter is_call p.seen) (g : q.own_calls ≡ filter is_call q.seen)
      (polls : Polls x.number (record { handed = m; stop = stop }) (Pending cause) (IsAt p.charter x.number x.session) (IsAt p.charter x.number x'.session) woken' p q
      (ports_in gives takes x.conn) (ports_in gives takes x'.conn))
      (number : x'.number ≡ x.number) (came : x'.came ≡ x.came) where
    abbrev r' : Run
    r' = run_by o (so.added ++ polls.own) (so.moments ++ m ∷ []) t1

    abbrev there : Span
    there = grown so.are_served.0.0 polls.read polls.written polls.moments q.seen stop (ports_in gives takes x'.conn)

    goes : q.seen ≡ history r'
    goes = polls.seen ∙ ap (λ h. h ++ polls.own) so.goes_on ∙ append_assoc o.pass.seen so.added polls.own

    come : IsProgress o.pass.charter x.number there × PausesFor cause o.pass.charter x.number (record { handed = m; stop = stop }) woken' polls.own (ports_in gives takes x.conn) (ports_in gives takes x'.conn) so.are_served.0.0 there
    come =
        let y = polls.comes so.are_served.0.0 (so.are_served.0.1.to ∙ sym so.goes_on) so.are_served.0.1.at_ports (subst (λ ch. IsAt ch x.number x.session so.are_served.0.0) (sym so.charter) so.are_served.0.2) in
        subst (λ ch. IsProgress ch x.number there × PausesFor cause ch x.number (record { handed = m; stop = stop }) woken' polls.own (ports_in gives takes x.conn) (ports_in gives takes x'.conn) so.are_served.0.0 there) so.charter (y.1, y.2)

    -- the session that was polled waits
    waits_now : StoodSo before (served_by gives takes x) (ports_in gives takes x.conn) → Waits r' woken' before cause (record { number = x.number; came = came_in gives takes x; now = ports_in gives takes x'.conn })
    waits_now stood = record {
      s = there;
      lives = lives_at r' x.number (came_in gives takes x) (ports_in gives takes x'.conn) there
          (lives_on gives takes o p q x (rest ++ done) c w stop d t t1 m (Pending cause) (IsAt p.charter x.number x'.session) woken' (ports_in gives takes x'.conn) so told f g polls);
      progress = come.0;
      quiet = ([], refl, sym goes ∙ sym (append-nil q.seen));
      was = ports_in gives takes x.conn;
      stood = stood;
      told = record { handed = m; stop = stop };
      handed = Contains-push so.moments m;
      began = so.are_served.0.0;
      read = polls.read;
      written = polls.written;
      moments = polls.moments;
      grew = refl;
      own = polls.own;
      polled = polls.seen ∙ ap (λ h. h ++ polls.own) (so.goes_on ∙ sym so.are_served.0.1.to);
      pauses = come.1;
    }

    waits_named : StoodSo before (served_by gives takes x) (ports_in gives takes x.conn) → Waits r' woken' before cause (served_by gives takes x')
    waits_named stood = subst (λ (z : ℕ × Outside). Waits r' woken' before cause (record { number = z.0; came = z.1; now = ports_in gives takes x'.conn }))
        (λ i. (sym number i, untimed (gives (sym came i).value.source.port) (takes (sym came i).value.sink.port))) (waits_now stood)

    -- whatever the poll came to, those that were polled before go on waiting
    others_wait : (woken → woken') → (cs : List Cause) → AllWait (run_by o so.added so.moments t) woken before cs (map (served_by gives takes) done) → AllWait r' woken' before cs (map (served_by gives takes) done)
    others_wait go cs waits = wait_beside o woken woken' before p q x c w stop d t t1 m (Pending cause) (IsAt p.charter x.number x'.session) (ports_in gives takes x'.conn) rest done so told f g polls go cs waits

    -- the first was polled, and waits behind the others
    pub moves_on : (was now result : Rest) (cs : List Cause) → ComesOf was result now → (result ≡ Rest.Machine → cause ≡ Cause.NotYet) → (was ≡ Rest.Machine → Contains cs Cause.NotYet)
        → x'.session.conn ≡ x.session.conn → (woken → woken') → AllStood gives takes before (x ∷ rest) → AllWait (run_by o so.added so.moments t) woken before cs (map (served_by gives takes) done)
        → InPoll gives takes o woken' before now (length rest) q ((rest ++ done) ++ x' ∷ []) c w stop d t1
    unfolding stands_pending
    moves_on was now result cs comes_of by machine conn go stood waits = record {
      so = stands_pending gives takes o p q x x' (rest ++ done) c w stop d t t1 m cause woken' told f g polls number came conn so;
      rest = rest;
      done = done ++ x' ∷ [];
      split = append_assoc rest done (x' ∷ []);
      count = refl;
      stood = stood.1;
      causes = cs ++ cause ∷ [];
      waits = subst (AllWait r' woken' before (cs ++ cause ∷ [])) (sym (map_more (served_by gives takes) done x'))
          (wait_more r' woken' before cs (map (served_by gives takes) done) cause (served_by gives takes x') (others_wait go cs waits) (waits_named stood.0));
      machine = λ is. ⊎_elim (λ h. Contains-append_left cs (cause ∷ []) Cause.NotYet (machine h)) (λ h. subst (Contains (cs ++ cause ∷ [])) (by h) (Contains-push cs cause)) (comes_of is);
    }
