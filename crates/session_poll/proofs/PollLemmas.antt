-- What a poll says, of the steps that it made.
use Rattle.std.proofs.Common.{arith, ◌≡◌, ◌≤◌, ◌+◌, ◌-◌, ◌∙◌, inl, inr, ℕ, Bool, List, ◌++◌, length, refl, sym, ap, subst}
use Rattle.std.specs.Prelude.{None}
use Rattle.engine_ports.specs.Door.{Outside}
use Rattle.engine_text.specs.declared.step.Step.{Step}
use Rattle.futures.specs.declared.task.context.Context.{Context}
use Rattle.machine_model.specs.History.{Charter, Extends, IsLegal, calls_of, own_calls}
use Rattle.session_model.specs.declared.ending.Ending.{Ending}
use Rattle.session_model.specs.Pass.{PassView}
use Rattle.session_model.specs.Session.{Span}
use Rattle.session_model.proofs.HistoryLemmas.{extends_on, quiet_extends}
use Rattle.polled_model.specs.declared.polled.Cause.{Cause}
use Rattle.polled_model.specs.declared.polled.Polled.TheVariants.{Done, Pending}
use Rattle.polled_model.specs.Polls.{PausesFor, Polls, Ports, RoseBy, StandsAtPorts, TellsOn, Told, gone_on, stops_after, told_stop}
use Rattle.session_poll.specs.declared.budget.Budget.{Budget}
use Rattle.session_poll.specs.declared.session.Session.{Session}
use Rattle.session_poll.specs.declared.state.Step.{Step as Came}
use Rattle.session_poll.specs.declared.state.Step.TheVariants as came
use Rattle.session_poll.specs.Going.{After, Goes, HasGone, HasTold, IsPolled, IsSpent, Spends, Steps, WaitsFor, WakesFor, whole_budget}
use Rattle.session_poll.specs.Standing.{CanPoll, HasPiece, HasRead, IsAt, IsIn, IsWoken, unread}
use Rattle.session_poll.specs.Asking.{IsAsking}
use Rattle.session_poll.specs.Streaming.{IsOpening, MayTell}
use Rattle.session_poll.specs.declared.state.State.{State}
use Rattle.session_poll.proofs.WaitMoveLemmas.{begun_held}
use Rattle.session_model.specs.Turning.{HasBegun}
use Rattle.session_model.specs.declared.terms.Terms.{Terms}
use Rattle.engine_text.specs.declared.call.Call.{Call}
use Rattle.engine_text.specs.declared.reply.Reply.{Reply}
use Rattle.attach_hub.specs.Streams.{StandsIn}
use Rattle.polled_steps.specs.declared.outgoing.Outgoing.{Outgoing}
use Rattle.polled_model.specs.Stages as stage
use Rattle.session_poll.proofs.GoingLemmas.{goes_none, goes_on, goes_read, rose_kept, spends_on}
use Rattle.session_poll.proofs.MoveLemmas.{ends_since, spends_none}
use Rattle.session_poll.proofs.StandingLemmas.{standing}
use Rattle.session_poll.proofs.PlaceLemmas.{stands_later}
use Rattle.session_poll.proofs.ThereLemmas.{told_so}
use Rattle.session_poll.proofs.ToldLemmas.{calls_among, tells_on}

-- ---- steps since the poll began

-- none yet
pub gone_none : (ch : Charter) (k : ℕ) (told : Told) (x : Session) (p : PassView) (v : Ports) → HasGone ch k told x x p p v v whole_budget
unfolding goes_none goes_read
gone_none ch k told x p v = record {
  goes = goes_none k told.handed (IsPolled ch k told.stop x) (IsPolled ch k told.stop x) p v (λ s is ports so. so);
  spends = spends_none k v whole_budget;
}

-- one more
pub gone_on_by : (ch : Charter) (k : ℕ) (told : Told) (x y z : Session) (p q r : PassView) (u v w : Ports) (b c : Budget)
    → HasGone ch k told x y p q u v b → Steps ch k told came.On y z q r v w b c → HasGone ch k told x z p r u w c
unfolding goes_on
gone_on_by ch k told x y z p q r u v w b c f g = record {
  goes = goes_on k told.handed (IsPolled ch k told.stop x) (IsPolled ch k told.stop y) (IsPolled ch k told.stop z) p q r u v w f.goes g.goes;
  spends = spends_on k f.goes.own g.goes.own u v w whole_budget b c f.spends g.spends;
}

-- of the same charter
pub steps_at : (ch ch' : Charter) (k : ℕ) (told : Told) (result : Came) (x x' : Session) (p q : PassView) (v v' : Ports) (b b' : Budget)
    → ch ≡ ch' → Steps ch k told result x x' p q v v' b b' → Steps ch' k told result x x' p q v v' b b'
steps_at ch ch' k told result x x' p q v v' b b' is f = subst (λ c. Steps c k told result x x' p q v v' b b') is f

-- ---- as it began

stands_told : (s : Span) (told : Told) (v : Ports) → StandsAtPorts s v → StandsAtPorts (told_stop s told.stop) v
stands_told s told v ports =
    ap (λ (o : Outside). record o { clock = record { moments = None; stops = stops_after told.stop s.new.clock.stops } }) ports

-- it may be polled on
pub can_go_on : (ch : Charter) (k : ℕ) (told : Told) (x x' : Session) (p q : PassView) (v v' : Ports) (b : Budget) → HasGone ch k told x x' p q v v' b
    → CanPoll ch k x p.seen v → CanPoll ch k x' q.seen v'
can_go_on ch k told x x' p q v v' b f (s, is, ports, at) = (
  gone_on (told_stop s told.stop) f.goes.read f.goes.written f.goes.moments q.seen v',
  refl,
  refl,
  (f.goes.comes (told_stop s told.stop) is (stands_told s told v ports) (told_so ch k told.stop x s at)).0,
)

module _ (k : ℕ) (told : Told) (x y : Session) (p q : PassView) (u v : Ports) (b : Budget) (f : HasGone p.charter k told x y p q u v b) (conn : y.conn ≡ k) where
  -- by the pass as it is now
  pub can_now : CanPoll p.charter k x p.seen u → CanPoll q.charter y.conn y q.seen v
  can_now can =
      subst (λ n. CanPoll q.charter n y q.seen v) (sym conn)
      (subst (λ ch. CanPoll ch k y q.seen v) (sym f.goes.stays.charter) (can_go_on p.charter k told x y p q u v b f can))

  -- a step of it, by the pass as the poll began
  pub step_since : (result : Came) (z : Session) (r : PassView) (w : Ports) (c : Budget) → Steps q.charter y.conn told result y z q r v w b c
      → Steps p.charter k told result y z q r v w b c
  step_since result z r w c g =
      subst (λ ch. Steps ch k told result y z q r v w b c) f.goes.stays.charter (subst (λ n. Steps q.charter n told result y z q r v w b c) conn g)

-- ---- what a state wants

module _ (ch : Charter) (k : ℕ) (x : Session) (seen : List Step) (v : Ports) where
  pub can_piece : CanPoll ch k x seen v → HasPiece x.from x.to (length x.piece.items)
  can_piece (s, is, ports, at) = at.piece

  pub can_read : x.state ≡ State.Reads → CanPoll ch k x seen v → (bytes : List ℕ) × HasRead x bytes
  can_read reads (s, is, ports, at) =
      let here : (bytes : List ℕ) × HasRead x bytes × stage.Reads ch k (bytes ++ unread x) s = subst (λ state. IsIn ch k state x s) reads at.stands in
      (here.0, here.1)

  pub can_ask : (c : Call) (terms : Terms) (early : Bool) → x.state ≡ State.Asks c terms early → CanPoll ch k x seen v → IsAsking x.state
  can_ask c terms early asks (s, is, ports, at) =
      let here : IsIn ch k (State.Asks c terms early) x s = subst (λ state. IsIn ch k state x s) asks at.stands in
      subst IsAsking (sym asks) (here.0, here.5)

  pub can_wait : (n : ℕ) (terms : Terms) → x.state ≡ State.Waits n terms → CanPoll ch k x seen v → HasBegun ch k n seen
  can_wait n terms waits (s, is, ports, at) =
      let here : IsIn ch k (State.Waits n terms) x s = subst (λ state. IsIn ch k state x s) waits at.stands in
      subst (HasBegun ch k n) is (begun_held ch k n here.0 here.3.0 (unread x) s.written s here.3.2)

  pub can_wait_early : (n : ℕ) (terms : Terms) (out : Outgoing) → x.state ≡ State.WaitsEarly n terms out → CanPoll ch k x seen v → HasBegun ch k n seen
  can_wait_early n terms out opens (s, is, ports, at) =
      let here : IsIn ch k (State.WaitsEarly n terms out) x s = subst (λ state. IsIn ch k state x s) opens at.stands in
      subst (HasBegun ch k n) is (begun_held ch k n here.0 here.3.c (unread x) here.3.bytes s here.3.ticket)

  pub can_open : (c : Call) (terms : Terms) → x.state ≡ State.Opens c terms → CanPoll ch k x seen v → IsOpening x.state
  can_open c terms opens (s, is, ports, at) =
      let here : IsIn ch k (State.Opens c terms) x s = subst (λ state. IsIn ch k state x s) opens at.stands in
      subst IsOpening (sym opens) (here.0, here.5)

  pub can_tell : (given : Reply) (terms : Terms) (place : ℕ) (out : Outgoing) → x.state ≡ State.Streams given terms place out → CanPoll ch k x seen v
      → MayTell ch seen x.state
  can_tell given terms place out streams (s, is, ports, at) =
      let here : IsIn ch k (State.Streams given terms place out) x s = subst (λ state. IsIn ch k state x s) streams at.stands in
      subst (MayTell ch seen) (sym streams) (
        here.4.form,
        subst (λ h. StandsIn ch h given place) is
            (stands_later given ch here.4.at here.4.now s.to place here.1 (quiet_extends k here.4.now s.to here.4.quiet) here.4.reaches),
      )

-- ---- what it waits for

tired : (x y left : ℕ) → left ≡ 0 → RoseBy (64 - left) x y → RoseBy 64 x y
tired x y left none rose = subst (λ m. RoseBy (64 - m) x y) none rose

module _ (ch : Charter) (k : ℕ) (told : Told) (own : List Step) (u v w : Ports) (left : Budget) (x z : Session) (was s : Span) (spent : Spends k own u w whole_budget left)
    (before : IsAt ch k x was) (behind : IsAt ch k z s) where
  no_call : left.turns ≡ 0 → (n : ℕ) × (16 ≤ length (own_calls k own) + n) × (1 ≤ n → TellsOn ch k n (calls_of k own) was s)
  no_call none =
      let calls = spent.turns in let own' = calls_among k own in
      (0, omega (arith, calls, own', none), λ some. absurd (omega (arith, some)))

  -- its calls and the parts of its stream are as many as one poll may make
  spent_so : (state : State) → IsIn ch k state z s → HasTold x.state state left → IsSpent state left
      → (n : ℕ) × (16 ≤ length (own_calls k own) + n) × (1 ≤ n → TellsOn ch k n (calls_of k own) was s)
  spent_so (State.Streams given terms place out) here tells none =
      let calls = spent.turns in let own' = calls_among k own in (
        left.turns,
        omega (arith, calls, own'),
        λ some. tells_on ch k (calls_of k own) x z was s given terms place out left (omega (arith, calls)) none before.stands here tells,
      )
  spent_so State.Reads here tells none = no_call none
  spent_so (State.Asks call terms early) here tells none = no_call none
  spent_so (State.Waits ticket terms) here tells none = no_call none
  spent_so (State.WaitsEarly ticket terms out) here tells none = no_call none
  spent_so (State.Opens call terms) here tells none = no_call none
  spent_so (State.Sends answer) here tells none = no_call none
  spent_so (State.Refuses out status) here tells none = no_call none

  pauses_so : (cause : Cause) (cx : Context) (b : List Step) → Extends was.to b → RoseBy 0 u.source.registered v.source.registered
      → RoseBy 0 u.sink.registered v.sink.registered → WakesFor cause cx → HasTold x.state z.state left → WaitsFor cause ch k told.handed z.state b v w left s
      → PausesFor cause ch k told (IsWoken cx) own u w was s
  pauses_so Cause.Source cx b on source sink woken tells (rose, idle) = (rose_kept u.source.registered v.source.registered w.source.registered source rose, idle)
  pauses_so Cause.Sink cx b on source sink woken tells rose = rose_kept u.sink.registered v.sink.registered w.sink.registered sink rose
  pauses_so Cause.NotYet cx b on source sink woken tells (inl (n, begun, (at, from, to, late))) =
      (woken.0, inl (n, begun, (at, extends_on was.to b at on from, to, late)))
  pauses_so Cause.NotYet cx b on source sink woken tells (inr up) = (woken.0, inr (inl up))
  pauses_so Cause.Yield cx b on source sink woken tells (inl (none, wants)) = (woken.0, inl (spent_so z.state behind.stands tells none, wants))
  pauses_so Cause.Yield cx b on source sink woken tells (inr (inl none)) = (woken.0, inr (inl (tired u.source.gave w.source.gave left.reads none spent.reads)))
  pauses_so Cause.Yield cx b on source sink woken tells (inr (inr none)) = (woken.0, inr (inr (tired u.sink.took w.sink.took left.writes none spent.writes)))

-- ---- a poll

module _ (k : ℕ) (told : Told) (x y z : Session) (cx : Context) (p q r : PassView) (u v w : Ports) (b c : Budget) where
  -- that waits
  pub polls_pending : (cause : Cause) → HasGone p.charter k told x y p q u v b → Steps p.charter k told (came.Pauses cause) y z q r v w b c
      → WakesFor cause cx → IsLegal r.charter r.seen → HasTold x.state z.state c
      → Polls k told (Pending cause) (IsAt p.charter k x) (IsAt p.charter k z) (IsWoken cx) p r u w
  unfolding goes_on
  polls_pending cause f g woken legal tells =
      let h : Goes k told.handed (IsPolled p.charter k told.stop x) (After (came.Pauses cause) p.charter k told z q.seen v w c) p r u w =
      goes_on k told.handed (IsPolled p.charter k told.stop x) (IsPolled p.charter k told.stop y) (After (came.Pauses cause) p.charter k told z q.seen v w c) p q r u v w
      f.goes g.goes in
      let spent : Spends k (f.goes.own ++ g.goes.own) u w whole_budget c =
      spends_on k f.goes.own g.goes.own u v w whole_budget b c f.spends g.spends in
      record {
        read = f.goes.read ++ g.goes.read;
        written = f.goes.written ++ g.goes.written;
        moments = f.goes.moments ++ g.goes.moments;
        own = f.goes.own ++ g.goes.own;
        source = h.source;
        sink = h.sink;
        seen = h.seen;
        legal = legal;
        stays = h.stays;
        adds = h.adds;
        at_moment = h.at_moment;
        stand = h.stand;
        within = h.within;
        comes = λ s is ports at.
            let so = h.comes (told_stop s told.stop) is (stands_told s told u ports) (told_so p.charter k told.stop x s at) in (
              so.0.0,
              standing p.charter k z _ so.0.0,
              pauses_so p.charter k told (f.goes.own ++ g.goes.own) u v w c x z s _ spent at so.0.0 cause cx q.seen
                  (f.goes.own, f.goes.seen ∙ ap (λ l. l ++ f.goes.own) (sym is)) f.spends.source_waits f.spends.sink_waits woken tells so.1,
            );
        feeds = λ s is ports at. inl h.fed;
      }

  -- in which it ends
  pub polls_done : (e : Ending) → HasGone p.charter k told x y p q u v b → Steps p.charter k told (came.Ends e) y z q r v w b c
      → IsLegal r.charter r.seen
      → Polls k told (Done e) (IsAt p.charter k x) (IsAt p.charter k z) (IsWoken cx) p r u w
  unfolding goes_on
  polls_done e f g legal =
      let h : Goes k told.handed (IsPolled p.charter k told.stop x) (After (came.Ends e) p.charter k told z q.seen v w c) p r u w =
      goes_on k told.handed (IsPolled p.charter k told.stop x) (IsPolled p.charter k told.stop y) (After (came.Ends e) p.charter k told z q.seen v w c) p q r u v w
      f.goes g.goes in
      record {
        read = f.goes.read ++ g.goes.read;
        written = f.goes.written ++ g.goes.written;
        moments = f.goes.moments ++ g.goes.moments;
        own = f.goes.own ++ g.goes.own;
        source = h.source;
        sink = h.sink;
        seen = h.seen;
        legal = legal;
        stays = h.stays;
        adds = h.adds;
        at_moment = h.at_moment;
        stand = h.stand;
        within = h.within;
        comes = λ s is ports at.
            let so = h.comes (told_stop s told.stop) is (stands_told s told u ports) (told_so p.charter k told.stop x s at) in
            (so.0, ends_since e u v w f.goes.source.faults f.goes.sink.faults so.1);
        feeds = λ s is ports at. inl h.fed;
      }
