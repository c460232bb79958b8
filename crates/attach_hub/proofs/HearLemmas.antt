-- A call of a connection's input is asked for until it is ready.
use Rattle.std.proofs.Common.{◌≡◌, ◌∷◌, ℕ, Bool, List, [], ◌++◌, refl, sym, ◌∙◌, ap, subst, append_assoc, arith, true, false, Some, ◌⊎◌, inl, inr, Ok, Err}
use Rattle.std.specs.Prelude.{IsTrue, IsFalse}
use Rattle.std.proofs.lemmas.Bool.{false≢true}
use Rattle.engine_ports.specs.Rose.{Rose}
use Rattle.engine_ports.specs.Clock.{ClockView, ClockHanded, ClockStood}
use Rattle.engine_ports.proofs.PortLemmas.{rose_since}
use Rattle.engine_text.specs.declared.call.Call.{Call}
use Rattle.engine_text.specs.declared.call.Call.TheVariants as call
use Rattle.engine_text.specs.Soundness.{IsSound}
use Rattle.engine_text.specs.declared.owner.Owner.{Owner}
use Rattle.engine_text.specs.declared.reply.Reply.{Reply}
use Rattle.engine_text.specs.declared.reply.Reply.TheVariants as reply
use Rattle.engine_text.specs.declared.step.Step.{Step}
use Rattle.machine_model.specs.State.{State}
use Rattle.machine_model.specs.Calls.Feed.{feed_by, feed_end_by}
use Rattle.machine_model.specs.History.{Charter, Extends, HasNone, input_of, is_drop, moment_used, opening_state, reply_of, state_after, state_from}
use Rattle.journal_lines.specs.Room.{HasRoom}
use Rattle.machine_model.specs.Statuses.{is_feed}
use Rattle.machine_model.specs.Step.{at_moment}
use Rattle.machine_model.specs.Streams.{Coming, Live, Over, RunState, run_state}
use Rattle.session_model.specs.declared.followed.PumpEnd.TheVariants as P
use Rattle.session_model.specs.declared.turned.Turned.{Turned}
use Rattle.session_model.specs.declared.turned.Turned.TheVariants as T
use Rattle.session_model.specs.Pass.{PassView}
use Rattle.session_model.specs.Exchange.{IsHeldUp, IsMade, IsQuiet}
use Rattle.session_model.specs.Progress.{Moves}
use Rattle.session_model.specs.Turning.{HasTicket, Refuses, Turn, Turns, found}
use Rattle.session_model.proofs.HistoryLemmas.{dues_done, dues_none, extends_on, extends_same, made_behind, none_append, quiet_same, run_append, some_none}
use Rattle.session_model.proofs.DueLemmas.{dues_clock, some_clock}
use Rattle.session_model.proofs.AddsLemmas.{turn_adds}
use Rattle.session_model.proofs.TurnLemmas.{clock_alone, makes_call, moves_on, moves_same, seen_made, state_made, state_seen}
use Rattle.daemon_core.proofs.CallLemmas.{call_at}
use Rattle.attach_hub.specs.Following.{IsStill}
use Rattle.attach_hub.specs.Pumping.{Hears, IsFed}
use Rattle.attach_hub.proofs.StandLemmas.{Stands, stands_on, stands_pause, stands_same, turn_extends, turn_stands}
use Rattle.attach_hub.proofs.StillLemmas.{none_of_both, none_parts, quiet_both, still_between, still_rest}

-- ---- a feed, and the end of input

-- which no ticket asks for
pub no_ticket : (ch : Charter) (n : ℕ) (h : List Step) (c : Call) → IsTrue (is_feed c) → HasTicket ch n h c
no_ticket ch n h (call.Feed owner run bytes) is = tt
no_ticket ch n h (call.FeedEnd owner run) is = tt
no_ticket ch n h c is = absurd (false≢true is)

no_drop : (c : Call) → IsTrue (is_feed c) → IsFalse (is_drop c)
no_drop (call.Feed owner run bytes) is = refl
no_drop (call.FeedEnd owner run) is = refl
no_drop c is = absurd (false≢true is)

fed_by : (x : RunState) (owner : Owner) (bytes : List ℕ) (s : State) → IsFed (feed_by x owner bytes s).reply
fed_by Live owner bytes s = tt
fed_by Over owner bytes s = tt
fed_by Coming owner bytes s = tt

ended_by : (x : RunState) (owner : Owner) (s : State) → IsFed (feed_end_by x owner s).reply
ended_by Live owner s = tt
ended_by Over owner s = tt
ended_by Coming owner s = tt

-- its reply tells whether it was taken
fed_reply : (c : Call) → IsTrue (is_feed c) → (s : State) (n t : ℕ) → IsFed (reply_of s n t c)
fed_reply (call.Feed owner run bytes) is s n t = fed_by (run_state owner run (at_moment t s)) owner bytes (at_moment t s)
fed_reply (call.FeedEnd owner run) is s n t = ended_by (run_state owner run (at_moment t s)) owner (at_moment t s)
fed_reply c is s n t = absurd (false≢true is)

-- ---- it waits

-- the input makes no call
abbrev pub Asking : ℕ → PassView → PassView → ClockView → ClockView → Type 0
Asking k p q v v' = Stands (input_of k) p q v v'

pub asks_first : (k : ℕ) (p : PassView) (v : ClockView) → Asking k p p v v
asks_first k p v = stands_same (input_of k) p v

asks_on : (k : ℕ) (p q r : PassView) (u v w : ClockView) → Asking k p q u v → Asking k q r v w → Asking k p r u w
asks_on k p q r u v w f g = stands_on (input_of k) p q r u v w f g

pub asks_pause : (k : ℕ) (p q : PassView) (u v w : ClockView) → Asking k p q u v → ClockStood v w → Asking k p q u w
asks_pause k p q u v w f stood = stands_pause (input_of k) p q u v w f stood

-- a turn in which it wasn't ready
pub asks_again : (k handed : ℕ) (c : Call) (p q q2 : PassView) (u v w : ClockView) → Asking k p q u v → ClockHanded v (handed ∷ []) w
    → Turn (input_of k) handed (Some c) T.NotYet q q2 → Asking k p q2 u w
asks_again k handed c p q q2 u v w f clock t =
    asks_on k p q q2 u v w f (turn_stands (input_of k) handed q q2 t.turns v w (dues_none (input_of k) _ _ t.turns.own t.says.1.0) (dues_clock _ _ t.turns.own t.says.1.0) clock)

asks_full : (k handed : ℕ) (c : Call) (p q q2 : PassView) (u v w : ClockView) → Asking k p q u v → ClockHanded v (handed ∷ []) w
    → Turn (input_of k) handed (Some c) T.JournalFull q q2 → Asking k p q2 u w
asks_full k handed c p q q2 u v w f clock t =
    asks_on k p q q2 u v w f (turn_stands (input_of k) handed q q2 t.turns v w (dues_none (input_of k) _ _ t.turns.own t.says.1.0) (dues_clock _ _ t.turns.own t.says.1.0) clock)

asks_short : (k handed : ℕ) (c : Call) (p q q2 : PassView) (u v w : ClockView) → Asking k p q u v → ClockHanded v (handed ∷ []) w
    → Turn (input_of k) handed (Some c) T.NoMemory q q2 → Asking k p q2 u w
asks_short k handed c p q q2 u v w f clock t =
    asks_on k p q q2 u v w f (turn_stands (input_of k) handed q q2 t.turns v w (some_none (input_of k) _ _ t.turns.own t.says.1) (some_clock _ _ t.turns.own t.says.1) clock)

-- the connection is quiet where it makes no call itself
asks_quiet : (k : ℕ) (p q : PassView) (u v : ClockView) → Asking k p q u v → IsStill k p.seen q.seen → IsQuiet k p.seen q.seen
asks_quiet k p q u v f still = quiet_both k p.seen q.seen f.moves.extends still f.still

-- ---- how it ends

-- the call was made
takes : (n handed : ℕ) (c : Call) (p q : PassView) (turns : Turns n p q) (dues : List Step) (v w : ClockView) → HasNone n dues
    → turns.own ≡ dues ++ Step.Call n (moment_used (found n p q turns) handed) c ∷ []
    → ClockHanded v (handed ∷ []) w → Moves n p q v w
takes n handed c p q turns dues v w none is clock =
    let t : ℕ = moment_used (found n p q turns) handed in
    let at = seen_made n t c p q turns dues is in
    record {
      extends = turn_extends n p q turns;
      stays = turns.stays;
      adds = turn_adds n p q turns;
      handed = handed ∷ [];
      clock = clock;
      within = λ h.
          let e = ap (λ x. (state_after p.charter x).clock) at
          ∙ ap (λ (s : State). s.clock) (state_made p.charter (p.seen ++ turns.others ++ dues) (Step.Call n t c))
          ∙ call_at c n (state_after p.charter (p.seen ++ turns.others ++ dues)) t in
          let d = clock_alone n p q turns h in omega (arith, e, d);
    }

-- it stands between steps of which none is the connection's
made_by : (k t : ℕ) (c : Call) (r : Reply) (p q : PassView) (turns : Turns (input_of k) p q) (dues : List Step)
    → IsStill k p.seen q.seen → HasNone k dues → turns.own ≡ dues ++ Step.Call (input_of k) t c ∷ []
    → HasRoom p.charter (state_from (found (input_of k) p q turns) dues) c
    → r ≡ reply_of (state_from (found (input_of k) p q turns) dues) (input_of k) t c → IsMade p.charter k (input_of k) c p.seen q.seen r
made_by k t c r p q turns dues still none is room reply =
    let e : p.seen ++ turns.others ++ dues ≡ p.seen ++ (turns.others ++ dues) = append_assoc p.seen turns.others dues in
    let at : state_from (found (input_of k) p q turns) dues ≡ state_after p.charter (p.seen ++ (turns.others ++ dues)) =
    sym (run_append (opening_state p.charter) (p.seen ++ turns.others) dues) ∙ ap (state_after p.charter) e in
    let parts = none_parts k turns.others turns.own (still_rest k p.seen q.seen (turn_extends (input_of k) p q turns) still) in (
      turns.others ++ dues,
      [],
      t,
      none_append k turns.others dues (none_of_both k turns.others parts.0 turns.apart) none,
      refl,
      seen_made (input_of k) t c p q turns dues is ∙ ap (λ x. x ++ Step.Call (input_of k) t c ∷ []) e,
      subst (λ s. HasRoom p.charter s c) at room,
      reply ∙ ap (λ s. reply_of s (input_of k) t c) at,
    )

-- what a turn replies
pub replies_fed : (n handed : ℕ) (c : Call) (r : Reply) (p q : PassView) → IsTrue (is_feed c) → Turn n handed (Some c) (T.Replied r) p q → IsFed r
replies_fed n handed c r p q is t =
    let m = makes_call p.charter _ n handed c t.turns.own r (no_drop c is) t.says.1 in
    let s : State = found n p q t.turns in
    subst IsFed (sym m.2.2) (fed_reply c is (state_from s m.0) n (moment_used s handed))

pub heard : (k handed : ℕ) (c : Call) (taken : Bool) (p q q2 : PassView) (u v w : ClockView) → IsTrue (is_feed c) → Asking k p q u v
    → ClockHanded v (handed ∷ []) w → Turn (input_of k) handed (Some c) (T.Replied (reply.Fed taken)) q q2 → Hears k c (Ok taken) p q2 u w
heard k handed c taken p q q2 u v w is f clock t =
    let n : ℕ = input_of k in
    let m = makes_call q.charter _ n handed c t.turns.own (reply.Fed taken) (no_drop c is) t.says.1 in
    let moves = takes n handed c q q2 t.turns m.0 v w (dues_none n _ _ m.0 m.1) m.2.1 clock in
    record {
      moves = moves_on n p q q2 u v w f.moves moves;
      says = λ still.
          let parts = still_between k p.seen q.seen q2.seen f.moves.extends moves.extends still in
          made_behind p.charter k n c p.seen q.seen q2.seen (reply.Fed taken) (asks_quiet k p q u v f parts.0)
          (subst (λ ch. IsMade ch k n c q.seen q2.seen (reply.Fed taken)) f.moves.stays.charter
          (made_by k _ c (reply.Fed taken) q q2 t.turns m.0 parts.1 (dues_none k _ _ m.0 m.1) m.2.1 m.2.0 m.2.2));
      cause = tt;
    }

pub heard_full : (k handed : ℕ) (c : Call) (p q q2 : PassView) (u v w : ClockView) → Asking k p q u v
    → ClockHanded v (handed ∷ []) w → Turn (input_of k) handed (Some c) T.JournalFull q q2 → Hears k c (Err P.JournalFull) p q2 u w
heard_full k handed c p q q2 u v w f clock t =
    let g = asks_full k handed c p q q2 u v w f clock t in
    let no_room : HasRoom q.charter (state_after q.charter q2.seen) c → ⊥ =
    subst (λ s. HasRoom q.charter s c → ⊥) (state_seen (input_of k) q q2 t.turns) t.says.1.1 in
    record {
      moves = g.moves;
      says = λ still. (
        asks_quiet k p q2 u w g still,
        (q2.seen, g.moves.extends, extends_same q2.seen, subst (λ ch. HasRoom ch (state_after ch q2.seen) c → ⊥) f.moves.stays.charter no_room),
      );
      cause = tt;
    }

-- a turn that refuses it as not ready finds it held up
held_up : (n handed : ℕ) (c : Call) (a : List Step) (p q : PassView) → IsSound c → Extends a p.seen → Turn n handed (Some c) T.NotYet p q
    → IsHeldUp p.charter c a q.seen
held_up n handed c a p q sound from t =
    let says = t.says.1 in
    let u : ℕ = moment_used (found n p q t.turns) handed in
    let same = state_seen n p q t.turns in (
      sound,
      (
        q.seen,
        extends_on a p.seen q.seen from (turn_extends n p q t.turns),
        extends_same q.seen,
        (
          u,
          subst (λ s. Refuses p.charter s u c T.NotYet []) same
              (dues_done (found n p q t.turns) u t.turns.own says.0, says.1, says.2),
        ),
      ),
    )

pub heard_stopped : (k handed : ℕ) (c : Call) (p q q2 : PassView) (u v w x : ClockView) → IsSound c → Asking k p q u v
    → ClockHanded v (handed ∷ []) w → Turn (input_of k) handed (Some c) T.NotYet q q2 → ClockStood w x → Rose w.stops x.stops
    → Hears k c (Err P.Stopped) p q2 u x
heard_stopped k handed c p q q2 u v w x sound f clock t stood rose =
    let g = asks_again k handed c p q q2 u v w f clock t in
    let h = asks_pause k p q2 u w x g stood in
    record {
      moves = h.moves;
      says = λ still. (
        asks_quiet k p q2 u x h still,
        subst (λ ch. IsHeldUp ch c p.seen q2.seen) f.moves.stays.charter (held_up (input_of k) handed c p.seen q q2 sound f.moves.extends t),
      );
      cause = rose_since u.stops w.stops x.stops g.moves.clock.stops rose;
    }

pub heard_short : (k handed : ℕ) (c : Call) (p q q2 : PassView) (u v w : ClockView) → Asking k p q u v
    → ClockHanded v (handed ∷ []) w → Turn (input_of k) handed (Some c) T.NoMemory q q2 → Hears k c (Err P.NoMemory) p q2 u w
heard_short k handed c p q q2 u v w f clock t =
    let g = asks_short k handed c p q q2 u v w f clock t in
    record { moves = g.moves; says = λ still. asks_quiet k p q2 u w g still; cause = tt }

-- no memory for the call itself
pub heard_none : (k : ℕ) (c : Call) (p : PassView) (v : ClockView) → Hears k c (Err P.NoMemory) p p v v
heard_none k c p v =
    record { moves = moves_same (input_of k) p v; says = λ still. quiet_same k p.seen; cause = tt }

-- it gives no ticket, and a turn with a call answers it
pub feed_never : (n handed : ℕ) (c : Call) (x : Turned) (p q : PassView) → IsTrue (is_feed c) → Turn n handed (Some c) x p q
    → ((m : ℕ) × (x ≡ T.Begun m)) ⊎ (x ≡ T.Nothing) → ⊥
feed_never n handed c x p q is turn (inl (m, at)) =
    let t : Turn n handed (Some c) (T.Begun m) p q = subst (λ y. Turn n handed (Some c) y p q) at turn in
    let made = makes_call p.charter _ n handed c t.turns.own (reply.Begun m) (no_drop c is) t.says in
    let s : State = found n p q t.turns in
    subst IsFed (sym made.2.2) (fed_reply c is (state_from s made.0) n (moment_used s handed))
feed_never n handed c x p q is turn (inr at) =
    let t : Turn n handed (Some c) T.Nothing p q = subst (λ y. Turn n handed (Some c) y p q) at turn in t.says.1
