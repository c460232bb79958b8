-- Waiting for a ticket goes on, and ends.
use Rattle.std.proofs.Common.{◌≡◌, ◌⊎◌, inl, inr, ◌==◌, ◌||◌, ℕ, List, [], ◌∷◌, ◌++◌, cond, refl, sym, ◌∙◌, ap, subst, append_assoc, append-nil, arith, Bool, true, false, Some}
use Rattle.std.specs.Prelude.{IsTrue}
use Rattle.std.specs.List.{filter}
use Rattle.std.proofs.lemmas.Bool.{false≢true}
use Rattle.std.proofs.lemmas.List.Elements.{filter-append}
use Rattle.engine_ports.specs.Rose.{Rose}
use Rattle.engine_ports.specs.Sink.{SinkView, SinkTook}
use Rattle.engine_ports.specs.Clock.{ClockView, ClockHanded, ClockStood}
use Rattle.engine_ports.proofs.PortLemmas.{clock_none, clock_on, clock_stood, rose_since}
use Rattle.engine_text.specs.declared.call.Call.{Call}
use Rattle.engine_text.specs.declared.call.Call.TheVariants.{Take, Drop}
use Rattle.engine_text.specs.declared.reply.Reply.{Reply}
use Rattle.engine_text.specs.declared.reply.Reply.TheVariants as reply
use Rattle.engine_text.specs.declared.step.Step.{Step}
use Rattle.machine_model.specs.State.{State}
use Rattle.machine_model.specs.Ready.{is_ready}
use Rattle.machine_model.specs.History.{Charter, IsLegal, AreLawful, HasNone, own_calls, input_of, state_after, state_from, opening_state, reply_of, moment_used}
use Rattle.machine_model.proofs.Histories.{lawful_back}
use Rattle.session_model.specs.declared.turned.Turned.{Turned}
use Rattle.session_model.specs.declared.turned.Turned.TheVariants as T
use Rattle.session_model.specs.declared.turned.Awaited.{Awaited}
use Rattle.session_model.specs.declared.turned.Awaited.TheVariants as A
use Rattle.session_model.specs.Pass.{PassView}
use Rattle.session_model.specs.Turning.{Turn, Makes, HasBegun, ends_ticket, found}
use Rattle.session_model.specs.Exchange.{IsQuiet, IsMade, IsMadeAt}
use Rattle.session_model.specs.Progress.{Moves}
use Rattle.session_model.proofs.HistoryLemmas.{run_append, quiet_same, quiet_on, made_behind, made_behind_at, dues_none, some_none}
use Rattle.session_model.proofs.DueLemmas.{dues_clock, some_clock}
use Rattle.session_model.proofs.AddsLemmas.{turn_adds}
use Rattle.session_model.proofs.TurnLemmas.{moves_same, moves_on, makes_call, seen_made, turn_made, turn_made_at, turn_opens, turn_quiet, turn_rests, state_made, clock_alone}
use Rattle.daemon_core.specs.Whole.{IsAnswer}
use Rattle.daemon_core.proofs.CallLemmas.{call_at, have_replies, take_answers}
use Rattle.attach_hub.specs.Waiting.{AwaitSays, AwaitsBy, IsDropped}

-- ---- a ticket that was begun

abbrev IsCons : List Step → Type 0
IsCons [] = ⊥
IsCons (x ∷ xs) = Unit {0}

not_own : (x y : Bool) (s : Step) (ys : List Step) → cond (x || y) (s ∷ ys) ys ≡ [] → (x ≡ false) × (ys ≡ [])
not_own true y s ys h = absurd (subst IsCons h tt)
not_own false true s ys h = absurd (subst IsCons h tt)
not_own false false s ys h = (refl, h)

-- who makes no call ends none
unended : (k n : ℕ) (xs : List Step) → HasNone k xs → filter (ends_ticket k n) xs ≡ []
unended k n [] h = refl
unended k n (Step.Due ∷ xs) h = unended k n xs h
unended k n (Step.Call j t c ∷ xs) h =
    let p = not_own (j == k) (j == input_of k) (Step.Call j t c) (own_calls k xs) h in rw p.0 (unended k n xs p.1)

-- it is begun by the call that gave it
pub begun_by : (ch : Charter) (k n : ℕ) (c : Call) (a b : List Step) → IsMade ch k k c a b (reply.Begun n) → HasBegun ch k n b
begun_by ch k n c a b (before, behind, t, none, none', at, room, is) =
    (a ++ before, behind, t, c, unended k n behind none', at, sym is)

begun_on : (ch : Charter) (k n : ℕ) (a b : List Step) → HasBegun ch k n a → IsQuiet k a b → HasBegun ch k n b
begun_on ch k n a b (before, behind, t, c, none, is, begun) (others, quiet, at) = (
  before,
  behind ++ others,
  t,
  c,
  filter-append (ends_ticket k n) behind others ∙ ap (λ x. x ++ filter (ends_ticket k n) others) none ∙ unended k n others quiet,
  at ∙ ap (λ x. x ++ others) is ∙ append_assoc before (Step.Call k t c ∷ behind) others,
  begun,
)

-- ---- the connection makes no call

pub record Rests (k : ℕ) (p q : PassView) (v v' : ClockView) : Type 0 where
  pub moves : Moves k p q v v'
  pub quiet : IsQuiet k p.seen q.seen

pub rests_same : (k : ℕ) (p : PassView) (v : ClockView) → Rests k p p v v
rests_same k p v = record { moves = moves_same k p v; quiet = quiet_same k p.seen }

unfoldable pub rests_on : (k : ℕ) (p q r : PassView) (u v w : ClockView) → Rests k p q u v → Rests k q r v w → Rests k p r u w
rests_on k p q r u v w f g = record { moves = moves_on k p q r u v w f.moves g.moves; quiet = quiet_on k p.seen q.seen r.seen f.quiet g.quiet }

-- nor does the clock in a pause
pub rests_pause : (k : ℕ) (p q : PassView) (u v w : ClockView) → Rests k p q u v → ClockStood v w → Rests k p q u w
rests_pause k p q u v w f stood = record {
  moves = record {
    extends = f.moves.extends;
    stays = f.moves.stays;
    adds = f.moves.adds;
    handed = f.moves.handed;
    clock = subst (λ ms. ClockHanded u ms w) (append-nil f.moves.handed) (clock_on u v w f.moves.handed [] f.moves.clock (clock_stood v w stood));
    within = f.moves.within;
  };
  quiet = f.quiet;
}

pub begun_rests : (k n : ℕ) (p q : PassView) (v w : ClockView) → HasBegun p.charter k n p.seen → Rests k p q v w → HasBegun q.charter k n q.seen
begun_rests k n p q v w begun rests =
    subst (λ ch. HasBegun ch k n q.seen) (sym rests.moves.stays.charter) (begun_on p.charter k n p.seen q.seen begun rests.quiet)

-- ---- what is told of pass and clock

pub record WaitsSo (k n : ℕ) (result : Awaited) (p q : PassView) (v v' : ClockView) : Type 0 where
  pub moves : Moves k p q v v'
  pub says : AwaitSays p.charter k n p.seen q.seen result moves.handed v v'

pub record GivesUp (k n : ℕ) (p q : PassView) (v : ClockView) : Type 0 where
  pub made : IsDropped p.charter k n p.seen q.seen
  pub moves : Moves k p q v v

-- ---- what a turn answers to a take

pub not_yet : (k handed n : ℕ) (p q : PassView) (v w : ClockView) → IsTrue p.pair → ClockHanded v (handed ∷ []) w
    → Turn k handed (Some (Take n)) T.NotYet p q → Rests k p q v w
not_yet k handed n p q v w pair clock t =
    let none = dues_none k _ _ t.turns.own t.says.1.0 in record {
      moves = turn_rests k handed p q t.turns v w pair none (dues_clock _ _ t.turns.own t.says.1.0) clock;
      quiet = turn_quiet k p q t.turns pair none;
    }

pub no_memory : (k handed n : ℕ) (p q : PassView) (v w : ClockView) → IsTrue p.pair → ClockHanded v (handed ∷ []) w
    → Turn k handed (Some (Take n)) T.NoMemory p q → Rests k p q v w
no_memory k handed n p q v w pair clock t =
    let none = some_none k _ _ t.turns.own t.says.1 in record {
      moves = turn_rests k handed p q t.turns v w pair none (some_clock _ _ t.turns.own t.says.1) clock;
      quiet = turn_quiet k p q t.turns pair none;
    }

-- a take is answered whole, since it was lawful
made_whole : (k handed n : ℕ) (r : Reply) (x : Turned) (p q : PassView) (turn : Turn k handed (Some (Take n)) x p q)
    → Makes p.charter (found k p q turn.turns) k handed (Take n) turn.turns.own r → IsAnswer r
made_whole k handed n r x p q t makes =
    let m = makes_call p.charter _ k handed (Take n) t.turns.own r refl makes in
    let u : ℕ = moment_used (found k p q t.turns) handed in
    let front : List Step = p.seen ++ t.turns.others ++ m.0 in
    let s : State = state_after p.charter front in
    let last : List Step = Step.Call k u (Take n) ∷ [] in
    let at : q.seen ≡ front ++ last = seen_made k u (Take n) p q t.turns m.0 m.2.1 in
    let legal : IsLegal p.charter (front ++ last) =
    subst (IsLegal p.charter) at (subst (λ ch. IsLegal ch q.seen) t.turns.stays.charter t.turns.legal) in
    let lawful : AreLawful s last = lawful_back (opening_state p.charter) front last legal.1 in
    let ready : IsTrue (is_ready s (Take n)) = lawful.0.1.2 in
    let same : state_from (found k p q t.turns) m.0 ≡ s = sym (run_append (opening_state p.charter) (p.seen ++ t.turns.others) m.0) in
    subst IsAnswer (sym (m.2.2 ∙ ap (λ (x : State). reply_of x k u (Take n)) same))
    (take_answers n s (have_replies p.charter front) ready k u)

take_whole : (k handed n : ℕ) (r : Reply) (p q : PassView) → Turn k handed (Some (Take n)) (T.Replied r) p q → IsAnswer r
take_whole k handed n r p q t = made_whole k handed n r (T.Replied r) p q t t.says.1

begun_whole : (k handed n m : ℕ) (p q : PassView) → Turn k handed (Some (Take n)) (T.Begun m) p q → IsAnswer (reply.Begun m)
begun_whole k handed n m p q t = made_whole k handed n (reply.Begun m) (T.Begun m) p q t t.says

pub taken : (k handed n : ℕ) (r : Reply) (p q q2 : PassView) (u v w : ClockView) → IsTrue q.pair → Rests k p q u v → ClockHanded v (handed ∷ []) w
    → Turn k handed (Some (Take n)) (T.Replied r) q q2 → WaitsSo k n (A.Replied r) p q2 u w
unfolding moves_on turn_opens
taken k handed n r p q q2 u v w pair rests clock t =
    let m = makes_call q.charter _ k handed (Take n) t.turns.own r refl t.says.1 in
    let none = dues_none k _ _ m.0 m.1 in
    record {
      moves = moves_on k p q q2 u v w rests.moves (turn_opens k handed (Take n) q q2 t.turns m.0 v w pair none m.2.1 (call_at (Take n) k) clock);
      says = (
        rests.moves.handed,
        handed,
        refl,
        made_behind_at p.charter k handed (Take n) p.seen q.seen q2.seen r rests.quiet
            (subst (λ ch. IsMadeAt ch k handed (Take n) q.seen q2.seen r) rests.moves.stays.charter
            (turn_made_at k handed (Take n) r q q2 t.turns m.0 pair none m.2.1 m.2.0 m.2.2)),
        take_whole k handed n r q q2 t,
      );
    }

-- it gives no ticket, and has room
pub take_never : (k handed n : ℕ) (x : Turned) (p q : PassView) → Turn k handed (Some (Take n)) x p q
    → ((m : ℕ) × (x ≡ T.Begun m)) ⊎ ((x ≡ T.Nothing) ⊎ (x ≡ T.JournalFull)) → ⊥
take_never k handed n x p q turn (inl (m, is)) =
    let t : Turn k handed (Some (Take n)) (T.Begun m) p q = subst (λ y. Turn k handed (Some (Take n)) y p q) is turn in
    begun_whole k handed n m p q t
take_never k handed n x p q turn (inr (inl is)) =
    let t : Turn k handed (Some (Take n)) T.Nothing p q = subst (λ y. Turn k handed (Some (Take n)) y p q) is turn in t.says.1
take_never k handed n x p q turn (inr (inr is)) =
    let t : Turn k handed (Some (Take n)) T.JournalFull p q = subst (λ y. Turn k handed (Some (Take n)) y p q) is turn in t.says.1.1 refl

-- ---- a drop

pub drop_says : (k n handed : ℕ) (r : Reply) (p q : PassView) (v : ClockView) → IsTrue p.pair → Turn k handed (Some (Drop n)) (T.Replied r) p q
    → GivesUp k n p q v
drop_says k n handed r p q v pair t =
    let s : State = found k p q t.turns in
    let own : t.turns.own ≡ Step.Call k s.clock (Drop n) ∷ [] = t.says.1.1 in
    let last : List Step = Step.Call k s.clock (Drop n) ∷ [] in
    let at : q.seen ≡ p.seen ++ t.turns.others ++ last = t.turns.seen ∙ ap (λ x. p.seen ++ t.turns.others ++ x) own in
    record {
      made = (r, turn_made k s.clock (Drop n) r p q t.turns [] pair refl own t.says.1.0 t.says.1.2);
      moves = record {
        extends = (t.turns.others ++ last, at ∙ append_assoc p.seen t.turns.others last);
        stays = t.turns.stays;
        adds = turn_adds k p q t.turns;
        handed = [];
        clock = clock_none v;
        within = λ alone.
            let e = ap (λ x. (state_after p.charter x).clock) at
            ∙ ap (λ (x : State). x.clock) (state_made p.charter (p.seen ++ t.turns.others) (Step.Call k s.clock (Drop n)))
            ∙ call_at (Drop n) k (state_after p.charter (p.seen ++ t.turns.others)) s.clock in
            let d = clock_alone k p q t.turns alone in omega (arith, e, d);
      };
    }

pub drop_never : (k handed n : ℕ) (x : Turned) (p q : PassView) → Turn k handed (Some (Drop n)) x p q
    → ((m : ℕ) × (x ≡ T.Begun m)) ⊎ ((x ≡ T.NotYet) ⊎ ((x ≡ T.Nothing) ⊎ ((x ≡ T.JournalFull) ⊎ (x ≡ T.NoMemory)))) → ⊥
drop_never k handed n x p q turn (inl (m, is)) =
    let t : Turn k handed (Some (Drop n)) (T.Begun m) p q = subst (λ y. Turn k handed (Some (Drop n)) y p q) is turn in
    let same : reply.Begun m ≡ reply.Dropped = t.says.2 in cc
drop_never k handed n x p q turn (inr (inl is)) =
    let t : Turn k handed (Some (Drop n)) T.NotYet p q = subst (λ y. Turn k handed (Some (Drop n)) y p q) is turn in false≢true (sym t.says.0)
drop_never k handed n x p q turn (inr (inr (inl is))) =
    let t : Turn k handed (Some (Drop n)) T.Nothing p q = subst (λ y. Turn k handed (Some (Drop n)) y p q) is turn in false≢true (sym t.says.0)
drop_never k handed n x p q turn (inr (inr (inr (inl is)))) =
    let t : Turn k handed (Some (Drop n)) T.JournalFull p q = subst (λ y. Turn k handed (Some (Drop n)) y p q) is turn in false≢true (sym t.says.0)
drop_never k handed n x p q turn (inr (inr (inr (inr is)))) =
    let t : Turn k handed (Some (Drop n)) T.NoMemory p q = subst (λ y. Turn k handed (Some (Drop n)) y p q) is turn in false≢true (sym t.says.0)

dropped : (k n : ℕ) (p q r : PassView) (u v w : ClockView) → Rests k p q u v → GivesUp k n q r w → IsDropped p.charter k n p.seen r.seen
dropped k n p q r u v w rests d = (
  d.made.0,
  made_behind p.charter k k (Drop n) p.seen q.seen r.seen d.made.0 rests.quiet
      (subst (λ ch. IsMade ch k k (Drop n) q.seen r.seen d.made.0) rests.moves.stays.charter d.made.1),
)

pub stopped : (k n : ℕ) (p q r : PassView) (u v w : ClockView) → Rests k p q u v → ClockStood v w → Rose v.stops w.stops → GivesUp k n q r w
    → WaitsSo k n A.Stopped p r u w
stopped k n p q r u v w rests stood rose d = record {
  moves = moves_on k p q r u w w (rests_pause k p q u v w rests stood).moves d.moves;
  says = (dropped k n p q r u v w rests d, rose_since u.stops v.stops w.stops rests.moves.clock.stops rose);
}

pub given_up : (k n : ℕ) (p q r : PassView) (u v : ClockView) → Rests k p q u v → GivesUp k n q r v → WaitsSo k n A.NoMemory p r u v
given_up k n p q r u v rests d = record {
  moves = moves_on k p q r u v v rests.moves d.moves;
  says = dropped k n p q r u v v rests d;
}

-- the peer was gone
pub unread : (k n : ℕ) (p q r : PassView) (u v : ClockView) → Rests k p q u v → GivesUp k n q r v → WaitsSo k n A.WriteFault p r u v
unread k n p q r u v rests d = record { moves = moves_on k p q r u v v rests.moves d.moves; says = dropped k n p q r u v v rests d }

pub unread_by : (u v w : SinkView) → v ≡ u → SinkTook v [] w → Rose v.faults w.faults → AwaitsBy A.WriteFault u w
unread_by u v w same took rose = subst (λ x. SinkTook x [] w × Rose x.faults w.faults) same (took, rose)
