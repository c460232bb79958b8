-- What a planned call does to a daemon whose turns are all its owner's.
use Rattle.std.proofs.Common.{◌≡◌, ◌⊎◌, inl, inr, ◌++◌, ◌&&◌, ℕ, List, [], ◌∷◌, Bool, true, false, refl, sym, ap, subst, ◌∙◌, append-nil, Option, Some, None, arith}
use Rattle.std.specs.Prelude.{IsTrue, IsFalse, max, min}
use Rattle.std.proofs.lemmas.Bool.{false≢true}
use Rattle.engine_text.specs.declared.call.Call.{Call}
use Rattle.engine_text.specs.declared.call.Call.TheVariants as call
use Rattle.engine_text.specs.declared.reply.Reply.{Reply}
use Rattle.engine_text.specs.declared.step.Step.{Step}
use Rattle.journal_lines.specs.Room.{HasRoom, has_places, places_of}
use Rattle.machine_model.specs.State.{State}
use Rattle.machine_model.specs.History.{Charter, DuesUntil, acts_by, after_step, has_steps, is_due, latest, moment_used, state_after, state_from}
use Rattle.session_model.specs.Pass.{PassView}
use Rattle.session_model.specs.Turning.{MakesAt, Turn, TurnSays}
use Rattle.session_model.specs.declared.turned.Turned.{Turned}
use Rattle.session_model.specs.declared.turned.Turned.TheVariants as T
use Rattle.daemon_core.specs.Storing.{pass_of}
use Rattle.engine_reboot.specs.Planning.{call_of, caller_of}
use Rattle.engine_reboot.specs.Following.{ComesBefore, FindsNoRoom, IsEnded, IsMadeBy, StepSays, how_far, moment_of}
use Rattle.engine_reboot.specs.declared.planning.Planned.{Planned}
use Rattle.engine_reboot.specs.declared.planning.Planned.TheVariants.{Drop, Kill, Start}

-- ---- a turn of who is alone

-- nobody else made a step
pub record TurnedAlone (k handed : ℕ) (c : Option Call) (result : Turned) (ch : Charter) (h : List Step) (q : PassView) : Type 0 where
  pub own : List Step
  pub seen : q ≡ pass_of ch (h ++ own)
  pub says : TurnSays ch (state_after ch h) k handed c result own

pub turned_alone : (k handed : ℕ) (c : Option Call) (result : Turned) (ch ch' : Charter) (h h' : List Step)
    → Turn k handed c result (pass_of ch h) (pass_of ch' h') → TurnedAlone k handed c result ch h (pass_of ch' h')
turned_alone k handed c result ch ch' h h' t =
    let none : t.turns.others ≡ [] = t.turns.alone refl in
    let here : h ++ t.turns.others ≡ h = ap (λ l. h ++ l) none ∙ append-nil h in
    let all : h' ≡ h ++ t.turns.own = t.turns.seen ∙ ap (λ l. l ++ t.turns.own) here in
    record {
      own = t.turns.own;
      seen = ap (λ x. pass_of x h') t.turns.stays.charter ∙ ap (pass_of ch) all;
      says = subst (λ l. TurnSays ch (state_after ch l) k handed c result t.turns.own) here t.says;
    }

-- ---- kills and starts are ready

both_true : (a b : Bool) → (a && b) ≡ true → b ≡ true
both_true true b h = h
both_true false b h = absurd (false≢true h)

-- behind all that acts nothing does
dues_end : (s : State) (u : ℕ) (dues : List Step) → DuesUntil s u dues → acts_by (state_from s dues) u ≡ false
dues_end s u [] h = h
dues_end s u (Step.Due ∷ dues) h = dues_end (after_step s Step.Due) u dues h.1
dues_end s u (Step.Call k t c ∷ dues) h = absurd h

-- so nothing is due, where steps can be made
none_due : (due steps : Bool) → (due && steps) ≡ false → steps ≡ true → due ≡ true → ⊥
none_due true true idle can is = absurd (false≢true (sym idle))
none_due true false idle can is = absurd (false≢true can)
none_due false steps idle can is = absurd (false≢true is)

-- it is ready in every state, and takes room
pub record IsAsked (c : Call) : Type 0 where
  pub steps : (ch : Charter) (s : State) → HasRoom ch s c → has_steps s ≡ true

never_waits : (ch : Charter) (s : State) (u : ℕ) (c : Call) (own : List Step) → IsAsked c → DuesUntil s u own → HasRoom ch (state_from s own) c
    → IsFalse true ⊎ IsTrue (is_due (state_from s own) u) → ⊥
never_waits ch s u c own asked until room (inl never) = absurd (false≢true (sym never))
never_waits ch s u c own asked until room (inr due) =
    none_due (is_due (state_from s own) u) (has_steps (state_from s own)) (dues_end s u own until) (asked.steps ch (state_from s own) room) due

-- ---- a call that is made behind what is due

made_by : (ch : Charter) (s : State) (handed u : ℕ) (p : Planned) (own dues : List Step) (r : Reply) → u ≡ moment_of s handed p
    → (DuesUntil s (moment_of s handed p) dues → ComesBefore s handed p dues) → DuesUntil s u dues
    → MakesAt ch s (caller_of p) u (call_of p) dues own r → IsMadeBy ch s handed p own
made_by ch s handed u p own dues r at before until (room, is, reply) = record {
  dues = dues;
  before = before (subst (λ m. DuesUntil s m dues) at until);
  room = room;
  steps_are = is ∙ ap (λ m. dues ++ Step.Call (caller_of p) m (call_of p) ∷ []) at;
}

-- ---- a kill, at the moment that counts of 0

clock_counts : (s : State) → moment_used s 0 ≡ s.clock
clock_counts s = omega arith

kill_asked : (id : List ℕ) → IsAsked (call.Kill id (record { number = 9 }))
kill_asked id = record { steps = λ ch s room. both_true (has_places ch.greatest s 1) (has_steps s) room }

pub kill_ended : (id : List ℕ) (result : Turned) (ch ch' : Charter) (h h' : List Step)
    → Turn 4294967294 0 (Some (call.Kill id (record { number = 9 }))) result (pass_of ch h) (pass_of ch' h') → IsEnded result
kill_ended id (T.Replied r) ch ch' h h' t = tt
kill_ended id (T.Begun n) ch ch' h h' t = tt
kill_ended id T.NotYet ch ch' h h' t =
    let a = turned_alone 4294967294 0 (Some (call.Kill id (record { number = 9 }))) T.NotYet ch ch' h h' t in
    let s = state_after ch h in
    never_waits ch s (moment_used s 0) (call.Kill id (record { number = 9 })) a.own (kill_asked id) a.says.1.0 a.says.1.1 a.says.1.2
kill_ended id T.Nothing ch ch' h h' t = t.says.1
kill_ended id T.JournalFull ch ch' h h' t = tt
kill_ended id T.NoMemory ch ch' h h' t = tt

pub kill_says : (id : List ℕ) (handed : ℕ) (result : Turned) (ch ch' : Charter) (h h' : List Step)
    → Turn 4294967294 0 (Some (call.Kill id (record { number = 9 }))) result (pass_of ch h) (pass_of ch' h')
    → StepSays handed (Kill id) (how_far result) (pass_of ch h) (pass_of ch' h')
kill_says id handed (T.Replied r) ch ch' h h' t =
    let a = turned_alone 4294967294 0 (Some (call.Kill id (record { number = 9 }))) (T.Replied r) ch ch' h h' t in
    let s = state_after ch h in
    let (dues, until, made) = a.says.1 in
    (a.own, made_by ch s handed (moment_used s 0) (Kill id) a.own dues r (clock_counts s) (λ x. x) until made, a.seen)
kill_says id handed (T.Begun n) ch ch' h h' t =
    let a = turned_alone 4294967294 0 (Some (call.Kill id (record { number = 9 }))) (T.Begun n) ch ch' h h' t in
    let s = state_after ch h in
    let (dues, until, made) = a.says in
    (a.own, made_by ch s handed (moment_used s 0) (Kill id) a.own dues (Reply.Begun n) (clock_counts s) (λ x. x) until made, a.seen)
kill_says id handed T.NotYet ch ch' h h' t = absurd (kill_ended id T.NotYet ch ch' h h' t)
kill_says id handed T.Nothing ch ch' h h' t = absurd (kill_ended id T.Nothing ch ch' h h' t)
kill_says id handed T.JournalFull ch ch' h h' t =
    let a = turned_alone 4294967294 0 (Some (call.Kill id (record { number = 9 }))) T.JournalFull ch ch' h h' t in
    let s = state_after ch h in
    (a.own, subst (λ m. DuesUntil s m a.own) (clock_counts s) a.says.1.0, a.says.1.1)
kill_says id handed T.NoMemory ch ch' h h' t = tt

-- ---- a start, at the one that counts of the handed one

start_asked : (id : List ℕ) → IsAsked (call.Start id)
start_asked id = record { steps = λ ch s room. both_true (has_places ch.greatest s 1) (has_steps s) room }

pub start_ended : (id : List ℕ) (handed : ℕ) (result : Turned) (ch ch' : Charter) (h h' : List Step)
    → Turn 4294967294 handed (Some (call.Start id)) result (pass_of ch h) (pass_of ch' h') → IsEnded result
start_ended id handed (T.Replied r) ch ch' h h' t = tt
start_ended id handed (T.Begun n) ch ch' h h' t = tt
start_ended id handed T.NotYet ch ch' h h' t =
    let a = turned_alone 4294967294 handed (Some (call.Start id)) T.NotYet ch ch' h h' t in
    let s = state_after ch h in
    never_waits ch s (moment_used s handed) (call.Start id) a.own (start_asked id) a.says.1.0 a.says.1.1 a.says.1.2
start_ended id handed T.Nothing ch ch' h h' t = t.says.1
start_ended id handed T.JournalFull ch ch' h h' t = tt
start_ended id handed T.NoMemory ch ch' h h' t = tt

pub start_says : (id : List ℕ) (handed : ℕ) (result : Turned) (ch ch' : Charter) (h h' : List Step)
    → Turn 4294967294 handed (Some (call.Start id)) result (pass_of ch h) (pass_of ch' h')
    → StepSays handed (Start id) (how_far result) (pass_of ch h) (pass_of ch' h')
start_says id handed (T.Replied r) ch ch' h h' t =
    let a = turned_alone 4294967294 handed (Some (call.Start id)) (T.Replied r) ch ch' h h' t in
    let s = state_after ch h in
    let (dues, until, made) = a.says.1 in
    (a.own, made_by ch s handed (moment_used s handed) (Start id) a.own dues r refl (λ x. x) until made, a.seen)
start_says id handed (T.Begun n) ch ch' h h' t =
    let a = turned_alone 4294967294 handed (Some (call.Start id)) (T.Begun n) ch ch' h h' t in
    let s = state_after ch h in
    let (dues, until, made) = a.says in
    (a.own, made_by ch s handed (moment_used s handed) (Start id) a.own dues (Reply.Begun n) refl (λ x. x) until made, a.seen)
start_says id handed T.NotYet ch ch' h h' t = absurd (start_ended id handed T.NotYet ch ch' h h' t)
start_says id handed T.Nothing ch ch' h h' t = absurd (start_ended id handed T.Nothing ch ch' h h' t)
start_says id handed T.JournalFull ch ch' h h' t =
    let a = turned_alone 4294967294 handed (Some (call.Start id)) T.JournalFull ch ch' h h' t in
    (a.own, a.says.1.0, a.says.1.1)
start_says id handed T.NoMemory ch ch' h h' t = tt

-- ---- a drop

pub drop_made : (ch : Charter) (h : List Step) (handed ticket connection moment : ℕ) (q : PassView) → moment ≡ (state_after ch h).clock
    → q ≡ pass_of ch (h ++ Step.Call connection moment (call.Drop ticket) ∷ [])
    → (steps : List Step) × IsMadeBy ch (state_after ch h) handed (Drop ticket connection) steps × (q ≡ pass_of ch (h ++ steps))
drop_made ch h handed ticket connection moment q at is = (
  Step.Call connection moment (call.Drop ticket) ∷ [],
  record {
    dues = [];
    before = refl;
    room = refl;
    steps_are = ap (λ m. Step.Call connection m (call.Drop ticket) ∷ []) at;
  },
  is,
)
