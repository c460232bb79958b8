-- What a daemon's turn does to its whole history.
use Rattle.std.proofs.Common.{◌≡◌, ◌≤◌, ◌==◌, ℕ, List, [], ◌∷◌, ◌++◌, refl, subst, sym, ◌∙◌, ap, append-nil, append_assoc, true, false, Option, Some, None, arith, Result, Ok, Err, IfOk}
use Rattle.std.specs.Prelude.{IsFalse, OnErr}
use Rattle.std.proofs.lemmas.Bool.{false≢true}
use Rattle.std.specs.List.{filter}
use Rattle.std.proofs.lemmas.List.Elements.{filter-append}
use Rattle.engine_text.specs.declared.call.Call.{Call}
use Rattle.engine_text.specs.declared.call.Call.TheVariants as call
use Rattle.engine_text.specs.declared.memory.NoMemory.{NoMemory}
use Rattle.engine_text.specs.declared.reply.Reply.{Reply}
use Rattle.engine_text.specs.declared.reply.Reply.TheVariants as reply
use Rattle.engine_text.specs.declared.step.Step.{Step}
use Rattle.machine_model.specs.State.{State}
use Rattle.journal_lines.specs.Room.{HasRoom, has_room}
use Rattle.machine_model.specs.History.{Charter, IsLegal, IsLawful, AreLawful, state_after, state_from, moment_used, latest, greatest_moment, acts_by, calls_of, bears, DuesUntil, SomeDues, reply_of, is_drop}
use Rattle.machine_model.proofs.Histories.{run_append, legal_append}
use Rattle.session_model.specs.declared.turned.Turned.{Turned}
use Rattle.session_model.specs.declared.turned.Turned.TheVariants as T
use Rattle.session_model.specs.Turning.{Turn, TurnSays, Makes, MakesAt, GivesNoTicket, IsNotReady}
use Rattle.daemon_core.specs.Keeping.{history_of}
use Rattle.daemon_core.specs.Passing.{charter}
use Rattle.daemon_core.specs.Telling.{IsTold}
use Rattle.daemon_core.specs.declared.stored.Stored.{Stored}
use Rattle.daemon_core.specs.declared.daemon.Daemon.{Daemon}
use Rattle.daemon_core.specs.Storing.{pass_of, is_call, Adds, AddsDues, HoldsTicket, Ends, turned_by, drop_of, is_open, charter_for, moment_of}
use Rattle.daemon_core.proofs.CallLemmas.{waits}
use Rattle.daemon_core.proofs.CountLemmas.{steps_counted}
use Rattle.daemon_core.proofs.RingLemmas.{entries_held, ring_held}
use Rattle.daemon_core.proofs.TicketLemmas.{none_dropped}
use Rattle.daemon_core.proofs.DueLemmas.{all_made, dues_calls, dues_own}

-- ---- a daemon, by what it keeps

-- of the machine's state and the steps
pub record Stands (ch : Charter) (s : State) (h : List Step) : Type 0 where
  pub is : s ≡ state_after ch h
  pub legal : IsLegal ch h

pub as_stored : (d : Stored) (x : State) → d.machine.memory.state ≡ x → d ≡ record d { machine = record d.machine { memory = record d.machine.memory { state = x } } }
as_stored d x e = ap (λ y. record d { machine = record d.machine { memory = record d.machine.memory { state = y } } }) e

-- its ring and its journal go with its history
pub told_of : (d : Daemon) → IsTold (charter d) d.stored
told_of d =
    let is = ap (λ (x : Stored). x.machine.memory.state) d.state in
    record {
      state = is;
      ring = ring_held (charter d) d.stored d.told;
      entries = entries_held (charter d) d.stored d.told;
      steps = steps_counted (charter d) (history_of d.stored.journal) d.legal ∙ sym (ap (λ (y : State). y.step_count) is);
    }

pub stands : (d : Daemon) → Stands (charter d) d.stored.machine.memory.state (history_of d.stored.journal)
stands d = record { is = ap (λ (x : Stored). x.machine.memory.state) d.state; legal = d.legal }

pub stands_more : (ch : Charter) (s s' : State) (h h' more : List Step) → Stands ch s h → s' ≡ state_from s more → h' ≡ h ++ more
    → AreLawful s more → Stands ch s' h'
stands_more ch s s' h h' more st made at lawful = record {
  is = made ∙ ap (λ y. state_from y more) st.is ∙ sym (run_append ch h more) ∙ ap (state_after ch) (sym at);
  legal = subst (IsLegal ch) (sym at) (legal_append ch h more st.legal (subst (λ y. AreLawful y more) st.is lawful));
}

-- what stood stands behind due steps
pub stands_due : (ch : Charter) (u : ℕ) (s s' : State) (h h' : List Step) → Stands ch s h → AddsDues u s s' h h' → Stands ch s' h'
stands_due ch u s s' h h' st made = stands_more ch s s' h h' made.dues st made.state made.steps_are made.lawful

-- and behind a call, whether it was made or not
pub stands_on : (r : Result Reply NoMemory) (ch : Charter) (s s' : State) (h h' : List Step) (k t : ℕ) (c : Call)
    → Stands ch s h → IsLawful s (Step.Call k t c) → IfOk r (λ x. Adds k t c x s s' h h')
    → OnErr r (s' ≡ s) → OnErr r (h' ≡ h) → Stands ch s' h'
stands_on (Ok x) ch s s' h h' k t c st lawful made _ _ =
    stands_more ch s s' h h' (Step.Call k t c ∷ []) st made.state made.steps_are (lawful, tt)
stands_on (Err x) ch s s' h h' k t c st lawful _ same same' = record {
  is = same ∙ st.is ∙ ap (state_after ch) (sym same');
  legal = subst (IsLegal ch) (sym same') st.legal;
}

-- ---- a call behind what is due

-- only the greatest number of entries counts
pub room_same : (ch : Charter) (s : State) (c : Call) → has_room (charter_for ch.greatest) s c ≡ has_room ch s c
room_same ch s (call.Take n) = refl
room_same ch s (call.Drop n) = refl
room_same ch s c = refl

ends_by : (ch : Charter) (s : State) (h h' : List Step) (k t : ℕ) (c : Call) (r : Reply) → HasRoom ch s c
    → h' ≡ h ++ Step.Call k t c ∷ [] → r ≡ reply_of s k t c → Ends ch s k t c (turned_by r) h h'
ends_by ch s h h' k t c (reply.Begun n) room at is = (room, at, is)
ends_by ch s h h' k t c r room at is = (tt, room, at, is)

-- the call was made
pub ends_made : (ch : Charter) (s s' : State) (h h' : List Step) (k t : ℕ) (c : Call) (r : Reply)
    → HasRoom ch s c → Adds k t c r s s' h h' → Ends ch s k t c (turned_by r) h h'
ends_made ch s s' h h' k t c r room made = ends_by ch s h h' k t c r room made.steps_are made.reply

-- it wasn't ready
pub ends_waiting : (ch : Charter) (s : State) (h : List Step) (k t : ℕ) (c : Call) → HasRoom ch s c → is_open s t c ≡ false
    → Ends ch s k t c T.NotYet h h
ends_waiting ch s h k t c room closed = (room, waits s t c closed, refl)

-- there was no room
pub ends_full : (ch : Charter) (s : State) (h : List Step) (k t : ℕ) (c : Call) → has_room ch s c ≡ false
    → Ends ch s k t c T.JournalFull h h
ends_full ch s h k t c none = (λ room. false≢true (sym none ∙ room), refl)

-- ---- a turn by its own steps

-- of which just those of its number are calls
pub adds : (ch : Charter) (h h' own : List Step) (k handed : ℕ) (c : Option Call) (result : Turned) → IsLegal ch h' → h' ≡ h ++ own
    → filter is_call own ≡ calls_of k own → TurnSays ch (state_after ch h) k handed c result own
    → Turn k handed c result (pass_of ch h) (pass_of ch h')
adds ch h h' own k handed c result legal at calls says = record {
  turns = record {
    others = [];
    own = own;
    seen = at ∙ ap (λ x. x ++ own) (sym (append-nil h));
    apart = refl;
    strangers = λ _. refl;
    alone = λ _. refl;
    legal = legal;
    own_calls = ap (filter is_call) at ∙ filter-append is_call h own ∙ ap (λ x. filter is_call h ++ x) calls;
    looks = omega arith;
    looked = λ e. absurd (false≢true (sym e));
    stays = record { joined_calls = refl; number = refl; pair = refl; charter = refl; alone = refl; home = refl };
  };
  says = subst (λ x. TurnSays ch (state_after ch x) k handed c result own) (sym (append-nil h)) says;
}

own_call : (k t : ℕ) (c : Call) → calls_of k (Step.Call k t c ∷ []) ≡ Step.Call k t c ∷ []
own_call k t c = let e : (k == k) ≡ true = grind arith in rw e refl

own_behind : (k t : ℕ) (c : Call) (ds : List Step) → filter is_call ds ≡ [] → calls_of k ds ≡ []
    → filter is_call (ds ++ Step.Call k t c ∷ []) ≡ calls_of k (ds ++ Step.Call k t c ∷ [])
own_behind k t c ds none none' =
    let last : List Step = Step.Call k t c ∷ [] in
    filter-append is_call ds last ∙ ap (λ x. x ++ last) none ∙ sym (own_call k t c)
    ∙ sym (ap (λ x. x ++ calls_of k last) none') ∙ sym (filter-append (bears k) ds last)

-- due steps alone were made
pub adds_due : (ch : Charter) (u : ℕ) (s s' : State) (h h' : List Step) (k handed : ℕ) (c : Option Call) (result : Turned)
    → Stands ch s h → (made : AddsDues u s s' h h') → TurnSays ch s k handed c result made.dues
    → Turn k handed c result (pass_of ch h) (pass_of ch h')
adds_due ch u s s' h h' k handed c result st made says =
    adds ch h h' made.dues k handed c result (stands_due ch u s s' h h' st made).legal made.steps_are
    (dues_calls u s s' h h' made ∙ sym (dues_own k u s s' h h' made))
    (subst (λ y. TurnSays ch y k handed c result made.dues) st.is says)

-- ---- the turns

-- there was no call
pub rested : (ch : Charter) (u : ℕ) (s s' : State) (h h' : List Step) (k handed : ℕ) → Stands ch s h → moment_used s handed ≡ u
    → AddsDues u s s' h h' → acts_by s' u ≡ false → Turn k handed None T.Nothing (pass_of ch h) (pass_of ch h')
rested ch u s s' h h' k handed st at made idle =
    adds_due ch u s s' h h' k handed None T.Nothing st made
    (subst (λ v. DuesUntil s v made.dues) (sym at) (all_made u s s' h h' made idle))

says_short : (ch : Charter) (s : State) (k handed : ℕ) (c : Option Call) (own : List Step) → drop_of c ≡ None
    → SomeDues s (moment_used s handed) own → TurnSays ch s k handed c T.NoMemory own
says_short ch s k handed None own kind some = some
says_short ch s k handed (Some c) own kind some = (none_dropped c kind, some)

-- there was no memory
pub short : (ch : Charter) (u : ℕ) (s s' : State) (h h' : List Step) (k handed : ℕ) (c : Option Call) → Stands ch s h → drop_of c ≡ None
    → moment_used s handed ≡ u → AddsDues u s s' h h' → Turn k handed c T.NoMemory (pass_of ch h) (pass_of ch h')
short ch u s s' h h' k handed c st kind at made =
    adds_due ch u s s' h h' k handed c T.NoMemory st made
    (says_short ch s k handed c made.dues kind (subst (λ v. SomeDues s v made.dues) (sym at) made.some))

makes_of : (ch : Charter) (s : State) (k handed : ℕ) (c : Call) (own : List Step) (r : Reply) → IsFalse (is_drop c)
    → ((dues : List Step) × DuesUntil s (moment_used s handed) dues × MakesAt ch s k (moment_used s handed) c dues own r)
    → Makes ch s k handed c own r
makes_of ch s k handed (call.Drop n) own r kind m = absurd (false≢true (sym kind))
makes_of ch s k handed c own r kind m = m

-- the call was made behind the due steps
answered_by : (ch : Charter) (u : ℕ) (s s1 : State) (h h1 h2 : List Step) (k handed : ℕ) (c : Call) (r : Reply) (result : Turned)
    → Stands ch s h → IsFalse (is_drop c) → moment_used s handed ≡ u → AddsDues u s s1 h h1 → acts_by s1 u ≡ false
    → IsLegal ch h2 → HasRoom ch s1 c → h2 ≡ h1 ++ Step.Call k u c ∷ [] → r ≡ reply_of s1 k u c
    → ((x : State) (own : List Step) → Makes ch x k handed c own r → TurnSays ch x k handed (Some c) result own)
    → Turn k handed (Some c) result (pass_of ch h) (pass_of ch h2)
answered_by ch u s s1 h h1 h2 k handed c r result st kind at made idle legal room at' is says =
    let last : List Step = Step.Call k u c ∷ [] in
    let own : List Step = made.dues ++ last in
    let behind : h2 ≡ h ++ own = at' ∙ ap (λ x. x ++ last) made.steps_are ∙ append_assoc h made.dues last in
    let reply : r ≡ reply_of (state_from s made.dues) k u c = is ∙ ap (λ y. reply_of y k u c) made.state in
    adds ch h h2 own k handed (Some c) result legal behind
    (own_behind k u c made.dues (dues_calls u s s1 h h1 made) (dues_own k u s s1 h h1 made))
    (subst (λ y. TurnSays ch y k handed (Some c) result own) st.is
    (says s own (makes_of ch s k handed c own r kind
    (subst (λ v. (ds : List Step) × DuesUntil s v ds × MakesAt ch s k v c ds own r) (sym at)
    (made.dues, all_made u s s1 h h1 made idle, (subst (λ y. HasRoom ch y c) made.state room, refl, reply))))))

-- the call was answered behind the due steps
pub answered : (ch : Charter) (u : ℕ) (s s1 : State) (h h1 h2 : List Step) (k handed : ℕ) (c : Call) (result : Turned)
    → Stands ch s h → IsFalse (is_drop c) → moment_used s handed ≡ u → AddsDues u s s1 h h1 → acts_by s1 u ≡ false
    → IsLegal ch h2 → Ends ch s1 k u c result h1 h2 → Turn k handed (Some c) result (pass_of ch h) (pass_of ch h2)
answered ch u s s1 h h1 h2 k handed c (T.Replied r) st kind at made idle legal (gives, room, at', is) =
    answered_by ch u s s1 h h1 h2 k handed c r (T.Replied r) st kind at made idle legal room at' is (λ x own makes. (gives, makes))
answered ch u s s1 h h1 h2 k handed c (T.Begun n) st kind at made idle legal (room, at', is) =
    answered_by ch u s s1 h h1 h2 k handed c (reply.Begun n) (T.Begun n) st kind at made idle legal room at' is (λ x own makes. makes)
answered ch u s s1 h h1 h2 k handed c T.NotYet st kind at made idle legal (room, waiting, same) =
    subst (λ x. Turn k handed (Some c) T.NotYet (pass_of ch h) (pass_of ch x)) (sym same)
    (adds_due ch u s s1 h h1 k handed (Some c) T.NotYet st made (
      kind,
      (
        subst (λ v. DuesUntil s v made.dues) (sym at) (all_made u s s1 h h1 made idle),
        subst (λ y. HasRoom ch y c) made.state room,
        subst (λ v. IsNotReady (state_from s made.dues) v c) (sym at) (subst (λ y. IsNotReady y u c) made.state waiting),
      ),
    ))
answered ch u s s1 h h1 h2 k handed c T.JournalFull st kind at made idle legal (none, same) =
    subst (λ x. Turn k handed (Some c) T.JournalFull (pass_of ch h) (pass_of ch x)) (sym same)
    (adds_due ch u s s1 h h1 k handed (Some c) T.JournalFull st made (
      kind,
      (
        subst (λ v. DuesUntil s v made.dues) (sym at) (all_made u s s1 h h1 made idle),
        subst (λ y. HasRoom ch y c → ⊥) made.state none,
      ),
    ))
answered ch u s s1 h h1 h2 k handed c T.NoMemory st kind at made idle legal same =
    subst (λ x. Turn k handed (Some c) T.NoMemory (pass_of ch h) (pass_of ch x)) (sym same)
    (adds_due ch u s s1 h h1 k handed (Some c) T.NoMemory st made
    (kind, subst (λ v. SomeDues s v made.dues) (sym at) made.some))
answered ch u s s1 h h1 h2 k handed c result st kind at made idle legal ends = absurd ends

-- under the charter that it leaves
pub answered_as : (ch ch' : Charter) (u : ℕ) (s s1 : State) (h h1 h2 : List Step) (k handed : ℕ) (c : Call) (result : Turned)
    → ch' ≡ ch → Stands ch s h → IsFalse (is_drop c) → moment_used s handed ≡ u → AddsDues u s s1 h h1 → acts_by s1 u ≡ false
    → IsLegal ch' h2 → Ends ch s1 k u c result h1 h2 → Turn k handed (Some c) result (pass_of ch h) (pass_of ch' h2)
answered_as ch ch' u s s1 h h1 h2 k handed c result same st kind at made idle legal ends =
    subst (λ x. Turn k handed (Some c) result (pass_of ch h) (pass_of x h2)) (sym same)
    (answered ch u s s1 h h1 h2 k handed c result st kind at made idle (subst (λ x. IsLegal x h2) same legal) ends)

-- a ticket was dropped at once
pub drop_lawful : (s : State) (k t n : ℕ) → t ≡ s.clock → HoldsTicket s k (call.Drop n) → IsLawful s (Step.Call k t (call.Drop n))
drop_lawful s k t n at holds = (refl, (at, holds))

pub drop_made : (ch : Charter) (s s' : State) (h h' : List Step) (k handed t n : ℕ) (r : Reply) → Stands ch s h → t ≡ s.clock → IsLegal ch h'
    → Adds k t (call.Drop n) r s s' h h' → Turn k handed (Some (call.Drop n)) (T.Replied r) (pass_of ch h) (pass_of ch h')
drop_made ch s s' h h' k handed t n r st at legal made =
    let own : List Step = Step.Call k s.clock (call.Drop n) ∷ [] in
    let steps : h' ≡ h ++ own = subst (λ (x : ℕ). h' ≡ h ++ Step.Call k x (call.Drop n) ∷ []) at made.steps_are in
    let reply : r ≡ reply_of s k s.clock (call.Drop n) = made.reply in
    adds ch h h' own k handed (Some (call.Drop n)) (T.Replied r) legal steps (sym (own_call k s.clock (call.Drop n)))
    (subst (λ y. TurnSays ch y k handed (Some (call.Drop n)) (T.Replied r) own) st.is
    (subst GivesNoTicket (sym reply) tt, (refl, refl, reply)))

-- ---- the moment that counts

pub used_at : (s : State) (handed now u : ℕ) → u ≡ moment_of now handed → now ≡ s.clock → moment_used s handed ≡ u
used_at s handed now u is clock = sym (is ∙ ap (λ x. moment_of x handed) clock)

-- it lies at the clock or later, and may be taken
pub used_from : (s : State) (handed u : ℕ) → moment_used s handed ≡ u → s.clock ≤ u
used_from s handed u at = omega (arith, at)

pub used_until : (s : State) (handed u : ℕ) → moment_used s handed ≡ u → s.clock ≤ greatest_moment → u ≤ latest s
used_until s handed u at le = omega (arith, at, le)
