-- A plan is followed call by call.
use Rattle.std.proofs.Common.{◌≡◌, ◌⊎◌, inl, inr, cond, ◌+◌, ◌<◌, ◌++◌, ◌==◌, drop, length, ℕ, List, [], ◌∷◌, Bool, true, false, find, refl, sym, ap, subst, ◌∙◌, append_assoc, append-nil, Option, Some, None, if◌then◌else◌}
use Rattle.std.specs.Prelude.{IsTrue, filter, get_or, map}
use Rattle.std.specs.List.{AllByRecursion}
use Rattle.std.specs.Option.{option_map_or}
use Rattle.std.proofs.lemmas.Bool.{eq-eqb}
use Rattle.std.proofs.lemmas.List.{at_drop_more, drop_all}
use Rattle.container_table.specs.Lists.{remove_first}
use Rattle.hex.specs.Hex.{encode_with}
use Rattle.engine_text.specs.Id.{id_of, key_bytes}
use Rattle.engine_text.specs.Soundness.{is_full}
use Rattle.engine_text.specs.declared.call.Call.TheVariants as call
use Rattle.engine_text.specs.declared.container.Container.{Container}
use Rattle.engine_text.specs.declared.reply.Reply.{Reply}
use Rattle.engine_text.specs.declared.step.Step.{Step}
use Rattle.engine_text.specs.declared.ticket.Ticket.{Ticket}
use Rattle.machine_model.specs.State.{State}
use Rattle.machine_model.specs.Calls.Take.{end_ticket}
use Rattle.machine_model.specs.Consistency.{IsConsistent}
use Rattle.machine_model.specs.Effects.Settle.{settled}
use Rattle.machine_model.specs.Step.{at_moment}
use Rattle.machine_model.specs.History.{Charter, IsLegal, after_step, has_ticket, state_after, state_from}
use Rattle.machine_model.proofs.Histories.{run_append}
use Rattle.machine_model.proofs.Laws.{consistency_law}
use Rattle.session_model.specs.Pass.{PassView}
use Rattle.daemon_core.specs.Storing.{pass_of}
use Rattle.engine_reboot.specs.Planning.{drops, is_up, kills, reboot_plan, starts, starts_again}
use Rattle.engine_reboot.specs.Following.{AreNoDrops, CanBeMade, CanFollow, FindsNoRoom, FollowSays, Follows, IsMadeBy, IsNoDrop, LacksRoom, Stand, StepSays}
use Rattle.engine_reboot.specs.declared.following.Followed.TheVariants.{Whole, Full}
use Rattle.engine_reboot.specs.declared.planning.Planned.{Planned}
use Rattle.engine_reboot.specs.declared.planning.Planned.TheVariants.{Drop, Kill, Start}

-- ---- what can be followed

abbrev first_of : {A : Type 0} → A → List A → A
first_of d [] = d
first_of d (x ∷ xs) = x

abbrev rest_of : {A : Type 0} → List A → List A
rest_of [] = []
rest_of (x ∷ xs) = xs

same_first : {A : Type 0} (x y : A) (xs ys : List A) → x ∷ xs ≡ y ∷ ys → x ≡ y
same_first x y xs ys is = ap (first_of x) is

same_rest : {A : Type 0} (x y : A) (xs ys : List A) → x ∷ xs ≡ y ∷ ys → xs ≡ ys
same_rest x y xs ys is = ap rest_of is

no_drop_can : (s : State) (p : Planned) → IsNoDrop p → CanBeMade s p
no_drop_can s (Drop ticket connection) never = absurd never
no_drop_can s (Kill id) full = full
no_drop_can s (Start id) full = full

-- the number and the connection of a drop
abbrev number_in : Planned → ℕ
number_in (Drop ticket connection) = ticket
number_in p = 0

abbrev connection_in : Planned → ℕ
connection_in (Drop ticket connection) = connection
connection_in p = 0

-- a drop tells of a ticket its number and its connection
drops_mapped : (f : Ticket → Ticket) → ((t : Ticket) → (f t).number ≡ t.number) → ((t : Ticket) → (f t).connection ≡ t.connection)
    → (ts : List Ticket) → drops (map f ts) ≡ drops ts
drops_mapped f number connection [] = refl
drops_mapped f number connection (t ∷ ts) = λ i. Drop (number t i) (connection t i) ∷ drops_mapped f number connection ts i

settled_number : (o : Option Reply) (t : Ticket) (s : State) → (settled o t [] s).number ≡ t.number
settled_number None t s = refl
settled_number (Some reply) t s = refl

settled_connection : (o : Option Reply) (t : Ticket) (s : State) → (settled o t [] s).connection ≡ t.connection
settled_connection None t s = refl
settled_connection (Some reply) t s = refl

drop_leaves : (s : State) (k n : ℕ) → drops (after_step s (Step.Call k s.clock (call.Drop n))).tickets ≡ drops (remove_first (λ u. u.number == n) s.tickets)
drop_leaves s k n =
    let e : State = end_ticket n (at_moment s.clock s) in
    drops_mapped (λ t. settled t.reply t [] e) (λ t. settled_number t.reply t e) (λ t. settled_connection t.reply t e)
    (remove_first (λ u. u.number == n) s.tickets)

-- the first of all tickets is its connection's
holds_first : (s : State) (t : Ticket) (ts : List Ticket) → drops s.tickets ≡ drops (t ∷ ts) → IsTrue (has_ticket s t.connection t.number)
holds_first s t ts is = go s.tickets is
  where
    go : (l : List Ticket) → drops l ≡ drops (t ∷ ts)
        → IsTrue (option_map_or (λ (u : Ticket). u.connection == t.connection) (find (λ u. u.number == t.number) l) false)
    go [] is = let never : ⊥ = cc in absurd never
    go (u ∷ us) is =
        let first = same_first (Drop u.number u.connection) (Drop t.number t.connection) (drops us) (drops ts) is in
        let it : (u.number == t.number) ≡ true = eq-eqb u.number t.number (ap number_in first) in
        let its : (u.connection == t.connection) ≡ true = eq-eqb u.connection t.connection (ap connection_in first) in
        subst (λ b. IsTrue (option_map_or (λ (v : Ticket). v.connection == t.connection) (if b then Some u else find (λ v. v.number == t.number) us) false))
        (sym it) its

-- it is gone behind its drop
first_removed : (l : List Ticket) (t : Ticket) (ts : List Ticket) → drops l ≡ drops (t ∷ ts) → drops (remove_first (λ u. u.number == t.number) l) ≡ drops ts
first_removed [] t ts is = let never : ⊥ = cc in absurd never
first_removed (u ∷ us) t ts is =
    let first = same_first (Drop u.number u.connection) (Drop t.number t.connection) (drops us) (drops ts) is in
    let it : (u.number == t.number) ≡ true = eq-eqb u.number t.number (ap number_in first) in
    ap (λ b. drops (if b then us else u ∷ remove_first (λ v. v.number == t.number) us)) it
    ∙ same_rest (Drop u.number u.connection) (Drop t.number t.connection) (drops us) (drops ts) is

first_gone : (s : State) (t : Ticket) (ts : List Ticket) → drops s.tickets ≡ drops (t ∷ ts)
    → drops (after_step s (Step.Call t.connection s.clock (call.Drop t.number))).tickets ≡ drops ts
first_gone s t ts is = drop_leaves s t.connection t.number ∙ first_removed s.tickets t ts is

stand_by : (s : State) (ts : List Ticket) → drops s.tickets ≡ drops ts → Stand s ts
stand_by s [] is = tt
stand_by s (t ∷ ts) is = is

pub can_be : (s : State) (p : Planned) (ps : List Planned) → CanFollow s (p ∷ ps) → CanBeMade s p
can_be s p ps can = go can.tickets can.others can.plan_is can.stand can.calls
  where
    go : (ts : List Ticket) (others : List Planned) → p ∷ ps ≡ drops ts ++ others → Stand s ts → AreNoDrops others → CanBeMade s p
    go [] [] is stand calls = let never : ⊥ = cc in absurd never
    go [] (o ∷ os) is stand calls = subst (CanBeMade s) (sym (same_first p o ps os is)) (no_drop_can s o calls.0)
    go (t ∷ ts) others is stand calls =
        subst (CanBeMade s) (sym (same_first p (Drop t.number t.connection) ps (drops ts ++ others) is)) (holds_first s t ts stand)

-- behind a drop
dropped : (ch : Charter) (s : State) (handed : ℕ) (t : Ticket) (ts : List Ticket) (steps : List Step) → drops s.tickets ≡ drops (t ∷ ts)
    → IsMadeBy ch s handed (Drop t.number t.connection) steps → Stand (state_from s steps) ts
dropped ch s handed t ts steps is made =
    let only : steps ≡ Step.Call t.connection s.clock (call.Drop t.number) ∷ [] =
    made.steps_are ∙ ap (λ (l : List Step). l ++ Step.Call t.connection s.clock (call.Drop t.number) ∷ []) made.before in
    stand_by (state_from s steps) ts (ap (λ (l : List Step). drops (state_from s l).tickets) only ∙ first_gone s t ts is)

pub can_go_on : (ch : Charter) (s : State) (handed : ℕ) (p : Planned) (ps : List Planned) (steps : List Step) → CanFollow s (p ∷ ps)
    → IsMadeBy ch s handed p steps → CanFollow (state_from s steps) ps
can_go_on ch s handed p ps steps can made = go can.tickets can.others can.plan_is can.stand can.calls
  where
    go : (ts : List Ticket) (others : List Planned) → p ∷ ps ≡ drops ts ++ others → Stand s ts → AreNoDrops others → CanFollow (state_from s steps) ps
    go [] [] is stand calls = let never : ⊥ = cc in absurd never
    go [] (o ∷ os) is stand calls = record { tickets = []; others = os; plan_is = same_rest p o ps os is; stand = tt; calls = calls.1 }
    go (t ∷ ts) others is stand calls = record {
      tickets = ts;
      others = others;
      plan_is = same_rest p (Drop t.number t.connection) ps (drops ts ++ others) is;
      stand = dropped ch s handed t ts steps stand
          (subst (λ x. IsMadeBy ch s handed x steps) (same_first p (Drop t.number t.connection) ps (drops ts ++ others) is) made);
      calls = calls;
    }

-- ---- the plan can

full_id : (seed : List ℕ) (n : ℕ) → is_full (id_of seed n) ≡ true
unfolding id_of key_bytes encode_with
full_id seed n = refl

no_drops_append : (a b : List Planned) → AreNoDrops a → AreNoDrops b → AreNoDrops (a ++ b)
no_drops_append [] b first second = second
no_drops_append (p ∷ a) b first second = (first.0, no_drops_append a b first.1 second)

-- of the containers that pass a test
no_drops_of : (test : Container → Bool) (f : Container → Planned) (seed : List ℕ) (cs : List Container)
    → ((c : Container) → IsTrue (is_full c.id) → IsNoDrop (f c)) → AllByRecursion (λ c. c.id ≡ id_of seed c.number) cs
    → AreNoDrops (map f (filter test cs))
no_drops_of test f seed [] none ids = tt
no_drops_of test f seed (c ∷ cs) none ids = by (test c) (no_drops_of test f seed cs none ids.1)
  where
    by : (b : Bool) → AreNoDrops (map f (filter test cs)) → AreNoDrops (map f (cond b (c ∷ filter test cs) (filter test cs)))
    by true more = (none c (ap (λ (l : List ℕ). is_full l) ids.0 ∙ full_id seed c.number), more)
    by false more = more

pub can_follow : (ch : Charter) (h : List Step) → IsLegal ch h → CanFollow (state_after ch h) (reboot_plan (state_after ch h))
can_follow ch h legal =
    let s : State = state_after ch h in
    let kept : IsConsistent s = consistency_law ch h legal in
    record {
      tickets = s.tickets;
      others = kills s.containers ++ starts s.containers;
      plan_is = append_assoc (drops s.tickets) (kills s.containers) (starts s.containers);
      stand = stand_by s s.tickets refl;
      calls = no_drops_append (kills s.containers) (starts s.containers)
          (no_drops_of (λ c. is_up c.life.status) (λ c. Kill c.id) s.seed s.containers (λ c full. full) kept.names.container_ids)
          (no_drops_of starts_again (λ c. Start c.id) s.seed s.containers (λ c full. full) kept.names.container_ids);
    }

-- ---- a walk over a plan

pub from_place : (plan : List Planned) (i : ℕ) (p : Planned) → i < length plan → p ≡ get_or plan i p → drop i plan ≡ p ∷ drop (i + 1) plan
from_place plan i p within is = at_drop_more (λ (l : List Planned). l) plan i p within ∙ ap (λ (x : Planned). x ∷ drop (i + 1) plan) (sym is)

-- it was followed up to what is left of it
pub record IsFollowed (ch : Charter) (h : List Step) (handed : ℕ) (plan : List Planned) (q : PassView) (left : List Planned) : Type 0 where
  pub more : List Step
  pub seen : q ≡ pass_of ch (h ++ more)
  pub goes : (rest : List Step) → Follows ch (state_after ch (h ++ more)) handed left rest → Follows ch (state_after ch h) handed plan (more ++ rest)
  pub lacks : LacksRoom ch (state_after ch (h ++ more)) handed left → LacksRoom ch (state_after ch h) handed plan
  pub can : CanFollow (state_after ch (h ++ more)) left

pub not_yet : (ch : Charter) (h : List Step) (handed : ℕ) (plan : List Planned) → CanFollow (state_after ch h) plan
    → IsFollowed ch h handed plan (pass_of ch h) plan
not_yet ch h handed plan can =
    let none : h ++ [] ≡ h = append-nil h in
    let at : state_after ch (h ++ []) ≡ state_after ch h = ap (state_after ch) none in
    record {
      more = [];
      seen = ap (pass_of ch) (sym none);
      goes = λ rest f. subst (λ (y : State). Follows ch y handed plan rest) at f;
      lacks = λ l. subst (λ (y : State). LacksRoom ch y handed plan) at l;
      can = subst (λ (y : State). CanFollow y plan) (sym at) can;
    }

-- the next can be made
pub next_can : (ch : Charter) (h : List Step) (handed : ℕ) (plan : List Planned) (q : PassView) (left : List Planned) (p : Planned) (ps : List Planned)
    → IsFollowed ch h handed plan q left → left ≡ p ∷ ps → CanBeMade (state_after q.charter q.seen) p
next_can ch h handed plan q left p ps f at =
    subst (λ (x : PassView). CanBeMade (state_after x.charter x.seen) p) (sym f.seen)
    (can_be (state_after ch (h ++ f.more)) p ps (subst (CanFollow (state_after ch (h ++ f.more))) at f.can))

says_there : (ch : Charter) (h : List Step) (handed : ℕ) (q r : PassView) (p : Planned) → q ≡ pass_of ch h → StepSays handed p Whole q r
    → StepSays handed p Whole (pass_of ch h) r
says_there ch h handed q r p is says = subst (λ (x : PassView). StepSays handed p Whole x r) is says

pub one_more : (ch : Charter) (h : List Step) (handed : ℕ) (plan : List Planned) (q r : PassView) (left : List Planned) (p : Planned) (ps : List Planned)
    → IsFollowed ch h handed plan q left → left ≡ p ∷ ps → StepSays handed p Whole q r → IsFollowed ch h handed plan r ps
one_more ch h handed plan q r left p ps f at says =
    let there : List Step = h ++ f.more in
    let s : State = state_after ch there in
    let said = says_there ch there handed q r p f.seen says in
    let steps : List Step = said.0 in
    let made : IsMadeBy ch s handed p steps = said.1 in
    let all : there ++ steps ≡ h ++ (f.more ++ steps) = append_assoc h f.more steps in
    let to : state_after ch (h ++ (f.more ++ steps)) ≡ state_from s steps = ap (state_after ch) (sym all) ∙ run_append ch there steps in
    record {
      more = f.more ++ steps;
      seen = said.2 ∙ ap (pass_of ch) all;
      goes = λ rest g.
          subst (λ (l : List Step). Follows ch (state_after ch h) handed plan l) (sym (append_assoc f.more steps rest))
          (f.goes (steps ++ rest) (subst (λ (l : List Planned). Follows ch s handed l (steps ++ rest)) (sym at)
          (steps, rest, refl, made, subst (λ (y : State). Follows ch y handed ps rest) to g)));
      lacks = λ l.
          f.lacks (subst (λ (x : List Planned). LacksRoom ch s handed x) (sym at) (inr (steps, made, subst (λ (y : State). LacksRoom ch y handed ps) to l)));
      can = subst (λ (y : State). CanFollow y ps) (sym to) (can_go_on ch s handed p ps steps (subst (CanFollow s) at f.can) made);
    }

pub no_more : (ch : Charter) (h : List Step) (handed : ℕ) (plan : List Planned) (q r : PassView) (left : List Planned) (p : Planned) (ps : List Planned)
    → IsFollowed ch h handed plan q left → left ≡ p ∷ ps → StepSays handed p Full q r → LacksRoom ch (state_after ch h) handed plan
no_more ch h handed plan q r left p ps f at says =
    f.lacks (subst (λ (x : List Planned). LacksRoom ch (state_after ch (h ++ f.more)) handed x) (sym at)
    (inl (subst (λ (x : PassView). FindsNoRoom x.charter (state_after x.charter x.seen) handed p) f.seen says)))

pub all_followed : (ch : Charter) (h : List Step) (handed : ℕ) (plan : List Planned) (q : PassView) (left : List Planned)
    → IsFollowed ch h handed plan q left → left ≡ [] → FollowSays handed plan Whole (pass_of ch h) q
all_followed ch h handed plan q left f at = (
  f.more,
  subst (λ (l : List Step). Follows ch (state_after ch h) handed plan l) (append-nil f.more)
      (f.goes [] (subst (λ (x : List Planned). Follows ch (state_after ch (h ++ f.more)) handed x []) (sym at) refl)),
  f.seen,
)
