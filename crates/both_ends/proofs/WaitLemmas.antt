-- The take of a wait's ticket tells a code of one byte, in every legal history.
use Rattle.std.proofs.Common.{◌≡◌, ℕ, ◌<◌, ◌==◌, Bool, true, false, List, [], ◌∷◌, ◌++◌, Option, Some, None, find, refl, sym, ap, ◌∙◌, subst, arith}
use Rattle.std.specs.Prelude.{unwrap_or, option_and_then}
use Rattle.std.specs.Option.{option_map_or}
use Rattle.std.specs.List.{AllByRecursion}
use Rattle.std.proofs.lemmas.Bool.{eqb-true}
use Rattle.engine_text.specs.declared.call.Call.{Call}
use Rattle.engine_text.specs.declared.call.Until.{Until}
use Rattle.engine_text.specs.declared.container.Container.{Container}
use Rattle.engine_text.specs.declared.container.Found.{Found}
use Rattle.engine_text.specs.declared.reply.Reply.{Reply}
use Rattle.engine_text.specs.declared.step.DueAction.{DueAction}
use Rattle.engine_text.specs.declared.step.Step.{Step}
use Rattle.engine_text.specs.declared.ticket.Asked.{Asked}
use Rattle.engine_text.specs.declared.ticket.Ticket.{Ticket}
use Rattle.container_table.specs.Reference.{container_by}
use Rattle.machine_model.specs.State.{State, container_numbered}
use Rattle.machine_model.specs.Chain.{Effect, Died, still}
use Rattle.machine_model.specs.Call.{outcome_of}
use Rattle.machine_model.specs.Consistency.{IsConsistent}
use Rattle.machine_model.specs.Due.{least_due, due_effect}
use Rattle.machine_model.specs.History.{Charter, opening_state, after_step, state_from, state_after, reply_of, IsLawful, AreLawful, IsLegal}
use Rattle.machine_model.specs.Ranges.{AreCoded}
use Rattle.machine_model.specs.Outcome.{Outcome, by_found, at_reference, refused}
use Rattle.machine_model.specs.Refusals.{no_such_container}
use Rattle.machine_model.specs.Step.{at_moment, step_of}
use Rattle.machine_model.specs.Tickets.{begun, begins, ticket_numbered}
use Rattle.machine_model.specs.Effects.Destroy.{waited}
use Rattle.machine_model.specs.Effects.Settle as settle
use Rattle.machine_model.specs.Effects.Settle.{is_at_rest, has_died, reply_if, wait_reply, settled, settle_tickets}
use Rattle.machine_model.proofs.ListLemmas.{all_append, all_weaken, append_assoc}
use Rattle.machine_model.proofs.ReplyLemmas.{all_through}
use Rattle.machine_model.proofs.ObeyLemmas.{found_all}
use Rattle.machine_model.proofs.DueLemmas.{passes}
use Rattle.machine_model.proofs.Histories.{run_append, lawful_back, legal_front}
use Rattle.machine_model.proofs.Fold.HistoryLemmas.{AreConsistent, all_consistent}
use Rattle.machine_model.proofs.Fold.TellLemmas.{LifeInRange}
use Rattle.machine_model.proofs.Laws.{consistency_law}
use Rattle.session_model.specs.Exchange.{IsMade}
use Rattle.both_ends.proofs.EffectLemmas.{TellsCode, IsOfWait, IsWait, IsLow, Holds, AreLow, Keeps, keeps_due}
use Rattle.both_ends.proofs.CallLemmas.{call_leaves}

-- ---- the end of a step

abbrev IsLowEnd : Option Died → Type 0
IsLowEnd None = Unit {0}
IsLowEnd (Some d) = d.code < 256

low_among : (p : Died → Bool) (ds : List Died) → AreLow ds → IsLowEnd (find p ds)
low_among p ds all = by (find p ds) refl
  where
    by : (o : Option Died) → find p ds ≡ o → IsLowEnd o
    by None e = tt
    by (Some d) e = found_all (λ (d : Died). d.code < 256) p d ds e all

code_if : (b : Bool) (code : ℕ) → code < 256 → TellsCode (reply_if b (waited code))
code_if true code low = (code, low, refl)
code_if false code low = tt

code_by : (b : Bool) (died : Option Died) (c : Container) → IsLowEnd died → IsLow c → TellsCode (reply_if b (waited (option_map_or (λ d. d.code) died c.life.code)))
code_by b None c dies low = code_if b c.life.code low
code_by b (Some d) c dies low = code_if b d.code dies

wait_tells : (until : Until) (died : Option Died) (c : Container) (s : State) → IsLowEnd died → IsLow c → TellsCode (wait_reply until died c s)
wait_tells Until.NotRunning died c s dies low = code_by (is_at_rest c s) died c dies low
wait_tells Until.NextExit died c s dies low = code_by (has_died died) died c dies low
wait_tells Until.Removed died c s dies low = tt

asked_tells : (a : Asked) (died : Option Died) (c : Container) (s : State) → IsOfWait a → IsLowEnd died → IsLow c → TellsCode (settle.reply_of a died c s)
asked_tells (Asked.Wait until) died c s of dies low = wait_tells until died c s dies low
asked_tells Asked.Stop died c s of dies low = absurd of
asked_tells Asked.Restart died c s of dies low = absurd of
asked_tells Asked.Remove died c s of dies low = absurd of

container_tells : (m : ℕ) (o : Option Container) (a : Asked) (died : List Died) (s : State) → container_numbered m s ≡ o → IsOfWait a → AreLow died
    → AllByRecursion IsLow s.containers → TellsCode (option_and_then (λ (c : Container). settle.reply_of a (find (λ d. d.number == c.number) died) c s) o)
container_tells m None a died s e of dies low = tt
container_tells m (Some c) a died s e of dies low =
    asked_tells a (find (λ d. d.number == c.number) died) c s of (low_among (λ d. d.number == c.number) died dies) (found_all IsLow (λ d. d.number == m) c s.containers e low)

settled_wait : (n : ℕ) (o : Option Reply) (t : Ticket) (died : List Died) (s : State) → AreLow died → AllByRecursion IsLow s.containers → IsWait n t → IsWait n (settled o t died s)
settled_wait n (Some reply) t died s dies low h is = h is
settled_wait n None t died s dies low h is =
    let one = h is in (one.0, container_tells t.container (container_numbered t.container s) t.asked died s refl one.0 dies low)

settle_holds : (n : ℕ) (s : State) (died : List Died) → Holds n s → AreLow died → Holds n (settle_tickets died s)
settle_holds n s died h dies =
    (h.0, h.1, h.2, all_through (IsWait n) (λ t. settled t.reply t died s) (λ t k. settled_wait n t.reply t died s dies h.1 k) s.tickets h.3)

-- ---- steps

due_holds : (n : ℕ) (s : State) (o : Option DueAction) → Holds n s → Holds n (unwrap_or (step_of o s) (still s)).state
due_holds n s None h = h
due_holds n s (Some d) h =
    let m : State = at_moment d.moment s in
    let e : Effect = due_effect d m in
    let one : Keeps n (due_effect d) = keeps_due d in
    let k = one.holds m h in settle_holds n e.state e.died k.0 k.1

step_holds : (n : ℕ) (s : State) (x : Step) → IsConsistent s → IsLawful s x → Holds n s → Holds n (after_step s x)
step_holds n s Step.Due kept lawful h = due_holds n s (least_due s) h
step_holds n s (Step.Call k t c) kept lawful h =
    let m : State = at_moment t s in
    let e : Effect = (outcome_of c k m).effect in
    let r = call_leaves n m h kept.ranges.lives c k lawful.0 in settle_holds n e.state e.died r.0 r.1

steps_hold : (n : ℕ) (s : State) (xs : List Step) → AreConsistent s xs → AreLawful s xs → Holds n s → Holds n (state_from s xs)
steps_hold n s [] kept lawful h = h
steps_hold n s (x ∷ xs) kept lawful h = steps_hold n (after_step s x) xs kept.1 lawful.1 (step_holds n s x kept.0 lawful.0 h)

-- ---- the ticket that a wait gives

number_in : Reply → ℕ
number_in (Reply.Begun n) = n
number_in r = 0

not_begun : (status n : ℕ) (body : List ℕ) → Reply.Answer status body ≡ Reply.Begun n → ⊥
not_begun status n body is = cc

abbrev Gives : ℕ → Outcome → Type 0
Gives n o = o.reply ≡ Reply.Begun n → Holds n o.effect.state × AreLow o.effect.died

module _ (n k : ℕ) (until : Until) (s : State) (coded : AreCoded s.processes) (lives : AllByRecursion LifeInRange s.containers)
    (below : AllByRecursion (λ t. t.number < s.next_ticket) s.tickets) where
  fresh : (c : Container) → Holds s.next_ticket (begun k c.number (Asked.Wait until) s)
  fresh c =
      let olds : AllByRecursion (IsWait s.next_ticket) s.tickets =
      all_weaken (λ (t : Ticket). t.number < s.next_ticket) (IsWait s.next_ticket) (λ t low is. absurd (omega (arith, low, is))) s.tickets below in (
        coded,
        all_weaken LifeInRange IsLow (λ c k. k.0) s.containers lives,
        omega arith,
        all_append (IsWait s.next_ticket) s.tickets _ olds (λ is. (tt, tt), tt),
      )

  begun_gives : (c : Container) → Gives n (begins k c (Asked.Wait until) still s)
  unfolding number_in
  begun_gives c is =
      let same : s.next_ticket ≡ n = ap number_in is in
      (subst (λ m. Holds m (begun k c.number (Asked.Wait until) s)) same (fresh c), tt)

  one_gives : (target : List ℕ) (o : Option Container) → Gives n (option_map_or (λ c. begins k c (Asked.Wait until) still) o (refused 404 (no_such_container target)) s)
  one_gives target None is = absurd (not_begun 404 n _ is)
  one_gives target (Some c) is = begun_gives c is

  found_gives : (found : Found) (target : List ℕ) → Gives n (by_found found target (λ c. begins k c (Asked.Wait until) still) s)
  found_gives (Found.One m) target is = one_gives target (container_numbered m s) is
  found_gives Found.None target is = absurd (not_begun 404 n _ is)
  found_gives Found.Many target is = absurd (not_begun 400 n _ is)

  call_gives : (target : List ℕ) → Gives n (at_reference target (λ c. begins k c (Asked.Wait until) still) s)
  call_gives target is = found_gives (container_by s.containers target) target is

wait_holds : (n : ℕ) (s : State) (k t : ℕ) (target : List ℕ) (until : Until) → IsConsistent s → reply_of s k t (Call.Wait target until) ≡ Reply.Begun n
    → Holds n (after_step s (Step.Call k t (Call.Wait target until)))
wait_holds n s k t target until kept is =
    let e : Effect = (outcome_of (Call.Wait target until) k (at_moment t s)).effect in
    let r = call_gives n k until (at_moment t s) kept.ranges.processes kept.ranges.lives kept.tickets.below target is in settle_holds n e.state e.died r.0 r.1

-- ---- its take

not_dropped : (status : ℕ) (body : List ℕ) → Reply.Answer status body ≡ Reply.Dropped → ⊥
not_dropped status body is = cc

-- what an answer is that tells a code of one byte
abbrev pub IsCode : ℕ → List ℕ → Type 0
IsCode status body = (code : ℕ) × (code < 256) × (Reply.Answer status body ≡ waited code)

taken : (n : ℕ) (s : State) (status : ℕ) (body : List ℕ) → Holds n s
    → Reply.Answer status body ≡ unwrap_or (option_and_then (λ (t : Ticket). t.reply) (ticket_numbered n s)) Reply.Dropped → IsCode status body
taken n s status body h is = by (ticket_numbered n s) refl is
  where
    told : (u : Ticket) (r : Option Reply) → u.reply ≡ r → TellsCode u.reply → Reply.Answer status body ≡ unwrap_or r Reply.Dropped → IsCode status body
    told u None same tells is = absurd (not_dropped status body is)
    told u (Some reply) same tells is = let t : TellsCode (Some reply) = subst TellsCode same tells in (t.0, t.1, is ∙ t.2)

    by : (o : Option Ticket) → ticket_numbered n s ≡ o → Reply.Answer status body ≡ unwrap_or (option_and_then (λ (t : Ticket). t.reply) o) Reply.Dropped → IsCode status body
    by None e is = absurd (not_dropped status body is)
    by (Some u) e is =
        let number : u.number ≡ n = eqb-true u.number n (passes (λ (t : Ticket). t.number == n) u s.tickets e) in
        let wait : IsWait n u = found_all (IsWait n) (λ (t : Ticket). t.number == n) u s.tickets e h.3 in
        told u u.reply refl (wait number).1 is

-- ---- histories

module _ (ch : Charter) (k : ℕ) (target : List ℕ) (until : Until) (a b mid : List Step) (n status : ℕ) (body : List ℕ) (legal : IsLegal ch b)
    (gives : IsMade ch k k (Call.Wait target until) a mid (Reply.Begun n)) (takes : IsMade ch k k (Call.Take n) mid b (Reply.Answer status body)) where
  abbrev before : List Step
  before = a ++ gives.0

  abbrev wait : Step
  wait = Step.Call k gives.2 (Call.Wait target until)

  abbrev rest : List Step
  rest = gives.1 ++ takes.0

  front_is : mid ++ takes.0 ≡ before ++ (wait ∷ rest)
  front_is = ap (λ l. l ++ takes.0) gives.5 ∙ append_assoc before (wait ∷ gives.1) takes.0

  front_legal : IsLegal ch (before ++ (wait ∷ rest))
  front_legal = subst (IsLegal ch) front_is (legal_front ch (mid ++ takes.0) (Step.Call k takes.2 (Call.Take n) ∷ takes.1) (subst (IsLegal ch) takes.5 legal))

  abbrev given : State
  given = state_after ch before

  kept_from : AreConsistent given (wait ∷ rest)
  kept_from = all_consistent consistency_law ch before (wait ∷ rest) front_legal

  lawful_from : AreLawful given (wait ∷ rest)
  lawful_from = lawful_back (opening_state ch) before (wait ∷ rest) front_legal.1

  state_is : state_after ch (mid ++ takes.0) ≡ state_from (after_step given wait) rest
  state_is = ap (state_after ch) front_is ∙ run_append ch before (wait ∷ rest)

  holds_there : Holds n (state_after ch (mid ++ takes.0))
  holds_there =
      subst (Holds n) (sym state_is)
      (steps_hold n (after_step given wait) rest kept_from.1 lawful_from.1 (wait_holds n given k gives.2 target until kept_from.0 (sym gives.7)))

  pub take_tells : IsCode status body
  take_tells = taken n (state_after ch (mid ++ takes.0)) status body holds_there takes.7
