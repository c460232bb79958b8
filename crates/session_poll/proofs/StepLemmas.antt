-- Steps of a history as a poll made them: where they stand, and that none of them ends an input.
use Rattle.std.proofs.Common.{arith, ◌≡◌, ◌==◌, ◌||◌, ℕ, Bool, true, false, cond, ◌≤◌, List, [], ◌∷◌, ◌++◌, length, length-append, refl, sym, ◌∙◌, ap, subst, append_assoc, append-nil}
use Rattle.std.specs.Prelude.{IsFalse}
use Rattle.std.specs.List.{filter}
use Rattle.std.proofs.lemmas.Bool.{false≢true}
use Rattle.std.proofs.lemmas.List.Elements.{filter-append}
use Rattle.engine_text.specs.declared.call.Call.{Call}
use Rattle.engine_text.specs.declared.call.Call.TheVariants.{Drop, FeedEnd}
use Rattle.engine_text.specs.declared.reply.Reply.{Reply}
use Rattle.engine_text.specs.declared.reply.Reply.TheVariants as reply
use Rattle.engine_text.specs.declared.step.Step.{Step}
use Rattle.machine_model.specs.Statuses.{is_feed}
use Rattle.machine_model.specs.History.{Charter, Extends, HasNone, bears, calls_of, input_of, is_own, moment_used, own_calls, state_after}
use Rattle.session_model.specs.declared.turned.Turned.{Turned}
use Rattle.session_model.specs.declared.turned.Turned.TheVariants as T
use Rattle.session_model.specs.Exchange.{AtSome, IsMade, IsMadeAt, IsQuiet}
use Rattle.session_model.proofs.HistoryLemmas.{extends_on}
use Rattle.exchange_laws.specs.Turns.{CameTo}
use Rattle.polled_model.specs.Polls.{AllStandAt, StandsAt, feeds_end}

-- ---- no call of a connection

abbrev IsCons : List Step → Type 0
IsCons [] = ⊥
IsCons (x ∷ xs) = Unit {0}

none_cons : (b : Bool) (x : Step) (xs : List Step) → cond b (x ∷ xs) xs ≡ [] → (b ≡ false) × (xs ≡ [])
none_cons true x xs is = absurd (subst IsCons is tt)
none_cons false x xs is = (refl, is)

module _ (ch : Charter) (k m : ℕ) (from : List Step) where
  -- its steps stand anywhere
  not_own : (at : List Step) (j t : ℕ) (c : Call) → is_own k (Step.Call j t c) ≡ false → StandsAt ch k m from at (Step.Call j t c)
  not_own at j t (Drop n) none = tt
  not_own at j t c none = λ mine. absurd (false≢true (sym none ∙ mine))

  pub stand_none : (at xs : List Step) → HasNone k xs → AllStandAt ch k m from at xs
  stand_none at [] none = tt
  stand_none at (Step.Due ∷ xs) none = (tt, stand_none (at ++ Step.Due ∷ []) xs none)
  stand_none at (Step.Call j t c ∷ xs) none =
      let parts = none_cons (is_own k (Step.Call j t c)) (Step.Call j t c) (own_calls k xs) none in
      (not_own at j t c parts.0, stand_none (at ++ Step.Call j t c ∷ []) xs parts.1)

  -- a call stands where its moment counts
  stands_call : (at : List Step) (j t : ℕ) (c : Call) → AtSome from at (λ place. t ≡ moment_used (state_after ch place) m)
      → StandsAt ch k m from at (Step.Call j t c)
  stands_call at j t (Drop n) counts = tt
  stands_call at j t c counts = λ mine. counts

  -- more steps
  pub stand_on : (at xs ys : List Step) → AllStandAt ch k m from at xs → AllStandAt ch k m from (at ++ xs) ys → AllStandAt ch k m from at (xs ++ ys)
  stand_on at [] ys first later = subst (λ h. AllStandAt ch k m from h ys) (append-nil at) later
  stand_on at (x ∷ xs) ys (one, more) later =
      (one, stand_on (at ++ x ∷ []) xs ys more (subst (λ h. AllStandAt ch k m from h ys) (sym (append_assoc at (x ∷ []) xs)) later))

-- since an earlier history
since_step : (ch : Charter) (k m : ℕ) (a b at : List Step) (x : Step) → Extends a b → StandsAt ch k m b at x → StandsAt ch k m a at x
since_step ch k m a b at Step.Due before stands = tt
since_step ch k m a b at (Step.Call j t (Drop n)) before stands = tt
since_step ch k m a b at (Step.Call j t c) before stands = λ mine.
    let s = stands mine in (s.0, extends_on a b s.0 before s.1, s.2, s.3)

pub stand_since : (ch : Charter) (k m : ℕ) (a b at xs : List Step) → Extends a b → AllStandAt ch k m b at xs → AllStandAt ch k m a at xs
stand_since ch k m a b at [] before stands = tt
stand_since ch k m a b at (x ∷ xs) before (one, more) =
    (since_step ch k m a b at x before one, stand_since ch k m a b (at ++ x ∷ []) xs before more)

-- ---- ends of an input

no_end : (k j t : ℕ) (c : Call) → is_own k (Step.Call j t c) ≡ false → feeds_end k (Step.Call j t c) ≡ false
no_end k j t (FeedEnd owner n) none = or_last (j == k) (j == input_of k) none
  where
    or_last : (a b : Bool) → (a || b) ≡ false → b ≡ false
    or_last true b is = absurd (false≢true (sym is))
    or_last false b is = is
no_end k j t c none = refl

skip : (b : Bool) (x : Step) (xs : List Step) → b ≡ false → xs ≡ [] → cond b (x ∷ xs) xs ≡ []
skip b x xs is none = ap (λ y. cond y (x ∷ xs) xs) is ∙ none

pub none_fed : (k : ℕ) (xs : List Step) → HasNone k xs → filter (feeds_end k) xs ≡ []
none_fed k [] none = refl
none_fed k (Step.Due ∷ xs) none = none_fed k xs none
none_fed k (Step.Call j t c ∷ xs) none =
    let parts = none_cons (is_own k (Step.Call j t c)) (Step.Call j t c) (own_calls k xs) none in
    skip (feeds_end k (Step.Call j t c)) (Step.Call j t c) (filter (feeds_end k) xs) (no_end k j t c parts.0) (none_fed k xs parts.1)

pub fed_on : (k : ℕ) (xs ys : List Step) → filter (feeds_end k) xs ≡ [] → filter (feeds_end k) ys ≡ [] → filter (feeds_end k) (xs ++ ys) ≡ []
fed_on k xs ys none none' = filter-append (feeds_end k) xs ys ∙ ap (λ l. l ++ filter (feeds_end k) ys) none ∙ none'

-- a call that feeds nothing
call_fed : (k j t : ℕ) (c : Call) → IsFalse (is_feed c) → feeds_end k (Step.Call j t c) ≡ false
call_fed k j t (FeedEnd owner n) kind = absurd (false≢true (sym kind))
call_fed k j t c kind = refl

-- ---- what a turn added

-- so many steps, which stand at its moment, and so many calls among them
pub record Added (ch : Charter) (k m calls : ℕ) (a b : List Step) : Type 0 where
  pub own : List Step
  pub seen : b ≡ a ++ own
  pub stand : AllStandAt ch k m a a own
  pub fed : filter (feeds_end k) own ≡ []
  pub counted : calls ≤ length (calls_of k own)

pub quiet_added : (ch : Charter) (k m : ℕ) (a b : List Step) → IsQuiet k a b → Added ch k m 0 a b
quiet_added ch k m a b (others, none, is) = record {
  own = others;
  seen = is;
  stand = stand_none ch k m a a others none;
  fed = none_fed k others none;
  counted = omega arith;
}

-- its own call is one
own_first : (k t : ℕ) (c : Call) (before behind : List Step) → 1 ≤ length (calls_of k (before ++ Step.Call k t c ∷ behind))
own_first k t c before behind =
    let e : (k == k) ≡ true = grind arith in
    let one : calls_of k (Step.Call k t c ∷ behind) ≡ Step.Call k t c ∷ calls_of k behind = rw e refl in
    let all = ap length (filter-append (bears k) before (Step.Call k t c ∷ behind))
    ∙ length-append (calls_of k before) (calls_of k (Step.Call k t c ∷ behind)) in
    omega (arith, all, ap length one)

-- of a call that was made
made_added : (ch : Charter) (k m : ℕ) (c : Call) (a b : List Step) (x : Reply) → IsFalse (is_feed c) → IsMadeAt ch k m c a b x → Added ch k m 1 a b
made_added ch k m c a b x kind ((before, behind, t, none, none', is, room, answer), counts) = record {
  own = before ++ Step.Call k t c ∷ behind;
  seen = is ∙ append_assoc a before (Step.Call k t c ∷ behind);
  stand = stand_on ch k m a a before (Step.Call k t c ∷ behind) (stand_none ch k m a a before none)
      (stands_call ch k m a (a ++ before) k t c counts, stand_none ch k m a ((a ++ before) ++ Step.Call k t c ∷ []) behind none');
  fed = fed_on k before (Step.Call k t c ∷ behind) (none_fed k before none)
      (skip (feeds_end k (Step.Call k t c)) (Step.Call k t c) (filter (feeds_end k) behind) (call_fed k k t c kind) (none_fed k behind none'));
  counted = own_first k t c before behind;
}

-- a drop stands at no moment of a clock
pub drop_added : (ch : Charter) (k m n : ℕ) (a b : List Step) (x : Reply) → IsMade ch k k (Drop n) a b x → Added ch k m 1 a b
drop_added ch k m n a b x (before, behind, t, none, none', is, room, answer) = record {
  own = before ++ Step.Call k t (Drop n) ∷ behind;
  seen = is ∙ append_assoc a before (Step.Call k t (Drop n) ∷ behind);
  stand = stand_on ch k m a a before (Step.Call k t (Drop n) ∷ behind) (stand_none ch k m a a before none)
      (tt, stand_none ch k m a ((a ++ before) ++ Step.Call k t (Drop n) ∷ []) behind none');
  fed = fed_on k before (Step.Call k t (Drop n) ∷ behind) (none_fed k before none) (none_fed k behind none');
  counted = own_first k t (Drop n) before behind;
}

-- how many calls a turn makes, by its answer
abbrev pub calls_by : Turned → ℕ
calls_by (T.Replied x) = 1
calls_by (T.Begun n) = 1
calls_by result = 0

pub turn_added : (ch : Charter) (k m : ℕ) (c : Call) (result : Turned) (a b : List Step) → IsFalse (is_feed c) → CameTo ch k m c result a b
    → Added ch k m (calls_by result) a b
turn_added ch k m c (T.Replied x) a b kind came = made_added ch k m c a b x kind came.0
turn_added ch k m c (T.Begun n) a b kind came = made_added ch k m c a b (reply.Begun n) kind came
turn_added ch k m c T.NotYet a b kind came = quiet_added ch k m a b came.0
turn_added ch k m c T.Nothing a b kind came = absurd came
turn_added ch k m c T.JournalFull a b kind came = quiet_added ch k m a b came.0
turn_added ch k m c T.NoMemory a b kind came = quiet_added ch k m a b came
