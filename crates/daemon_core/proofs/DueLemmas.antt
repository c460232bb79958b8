-- Due steps, one after the other, and that each is lawful.
use Rattle.std.proofs.Common.{◌≡◌, ◌<◌, ◌≤◌, ◌^◌, ℕ, List, [], ◌∷◌, ◌++◌, refl, subst, sym, ◌∙◌, ap, append-nil, append_assoc, Bool, true, false, ◌&&◌, Option, Some, None, arith}
use Rattle.std.specs.Prelude.{IsTrue, nat_le}
use Rattle.std.specs.Option.{option_map_or}
use Rattle.std.specs.List.{filter}
use Rattle.std.proofs.lemmas.Bool.{false≢true}
use Rattle.std.proofs.lemmas.Bool.Decides.{nat_tests}
use Rattle.engine_text.specs.declared.step.DueAction.{DueAction}
use Rattle.engine_text.specs.declared.step.Step.{Step}
use Rattle.machine_model.specs.State.{State}
use Rattle.machine_model.specs.Due.{least_due}
use Rattle.machine_model.specs.History.{after_step, state_from, is_due, acts_by, has_steps, latest, SomeDues, DuesUntil, IsLawful, calls_of}
use Rattle.machine_model.proofs.Histories.{state_append, lawful_append}
use Rattle.machine_model.proofs.MomentLemmas.{moves}
use Rattle.machine_model.specs.Consistency.{IsConsistent}
use Rattle.session_model.proofs.DueLemmas.{some_clock}
use Rattle.daemon_core.specs.Storing.{is_call, AddsDue, AddsDues, IsClear}

-- ---- one

and_both : (x y : Bool) → IsTrue (x && y) → IsTrue x × IsTrue y
and_both true y h = (refl, h)
and_both false y h = absurd (false≢true h)

by_later : (o : Option DueAction) (u v : ℕ) → u ≤ v → IsTrue (option_map_or (λ (d : DueAction). nat_le d.moment u) o false) → IsTrue (option_map_or (λ (d : DueAction). nat_le d.moment v) o false)
by_later None u v le h = h
by_later (Some d) u v le h = grind (arith, nat_tests, le, h)

-- what acts by a moment that may be taken is lawful
pub due_lawful : (s : State) (u : ℕ) → u ≤ latest s → acts_by s u ≡ true → IsLawful s Step.Due
due_lawful s u le acts =
    let both = and_both (is_due s u) (has_steps s) acts in
    (both.1, by_later (least_due s) u (latest s) le both.0)

pub steps_left : (s : State) (u : ℕ) → acts_by s u ≡ true → s.step_count < 2 ^ 56
steps_left s u acts = let both = and_both (is_due s u) (has_steps s) acts in grind (arith, nat_tests, both.1)

-- it lies at the clock or later
pub due_later : (s s' : State) → IsConsistent s → IsLawful s Step.Due → s' ≡ after_step s Step.Due → s.clock ≤ s'.clock
due_later s s' kept lawful is =
    let later : s.clock ≤ (after_step s Step.Due).clock = (moves s Step.Due kept.limits.dues lawful).1 in
    let at : s'.clock ≡ (after_step s Step.Due).clock = ap (λ (y : State). y.clock) is in
    omega (arith, later, at)

-- ---- some

some_more : (s : State) (u : ℕ) (ds : List Step) → SomeDues s u ds → acts_by (state_from s ds) u ≡ true → SomeDues s u (ds ++ Step.Due ∷ [])
some_more s u [] h acts = (acts, tt)
some_more s u (Step.Due ∷ ds) h acts = (h.0, some_more (after_step s Step.Due) u ds h.1 acts)
some_more s u (Step.Call k t c ∷ ds) h acts = absurd h

pub some_all : (s : State) (u : ℕ) (ds : List Step) → SomeDues s u ds → acts_by (state_from s ds) u ≡ false → DuesUntil s u ds
some_all s u [] h idle = idle
some_all s u (Step.Due ∷ ds) h idle = (h.0, some_all (after_step s Step.Due) u ds h.1 idle)
some_all s u (Step.Call k t c ∷ ds) h idle = absurd h

no_calls : (s : State) (u : ℕ) (ds : List Step) → SomeDues s u ds → filter is_call ds ≡ []
no_calls s u [] h = refl
no_calls s u (Step.Due ∷ ds) h = no_calls (after_step s Step.Due) u ds h.1
no_calls s u (Step.Call k t c ∷ ds) h = absurd h

none_borne : (k : ℕ) (s : State) (u : ℕ) (ds : List Step) → SomeDues s u ds → calls_of k ds ≡ []
none_borne k s u [] h = refl
none_borne k s u (Step.Due ∷ ds) h = none_borne k (after_step s Step.Due) u ds h.1
none_borne k s u (Step.Call n t c ∷ ds) h = absurd h

-- ---- that were made

pub none_made : (u : ℕ) (s : State) (h : List Step) → AddsDues u s s h h
none_made u s h = record { dues = []; some = tt; lawful = tt; state = refl; steps_are = sym (append-nil h); later = omega arith }

-- a moment that might be taken at first may still be
pub until_on : (u : ℕ) (s s' : State) (h h' : List Step) → u ≤ latest s → AddsDues u s s' h h' → u ≤ latest s'
until_on u s s' h h' le made = omega (arith, le, made.later)

pub one_more : (u : ℕ) (s s1 s2 : State) (h h1 h2 : List Step) → u ≤ latest s → AddsDues u s s1 h h1 → acts_by s1 u ≡ true
    → AddsDue s1 s2 h1 h2 → AddsDues u s s2 h h2
one_more u s s1 s2 h h1 h2 le made acts one =
    let last : List Step = Step.Due ∷ [] in
    let lawful = due_lawful s1 u (until_on u s s1 h h1 le made) acts in
    record {
      dues = made.dues ++ last;
      some = some_more s u made.dues made.some (ap (λ y. acts_by y u) (sym made.state) ∙ acts);
      lawful = lawful_append s made.dues last made.lawful (subst (λ y. IsLawful y Step.Due) made.state lawful, tt);
      state = one.state ∙ ap (λ y. after_step y Step.Due) made.state ∙ sym (state_append s made.dues last);
      steps_are = one.steps_are ∙ ap (λ x. x ++ last) made.steps_are ∙ append_assoc h made.dues last;
      later = omega (arith, made.later, one.later);
    }

-- all of them
pub all_made : (u : ℕ) (s s' : State) (h h' : List Step) (made : AddsDues u s s' h h') → acts_by s' u ≡ false → DuesUntil s u made.dues
all_made u s s' h h' made idle = some_all s u made.dues made.some (ap (λ y. acts_by y u) (sym made.state) ∙ idle)

-- none is a call
pub dues_calls : (u : ℕ) (s s' : State) (h h' : List Step) (made : AddsDues u s s' h h') → filter is_call made.dues ≡ []
dues_calls u s s' h h' made = no_calls s u made.dues made.some

pub dues_own : (k u : ℕ) (s s' : State) (h h' : List Step) (made : AddsDues u s s' h h') → calls_of k made.dues ≡ []
dues_own k u s s' h h' made = none_borne k s u made.dues made.some

-- behind all of them a call can stand
pub clear_behind : (u : ℕ) (s s' : State) (h h' : List Step) → s.clock ≤ u → u ≤ latest s → AddsDues u s s' h h' → acts_by s' u ≡ false → IsClear s' u
clear_behind u s s' h h' from until made idle =
    let at : s'.clock ≡ (state_from s made.dues).clock = ap (λ (y : State). y.clock) made.state in
    let le = some_clock s u made.dues made.some in
    record { from = omega (arith, from, at, le); until = until_on u s s' h h' until made; idle = idle }
