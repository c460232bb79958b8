-- Each step is counted once, and each call.
use Rattle.std.proofs.Common.{◌≡◌, ◌<◌, ◌^◌, ℕ, ◌+◌, List, [], ◌∷◌, refl, ◌∙◌, ap, arith, length, Option, Some, None}
use Rattle.std.specs.Prelude.{IsTrue, nat_le, false, unwrap_or}
use Rattle.std.specs.Option.{option_map_or, unwrap_or}
use Rattle.std.proofs.lemmas.Bool.{false≢true}
use Rattle.engine_text.specs.declared.call.Call.{Call}
use Rattle.engine_text.specs.declared.step.DueAction.{DueAction}
use Rattle.engine_text.specs.declared.step.Step.{Step}
use Rattle.machine_model.specs.State.{State}
use Rattle.machine_model.specs.Chain.{Effect, still}
use Rattle.machine_model.specs.Due.{least_due}
use Rattle.machine_model.specs.History.{Charter, AreLawful, IsLegal, after_step, latest, opening_state, state_after, state_from}
use Rattle.journal_lines.specs.Entries.{entries_from, history_entries}
use Rattle.machine_model.specs.Step.{at_moment, step_of}
use Rattle.machine_model.proofs.ClosureLemmas.{IsClosed, runs_call, runs_due}
use Rattle.machine_model.proofs.Laws.{consistency_law}

-- an effect leaves the counts of steps and calls
abbrev LeavesCounts : State → Effect → Type 0
LeavesCounts s e = (e.state.step_count ≡ s.step_count) × (e.state.call_count ≡ s.call_count)

leaves_closed : IsClosed LeavesCounts
leaves_closed = record {
  on_still = λ s. (refl, refl);
  on_after = λ s a b first second. (second.0 ∙ first.0, second.1 ∙ first.1);
  on_told = λ s v at. (refl, refl);
  on_mounts = λ s a c. (refl, refl);
  on_ended = λ s d. (refl, refl);
  on_renew = λ s n f mark. (refl, refl);
  on_log = λ s n stream payload. (refl, refl);
  on_output = λ s n stream payload. (refl, refl);
  on_process = λ s owner f. (refl, refl);
  on_drop = λ s owner. (refl, refl);
  on_spawn = λ s owner program stdin room. (refl, refl);
  on_timers = λ s timers. (refl, refl);
  on_exec = λ s n f mark. (refl, refl);
  on_destroyed = λ s c found. (refl, refl);
  on_begun = λ s connection c asked found. (refl, refl);
  on_time_out = λ s c. (refl, refl);
  on_end_ticket = λ s n. (refl, refl);
  on_made_volume = λ s name labels none. (refl, refl);
  on_gone_volume = λ s name unused. (refl, refl);
  on_made = λ s name spec free stand. (refl, refl);
  on_made_exec = λ s c words stdin out err found. (refl, refl);
  on_renamed = λ s c name found free. (refl, refl);
}

-- ---- one step

-- where something is due, its step is counted
pub due_counted : (s : State) (u : ℕ) (o : Option DueAction) → IsTrue (option_map_or (λ (d : DueAction). nat_le d.moment u) o false)
    → (unwrap_or (step_of o s) (still s)).state.step_count ≡ s.step_count + 1
due_counted s u None h = absurd (false≢true h)
due_counted s u (Some d) h = ap (λ n. n + 1) (runs_due leaves_closed d (at_moment d.moment s)).0

pub call_counted : (s : State) (k t : ℕ) (c : Call) → (after_step s (Step.Call k t c)).step_count ≡ s.step_count + 1
call_counted s k t c = ap (λ n. n + 1) (runs_call leaves_closed c k (at_moment t s)).0

-- ---- a history

steps_from : (s : State) (h : List Step) → AreLawful s h → length h + s.step_count ≡ (state_from s h).step_count
steps_from s [] lawful = omega arith
steps_from s (Step.Due ∷ xs) lawful =
    let one = due_counted s (latest s) (least_due s) lawful.0.1 in
    let more = steps_from (after_step s Step.Due) xs lawful.1 in
    omega (arith, one, more)
steps_from s (Step.Call k t c ∷ xs) lawful =
    let one = call_counted s k t c in
    let more = steps_from (after_step s (Step.Call k t c)) xs lawful.1 in
    omega (arith, one, more)

-- all steps are counted
pub steps_counted : (ch : Charter) (h : List Step) → IsLegal ch h → length h ≡ (state_after ch h).step_count
steps_counted ch h legal = let all = steps_from (opening_state ch) h legal.1 in omega (arith, all)

-- 64 bits count them
pub bits_count : (ch : Charter) (h : List Step) → IsLegal ch h → length h < 2 ^ 64
bits_count ch h legal =
    let all = steps_counted ch h legal in
    let most = (consistency_law ch h legal).counts.steps in
    omega (arith, all, most)

due_calls : (s : State) (o : Option DueAction) → (unwrap_or (step_of o s) (still s)).state.call_count ≡ s.call_count
due_calls s None = refl
due_calls s (Some d) =
    let one : (at_moment d.moment s).call_count + 0 ≡ s.call_count = omega arith in
    ap (λ n. n + 0) (runs_due leaves_closed d (at_moment d.moment s)).1 ∙ one

calls_from : (s : State) (d : ℕ) (h : List Step) → length (entries_from s d h) + s.call_count ≡ (state_from s h).call_count
calls_from s d [] = omega arith
calls_from s d (Step.Due ∷ xs) =
    let one : (after_step s Step.Due).call_count ≡ s.call_count = due_calls s (least_due s) in
    let more = calls_from (after_step s Step.Due) (d + 1) xs in
    omega (arith, one, more)
calls_from s d (Step.Call k t c ∷ xs) =
    let one : (after_step s (Step.Call k t c)).call_count ≡ s.call_count + 1 = ap (λ n. n + 1) (runs_call leaves_closed c k (at_moment t s)).1 in
    let more = calls_from (after_step s (Step.Call k t c)) 0 xs in
    omega (arith, one, more)

-- each call has its entry
pub counted_entries : (ch : Charter) (h : List Step) → (state_after ch h).call_count ≡ length (history_entries ch h)
counted_entries ch h = let all = calls_from (opening_state ch) 0 h in omega (arith, all)
