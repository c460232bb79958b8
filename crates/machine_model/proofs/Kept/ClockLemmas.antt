-- Each container was created, launched and ended at or before the clock, and each volume made, through every effect.
use Rattle.std.proofs.Common.{ℕ, ◌≤◌, ◌==◌, List, Option, Some, None, sym, subst, arith}
use Rattle.std.specs.List.{AllByRecursion}
use Rattle.engine_text.specs.Texts.{same_bytes}
use Rattle.container_table.specs.Lists.{update_first}
use Rattle.proc_kernel.specs.Processes.{Process}
use Rattle.proc_kernel.specs.Tables.{process_of, effect_of}
use Rattle.machine_model.specs.State.{State, change_process}
use Rattle.machine_model.specs.Chain.{Effect, after, still}
use Rattle.machine_model.specs.Due.{restarted}
use Rattle.machine_model.specs.Effects.Launch.{launched}
use Rattle.machine_model.specs.Effects.Meet.{logged}
use Rattle.machine_model.specs.Calls.Create.{new_volume}
use Rattle.machine_model.specs.Ranges.{HasPassed, IsPast}
use Rattle.machine_model.specs.Step.{at_moment}
use Rattle.machine_model.proofs.ListLemmas.{all_append, all_weaken}
use Rattle.machine_model.proofs.ChangeLemmas.{all_updated, all_removed}
use Rattle.machine_model.proofs.VolumeLemmas.{all_placed}
use Rattle.machine_model.proofs.Fold.RowLemmas.{made}
use Rattle.machine_model.proofs.Costs.CostLemmas.{Cost, none, IsPriced, write_part}
use Rattle.machine_model.proofs.Costs.ExecEndLemmas.{Level, level_end, level_ends}
use Rattle.engine_text.specs.declared.container.Container.{Container}
use Rattle.engine_text.specs.declared.container.Life.{Life}
use Rattle.engine_text.specs.declared.owner.Owner.{Owner}
use Rattle.engine_text.specs.declared.owner.Owner.TheVariants.{Container as OfContainer, Exec as OfExec}
use Rattle.engine_text.specs.declared.script.Effect.{Effect as ProcessEffect}
use Rattle.engine_text.specs.declared.script.Effect.TheVariants.{Lives, Wrote, Ended}
use Rattle.engine_text.specs.declared.volume.Volume.{Volume}

abbrev pub ArePast : ℕ → List Container → Type 0
ArePast t cs = AllByRecursion (λ c. IsPast t c.life) cs

abbrev pub AreMade : ℕ → List Volume → Type 0
AreMade t vs = AllByRecursion (λ v. v.created ≤ t) vs

abbrev pub Past : State → Type 0
Past s = ArePast s.clock s.containers × AreMade s.clock s.volumes

abbrev pub KeepsPast : Cost → State → Effect → Type 0
KeepsPast x s e = Past s → Past e.state

-- ---- a later clock

passed_later : (t u : ℕ) (o : Option ℕ) → t ≤ u → HasPassed t o → HasPassed u o
passed_later t u None low h = tt
passed_later t u (Some m) low h = omega (arith, low, h)

past_life : (t u : ℕ) (l : Life) → t ≤ u → IsPast t l → IsPast u l
past_life t u l low h = (omega (arith, low, h.0), passed_later t u l.started low h.1, passed_later t u l.finished low h.2)

pub past_at : (s : State) (t : ℕ) → s.clock ≤ t → Past s → Past (at_moment t s)
past_at s t low h = (
  all_weaken (λ (c : Container). IsPast s.clock c.life) (λ c. IsPast t c.life) (λ c past. past_life s.clock t c.life low past) s.containers h.0,
  all_weaken (λ (v : Volume). v.created ≤ s.clock) (λ v. v.created ≤ t) (λ v made. omega (arith, low, made)) s.volumes h.1,
)

-- ---- every effect

past_level : (s t : State) → Level s t → Past s → Past t
past_level s t h past = (
  subst (λ m. ArePast m t.containers) (sym h.clock) (subst (ArePast s.clock) (sym h.containers) past.0),
  subst (λ m. AreMade m t.volumes) (sym h.clock) (subst (AreMade s.clock) (sym h.volumes) past.1),
)

past_updated : (t n : ℕ) (g : List ℕ → List ℕ) (f : Life → Life) (cs : List Container) → ((l : Life) → IsPast t l → IsPast t (f l)) → ArePast t cs → ArePast t (update_first (λ c. c.number == n) (made g f) cs)
past_updated t n g f cs keeps h = all_updated (λ (c : Container). IsPast t c.life) (λ c. c.number == n) (made g f) (λ c past. keeps c.life past) cs h

past_written : (s : State) (owner : Owner) (f : Process → Process) (e : ProcessEffect)
    → KeepsPast none s (after (still (change_process owner f s)) (write_part e owner (change_process owner f s)))
past_written s owner f Lives h = h
past_written s owner f (Ended code) h = h
past_written s (OfExec n) f (Wrote stream payload) h = h
past_written s (OfContainer n) f (Wrote stream payload) h = (past_updated s.clock n (λ name. name) (logged stream payload s.clock) s.containers (λ l past. past) h.0, h.1)

pub past_priced : IsPriced (Unit {0}) (λ n. Unit {0}) KeepsPast
past_priced = record {
  on_still = λ s h. h;
  on_after = λ x y s a b first second h. second (first h);
  on_more = λ x y s e low h. h;
  on_told = λ s v at h. h;
  on_mounts = λ s a c found h. h;
  on_ended = λ s d h. h;
  on_renew = λ s n f mark h. (past_updated s.clock n (λ name. name) f s.containers mark.moments h.0, h.1);
  on_retry = λ s n h. (past_updated s.clock n (λ name. name) restarted s.containers (λ l past. past) h.0, h.1);
  on_step = λ s owner step is. past_written s owner (λ p. (step s.clock p).process) (effect_of (step s.clock) (process_of owner s.processes));
  on_move = λ s owner f fits h. h;
  on_feed = λ s owner bytes fits h. h;
  on_drop = λ s n h. h;
  on_end_exec = λ s code n p e h. past_level s _ (level_end code n s) h;
  on_end_execs = λ s n h. past_level s _ (level_ends n s) h;
  on_launch = λ s c program found short h. (past_updated s.clock c.number (λ name. name) (launched s) s.containers (λ l past. (past.0, omega arith, past.2)) h.0, h.1);
  on_start_exec = λ s id x program stdin found fresh short h. h;
  on_timers = λ s timers keeps h. h;
  on_destroyed = λ s c there h. (all_removed (λ (d : Container). IsPast s.clock d.life) (λ d. d.number == c.number) s.containers h.0, h.1);
  on_begun = λ s connection c asked there h. h;
  on_time_out = λ s c h. h;
  on_end_ticket = λ s n ends h. h;
  on_volumes = λ s name labels free h. (h.0, all_placed (λ (v : Volume). v.created ≤ s.clock) (new_volume name labels s.clock) s.volumes (omega arith) h.1);
  on_gone_volume = λ s name unused h. (h.0, all_removed (λ (v : Volume). v.created ≤ s.clock) (λ v. same_bytes v.name name) s.volumes h.1);
  on_made = λ s name spec most free stand h. (all_append (λ (c : Container). IsPast s.clock c.life) s.containers _ h.0 ((omega arith, tt, tt), tt), h.1);
  on_made_exec = λ s c words stdin out err there h. h;
  on_renamed = λ s c name there free h. (past_updated s.clock c.number (λ old. name) (λ l. l) s.containers (λ l past. past) h.0, h.1);
}
