-- Numbers, tickets, process ids, starts and restarts rise by at most what an effect costs.
use Rattle.std.proofs.Common.{◌≡◌, ℕ, ◌+◌, ◌≤◌, ◌==◌, Bool, true, false, List, [], ◌∷◌, if◌then◌else◌, map, length, refl, ap, sym, ◌∙◌, subst, arith, None}
use Rattle.std.proofs.lemmas.List.{length-map, length-append}
use Rattle.std.specs.List.{AllByRecursion}
use Rattle.container_table.specs.Lists.{update_first, remove_first}
use Rattle.proc_kernel.specs.Processes.{Process}
use Rattle.proc_kernel.specs.Tables.{process_of, effect_of}
use Rattle.machine_model.specs.State.{State, change_life, change_process}
use Rattle.machine_model.specs.Chain.{Effect, Died, after, renew, still}
use Rattle.machine_model.specs.Effects.Launch.{launched}
use Rattle.machine_model.specs.Effects.Destroy.{last_answer}
use Rattle.machine_model.specs.Effects.Meet.{logged}
use Rattle.machine_model.specs.Due.{restarted}
use Rattle.machine_model.specs.Calls.Rename.{named}
use Rattle.machine_model.proofs.ListLemmas.{all_append, all_weaken}
use Rattle.machine_model.proofs.Fold.RowLemmas.{made}
use Rattle.machine_model.proofs.ChangeLemmas.{all_updated, all_removed}
use Rattle.machine_model.proofs.Costs.CostLemmas.{Cost, none, tells, plus, IsPriced, write_part}
use Rattle.machine_model.proofs.Costs.ExecEndLemmas.{Level, level_end, level_ends}
use Rattle.engine_text.specs.declared.container.Container.{Container}
use Rattle.engine_text.specs.declared.event.Event.{Event}
use Rattle.engine_text.specs.declared.owner.Owner.{Owner}
use Rattle.engine_text.specs.declared.owner.Owner.TheVariants.{Container as OfContainer, Exec as OfExec}
use Rattle.engine_text.specs.declared.script.Effect.{Effect as ProcessEffect}
use Rattle.engine_text.specs.declared.script.Effect.TheVariants.{Lives, Wrote, Ended}
use Rattle.engine_text.specs.declared.container.Life.{Life}
use Rattle.machine_model.proofs.Costs.CostLemmas.{IsMost}

abbrev pub Started : ℕ → List Container → Type 0
Started b cs = AllByRecursion (λ c. c.life.starts ≤ b) cs

abbrev pub Retried : ℕ → List Container → Type 0
Retried b cs = AllByRecursion (λ c. c.life.restarts ≤ b) cs

pub record Counted (x : Cost) (s : State) (e : Effect) : Type 0 where
  pub numbers : e.state.next_number ≤ s.next_number + x.makes
  pub next_ticket : e.state.next_ticket ≤ s.next_ticket + x.asks
  pub tickets : length e.state.tickets ≤ length s.tickets + x.asks
  pub pids : e.state.next_pid ≤ s.next_pid + x.spawns
  pub starts : (b : ℕ) → Started b s.containers → Started (b + x.spawns) e.state.containers
  pub restarts : (b : ℕ) → Retried b s.containers → Retried (b + x.retries) e.state.containers
  pub steps : e.state.step_count ≡ s.step_count
  pub events : e.state.event_count ≡ s.event_count
  pub clock : e.state.clock ≡ s.clock
  pub calls : e.state.call_count ≡ s.call_count

started_more : (b c : ℕ) (cs : List Container) → b ≤ c → Started b cs → Started c cs
started_more b c cs low h = all_weaken (λ (d : Container). d.life.starts ≤ b) (λ d. d.life.starts ≤ c) (λ d k. omega (arith, k, low)) cs h

retried_more : (b c : ℕ) (cs : List Container) → b ≤ c → Retried b cs → Retried c cs
retried_more b c cs low h = all_weaken (λ (d : Container). d.life.restarts ≤ b) (λ d. d.life.restarts ≤ c) (λ d k. omega (arith, k, low)) cs h

-- where only the containers change
counted_by : (x : Cost) (s t : State) (events : List Event) (died : List Died) → t.next_number ≡ s.next_number → t.next_ticket ≡ s.next_ticket → length t.tickets ≤ length s.tickets → t.next_pid ≡ s.next_pid
    → t.step_count ≡ s.step_count → t.event_count ≡ s.event_count → t.clock ≡ s.clock → t.call_count ≡ s.call_count → ((b : ℕ) → Started b s.containers → Started b t.containers) → ((b : ℕ) → Retried b s.containers → Retried b t.containers)
    → Counted x s (record { state = t; events = events; died = died })
counted_by x s t events died e f g p q r m u starts retries = record {
  numbers = omega (arith, e);
  next_ticket = omega (arith, f);
  tickets = omega (arith, g);
  pids = omega (arith, p);
  starts = λ b h. started_more b (b + x.spawns) t.containers (omega arith) (starts b h);
  restarts = λ b h. retried_more b (b + x.retries) t.containers (omega arith) (retries b h);
  steps = q;
  events = r;
  clock = m;
  calls = u;
}

counted_same : (x : Cost) (s t : State) (events : List Event) (died : List Died) → Level s t → Counted x s (record { state = t; events = events; died = died })
counted_same x s t events died h =
    counted_by x s t events died h.next_number h.next_ticket (let same : length t.tickets ≡ length s.tickets = ap length h.tickets in omega (arith, same)) h.next_pid h.steps h.events h.clock h.calls
    (λ b k. subst (Started b) (sym h.containers) k) (λ b k. subst (Retried b) (sym h.containers) k)

counted_after : (x y : Cost) (s : State) (a b : Effect) → Counted x s a → Counted y a.state b → Counted (plus x y) s (after a b)
counted_after x y s a b first second = record {
  numbers = omega (arith, first.numbers, second.numbers);
  next_ticket = omega (arith, first.next_ticket, second.next_ticket);
  tickets = omega (arith, first.tickets, second.tickets);
  pids = omega (arith, first.pids, second.pids);
  starts = λ n h. started_more (n + x.spawns + y.spawns) (n + (x.spawns + y.spawns)) b.state.containers (omega arith) (second.starts (n + x.spawns) (first.starts n h));
  restarts = λ n h. retried_more (n + x.retries + y.retries) (n + (x.retries + y.retries)) b.state.containers (omega arith) (second.restarts (n + x.retries) (first.restarts n h));
  steps = second.steps ∙ first.steps;
  events = second.events ∙ first.events;
  clock = second.clock ∙ first.clock;
  calls = second.calls ∙ first.calls;
}

-- a change of containers
quiet_containers : (x : Cost) (s : State) (n : ℕ) (f : Life → Life)
    → ((l : Life) → (f l).starts ≡ l.starts) → ((l : Life) → (f l).restarts ≤ l.restarts)
    → Counted x s (renew n f s)
quiet_containers x s n f starts restarts =
    counted_by x s (change_life n f s) [] [] refl refl (omega arith) refl refl refl refl refl
    (λ b h. all_updated (λ (c : Container). c.life.starts ≤ b) (λ c. c.number == n) (made (λ name. name) f) (λ c k. let same : (f c.life).starts ≡ c.life.starts = starts c.life in omega (arith, k, same)) s.containers h)
    (λ b h. all_updated (λ (c : Container). c.life.restarts ≤ b) (λ c. c.number == n) (made (λ name. name) f) (λ c k. let less : (f c.life).restarts ≤ c.life.restarts = restarts c.life in omega (arith, k, less)) s.containers h)

-- what a step writes
written : (s : State) (owner : Owner) (f : Process → Process) (e : ProcessEffect)
    → Counted none s (after (still (change_process owner f s)) (write_part e owner (change_process owner f s)))
written s owner f Lives = counted_by none s (change_process owner f s) [] [] refl refl (omega arith) refl refl refl refl refl (λ b h. h) (λ b h. h)
written s owner f (Ended code) = counted_by none s (change_process owner f s) [] [] refl refl (omega arith) refl refl refl refl refl (λ b h. h) (λ b h. h)
written s (OfExec n) f (Wrote stream payload) = counted_by none s _ [] [] refl refl (omega arith) refl refl refl refl refl (λ b h. h) (λ b h. h)
written s (OfContainer n) f (Wrote stream payload) =
    let t : State = change_process (OfContainer n) f s in
    let one = quiet_containers none t n (logged stream payload t.clock) (λ l. refl) (λ l. omega arith) in
    record {
      numbers = one.numbers;
      next_ticket = one.next_ticket;
      tickets = one.tickets;
      pids = one.pids;
      starts = one.starts;
      restarts = one.restarts;
      steps = one.steps;
      events = one.events;
      clock = one.clock;
      calls = one.calls;
    }

removed_by : {A : Type 0} (b : Bool) (x : A) (xs ys : List A) → length ys ≤ length xs → length (if b then xs else x ∷ ys) ≤ length (x ∷ xs)
removed_by true x xs ys h = let longer : length (x ∷ xs) ≡ 1 + length xs = omega arith in omega (arith, longer)
removed_by false x xs ys h =
    let longer : length (x ∷ xs) ≡ 1 + length xs = omega arith in
    let other : length (x ∷ ys) ≡ 1 + length ys = omega arith in
    omega (arith, longer, other, h)

removed_least : {A : Type 0} (p : A → Bool) (xs : List A) → length (remove_first p xs) ≤ length xs
removed_least p [] = omega arith
removed_least p (x ∷ xs) = removed_by (p x) x xs (remove_first p xs) (removed_least p xs)

mapped_least : {A : Type 0} (f : A → A) (xs : List A) → length (map f xs) ≤ length xs
mapped_least f xs = let same : length (map f xs) ≡ length xs = length-map xs f in omega (arith, same)

-- a change of the first raises a bound
raised_by : (P Q : Container → Type 0) (b : Bool) (x y : Container) (xs new : List Container) → (P x → Q x) → (P x → Q y) → P x → AllByRecursion Q xs → AllByRecursion Q new → AllByRecursion Q (if b then y ∷ xs else x ∷ new)
raised_by P Q true x y xs new k m h rest more = (m h, rest)
raised_by P Q false x y xs new k m h rest more = (k h, more)

raised : (P Q : Container → Type 0) (p : Container → Bool) (f : Container → Container) → ((x : Container) → P x → Q x) → ((x : Container) → P x → Q (f x)) → (xs : List Container) → AllByRecursion P xs → AllByRecursion Q (update_first p f xs)
raised P Q p f k m [] h = tt
raised P Q p f k m (x ∷ xs) h = raised_by P Q (p x) x (f x) xs (update_first p f xs) (k x) (m x) h.0 (all_weaken P Q k xs h.1) (raised P Q p f k m xs h.1)

pub counted_priced : IsPriced (Unit {0}) (λ n. Unit {0}) Counted
counted_priced = record {
  on_still = λ s. counted_by none s s [] [] refl refl (omega arith) refl refl refl refl refl (λ b h. h) (λ b h. h);
  on_after = counted_after;
  on_more = λ x y s e lows h. let low : IsMost x y = lows tt in record {
    numbers = omega (arith, h.numbers, low.makes);
    next_ticket = omega (arith, h.next_ticket, low.asks);
    tickets = omega (arith, h.tickets, low.asks);
    pids = omega (arith, h.pids, low.spawns);
    starts = λ b k. started_more (b + x.spawns) (b + y.spawns) e.state.containers (omega (arith, low.spawns)) (h.starts b k);
    restarts = λ b k. retried_more (b + x.retries) (b + y.retries) e.state.containers (omega (arith, low.retries)) (h.restarts b k);
    steps = h.steps;
    events = h.events;
    clock = h.clock;
    calls = h.calls;
  };
  on_told = λ s v at. counted_by (tells 1) s s _ [] refl refl (omega arith) refl refl refl refl refl (λ b h. h) (λ b h. h);
  on_mounts = λ s a c found. counted_by (tells 16) s s _ [] refl refl (omega arith) refl refl refl refl refl (λ b h. h) (λ b h. h);
  on_ended = λ s d. counted_by none s s [] _ refl refl (omega arith) refl refl refl refl refl (λ b h. h) (λ b h. h);
  on_renew = λ s n f mark. quiet_containers none s n f mark.starts mark.restarts;
  on_retry = λ s n. record {
    numbers = omega arith;
    next_ticket = omega arith;
    tickets = omega arith;
    pids = omega arith;
    starts = λ b h. started_more b (b + 0) _ (omega arith) (all_updated (λ (c : Container). c.life.starts ≤ b) (λ c. c.number == n) (made (λ name. name) restarted) (λ c k. k) s.containers h);
    restarts = λ b h. raised (λ (c : Container). c.life.restarts ≤ b) (λ c. c.life.restarts ≤ b + 1) (λ c. c.number == n) (made (λ name. name) restarted) (λ c k. omega (arith, k)) (λ c k. omega (arith, k)) s.containers h;
    steps = refl;
    events = refl;
    clock = refl;
    calls = refl;
  };
  on_step = λ s owner step is. written s owner (λ p. (step s.clock p).process) (effect_of (step s.clock) (process_of owner s.processes));
  on_move = λ s owner f fits. counted_by none s _ [] [] refl refl (omega arith) refl refl refl refl refl (λ b h. h) (λ b h. h);
  on_feed = λ s owner bytes fits. counted_by none s _ [] [] refl refl (omega arith) refl refl refl refl refl (λ b h. h) (λ b h. h);
  on_drop = λ s n. counted_by none s _ [] [] refl refl (omega arith) refl refl refl refl refl (λ b h. h) (λ b h. h);
  on_end_exec = λ s code n p e. counted_same none s _ _ _ (level_end code n s);
  on_end_execs = λ s n. counted_same none s _ _ _ (level_ends n s);
  on_launch = λ s c program found short. record {
    numbers = omega arith;
    next_ticket = omega arith;
    tickets = omega arith;
    pids = omega arith;
    starts = λ b h. raised (λ (d : Container). d.life.starts ≤ b) (λ d. d.life.starts ≤ b + 1) (λ d. d.number == c.number) (made (λ name. name) (launched s)) (λ d k. omega (arith, k)) (λ d k. omega (arith, k)) s.containers h;
    restarts = λ b h. retried_more b (b + 0) _ (omega arith) (all_updated (λ (d : Container). d.life.restarts ≤ b) (λ d. d.number == c.number) (made (λ name. name) (launched s)) (λ d k. k) s.containers h);
    steps = refl;
    events = refl;
    clock = refl;
    calls = refl;
  };
  on_start_exec = λ s id x program stdin found fresh short. record {
    numbers = omega arith;
    next_ticket = omega arith;
    tickets = omega arith;
    pids = omega arith;
    starts = λ b h. started_more b (b + 1) s.containers (omega arith) h;
    restarts = λ b h. retried_more b (b + 0) s.containers (omega arith) h;
    steps = refl;
    events = refl;
    clock = refl;
    calls = refl;
  };
  on_timers = λ s timers keeps. counted_by none s _ [] [] refl refl (omega arith) refl refl refl refl refl (λ b h. h) (λ b h. h);
  on_destroyed = λ s c there. counted_by none s _ [] [] refl refl (mapped_least (last_answer c) s.tickets) refl refl refl refl refl
      (λ b h. all_removed (λ (d : Container). d.life.starts ≤ b) (λ d. d.number == c.number) s.containers h) (λ b h. all_removed (λ (d : Container). d.life.restarts ≤ b) (λ d. d.number == c.number) s.containers h);
  on_begun = λ s connection c asked there. record {
    numbers = omega arith;
    next_ticket = omega arith;
    tickets = let longer = length-append s.tickets (record { number = s.next_ticket; connection = connection; container = c.number; asked = asked; reply = None } ∷ []) in omega (arith, longer);
    pids = omega arith;
    starts = λ b h. started_more b (b + 0) s.containers (omega arith) h;
    restarts = λ b h. retried_more b (b + 0) s.containers (omega arith) h;
    steps = refl;
    events = refl;
    clock = refl;
    calls = refl;
  };
  on_time_out = λ s c. counted_by none s _ [] [] refl refl (mapped_least _ s.tickets) refl refl refl refl refl (λ b h. h) (λ b h. h);
  on_end_ticket = λ s n ends. counted_by none s _ [] [] refl refl (removed_least (λ t. t.number == n) s.tickets) refl refl refl refl refl (λ b h. h) (λ b h. h);
  on_volumes = λ s name labels free. counted_by none s _ [] [] refl refl (omega arith) refl refl refl refl refl (λ b h. h) (λ b h. h);
  on_gone_volume = λ s name unused. counted_by none s _ [] [] refl refl (omega arith) refl refl refl refl refl (λ b h. h) (λ b h. h);
  on_made = λ s name spec few free stand. record {
    numbers = omega arith;
    next_ticket = omega arith;
    tickets = omega arith;
    pids = omega arith;
    starts = λ b h. all_append (λ (c : Container). c.life.starts ≤ b + 0) s.containers _ (started_more b (b + 0) s.containers (omega arith) h) (omega arith, tt);
    restarts = λ b h. all_append (λ (c : Container). c.life.restarts ≤ b + 0) s.containers _ (retried_more b (b + 0) s.containers (omega arith) h) (omega arith, tt);
    steps = refl;
    events = refl;
    clock = refl;
    calls = refl;
  };
  on_made_exec = λ s c words stdin out err there. record {
    numbers = omega arith;
    next_ticket = omega arith;
    tickets = omega arith;
    pids = omega arith;
    starts = λ b h. started_more b (b + 0) s.containers (omega arith) h;
    restarts = λ b h. retried_more b (b + 0) s.containers (omega arith) h;
    steps = refl;
    events = refl;
    clock = refl;
    calls = refl;
  };
  on_renamed = λ s c name there free. counted_by none s _ [] [] refl refl (omega arith) refl refl refl refl refl
      (λ b h. all_updated (λ (d : Container). d.life.starts ≤ b) (λ d. d.number == c.number) (named name) (λ d k. k) s.containers h)
      (λ b h. all_updated (λ (d : Container). d.life.restarts ≤ b) (λ d. d.number == c.number) (named name) (λ d k. k) s.containers h);
}
