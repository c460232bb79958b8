-- What fits still fits behind feeds and the end of input.
use Rattle.std.proofs.Common.{◌≡◌, ℕ, Bool, true, false, List, [], ◌∷◌, ◌++◌, Option, Some, None, if◌then◌else◌, refl, ap, ◌∙◌, ◌≤◌, arith}
use Rattle.std.specs.Prelude.{option_map}
use Rattle.proc_kernel.specs.Processes.{Process, is_frozen, feed, feed_end, ready_pace, is_copy_next}
use Rattle.machine_model.specs.State.{State, container_numbered, change_process}
use Rattle.machine_model.specs.Chain.{change}
use Rattle.machine_model.specs.Calls.Feed as feeds
use Rattle.machine_model.specs.Streams.{RunState, Coming, Live as Lives_on, Over, run_state}
use Rattle.machine_model.proofs.Fits.PartLemmas.{Leads}
use Rattle.machine_model.proofs.Fits.MainPartLemmas.{leads_process, leads_exec_process}
use Rattle.machine_model.proofs.Fits.LaunchLemmas.{Fine, OnBy, On, Local}
use Rattle.machine_model.proofs.Processes.LimitLemmas.{feed_room, feed_end_fits}
use Rattle.machine_model.proofs.Fits.CallLemmas.{PartsFit, whole}
use Rattle.engine_text.specs.declared.owner.Owner.{Owner}
use Rattle.engine_text.specs.declared.owner.Owner.TheVariants.{Container as OfContainer, Exec as OfExec}
use Rattle.engine_text.specs.declared.container.Container.{Container}
use Rattle.engine_text.specs.declared.container.Life.{Life}
use Rattle.engine_text.specs.declared.script.Pace.{Pace}
use Rattle.engine_text.specs.declared.script.Pace.TheVariants.{Running as Goes, Frozen}

-- ---- a change that leaves the process frozen or not

same_pace : (f : Process → Process) → ((q : Process) → is_frozen (f q).pace ≡ is_frozen q.pace) → (l : Life) (p : Option Process) (a b c : Bool) → Fine l p a b c → Fine l (option_map f p) a b c
same_pace f k l None a b c h = h
same_pace f k l (Some q) a b c h = (
  record {
    status = h.0.status;
    frozen = k q ∙ h.0.frozen;
    pid = h.0.pid;
    stop = h.0.stop;
    removal = h.0.removal;
    restart = h.0.restart;
    program = h.0.program;
    again = h.0.again;
    started = h.0.started;
  },
  h.1,
)

paced_by : (f : Process → Process) → ((q : Process) → is_frozen (f q).pace ≡ is_frozen q.pace) → (o : Option Life) (p : Option Process) (a b c : Bool) → OnBy Fine o p a b c → OnBy Fine o (option_map f p) a b c
paced_by f k None p a b c h = (ap (option_map f) h.0, h.1, h.2, h.3)
paced_by f k (Some l) p a b c h = same_pace f k l p a b c h

pub mains_paced : (owner : Owner) (f : Process → Process) → ((q : Process) → is_frozen (f q).pace ≡ is_frozen q.pace) → ((q : Process) → (f q).room ≤ q.room) → (s : State) → PartsFit s → PartsFit (change_process owner f s)
mains_paced (OfContainer n) f k less s h =
    let one : Leads Local n (On Fine) (change (λ s. change_process (OfContainer n) f s)) (On Fine) =
    leads_process (λ s. f) (λ s v fine. paced_by f k v.life v.main v.stop v.removal v.restart fine) (λ s q. less q) in
    whole n (change_process (OfContainer n) f s) (one.holds s (h.0, λ m other. h.1 m, h.1 n))
mains_paced (OfExec n) f k less s h =
    let one : Leads Local n (On Fine) (change (λ s. change_process (OfExec n) f s)) (On Fine) = leads_exec_process n (λ s. f) (λ s q. k q) (λ s q. less q) in
    whole n (change_process (OfExec n) f s) (one.holds s (h.0, λ m other. h.1 m, h.1 n))

-- ---- feeds

ready_same : (t : ℕ) (pace : Pace) → is_frozen (ready_pace t pace) ≡ is_frozen pace
ready_same t (Goes due) = refl
ready_same t (Frozen left) = refl

awake_same : (b : Bool) (t : ℕ) (p : Process) → is_frozen (if b then record p { pace = ready_pace t p.pace } else p).pace ≡ is_frozen p.pace
awake_same true t p = ready_same t p.pace
awake_same false t p = refl

feed_same : (bytes : List ℕ) (t : ℕ) (q : Process) → is_frozen (feed bytes t q).pace ≡ is_frozen q.pace
feed_same bytes t q = awake_same (is_copy_next q.left) t (record q { input = q.input ++ bytes ∷ [] })

end_same : (t : ℕ) (q : Process) → is_frozen (feed_end t q).pace ≡ is_frozen q.pace
end_same t q = awake_same (is_copy_next q.left) t (record q { ended = true })

feed_by : (owner : Owner) (bytes : List ℕ) (s : State) (r : RunState) → PartsFit s → PartsFit (feeds.feed_by r owner bytes s).effect.state
feed_by owner bytes s Lives_on h = mains_paced owner (feed bytes s.clock) (λ q. feed_same bytes s.clock q) (λ q. let same = feed_room bytes s.clock q in omega (arith, same)) s h
feed_by owner bytes s Over h = h
feed_by owner bytes s Coming h = h

pub feed_mains : (owner : Owner) (run : ℕ) (bytes : List ℕ) (s : State) → PartsFit s → PartsFit (feeds.feed_outcome owner run bytes s).effect.state
feed_mains owner run bytes s h = feed_by owner bytes s (run_state owner run s) h

end_if : (b : Bool) (owner : Owner) (s : State) → PartsFit s → PartsFit (feeds.ends_if b owner s).state
end_if true owner s h = mains_paced owner (feed_end s.clock) (λ q. end_same s.clock q) (λ q. (feed_end_fits s.clock q).room) s h
end_if false owner s h = h

end_with : (o : Option Container) (owner : Owner) (s : State) → PartsFit s → PartsFit (feeds.ends_with o owner s).state
end_with None owner s h = h
end_with (Some c) owner s h = end_if c.life.stdin_once owner s h

end_owner : (owner : Owner) (s : State) → PartsFit s → PartsFit (feeds.end_by_owner owner s).state
end_owner (OfExec n) s h = mains_paced (OfExec n) (feed_end s.clock) (λ q. end_same s.clock q) (λ q. (feed_end_fits s.clock q).room) s h
end_owner (OfContainer n) s h = end_with (container_numbered n s) (OfContainer n) s h

end_by : (owner : Owner) (s : State) (r : RunState) → PartsFit s → PartsFit (feeds.feed_end_by r owner s).effect.state
end_by owner s Lives_on h = end_owner owner s h
end_by owner s Over h = h
end_by owner s Coming h = h

pub feed_end_mains : (owner : Owner) (run : ℕ) (s : State) → PartsFit s → PartsFit (feeds.feed_end_outcome owner run s).effect.state
feed_end_mains owner run s h = end_by owner s (run_state owner run s) h
