-- Statuses, goals, main processes and timers fit each other in a state; what a call finds of it at a container.
use Rattle.std.specs.Option.{is_some, option_map_or}
use Rattle.std.proofs.Common.{◌≡◌, ℕ, ◌==◌, Bool, true, false, not, List, [], ◌∷◌, Option, Some, None, refl, ap, sym, ◌∙◌, subst, inl, inr}
use Rattle.std.proofs.lemmas.Bool.Decides.{eqb_tells}
use Rattle.api_json.specs.Status.{is_paused, is_restarting}
use Rattle.container_table.specs.Reference.{container_by}
use Rattle.proc_kernel.specs.Processes.{Process}
use Rattle.proc_kernel.specs.Catalogue.{program_of, name_of, named, by_name, only_number, of_number, flaky_program}
use Rattle.engine_text.specs.Scripts.{Program}
use Rattle.machine_model.specs.State.{State, container_numbered}
use Rattle.machine_model.specs.Chain.{Effect}
use Rattle.machine_model.specs.Outcome.{Outcome, by_found, at_reference, refused}
use Rattle.machine_model.specs.Consistency.{is_there, FitsStatus, GoalStands}
use Rattle.machine_model.proofs.Fold.RowLemmas.{found_number}
use Rattle.machine_model.proofs.Fits.PartLemmas.{Parts, parts_of, life_of, TablesFit, Steady, Leads, Stood}
use Rattle.machine_model.proofs.Fits.LaunchLemmas.{Names, Fine, Up, Fallen, Bare, OnBy, On, Here, Local, on_weaker, on_here}
use Rattle.machine_model.proofs.Fits.MeetLemmas.{Alive, Resting, Cancelled, no_process, off_if}
use Rattle.machine_model.proofs.Fits.EndMainLemmas.{rests}
use Rattle.proc_kernel.specs.declared.catalogue.Name.{Name}
use Rattle.engine_text.specs.declared.container.Container.{Container}
use Rattle.engine_text.specs.declared.container.Found.{Found}
use Rattle.engine_text.specs.declared.container.Life.{Life}
use Rattle.engine_text.specs.declared.status.Status.{Status}
use Rattle.machine_model.specs.Refusals.{no_such_container}

-- ---- the states

-- each container fits
abbrev pub PartsFit : State → Type 0
PartsFit s = TablesFit s × ((m : ℕ) → Local (parts_of m s))

pub whole : (n : ℕ) (s : State) → Steady Local n (On Fine) s → PartsFit s
whole n s h = (h.0, λ m. elim (eqb_tells n m) [ inl e ↦ subst (λ k. Local (parts_of k s)) e.1 h.2 | inr e ↦ h.1 m e.1 ])

-- an effect at a container that was found
pub mains_found : (s : State) (c : Container) (e : State → Effect) → container_numbered c.number s ≡ Some c → Leads Local c.number (Stood c (On Fine)) e (On Fine) → PartsFit s → PartsFit (e s).state
mains_found s c e found leads h =
    whole c.number (e s).state (leads.holds s (h.0, λ m other. h.1 m, (ap life_of found, h.1 c.number)))

one_case : (s : State) (n : ℕ) (target : List ℕ) (f : Container → State → Outcome) (o : Option Container) → container_numbered n s ≡ o
    → ((c : Container) → container_numbered c.number s ≡ Some c → PartsFit (f c s).effect.state) → PartsFit s → PartsFit (option_map_or f o (refused 404 (no_such_container target)) s).effect.state
one_case s n target f None e one h = h
one_case s n target f (Some c) e one h = one c (subst (λ m. container_numbered m s ≡ Some c) (sym (found_number n c s.containers e)) e)

found_case : (s : State) (found : Found) (target : List ℕ) (f : Container → State → Outcome)
    → ((c : Container) → container_numbered c.number s ≡ Some c → PartsFit (f c s).effect.state) → PartsFit s → PartsFit (by_found found target f s).effect.state
found_case s (Found.One n) target f one h = one_case s n target f (container_numbered n s) refl one h
found_case s Found.None target f one h = h
found_case s Found.Many target f one h = h

pub mains_at : (s : State) (target : List ℕ) (f : Container → State → Outcome)
    → ((c : Container) → container_numbered c.number s ≡ Some c → PartsFit (f c s).effect.state) → PartsFit s → PartsFit (at_reference target f s).effect.state
mains_at s target f one h = found_case s (container_by s.containers target) target f one h

-- ---- programs

by_number : (o : Option ℕ) (p q : ℕ → Program) → is_there (of_number o p) ≡ is_there (of_number o q)
by_number None p q = refl
by_number (Some n) p q = refl

same_there : (name : Name) (ws : List (List ℕ)) (j k : ℕ) → is_there (by_name name ws j) ≡ is_there (by_name name ws k)
same_there Name.Hello ws j k = refl
same_there Name.Echo ws j k = refl
same_there Name.Cat ws j k = refl
same_there Name.Sleep ws j k = refl
same_there Name.Tick ws j k = refl
same_there Name.Exit ws j k = refl
same_there Name.Trap ws j k = refl
same_there Name.Deaf ws j k = refl
same_there Name.Flaky ws j k = by_number (only_number 0 1000 ws) (λ n. flaky_program n j) (λ n. flaky_program n k)
same_there Name.Noise ws j k = refl
same_there Name.Stuck ws j k = refl

named_there : (o : Option Name) (ws : List (List ℕ)) (j k : ℕ) → is_there (named o ws j) ≡ is_there (named o ws k)
named_there None ws j k = refl
named_there (Some name) ws j k = same_there name ws j k

-- whether words name a program doesn't hang on the count of starts
pub names_of : (words : List (List ℕ)) (j : ℕ) → is_there (program_of words j) ≡ true → Names words
names_of [] j h k = absurd (cc)
names_of (w ∷ ws) j h k = named_there (name_of w) ws k j ∙ h

-- ---- parts of Fine

pub fine_of : (c : Container) (v : Parts) → Stood c (On Fine) v → Fine c.life v.main v.stop v.removal v.restart
fine_of c v h = subst (λ (o : Option Life). OnBy Fine o v.main v.stop v.removal v.restart) h.0 h.1

-- of a status in which no process lives
idle : (l : Life) (u : Status) (p : Option Process) (a b c : Bool) → l.status ≡ u → (FitsStatus u (is_some p) → is_some p ≡ false) → is_restarting u ≡ false → Fine l p a b c
    → (not (l.pid == 0) ≡ false) × Bare l p a b c
idle l u p a b c is dead calm h =
    let none : is_some p ≡ false = dead (subst (λ x. FitsStatus x (is_some p)) is h.0.status) in
    (h.0.pid ∙ none, (no_process p none, off_if a (is_some p) none h.0.stop, off_if b (is_some p) none (λ e. (h.0.removal e).0), h.0.restart ∙ (ap is_restarting is ∙ calm)))

pub to_fallen : (c : Container) (u : Status) (v : Parts) → c.life.status ≡ u → (FitsStatus u (is_some v.main) → is_some v.main ≡ false) → is_restarting u ≡ false → is_paused u ≡ false → Names c.life.words
    → Stood c (On Fine) v → On Fallen v
to_fallen c u v is dead calm up words h =
    let parts = idle c.life u v.main v.stop v.removal v.restart is dead calm (fine_of c v h) in
    on_here Fallen v (c.life, h.0, (parts.0, parts.1.0, parts.1.1, parts.1.2, parts.1.3, words, ap is_paused is ∙ up))

pub to_bare : (c : Container) (u : Status) (v : Parts) → c.life.status ≡ u → (FitsStatus u (is_some v.main) → is_some v.main ≡ false) → is_restarting u ≡ false → Stood c (On Fine) v → On Bare v
to_bare c u v is dead calm h = on_here Bare v (c.life, h.0, (idle c.life u v.main v.stop v.removal v.restart is dead calm (fine_of c v h)).1)

pub to_alive : (c : Container) (u : Status) (v : Parts) → c.life.status ≡ u → (FitsStatus u (is_some v.main) → is_some v.main ≡ true) → Stood c (On Fine) v → Here Alive v
to_alive c u v is lives h =
    let fine = fine_of c v h in
    (c.life, h.0, (fine, lives (subst (λ x. FitsStatus x (is_some v.main)) is fine.0.status)))

pub to_resting : (c : Container) (v : Parts) → c.life.status ≡ Status.Restarting → Stood c (On Fine) v → Here Resting v
to_resting c v is h = (c.life, h.0, (fine_of c v h, is))

pub up_fine : (v : Parts) → On Up v → On Fine v
up_fine v h = on_weaker Up Fine (λ l p a b c k. k.0) v h

-- a restart that was given up
pub cancelled_up : (v : Parts) → Here Cancelled v → On Fine v
cancelled_up v h =
    let k = h.2 in
    let calm = rests h.0 Status.Exited v.main v.stop v.removal v.restart k.2 refl refl refl k.0.0 k.0.1 k.0.2 k.0.3 k.0.4 (λ other. k.3) in
    on_here Fine v (h.0, h.1, (calm.0, subst (GoalStands h.0.goal) (sym (ap is_some k.0.1)) k.1))
