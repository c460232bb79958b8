-- What a wake tells of the execs that it thaws.
use Rattle.std.proofs.Common.{◌≡◌, ℕ, ◌==◌, Bool, true, false, List, [], ◌∷◌, ◌++◌, Option, Some, None, refl, ap, ◌∙◌, map, if◌then◌else◌}
use Rattle.std.specs.List.{flat_map, AllByRecursion}
use Rattle.std.proofs.lemmas.Bool.{eqb-true}
use Rattle.engine_text.specs.Owner.{same_owner}
use Rattle.engine_text.specs.declared.exec.Exec.{Exec}
use Rattle.engine_text.specs.declared.owner.Owner.{Owner}
use Rattle.engine_text.specs.declared.script.Effect.{Effect as ProcessEffect}
use Rattle.engine_text.specs.declared.script.Effect.TheVariants.{Lives, Wrote, Ended}
use Rattle.proc_kernel.specs.Foretelling.{code_in}
use Rattle.proc_kernel.specs.Processes.{Process, thaw}
use Rattle.proc_kernel.specs.Tables.{Entry, process_of, effect_of, change as changed_of, without as without_of}
use Rattle.machine_model.specs.State.{State, exec_numbered, drop_process, change_exec}
use Rattle.machine_model.specs.EventTexts.{exec_die_event}
use Rattle.machine_model.specs.Chain.{and_then, change, each, tell_of, with_found}
use Rattle.machine_model.specs.Effects.EndMain.{end_exec, exec_ended}
use Rattle.machine_model.specs.Effects.Meet.{by_effect, step_process, stepped}
use Rattle.machine_events.specs.ToldMeet.{told_thaw, thawed_code}
use Rattle.machine_events.proofs.SettleLemmas.{tell_still}
use Rattle.machine_events.proofs.ToldLemmas.{AreAlike, exec_found, alike_exec, alike_both, alike_told_exec}

-- ---- another exec's process

apart : (o : Owner) (j k : ℕ) → (j == k) ≡ false → same_owner o (Owner.Exec j) ≡ true → same_owner o (Owner.Exec k) ≡ false
apart (Owner.Container n) j k other e = absurd (cc)
apart (Owner.Exec m) j k other e = ap (λ i. i == k) (eqb-true m j e) ∙ other

changed_either : (k : ℕ) (f : Process → Process) (b d : Bool) (e : Entry) (xs ys : List Entry) → (b ≡ true → d ≡ false) → same_owner e.owner (Owner.Exec k) ≡ d → process_of (Owner.Exec k) ys ≡ process_of (Owner.Exec k) xs
    → process_of (Owner.Exec k) (if b then record e { process = f e.process } ∷ xs else e ∷ ys) ≡ (if d then Some e.process else process_of (Owner.Exec k) xs)
changed_either k f true true e xs ys other is h = let no : true ≡ false = other refl in absurd (cc)
changed_either k f true false e xs ys other is h = ap (λ c. if c then Some (f e.process) else process_of (Owner.Exec k) xs) is
changed_either k f false true e xs ys other is h = ap (λ c. if c then Some e.process else process_of (Owner.Exec k) ys) is
changed_either k f false false e xs ys other is h = ap (λ c. if c then Some e.process else process_of (Owner.Exec k) ys) is ∙ h

other_changed : (j k : ℕ) (f : Process → Process) → (j == k) ≡ false → (es : List Entry) → process_of (Owner.Exec k) (changed_of (Owner.Exec j) f es) ≡ process_of (Owner.Exec k) es
other_changed j k f other [] = refl
other_changed j k f other (e ∷ es) =
    changed_either k f (same_owner e.owner (Owner.Exec j)) (same_owner e.owner (Owner.Exec k)) e es (changed_of (Owner.Exec j) f es) (apart e.owner j k other) refl (other_changed j k f other es)

without_either : (k : ℕ) (b d : Bool) (e : Entry) (xs ys : List Entry) → (b ≡ true → d ≡ false) → same_owner e.owner (Owner.Exec k) ≡ d → process_of (Owner.Exec k) ys ≡ process_of (Owner.Exec k) xs
    → process_of (Owner.Exec k) (if b then xs else e ∷ ys) ≡ (if d then Some e.process else process_of (Owner.Exec k) xs)
without_either k true true e xs ys other is h = let no : true ≡ false = other refl in absurd (cc)
without_either k true false e xs ys other is h = refl
without_either k false true e xs ys other is h = ap (λ c. if c then Some e.process else process_of (Owner.Exec k) ys) is
without_either k false false e xs ys other is h = ap (λ c. if c then Some e.process else process_of (Owner.Exec k) ys) is ∙ h

other_without : (j k : ℕ) → (j == k) ≡ false → (es : List Entry) → process_of (Owner.Exec k) (without_of (Owner.Exec j) es) ≡ process_of (Owner.Exec k) es
other_without j k other [] = refl
other_without j k other (e ∷ es) =
    without_either k (same_owner e.owner (Owner.Exec j)) (same_owner e.owner (Owner.Exec k)) e es (without_of (Owner.Exec j) es) (apart e.owner j k other) refl (other_without j k other es)

other_ended : (j k code : ℕ) (o : Option Exec) (s : State) → (j == k) ≡ false
    → process_of (Owner.Exec k) (with_found o (λ (x : Exec). and_then (tell_of (exec_die_event x.id code) x.container) (and_then (change (drop_process (Owner.Exec j))) (change (change_exec j (exec_ended code))))) s).state.processes ≡ process_of (Owner.Exec k) s.processes
other_ended j k code None s other = refl
other_ended j k code (Some x) s other =
    ap (λ (z : State). process_of (Owner.Exec k) (without_of (Owner.Exec j) z.processes)) (tell_still (exec_die_event x.id code) x.container s) ∙ other_without j k other s.processes

other_effect : (j k : ℕ) (e : ProcessEffect) (s : State) → (j == k) ≡ false → process_of (Owner.Exec k) (by_effect e (Owner.Exec j) s).state.processes ≡ process_of (Owner.Exec k) s.processes
other_effect j k Lives s other = refl
other_effect j k (Wrote stream payload) s other = refl
other_effect j k (Ended code) s other = other_ended j k code (exec_numbered j s) s other

-- a thaw of one leaves the process of another
pub other_thawed : (j k : ℕ) (s : State) → (j == k) ≡ false → process_of (Owner.Exec k) (step_process thaw (Owner.Exec j) s).state.processes ≡ process_of (Owner.Exec k) s.processes
other_thawed j k s other =
    other_effect j k (effect_of (thaw s.clock) (process_of (Owner.Exec j) s.processes)) (stepped thaw (Owner.Exec j) s) other
    ∙ other_changed j k (λ p. (thaw s.clock p).process) other s.processes

-- ---- what a thaw tells

pub effect_told : (e : ProcessEffect) (j : ℕ) (p : Process → Process) (s z : State) → AreAlike s z
    → (by_effect e (Owner.Exec j) (record z { processes = changed_of (Owner.Exec j) p z.processes })).events ≡ told_thaw (code_in e) j s
effect_told Lives j p s z a = refl
effect_told (Wrote stream payload) j p s z a = refl
effect_told (Ended code) j p s z a =
    let y : State = record z { processes = changed_of (Owner.Exec j) p z.processes } in
    let b : AreAlike s y = record { containers = a.containers; clock = a.clock; execs = a.execs } in
    exec_found code j (exec_numbered j z) y ∙ alike_told_exec code j s y b

pub thaw_alike : (e : ProcessEffect) (j : ℕ) (p : Process → Process) (s z : State) → AreAlike s z → AreAlike s (by_effect e (Owner.Exec j) (record z { processes = changed_of (Owner.Exec j) p z.processes })).state
thaw_alike Lives j p s z a = record { containers = a.containers; clock = a.clock; execs = a.execs }
thaw_alike (Wrote stream payload) j p s z a = record { containers = a.containers; clock = a.clock; execs = a.execs }
thaw_alike (Ended code) j p s z a =
    let y : State = record z { processes = changed_of (Owner.Exec j) p z.processes } in
    let b : AreAlike s y = record { containers = a.containers; clock = a.clock; execs = a.execs } in
    alike_both s y (end_exec code j y).state b (alike_exec code j y)

-- each of these has another number than those before it
abbrev pub Differ : List Exec → Type 0
Differ [] = Unit {0}
Differ (x ∷ xs) = AllByRecursion (λ (y : Exec). (x.number == y.number) ≡ false) xs × Differ xs

-- their processes are as they were
abbrev pub AreSame : State → State → List Exec → Type 0
AreSame s z xs = AllByRecursion (λ (y : Exec). process_of (Owner.Exec y.number) z.processes ≡ process_of (Owner.Exec y.number) s.processes) xs

pub same_on : (j : ℕ) (s z : State) (xs : List Exec) → AllByRecursion (λ (y : Exec). (j == y.number) ≡ false) xs → AreSame s z xs → AreSame s (step_process thaw (Owner.Exec j) z).state xs
same_on j s z [] other h = tt
same_on j s z (y ∷ ys) other h = (other_thawed j y.number z other.0 ∙ h.0, same_on j s z ys other.1 h.1)

-- the thaws of execs, one after the other, told from the state before
pub thaws_told : (xs : List Exec) (s z : State) → AreAlike s z → Differ xs → AreSame s z xs
    → (each (λ (x : Exec). step_process thaw (Owner.Exec x.number)) xs z).events ≡ flat_map (λ j. told_thaw (thawed_code j s) j s) (map (λ (x : Exec). x.number) xs)
thaws_told [] s z a d h = refl
thaws_told (x ∷ xs) s z a d h =
    let j : ℕ = x.number in
    let e : ProcessEffect = effect_of (thaw z.clock) (process_of (Owner.Exec j) z.processes) in
    let code : code_in e ≡ thawed_code j s = ap (λ o. code_in (effect_of (thaw z.clock) o)) h.0 ∙ ap (λ t. code_in (effect_of (thaw t) (process_of (Owner.Exec j) s.processes))) a.clock in
    let y : State = (step_process thaw (Owner.Exec j) z).state in
    ap (λ l. l ++ (each (λ (x : Exec). step_process thaw (Owner.Exec x.number)) xs y).events) (effect_told e j (λ p. (thaw z.clock p).process) s z a ∙ ap (λ c. told_thaw c j s) code)
    ∙ ap (λ l. told_thaw (thawed_code j s) j s ++ l) (thaws_told xs s y (thaw_alike e j (λ p. (thaw z.clock p).process) s z a) d.1 (same_on j s z xs d.0 h.1))

-- what is told of execs stays
pub thaws_alike : (xs : List Exec) (s z : State) → AreAlike s z → AreAlike s (each (λ (x : Exec). step_process thaw (Owner.Exec x.number)) xs z).state
thaws_alike [] s z a = a
thaws_alike (x ∷ xs) s z a =
    let j : ℕ = x.number in
    thaws_alike xs s (step_process thaw (Owner.Exec j) z).state (thaw_alike (effect_of (thaw z.clock) (process_of (Owner.Exec j) z.processes)) j (λ p. (thaw z.clock p).process) s z a)
