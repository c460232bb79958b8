-- What is told before a signal is what the signal tells.
use Rattle.std.proofs.Common.{◌≡◌, ℕ, ◌+◌, ◌==◌, Bool, true, false, List, [], ◌∷◌, Option, Some, None, refl, ap, sym, ◌∙◌, find, if◌then◌else◌}
use Rattle.std.specs.Prelude.{option_map}
use Rattle.engine_text.specs.Scripts.{Program}
use Rattle.engine_text.specs.declared.container.Container.{Container}
use Rattle.engine_text.specs.declared.container.Life.{Life}
use Rattle.engine_text.specs.declared.exec.Exec.{Exec}
use Rattle.engine_text.specs.declared.owner.Owner.{Owner}
use Rattle.engine_text.specs.declared.script.Effect.{Effect as ProcessEffect}
use Rattle.engine_text.specs.declared.script.Effect.TheVariants.{Lives, Wrote, Ended}
use Rattle.container_table.specs.Lists.{update_first}
use Rattle.proc_kernel.specs.Catalogue.{program_of}
use Rattle.proc_kernel.specs.Foretelling.{code_at, code_in}
use Rattle.proc_kernel.specs.Processes.{Process, signal}
use Rattle.proc_kernel.specs.Tables.{process_of, effect_of, change as changed_of}
use Rattle.machine_model.specs.State.{State, container_numbered, change_life}
use Rattle.machine_model.specs.EventTexts.{exec_die_event}
use Rattle.machine_model.specs.Effects.Meet.{by_effect, send}
use Rattle.machine_events.specs.Foretold.{told_of, told_exec, running_numbers, told_end, told_code}
use Rattle.machine_events.specs.ChangedLives.{renewed}
use Rattle.machine_events.proofs.ToldLemmas.{end_told, running_changed}

-- ---- a change of a life leaves what is told

face_either : {A B : Type 0} (g : A → B) (p : A → Bool) (f : A → A) (b d : Bool) (x : A) (xs ys : List A) → g (f x) ≡ g x → p (f x) ≡ d → p x ≡ d → option_map g (find p ys) ≡ option_map g (find p xs)
    → option_map g (find p (if b then f x ∷ xs else x ∷ ys)) ≡ option_map g (if d then Some x else find p xs)
face_either g p f true true x xs ys e h k r = ap (λ c. option_map g (if c then Some (f x) else find p xs)) h ∙ ap (λ y. Some y) e
face_either g p f true false x xs ys e h k r = ap (λ c. option_map g (if c then Some (f x) else find p xs)) h
face_either g p f false true x xs ys e h k r = ap (λ c. option_map g (if c then Some x else find p ys)) k
face_either g p f false false x xs ys e h k r = ap (λ c. option_map g (if c then Some x else find p ys)) k ∙ r

face_updated : {A B : Type 0} (g : A → B) (p q : A → Bool) (f : A → A) → ((x : A) → g (f x) ≡ g x) → ((x : A) → p (f x) ≡ p x) → (xs : List A) → option_map g (find p (update_first q f xs)) ≡ option_map g (find p xs)
face_updated g p q f e k [] = refl
face_updated g p q f e k (x ∷ xs) = face_either g p f (q x) (p x) x xs (update_first q f xs) (e x) (k x) refl (face_updated g p q f e k xs)

-- what events show of a container
record Plate : Type 0 where
  id : List ℕ
  name : List ℕ

abbrev plate : Container → Plate
plate c = record { id = c.id; name = c.name }

plated : (id : List ℕ) (code t : ℕ) (a b : Option Container) → option_map plate a ≡ option_map plate b → told_of (λ c. exec_die_event id code c t) a ≡ told_of (λ c. exec_die_event id code c t) b
plated id code t None None e = refl
plated id code t None (Some d) e = absurd (cc)
plated id code t (Some c) None e = absurd (cc)
plated id code t (Some c) (Some d) e =
    let same : plate c ≡ plate d = cc in
    let i : c.id ≡ d.id = ap (λ (p : Plate). p.id) same in
    let n : c.name ≡ d.name = ap (λ (p : Plate). p.name) same in
    ap (λ x. exec_die_event id code (record c { id = x }) t ∷ []) i ∙ ap (λ x. exec_die_event id code (record c { id = d.id; name = x }) t ∷ []) n

pub exec_changed : (code : ℕ) (o : Option Exec) (n : ℕ) (f : Life → Life) (s : State) → told_exec code o (change_life n f s) ≡ told_exec code o s
exec_changed code None n f s = refl
exec_changed code (Some x) n f s =
    plated x.id code s.clock (container_numbered x.container (change_life n f s)) (container_numbered x.container s)
    (face_updated plate (λ (c : Container). c.number == x.container) (λ (c : Container). c.number == n) (renewed f) (λ c. refl) (λ c. refl) s.containers)

-- ---- a signal to the main process

pub effect_told : (e : ProcessEffect) (n : ℕ) (p : Process → Process) (s : State) (c : Container) (o : Option Program) → container_numbered n s ≡ Some c → o ≡ program_of c.life.words (c.life.starts + 1)
    → (by_effect e (Owner.Container n) (record s { processes = changed_of (Owner.Container n) p s.processes })).events ≡ told_code (running_numbers n s) (code_in e) c o s
effect_told Lives n p s c o found named = refl
effect_told (Wrote stream payload) n p s c o found named = refl
effect_told (Ended code) n p s c o found named =
    end_told code n s (record s { processes = changed_of (Owner.Container n) p s.processes }) c (record { containers = refl; clock = refl; execs = λ k. refl }) (running_changed n (Owner.Container n) p s) found
    ∙ ap (λ q. told_end (running_numbers n s) code c q s) (sym named)

pub send_told : (thaws : Bool) (number n : ℕ) (s : State) (c : Container) (o : Option Program) (code : Option ℕ) → container_numbered n s ≡ Some c → o ≡ program_of c.life.words (c.life.starts + 1)
    → code ≡ code_at (signal number thaws s.clock) (process_of (Owner.Container n) s.processes) → (send thaws number n s).events ≡ told_code (running_numbers n s) code c o s
send_told thaws number n s c o code found named is =
    effect_told (effect_of (signal number thaws s.clock) (process_of (Owner.Container n) s.processes)) n (λ p. (signal number thaws s.clock p).process) s c o found named
    ∙ ap (λ k. told_code (running_numbers n s) k c o s) (sym is)
