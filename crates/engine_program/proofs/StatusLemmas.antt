-- What the statuses 4 and 5 of a line that listens come of.
use Rattle.std.proofs.Common.{◌≡◌, ◌⊎◌, ◌∙◌, inl, inr, ⊎_elim, ℕ, zero, suc, List, [], ◌∷◌, length, map, refl, subst, sym, ap, arith, Option, Some, None}
use Rattle.std.specs.Prelude.{Contains}
use Rattle.engine_ports.specs.Rose.{Rose}
use Rattle.engine_ports.specs.Clock.{ClockView}
use Rattle.engine_ports.specs.Door.{Outside, outside, DoorView}
use Rattle.engine_ports.proofs.PortLemmas.{rose_since}
use Rattle.engine_text.specs.declared.step.Step.{Step}
use Rattle.engine_line.specs.declared.line.Line.{Line}
use Rattle.engine_line.specs.declared.line.Stepping.{Stepping}
use Rattle.machine_model.specs.History.{Charter}
use Rattle.session_model.specs.declared.ending.Ending.{Ending}
use Rattle.session_model.specs.declared.ending.Worst.{Worst}
use Rattle.session_model.specs.declared.ending.Worst.TheVariants as W
use Rattle.session_model.specs.Session.{EndingCause}
use Rattle.session_model.specs.Guarantee.{Serves}
use Rattle.session_model.specs.Pass.{PassView}
use Rattle.session_model.proofs.CauseLemmas.{causes}
use Rattle.daemon_core.specs.declared.daemon.Daemon.{Daemon}
use Rattle.door_model.specs.Connections.{most_from}
use Rattle.door_model.specs.Worsts.{called_by}
use Rattle.daemon_shared.specs.Running.{ServesBy, Life, Lived, AllLived, Halts, RunsDaemon}
use Rattle.engine_serve.specs.OwnClock.{unstopped}
use Rattle.program_parts.specs.Statuses.{status_by}
use Rattle.program_parts.proofs.StatusLemmas.{fault_alone, faulted, stopped_alone, unstopped_by}
use Rattle.engine_program.specs.Opening.{charter_by, steps_of}
use Rattle.engine_program.specs.Listening.{ServesDoor, Listens}
use Rattle.engine_program.specs.Laws.{HasFailed, SomeFailed, law_never_stopped, law_failed}

-- ---- one connection

served_cause : (k : ℕ) (e : Ending) (p q : PassView) (o o' : Outside) → Serves k e p q o o' → EndingCause (Some e) o o'
served_cause k e p q o o' v =
    causes p.charter k e v.pumps (record { read = v.read; written = v.written; handed = v.goes.handed; from = p.seen; to = q.seen; old = o; new = o' }) v.session

failed_by : (steps : Option (ℕ × ℕ)) (k : ℕ) (e : Ending) (p q : PassView) (o o' : Outside) → ServesBy steps k e p q o o' → status_by (called_by e) ≡ 4
    → Rose o.source.faults o'.source.faults ⊎ Rose o.sink.faults o'.sink.faults
failed_by None k e p q o o' serves is = faulted e o o' (served_cause k e p q o o' serves) is
failed_by (Some stepping) k e p q o o' serves is =
    let old = outside o.source o.sink unstopped in
    let new = outside o'.source o'.sink unstopped in
    faulted e old new (served_cause k e p q old new serves.1) is

-- ---- all connections

-- who called for this
called_for : (ch : Charter) (h : List Step) (steps : Option (ℕ × ℕ)) (k : ℕ) (ls : List Life) (w : Worst) → AllLived ch h steps k ls → Contains (map (λ (l : Life). called_by l.ending) ls) w
    → (l : Life) × Contains ls l × ((n : ℕ) × Lived ch h steps n l) × (called_by l.ending ≡ w)
called_for ch h steps k [] w lived (i, less, at) = absurd (omega (arith, less))
called_for ch h steps k (l ∷ ls) w lived (zero, less, at) = (l, (zero, omega arith, refl), (k, lived.0), at)
called_for ch h steps k (l ∷ ls) w lived (suc i, less, at) =
    let r = called_for ch h steps (suc k) ls w lived.1 (i, omega (arith, less), at) in
    let found = r.1 in (r.0, (suc found.0, (let f = found.1 in omega (arith, f)), found.2), r.2, r.3)

either : (ch : Charter) (h : List Step) (steps : Option (ℕ × ℕ)) (why w : Worst) (ls : List Life) → AllLived ch h steps 0 ls → Contains (why ∷ map (λ (l : Life). called_by l.ending) ls) w
    → (why ≡ w) ⊎ ((l : Life) × Contains ls l × ((n : ℕ) × Lived ch h steps n l) × (called_by l.ending ≡ w))
either ch h steps why w ls lived (zero, less, at) = inl at
either ch h steps why w ls lived (suc i, less, at) = inr (called_for ch h steps 0 ls w lived (i, omega (arith, less), at))

never_halts : (why : Worst) (most n : ℕ) (d d' : DoorView) → why ≡ W.Stopped → Halts why most n d d' → ⊥
never_halts why most n d d' is halts = subst (λ y. Halts y most n d d') is halts

halts_failed : (why : Worst) (most n : ℕ) (d d' : DoorView) → why ≡ W.Fault → Halts why most n d d' → Rose d.faults d'.faults
halts_failed why most n d d' is halts = subst (λ y. Halts y most n d d') is halts

ran_unstopped : (ch : Charter) (stepping : ℕ × ℕ) (most : ℕ) (w : Worst) (daemon : Daemon) (d d' : DoorView) → RunsDaemon ch (Some stepping) most w daemon d d' → status_by w ≡ 5 → ⊥
ran_unstopped ch stepping most w daemon d d' r is = ⊎_elim
    (λ (e : r.why ≡ w). never_halts r.why most (length r.lives) d d' (e ∙ stopped_alone w is) r.halts)
    (λ (one : (l : Life) × Contains r.lives l × ((n : ℕ) × Lived ch r.history (Some stepping) n l) × (called_by l.ending ≡ w)).
    let l = one.0 in
    let lived = one.2.1 in
    let old = outside l.came.source l.came.sink unstopped in
    let new = outside l.left.source l.left.sink unstopped in
    unstopped_by l.ending old new refl refl (served_cause one.2.0 l.ending l.from l.to old new lived.serves.1) (ap status_by one.3 ∙ is))
    (either ch r.history (Some stepping) r.why w r.lives r.lived r.worst_is.0)

ran_failed : (line : Line) (opening : ℕ) (daemon : Daemon) (d bound d' : DoorView) → (Rose bound.faults d'.faults → Rose d.faults d'.faults)
    → RunsDaemon (charter_by line opening) (steps_of line.clock) (most_from 0 line.connections) W.Fault daemon bound d' → Rose d.faults d'.faults ⊎ SomeFailed line d'
ran_failed line opening daemon d bound d' since r = ⊎_elim
    (λ (e : r.why ≡ W.Fault). inl (since (halts_failed r.why (most_from 0 line.connections) (length r.lives) bound d' e r.halts)))
    (λ (one : (l : Life) × Contains r.lives l × ((n : ℕ) × Lived (charter_by line opening) r.history (steps_of line.clock) n l) × (called_by l.ending ≡ W.Fault)).
    let l = one.0 in
    inr (record {
      opening = opening;
      daemon = daemon;
      bound = bound;
      runs = r;
      life = l;
      served = one.1;
      failed = failed_by (steps_of line.clock) one.2.0 l.ending l.from l.to l.came l.left one.2.1.serves (ap status_by one.3);
    }))
    (either (charter_by line opening) r.history (steps_of line.clock) r.why W.Fault r.lives r.lived r.worst_is.0)

-- ---- the laws

pub never_stopped : law_never_stopped
never_stopped addr line stepping t t' d d' sets (inl unbound) = let e = unbound.status_is in omega (arith, e)
never_stopped addr line stepping t t' d d' sets (inr (bound, binds, serves)) = ⊎_elim
    (λ (none : (serves.worst ≡ W.NoMemory) × (d' ≡ bound)). (let e = serves.status_is ∙ ap status_by none.0 in omega (arith, e)))
    (λ (ran : (daemon : Daemon) × RunsDaemon (charter_by line serves.opening) (steps_of line.clock) (most_from 0 line.connections) serves.worst daemon bound d').
    ran_unstopped (charter_by line serves.opening) (stepping.start, stepping.step) (most_from 0 line.connections) serves.worst ran.0 bound d'
    (subst (λ (c : Option Stepping). RunsDaemon (charter_by line serves.opening) (steps_of c) (most_from 0 line.connections) serves.worst ran.0 bound d') sets ran.1)
    (sym serves.status_is))
    serves.runs

pub failed : law_failed
failed addr line t t' d d' (inl unbound) = inl unbound.faults
failed addr line t t' d d' (inr (bound, binds, serves)) = ⊎_elim
    (λ (none : (serves.worst ≡ W.NoMemory) × (d' ≡ bound)). absurd (let e = serves.status_is ∙ ap status_by none.0 in omega (arith, e)))
    (λ (ran : (daemon : Daemon) × RunsDaemon (charter_by line serves.opening) (steps_of line.clock) (most_from 0 line.connections) serves.worst daemon bound d').
    ran_failed line serves.opening ran.0 d bound d' (rose_since d.faults bound.faults d'.faults binds.faults)
    (subst (λ w. RunsDaemon (charter_by line serves.opening) (steps_of line.clock) (most_from 0 line.connections) w ran.0 bound d') (fault_alone serves.worst (sym serves.status_is)) ran.1))
    serves.runs
