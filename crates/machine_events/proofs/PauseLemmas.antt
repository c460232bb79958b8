-- What a pause tells.
use Rattle.std.proofs.Common.{◌≡◌, ℕ, List, [], ◌∷◌, ◌++◌, Some, refl, ap, ◌∙◌, find, ◌==◌}
use Rattle.engine_text.specs.declared.container.Container.{Container}
use Rattle.engine_text.specs.declared.event.Action.{Action}
use Rattle.engine_text.specs.declared.event.Event.{Event}
use Rattle.engine_text.specs.declared.exec.Exec.{Exec}
use Rattle.engine_text.specs.declared.owner.Owner.{Owner}
use Rattle.machine_model.specs.State.{State, container_numbered, running_execs, change_life}
use Rattle.machine_model.specs.EventTexts.{plain_event}
use Rattle.machine_model.specs.Chain.{each, tell_of}
use Rattle.machine_model.specs.Calls.Pause.{pause, paused, freeze_process, freeze_execs}
use Rattle.machine_events.specs.ChangedLives.{renewed}
use Rattle.machine_events.proofs.ToldLemmas.{found_renewed, told_at}

record IsStill (s z : State) (events : List Event) : Type 0 where
  containers : z.containers ≡ s.containers
  clock : z.clock ≡ s.clock
  none : events ≡ []

still_each : (xs : List Exec) (s : State) → IsStill s (each (λ (x : Exec). freeze_process (Owner.Exec x.number)) xs s).state (each (λ (x : Exec). freeze_process (Owner.Exec x.number)) xs s).events
still_each [] s = record { containers = refl; clock = refl; none = refl }
still_each (x ∷ xs) s =
    let h = still_each xs (freeze_process (Owner.Exec x.number) s).state in
    record { containers = h.containers; clock = h.clock; none = h.none }

pub pause_told : (n : ℕ) (s : State) (c : Container) → container_numbered n s ≡ Some c → (pause n s).events ≡ plain_event Action.Pause c s.clock ∷ []
pause_told n s c e =
    let a : State = (freeze_process (Owner.Container n) s).state in
    let b : State = (freeze_execs n a).state in
    let h : IsStill a b (freeze_execs n a).events = still_each (running_execs n a) a in
    let found : container_numbered n b ≡ Some c = ap (find (λ (d : Container). d.number == n)) h.containers ∙ e in
    let d : State = change_life n paused b in
    ap (λ l. l ++ (tell_of (plain_event Action.Pause) n d).events) h.none
    ∙ (told_at (plain_event Action.Pause) n d (renewed paused c) (found_renewed n paused b c found)
    ∙ ap (λ t. plain_event Action.Pause c t ∷ []) h.clock)
