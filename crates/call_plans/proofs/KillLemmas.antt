-- What is told before a kill is what the kill tells.
use Rattle.std.proofs.Common.{◌≡◌, ℕ, ◌+◌, Bool, ◌∷◌, ◌++◌, Option, Some, ap, ◌∙◌}
use Rattle.engine_text.specs.Scripts.{Program}
use Rattle.engine_text.specs.declared.container.Container.{Container}
use Rattle.engine_text.specs.declared.owner.Owner.{Owner}
use Rattle.engine_text.specs.declared.signal.Signal.{Signal}
use Rattle.proc_kernel.specs.Catalogue.{program_of}
use Rattle.proc_kernel.specs.Foretelling.{code_at}
use Rattle.proc_kernel.specs.Processes.{signal}
use Rattle.proc_kernel.specs.Tables.{process_of}
use Rattle.machine_model.specs.State.{State, container_numbered}
use Rattle.machine_model.specs.Chain.{tell_of}
use Rattle.machine_model.specs.EventTexts.{kill_event}
use Rattle.machine_model.specs.Calls.Kill.{deliver}
use Rattle.machine_events.specs.ToldMeet.{told_deliver}
use Rattle.machine_events.proofs.SettleLemmas.{tell_still}
use Rattle.machine_events.proofs.ToldLemmas.{told_at}
use Rattle.machine_events.proofs.MeetToldLemmas.{StandOnce, delivered_told}
use Rattle.call_plans.specs.Calls.Kill.{kill_effect}

-- a kill of a container that runs or is paused
pub kill_told : (sent : Signal) (last : Bool) (n : ℕ) (s : State) (c : Container) (o : Option Program) (code : Option ℕ) → container_numbered n s ≡ Some c → o ≡ program_of c.life.words (c.life.starts + 1) → StandOnce s
    → code ≡ code_at (signal sent.number last s.clock) (process_of (Owner.Container n) s.processes)
    → (kill_effect n sent last s).events ≡ kill_event sent.number c s.clock ∷ told_deliver last code n c o s
kill_told sent last n s c o code found named once is =
    ap (λ l. l ++ (deliver last sent.number n (tell_of (kill_event sent.number) n s).state).events) (told_at (kill_event sent.number) n s c found)
    ∙ (ap (λ z. kill_event sent.number c s.clock ∷ (deliver last sent.number n z).events) (tell_still (kill_event sent.number) n s)
    ∙ ap (λ l. kill_event sent.number c s.clock ∷ l) (delivered_told last sent.number n s c o code found named once is))
