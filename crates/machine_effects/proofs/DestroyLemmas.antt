-- What the removal of a container leaves, by its number.
use Rattle.std.proofs.Common.{◌≡◌, ℕ, ◌==◌, Bool, true, false, not, List, [], ◌∷◌, ◌++◌, Option, Some, None, refl, ap, sym, ◌∙◌, map, filter, if◌then◌else◌}
use Rattle.engine_text.specs.declared.container.Container.{Container}
use Rattle.engine_text.specs.declared.event.Action.{Action}
use Rattle.engine_text.specs.declared.log.OwnedLog.{OwnedLog}
use Rattle.engine_text.specs.declared.container.Removed.{Removed}
use Rattle.engine_text.specs.declared.exec.Exec.{Exec}
use Rattle.engine_text.specs.declared.log.KeptLogs.{KeptLogs}
use Rattle.engine_text.specs.declared.step.DueAction.{DueAction}
use Rattle.engine_text.specs.declared.volume.Volume.{Volume}
use Rattle.engine_text.specs.declared.volume.VolumeUse.{VolumeUse}
use Rattle.engine_text.specs.declared.owner.Owner.{Owner}
use Rattle.engine_text.specs.declared.ticket.Asked.{Asked}
use Rattle.engine_text.specs.declared.ticket.Ticket.{Ticket}
use Rattle.container_table.specs.Lists.{remove_first, last_of}
use Rattle.machine_model.specs.State.{State, container_numbered}
use Rattle.machine_model.specs.Chain.{change, with_found}
use Rattle.machine_model.specs.EventTexts.{plain_event}
use Rattle.machine_model.specs.Effects.Destroy.{destroy, without, answer, answered, last_reply}
use Rattle.machine_events.specs.Fit.{exec_numbers, outputs_of}
use Rattle.machine_tables.specs.Held.{ticket_in, tickets_in, replies_in, answered_by, ready_by, ready_or}
use Rattle.machine_tables.specs.declared.held.RemovalResult.{RemovalResult}
use Rattle.machine_events.specs.Outputs.{is_output_of}
use Rattle.machine_tables.specs.declared.held.HeldTicket.{HeldTicket}
use Rattle.machine_tables.specs.declared.held.Ready.{Ready}
use Rattle.machine_events.proofs.SettleLemmas.{tell_still, has_number}

-- a ticket of the container with that number is answered, its last code being this
abbrev pub last_by : ℕ → ℕ → Ticket → Ticket
last_by n code t = if t.container == n then answer (last_reply t.asked code) t else t

-- the state without the container with that number
abbrev pub without_by : ℕ → Container → State → State
without_by n c s = record s {
  containers = remove_first (λ d. d.number == n) s.containers;
  execs = filter (λ x. not (x.container == n)) s.execs;
  outputs = filter (λ o. not (is_output_of n s.execs o)) s.outputs;
  uses = filter (λ u. not (u.container == n)) s.uses;
  tickets = map (last_by n c.life.code) s.tickets;
  removed = s.removed ++ record { number = n; execs = exec_numbers n s } ∷ [];
  kept = last_of 64 (s.kept ++ record { number = n; logs = record { owner = Owner.Container n; log = c.life.log } ∷ outputs_of n s } ∷ []);
}

pub destroyed : (n : ℕ) (s : State) (c : Container) → container_numbered n s ≡ Some c → without_by n c s ≡ (destroy n s).state
destroyed n s c e =
    ap (λ k. without_by k c s) (sym (has_number n s c e))
    ∙ (sym (ap (λ o. (with_found o (λ (d : Container). change (without d)) s).state) e)
    ∙ sym (ap (λ z. (with_found (container_numbered n z) (λ (d : Container). change (without d)) z).state) (tell_still (plain_event Action.Destroy) n s)))

pub destroyed_none : (n : ℕ) (s : State) → container_numbered n s ≡ None → s ≡ (destroy n s).state
destroyed_none n s e =
    sym (ap (λ o. (with_found o (λ (d : Container). change (without d)) s).state) e)
    ∙ sym (ap (λ z. (with_found (container_numbered n z) (λ (d : Container). change (without d)) z).state) (tell_still (plain_event Action.Destroy) n s))

-- ---- tickets

ready_last : (seed : List ℕ) (n code : ℕ) (a : Asked) (o : Option Ready) → replies_in seed n (ready_or o (ready_by (RemovalResult.Gone code) a)) ≡ answered (replies_in seed n o) (last_reply a code)
ready_last seed n code Asked.Stop None = refl
ready_last seed n code Asked.Restart None = refl
ready_last seed n code Asked.Remove None = refl
ready_last seed n code (Asked.Wait u) None = refl
ready_last seed n code a (Some r) = refl

last_either : (seed : List ℕ) (code : ℕ) (b : Bool) (t : HeldTicket)
    → ticket_in seed (if b then record t { ready = ready_or t.ready (ready_by (RemovalResult.Gone code) t.asked) } else t) ≡ (if b then answer (last_reply t.asked code) (ticket_in seed t) else ticket_in seed t)
last_either seed code true t = ap (λ o. record (ticket_in seed t) { reply = o }) (ready_last seed t.container code t.asked t.ready)
last_either seed code false t = refl

-- the tickets in memory are answered as the state's are
pub tickets_last : (seed : List ℕ) (n code : ℕ) (ts : List HeldTicket) → tickets_in seed (map (answered_by (RemovalResult.Gone code) n) ts) ≡ map (last_by n code) (tickets_in seed ts)
tickets_last seed n code [] = refl
tickets_last seed n code (t ∷ ts) =
    ap (λ x. x ∷ tickets_in seed (map (answered_by (RemovalResult.Gone code) n) ts)) (last_either seed code (t.container == n) t)
    ∙ ap (λ l. last_by n code (ticket_in seed t) ∷ l) (tickets_last seed n code ts)

-- ---- part by part

-- each part is as without the container, the rest as before
pub record IsWithout (n : ℕ) (c : Container) (s t : State) : Type 0 where
  pub containers : t.containers ≡ (without_by n c s).containers
  pub timers : t.timers ≡ (without_by n c s).timers
  pub execs : t.execs ≡ (without_by n c s).execs
  pub outputs : t.outputs ≡ (without_by n c s).outputs
  pub volumes : t.volumes ≡ (without_by n c s).volumes
  pub uses : t.uses ≡ (without_by n c s).uses
  pub tickets : t.tickets ≡ (without_by n c s).tickets
  pub removed : t.removed ≡ (without_by n c s).removed
  pub kept : t.kept ≡ (without_by n c s).kept

pub without_parts : (n : ℕ) (c : Container) (s t : State) → IsWithout n c s t → record s { containers = t.containers; timers = t.timers; execs = t.execs; outputs = t.outputs; volumes = t.volumes; uses = t.uses; tickets = t.tickets; removed = t.removed; kept = t.kept } ≡ without_by n c s
without_parts n c s t e =
    ap (λ (x : List Container). record s { containers = x; timers = t.timers; execs = t.execs; outputs = t.outputs; volumes = t.volumes; uses = t.uses; tickets = t.tickets; removed = t.removed; kept = t.kept }) e.containers
    ∙ (ap (λ (x : List DueAction). record s { containers = (without_by n c s).containers; timers = x; execs = t.execs; outputs = t.outputs; volumes = t.volumes; uses = t.uses; tickets = t.tickets; removed = t.removed; kept = t.kept }) e.timers
    ∙ (ap (λ (x : List Exec). record s { containers = (without_by n c s).containers; timers = (without_by n c s).timers; execs = x; outputs = t.outputs; volumes = t.volumes; uses = t.uses; tickets = t.tickets; removed = t.removed; kept = t.kept }) e.execs
    ∙ (ap (λ (x : List OwnedLog). record s { containers = (without_by n c s).containers; timers = (without_by n c s).timers; execs = (without_by n c s).execs; outputs = x; volumes = t.volumes; uses = t.uses; tickets = t.tickets; removed = t.removed; kept = t.kept }) e.outputs
    ∙ (ap (λ (x : List Volume). record s { containers = (without_by n c s).containers; timers = (without_by n c s).timers; execs = (without_by n c s).execs; outputs = (without_by n c s).outputs; volumes = x; uses = t.uses; tickets = t.tickets; removed = t.removed; kept = t.kept }) e.volumes
    ∙ (ap (λ (x : List VolumeUse). record s { containers = (without_by n c s).containers; timers = (without_by n c s).timers; execs = (without_by n c s).execs; outputs = (without_by n c s).outputs; volumes = (without_by n c s).volumes; uses = x; tickets = t.tickets; removed = t.removed; kept = t.kept }) e.uses
    ∙ (ap (λ (x : List Ticket). record s { containers = (without_by n c s).containers; timers = (without_by n c s).timers; execs = (without_by n c s).execs; outputs = (without_by n c s).outputs; volumes = (without_by n c s).volumes; uses = (without_by n c s).uses; tickets = x; removed = t.removed; kept = t.kept }) e.tickets
    ∙ (ap (λ (x : List Removed). record s { containers = (without_by n c s).containers; timers = (without_by n c s).timers; execs = (without_by n c s).execs; outputs = (without_by n c s).outputs; volumes = (without_by n c s).volumes; uses = (without_by n c s).uses; tickets = (without_by n c s).tickets; removed = x; kept = t.kept }) e.removed
    ∙ (ap (λ (x : List KeptLogs). record s { containers = (without_by n c s).containers; timers = (without_by n c s).timers; execs = (without_by n c s).execs; outputs = (without_by n c s).outputs; volumes = (without_by n c s).volumes; uses = (without_by n c s).uses; tickets = (without_by n c s).tickets; removed = (without_by n c s).removed; kept = x }) e.kept))))))))
