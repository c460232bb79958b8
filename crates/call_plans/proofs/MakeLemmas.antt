-- A call that is made ready is the call's outcome.
use Rattle.std.specs.Option.{option_map_or}
use Rattle.engine_text.specs.declared.exec.Exec.{Exec}
use Rattle.machine_model.specs.Consistency.{IsConsistent, AreDistinct}
use Rattle.machine_events.specs.ToldMeet.{told_deliver}
use Rattle.machine_events.specs.declared.end_memory.EndMemory.{EndMemory}
use Rattle.machine_events.proofs.DiedToldLemmas.{deliver_died}
use Rattle.machine_events.proofs.MeetToldLemmas.{StandOnce}
use Rattle.call_plans.proofs.KillLemmas.{kill_told}
use Rattle.std.proofs.Common.{◌≡◌, ℕ, ◌==◌, ◌<◌, ◌^◌, Bool, true, false, List, [], ◌∷◌, ◌++◌, Option, Some, refl, ap, sym, ◌∙◌, subst, find, map, if◌then◌else◌}
use Rattle.engine_text.specs.declared.container.Container.{Container}
use Rattle.engine_text.specs.declared.container.Found.{Found}
use Rattle.engine_text.specs.declared.event.Event.{Event}
use Rattle.engine_text.specs.declared.owner.Owner.{Owner}
use Rattle.engine_text.specs.declared.reply.Reply.TheVariants.{Answer}
use Rattle.engine_text.specs.declared.signal.Signal.{Signal}
use Rattle.container_table.specs.Reference.{container_by}
use Rattle.proc_kernel.specs.Foretelling.{code_at}
use Rattle.proc_kernel.specs.Processes.{signal}
use Rattle.proc_kernel.specs.Tables.{process_of}
use Rattle.machine_model.specs.State.{State, container_numbered}
use Rattle.machine_model.specs.EventTexts.{kill_event}
use Rattle.machine_model.specs.Outcome.{Outcome, at_reference, by_found, refused}
use Rattle.machine_model.specs.Step.{at_moment}
use Rattle.machine_model.specs.Calls.Kill.{deliver, is_final, kill_running}
use Rattle.call_plans.specs.Calls.Kill.{kill_effect}
use Rattle.machine_events.specs.Fit.{AreFew}
use Rattle.call_plans.specs.Making.{Makes}
use Rattle.call_plans.specs.Needs.{Brings}
use Rattle.call_plans.specs.Plans.{plan_effect, need_of}
use Rattle.call_plans.specs.RunEnds.{IsEndMemory}
use Rattle.call_plans.proofs.RunEndLemmas.{deliver_next, own_script, script_for, serves_end}
use Rattle.machine_model.specs.Chain.{Effect}
use Rattle.call_plans.specs.declared.plan.Plan.{Plan}
use Rattle.call_plans.specs.declared.prepared.Prepared.{Prepared}
use Rattle.machine_model.specs.Refusals.{no_such_container}

-- ---- the lookup

pub looked : (n t : ℕ) (target : List ℕ) (s : State) (c : Container) → container_by s.containers target ≡ Found.One n → container_numbered n s ≡ Some c
    → (f : Container → State → Outcome) → at_reference target f (at_moment t s) ≡ f c (at_moment t s)
looked n t target s c one found f =
    ap (λ q. by_found q target f (at_moment t s)) one ∙ ap (λ o. (option_map_or f o (refused 404 (no_such_container target)) (at_moment t s))) found

few_either : (n : ℕ) (b : Bool) (x c : Container) (xs : List Container) → x.life.starts < 2 ^ 63 → (find (λ d. d.number == n) xs ≡ Some c → c.life.starts < 2 ^ 63)
    → (if b then Some x else find (λ d. d.number == n) xs) ≡ Some c → c.life.starts < 2 ^ 63
few_either n true x c xs few rest e = let is : x ≡ c = cc in subst (λ (d : Container). d.life.starts < 2 ^ 63) is few
few_either n false x c xs few rest e = rest e

pub few_found : (n : ℕ) (xs : List Container) (c : Container) → AreFew xs → find (λ d. d.number == n) xs ≡ Some c → c.life.starts < 2 ^ 63
few_found n [] c few e = absurd (cc)
few_found n (x ∷ xs) c few e = few_either n (x.number == n) x c xs few.0 (few_found n xs c few.1) e

-- the second of two lists without doubles has none
distinct_behind : (xs ys : List ℕ) → AreDistinct (xs ++ ys) → AreDistinct ys
distinct_behind [] ys d = d
distinct_behind (x ∷ xs) ys d = distinct_behind xs ys d.1

-- ---- a kill

first_then : (empty one out told : List Event) (e d : Event) → empty ≡ [] → one ≡ empty ++ e ∷ [] → e ≡ d → out ≡ one ++ told → out ≡ d ∷ told
first_then empty one out told e d h1 h2 h3 h4 =
    h4 ∙ (ap (λ l. l ++ told) h2 ∙ (ap (λ l. (l ++ e ∷ []) ++ told) h1 ∙ ap (λ x. x ∷ told) h3))

-- once each, in a consistent state
pub stand_once : (s : State) → IsConsistent s → StandOnce s
stand_once s k = record { execs = distinct_behind (map (λ (c : Container). c.number) s.containers) (map (λ (x : Exec). x.number) s.execs) k.names.numbers; processes = k.processes.single }

-- at each moment
pub once_at : (t : ℕ) (s : State) → IsConsistent s → StandOnce (at_moment t s)
once_at t s k = let once = stand_once s k in record { execs = once.execs; processes = once.processes }

pub makes_kill : (p : Prepared) (t : ℕ) (s : State) (c : Container) (sent : Signal) (last : Bool) (code : Option ℕ) (brought : EndMemory) (empty one : List Event) (e : Event)
    → IsConsistent s → container_numbered c.number s ≡ Some c → sent.number < 32 → last ≡ is_final sent c
    → ((u : ℕ) → code ≡ code_at (signal sent.number last u) (process_of (Owner.Container c.number) s.processes))
    → p.moment ≡ t → p.plan ≡ Plan.Kill c.number sent last brought → IsEndMemory code c.life.goal c.number c s brought → p.reply ≡ Answer 204 []
    → empty ≡ [] → one ≡ empty ++ e ∷ [] → e ≡ kill_event sent.number c t → p.events.items ≡ one ++ told_deliver last code c.number c brought.script (at_moment t s)
    → Makes p t s (kill_running sent c)
makes_kill p t s c sent last code brought empty one e k found low final is moment plan of reply h1 h2 h3 h4 =
    let z : State = at_moment t s in
    let same : kill_effect c.number sent last z ≡ kill_effect c.number sent (is_final sent c) z = ap (λ l. kill_effect c.number sent l z) final in
    let told : told_deliver last code c.number c brought.script z ≡ told_deliver last code c.number c (own_script c) z =
    deliver_next last code c.number c brought.script z (script_for code c.number c s brought of) in
    record {
      moment = moment;
      effect = ap (λ q. plan_effect q z) plan ∙ same;
      events = first_then empty one p.events.items _ e (kill_event sent.number c t) h1 h2 h3 h4
          ∙ (ap (λ l. kill_event sent.number c t ∷ l) told
          ∙ (sym (kill_told sent last c.number z c (own_script c) code found refl (once_at t s k) (is t)) ∙ ap (λ (x : Effect). x.events) same));
      reply = reply;
      brings = subst (λ q. Brings (need_of q) t s) (sym plan)
          (serves_end code c.number c.life.goal c c s z brought (deliver last sent.number c.number z).died (deliver_died last sent.number c.number z c code found (is t)) of found refl refl refl, low);
    }
