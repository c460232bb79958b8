-- A create that is made ready is the create's outcome.
use Rattle.std.proofs.Common.{◌≡◌, ◌≢◌, ℕ, ◌<◌, ◌^◌, Bool, true, false, None, List, [], ◌∷◌, ◌++◌, map, refl, ap, sym, ◌∙◌, arith}
use Rattle.std.specs.Cmp.Lexicographic.{bytes_decides}
use Rattle.std.specs.List.{AllByRecursion}
use Rattle.std.specs.Prelude.{codes}
use Rattle.container_table.specs.Tables.{with_id}
use Rattle.exec_table.specs.Execs.{exec_with_id}
use Rattle.engine_text.specs.Id.{id_of}
use Rattle.engine_text.specs.Texts.{same_bytes}
use Rattle.engine_text.specs.declared.call.CreateSpec.{CreateSpec}
use Rattle.engine_text.specs.declared.container.Container.{Container}
use Rattle.engine_text.specs.declared.container.Life.{Life}
use Rattle.engine_text.specs.declared.event.Action.TheVariants.{Create}
use Rattle.engine_text.specs.declared.event.Event.{Event}
use Rattle.engine_text.specs.declared.exec.Exec.{Exec}
use Rattle.engine_text.specs.declared.log.LogRecord.{LogRecord}
use Rattle.engine_text.specs.declared.reply.Reply.TheVariants.{Answer}
use Rattle.engine_text.specs.declared.volume.Volume.{Volume}
use Rattle.machine_model.specs.Calls.Create.{add, created, new_container, new_life}
use Rattle.machine_model.specs.Chain.{Effect}
use Rattle.machine_model.proofs.IdLemmas.{id_of_below}
use Rattle.machine_model.proofs.ListLemmas.{all_front, all_back, all_of_mapped, found_nowhere}
use Rattle.machine_model.specs.Consistency.{IsConsistent}
use Rattle.machine_model.specs.EventTexts.{plain_event}
use Rattle.machine_model.specs.Names.{holder}
use Rattle.machine_model.specs.State.{State}
use Rattle.machine_model.specs.Step.{at_moment}
use Rattle.machine_events.specs.NewVolumes.{missing_volumes, told_volumes}
use Rattle.machine_model.proofs.ItemLemmas.{All-both, All-imp}
use Rattle.machine_events.proofs.CreateLemmas.{added_told}
use Rattle.call_plans.specs.Calls.Create.{IsNew}
use Rattle.call_plans.specs.Making.{Makes}
use Rattle.call_plans.specs.Needs.{Brings}
use Rattle.call_plans.specs.Plans.{plan_effect, need_of}
use Rattle.call_plans.specs.declared.prepared.Prepared.{Prepared}

-- the container in memory, whose log is empty
pub new_held : (number : ℕ) (id name : List ℕ) (life : Life) (log : List LogRecord) (asked : CreateSpec) (t : ℕ) (s : State) → number ≡ s.next_number → id ≡ id_of s.seed s.next_number
    → life ≡ new_life asked t → log ≡ [] → record { number = number; id = id; name = name; life = record life { log = log } } ≡ new_container name asked (at_moment t s)
new_held number id name life log asked t s h1 h2 h3 h4 =
    ap (λ (n : ℕ). record { number = n; id = id; name = name; life = record life { log = log } }) h1
    ∙ (ap (λ (i : List ℕ). record { number = s.next_number; id = i; name = name; life = record life { log = log } }) h2
    ∙ (ap (λ (l : Life). record { number = s.next_number; id = id_of s.seed s.next_number; name = name; life = record l { log = log } }) h3
    ∙ ap (λ (l : List LogRecord). record { number = s.next_number; id = id_of s.seed s.next_number; name = name; life = record (new_life asked t) { log = l } }) h4))

-- what the plan brings
pub is_new : (d : Container) (made : List Volume) (t : ℕ) (s : State) → d.number ≡ s.next_number → d.id ≡ id_of s.seed s.next_number → holder d.name s.containers ≡ None
    → made ≡ missing_volumes t d.life.mounts s.volumes → IsNew d made t s
is_new d made t s number id name volumes = record { number = number; id = id; name = name; volumes = volumes }

pub makes_create : (p : Prepared) (t : ℕ) (s : State) (name : List ℕ) (asked : CreateSpec) (d : Container) (volumes : List Volume) (empty one : List Event) (e : Event)
    → d ≡ new_container name asked (at_moment t s) → p.moment ≡ t → ((z : State) → plan_effect p.plan z ≡ add d z) → Brings (need_of p.plan) t s
    → p.reply ≡ Answer 201 (codes "{\"Id\":\"" ++ d.id ++ codes "\",\"Warnings\":[]}") → volumes ≡ missing_volumes t d.life.mounts s.volumes
    → empty ≡ [] → one ≡ empty ++ told_volumes volumes t → p.events.items ≡ one ++ e ∷ [] → e ≡ plain_event Create d t
    → Makes p t s (λ z. created (new_container name asked z) z)
makes_create p t s name asked d volumes empty one e is moment plan brings reply missing h1 h2 h3 h4 =
    let z : State = at_moment t s in
    let effect : add d z ≡ add (new_container name asked z) z = ap (λ x. add x z) is in
    record {
      moment = moment;
      effect = plan z ∙ effect;
      events = h3
          ∙ (ap (λ l. l ++ e ∷ []) (h2 ∙ ap (λ l. l ++ told_volumes volumes t) h1)
          ∙ (ap (λ x. told_volumes volumes t ++ x ∷ []) h4
          ∙ (ap (λ vs. told_volumes vs t ++ plain_event Create d t ∷ []) missing
          ∙ (sym (added_told d z) ∙ ap (λ (x : Effect). x.events) effect))));
      reply = reply ∙ ap (λ (x : Container). Answer 201 (codes "{\"Id\":\"" ++ x.id ++ codes "\",\"Warnings\":[]}")) is;
      brings = brings;
    }

-- ---- in a consistent state it may be added

same_either : (b : Bool) (m n : List ℕ) → same_bytes m n ≡ b → m ≢ n → same_bytes m n ≡ false
same_either true m n e other = absurd (other ((bytes_decides m n).0 e))
same_either false m n e other = e

-- numbers lie below the next
numbers_below : (s : State) → IsConsistent s → AllByRecursion (λ (d : Container). d.number < s.next_number) s.containers
numbers_below s k = all_of_mapped (λ n. n < s.next_number) (λ (d : Container). d.number) s.containers
    (all_front (λ n. n < s.next_number) (map (λ (d : Container). d.number) s.containers) (map (λ (x : Exec). x.number) s.execs) k.names.below)

pub is_above : (n : ℕ) (s : State) → IsConsistent s → n ≡ s.next_number → AllByRecursion (λ (d : Container). d.number < n) s.containers
is_above n s k e = All-imp (λ (d : Container). d.number < s.next_number) (λ (d : Container). d.number < n) (λ d low. omega (arith, low, e)) s.containers (numbers_below s k)

pub has_new_id : (id : List ℕ) (s : State) → IsConsistent s → id ≡ id_of s.seed s.next_number → with_id id s.containers ≡ None
has_new_id id s k e =
    let most : s.next_number < 2 ^ 64 = omega (arith, k.numbers.next_number, k.counts.steps) in
    found_nowhere (λ (d : Container). same_bytes d.id id) s.containers
    (All-imp (λ (d : Container). (d.number < s.next_number) × (d.id ≡ id_of s.seed d.number)) (λ (d : Container). same_bytes d.id id ≡ false)
    (λ d h. same_either (same_bytes d.id id) d.id id refl (λ same. id_of_below s.seed d.number s.next_number d.id h.0 most h.1 (same ∙ e)))
    s.containers (All-both (λ (d : Container). d.number < s.next_number) (λ (d : Container). d.id ≡ id_of s.seed d.number) s.containers (numbers_below s k) k.names.container_ids))

-- so are those of execs, and their ids
exec_numbers_below : (s : State) → IsConsistent s → AllByRecursion (λ (x : Exec). x.number < s.next_number) s.execs
exec_numbers_below s k = all_of_mapped (λ n. n < s.next_number) (λ (x : Exec). x.number) s.execs
    (all_back (λ n. n < s.next_number) (map (λ (d : Container). d.number) s.containers) (map (λ (x : Exec). x.number) s.execs) k.names.below)

pub is_exec_above : (n : ℕ) (s : State) → IsConsistent s → n ≡ s.next_number → AllByRecursion (λ (x : Exec). x.number < n) s.execs
is_exec_above n s k e = All-imp (λ (x : Exec). x.number < s.next_number) (λ (x : Exec). x.number < n) (λ x low. omega (arith, low, e)) s.execs (exec_numbers_below s k)

pub has_new_exec_id : (id : List ℕ) (s : State) → IsConsistent s → id ≡ id_of s.seed s.next_number → exec_with_id id s.execs ≡ None
has_new_exec_id id s k e =
    let most : s.next_number < 2 ^ 64 = omega (arith, k.numbers.next_number, k.counts.steps) in
    found_nowhere (λ (x : Exec). same_bytes x.id id) s.execs
    (All-imp (λ (x : Exec). (x.number < s.next_number) × (x.id ≡ id_of s.seed x.number)) (λ (x : Exec). same_bytes x.id id ≡ false)
    (λ x h. same_either (same_bytes x.id id) x.id id refl (λ same. id_of_below s.seed x.number s.next_number x.id h.0 most h.1 (same ∙ e)))
    s.execs (All-both (λ (x : Exec). x.number < s.next_number) (λ (x : Exec). x.id ≡ id_of s.seed x.number) s.execs (exec_numbers_below s k) k.names.exec_ids))
