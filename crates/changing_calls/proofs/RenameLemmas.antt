-- A rename that is made ready is the rename's outcome.
use Rattle.std.proofs.Common.{◌≡◌, ℕ, ◌==◌, Bool, true, false, List, [], ◌∷◌, ◌++◌, Option, Some, None, refl, ap, sym, ◌∙◌, subst, find, if◌then◌else◌}
use Rattle.std.specs.Prelude.{option_map}
use Rattle.container_table.specs.Lists.{update_first}
use Rattle.engine_text.specs.declared.container.Container.{Container}
use Rattle.engine_text.specs.declared.event.Event.{Event}
use Rattle.engine_text.specs.declared.reply.Reply.TheVariants.{Answer}
use Rattle.machine_model.specs.Calls.Rename.{named, rename}
use Rattle.machine_model.specs.Chain.{with_found}
use Rattle.machine_model.specs.EventTexts.{rename_event}
use Rattle.machine_model.specs.Names.{holder}
use Rattle.machine_model.specs.Outcome.{done}
use Rattle.machine_model.specs.State.{State, container_numbered, change_container}
use Rattle.machine_model.specs.Step.{at_moment}
use Rattle.machine_events.proofs.DiedLemmas.{none_found}
use Rattle.machine_events.proofs.SettleLemmas.{found_updated, has_number, tell_still}
use Rattle.machine_events.proofs.ToldLemmas.{told_at}
use Rattle.call_plans.specs.Calls.Rename.{rename_effect}
use Rattle.call_plans.specs.Making.{Makes}
use Rattle.call_plans.specs.Needs.{Brings}
use Rattle.call_plans.specs.Plans.{plan_effect, need_of}
use Rattle.call_plans.specs.declared.plan.Plan.{Plan}
use Rattle.call_plans.specs.declared.prepared.Prepared.{Prepared}

none_cons : {A : Type 0} (b : Bool) (x : A) (r : Option A) → (if b then Some x else r) ≡ None → (b ≡ false) × (r ≡ None)
none_cons true x r e = absurd (cc)
none_cons false x r e = (refl, e)

-- where none passes nothing is changed
unchanged : {A : Type 0} (p : A → Bool) (f : A → A) (xs : List A) → find p xs ≡ None → xs ≡ update_first p f xs
unchanged p f [] e = refl
unchanged p f (x ∷ xs) e = let q = none_cons (p x) x (find p xs) e in rw q.0 (ap (λ l. x ∷ l) (unchanged p f xs q.1))

renamed_by : (o : Option Container) (n : ℕ) (name : List ℕ) (s : State) → container_numbered n s ≡ o → change_container n (named name) s ≡ (with_found o (rename name) s).state
renamed_by None n name s e = sym (ap (λ (cs : List Container). record s { containers = cs }) (unchanged (λ (c : Container). c.number == n) (named name) s.containers e))
renamed_by (Some c) n name s e =
    ap (λ m. change_container m (named name) s) (sym (has_number n s c e))
    ∙ sym (tell_still (rename_event c.name) c.number (change_container c.number (named name) s))

-- the container's name is changed, and nothing else
pub renamed_state : (n : ℕ) (name : List ℕ) (s : State) → change_container n (named name) s ≡ (rename_effect n name s).state
renamed_state n name s = renamed_by (container_numbered n s) n name s refl

none_rename : (name : List ℕ) (c : Container) (s : State) → (rename name c s).died ≡ []
none_rename name c s =
    let z : State = change_container c.number (named name) s in
    none_found (container_numbered c.number z) _ (λ d y. refl) z

-- no main process ends in it
pub none_renamed : (n : ℕ) (name : List ℕ) (s : State) → [] ≡ (rename_effect n name s).died
none_renamed n name s = sym (none_found (container_numbered n s) (rename name) (λ c z. none_rename name c z) s)

pub rename_told : (name : List ℕ) (s : State) (c : Container) → container_numbered c.number s ≡ Some c → (rename name c s).events ≡ rename_event c.name (named name c) s.clock ∷ []
rename_told name s c e =
    let z : State = change_container c.number (named name) s in
    let found : container_numbered c.number z ≡ Some (named name c) = found_updated (λ (d : Container). d.number == c.number) (named name) s.containers (λ d. refl) ∙ ap (option_map (named name)) e in
    told_at (rename_event c.name) c.number z (named name c) found

pub makes_rename : (p : Prepared) (t : ℕ) (s : State) (c : Container) (name shown : List ℕ) (empty : List Event) (e : Event) → container_numbered c.number s ≡ Some c → holder name s.containers ≡ None → shown ≡ name
    → p.moment ≡ t → p.plan ≡ Plan.Rename c.number name → p.reply ≡ Answer 204 [] → empty ≡ [] → p.events.items ≡ empty ++ e ∷ [] → e ≡ rename_event c.name (named shown c) t
    → Makes p t s (done (rename name c))
makes_rename p t s c name shown empty e found free told moment plan reply none events is =
    let z : State = at_moment t s in
    let event : e ≡ rename_event c.name (named name c) t = is ∙ ap (λ n. rename_event c.name (named n c) t) told in
    record {
      moment = moment;
      effect = ap (λ q. plan_effect q z) plan ∙ ap (λ o. with_found o (rename name) z) found;
      events = events ∙ (ap (λ l. l ++ e ∷ []) none ∙ (ap (λ x. x ∷ []) event ∙ sym (rename_told name z c found)));
      reply = reply;
      brings = subst (λ q. Brings (need_of q) t s) (sym plan) free;
    }
