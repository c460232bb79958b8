-- What fits still fits behind a create.
use Rattle.std.specs.Option.{is_some}
use Rattle.std.proofs.Common.{◌≡◌, ℕ, ◌<◌, ◌==◌, Bool, true, false, not, List, [], ◌∷◌, ◌++◌, Option, Some, None, find, map, if◌then◌else◌, refl, ap, sym, ◌∙◌, subst, arith, inl, inr}
use Rattle.std.proofs.lemmas.Bool.{eq-eqb}
use Rattle.std.proofs.lemmas.Bool.Decides.{eqb_tells}
use Rattle.api_json.specs.Status.{is_paused, is_restarting}
use Rattle.proc_kernel.specs.Processes.{Process}
use Rattle.machine_model.specs.State.{State, container_numbered}
use Rattle.machine_model.specs.Names.{holder, chosen_name}
use Rattle.machine_model.specs.Consistency.{AreDistinct, FitsStatus, IsFrozenAs, GoalStands}
use Rattle.machine_model.specs.Calls.Create as create
use Rattle.machine_model.specs.Calls.Create.{new_container, with_new, make_missing, volume_named}
use Rattle.machine_model.proofs.ListLemmas.{all_weaken, distinct_more, found_nowhere, below_is_other, below_more, more_numbers}
use Rattle.machine_model.proofs.VolumeLemmas.{made as volumes_made, with_mounts}
use Rattle.machine_model.proofs.Tables.NumberLemmas.{is_not}
use Rattle.machine_model.proofs.Fits.LaunchLemmas.{Fine, OnBy, Local, never}
use Rattle.machine_model.proofs.Fits.LogRoomLemmas.{RoomBy, room_in}
use Rattle.machine_model.proofs.Fits.PartLemmas.{roomed, Watches, IcyAs, execs_moved, watched, parts_of, life_of}
use Rattle.machine_model.proofs.Fits.CallLemmas.{PartsFit}
use Rattle.machine_model.proofs.Fits.FreshLemmas.{Fresh}
use Rattle.engine_text.specs.declared.call.CreateSpec.{CreateSpec}
use Rattle.engine_text.specs.declared.container.Container.{Container}
use Rattle.engine_text.specs.declared.container.Life.{Life}
use Rattle.engine_text.specs.declared.status.Status.{Status}

new_by : (b : Bool) (m : ℕ) (x : Container) (r t : Option Container) → life_of r ≡ life_of t → life_of (if b then Some x else r) ≡ life_of (if b then Some x else t)
new_by true m x r t e = refl
new_by false m x r t e = e

new_other : (m : ℕ) (new : Container) (cs : List Container) → (new.number == m) ≡ false → life_of (find (λ c. c.number == m) (cs ++ new ∷ [])) ≡ life_of (find (λ c. c.number == m) cs)
new_other m new [] e = ap (λ b. life_of (if b then Some new else None)) e
new_other m new (x ∷ cs) e = new_by (x.number == m) m x (find (λ c. c.number == m) (cs ++ new ∷ [])) (find (λ c. c.number == m) cs) (new_other m new cs e)

rest_none : {A : Type 0} (b : Bool) (x : A) (r : Option A) → (if b then Some x else r) ≡ None → (b ≡ false) × (r ≡ None)
rest_none true x r h = absurd (cc)
rest_none false x r h = (refl, h)

new_itself : (n : ℕ) (new : Container) (cs : List Container) → new.number ≡ n → find (λ c. c.number == n) cs ≡ None → find (λ c. c.number == n) (cs ++ new ∷ []) ≡ Some new
new_itself n new [] is e = ap (λ b. if b then Some new else None) (eq-eqb new.number n is)
new_itself n new (x ∷ cs) is e =
    let one = rest_none (x.number == n) x (find (λ c. c.number == n) cs) e in
    ap (λ t. if t then Some x else find (λ c. c.number == n) (cs ++ new ∷ [])) one.0 ∙ new_itself n new cs is one.1

fresh_look : (p : Option Process) (a b c : Bool) (l : Life) → l.status ≡ Status.Created → l.pid ≡ 0 → l.goal ≡ Rattle.engine_text.specs.declared.container.Goal.Goal.None → OnBy Fine None p a b c → Fine l p a b c
fresh_look p a b c l status pid goal h = (
  record {
    status = subst (λ u. FitsStatus u (is_some p)) (sym status) (ap is_some h.0);
    frozen = subst (IsFrozenAs (is_paused l.status)) (sym h.0) tt;
    pid = ap (λ n. not (n == 0)) pid ∙ sym (ap is_some h.0);
    stop = λ e. never a h.1 e;
    removal = λ e. never b h.2 e;
    restart = h.3 ∙ sym (ap is_restarting status);
    program = λ e. never (is_some p) (ap is_some h.0) e;
    again = λ e. never c h.3 e;
    started = λ other. absurd (other status);
  },
  subst (λ g. GoalStands g (is_some p)) (sym goal) tt,
)

mains_new : (name : List ℕ) (spec : CreateSpec) (s : State) → Fresh s → PartsFit s → PartsFit (with_new (new_container name spec s) s)
mains_new name spec s fresh h =
    let c : Container = new_container name spec s in
    let t : State = with_new c s in
    let nobody : container_numbered s.next_number s ≡ None =
    found_nowhere (λ c. c.number == s.next_number) s.containers (all_weaken (λ c. c.number < s.next_number) (λ c. (c.number == s.next_number) ≡ false) (λ c low. below_is_other c.number s.next_number low) s.containers fresh.below) in
    let absent : OnBy Fine None (parts_of s.next_number s).main (parts_of s.next_number s).stop (parts_of s.next_number s).removal (parts_of s.next_number s).restart =
    subst (λ o. OnBy Fine (life_of o) (parts_of s.next_number s).main (parts_of s.next_number s).stop (parts_of s.next_number s).removal (parts_of s.next_number s).restart) nobody (h.1 s.next_number) in
    let there : Local (parts_of s.next_number t) =
    subst (λ (o : Option Container). OnBy Fine (life_of o) (parts_of s.next_number s).main (parts_of s.next_number s).stop (parts_of s.next_number s).removal (parts_of s.next_number s).restart) (sym (new_itself s.next_number c s.containers refl nobody))
    (fresh_look (parts_of s.next_number s).main (parts_of s.next_number s).stop (parts_of s.next_number s).removal (parts_of s.next_number s).restart c.life refl refl refl absent) in (
      (
        subst AreDistinct (sym (more_numbers s.containers c)) (distinct_more (map (λ c. c.number) s.containers) s.next_number h.0.0 (below_more s.next_number s.containers fresh.below)),
        h.0.1,
        h.0.2,
        h.0.3,
        h.0.4,
        h.0.5,
        execs_moved (λ j p. Watches (parts_of j s) p) (λ j p. Watches (parts_of j t) p) s.execs s.processes s.processes (λ m. refl)
            (watched s.next_number s t (λ m other. ap (λ l. record (parts_of m s) { life = l }) (new_other m c s.containers (is_not s.next_number m other)))
            (λ p w. absurd (subst (λ (o : Option Container). IcyAs (life_of o) p) nobody w.1))) h.0.6,
        record {
          mains = roomed s.next_number s t (λ m other. ap (λ l. record (parts_of m s) { life = l }) (new_other m c s.containers (is_not s.next_number m other)))
              (subst (λ (o : Option Container). RoomBy (life_of o) (parts_of s.next_number s).main) (sym (new_itself s.next_number c s.containers refl nobody))
              (let none : room_in (parts_of s.next_number s).main ≡ 0 = ap room_in absent.0 in omega (arith, none))) h.0.7.mains;
          outputs = h.0.7.outputs;
          empty = h.0.7.empty;
        },
      ),
      λ m. elim (eqb_tells s.next_number m) [
        | inl e ↦ subst (λ k. Local (parts_of k t)) e.1 there
        | inr e ↦ subst Local (sym (ap (λ l. record (parts_of m s) { life = l }) (new_other m c s.containers e.0))) (h.1 m)
      ],
    )

create_holder : (o : Option Container) (name : List ℕ) (spec : CreateSpec) (s : State) → Fresh s → PartsFit s → PartsFit (create.by_holder o name spec s).effect.state
create_holder (Some other) name spec s fresh h = h
create_holder None name spec s fresh h =
    let c : Container = new_container name spec s in
    let t : State = record s { volumes = with_mounts spec.mounts s.clock s.volumes } in
    let one : PartsFit (with_new c t) = mains_new name spec t (record { below = fresh.below; execs_below = fresh.execs_below; outputs_below = fresh.outputs_below }) h in
    subst (λ (z : State). PartsFit (with_new c z)) (sym (volumes_made spec.mounts s).0) one

pub create_image : (b : Bool) (spec : CreateSpec) (s : State) → Fresh s → PartsFit s → PartsFit (create.by_image b spec s).effect.state
create_image true spec s fresh h =
    let name : List ℕ = chosen_name spec.name s.next_number s.containers in
    create_holder (holder name s.containers) name spec s fresh h
create_image false spec s fresh h = h
