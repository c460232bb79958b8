-- How changes of processes and a removal change what one sees of a container.
use Rattle.std.proofs.Common.{◌≡◌, ◌≢◌, ℕ, ◌≤◌, ◌==◌, Bool, true, false, not, inl, inr, List, [], ◌∷◌, ◌++◌, Option, Some, None, find, map, if◌then◌else◌, refl, ap, sym, ◌∙◌, subst, arith}
use Rattle.std.proofs.lemmas.Bool.{eqb-true, eq-eqb}
use Rattle.std.specs.Prelude.{option_map, is_some}
use Rattle.std.specs.List.{AllByRecursion}
use Rattle.std.proofs.lemmas.Bool.Decides.{eqb_tells}
use Rattle.engine_text.specs.Owner.{same_owner}
use Rattle.engine_text.specs.Scripts.{Program}
use Rattle.proc_kernel.specs.Processes.{Process, is_frozen, spawn as spawned}
use Rattle.proc_kernel.specs.Tables.{Entry, process_of, begun}
use Rattle.machine_model.specs.State.{State, exec_numbered, change_process, change_exec, drop_process}
use Rattle.machine_model.specs.Chain.{change}
use Rattle.machine_model.specs.Consistency.{AreDistinct}
use Rattle.machine_model.specs.Effects.Launch.{spawn}
use Rattle.machine_model.specs.Effects.Destroy.{without}
use Rattle.machine_model.specs.Effects.EndMain.{exec_ended}
use Rattle.machine_model.proofs.ListLemmas.{distinct_more}
use Rattle.machine_model.proofs.ChangeLemmas.{map_updated, distinct_removed, distinct_filtered, all_filtered}
use Rattle.machine_model.proofs.Tables.NumberLemmas.{other_stands, itself_gone, is_not, find_updated, find_other, keep_if, find_filtered}
use Rattle.machine_model.proofs.Tables.ProcessLemmas.{other_owner, begun_stands, begun_others, changed_stands, changed_others, changed_owners, gone, gone_others, distinct_without}
use Rattle.machine_model.proofs.OwnerLemmas.{same_owner-refl}
use Rattle.machine_model.proofs.Fits.LogRoomLemmas.{life_of, RoomBy, OutputFits, IsEmptyOf, room_less, room_mapped, outputs_less, exec_room_of, exec_room_changed, exec_room_gone}
use Rattle.machine_model.proofs.Fits.PartLemmas.{Parts, parts_of, IcyAs, Watches, ExecBy, ExecsBy, exec_moved, execs_moved, watched, Roomy, roomed, Watch, SteadyBy, Steady, Leads}
use Rattle.engine_text.specs.declared.exec.Exec.{Exec}
use Rattle.engine_text.specs.declared.container.Container.{Container}
use Rattle.engine_text.specs.declared.container.Life.{Life}
use Rattle.engine_text.specs.declared.owner.Owner.{Owner}
use Rattle.engine_text.specs.declared.owner.Owner.TheVariants.{Container as OfContainer, Exec as OfExec}

-- ---- processes

others_apart : (n m : ℕ) → n ≢ m → same_owner (OfContainer n) (OfContainer m) ≡ false
others_apart n m other = other_owner n m other

mapped_lives : (f : Process → Process) (p : Option Process) → is_some (option_map f p) ≡ is_some p
mapped_lives f None = refl
mapped_lives f (Some p) = refl

pub leads_process : {Local : Parts → Type 0} {n : ℕ} {P Q : Parts → Type 0} (f : State → Process → Process) → ((s : State) (v : Parts) → P v → Q (record v { main = option_map (f s) v.main }))
    → ((s : State) (q : Process) → (f s q).room ≤ q.room) → Leads Local n P (change (λ s. change_process (OfContainer n) (f s) s)) Q
leads_process {Local} {n} {P} {Q} f k less = record {
  holds = λ s h.
      let o : Owner = OfContainer n in
      let t : State = change_process o (f s) s in
      let one : parts_of n t ≡ record (parts_of n s) { main = option_map (f s) (parts_of n s).main } = ap (λ p. record (parts_of n s) { main = p }) (changed_stands o (f s) s.processes) in
      let others : (m : ℕ) → n ≢ m → parts_of m t ≡ parts_of m s =
      λ m other. ap (λ p. record (parts_of m s) { main = p }) (changed_others o (OfContainer m) (f s) s.processes (others_apart n m other)) in (
        (
          h.0.0,
          subst AreDistinct (sym (changed_owners o (f s) s.processes)) h.0.1,
          h.0.2,
          h.0.3,
          h.0.4,
          h.0.5,
          execs_moved (λ j p. Watches (parts_of j s) p) (λ j p. Watches (parts_of j t) p) s.execs s.processes t.processes (λ m. changed_others o (OfExec m) (f s) s.processes refl)
              (watched n s t others (λ p w. subst (λ v. Watches v p) (sym one) (mapped_lives (f s) (parts_of n s).main ∙ w.0, w.1))) h.0.6,
          record {
            mains = roomed n s t others (subst Roomy (sym one) (room_less (parts_of n s).life (parts_of n s).main (option_map (f s) (parts_of n s).main) (room_mapped (f s) (less s) (parts_of n s).main) (h.0.7.mains n))) h.0.7.mains;
            outputs = outputs_less s.processes t.processes s.outputs (exec_room_of s.processes t.processes (λ m. changed_others o (OfExec m) (f s) s.processes refl)) h.0.7.outputs;
            empty = h.0.7.empty;
          },
        ),
        λ m other. subst Local (sym (others m other)) (h.1 m other),
        subst Q (sym one) (k s (parts_of n s) h.2),
      );
}

exec_changed : (W : ℕ → Process → Type 0) (f : Process → Process) (o : Option Exec) (p : Option Process) → ((x : Exec) (q : Process) → o ≡ Some x → p ≡ Some q → W x.container q → W x.container (f q))
    → ExecBy W o p → ExecBy W o (option_map f p)
exec_changed W f None p k h = ap (option_map f) h
exec_changed W f (Some x) None k h = h
exec_changed W f (Some x) (Some q) k h = (h.0, h.1, k x q refl refl h.2)

-- the process of an exec changed
pub exec_process_by : (W : ℕ → Parts → Process → Type 0) (Local : Parts → Type 0) (n : ℕ) (P : Parts → Type 0) (k : ℕ) (f : Process → Process) (s : State)
    → ((x : Exec) (q : Process) → exec_numbered k s ≡ Some x → process_of (OfExec k) s.processes ≡ Some q → W x.container (parts_of x.container s) q → W x.container (parts_of x.container s) (f q))
    → ((q : Process) → (f q).room ≤ q.room) → SteadyBy W Local n P s → SteadyBy W Local n P (change_process (OfExec k) f s)
exec_process_by W Local n P k f s keeps less h =
    let t : State = change_process (OfExec k) f s in
    let all : (m : ℕ) → parts_of m t ≡ parts_of m s = λ m. ap (λ p. record (parts_of m s) { main = p }) (changed_others (OfExec k) (OfContainer m) f s.processes refl) in
    let execs : ExecsBy (λ j p. W j (parts_of j s) p) s.execs t.processes = λ m. elim (eqb_tells k m) [
      | inl e ↦ subst (λ j. ExecBy (λ i p. W i (parts_of i s) p) (find (λ x. x.number == j) s.execs) (process_of (OfExec j) t.processes)) e.1
          (subst (ExecBy (λ i p. W i (parts_of i s) p) (exec_numbered k s)) (sym (changed_stands (OfExec k) f s.processes))
          (exec_changed (λ i p. W i (parts_of i s) p) f (exec_numbered k s) (process_of (OfExec k) s.processes) keeps (h.0.6 k)))
      | inr e ↦ subst (ExecBy (λ i p. W i (parts_of i s) p) (find (λ x. x.number == m) s.execs)) (sym (changed_others (OfExec k) (OfExec m) f s.processes (is_not k m e.1))) (h.0.6 m)
    ] in (
      (
        h.0.0,
        subst AreDistinct (sym (changed_owners (OfExec k) f s.processes)) h.0.1,
        h.0.2,
        h.0.3,
        h.0.4,
        h.0.5,
        execs_moved (λ j p. W j (parts_of j s) p) (λ j p. W j (parts_of j t) p) s.execs t.processes t.processes (λ m. refl) (λ j p w. subst (λ v. W j v p) (sym (all j)) w) execs,
        record {
          mains = λ m. subst Roomy (sym (all m)) (h.0.7.mains m);
          outputs = outputs_less s.processes t.processes s.outputs (exec_room_changed k f less s.processes) h.0.7.outputs;
          empty = h.0.7.empty;
        },
      ),
      λ m other. subst Local (sym (all m)) (h.1 m other),
      subst P (sym (all n)) h.2,
    )

pub leads_exec_process : {Local : Parts → Type 0} {n : ℕ} {P : Parts → Type 0} (k : ℕ) (f : State → Process → Process) → ((s : State) (q : Process) → is_frozen (f s q).pace ≡ is_frozen q.pace)
    → ((s : State) (q : Process) → (f s q).room ≤ q.room) → Leads Local n P (change (λ s. change_process (OfExec k) (f s) s)) P
leads_exec_process {Local} {n} {P} k f paced less = record {
  holds = λ s h. exec_process_by Watch Local n P k (f s) s (λ x q e g w. (w.0, icy_paced (parts_of x.container s).life (f s) q (paced s q) w.1)) (less s) h;
}
  where
    icy_paced : (o : Option Life) (g : Process → Process) (q : Process) → is_frozen (g q).pace ≡ is_frozen q.pace → IcyAs o q → IcyAs o (g q)
    icy_paced None g q e h = h
    icy_paced (Some l) g q e h = e ∙ h

-- an exec's end
ended_by : (W : ℕ → Process → Type 0) (code : ℕ) (o : Option Exec) → ExecBy W (option_map (exec_ended code) o) None
ended_by W code None = refl
ended_by W code (Some x) = refl

still_fresh : (code : ℕ) (o : Option Exec) (x : Exec) → option_map (exec_ended code) o ≡ Some x → x.started ≡ false → (y : Exec) × (o ≡ Some y) × (y.started ≡ false)
still_fresh code None x e fresh = absurd (cc)
still_fresh code (Some y) x e fresh = (y, refl, ap started_in e ∙ fresh)
  where
    started_in : Option Exec → Bool
    started_in None = true
    started_in (Some z) = z.started

pub end_exec_by : (W : ℕ → Parts → Process → Type 0) (Local : Parts → Type 0) (n : ℕ) (P : Parts → Type 0) (code k : ℕ) (s : State) → SteadyBy W Local n P s
    → SteadyBy W Local n P (change_exec k (exec_ended code) (drop_process (OfExec k) s))
end_exec_by W Local n P code k s h =
    let t : State = change_exec k (exec_ended code) (drop_process (OfExec k) s) in
    let all : (m : ℕ) → parts_of m t ≡ parts_of m s = λ m. ap (λ p. record (parts_of m s) { main = p }) (gone_others (OfExec k) (OfContainer m) s.processes refl) in
    let execs : ExecsBy (λ j p. W j (parts_of j s) p) t.execs t.processes = λ m. elim (eqb_tells k m) [
      | inl e ↦ subst (λ j. ExecBy (λ i p. W i (parts_of i s) p) (find (λ x. x.number == j) t.execs) (process_of (OfExec j) t.processes)) e.1
          (subst (λ o. ExecBy (λ i p. W i (parts_of i s) p) o (process_of (OfExec k) t.processes)) (sym (find_updated (λ (x : Exec). x.number) k (exec_ended code) (λ x. refl) s.execs))
          (subst (ExecBy (λ i p. W i (parts_of i s) p) (option_map (exec_ended code) (exec_numbered k s))) (sym (gone (OfExec k) s.processes h.0.1))
          (ended_by (λ i p. W i (parts_of i s) p) code (exec_numbered k s))))
      | inr e ↦ subst (λ o. ExecBy (λ i p. W i (parts_of i s) p) o (process_of (OfExec m) t.processes)) (sym (find_other (λ (x : Exec). x.number) k m (exec_ended code) (λ x. refl) e.1 s.execs))
          (subst (ExecBy (λ i p. W i (parts_of i s) p) (exec_numbered m s)) (sym (gone_others (OfExec k) (OfExec m) s.processes (is_not k m e.1))) (h.0.6 m))
    ] in (
      (
        h.0.0,
        distinct_without (OfExec k) s.processes h.0.1,
        h.0.2,
        h.0.3,
        h.0.4,
        subst AreDistinct (sym (map_updated (λ (x : Exec). x.number) (λ x. x.number == k) (exec_ended code) s.execs (λ x. refl))) h.0.5,
        execs_moved (λ j p. W j (parts_of j s) p) (λ j p. W j (parts_of j t) p) t.execs t.processes t.processes (λ m. refl) (λ j p w. subst (λ v. W j v p) (sym (all j)) w) execs,
        record {
          mains = λ m. subst Roomy (sym (all m)) (h.0.7.mains m);
          outputs = outputs_less s.processes t.processes s.outputs (exec_room_gone k s.processes h.0.1) h.0.7.outputs;
          empty = λ m x e fresh. elim (eqb_tells k m) [
            | inl is ↦
                let old = still_fresh code (exec_numbered m s) x
                (sym (subst (λ j. find (λ (y : Exec). y.number == j) t.execs ≡ option_map (exec_ended code) (exec_numbered j s)) is.1 (find_updated (λ (x : Exec). x.number) k (exec_ended code) (λ x. refl) s.execs)) ∙ e) fresh in
                h.0.7.empty m old.0 old.1 old.2
            | inr other ↦ h.0.7.empty m x (sym (find_other (λ (x : Exec). x.number) k m (exec_ended code) (λ x. refl) other.1 s.execs) ∙ e) fresh
          ];
        },
      ),
      λ m other. subst Local (sym (all m)) (h.1 m other),
      subst P (sym (all n)) h.2,
    )

-- no exec of the container has a process
abbrev pub NoExecs : ℕ → State → Type 0
NoExecs n s = (m : ℕ) (x : Exec) → exec_numbered m s ≡ Some x → x.container ≡ n → process_of (OfExec m) s.processes ≡ None

none_watched : (p : Option Process) (q : Process) → p ≡ None → p ≡ Some q → ⊥
none_watched None q e f = absurd (cc)
none_watched (Some r) q e f = absurd (cc)

pub drop_main : (Local : Parts → Type 0) (n : ℕ) (P Q : Parts → Type 0) → ((v : Parts) → P v → Q (record v { main = None })) → (s : State) → NoExecs n s → Steady Local n P s
    → Steady Local n Q (drop_process (OfContainer n) s)
drop_main Local n P Q k s none h =
    let o : Owner = OfContainer n in
    let t : State = drop_process o s in
    let one : parts_of n t ≡ record (parts_of n s) { main = None } = ap (λ p. record (parts_of n s) { main = p }) (gone o s.processes h.0.1) in
    let others : (m : ℕ) → n ≢ m → parts_of m t ≡ parts_of m s = λ m other. ap (λ p. record (parts_of m s) { main = p }) (gone_others o (OfContainer m) s.processes (others_apart n m other)) in
    let execs : ExecsBy (λ j p. Watches (parts_of j t) p) s.execs s.processes = λ m.
    exec_moved (λ j p. Watches (parts_of j s) p) (λ j p. Watches (parts_of j t) p) (exec_numbered m s) (process_of (OfExec m) s.processes)
    (λ x q e f w. elim (eqb_tells n x.container) [
      | inl is ↦ absurd (none_watched (process_of (OfExec m) s.processes) q (none m x e (sym is.1)) f)
      | inr other ↦ subst (λ v. Watches v q) (sym (others x.container other.1)) w
    ]) (h.0.6 m) in (
      (
        h.0.0,
        distinct_without o s.processes h.0.1,
        h.0.2,
        h.0.3,
        h.0.4,
        h.0.5,
        execs_moved (λ j p. Watches (parts_of j t) p) (λ j p. Watches (parts_of j t) p) s.execs s.processes t.processes (λ m. gone_others o (OfExec m) s.processes refl) (λ j p w. w) execs,
        record {
          mains = roomed n s t others (subst Roomy (sym one) (room_less (parts_of n s).life (parts_of n s).main None (omega arith) (h.0.7.mains n))) h.0.7.mains;
          outputs = outputs_less s.processes t.processes s.outputs (exec_room_of s.processes t.processes (λ m. gone_others o (OfExec m) s.processes refl)) h.0.7.outputs;
          empty = h.0.7.empty;
        },
      ),
      λ m other. subst Local (sym (others m other)) (h.1 m other),
      subst Q (sym one) (k (parts_of n s) h.2),
    )

no_owner_by : (b : Bool) (o : Owner) (e : Entry) (rest : Option Process) → same_owner e.owner o ≡ b → (if b then Some e.process else rest) ≡ None → (e.owner ≢ o) × (rest ≡ None)
no_owner_by true o e rest is none = absurd (cc)
no_owner_by false o e rest is none =
    (λ same. let yes_it_is : same_owner e.owner o ≡ true = subst (λ p. same_owner p o ≡ true) (sym same) (same_owner-refl o) in let never : false ≡ true = sym is ∙ yes_it_is in absurd (cc), none)

pub no_owner : (o : Owner) (es : List Entry) → process_of o es ≡ None → AllByRecursion (λ p. p ≢ o) (map (λ e. e.owner) es)
no_owner o [] none = tt
no_owner o (e ∷ es) none = let one = no_owner_by (same_owner e.owner o) o e (process_of o es) refl none in (one.0, no_owner o es one.1)

pub more_owners : (es : List Entry) (o : Owner) (p : Process) → map (λ e. e.owner) (es ++ begun o p ∷ []) ≡ map (λ e. e.owner) es ++ o ∷ []
more_owners [] o p = refl
more_owners (e ∷ es) o p = ap (λ l. e.owner ∷ l) (more_owners es o p)

pub leads_spawn : {Local : Parts → Type 0} {n : ℕ} {P Q : Parts → Type 0} (program : Program) (stdin : Bool) (room : ℕ) → ((v : Parts) → P v → v.main ≡ None)
    → ((t : ℕ) (v : Parts) → P v → Q (record v { main = Some (spawned program t stdin room) })) → ((v : Parts) → P v → Roomy v → RoomBy v.life (Some (spawned program 0 stdin room)))
    → Leads Local n P (change (spawn (OfContainer n) program stdin room)) Q
leads_spawn {Local} {n} {P} {Q} program stdin room none k fits = record {
  holds = λ s h.
      let o : Owner = OfContainer n in
      let p : Process = spawned program s.clock stdin room in
      let t : State = spawn o program stdin room s in
      let others : (m : ℕ) → n ≢ m → parts_of m t ≡ parts_of m s = λ m other. ap (λ q. record (parts_of m s) { main = q }) (begun_others o (OfContainer m) p s.processes (others_apart n m other)) in (
        (
          h.0.0,
          subst AreDistinct (sym (more_owners s.processes o p)) (distinct_more (map (λ e. e.owner) s.processes) o h.0.1 (no_owner o s.processes (none (parts_of n s) h.2))),
          h.0.2,
          h.0.3,
          omega arith,
          h.0.5,
          execs_moved (λ j p. Watches (parts_of j s) p) (λ j p. Watches (parts_of j t) p) s.execs s.processes t.processes (λ m. begun_others o (OfExec m) p s.processes refl)
              (watched n s t others (λ q w. let no_way : false ≡ true = sym (ap is_some (none (parts_of n s) h.2)) ∙ w.0 in absurd (cc))) h.0.6,
          record {
            mains = roomed n s t others
                (subst (λ q. RoomBy (parts_of n s).life q) (sym (begun_stands o p s.processes (none (parts_of n s) h.2))) (room_less (parts_of n s).life (Some (spawned program 0 stdin room)) (Some p) (omega arith) (fits (parts_of n s) h.2 (h.0.7.mains n))))
                h.0.7.mains;
            outputs = outputs_less s.processes t.processes s.outputs (exec_room_of s.processes t.processes (λ m. begun_others o (OfExec m) p s.processes refl)) h.0.7.outputs;
            empty = h.0.7.empty;
          },
        ),
        λ m other. subst Local (sym (others m other)) (h.1 m other),
        subst Q (sym (ap (λ q. record (parts_of n s) { main = q }) (begun_stands o p s.processes (none (parts_of n s) h.2)))) (k s.clock (parts_of n s) h.2),
      );
}

-- ---- the removal

exec_kept : (n : ℕ) (W V : ℕ → Process → Type 0) (b : Bool) (x : Exec) (p : Option Process) → (x.container == n) ≡ b → ((q : Process) → W n q → ⊥) → ((k : ℕ) (q : Process) → n ≢ k → W k q → V k q)
    → ExecBy W (Some x) p → ExecBy V (if not b then Some x else None) p
exec_kept n W V true x None e none k h = refl
exec_kept n W V true x (Some q) e none k h = absurd (none q (subst (λ j. W j q) (eqb-true x.container n e) h.2))
exec_kept n W V false x p e none k h =
    exec_moved W V (Some x) p (λ y q is f w. k y.container q (λ same. let off : (y.container == n) ≡ false = ap (λ (z : Option Exec). is_at z) (sym is) ∙ e in let on : (y.container == n) ≡ true = eq-eqb y.container n (sym same) in let no_way : false ≡ true = sym off ∙ on in absurd (cc)) w) h
  where
    is_at : Option Exec → Bool
    is_at None = false
    is_at (Some z) = z.container == n

kept_at : (b : Bool) (y x : Exec) → (if b then Some y else None) ≡ Some x → Some y ≡ Some x
kept_at true y x e = e
kept_at false y x e = absurd (cc)

kept_some : (q : Exec → Bool) (o : Option Exec) (x : Exec) → keep_if q o ≡ Some x → o ≡ Some x
kept_some q None x e = absurd (cc)
kept_some q (Some y) x e = kept_at (q y) y x e

exec_filtered : (n : ℕ) (W V : ℕ → Process → Type 0) (o : Option Exec) (p : Option Process) → ((q : Process) → W n q → ⊥) → ((k : ℕ) (q : Process) → n ≢ k → W k q → V k q)
    → ExecBy W o p → ExecBy V (keep_if (λ x. not (x.container == n)) o) p
exec_filtered n W V None p none k h = h
exec_filtered n W V (Some x) p none k h = exec_kept n W V (x.container == n) x p refl none k h

pub leads_without : {Local : Parts → Type 0} {P Q : Parts → Type 0} (c : Container) → ((v : Parts) → P v → v.main ≡ None) → ((v : Parts) → P v → Q (record v { life = None })) → Leads Local c.number P (change (without c)) Q
leads_without {Local} {P} {Q} c none k = record {
  holds = λ s h.
      let n : ℕ = c.number in
      let t : State = without c s in
      let others : (m : ℕ) → n ≢ m → parts_of m t ≡ parts_of m s = λ m other. ap (λ l. record (parts_of m s) { life = life_of l }) (other_stands n m s.containers other) in (
        (
          distinct_removed (λ (d : Container). d.number) (λ d. d.number == n) s.containers h.0.0,
          h.0.1,
          h.0.2,
          h.0.3,
          h.0.4,
          distinct_filtered (λ (x : Exec). x.number) (λ x. not (x.container == n)) s.execs h.0.5,
          λ m. subst (λ o. ExecBy (λ j p. Watches (parts_of j t) p) o (process_of (OfExec m) s.processes)) (sym (find_filtered (λ (x : Exec). x.number) (λ x. not (x.container == n)) m s.execs h.0.5))
              (exec_filtered n (λ j p. Watches (parts_of j s) p) (λ j p. Watches (parts_of j t) p) (exec_numbered m s) (process_of (OfExec m) s.processes)
              (λ q w. let no_way : false ≡ true = sym (ap is_some (none (parts_of n s) h.2)) ∙ w.0 in absurd (cc)) (λ j q other w. subst (λ v. Watches v q) (sym (others j other)) w) (h.0.6 m)),
          record {
            mains = roomed n s t others (subst (λ l. RoomBy (life_of l) (process_of (OfContainer n) s.processes)) (sym (itself_gone n s.containers h.0.0)) tt) h.0.7.mains;
            outputs = all_filtered (OutputFits s.processes) _ s.outputs h.0.7.outputs;
            empty = λ m x e fresh. all_filtered (IsEmptyOf m) _ s.outputs
                (h.0.7.empty m x (kept_some (λ x. not (x.container == n)) (exec_numbered m s) x (sym (find_filtered (λ (x : Exec). x.number) (λ x. not (x.container == n)) m s.execs h.0.5) ∙ e)) fresh);
          },
        ),
        λ m other. subst Local (sym (others m other)) (h.1 m other),
        subst Q (sym (ap (λ l. record (parts_of n s) { life = life_of l }) (itself_gone n s.containers h.0.0))) (k (parts_of n s) h.2),
      );
}
