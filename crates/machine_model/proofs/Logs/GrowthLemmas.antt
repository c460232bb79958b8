-- An owner's log is begun once and grows while its owner stands: the relation, and what changes of containers and outputs keep of it.
use Rattle.std.specs.Prelude.{is_some, option_map}
use Rattle.std.specs.Option.{option_or}
use Rattle.std.proofs.Common.{◌≡◌, ℕ, ◌+◌, ◌≤◌, ◌<◌, ◌==◌, Bool, true, false, List, [], ◌∷◌, ◌++◌, Option, Some, None, find, map, if◌then◌else◌, refl, ap, sym, ◌∙◌, subst, arith, ◌⊎◌, inl, inr}
use Rattle.std.proofs.lemmas.Bool.{eqb-true}
use Rattle.std.specs.List.{AllByRecursion, flat_map}
use Rattle.container_table.specs.Lists.{update_first}
use Rattle.engine_text.specs.Owner.{same_owner}
use Rattle.machine_model.specs.State.{State, owner_number, container_numbered}
use Rattle.machine_model.specs.Chain.{Effect}
use Rattle.machine_model.specs.Consistency.{AreDistinct}
use Rattle.machine_model.specs.LogStream.{log_among, kept_log, standing_log, log_found}
use Rattle.machine_model.proofs.ListLemmas.{append_nil, append_assoc}
use Rattle.machine_model.proofs.Fold.RowLemmas.{made}
use Rattle.machine_model.proofs.ChangeLemmas.{map_updated, all_updated}
use Rattle.engine_text.specs.declared.container.Container.{Container}
use Rattle.engine_text.specs.declared.container.Life.{Life}
use Rattle.engine_text.specs.declared.exec.Exec.{Exec}
use Rattle.engine_text.specs.declared.log.KeptLogs.{KeptLogs}
use Rattle.engine_text.specs.declared.log.LogRecord.{LogRecord}
use Rattle.engine_text.specs.declared.log.OwnedLog.{OwnedLog}
use Rattle.engine_text.specs.declared.owner.Owner.{Owner}
use Rattle.engine_text.specs.declared.owner.Owner.TheVariants.{Container as OfContainer, Exec as OfExec}

-- ---- one owner's log

-- of two logs of an owner that stands
abbrev pub Grew : Option (List LogRecord) → Option (List LogRecord) → Type 0
Grew None None = Unit {0}
Grew None (Some l) = ⊥
Grew (Some l) None = ⊥
Grew (Some l) (Some m) = (rest : List LogRecord) × (m ≡ l ++ rest)

-- of two logs, the second found later; `low` says that the number had not been given
abbrev pub Later : Type 0 → Option (List LogRecord) → Option (List LogRecord) → Type 0
Later low None None = Unit {0}
Later low None (Some l) = low
Later low (Some l) None = Unit {0}
Later low (Some l) (Some m) = (rest : List LogRecord) × (m ≡ l ++ rest)

-- a removal kept no log of the owner
abbrev pub Lacks : Owner → KeptLogs → Type 0
Lacks o k = log_among o k.logs ≡ None

-- the logs of the owner among those that are kept
abbrev pub among : Owner → List KeptLogs → Option (List LogRecord)
among o ks = log_among o (flat_map (λ k. k.logs) ks)

-- one removal at most kept one
abbrev pub KeptOnce : Owner → List KeptLogs → Type 0
KeptOnce o [] = Unit {0}
KeptOnce o (k ∷ ks) = ((log_among o k.logs ≡ None) ⊎ AllByRecursion (Lacks o) ks) × KeptOnce o ks

-- an owner whose number is not given has no log, one that stands has none that is kept
abbrev pub Owns : Owner → Option (List LogRecord) → List KeptLogs → ℕ → Type 0
Owns o standing ks next =
    (next ≤ owner_number o → (standing ≡ None) × AllByRecursion (Lacks o) ks) × (is_some standing ≡ true → AllByRecursion (Lacks o) ks) × KeptOnce o ks

-- what is kept of an owner, and of the containers' numbers
abbrev pub Logs : Owner → State → Type 0
Logs o s =
    Owns o (standing_log o s) s.kept s.next_number × AreDistinct (map (λ c. c.number) s.containers) × AllByRecursion (λ c. c.number < s.next_number) s.containers

abbrev pub Grows : Owner → State → Effect → Type 0
Grows o s e =
    Logs o s → Logs o e.state × (s.next_number ≤ e.state.next_number) × Later (s.next_number ≤ owner_number o) (log_found o s) (log_found o e.state)

-- ---- Later

pub later_refl : (low : Type 0) (x : Option (List LogRecord)) → Later low x x
later_refl low None = tt
later_refl low (Some l) = ([], sym (append_nil l))

later_then : (low more : Type 0) (x y z : Option (List LogRecord)) → (is_some x ≡ true → more → ⊥) → (more → low) → Later low x y → Later more y z → Later low x z
later_then low more None None None born less first second = tt
later_then low more None None (Some n) born less first second = less second
later_then low more None (Some m) None born less first second = tt
later_then low more None (Some m) (Some n) born less first second = first
later_then low more (Some l) None None born less first second = tt
later_then low more (Some l) None (Some n) born less first second = absurd (born refl second)
later_then low more (Some l) (Some m) None born less first second = tt
later_then low more (Some l) (Some m) (Some n) born less first second =
    (first.0 ++ second.0, second.1 ∙ (ap (λ xs. xs ++ second.0) first.1 ∙ append_assoc l first.0 second.0))

among_by : (b : Bool) (x : OwnedLog) (r t : Option OwnedLog) (u : Option (List LogRecord)) → option_map (λ (l : OwnedLog). l.log) t ≡ option_or (option_map (λ (l : OwnedLog). l.log) r) u → option_map (λ (l : OwnedLog). l.log) (if b then Some x else t) ≡ option_or (option_map (λ (l : OwnedLog). l.log) (if b then Some x else r)) u
among_by true x r t u e = refl
among_by false x r t u e = e

pub among_append : (o : Owner) (a b : List OwnedLog) → log_among o (a ++ b) ≡ option_or (log_among o a) (log_among o b)
among_append o [] b = refl
among_append o (x ∷ a) b = among_by (same_owner x.owner o) x (find (λ l. same_owner l.owner o) a) (find (λ l. same_owner l.owner o) (a ++ b)) (log_among o b) (among_append o a b)

pub no_logs : (o : Owner) (ks : List KeptLogs) → AllByRecursion (Lacks o) ks → among o ks ≡ None
no_logs o [] h = refl
no_logs o (k ∷ ks) h =
    among_append o k.logs (flat_map (λ k. k.logs) ks) ∙ (ap (λ x. option_or x (among o ks)) h.0 ∙ no_logs o ks h.1)

-- a log is of an owner whose number is given
log_born : (o : Owner) (standing : Option (List LogRecord)) (ks : List KeptLogs) (next : ℕ) → Owns o standing ks next → is_some (option_or standing (among o ks)) ≡ true → next ≤ owner_number o → ⊥
log_born o standing ks next owns is low =
    let none = owns.0 low in
    let gone : option_or standing (among o ks) ≡ None = ap (λ x. option_or x (among o ks)) none.0 ∙ no_logs o ks none.1 in
    let never : false ≡ true = sym (ap is_some gone) ∙ is in
    absurd (cc)

pub grows_after : (o : Owner) (s : State) (a b : Effect) → Grows o s a → Grows o a.state b
    → Logs o s → Logs o b.state × (s.next_number ≤ b.state.next_number) × Later (s.next_number ≤ owner_number o) (log_found o s) (log_found o b.state)
grows_after o s a b first second h =
    let x = first h in
    let y = second x.0 in (
      y.0,
      omega (arith, x.1, y.1),
      later_then (s.next_number ≤ owner_number o) (a.state.next_number ≤ owner_number o) (log_found o s) (log_found o a.state) (log_found o b.state)
          (λ is low. log_born o (standing_log o s) s.kept s.next_number h.0 is (omega (arith, x.1, low))) (λ low. omega (arith, x.1, low)) x.2 y.2,
    )

-- ---- an owner that stands, and grows

owns_grew : (o : Owner) (x y : Option (List LogRecord)) (ks : List KeptLogs) (next : ℕ) → Grew x y → Owns o x ks next → Owns o y ks next
owns_grew o None None ks next grew h = h
owns_grew o None (Some m) ks next grew h = absurd grew
owns_grew o (Some l) None ks next grew h = absurd grew
owns_grew o (Some l) (Some m) ks next grew h = (λ low. absurd (cc ((h.0 low).0)), λ is. h.1 refl, h.2)

later_grew : (low : Type 0) (x y z : Option (List LogRecord)) → Grew x y → Later low (option_or x z) (option_or y z)
later_grew low None None z grew = later_refl low z
later_grew low None (Some m) z grew = absurd grew
later_grew low (Some l) None z grew = absurd grew
later_grew low (Some l) (Some m) z grew = grew

grew_refl : (x : Option (List LogRecord)) → Grew x x
grew_refl None = tt
grew_refl (Some l) = ([], sym (append_nil l))

-- ---- changes of containers

grew_at : (b : Bool) (c : Container) (f : Life → Life) (g : List ℕ → List ℕ) (r : Option Container) → ((l : Life) → (rest : List LogRecord) × ((f l).log ≡ l.log ++ rest))
    → Grew (option_map (λ (c : Container). c.life.log) (if b then Some c else r)) (option_map (λ (c : Container). c.life.log) (if b then Some (made g f c) else r))
grew_at true c f g r k = k c.life
grew_at false c f g r k = grew_refl (option_map (λ (c : Container). c.life.log) r)

grew_past : (b : Bool) (c : Container) (r t : Option Container) → Grew (option_map (λ (c : Container). c.life.log) r) (option_map (λ (c : Container). c.life.log) t) → Grew (option_map (λ (c : Container). c.life.log) (if b then Some c else r)) (option_map (λ (c : Container). c.life.log) (if b then Some c else t))
grew_past true c r t h = grew_refl (Some c.life.log)
grew_past false c r t h = h

grew_cons : (hit : Bool) (m : ℕ) (c : Container) (f : Life → Life) (g : List ℕ → List ℕ) (cs new : List Container) → ((l : Life) → (rest : List LogRecord) × ((f l).log ≡ l.log ++ rest))
    → Grew (option_map (λ (c : Container). c.life.log) (find (λ c. c.number == m) cs)) (option_map (λ (c : Container). c.life.log) (find (λ c. c.number == m) new))
    → Grew (option_map (λ (c : Container). c.life.log) (find (λ c. c.number == m) (c ∷ cs))) (option_map (λ (c : Container). c.life.log) (find (λ c. c.number == m) (if hit then made g f c ∷ cs else c ∷ new)))
grew_cons true m c f g cs new k h = grew_at (c.number == m) c f g (find (λ c. c.number == m) cs) k
grew_cons false m c f g cs new k h = grew_past (c.number == m) c (find (λ c. c.number == m) cs) (find (λ c. c.number == m) new) h

grew_updated : (n m : ℕ) (f : Life → Life) (g : List ℕ → List ℕ) → ((l : Life) → (rest : List LogRecord) × ((f l).log ≡ l.log ++ rest)) → (cs : List Container)
    → Grew (option_map (λ (c : Container). c.life.log) (find (λ c. c.number == m) cs)) (option_map (λ (c : Container). c.life.log) (find (λ c. c.number == m) (update_first (λ c. c.number == n) (made g f) cs)))
grew_updated n m f g k [] = tt
grew_updated n m f g k (c ∷ cs) = grew_cons (c.number == n) m c f g cs (update_first (λ c. c.number == n) (made g f) cs) k (grew_updated n m f g k cs)

grew_standing : (o : Owner) (s : State) (n : ℕ) (f : Life → Life) (g : List ℕ → List ℕ) → ((l : Life) → (rest : List LogRecord) × ((f l).log ≡ l.log ++ rest))
    → Grew (standing_log o s) (standing_log o (record s { containers = update_first (λ c. c.number == n) (made g f) s.containers }))
grew_standing (OfContainer m) s n f g k = grew_updated n m f g k s.containers
grew_standing (OfExec m) s n f g k = grew_refl (log_among (OfExec m) s.outputs)

pub grows_changed : (o : Owner) (s : State) (n : ℕ) (f : Life → Life) (g : List ℕ → List ℕ) → ((l : Life) → (rest : List LogRecord) × ((f l).log ≡ l.log ++ rest))
    → Grows o s (record { state = record s { containers = update_first (λ c. c.number == n) (made g f) s.containers }; events = []; died = [] })
grows_changed o s n f g k h =
    let t : State = record s { containers = update_first (λ c. c.number == n) (made g f) s.containers } in
    let grew : Grew (standing_log o s) (standing_log o t) = grew_standing o s n f g k in (
      (
        owns_grew o (standing_log o s) (standing_log o t) s.kept s.next_number grew h.0,
        subst AreDistinct (sym (map_updated (λ (c : Container). c.number) (λ c. c.number == n) (made g f) s.containers (λ c. refl))) h.1,
        all_updated (λ c. c.number < s.next_number) (λ c. c.number == n) (made g f) (λ c low. low) s.containers h.2,
      ),
      omega arith,
      later_grew (s.next_number ≤ owner_number o) (standing_log o s) (standing_log o t) (kept_log o s) grew,
    )

-- ---- outputs

-- a log with one record more
abbrev longer : LogRecord → OwnedLog → OwnedLog
longer r o = record o { log = o.log ++ r ∷ [] }

put_at : (b : Bool) (x : OwnedLog) (r : LogRecord) (rest : Option OwnedLog) → Grew (option_map (λ (l : OwnedLog). l.log) (if b then Some x else rest)) (option_map (λ (l : OwnedLog). l.log) (if b then Some (longer r x) else rest))
put_at true x r rest = (r ∷ [], refl)
put_at false x r rest = grew_refl (option_map (λ (l : OwnedLog). l.log) rest)

put_past : (b : Bool) (x : OwnedLog) (r t : Option OwnedLog) → Grew (option_map (λ (l : OwnedLog). l.log) r) (option_map (λ (l : OwnedLog). l.log) t) → Grew (option_map (λ (l : OwnedLog). l.log) (if b then Some x else r)) (option_map (λ (l : OwnedLog). l.log) (if b then Some x else t))
put_past true x r t h = grew_refl (Some x.log)
put_past false x r t h = h

put_cons : (hit : Bool) (o : Owner) (x : OwnedLog) (r : LogRecord) (ls new : List OwnedLog) → Grew (log_among o ls) (log_among o new)
    → Grew (log_among o (x ∷ ls)) (log_among o (if hit then longer r x ∷ ls else x ∷ new))
put_cons true o x r ls new h = put_at (same_owner x.owner o) x r (find (λ l. same_owner l.owner o) ls)
put_cons false o x r ls new h = put_past (same_owner x.owner o) x (find (λ l. same_owner l.owner o) ls) (find (λ l. same_owner l.owner o) new) h

put_grew : (o p : Owner) (r : LogRecord) (ls : List OwnedLog) → Grew (log_among o ls) (log_among o (update_first (λ l. same_owner l.owner p) (longer r) ls))
put_grew o p r [] = tt
put_grew o p r (x ∷ ls) = put_cons (same_owner x.owner p) o x r ls (update_first (λ l. same_owner l.owner p) (longer r) ls) (put_grew o p r ls)

put_standing : (o p : Owner) (s : State) (r : LogRecord) → Grew (standing_log o s) (standing_log o (record s { outputs = update_first (λ l. same_owner l.owner p) (longer r) s.outputs }))
put_standing (OfContainer m) p s r = grew_refl (option_map (λ (c : Container). c.life.log) (container_numbered m s))
put_standing (OfExec m) p s r = put_grew (OfExec m) p r s.outputs

pub grows_put : (o p : Owner) (s : State) (r : LogRecord)
    → Grows o s (record { state = record s { outputs = update_first (λ l. same_owner l.owner p) (longer r) s.outputs }; events = []; died = [] })
grows_put o p s r h =
    let t : State = record s { outputs = update_first (λ l. same_owner l.owner p) (longer r) s.outputs } in
    let grew : Grew (standing_log o s) (standing_log o t) = put_standing o p s r in (
      (owns_grew o (standing_log o s) (standing_log o t) s.kept s.next_number grew h.0, h.1, h.2),
      omega arith,
      later_grew (s.next_number ≤ owner_number o) (standing_log o s) (standing_log o t) (kept_log o s) grew,
    )

-- ---- a new owner

-- the log stays, or is begun by the owner that has the next number
abbrev pub Begins : Owner → ℕ → Option (List LogRecord) → Option (List LogRecord) → Type 0
Begins o next x y = (y ≡ x) ⊎ ((next ≤ owner_number o) × (owner_number o ≤ next))

pub owns_begun : (o : Owner) (x y : Option (List LogRecord)) (ks : List KeptLogs) (next : ℕ) → Begins o next x y → Owns o x ks next → Owns o y ks (next + 1)
owns_begun o x y ks next (inl e) h =
    (λ low. let none = h.0 (omega (arith, low)) in (e ∙ none.0, none.1), λ is. h.1 (sym (ap is_some e) ∙ is), h.2)
owns_begun o x y ks next (inr e) h = (λ low. absurd (omega (arith, low, e.1)), λ is. (h.0 e.0).1, h.2)

pub later_begun : (o : Owner) (x y z : Option (List LogRecord)) (ks : List KeptLogs) (next : ℕ) → Begins o next x y → Owns o x ks next → z ≡ among o ks
    → Later (next ≤ owner_number o) (option_or x z) (option_or y z)
later_begun o x y z ks next (inl e) h is = subst (λ w. Later (next ≤ owner_number o) (option_or x z) (option_or w z)) (sym e) (later_refl (next ≤ owner_number o) (option_or x z))
later_begun o x y z ks next (inr e) h is =
    let none = h.0 e.0 in
    let gone : option_or x z ≡ None = ap (λ w. option_or w z) none.0 ∙ (is ∙ no_logs o ks none.1) in
    subst (λ w. Later (next ≤ owner_number o) w (option_or y z)) (sym gone) (from_none (option_or y z) e.0)
  where
    from_none : (w : Option (List LogRecord)) → next ≤ owner_number o → Later (next ≤ owner_number o) None w
    from_none None low = tt
    from_none (Some l) low = low

new_by : (b c : Bool) (n m : ℕ) (x new : Container) (r t : Option Container) → (new.number == m) ≡ c → new.number ≡ n → Begins (OfContainer m) n (option_map (λ (c : Container). c.life.log) r) (option_map (λ (c : Container). c.life.log) t)
    → Begins (OfContainer m) n (option_map (λ (c : Container). c.life.log) (if b then Some x else r)) (option_map (λ (c : Container). c.life.log) (if b then Some x else t))
new_by true c n m x new r t e is h = inl refl
new_by false c n m x new r t e is h = h

new_last : (c : Bool) (n m : ℕ) (new : Container) → (new.number == m) ≡ c → new.number ≡ n → Begins (OfContainer m) n None (option_map (λ (c : Container). c.life.log) (if c then Some new else None))
new_last true n m new e is = let same : new.number ≡ m = eqb-true new.number m e in inr (omega (arith, same, is), omega (arith, same, is))
new_last false n m new e is = inl refl

new_container_log : (n m : ℕ) (new : Container) (cs : List Container) → new.number ≡ n
    → Begins (OfContainer m) n (option_map (λ (c : Container). c.life.log) (find (λ c. c.number == m) cs)) (option_map (λ (c : Container). c.life.log) (find (λ c. c.number == m) (cs ++ new ∷ [])))
new_container_log n m new [] is = new_last (new.number == m) n m new refl is
new_container_log n m new (x ∷ cs) is =
    new_by (x.number == m) (new.number == m) n m x new (find (λ c. c.number == m) cs) (find (λ c. c.number == m) (cs ++ new ∷ [])) refl is (new_container_log n m new cs is)

new_output_by : (b : Bool) (o : Owner) (n : ℕ) (x : OwnedLog) (r t : Option OwnedLog) → Begins o n (option_map (λ (l : OwnedLog). l.log) r) (option_map (λ (l : OwnedLog). l.log) t) → Begins o n (option_map (λ (l : OwnedLog). l.log) (if b then Some x else r)) (option_map (λ (l : OwnedLog). l.log) (if b then Some x else t))
new_output_by true o n x r t h = inl refl
new_output_by false o n x r t h = h

new_output_last : (b : Bool) (n m : ℕ) (l : OwnedLog) → (n == m) ≡ b → Begins (OfExec m) n None (option_map (λ (l : OwnedLog). l.log) (if b then Some l else None))
new_output_last true n m l e = let same : n ≡ m = eqb-true n m e in inr (omega (arith, same), omega (arith, same))
new_output_last false n m l e = inl refl

new_output : (n m : ℕ) (ls : List OwnedLog) → Begins (OfExec m) n (log_among (OfExec m) ls) (log_among (OfExec m) (ls ++ record { owner = OfExec n; log = [] } ∷ []))
new_output n m [] = new_output_last (n == m) n m (record { owner = OfExec n; log = [] }) refl
new_output n m (x ∷ ls) =
    new_output_by (same_owner x.owner (OfExec m)) (OfExec m) n x (find (λ l. same_owner l.owner (OfExec m)) ls) (find (λ l. same_owner l.owner (OfExec m)) (ls ++ record { owner = OfExec n; log = [] } ∷ []))
    (new_output n m ls)

pub made_standing : (o : Owner) (s : State) (c : Container) (uses : _) → c.number ≡ s.next_number
    → Begins o s.next_number (standing_log o s) (standing_log o (record s { containers = s.containers ++ c ∷ []; uses = uses; next_number = s.next_number + 1 }))
made_standing (OfContainer m) s c uses is = new_container_log s.next_number m c s.containers is
made_standing (OfExec m) s c uses is = inl refl

pub exec_standing : (o : Owner) (s : State) (xs : List Exec)
    → Begins o s.next_number (standing_log o s) (standing_log o (record s { execs = xs; outputs = s.outputs ++ record { owner = OfExec s.next_number; log = [] } ∷ []; next_number = s.next_number + 1 }))
exec_standing (OfContainer m) s xs = inl refl
exec_standing (OfExec m) s xs = new_output s.next_number m s.outputs
