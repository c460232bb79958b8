-- How sessions are begun one after the other, and closed one after the other.
use Rattle.std.proofs.Common.{◌≡◌, ◌+◌, ◌<◌, ◌≤◌, ◌⊎◌, ℕ, zero, suc, List, [], ◌∷◌, ◌++◌, length, map, Option, Bool, true, false, if◌then◌else◌, nat_lt, refl, sym, ◌∙◌, ap, subst, inl, inr, ⊎_elim, arith, append-nil, append_assoc, length-append}
use Rattle.std.specs.Prelude.{Contains, slice_index_or, slice_set}
use Rattle.std.proofs.lemmas.List.Elements.{Contains-append_left, Contains-push}
use Rattle.std.proofs.lemmas.Bool.Decides.{nat_tests}
use Rattle.atomic_table.specs.Seated.{TableId}
use Rattle.engine_text.specs.declared.step.Step.{Step}
use Rattle.engine_ports.specs.Door.{Outside, DoorView, SameDoor, IsEmpty, LeaveSays}
use Rattle.engine_ports.proofs.PortLemmas.{rose_since}
use Rattle.machine_model.specs.History.{Extends}
use Rattle.session_model.specs.declared.ending.Ending.{Ending}
use Rattle.session_model.specs.declared.ending.Worst.{Worst}
use Rattle.session_model.specs.declared.ending.Worst.TheVariants as worst
use Rattle.turnstile.specs.Views.{claims, joined}
use Rattle.turnstile.specs.Plays.{Learned}
use Rattle.turnstile.specs.Turns.{IsPass}
use Rattle.turnstile.specs.declared.view.View.{View}
use Rattle.daemon_shared.specs.Sharing.{author_of, IsKept}
use Rattle.door_model.specs.Connections.{ComeIn, GoOut}
use Rattle.door_model.specs.Worsts.{called_by, worse_of, IsWorst}
use Rattle.door_model.proofs.ListLemmas.{come_none, come_more, out_none, out_more, map_more}
use Rattle.door_model.proofs.WorstLemmas.{worst_one, worst_more}
use Rattle.daemon_shared.specs.Sessions.{SharedSeat, IsRoot, Grows, Declines, start_of, end_of, CanServe, Served, IsReady, Admits}
use Rattle.daemon_shared.specs.Threads.{begun_of, Keeps, AllKeep, JoinsSome, AllReady, IsTaken, SawAtEnd, ClosesOne, Serving, Stops, IsServing, LeavesSome, AwaitsNext, TakesNext, TakesNone, ServesAll, EndsAll}
use Rattle.daemon_shared.specs.declared.one_daemon.Opening.{Opening}
use Rattle.daemon_shared.specs.declared.admission.Begun.{Begun}
use Rattle.daemon_shared.specs.declared.admission.Ended.{Ended}
use Rattle.daemon_shared.specs.declared.admission.SessionPromise.{SessionPromise}
use Rattle.daemon_shared.specs.declared.running.Running.{Running}
use Rattle.daemon_shared.specs.declared.running.Stage.{Stage}
use Rattle.daemon_shared.specs.declared.running.Stage.TheVariants.{Runs, Over}
use Rattle.daemon_shared.proofs.ServeLemmas.{passes}
use Rattle.std.specs.declared.thread.PromisedHandle.{PromisedHandle}
use Rattle.std.specs.declared.snapshot.Snapshot.{Snapshot}
use Rattle.daemon_shared.proofs.RootLemmas.{pairs_more, pairs_to, only_same, owed_more, root_again, root_now, can_serve, contains_cons, contains_same, map_length, extends_two, extends_same, fronts_on, grows_joined, halts_on}

module _ {Q S K C P : Type 0} (seat : Q → SharedSeat) (told : S → K → C → Outside) (tells : P → Outside) (steps : Option (ℕ × ℕ)) where
  abbrev B : Type 0
  B = Begun Q S K C

  abbrev X : Type 0
  X = Running Q S K C P

  abbrev R : Type 0
  R = Ended Q P

  abbrev At : TableId → Option Opening → ℕ → ℕ → SharedSeat → List X → List B → Worst → DoorView → DoorView → Type 0
  At = Serving seat told tells steps

  -- ---- lists of sessions

  ready_more : (table : TableId) (o : Option Opening) (n : ℕ) (bs : List B) (b : B) → AllReady seat told tells steps table o n bs → IsReady seat told table o (n + length bs) b → AllReady seat told tells steps table o n (bs ++ b ∷ [])
  ready_more table o n [] b h r = (subst (λ m. IsReady seat told table o m b) (omega arith) r, tt)
  ready_more table o n (y ∷ bs) b h r = (h.0, ready_more table o (suc n) bs b h.1 (subst (λ m. IsReady seat told table o m b) (omega arith) r))

  ready_at : (table : TableId) (o : Option Opening) (n : ℕ) (done rest : List B) (b : B) → AllReady seat told tells steps table o n (done ++ b ∷ rest) → IsReady seat told table o (n + length done) b
  ready_at table o n [] rest b h = subst (λ m. IsReady seat told table o m b) (omega arith) h.0
  ready_at table o n (y ∷ done) rest b h = subst (λ m. IsReady seat told table o m b) (omega arith) (ready_at table o (suc n) done rest b h.1)

  keep_more : (xs : List X) (x : X) → AllKeep seat told tells steps xs → Keeps seat told tells steps (begun_of x) x.stage → AllKeep seat told tells steps (xs ++ x ∷ [])
  keep_more [] x h k = (k, tt)
  keep_more (y ∷ xs) x h k = (h.0, keep_more xs x h.1 k)

  -- one of them, in its place
  pub joins_none : (xs : List X) → AllKeep seat told tells steps xs → JoinsSome seat told tells steps xs xs
  joins_none xs k = record { begun = refl; keep = k }

  pub joins_two : (xs ys zs : List X) → JoinsSome seat told tells steps xs ys → JoinsSome seat told tells steps ys zs → JoinsSome seat told tells steps xs zs
  joins_two xs ys zs f g = record { begun = g.begun ∙ f.begun; keep = g.keep }

  pub joins_one : (xs : List X) (i : ℕ) (x y : X) → i < length xs → slice_index_or xs i x ≡ x → y.began ≡ x.began → Keeps seat told tells steps (begun_of x) y.stage → AllKeep seat told tells steps xs → JoinsSome seat told tells steps xs (slice_set xs i y)
  joins_one [] i x y less at same k all = absurd (omega (arith, less))
  joins_one (z ∷ xs) zero x y less at same k all = record {
    begun = ap (λ b. b ∷ map begun_of xs) (ap (λ (s : Snapshot B). s.value) same ∙ sym (ap begun_of at));
    keep = (subst (λ b. Keeps seat told tells steps b y.stage) (ap (λ (s : Snapshot B). s.value) (sym same)) k, all.1);
  }
  joins_one (z ∷ xs) (suc i) x y less at same k all =
      let t = joins_one xs i x y (omega (arith, less)) at same k all.1 in
      record { begun = ap (λ l. begun_of z ∷ l) t.begun; keep = (all.0, t.keep) }

  pub keep_at : (xs : List X) (i : ℕ) (x : X) → i < length xs → slice_index_or xs i x ≡ x → AllKeep seat told tells steps xs → Keeps seat told tells steps (begun_of x) x.stage
  keep_at [] i x less at all = absurd (omega (arith, less))
  keep_at (z ∷ xs) zero x less at all = subst (λ (y : X). Keeps seat told tells steps (begun_of y) y.stage) at all.0
  keep_at (z ∷ xs) (suc i) x less at all = keep_at xs i x (omega (arith, less)) at all.1

  -- ---- the beginning

  serves_nobody : (table : TableId) (o : Option Opening) (most : ℕ) (root : SharedSeat) (d : DoorView) → root.me.0.seen ≡ [] → IsRoot table o 0 root → At table o most 0 root [] [] worst.Closed d d
  serves_nobody table o most root d none is = record {
    all = [];
    done = [];
    split = refl;
    count = refl;
    few = omega arith;
    ready = tt;
    keep = tt;
    is_root = is;
    came = come_none d.coming;
    rs = [];
    taken = tt;
    saw = inl (subst (λ (l : List Step). Contains ([] ∷ []) l) (sym none) (Contains-push {X = List Step} [] []));
    left = out_none d.past;
    owed = omega arith;
    faults = omega arith;
    bound = refl;
    worst_is = worst_one worst.Closed;
  }

  -- nobody came yet
  pub serves_new : (table : TableId) (o : Option Opening) (most : ℕ) (root : SharedSeat) (xs : List X) (w : Worst) (d : DoorView) → (xs ≡ []) × (w ≡ worst.Closed) → root.me.0.seen ≡ [] → IsRoot table o 0 root → At table o most 0 root xs [] w d d
  serves_new table o most root xs w d e none is = subst (λ (z : List X × Worst). At table o most 0 root z.0 [] z.1 d d) (λ i. (sym e.0 i, sym e.1 i)) (serves_nobody table o most root d none is)

  -- room was made for more
  pub serves_room : (table : TableId) (o : Option Opening) (most n : ℕ) (root : SharedSeat) (xs ys : List X) (w u : Worst) (d d' : DoorView) → (ys ≡ xs) × (u ≡ w) → At table o most n root xs [] w d d' → At table o most n root ys [] u d d'
  serves_room table o most n root xs ys w u d d' e so = subst (λ (z : List X × Worst). At table o most n root z.0 [] z.1 d d') (λ i. (sym e.0 i, sym e.1 i)) so

  -- ---- one more comes

  taken_grows : (v w : View Step Opening) → Grows v w → (b : B) (r : R) → IsTaken seat told tells steps v b r → IsTaken seat told tells steps w b r
  taken_grows v w g b r t = record {
    served = t.served;
    seen = extends_two (seat r.pass).me.0.seen v.seen w.seen t.seen g.seen;
    before = t.before;
    behind = t.behind ++ g.more;
    joined_calls = g.joined_calls ∙ (ap (λ l. l ++ g.more) t.joined_calls ∙ append_assoc (t.before ++ claims (seat r.pass).me.0) t.behind g.more);
  }

  pub serves_next : (table : TableId) (o : Option Opening) (most n : ℕ) (root root' : SharedSeat) (xs : List X) (w : Worst) (d d1 d2 : DoorView) (b : B)
      → At table o most n root xs [] w d d1 → n < most → most ≤ 2147483646 → Admits seat told table root.me.0.charter n root root' d1 d2 b → At table o most (n + 1) root' xs (b ∷ []) w d d2
  serves_next table o most n root root' xs w d d1 d2 b so less top adm =
      let e = so.is_root.charter in
      let f : n ≡ 0 + length so.all = (let c = so.count in omega (arith, c)) in
      let long : length so.all ≡ length so.done + length xs = (let l = ap length (so.split ∙ append-nil (so.done ++ map begun_of xs)) ∙ length-append so.done (map begun_of xs) in let m = map_length begun_of xs in omega (arith, l, m)) in
      record {
        all = so.all ++ b ∷ [];
        done = so.done;
        split = ap (λ l. l ++ b ∷ []) (so.split ∙ append-nil (so.done ++ map begun_of xs));
        count = length-append so.all (b ∷ []) ∙ ap (λ m. m + 1) so.count;
        few = omega (arith, less);
        ready = ready_more table o 0 so.all b so.ready (subst (λ (z : Option Opening × ℕ). IsReady seat told table z.0 z.1 b) (λ i. (e i, f i)) adm.ready);
        keep = so.keep;
        is_root = subst (λ z. IsRoot table z (n + 1) root') e adm.is_root;
        came = subst (λ l. ComeIn d.coming l d2.coming) (sym (map_more (start_of told) so.all b))
            (come_more d.coming d1.coming d2.coming (map (start_of told) so.all) (start_of told b) so.came adm.came.came);
        rs = so.rs;
        taken = pairs_to (IsTaken seat told tells steps root.me.0) (IsTaken seat told tells steps root'.me.0) (taken_grows root.me.0 root'.me.0 adm.grows) so.done so.rs so.taken;
        saw = inr (contains_same _ _ root'.me.0.seen (sym (map_more (λ (y : B). (seat y.pass).me.0.seen) (map begun_of xs) b))
            (subst (λ s. Contains (map (λ (y : B). (seat y.pass).me.0.seen) (map begun_of xs) ++ (seat b.pass).me.0.seen ∷ []) s) adm.saw
            (Contains-push (map (λ (y : B). (seat y.pass).me.0.seen) (map begun_of xs)) (seat b.pass).me.0.seen)));
        left = subst (λ z. GoOut d.past (map (end_of tells) so.rs) z) (sym adm.came.past) so.left;
        owed = (let o1 = so.owed in let c = so.count in let m = owed_more (length xs) d1.owed d2.owed (omega (arith, long, c, less, top)) (omega (arith, o1)) adm.came.owed in omega (arith, m));
        faults = omega (arith, so.faults, adm.came.faults);
        bound = adm.came.bound ∙ so.bound;
        worst_is = so.worst_is;
      }

  -- its session begins
  pub serves_begun : (table : TableId) (o : Option Opening) (most n : ℕ) (root : SharedSeat) (xs ys : List X) (b : B) (x : X) (w u : Worst) (d d' : DoorView)
      → At table o most n root xs (b ∷ []) w d d' → begun_of x ≡ b → Keeps seat told tells steps b x.stage → (ys ≡ xs ++ x ∷ []) × (u ≡ w) → At table o most n root ys [] u d d'
  serves_begun table o most n root xs ys b x w u d d' so is keeps grown =
      let all_of : map begun_of (xs ++ x ∷ []) ≡ map begun_of xs ++ b ∷ [] = map_more begun_of xs x ∙ ap (λ z. map begun_of xs ++ z ∷ []) is in
      let f : B → List Step = λ y. (seat y.pass).me.0.seen in
      subst (λ (z : List X × Worst). At table o most n root z.0 [] z.1 d d') (λ i. (sym grown.0 i, sym grown.1 i)) record {
        all = so.all;
        done = so.done;
        split = so.split ∙ (append_assoc so.done (map begun_of xs) (b ∷ []) ∙ (ap (λ l. so.done ++ l) (sym all_of) ∙ sym (append-nil (so.done ++ map begun_of (xs ++ x ∷ [])))));
        count = so.count;
        few = so.few;
        ready = so.ready;
        keep = keep_more xs x so.keep (subst (λ z. Keeps seat told tells steps z x.stage) (sym is) keeps);
        is_root = so.is_root;
        came = so.came;
        rs = so.rs;
        taken = so.taken;
        saw = ⊎_elim inl (λ c. inr (contains_same _ _ root.me.0.seen (ap (map f) (sym all_of ∙ sym (append-nil (map begun_of (xs ++ x ∷ []))))) c)) so.saw;
        left = so.left;
        owed = (let o1 = so.owed in let l = length-append xs (x ∷ []) in omega (arith, o1, l));
        faults = so.faults;
        bound = so.bound;
        worst_is = so.worst_is;
      }

  -- ---- some end

  -- some are joined
  serves_joined : (table : TableId) (o : Option Opening) (most n : ℕ) (root : SharedSeat) (xs ys : List X) (waiting : List B) (w : Worst) (d d' : DoorView)
      → JoinsSome seat told tells steps xs ys → At table o most n root xs waiting w d d' → At table o most n root ys waiting w d d'
  serves_joined table o most n root xs ys waiting w d d' j so = record {
    all = so.all;
    done = so.done;
    split = so.split ∙ ap (λ l. (so.done ++ l) ++ waiting) (sym j.begun);
    count = so.count;
    few = so.few;
    ready = so.ready;
    keep = j.keep;
    is_root = so.is_root;
    came = so.came;
    rs = so.rs;
    taken = so.taken;
    saw = ⊎_elim inl (λ c. inr (contains_same _ _ root.me.0.seen (ap (λ l. map (λ (y : B). (seat y.pass).me.0.seen) (l ++ waiting)) (sym j.begun)) c)) so.saw;
    left = so.left;
    owed = (let o1 = so.owed in let l = sym (map_length begun_of ys) ∙ (ap length j.begun ∙ map_length begun_of xs) in omega (arith, o1, l));
    faults = so.faults;
    bound = so.bound;
    worst_is = so.worst_is;
  }

  root_joined : (table : TableId) (root root' : SharedSeat) (w : View Step Opening) → IsRoot table root.me.0.charter root.me.0.next root → IsPass table root' → root'.me.0 ≡ joined root.me.0 w → IsRoot table root.me.0.charter root.me.0.next root'
  root_joined table root root' w is pass e = record {
    pass = pass;
    number = ap (λ (v : View Step Opening). v.number) e ∙ is.number;
    next_is = ap (λ (v : View Step Opening). v.next) e;
    charter = ap (λ (v : View Step Opening). v.charter) e;
    own_calls = ap (λ (v : View Step Opening). v.own_calls) e ∙ is.own_calls;
  }

  -- the pass of a session that ended isn't the root
  pub not_root : (table : TableId) (o : Option Opening) (n : ℕ) (b : B) (r : R) → n < 2147483646 → IsReady seat told table o n b → Served seat told tells steps b r → (seat r.pass).me.0.number ≡ 4294967295 → ⊥
  not_root table o n b r few ready served top =
      let pass = passes steps b.number r.ending _ _ _ _ served.serves in
      let number : (seat r.pass).me.0.number ≡ n = only_same _ _ pass.same.number ∙ ready.newcomer.number in
      omega (arith, few, number, top)

  pub closes_one : (table : TableId) (b : B) (r : R) (root root' : SharedSeat) (d d' : DoorView) → Served seat told tells steps b r
      → IsRoot table root.me.0.charter root.me.0.next root → IsPass table root' → root'.me.0 ≡ joined root.me.0 (seat r.pass).me.0 → Learned author_of IsKept root'.me.0
      → LeaveSays r.number (tells r.past) d d' → ClosesOne seat told tells steps table b r.ending root root' d d'
  closes_one table b r root root' d d' served is pass joins learned left = record { r = r; ending = refl; served = served; is_root = root_joined table root root' (seat r.pass).me.0 is pass joins; joins = joins; learned = learned; left = left }

  saw_more : (seen : List Step) (rs : List R) (r : R) → (seat r.pass).me.0.seen ≡ seen → SawAtEnd seat told tells steps seen (rs ++ r ∷ [])
  saw_more seen rs r e =
      let g : R → List Step = λ y. (seat y.pass).me.0.seen in
      contains_same _ _ seen (ap (λ l. [] ∷ l) (sym (map_more g rs r))) (subst (λ s. Contains (([] ∷ map g rs) ++ g r ∷ []) s) e (Contains-push ([] ∷ map g rs) (g r)))

  saw_still : (seen : List Step) (rs : List R) (r : R) → SawAtEnd seat told tells steps seen rs → SawAtEnd seat told tells steps seen (rs ++ r ∷ [])
  saw_still seen rs r h =
      let g : R → List Step = λ y. (seat y.pass).me.0.seen in
      contains_same _ _ seen (ap (λ l. [] ∷ l) (sym (map_more g rs r))) (Contains-append_left ([] ∷ map g rs) (g r ∷ []) seen h)

  -- the longer of what the root and the pass had seen
  saw_longer : (t : Bool) (v w : List Step) (b : B) (bs : List B) (rs : List R) (r : R) → nat_lt (length v) (length w) ≡ t → w ≡ (seat r.pass).me.0.seen → Extends (seat b.pass).me.0.seen w
      → SawAtEnd seat told tells steps v rs ⊎ Contains (map (λ (y : B). (seat y.pass).me.0.seen) (b ∷ bs)) v
      → SawAtEnd seat told tells steps (if t then w else v) (rs ++ r ∷ []) ⊎ Contains (map (λ (y : B). (seat y.pass).me.0.seen) bs) (if t then w else v)
  saw_longer true v w b bs rs r is mine ext saw = inl (saw_more w rs r (sym mine))
  saw_longer false v w b bs rs r is mine ext saw =
      let le : length w ≤ length v = grind (arith, nat_tests, is) in
      ⊎_elim
      (λ h. inl (saw_still v rs r h))
      (λ (h : Contains (map (λ (y : B). (seat y.pass).me.0.seen) (b ∷ bs)) v). ⊎_elim
      (λ (e : (seat b.pass).me.0.seen ≡ v). inl (saw_more v rs r (sym mine ∙ (extends_same (seat b.pass).me.0.seen w ext (subst (λ l. length w ≤ length l) (sym e) le) ∙ e))))
      (λ h'. inr h')
      (contains_cons (seat b.pass).me.0.seen (map (λ (y : B). (seat y.pass).me.0.seen) bs) v h))
      saw

  -- the first is closed
  serves_closed : (table : TableId) (o : Option Opening) (most n : ℕ) (root root' : SharedSeat) (x : X) (more : List X) (waiting : List B) (e : Ending) (w w' : Worst) (d d1 d2 : DoorView)
      → ClosesOne seat told tells steps table (begun_of x) e root root' d1 d2 → w' ≡ worse_of w (called_by e) → At table o most n root (x ∷ more) waiting w d d1 → At table o most n root' more waiting w' d d2
  serves_closed table o most n root root' x more waiting e w w' d d1 d2 one worse so =
      let r = one.r in
      let b = begun_of x in
      let v = root.me.0 in
      let z = root'.me.0 in
      let f = fronts_on v (seat r.pass).me.0 z one.joins one.learned in
      let grows = grows_joined v (seat r.pass).me.0 z one.joins f.0 in
      let pass = passes steps b.number r.ending _ _ _ _ one.served.serves in
      let seen_is : z.seen ≡ (if nat_lt (length v.seen) (length (seat r.pass).me.0.seen) then (seat r.pass).me.0.seen else v.seen) = ap (λ (u : View Step Opening). u.seen) one.joins in
      record {
        all = so.all;
        done = so.done ++ b ∷ [];
        split = so.split ∙ ap (λ l. l ++ waiting) (sym (append_assoc so.done (b ∷ []) (map begun_of more)));
        count = so.count;
        few = so.few;
        ready = so.ready;
        keep = so.keep.1;
        is_root = subst (λ (y : Option Opening × ℕ). IsRoot table y.0 y.1 root') (λ i. (so.is_root.charter i, so.is_root.next_is i)) one.is_root;
        came = subst (λ y. ComeIn d.coming (map (start_of told) so.all) y) (sym one.left.coming) so.came;
        rs = so.rs ++ r ∷ [];
        taken = pairs_more (IsTaken seat told tells steps z) so.done so.rs b r (pairs_to (IsTaken seat told tells steps v) (IsTaken seat told tells steps z) (taken_grows v z grows) so.done so.rs so.taken)
            record { served = one.served; seen = f.1; before = v.joined_calls; behind = []; joined_calls = ap (λ (u : View Step Opening). u.joined_calls) one.joins ∙ sym (append-nil (v.joined_calls ++ claims (seat r.pass).me.0)) };
        saw = subst (λ s. SawAtEnd seat told tells steps s (so.rs ++ r ∷ []) ⊎ Contains (map (λ (y : B). (seat y.pass).me.0.seen) (map begun_of more ++ waiting)) s) (sym seen_is)
            (saw_longer (nat_lt (length v.seen) (length (seat r.pass).me.0.seen)) v.seen (seat r.pass).me.0.seen b (map begun_of more ++ waiting) so.rs r refl refl pass.extends so.saw);
        left = subst (λ l. GoOut d.past l d2.past) (sym (map_more (end_of tells) so.rs r)) (out_more d.past d1.past d2.past (map (end_of tells) so.rs) (end_of tells r) so.left one.left.past);
        owed = omega (arith, so.owed, one.left.owed);
        faults = omega (arith, so.faults, ap (λ (m : ℕ). m) one.left.faults);
        bound = one.left.bound ∙ so.bound;
        worst_is = subst (λ l. IsWorst w' (worst.Closed ∷ l)) (sym (map_more (λ (q : R). called_by q.ending) so.rs r))
            (worst_more w (called_by r.ending) w' (worst.Closed ∷ map (λ (q : R). called_by q.ending) so.rs) (worse ∙ ap (λ y. worse_of w (called_by y)) one.ending) so.worst_is);
      }

  pub leaves_first : (table : TableId) (root root' : SharedSeat) (xs more : List X) (x : X) (e : Ending) (w w' : Worst) (d d' : DoorView) → xs ≡ x ∷ more
      → ClosesOne seat told tells steps table (begun_of x) e root root' d d' → w' ≡ worse_of w (called_by e) → LeavesSome seat told tells steps table root root' xs more w w' d d'
  leaves_first table root root' xs more x e w w' d d' is one worse = record {
    serving = λ o most n waiting before so. serves_closed table o most n root root' x more waiting e w w' before d d' one worse (subst (λ l. At table o most n root l waiting w before d) is so);
    coming = one.left.coming;
    faults = one.left.faults;
  }

  pub leaves_none : (table : TableId) (root : SharedSeat) (xs : List X) (w : Worst) (d : DoorView) → LeavesSome seat told tells steps table root root xs xs w w d d
  leaves_none table root xs w d = record { serving = λ o most n waiting before so. so; coming = refl; faults = refl }

  pub leaves_joined : (table : TableId) (root : SharedSeat) (xs ys : List X) (w u : Worst) (d : DoorView) → JoinsSome seat told tells steps xs ys → u ≡ w → LeavesSome seat told tells steps table root root xs ys w u d d
  leaves_joined table root xs ys w u d j is = record {
    serving = λ o most n waiting before so. subst (λ z. At table o most n root ys waiting z before d) (sym is) (serves_joined table o most n root xs ys waiting w before d j so);
    coming = refl;
    faults = refl;
  }

  pub leaves_two : (table : TableId) (r0 r1 r2 : SharedSeat) (xs ys zs : List X) (w0 w1 w2 : Worst) (d0 d1 d2 : DoorView)
      → LeavesSome seat told tells steps table r0 r1 xs ys w0 w1 d0 d1 → LeavesSome seat told tells steps table r1 r2 ys zs w1 w2 d1 d2 → LeavesSome seat told tells steps table r0 r2 xs zs w0 w2 d0 d2
  leaves_two table r0 r1 r2 xs ys zs w0 w1 w2 d0 d1 d2 f g = record {
    serving = λ o most n waiting before so. g.serving o most n waiting before (f.serving o most n waiting before so);
    coming = g.coming ∙ f.coming;
    faults = g.faults ∙ f.faults;
  }

  -- ---- what the calls ask for

  pub serving_on : (table : TableId) (r0 r1 : SharedSeat) (xs ys : List X) (w0 w1 : Worst) (d0 d1 : DoorView)
      → IsServing seat told tells steps table r0 xs w0 d0 → LeavesSome seat told tells steps table r0 r1 xs ys w0 w1 d0 d1 → IsServing seat told tells steps table r1 ys w1 d1
  serving_on table r0 r1 xs ys w0 w1 d0 d1 s l = record { o = s.o; most = s.most; n = s.n; waiting = s.waiting; before = s.before; few = s.few; serving = l.serving s.o s.most s.n s.waiting s.before s.serving }

  pub serving_keeps : (table : TableId) (root : SharedSeat) (xs : List X) (w : Worst) (d : DoorView) → IsServing seat told tells steps table root xs w d → AllKeep seat told tells steps xs
  serving_keeps table root xs w d s = s.serving.keep

  pub serving_root : (table : TableId) (root : SharedSeat) (xs : List X) (w : Worst) (d : DoorView) → IsServing seat told tells steps table root xs w d → IsRoot table root.me.0.charter root.me.0.next root
  serving_root table root xs w d s = root_again table s.o s.n root s.serving.is_root

  pub first_ready : (table : TableId) (root : SharedSeat) (xs more : List X) (x : X) (w : Worst) (d : DoorView) → IsServing seat told tells steps table root xs w d → xs ≡ x ∷ more
      → (n : ℕ) × (n < 2147483646) × IsReady seat told table root.me.0.charter n (begun_of x)
  first_ready table root xs more x w d s first =
      let so = s.serving in
      let e : so.all ≡ so.done ++ begun_of x ∷ (map begun_of more ++ s.waiting) = so.split ∙ (ap (λ l. (so.done ++ map begun_of l) ++ s.waiting) first ∙ append_assoc so.done (map begun_of (x ∷ more)) s.waiting) in
      let len = ap length e ∙ length-append so.done (begun_of x ∷ (map begun_of more ++ s.waiting)) in (
        0 + length so.done,
        omega (arith, len, so.count, so.few, s.few),
        subst (λ z. IsReady seat told table z (0 + length so.done) (begun_of x)) (sym so.is_root.charter) (ready_at table s.o 0 so.done (map begun_of more ++ s.waiting) (begun_of x) (subst (λ l. AllReady seat told tells steps table s.o 0 l) e so.ready)),
      )

  pub first_keeps : (table : TableId) (root : SharedSeat) (xs more : List X) (x : X) (w : Worst) (d : DoorView) → IsServing seat told tells steps table root xs w d → xs ≡ x ∷ more → Keeps seat told tells steps (begun_of x) x.stage
  first_keeps table root xs more x w d s first = (subst (λ l. AllKeep seat told tells steps l) first s.serving.keep).0

  pub first_owed : (table : TableId) (root : SharedSeat) (xs more : List X) (x : X) (w : Worst) (d : DoorView) → IsServing seat told tells steps table root xs w d → xs ≡ x ∷ more → 0 < d.owed
  first_owed table root xs more x w d s first = let l = ap length first in omega (arith, l, s.serving.owed)

  pub serving_some : (table : TableId) (o : Option Opening) (most n : ℕ) (root : SharedSeat) (xs : List X) (waiting : List B) (w : Worst) (d d' : DoorView) → most ≤ 2147483646 → At table o most n root xs waiting w d d' → IsServing seat told tells steps table root xs w d'
  serving_some table o most n root xs waiting w d d' few so = record { o = o; most = most; n = n; waiting = waiting; before = d; few = few; serving = so }

  -- ---- where a session runs

  -- the one that waits may be served
  pub next_served : (table : TableId) (o : Option Opening) (most n : ℕ) (root : SharedSeat) (xs : List X) (b : B) (w : Worst) (d d' : DoorView)
      → At table o most (n + 1) root xs (b ∷ []) w d d' → n < 2147483646 → CanServe seat table b
  next_served table o most n root xs b w d d' so few =
      let front = so.done ++ map begun_of xs in
      let long : 0 + length front ≡ n = (let l = ap length so.split ∙ length-append front (b ∷ []) in let c = so.count in omega (arith, l, c)) in
      can_serve seat told table o n b (subst (λ m. IsReady seat told table o m b) long (ready_at table o 0 front [] b (subst (λ l. AllReady seat told tells steps table o 0 l) so.split so.ready))) few

  pub runs_there : (st : Stage Q S K C P) (h : PromisedHandle R (SessionPromise Q S K C)) (b : B) → st ≡ Runs h → h.promise.began.value ≡ b → h.promise.steps ≡ steps → Keeps seat told tells steps b st
  runs_there st h b e is so = subst (λ y. Keeps seat told tells steps b y) (sym e) (is, so)

  pub ran_here : (st : Stage Q S K C P) (r : R) (b : B) → st ≡ Over r → Served seat told tells steps b r → Keeps seat told tells steps b st
  ran_here st r b e served = subst (λ y. Keeps seat told tells steps b y) (sym e) served

  -- ---- the next one comes

  pub awaits_root : (table : TableId) (n : ℕ) (root : SharedSeat) (xs : List X) (w : Worst) (d : DoorView) → AwaitsNext seat told tells steps table n root xs w d → IsRoot table root.me.0.charter n root
  awaits_root table n root xs w d a = root_now table a.o n root a.serving.is_root

  pub awaits_served : (table : TableId) (n : ℕ) (root root' : SharedSeat) (xs ys : List X) (w u : Worst) (d d' : DoorView) (b : B) → AwaitsNext seat told tells steps table n root xs w d → (ys ≡ xs) × (u ≡ w)
      → Admits seat told table root.me.0.charter n root root' d d' b → IsServing seat told tells steps table root' ys u d'
  awaits_served table n root root' xs ys w u d d' b a e adm =
      serving_some table a.o a.most (n + 1) root' ys (b ∷ []) u a.before d' a.few
      (serves_next table a.o a.most n root root' ys u a.before d d' b (serves_room table a.o a.most n root xs ys w u a.before d e a.serving) a.less a.few adm)

  pub takes_next : (table : TableId) (n : ℕ) (r0 r1 r2 : SharedSeat) (xs ys zs : List X) (w0 w1 w2 : Worst) (d0 d1 d2 : DoorView) (b : B) → (ys ≡ xs) × (w1 ≡ w0)
      → Admits seat told table r0.me.0.charter n r0 r1 d0 d1 b → LeavesSome seat told tells steps table r1 r2 ys zs w1 w2 d1 d2 → TakesNext seat told tells steps table n r0 r2 xs zs w0 w2 d0 d2 b
  takes_next table n r0 r1 r2 xs ys zs w0 w1 w2 d0 d1 d2 b e adm leaves o most before less few so =
      leaves.serving o most (n + 1) (b ∷ []) before (serves_next table o most n r0 r1 ys w1 before d0 d1 b (serves_room table o most n r0 xs ys w0 w1 before d0 e so) less few adm)

  -- ---- why no more are taken in

  pub takes_none_short : (table : TableId) (n : ℕ) (root : SharedSeat) (xs ys : List X) (w u : Worst) (d : DoorView) → (ys ≡ xs) × (u ≡ w) → TakesNone seat told tells steps table n root root xs ys w u d d worst.NoMemory
  takes_none_short table n root xs ys w u d e o most before so = record { serving = serves_room table o most n root xs ys w u before d e so; halts = tt }

  -- at the same door
  serves_same : (table : TableId) (o : Option Opening) (most n : ℕ) (root : SharedSeat) (xs : List X) (w : Worst) (d d1 d2 : DoorView) → At table o most n root xs [] w d d1 → SameDoor d1 d2 → At table o most n root xs [] w d d2
  serves_same table o most n root xs w d d1 d2 so same = record {
    all = so.all;
    done = so.done;
    split = so.split;
    count = so.count;
    few = so.few;
    ready = so.ready;
    keep = so.keep;
    is_root = so.is_root;
    came = subst (λ z. ComeIn d.coming (map (start_of told) so.all) z) (sym same.coming) so.came;
    rs = so.rs;
    taken = so.taken;
    saw = so.saw;
    left = subst (λ z. GoOut d.past (map (end_of tells) so.rs) z) (sym same.past) so.left;
    owed = omega (arith, so.owed, same.owed);
    faults = omega (arith, so.faults, same.faults);
    bound = same.bound ∙ so.bound;
    worst_is = so.worst_is;
  }

  -- the door gave none
  declined : (table : TableId) (o : Option Opening) (most n : ℕ) (root : SharedSeat) (xs : List X) (w why : Worst) (d d1 d2 : DoorView) → At table o most n root xs [] w d d1
      → Declines why d1 d2 → Stops seat told tells steps table o most n root xs w why d d2
  declined table o most n root xs w worst.Closed d d1 d2 so (same, empty) = record {
    serving = serves_same table o most n root xs w d d1 d2 so same;
    halts = inr (subst (λ z. IsEmpty z) (sym same.coming) empty);
  }
  declined table o most n root xs w worst.Fault d d1 d2 so (same, rose) = record {
    serving = serves_same table o most n root xs w d d1 d2 so same;
    halts = rose_since d.faults d1.faults d2.faults so.faults rose;
  }
  declined table o most n root xs w worst.NoMemory d d1 d2 so never = absurd never
  declined table o most n root xs w worst.Stopped d d1 d2 so never = absurd never
  declined table o most n root xs w worst.Refused d d1 d2 so never = absurd never

  pub takes_none : (table : TableId) (n : ℕ) (root root' : SharedSeat) (xs ys : List X) (w u why : Worst) (d d' : DoorView) → (ys ≡ xs) × (u ≡ w) → Declines why d d' → root' ≡ root
      → TakesNone seat told tells steps table n root root' xs ys w u d d' why
  takes_none table n root root' xs ys w u why d d' e gave same o most before so =
      subst (λ r. Stops seat told tells steps table o most n r ys u why before d') (sym same)
      (declined table o most n root ys u why before d d' (serves_room table o most n root xs ys w u before d e so) gave)

  -- so many came
  pub stops_full : (table : TableId) (o : Option Opening) (most n : ℕ) (root : SharedSeat) (xs : List X) (w why : Worst) (d d' : DoorView)
      → At table o most n root xs [] w d d' → most ≤ n → why ≡ worst.Closed → Stops seat told tells steps table o most n root xs w why d d'
  stops_full table o most n root xs w why d d' so full is =
      subst (λ z. Stops seat told tells steps table o most n root xs w z d d') (sym is) record { serving = so; halts = inl (omega (arith, so.few, full)) }

  -- a loop that ended, by what it ended with
  pub stops_same : (table : TableId) (o : Option Opening) (most n : ℕ) (r0 r1 : SharedSeat) (xs ys : List X) (w0 w1 why why' : Worst) (d d1 d2 : DoorView)
      → Stops seat told tells steps table o most n r0 xs w0 why d d1 → r1 ≡ r0 → ys ≡ xs → w1 ≡ w0 → why' ≡ why → d2 ≡ d1 → Stops seat told tells steps table o most n r1 ys w1 why' d d2
  stops_same table o most n r0 r1 xs ys w0 w1 why why' d d1 d2 s a b c is e =
      subst (λ (z : SharedSeat × (List X × (Worst × (Worst × DoorView)))). Stops seat told tells steps table o most n z.0 z.1.0 z.1.1.0 z.1.1.1.0 d z.1.1.1.1) (λ i. (sym a i, (sym b i, (sym c i, (sym is i, sym e i))))) s

  pub serving_same : (table : TableId) (r0 r1 : SharedSeat) (xs ys : List X) (w0 w1 : Worst) (d1 d2 : DoorView)
      → IsServing seat told tells steps table r0 xs w0 d1 → r1 ≡ r0 → ys ≡ xs → w1 ≡ w0 → d2 ≡ d1 → IsServing seat told tells steps table r1 ys w1 d2
  serving_same table r0 r1 xs ys w0 w1 d1 d2 s a b c e =
      subst (λ (z : SharedSeat × (List X × (Worst × DoorView))). IsServing seat told tells steps table z.0 z.1.0 z.1.1.0 z.1.1.1) (λ i. (sym a i, (sym b i, (sym c i, sym e i)))) s

  -- ---- all

  pub ends_all : (table : TableId) (root root' : SharedSeat) (xs : List X) (w why ends last : Worst) (d d' : DoorView)
      → LeavesSome seat told tells steps table root root' xs [] w ends d d' → last ≡ worse_of why ends → EndsAll seat told tells steps table root root' xs w why last d d'
  ends_all table root root' xs w why ends last d d' leaves is o most n before s = record {
    n = n;
    ends = ends;
    why = why;
    stops = record {
      serving = leaves.serving o most n [] before s.serving;
      halts = halts_on why most n before d d' leaves.coming leaves.faults s.halts;
    };
    worst_is = is;
  }

  -- from this root and this door on
  pub serves_from : (table : TableId) (o o' : Option Opening) (most : ℕ) (root : SharedSeat) (w : Worst) (d d' d2 : DoorView) → o ≡ o' → d ≡ d' → ServesAll seat told tells steps table o most root w d d2 → ServesAll seat told tells steps table o' most root w d' d2
  serves_from table o o' most root w d d' d2 e f s = subst (λ (z : Option Opening × DoorView). ServesAll seat told tells steps table z.0 most root w z.1 d2) (λ i. (e i, f i)) s
