-- What the root's last turn tells of every connection.
use Rattle.std.proofs.Common.{◌≡◌, ◌≢◌, ◌≤◌, ◌<◌, ◌+◌, ◌-◌, ◌==◌, ℕ, zero, suc, List, [], ◌∷◌, ◌++◌, Bool, true, false, length, map, nat_le, Option, Some, refl, sym, ◌∙◌, ap, subst, inl, inr, ⊎_elim, arith, append-nil, append_assoc, eq-eqb}
use mathlib.Core.Logic.{dite}
use native.Mathlib.Decide.{ℕ_discrete}
use Rattle.std.specs.Prelude.{slice_index_or, Contains}
use Rattle.std.proofs.lemmas.Bool.Decides.{nat_tests}
use Rattle.atomic_table.specs.Seated.{TableId}
use Rattle.engine_text.specs.declared.step.Step.{Step}
use Rattle.engine_ports.specs.Door.{Outside, DoorView}
use Rattle.machine_model.specs.History.{input_of}
use Rattle.session_model.specs.Pass.{Only, KeepsInput}
use Rattle.session_model.specs.declared.ending.Worst.{Worst}
use Rattle.daemon_core.specs.Keeping.{history_of}
use Rattle.daemon_core.specs.declared.daemon.Daemon.{Daemon}
use Rattle.daemon_core.specs.Passing.{whole_pass}
use Rattle.daemon_core.specs.Storing.{pass_of}
use Rattle.turnstile.specs.Steps.{steps_by}
use Rattle.turnstile.specs.Claims.{Claim, bit, times, pair_claim, Each, Stands, Fresh}
use Rattle.turnstile.specs.Views.{claims, ClaimsAll}
use Rattle.turnstile.specs.Plays.{Meets}
use Rattle.turnstile.specs.declared.view.View.{View}
use Rattle.turnstile.proofs.Lists.{steps_by-append}
use Rattle.turnstile.proofs.Totals.{times-append, each_first, each_last, each_both, below}
use Rattle.daemon_shared.specs.Sharing.{author_of, opening_in, charter_by, charter_in, IsKept, with_calls, shared_pass}
use Rattle.door_model.specs.Connections.{numbered, ComeIn, GoOut, IsNobodys}
use Rattle.door_model.specs.Worsts.{called_by, IsWorst}
use Rattle.door_model.proofs.WorstLemmas.{worst_for}
use Rattle.daemon_shared.specs.Running.{ServesBy, Life, Lived, AllLived, Halts, RunsDaemon}
use Rattle.daemon_shared.specs.Sessions.{SharedSeat, IsReady, start_of, end_of}
use Rattle.daemon_shared.specs.Threads.{AllPairs, AllReady, IsTaken, ServesAll}
use Rattle.daemon_shared.specs.declared.one_daemon.OneDaemon.{OneDaemon}
use Rattle.daemon_shared.specs.declared.one_daemon.Opening.{Opening}
use Rattle.daemon_shared.specs.declared.admission.Begun.{Begun}
use Rattle.daemon_shared.specs.declared.admission.Ended.{Ended}
use Rattle.daemon_shared.proofs.TurnLemmas.{by_same, none_both, cancel}
use Rattle.daemon_shared.proofs.ServeLemmas.{passes}
use Rattle.daemon_shared.proofs.RootLemmas.{only_same}

some_same : {A : Type 0} (a b : A) → Some a ≡ Some b → a ≡ b
some_same a b e = cc

-- no more of a number behind a part that has them all
none_behind : (n : ℕ) (h e rest : List Step) → h ≡ e ++ rest → steps_by author_of n h ≡ steps_by author_of n e → steps_by author_of n rest ≡ []
none_behind n h e rest is same = cancel (steps_by author_of n e) (steps_by author_of n rest) []
    (sym (steps_by-append author_of n e rest) ∙ ap (steps_by author_of n) (sym is) ∙ same ∙ sym (append-nil (steps_by author_of n e)))

-- of each number that a pass claims, none is behind what it has seen
behind_claims : (h e rest more : List Step) (cs : List (Claim Step)) → h ≡ e ++ rest → Each (Stands author_of h more) cs
    → Each (λ c. c.1 ≡ steps_by author_of c.0 e) cs → Each (λ c. steps_by author_of c.0 rest ≡ []) cs
behind_claims h e rest more cs is stand own =
    each_both (Stands author_of h more) (λ c. c.1 ≡ steps_by author_of c.0 e) (λ c. steps_by author_of c.0 rest ≡ [])
    (λ c p q. none_behind c.0 h e rest is (sym p.0 ∙ q)) cs stand own

-- what holds of each claim holds of one with that number
claimed : (Q : ℕ → Type 0) (h : List Step) (cs : List (Claim Step)) (m : ℕ) (ys : List Step) → Each (λ c. Q c.0) cs
    → (k : ℕ) → k < length (map (with_calls h) cs) → slice_index_or (map (with_calls h) cs) k (m, ys) ≡ (m, ys) → Q m
claimed Q h [] m ys each k less at = absurd (omega (arith, less))
claimed Q h (c ∷ cs) m ys each zero less at = subst Q (ap (λ (x : ℕ × List Step). x.0) at) each.0
claimed Q h (c ∷ cs) m ys each (suc k) less at = claimed Q h cs m ys each.1 k (omega (arith, less)) at

-- of the standard input of a pass that keeps its number
input_behind : (table : TableId) (v : View Step Opening) (n : ℕ) (rest : List Step) → v.number ≡ n
    → Each (λ c. steps_by author_of c.0 rest ≡ []) (claims v) → KeepsInput n (shared_pass table v) → steps_by author_of (input_of n) rest ≡ []
input_behind table v n rest is each (inl on) =
    let given = subst (λ (b : Bool). Each (λ c. steps_by author_of c.0 rest ≡ []) (pair_claim b v.number ++ v.joined_calls)) on each.1 in
    subst (λ m. steps_by author_of (m + 2147483648) rest ≡ []) is given.0
input_behind table v n rest is each (inr at) =
    claimed (λ m. steps_by author_of m rest ≡ []) v.seen v.joined_calls (input_of n) _
    (each_last (λ c. steps_by author_of c.0 rest ≡ []) (pair_claim v.pair v.number) v.joined_calls each.1) at.0 at.1 at.2

-- a number that stands in a list of joined calls is claimed
counted : (h : List Step) (cs : List (Claim Step)) (m : ℕ) (ys : List Step) (k : ℕ) → k < length (map (with_calls h) cs) → slice_index_or (map (with_calls h) cs) k (m, ys) ≡ (m, ys) → 1 ≤ times m cs
counted h [] m ys k less at = absurd (omega (arith, less))
counted h (c ∷ cs) m ys zero less at = let e : bit (c.0 == m) ≡ 1 = ap bit (eq-eqb c.0 m (ap (λ (x : ℕ × List Step). x.0) at)) in omega (arith, e)
counted h (c ∷ cs) m ys (suc k) less at = let e = counted h cs m ys k (omega (arith, less)) at in omega (arith, e)

-- a pass that keeps the number of its input claims it
input_claimed : (table : TableId) (v : View Step Opening) (n : ℕ) → v.number ≡ n → KeepsInput n (shared_pass table v) → 1 ≤ times (input_of n) (claims v)
input_claimed table v n is (inl on) =
    let e : bit ((v.number + 2147483648) == input_of n) ≡ 1 = ap bit (eq-eqb (v.number + 2147483648) (input_of n) (ap (λ m. m + 2147483648) is)) in
    let t : times (input_of n) (pair_claim v.pair v.number ++ v.joined_calls) ≡ bit ((v.number + 2147483648) == input_of n) + times (input_of n) v.joined_calls = ap (λ (b : Bool). times (input_of n) (pair_claim b v.number ++ v.joined_calls)) on in
    omega (arith, e, t)
input_claimed table v n is (inr at) =
    let c = counted v.seen v.joined_calls (input_of n) _ at.0 at.1 at.2 in
    let t = times-append (input_of n) (pair_claim v.pair v.number) v.joined_calls in
    omega (arith, c, t)

-- ---- one connection

module _ {Q S K C P : Type 0} (seat : Q → SharedSeat) (told : S → K → C → Outside) (tells : P → Outside) (steps : Option (ℕ × ℕ)) (table : TableId) (o : Opening)
    (h : List Step) (v : View Step Opening) (more : List Step) (goes : h ≡ v.seen ++ more) (stand : Each (Stands author_of h more) (claims v)) where
  claims_stand : (r : View Step Opening) (before behind : List (Claim Step)) → v.joined_calls ≡ before ++ claims r ++ behind → Each (Stands author_of h more) (claims r)
  claims_stand r before behind is =
      let k = each_last (Stands author_of h more) (pair_claim v.pair v.number) v.joined_calls stand.1 in
      each_last (Stands author_of h more) before (claims r) (each_first (Stands author_of h more) (before ++ claims r) behind (subst (λ l. Each (Stands author_of h more) l) is k))

  abbrev life_of : Begun Q S K C → Ended Q P → Life
  life_of b r = record {
    came = start_of told b;
    left = tells r.past;
    from = shared_pass (seat b.pass).table_id (seat b.pass).me.0;
    to = shared_pass (seat r.pass).table_id (seat r.pass).me.0;
    ending = r.ending;
  }

  lived : (n : ℕ) (b : Begun Q S K C) (r : Ended Q P) → IsReady seat told table (Some o) n b → IsTaken seat told tells steps v b r
      → (r.number ≡ n) × Lived (charter_by o) h steps n (life_of b r)
  lived n b r ready t =
      let p = shared_pass (seat b.pass).table_id (seat b.pass).me.0 in
      let q = shared_pass (seat r.pass).table_id (seat r.pass).me.0 in
      let pass = passes steps b.number r.ending p q (start_of told b) (tells r.past) t.served.serves in
      let e = (seat r.pass).me.0.seen in
      let rest = t.seen.0 ++ more in
      let number : (seat r.pass).me.0.number ≡ n = only_same _ _ pass.same.number ∙ ready.newcomer.number in
      let to_end : h ≡ e ++ rest = goes ∙ ap (λ l. l ++ more) t.seen.1 ∙ append_assoc e t.seen.0 more in
      let each = behind_claims h e rest more (claims (seat r.pass).me.0) to_end (claims_stand (seat r.pass).me.0 t.before t.behind t.joined_calls) t.served.learned.own in
      let first = subst (λ (y : Bool). Each (λ c. c.1 ≡ steps_by author_of c.0 (seat b.pass).me.0.seen) (((seat b.pass).me.0.number, (seat b.pass).me.0.own_calls) ∷ (pair_claim y (seat b.pass).me.0.number ++ (seat b.pass).me.0.joined_calls))) ready.newcomer.pair ready.newcomer.learned.own in
      let keeps : KeepsInput n q = subst (λ m. KeepsInput m q) ready.number (pass.input refl) in (
        t.served.number ∙ ready.number,
        record {
          new = ready.new;
          number = ap Only ready.newcomer.number;
          charter = ap charter_in ready.newcomer.charter;
          serves = subst (λ m. ServesBy steps m r.ending p q (start_of told b) (tells r.past)) ready.number t.served.serves;
          before = none_both n (seat b.pass).me.0.seen
              (sym (by_same n (seat b.pass).me.0.seen) ∙ subst (λ m. steps_by author_of m (seat b.pass).me.0.seen ≡ []) ready.newcomer.number (sym first.0 ∙ ready.newcomer.own_calls))
              (sym (by_same (input_of n) (seat b.pass).me.0.seen) ∙ subst (λ m. steps_by author_of (m + 2147483648) (seat b.pass).me.0.seen ≡ []) ready.newcomer.number (sym first.1.0));
          rest = rest;
          goes_on = to_end;
          behind = none_both n rest
              (sym (by_same n rest) ∙ subst (λ m. steps_by author_of m rest ≡ []) number each.0)
              (sym (by_same (input_of n) rest) ∙ input_behind (seat r.pass).table_id (seat r.pass).me.0 n rest number each keeps);
        },
      )

  -- what the root claims of it: its number, and that of its input
  claimed_both : (n : ℕ) (b : Begun Q S K C) (r : Ended Q P) → IsReady seat told table (Some o) n b → IsTaken seat told tells steps v b r → (1 ≤ times n (claims v)) × (1 ≤ times (input_of n) (claims v))
  claimed_both n b r ready t =
      let w = (seat r.pass).me.0 in
      let p = shared_pass (seat b.pass).table_id (seat b.pass).me.0 in
      let q = shared_pass (seat r.pass).table_id w in
      let pass = passes steps b.number r.ending p q (start_of told b) (tells r.past) t.served.serves in
      let number : w.number ≡ n = only_same _ _ pass.same.number ∙ ready.newcomer.number in
      let keeps : KeepsInput n q = subst (λ m. KeepsInput m q) ready.number (pass.input refl) in
      let all_of : (m : ℕ) → times m (claims w) ≤ times m (claims v) = λ m.
      let a = times-append m (pair_claim v.pair v.number) v.joined_calls in
      let d : times m v.joined_calls ≡ times m ((t.before ++ claims w) ++ t.behind) = ap (times m) t.joined_calls in
      let c = times-append m (t.before ++ claims w) t.behind in
      let f = times-append m t.before (claims w) in
      omega (arith, a, d, c, f) in
      let own : bit (w.number == n) ≡ 1 = ap bit (eq-eqb w.number n number) in
      let i = input_claimed (seat r.pass).table_id w n number keeps in
      ((let x = all_of n in omega (arith, x, own)), (let x = all_of (input_of n) in omega (arith, x, i)))

  all_claimed : (n : ℕ) (bs : List (Begun Q S K C)) (rs : List (Ended Q P)) → AllReady seat told tells steps table (Some o) n bs → AllPairs (IsTaken seat told tells steps v) bs rs
      → (k : ℕ) → n ≤ k → k < n + length bs → (1 ≤ times k (claims v)) × (1 ≤ times (input_of k) (claims v))
  all_claimed n [] [] f g k low high = absurd (omega (arith, low, high))
  all_claimed n (b ∷ bs) (r ∷ rs) f g k low high = dite (ℕ_discrete n k)
      (λ same. subst (λ m. (1 ≤ times m (claims v)) × (1 ≤ times (input_of m) (claims v))) same (claimed_both n b r f.0 g.0))
      (λ other. all_claimed (suc n) bs rs f.1 g.1 k (omega (arith, low, other)) (omega (arith, high)))
  all_claimed n [] (r ∷ rs) f g k low high = absurd g
  all_claimed n (b ∷ bs) [] f g k low high = absurd g

  -- every number is fresh, or was admitted, and joined into the root
  claims_all : (bs : List (Begun Q S K C)) (rs : List (Ended Q P)) → AllReady seat told tells steps table (Some o) 0 bs → AllPairs (IsTaken seat told tells steps v) bs rs
      → v.number ≡ 4294967295 → v.next ≡ length bs → ClaimsAll v
  claims_all bs rs f g top next m other =
      let claimed : (k : ℕ) → k < length bs → (1 ≤ times k (claims v)) × (1 ≤ times (input_of k) (claims v)) = λ k less. all_claimed 0 bs rs f g k (omega arith) (omega (arith, less)) in
      let not_root : m ≢ 4294967295 = λ e. other (e ∙ sym top) in
      dite (below m (length bs))
      (λ less. inr (claimed m less).0)
      (λ above. dite (below m 2147483648)
      (λ low. inl record { not_root = not_root; not_below = omega (arith, next, above); no_pair = λ high. absurd (omega (arith, low, high)) })
      (λ high. dite (below (m - 2147483648) (length bs))
      (λ less. inr (let e : input_of (m - 2147483648) ≡ m = omega (arith, high) in subst (λ k. 1 ≤ times k (claims v)) e (claimed (m - 2147483648) less).1))
      (λ beyond. inl record { not_root = not_root; not_below = omega (arith, next, above); no_pair = λ h. omega (arith, next, beyond, high, h) })))

  pub record Told (n : ℕ) (bs : List (Begun Q S K C)) (rs : List (Ended Q P)) : Type 0 where
    pub lives : List Life
    pub count : length lives ≡ length bs
    pub came : map (λ l. l.came) lives ≡ map (start_of told) bs
    pub left : numbered n (map (λ l. l.left) lives) ≡ map (end_of tells) rs
    pub saw : map (λ l. l.to.seen) lives ≡ map (λ r. (seat r.pass).me.0.seen) rs
    pub endings : map (λ l. called_by l.ending) lives ≡ map (λ r. called_by r.ending) rs
    pub lived : AllLived (charter_by o) h steps n lives

  -- all connections
  all_lived : (n : ℕ) (bs : List (Begun Q S K C)) (rs : List (Ended Q P)) → AllReady seat told tells steps table (Some o) n bs → AllPairs (IsTaken seat told tells steps v) bs rs → Told n bs rs
  all_lived n [] [] f g = record { lives = []; count = refl; came = refl; left = refl; saw = refl; endings = refl; lived = tt }
  all_lived n (b ∷ bs) (r ∷ rs) f g =
      let l = lived n b r f.0 g.0 in
      let ls = all_lived (suc n) bs rs f.1 g.1 in
      record {
        lives = life_of b r ∷ ls.lives;
        count = ap suc ls.count;
        came = ap (λ z. start_of told b ∷ z) ls.came;
        left = ap (λ m. (m, tells r.past) ∷ numbered (suc n) (map (λ y. y.left) ls.lives)) (sym l.0) ∙ ap (λ z. end_of tells r ∷ z) ls.left;
        saw = ap (λ z. (seat r.pass).me.0.seen ∷ z) ls.saw;
        endings = ap (λ z. called_by r.ending ∷ z) ls.endings;
        lived = (l.1, ls.lived);
      }
  all_lived n [] (r ∷ rs) f g = absurd g
  all_lived n (b ∷ bs) [] f g = absurd g

-- ---- whose calls

at_most : (t : Bool) (a b : ℕ) → nat_le a b ≡ t → (b < a → ⊥) → a ≤ b
at_most true a b is never = grind (arith, nat_tests, is)
at_most false a b is never = absurd (never (grind (arith, nat_tests, is)))

fresh : (count n : ℕ) → n ≢ 4294967295 → IsNobodys 0 count n → Fresh count n
fresh count n root nobody = record {
  not_root = root;
  not_below = at_most (nat_le count n) count n refl (λ less. (nobody n (omega arith) (omega (arith, less))).0 refl);
  no_pair = λ high. at_most (nat_le (count + 2147483648) n) (count + 2147483648) n refl
      (λ less. (nobody (n - 2147483648) (omega arith) (omega (arith, high, less))).1 (omega (arith, high)));
}

by_root : (t : Bool) (n : ℕ) → (n == 4294967295) ≡ t → (A : Type 0) → (n ≡ 4294967295 → A) → (n ≢ 4294967295 → A) → A
by_root true n is A yes_ no_ = yes_ (grind (arith, nat_tests, is))
by_root false n is A yes_ no_ = no_ (λ e. grind (arith, nat_tests, is, e))

-- ---- the daemon that is left

whole_same : (d : Daemon) (o : Opening) → opening_in d ≡ o → whole_pass d ≡ pass_of (charter_by o) (history_of d.stored.journal)
whole_same d o e = ap (λ x. pass_of (charter_by x) (history_of d.stored.journal)) e

module _ {Q S K C P : Type 0} (seat : Q → SharedSeat) (told : S → K → C → Outside) (tells : P → Outside) (steps : Option (ℕ × ℕ)) where
  pub runs : (table : TableId) (oc : Option Opening) (o : Opening) (most m' : ℕ) (root : SharedSeat) (one : OneDaemon) (w : Worst) (d d' : DoorView) → oc ≡ Some o → most ≡ m'
      → ServesAll seat told tells steps table oc most root w d d'
      → Meets author_of IsKept (λ (x : OneDaemon). (whole_pass x.daemon.value).seen) (λ (x : OneDaemon). opening_in x.daemon.value) root.me.0 one
      → RunsDaemon (charter_by o) steps m' w one.daemon.value d d'
  runs table oc o most m' root one w d d' is_o is_m s0 m =
      let s = subst (λ (z : Option Opening × ℕ). ServesAll seat told tells steps table z.0 z.1 root w d d') (λ i. (is_o i, is_m i)) s0 in
      let so = s.stops.serving in
      let h = (history_of one.daemon.value.stored.journal) in
      let same : opening_in one.daemon.value ≡ o = some_same _ o (sym m.one_charter ∙ so.is_root.charter) in
      let whole : so.all ≡ so.done = so.split ∙ (append-nil (so.done ++ []) ∙ append-nil so.done) in
      let ready = subst (λ l. AllReady seat told tells steps table (Some o) 0 l) whole so.ready in
      let all = all_lived seat told tells steps table o h root.me.0 m.more m.goes_on m.stand 0 so.done so.rs ready so.taken in
      let long : length so.all ≡ length so.done = ap length whole in
      let count : s.n ≡ length all.lives = sym so.count ∙ long ∙ sym all.count in
      let none = m.whole so.is_root.number (claims_all seat told tells steps table o h root.me.0 m.more m.goes_on m.stand so.done so.rs ready so.taken so.is_root.number (so.is_root.next_is ∙ sym so.count ∙ long)) in
      let seen : root.me.0.seen ≡ h = sym (append-nil root.me.0.seen) ∙ (ap (λ l. root.me.0.seen ++ l) (sym none) ∙ sym m.goes_on) in
      let saw : Contains ([] ∷ map (λ r. (seat r.pass).me.0.seen) so.rs) root.me.0.seen = ⊎_elim (λ a. a) (λ (b : Contains [] root.me.0.seen). absurd (omega (arith, b.1))) so.saw in
      record {
        history = h;
        holds = whole_same one.daemon.value o same;
        legal = (subst (λ (z : Opening). IsKept z h) same m.met_legal).0;
        lives = all.lives;
        saw = subst (λ (z : List (List Step) × List Step). Contains ([] ∷ z.0) z.1) (λ i. (sym all.saw i, seen i)) saw;
        few = subst (λ z. z ≤ m') count so.few;
        came = subst (λ (z : List Outside). ComeIn d.coming z d'.coming) (ap (map (start_of told)) whole ∙ sym all.came) so.came;
        left = subst (λ (z : List (ℕ × Outside)). GoOut d.past z d'.past) (sym all.left) so.left;
        lived = all.lived;
        whose = λ n nobody. sym (by_same n h) ∙ by_root (n == 4294967295) n refl (steps_by author_of n h ≡ [])
            (λ e. subst (λ k. steps_by author_of k h ≡ []) (so.is_root.number ∙ sym e) (sym m.stand.0.0 ∙ so.is_root.own_calls))
            (λ e. m.no_fresh so.is_root.number n (subst (λ z. Fresh z n) (sym (so.is_root.next_is ∙ count)) (fresh (length all.lives) n e nobody)));
        faults = so.faults;
        bound = so.bound;
        why = s.why;
        halts = subst (λ z. Halts s.why m' z d d') count s.stops.halts;
        worst_is = subst (λ (z : List Worst × Worst). IsWorst z.1 (s.why ∷ z.0)) (λ i. (sym all.endings i, sym s.worst_is i)) (worst_for s.why s.ends (map (λ r. called_by r.ending) so.rs) so.worst_is);
      }
