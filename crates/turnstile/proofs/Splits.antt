-- A split and a join keep the rule.
use Rattle.std.proofs.Common.{◌≡◌, ℕ, suc, ◌+◌, ◌-◌, ◌<◌, ◌≤◌, List, [], ◌∷◌, ◌++◌, set, Bool, true, false, true≢false, Option, refl, sym, ap, ◌∙◌, subst, ⊎_elim, arith, eq-eqb, ne_eqb}
use Rattle.std.specs.Prelude.{if◌then◌else◌}
use mathlib.Core.Option.{some}
use mathlib.Core.Logic.{dite}
use lib.ListN.{get_elem?}
use Rattle.atomic_table.specs.Table.{State, Splits}
use Rattle.atomic_table.proofs.Lists.{at_snoc, at_longer}
use Rattle.turnstile.specs.declared.view.View.{View}
use Rattle.turnstile.specs.Steps.{steps_by}
use Rattle.turnstile.specs.Claims.{Claim, pair_claim, times, passed, Each, Fresh, Stands}
use Rattle.turnstile.specs.Views.{claims, weight, turns, total, newcomer, admitted, parted, admits, admittee, MayAdmit}
use Rattle.turnstile.specs.Rule.{LongestSeen, Fits, IsKept}
use Rattle.turnstile.proofs.Lists.{later_none}
use Rattle.turnstile.proofs.Totals.{total_set, total_snoc, times-append, each_to, each_append, each_first, each_last, each_passed, row, row_fresh}
use Rattle.turnstile.proofs.Keeps.{each_set, longest_set, others_differ, weight_live}

module _ {S C V : Type 0} (author : S → Option ℕ) (legal : C → List S → Type 0) (history : V → List S) (charter : V → C) where
  abbrev W : Type 0
  W = View S C

  abbrev St : Type 0
  St = State (Option V) W

  abbrev K : St → Type 0
  K = IsKept author legal history charter

  abbrev F : List S → C → ℕ → W → Type 0
  F = Fits author legal

  each_snoc : (now : List S) (all : C) (next : ℕ) (views : List W) (w : W) → F now all next w → ((j : ℕ) (u : W) → get_elem? views j ≡ some u → u.spent ≡ false → F now all next u)
      → (j : ℕ) (u : W) → get_elem? (views ++ w ∷ []) j ≡ some u → u.spent ≡ false → F now all next u
  each_snoc now all next views w mine others j u e on = ⊎_elim (λ t. others j u t on) (λ (t : w ≡ u). subst (F now all next) t mine) (at_snoc views w u j e)

  -- one that has seen all is still there, with one pass more
  longest_split : (now : List S) (views : List W) (id : ℕ) (v a b : W) → get_elem? views id ≡ some v → a.spent ≡ false → a.seen ≡ v.seen → LongestSeen now views → LongestSeen now (set views id a ++ b ∷ [])
  longest_split now views id v a b at live same l = let m = longest_set author legal history charter now views id v a at live (λ e. same ∙ e) l in
      record { id = m.id; view = m.view; at = at_longer (set views id a) (b ∷ []) m.id m.view m.at; live = m.live; all = m.all }

  -- the total after a split
  total_split : (f : W → ℕ) (views : List W) (id : ℕ) (v a b : W) (extra : ℕ) → get_elem? views id ≡ some v → f a + f b ≡ f v + extra → total f (set views id a ++ b ∷ []) ≡ total f views + extra
  total_split f views id v a b extra at e = let p = total_set f views id v a at in let q = total_snoc f (set views id a) b in omega arith

  -- a fresh number has no calls in a later part
  fresh_stands : (now seen more : List S) → now ≡ seen ++ more → (m : ℕ) → steps_by author m now ≡ [] → Stands author now more (m, [])
  fresh_stands now seen more is m none = (sym none, later_none author m now seen more is none)

  splits_pair : (id : ℕ) (v : W) → v.spent ≡ false → v.pair ≡ true → Splits K id v (parted v) (newcomer v (v.number + 2147483648) false)
  splits_pair id v live on s k at =
      let f = k.each id v at live in
      let a : W = parted v in
      let b : W = newcomer v (v.number + 2147483648) false in
      let stand : Each (Stands author k.now f.one_history.more) ((v.number, v.own_calls) ∷ (v.number + 2147483648, []) ∷ v.joined_calls) = subst (λ (x : Bool). Each (Stands author k.now f.one_history.more) ((v.number, v.own_calls) ∷ (pair_claim x v.number ++ v.joined_calls))) on f.numbers.stand in
      let weigh : (n : ℕ) → weight n a + weight n b ≡ weight n v + 0 = λ n.
      let p = weight_live author legal history charter n v live in
      let q = weight_live author legal history charter n a live in
      let r : times n (claims v) ≡ times n ((v.number, v.own_calls) ∷ (v.number + 2147483648, []) ∷ v.joined_calls) = ap (λ (x : Bool). times n ((v.number, v.own_calls) ∷ (pair_claim x v.number ++ v.joined_calls))) on in omega arith in
      record {
        now = k.now;
        all = k.all;
        next = k.next;
        door = k.door;
        one_holder = record {
          words = k.one_holder.words;
          at_most_one = k.one_holder.at_most_one;
          counted = total_split turns s.views id v a b 0 at (omega arith) ∙ (let t = k.one_holder.counted in omega arith);
        };
        now_legal = k.now_legal;
        longest = longest_split k.now s.views id v a b at live refl k.longest;
        each = each_snoc k.now k.all k.next (set s.views id a) b
            record {
              one_history = record {
                seen_legal = f.one_history.seen_legal;
                more = f.one_history.more;
                goes_on = f.one_history.goes_on;
                one_charter = f.one_history.one_charter;
              };
              numbers = record {
                stand = (stand.1.0, tt);
                pair_low = λ t. absurd (true≢false (sym t));
                root_next = λ r. absurd (let low = f.numbers.pair_low on in omega arith);
              };
              holder_has_seen = λ t. absurd (true≢false (sym t));
              fronts = tt;
            }
            (each_set author legal history charter k.now k.all k.next s.views id a
            (λ _. record { one_history = record { seen_legal = f.one_history.seen_legal; more = f.one_history.more; goes_on = f.one_history.goes_on; one_charter = f.one_history.one_charter }; numbers = record { stand = (stand.0, stand.1.1); pair_low = λ t. absurd (true≢false (sym t)); root_next = f.numbers.root_next }; holder_has_seen = f.holder_has_seen; fronts = f.fronts })
            (λ j u _ q on_u. k.each j u q on_u));
        numbers_differ = record {
          once = λ n. let t = total_split (weight n) s.views id v a b 0 at (weigh n) in let o = k.numbers_differ.once n in omega arith;
          fresh = λ n q. (total_split (weight n) s.views id v a b 0 at (weigh n) ∙ (let o = (k.numbers_differ.fresh n q).0 in omega arith), (k.numbers_differ.fresh n q).1);
        };
        value_tells_history = record {
          home = k.value_tells_history.home;
          out = k.value_tells_history.out;
        };
      }

  splits_root : (id : ℕ) (v : W) (n : ℕ) → v.spent ≡ false → v.number ≡ 4294967295 → v.next ≤ n → n < 2147483646 → Splits K id v (admitted v n) (newcomer v n true)
  splits_root id v n live top low high s k at =
      let f = k.each id v at live in
      let a : W = admitted v n in
      let b : W = newcomer v n true in
      let c : ℕ = n - v.next in
      let sum : v.next + c ≡ n = omega arith in
      let row_of : List (Claim S) = passed v.next (suc c) in
      let from_next : (m : ℕ) → Fresh v.next m → Fresh k.next m = λ m q. subst (λ (z : ℕ). Fresh z m) (f.numbers.root_next top) q in
      let stands : (m : ℕ) → Fresh v.next m → Stands author k.now f.one_history.more (m, []) = λ m q. fresh_stands k.now v.seen f.one_history.more f.one_history.goes_on m (k.numbers_differ.fresh m (from_next m q)).1 in
      let weigh : (m : ℕ) → weight m a + weight m b ≡ weight m v + times m row_of = λ m.
      let p = weight_live author legal history charter m v live in
      let q = weight_live author legal history charter m a live in
      let r = times-append m (pair_claim v.pair v.number) v.joined_calls in
      let r' = times-append m (pair_claim v.pair v.number) (v.joined_calls ++ passed v.next c) in
      let r'' = times-append m v.joined_calls (passed v.next c) in
      let e : times m ((n, []) ∷ (n + 2147483648, []) ∷ passed {S = S} v.next c) ≡ times m row_of = ap (λ (z : ℕ). times m ((z, []) ∷ (z + 2147483648, []) ∷ passed {S = S} v.next c)) (sym sum) in
      omega arith in
      let wider : (m : ℕ) → Fresh (n + 1) m → Fresh v.next m = λ m q. let x = q.not_below in record { not_root = q.not_root; not_below = omega arith; no_pair = λ h. (let y = q.no_pair h in omega arith) } in
      let clear : (m : ℕ) → Fresh (n + 1) m → times m row_of ≡ 0 = λ m q.
      let r = row S v.next (suc c) m (omega arith) in let x = q.not_below in
      dite (Rattle.turnstile.proofs.Totals.below m 2147483648) (λ lt. r.above (omega arith) (omega arith)) (λ ge. (let y = q.no_pair (omega arith) in r.beyond (omega arith))) in
      record {
        now = k.now;
        all = k.all;
        next = n + 1;
        door = k.door;
        one_holder = record {
          words = k.one_holder.words;
          at_most_one = k.one_holder.at_most_one;
          counted = total_split turns s.views id v a b 0 at (omega arith) ∙ (let t = k.one_holder.counted in omega arith);
        };
        now_legal = k.now_legal;
        longest = longest_split k.now s.views id v a b at live refl k.longest;
        each = each_snoc k.now k.all (n + 1) (set s.views id a) b
            record {
              one_history = record {
                seen_legal = f.one_history.seen_legal;
                more = f.one_history.more;
                goes_on = f.one_history.goes_on;
                one_charter = f.one_history.one_charter;
              };
              numbers = record {
                stand = (
                  stands n record { not_root = λ h. omega arith; not_below = low; no_pair = λ h. omega arith },
                  (stands (n + 2147483648) record { not_root = λ h. omega arith; not_below = omega arith; no_pair = λ h. omega arith }, tt),
                );
                pair_low = λ _. high;
                root_next = λ r. absurd (omega arith);
              };
              holder_has_seen = λ t. absurd (true≢false (sym t));
              fronts = tt;
            }
            (each_set author legal history charter k.now k.all (n + 1) s.views id a
            (λ _. record {
              one_history = record {
                seen_legal = f.one_history.seen_legal;
                more = f.one_history.more;
                goes_on = f.one_history.goes_on;
                one_charter = f.one_history.one_charter;
              };
              numbers = record {
                stand = (
                  f.numbers.stand.0,
                  each_append (Stands author k.now f.one_history.more) (pair_claim v.pair v.number) (v.joined_calls ++ passed v.next c) (each_first (Stands author k.now f.one_history.more) (pair_claim v.pair v.number) v.joined_calls f.numbers.stand.1)
                      (each_append (Stands author k.now f.one_history.more) v.joined_calls (passed v.next c) (each_last (Stands author k.now f.one_history.more) (pair_claim v.pair v.number) v.joined_calls f.numbers.stand.1) (each_passed (Stands author k.now f.one_history.more) v.next c (omega arith) stands)),
                );
                pair_low = f.numbers.pair_low;
                root_next = λ _. refl;
              };
              holder_has_seen = f.holder_has_seen;
              fronts = f.fronts;
            })
            (λ j u other q on_u. let g = k.each j u q on_u in record {
              one_history = record {
                seen_legal = g.one_history.seen_legal;
                more = g.one_history.more;
                goes_on = g.one_history.goes_on;
                one_charter = g.one_history.one_charter;
              };
              numbers = record {
                stand = g.numbers.stand;
                pair_low = g.numbers.pair_low;
                root_next = λ r. absurd ((others_differ author legal history charter s k id j v u other at q live on_u).0 (r ∙ sym top));
              };
              holder_has_seen = g.holder_has_seen;
              fronts = g.fronts;
            }));
        numbers_differ = record {
          once = λ m. let t = total_split (weight m) s.views id v a b (times m row_of) at (weigh m) in let o = k.numbers_differ.once m in let few = (row S v.next (suc c) m (omega arith)).few in
              ⊎_elim (λ z. omega arith) (λ q. (let o' = (k.numbers_differ.fresh m (from_next m q)).0 in omega arith)) (row_fresh S v.next (suc c) m (omega arith));
          fresh = λ m q. let w = k.numbers_differ.fresh m (from_next m (wider m q)) in (total_split (weight m) s.views id v a b (times m row_of) at (weigh m) ∙ (let z = clear m q in let o = w.0 in omega arith), w.1);
        };
        value_tells_history = record {
          home = k.value_tells_history.home;
          out = k.value_tells_history.out;
        };
      }

  pub splits : (id : ℕ) (v : W) (n : ℕ) → v.spent ≡ false → MayAdmit n v → Splits K id v (admits n v) (admittee n v)
  splits id v n live may s k at = ⊎_elim
      (λ (t : (v.number ≡ 4294967295) × (v.next ≤ n) × (n < 2147483646)).
      subst (λ (b : Bool). Splits K id v (if b then admitted v n else parted v) (newcomer v n b)) (sym (eq-eqb v.number 4294967295 t.0)) (splits_root id v n live t.0 t.1 t.2) s k at)
      (λ (t : (v.pair ≡ true) × (n ≡ v.number + 2147483648)).
      let low = (k.each id v at live).numbers.pair_low t.0 in
      subst (λ (z : Bool × ℕ). Splits K id v (if z.0 then admitted v n else parted v) (newcomer v z.1 z.0)) (λ i. (sym (ne_eqb v.number 4294967295 (λ h. omega arith)) i, sym t.1 i)) (splits_pair id v live t.0) s k at)
      may
