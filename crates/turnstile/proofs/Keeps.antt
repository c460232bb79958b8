-- Each step keeps the rule.
use Rattle.std.proofs.Common.{◌≡◌, ◌≢◌, ◌⊎◌, ℕ, zero, suc, ◌+◌, ◌<◌, ◌≤◌, List, [], ◌∷◌, ◌++◌, length, set, Bool, true, false, true≢false, Option, Some, None, refl, sym, ap, ◌∙◌, subst, ⊎_elim, arith, append-nil, append_assoc, length-append, ◌%◌, ◌^◌}
use Rattle.std.specs.Prelude.{◌==◌, if◌then◌else◌, slice_index}
use mathlib.Core.Option.{some, none, some-ne-none, some-injective}
use mathlib.Core.Option as maybe
use mathlib.Core.Logic.{dite}
use native.Mathlib.Decide.{ℕ_discrete}
use lib.ListN.{get_elem?}
use prog.Atomic.{either}
use Rattle.atomic_table.specs.Table.{State, Me, Act, Valid, keeps, takes, gives, stepped, carried_after, Allows}
use Rattle.atomic_table.proofs.Lists.{at_set, set_here, set_else}
use Rattle.turnstile.specs.declared.view.View.{View}
use Rattle.turnstile.specs.Steps.{steps_by, only_by, ByOne}
use Rattle.turnstile.specs.Claims.{bit, Claim, pair_claim, times, Each, Fresh, Stands}
use Rattle.turnstile.specs.Views.{claims, ClaimsAll, weight, turns, total, entered, refused, raised, left}
use Rattle.turnstile.specs.Plays.{Meets, Enters, RaisesTo, Leaves, Learns}
use Rattle.turnstile.specs.Rule.{LongestSeen, Fits, IsKept}
use Rattle.turnstile.proofs.Lists.{steps_by-append, none_of_others}
use Rattle.turnstile.proofs.Totals.{total_set, total_one, total_two, none_claim, each_to, each_both}

some_same : {A : Type 0} {a b : A} → Some a ≡ Some b → a ≡ b
some_same e = cc

pub in_range : {A : Type 0} (l : List A) (i : ℕ) (a : A) → get_elem? l i ≡ some a → i < length l
in_range [] i a at = absurd (some-ne-none a (sym at))
in_range (x ∷ l) zero a at = omega arith
in_range (x ∷ l) (suc i) a at = let e = in_range l i a at in omega arith

none_left : {A : Type 0} (l : List A) → length l ≡ 0 → l ≡ []
none_left [] e = refl
none_left (x ∷ l) e = absurd (omega (arith, e))

-- nothing is behind a whole list
pub nothing_behind : {A : Type 0} (seen now more : List A) → now ≡ seen ++ more → length now ≤ length seen → more ≡ []
nothing_behind seen now more is le = none_left more (let e = ap length is ∙ length-append seen more in omega (arith, e, le))

module _ {S C V : Type 0} (author : S → Option ℕ) (legal : C → List S → Type 0) (history : V → List S) (charter : V → C) where
  abbrev W : Type 0
  W = View S C

  abbrev St : Type 0
  St = State (Option V) W

  abbrev K : St → Type 0
  K = IsKept author legal history charter

  abbrev F : List S → C → ℕ → W → Type 0
  F = Fits author legal

  -- what a step owes
  abbrev Next : St → ℕ → W → List (ℕ × Option V) → ℕ → (ℕ → ℕ) → (ℕ → Me (Option V) W → Type 0) → Type 0
  Next s id v cs i f tells = (w : W) × (a : Act (Option V)) × Valid s.homes cs a × K (stepped s i (f (slice_index s.words i)) id cs w a) × tells (slice_index s.words i) (w, carried_after cs a)

  pub each_set : (now : List S) (all : C) (next : ℕ) (views : List W) (id : ℕ) (w : W) → (w.spent ≡ false → F now all next w) → ((j : ℕ) (u : W) → j ≢ id → get_elem? views j ≡ some u → u.spent ≡ false → F now all next u)
      → (j : ℕ) (u : W) → get_elem? (set views id w) j ≡ some u → u.spent ≡ false → F now all next u
  each_set now all next views id w mine others j u e live = ⊎_elim (λ (t : (j ≡ id) × (w ≡ u)). subst (λ (x : W). x.spent ≡ false → F now all next x) t.1 mine live)
      (λ (t : (j ≢ id) × (get_elem? views j ≡ some u)). others j u t.0 t.1 live) (at_set views id j w u e)

  -- one that has seen all is still there, where the view that changes has then if it had
  pub longest_set : (now : List S) (views : List W) (id : ℕ) (v w : W) → get_elem? views id ≡ some v → w.spent ≡ false → (v.seen ≡ now → w.seen ≡ now) → LongestSeen now views → LongestSeen now (set views id w)
  longest_set now views id v w at live go l = dite (ℕ_discrete l.id id)
      (λ same. record { id = id; view = w; at = set_here views id w (in_range views id v at); live = live; all = go (ap (λ (u : W). u.seen) (some-injective v l.view (sym at ∙ (ap (λ j. get_elem? views j) (sym same) ∙ l.at))) ∙ l.all) })
      (λ other. record { id = l.id; view = l.view; at = set_else views id l.id w other ∙ l.at; live = l.live; all = l.all })

  -- the one whose view changes has seen all
  longest_here : (now : List S) (views : List W) (id : ℕ) (v w : W) → get_elem? views id ≡ some v → w.spent ≡ false → w.seen ≡ now → LongestSeen now (set views id w)
  longest_here now views id v w at live is = record { id = id; view = w; at = set_here views id w (in_range views id v at); live = live; all = is }

  -- a view that claims the same numbers
  once_same : (views : List W) (id : ℕ) (v w : W) → get_elem? views id ≡ some v → ((n : ℕ) → weight n w ≡ weight n v) → (n : ℕ) → total (weight n) (set views id w) ≡ total (weight n) views
  once_same views id v w at same n = let e = total_set (weight n) views id v w at in let d = same n in omega arith

  turns_to : (views : List W) (id : ℕ) (v w : W) (before after : ℕ) → get_elem? views id ≡ some v → total turns views ≡ before → turns w + before ≡ turns v + after → total turns (set views id w) ≡ after
  turns_to views id v w before after at was is = let e = total_set turns views id v w at in omega arith

  turn_on : (v : W) → v.holds_turn ≡ true → turns v ≡ 1
  turn_on v on = ap bit on

  turn_off : (v : W) → v.holds_turn ≡ false → turns v ≡ 0
  turn_off v off = ap bit off

  pub weight_live : (n : ℕ) (v : W) → v.spent ≡ false → weight n v ≡ times n (claims v)
  weight_live n v live = ap (λ x. if x then 0 else times n (claims v)) live

  own_once : (v : W) (cs : List (Claim S)) → times v.number ((v.number, v.own_calls) ∷ cs) ≡ 1 + times v.number cs
  own_once v cs = let e : (v.number == v.number) ≡ true = Rattle.std.proofs.Common.eq-eqb v.number v.number refl in ap (λ (x : Bool). bit x + times v.number cs) e

  own_weight : (v : W) → v.spent ≡ false → 1 ≤ weight v.number v
  own_weight v live = let a = weight_live v.number v live in let c = own_once v (pair_claim v.pair v.number ++ v.joined_calls) in omega arith

  -- no other pass is left beside one that claims all numbers
  alone : (s : St) (k : K s) (id j : ℕ) (v u : W) → j ≢ id → get_elem? s.views id ≡ some v → get_elem? s.views j ≡ some u → v.spent ≡ false → u.spent ≡ false → v.number ≡ 4294967295 → ClaimsAll v → ⊥
  alone s k id j v u other at on live live_u top all = dite (ℕ_discrete u.number v.number)
      (λ same. let t = total_two (weight v.number) s.views id j v u other at on in let o = k.numbers_differ.once v.number in let a = own_weight v live in
      let b : 1 ≤ weight v.number u = subst (λ (n : ℕ). 1 ≤ weight n u) same (own_weight u live_u) in absurd (omega arith))
      (λ differ. ⊎_elim
      (λ (fresh : Fresh v.next u.number). let t = total_one (weight u.number) s.views j u on in let a = own_weight u live_u in
      let o = (k.numbers_differ.fresh u.number (subst (λ (z : ℕ). Fresh z u.number) ((k.each id v at live).numbers.root_next top) fresh)).0 in absurd (omega arith))
      (λ (mine : 1 ≤ times u.number (claims v)). let t = total_two (weight u.number) s.views id j v u other at on in let o = k.numbers_differ.once u.number in
      let a = own_weight u live_u in let b = weight_live u.number v live in absurd (omega arith))
      (all u.number differ))

  -- the view of one that met the value
  meets : (s : St) (k : K s) (id : ℕ) (v : W) (y : V) → get_elem? s.views id ≡ some v → v.spent ≡ false → history y ≡ k.now → charter y ≡ k.all → Meets author legal history charter v y
  meets s k id v y at live hist one =
      let f = k.each id v at live in record {
        met_legal = subst (λ (z : List S × C). legal z.1 z.0) (λ i. (sym hist i, sym one i)) k.now_legal;
        more = f.one_history.more;
        goes_on = hist ∙ f.one_history.goes_on;
        one_charter = f.one_history.one_charter ∙ ap Some (sym one);
        stand = subst (λ (h : List S). Each (Stands author h f.one_history.more) (claims v)) (sym hist) f.numbers.stand;
        no_fresh = λ r n fresh. ap (steps_by author n) hist ∙ (k.numbers_differ.fresh n (subst (λ (z : ℕ). Fresh z n) (f.numbers.root_next r) fresh)).1;
        whole = λ top all. let l = k.longest in dite (ℕ_discrete l.id id)
            (λ same. let e : v.seen ≡ k.now = ap (λ (u : W). u.seen) (some-injective v l.view (sym at ∙ (ap (λ j. get_elem? s.views j) (sym same) ∙ l.at))) ∙ l.all in
            nothing_behind v.seen k.now f.one_history.more f.one_history.goes_on (let n = ap length e in omega arith))
            (λ other. absurd (alone s k id l.id v l.view other at l.at live l.live top all));
      }

  enters_at : (s : St) (k : K s) (id : ℕ) (v : W) (cs : List (ℕ × Option V)) → get_elem? s.views id ≡ some v → v.spent ≡ false → v.holds_turn ≡ false → (d : ℕ) → k.door ≡ d → d ≤ 1
      → Next s id v cs 0 (λ n. either (n == 0) 1 n) (Enters author legal history charter (v, cs))
  enters_at s k id v cs at live off zero e le =
      let hm = k.value_tells_history.home e in
      let y : V = hm.0 in
      let f = k.each id v at live in
      let w : W = entered v (history y) in
      let hist : history y ≡ k.now = hm.2 in
      let ws : s.words ≡ 0 ∷ length k.now ∷ [] = k.one_holder.words ∙ ap (λ d. d ∷ length k.now ∷ []) e in
      let k' : K record { words = 1 ∷ length k.now ∷ []; homes = none ∷ []; views = set s.views id w } = record {
        now = k.now;
        all = k.all;
        next = k.next;
        door = 1;
        one_holder = record {
          words = refl;
          at_most_one = omega arith;
          counted = turns_to s.views id v w k.door 1 at k.one_holder.counted (let o = turn_off v off in omega arith);
        };
        now_legal = k.now_legal;
        longest = longest_here k.now s.views id v w at live hist;
        each = each_set k.now k.all k.next s.views id w
            (λ _. record {
              one_history = record {
                seen_legal = subst (legal k.all) (sym hist) k.now_legal;
                more = [];
                goes_on = sym hist ∙ sym (append-nil (history y));
                one_charter = f.one_history.one_charter;
              };
              numbers = record {
                stand = each_to (Stands author k.now f.one_history.more) (Stands author k.now []) (λ c t. (t.0, refl)) (claims v) f.numbers.stand;
                pair_low = f.numbers.pair_low;
                root_next = f.numbers.root_next;
              };
              holder_has_seen = λ _. hist;
              fronts = tt;
            })
            (λ j u _ q on. k.each j u q on);
        numbers_differ = record {
          once = λ n. let t = once_same s.views id v w at (λ m. refl) n in let o = k.numbers_differ.once n in omega arith;
          fresh = λ n q. (once_same s.views id v w at (λ m. refl) n ∙ (k.numbers_differ.fresh n q).0, (k.numbers_differ.fresh n q).1);
        };
        value_tells_history = record {
          home = λ q. absurd (omega arith);
          out = λ _. refl;
        };
      } in
      let G : List ℕ × List (maybe.Option (Option V)) → Type 0 = λ z. Next record { words = z.0; homes = z.1; views = s.views } id v cs 0 (λ n. either (n == 0) 1 n) (Enters author legal history charter (v, cs)) in
      subst G (λ i. (sym ws i, sym hm.1 i)) (w, takes 0 (Some y), refl, k', (λ _. record { value = y; after = refl; meets = meets s k id v y at live hist hm.3 }, λ n. absurd (n refl)))
  enters_at s k id v cs at live off (suc zero) e le =
      let w : W = refused v in
      let ws : s.words ≡ 1 ∷ length k.now ∷ [] = k.one_holder.words ∙ ap (λ d. d ∷ length k.now ∷ []) e in
      let k' : K record { words = 1 ∷ length k.now ∷ []; homes = s.homes; views = set s.views id w } = record {
        now = k.now;
        all = k.all;
        next = k.next;
        door = 1;
        one_holder = record {
          words = refl;
          at_most_one = omega arith;
          counted = turns_to s.views id v w k.door 1 at k.one_holder.counted (omega arith);
        };
        now_legal = k.now_legal;
        longest = longest_set k.now s.views id v w at live (λ e. e) k.longest;
        each = each_set k.now k.all k.next s.views id w
            (λ _. let f = k.each id v at live in record { one_history = record { seen_legal = f.one_history.seen_legal; more = f.one_history.more; goes_on = f.one_history.goes_on; one_charter = f.one_history.one_charter }; numbers = record { stand = f.numbers.stand; pair_low = f.numbers.pair_low; root_next = f.numbers.root_next }; holder_has_seen = f.holder_has_seen; fronts = f.fronts })
            (λ j u _ q on. k.each j u q on);
        numbers_differ = record {
          once = λ n. let t = once_same s.views id v w at (λ m. refl) n in let o = k.numbers_differ.once n in omega arith;
          fresh = λ n q. (once_same s.views id v w at (λ m. refl) n ∙ (k.numbers_differ.fresh n q).0, (k.numbers_differ.fresh n q).1);
        };
        value_tells_history = record {
          home = λ q. absurd (omega arith);
          out = λ _. k.value_tells_history.out e;
        };
      } in
      let G : List ℕ → Type 0 = λ z. Next record { words = z; homes = s.homes; views = s.views } id v cs 0 (λ n. either (n == 0) 1 n) (Enters author legal history charter (v, cs)) in
      subst G (sym ws) (w, keeps, tt, k', (λ q. absurd (omega arith), λ _. refl))
  enters_at s k id v cs at live off (suc (suc d)) e le = absurd (omega arith)

  pub enters : (slots id : ℕ) (m : Me (Option V) W) → m.0.spent ≡ false → m.0.holds_turn ≡ false → Allows K slots id m 0 (λ n. either (n == 0) 1 n) (Enters author legal history charter m)
  enters slots id m live off s k long at wide = enters_at s k id m.0 m.1 at live off k.door refl k.one_holder.at_most_one

  -- who has the turn is the one that has it
  door_held : (s : St) (k : K s) (id : ℕ) (v : W) → get_elem? s.views id ≡ some v → v.holds_turn ≡ true → k.door ≡ 1
  door_held s k id v at on = let a = total_one turns s.views id v at in let b = turn_on v on in let c = k.one_holder.counted in let d = k.one_holder.at_most_one in omega arith

  other_off : (s : St) (k : K s) (id j : ℕ) (v u : W) → j ≢ id → get_elem? s.views id ≡ some v → get_elem? s.views j ≡ some u → v.holds_turn ≡ true → ¬ (u.holds_turn ≡ true)
  other_off s k id j v u other at on_j on on_u = absurd (let a = total_two turns s.views id j v u other at on_j in let b = turn_on v on in let b' = turn_on u on_u in let c = k.one_holder.counted in let d = k.one_holder.at_most_one in omega arith)

  -- the numbers of the others' claims differ from one's own
  pub others_differ : (s : St) (k : K s) (id j : ℕ) (v u : W) → j ≢ id → get_elem? s.views id ≡ some v → get_elem? s.views j ≡ some u → v.spent ≡ false → u.spent ≡ false → Each (λ c. c.0 ≢ v.number) (claims u)
  others_differ s k id j v u other at on live live_u = none_claim v.number (claims u)
      (let t = total_two (weight v.number) s.views id j v u other at on in let o = k.numbers_differ.once v.number in let a = weight_live v.number v live in let b = weight_live v.number u live_u in let c = own_once v (pair_claim v.pair v.number ++ v.joined_calls) in omega arith)

  rest_differs : (s : St) (k : K s) (id : ℕ) (v : W) → get_elem? s.views id ≡ some v → v.spent ≡ false → Each (λ c. c.0 ≢ v.number) (pair_claim v.pair v.number ++ v.joined_calls)
  rest_differs s k id v at live = none_claim v.number (pair_claim v.pair v.number ++ v.joined_calls)
      (let t = total_one (weight v.number) s.views id v at in let o = k.numbers_differ.once v.number in let a = weight_live v.number v live in let c = own_once v (pair_claim v.pair v.number ++ v.joined_calls) in omega arith)

  -- a claim of another number stands on
  stands_on : (m : ℕ) (now more own h : List S) → h ≡ now ++ own → only_by author m own ≡ true → (c : Claim S) → c.0 ≢ m → Stands author now more c → Stands author h (more ++ own) c
  stands_on m now more own h is mine c other st =
      let none : steps_by author c.0 own ≡ [] = none_of_others author m c.0 (λ e. other (sym e)) own mine in (
        st.0 ∙ sym (ap (steps_by author c.0) is ∙ (steps_by-append author c.0 now own ∙ (ap (λ l. steps_by author c.0 now ++ l) none ∙ append-nil (steps_by author c.0 now)))),
        steps_by-append author c.0 more own ∙ (λ i. st.1 i ++ none i),
      )

  -- one's own number is not fresh
  own_not_fresh : (s : St) (k : K s) (id : ℕ) (v : W) → get_elem? s.views id ≡ some v → v.spent ≡ false → (n : ℕ) → Fresh k.next n → v.number ≢ n
  own_not_fresh s k id v at live n q same = absurd (let q' = subst (λ (z : ℕ). Fresh k.next z) (sym same) q in let t = total_one (weight v.number) s.views id v at in let o = (k.numbers_differ.fresh v.number q').0 in let a = weight_live v.number v live in let c = own_once v (pair_claim v.pair v.number ++ v.joined_calls) in omega arith)

  module _ (slots id : ℕ) (v : W) (y : V) (live : v.spent ≡ false) (on : v.holds_turn ≡ true) where
    raises : (cs : List (ℕ × Option V)) (b : ByOne author v.number v.seen (history y)) (more : ℕ) → length b.more ≡ more → v.charter ≡ Some (charter y) → legal (charter y) (history y) → length (history y) < 2 ^ 64
        → Allows K slots id (v, cs) 1 (λ n. (n + more) % 2 ^ 64) (λ _. RaisesTo author (history y) (v, cs))
    raises cs b more count one ok fits s k long at wide =
        let f = k.each id v at live in
        let h : List S = history y in
        let grown : h ≡ k.now ++ b.more = b.is ∙ ap (λ l. l ++ b.more) (f.holder_has_seen on) in
        let w : W = raised author v h in
        let same : charter y ≡ k.all = some_same (sym one ∙ f.one_history.one_charter) in
        let ok' : legal k.all h = subst (λ c. legal c h) same ok in
        let ws : s.words ≡ 1 ∷ length k.now ∷ [] = k.one_holder.words ∙ ap (λ d. d ∷ length k.now ∷ []) (door_held s k id v at on) in
        let sum : (length k.now + more) % 2 ^ 64 ≡ length h = let p : length h ≡ length k.now + length b.more = ap length grown ∙ length-append k.now b.more in omega arith in
        let k' : K record { words = 1 ∷ length h ∷ []; homes = s.homes; views = set s.views id w } = record {
          now = h;
          all = k.all;
          next = k.next;
          door = 1;
          one_holder = record {
            words = refl;
            at_most_one = omega arith;
            counted = turns_to s.views id v w k.door 1 at k.one_holder.counted (let d = door_held s k id v at on in omega arith);
          };
          now_legal = ok';
          longest = longest_here h s.views id v w at live refl;
          each = each_set h k.all k.next s.views id w
              (λ _. record {
                one_history = record {
                  seen_legal = ok';
                  more = [];
                  goes_on = sym (append-nil h);
                  one_charter = f.one_history.one_charter;
                };
                numbers = record {
                  stand = (
                    (refl, refl),
                    each_to (Stands author h (f.one_history.more ++ b.more)) (Stands author h []) (λ c t. (t.0, refl)) (pair_claim v.pair v.number ++ v.joined_calls)
                        (each_both (λ c. c.0 ≢ v.number) (Stands author k.now f.one_history.more) (Stands author h (f.one_history.more ++ b.more)) (stands_on v.number k.now f.one_history.more b.more h grown b.own) (pair_claim v.pair v.number ++ v.joined_calls) (rest_differs s k id v at live) f.numbers.stand.1),
                  );
                  pair_low = f.numbers.pair_low;
                  root_next = f.numbers.root_next;
                };
                holder_has_seen = λ _. refl;
                fronts = tt;
              })
              (λ j u other q on_u. let g = k.each j u q on_u in record {
                one_history = record {
                  seen_legal = g.one_history.seen_legal;
                  more = g.one_history.more ++ b.more;
                  goes_on = grown ∙ (ap (λ l. l ++ b.more) g.one_history.goes_on ∙ append_assoc u.seen g.one_history.more b.more);
                  one_charter = g.one_history.one_charter;
                };
                numbers = record {
                  stand = each_both (λ c. c.0 ≢ v.number) (Stands author k.now g.one_history.more) (Stands author h (g.one_history.more ++ b.more)) (stands_on v.number k.now g.one_history.more b.more h grown b.own) (claims u) (others_differ s k id j v u other at q live on_u) g.numbers.stand;
                  pair_low = g.numbers.pair_low;
                  root_next = g.numbers.root_next;
                };
                holder_has_seen = λ t. absurd (other_off s k id j v u other at q on t);
                fronts = g.fronts;
              });
          numbers_differ = record {
            once = λ n. let t = once_same s.views id v w at (λ m. refl) n in let o = k.numbers_differ.once n in omega arith;
            fresh = λ n q. (
              once_same s.views id v w at (λ m. refl) n ∙ (k.numbers_differ.fresh n q).0,
              let none : steps_by author n b.more ≡ [] = none_of_others author v.number n (own_not_fresh s k id v at live n q) b.more b.own in
                  ap (steps_by author n) grown ∙ (steps_by-append author n k.now b.more ∙ (λ i. (k.numbers_differ.fresh n q).1 i ++ none i)),
            );
          };
          value_tells_history = record {
            home = λ q. absurd (omega arith);
            out = λ _. k.value_tells_history.out (door_held s k id v at on);
          };
        } in
        let G : List ℕ → Type 0 = λ z. Next record { words = z; homes = s.homes; views = s.views } id v cs 1 (λ n. (n + more) % 2 ^ 64) (λ _. RaisesTo author (history y) (v, cs)) in
        subst G (sym ws) (w, keeps, tt, subst (λ n. K record { words = 1 ∷ n ∷ []; homes = s.homes; views = set s.views id w }) (sym sum) k', refl)

    leaves : history y ≡ v.seen → v.charter ≡ Some (charter y) → Allows K slots id (v, (0, Some y) ∷ []) 0 (λ _. 0) (λ _. Leaves (v, (0, Some y) ∷ []))
    leaves is one s k long at wide =
        let f = k.each id v at live in
        let w : W = left v in
        let held = door_held s k id v at on in
        let ws : s.words ≡ 1 ∷ length k.now ∷ [] = k.one_holder.words ∙ ap (λ d. d ∷ length k.now ∷ []) held in
        let hs : s.homes ≡ none ∷ [] = k.value_tells_history.out held in
        let k' : K record { words = 0 ∷ length k.now ∷ []; homes = some (Some y) ∷ []; views = set s.views id w } = record {
          now = k.now;
          all = k.all;
          next = k.next;
          door = 0;
          one_holder = record {
            words = refl;
            at_most_one = omega arith;
            counted = turns_to s.views id v w k.door 0 at k.one_holder.counted (let o = turn_on v on in omega arith);
          };
          now_legal = k.now_legal;
          longest = longest_set k.now s.views id v w at live (λ e. e) k.longest;
          each = each_set k.now k.all k.next s.views id w
              (λ _. record { one_history = record { seen_legal = f.one_history.seen_legal; more = f.one_history.more; goes_on = f.one_history.goes_on; one_charter = f.one_history.one_charter }; numbers = record { stand = f.numbers.stand; pair_low = f.numbers.pair_low; root_next = f.numbers.root_next }; holder_has_seen = λ t. absurd (true≢false (sym t)); fronts = f.fronts })
              (λ j u _ q on_u. k.each j u q on_u);
          numbers_differ = record {
            once = λ n. let t = once_same s.views id v w at (λ m. refl) n in let o = k.numbers_differ.once n in omega arith;
            fresh = λ n q. (once_same s.views id v w at (λ m. refl) n ∙ (k.numbers_differ.fresh n q).0, (k.numbers_differ.fresh n q).1);
          };
          value_tells_history = record {
            home = λ _. (y, refl, is ∙ f.holder_has_seen on, some_same (sym one ∙ f.one_history.one_charter));
            out = λ q. absurd (omega arith);
          };
        } in
        let G : List ℕ × List (maybe.Option (Option V)) → Type 0 = λ z. Next record { words = z.0; homes = z.1; views = s.views } id v ((0, Some y) ∷ []) 0 (λ _. 0) (λ _. Leaves (v, (0, Some y) ∷ [])) in
        subst G (λ i. (sym ws i, sym hs i)) (w, gives, tt, k', refl)

  pub raises_as : (slots id : ℕ) (m : Me (Option V) W) (v : W) (y : V) (more : ℕ) → m ≡ (v, (0, None) ∷ []) → v.spent ≡ false → v.holds_turn ≡ true → (b : ByOne author v.number v.seen (history y)) → length v.seen + more ≡ length (history y) → v.charter ≡ Some (charter y)
      → legal (charter y) (history y) → length (history y) < 2 ^ 64 → Allows K slots id m 1 (λ n. (n + more) % 2 ^ 64) (λ _. RaisesTo author (history y) m)
  raises_as slots id m v y more is live on b count one ok fits =
      let own : length b.more ≡ more = let p : length (history y) ≡ length v.seen + length b.more = ap length b.is ∙ length-append v.seen b.more in omega arith in
      subst (λ (x : Me (Option V) W). Allows K slots id x 1 (λ n. (n + more) % 2 ^ 64) (λ _. RaisesTo author (history y) x)) (sym is) (raises slots id v y live on ((0, None) ∷ []) b more own one ok fits)

  pub leaves_as : (slots id : ℕ) (m : Me (Option V) W) (v : W) (y : V) → m ≡ (v, (0, Some y) ∷ []) → v.spent ≡ false → v.holds_turn ≡ true → history y ≡ v.seen → v.charter ≡ Some (charter y) → Allows K slots id m 0 (λ _. 0) (λ _. Leaves m)
  leaves_as slots id m v y is live on same one = subst (λ (x : Me (Option V) W). Allows K slots id x 0 (λ _. 0) (λ _. Leaves x)) (sym is) (leaves slots id v y live on same one)

  -- what the rule says of a view, as far as the view alone can tell it
  own_seen : (now more : List S) (v : W) → now ≡ v.seen ++ more → (cs : List (Claim S)) → Each (Stands author now more) cs → Each (λ c. c.1 ≡ steps_by author c.0 v.seen) cs
  own_seen now more v is [] e = tt
  own_seen now more v is (c ∷ cs) e = (
    e.0.0 ∙ (ap (steps_by author c.0) is ∙ (steps_by-append author c.0 v.seen more ∙ (ap (λ l. steps_by author c.0 v.seen ++ l) e.0.1 ∙ append-nil (steps_by author c.0 v.seen)))),
    own_seen now more v is cs e.1,
  )

  pub learns : (slots id : ℕ) (m : Me (Option V) W) → m.0.spent ≡ false → Allows K slots id m 0 (λ n. n) (λ _. Learns author legal m)
  learns slots id m live s k long at wide =
      let v : W = m.0 in
      let f = k.each id v at live in
      let k' : K record { words = k.door ∷ length k.now ∷ []; homes = s.homes; views = set s.views id v } = record {
        now = k.now;
        all = k.all;
        next = k.next;
        door = k.door;
        one_holder = record {
          words = refl;
          at_most_one = k.one_holder.at_most_one;
          counted = turns_to s.views id v v k.door k.door at k.one_holder.counted (omega arith);
        };
        now_legal = k.now_legal;
        longest = longest_set k.now s.views id v v at live (λ e. e) k.longest;
        each = each_set k.now k.all k.next s.views id v (λ _. f) (λ j u _ q on. k.each j u q on);
        numbers_differ = record {
          once = λ n. let t = once_same s.views id v v at (λ m. refl) n in let o = k.numbers_differ.once n in omega arith;
          fresh = λ n q. (once_same s.views id v v at (λ m. refl) n ∙ (k.numbers_differ.fresh n q).0, (k.numbers_differ.fresh n q).1);
        };
        value_tells_history = record {
          home = k.value_tells_history.home;
          out = k.value_tells_history.out;
        };
      } in
      let G : List ℕ → Type 0 = λ z. Next record { words = z; homes = s.homes; views = s.views } id v m.1 0 (λ n. n) (λ _. Learns author legal m) in
      subst G (sym k.one_holder.words) (v, keeps, tt, k', (refl, record { charter = k.all; charter_is = f.one_history.one_charter; seen_legal = f.one_history.seen_legal; own = own_seen k.now f.one_history.more v f.one_history.goes_on (claims v) f.numbers.stand; fronts = f.fronts }))
