-- A join keeps the rule.
use Rattle.std.proofs.Common.{◌≡◌, ◌≢◌, ℕ, ◌+◌, ◌<◌, ◌≤◌, List, [], ◌∷◌, ◌++◌, append-nil, length, set, Bool, true, false, true≢false, Option, refl, sym, ap, ◌∙◌, ⊎_elim, arith}
use Rattle.std.specs.Prelude.{if◌then◌else◌, nat_lt}
use Rattle.std.proofs.lemmas.Bool.Decides.{nat_tests}
use mathlib.Core.Option.{some, some-injective}
use mathlib.Core.Logic.{dite}
use native.Mathlib.Decide.{ℕ_discrete}
use lib.ListN.{get_elem?}
use Rattle.atomic_table.specs.Table.{State, Joins}
use Rattle.atomic_table.proofs.Lists.{at_set, set_here, set_else}
use Rattle.turnstile.specs.declared.view.View.{View}
use Rattle.turnstile.specs.Claims.{Claim, pair_claim, times, longer, Each, EachFront, Stands}
use Rattle.turnstile.specs.Views.{claims, weight, turns, total, joined_at, joined, spent}
use Rattle.turnstile.specs.Rule.{LongestSeen, Fits, IsKept}
use Rattle.turnstile.proofs.Lists.{same_end, later_none}
use Rattle.turnstile.proofs.Totals.{total_set, times-append, each_to, each_append, each_first, each_last}
use Rattle.turnstile.proofs.Keeps.{each_set, in_range, nothing_behind, weight_live}

module _ {S C V : Type 0} (author : S → Option ℕ) (legal : C → List S → Type 0) (history : V → List S) (charter : V → C) where
  abbrev W : Type 0
  W = View S C

  abbrev K : State (Option V) W → Type 0
  K = IsKept author legal history charter

  abbrev F : List S → C → ℕ → W → Type 0
  F = Fits author legal

  -- claims that stand before a later part too
  stand_later : (now x z y : List S) → x ≡ z ++ y → (cs : List (Claim S)) → Each (Stands author now x) cs → Each (Stands author now y) cs
  stand_later now x z y is cs e = each_to (Stands author now x) (Stands author now y) (λ c t. (t.0, later_none author c.0 x z y is t.1)) cs e

  -- the view that both make, with one of the two that were seen, after which the claims of both stand
  both_fits : (now : List S) (all : C) (next : ℕ) (v w : W) (f : F now all next v) (seen more : List S) → EachFront seen (v.seen ∷ w.seen ∷ []) → v.holds_turn ≡ false → legal all seen → now ≡ seen ++ more → Each (Stands author now more) (claims v) → Each (Stands author now more) (claims w) → F now all next (joined_at seen v w)
  both_fits now all next v w f seen more fronts off ok is mine other = record {
    one_history = record {
      seen_legal = ok;
      more = more;
      goes_on = is;
      one_charter = f.one_history.one_charter;
    };
    numbers = record {
      stand = (
        mine.0,
        each_append (Stands author now more) (pair_claim v.pair v.number) (v.joined_calls ++ claims w) (each_first (Stands author now more) (pair_claim v.pair v.number) v.joined_calls mine.1)
            (each_append (Stands author now more) v.joined_calls (claims w) (each_last (Stands author now more) (pair_claim v.pair v.number) v.joined_calls mine.1) other),
      );
      pair_low = f.numbers.pair_low;
      root_next = f.numbers.root_next;
    };
    holder_has_seen = λ t. absurd (true≢false (sym t ∙ off));
    fronts = fronts;
  }

  fits_joined : (now : List S) (all : C) (next : ℕ) (v w : W) → v.holds_turn ≡ false → F now all next v → F now all next w → (b : Bool) → nat_lt (length v.seen) (length w.seen) ≡ b → F now all next (joined_at (if b then w.seen else v.seen) v w)
  fits_joined now all next v w off f g true is =
      let lt : length v.seen < length w.seen = grind (arith, nat_tests) in
      let t = same_end author v.seen w.seen f.one_history.more g.one_history.more (sym f.one_history.goes_on ∙ g.one_history.goes_on) (omega arith) in
      both_fits now all next v w f w.seen g.one_history.more ((t.0, t.1), (([], sym (append-nil w.seen)), tt)) off g.one_history.seen_legal g.one_history.goes_on (stand_later now f.one_history.more t.0 g.one_history.more t.2 (claims v) f.numbers.stand) g.numbers.stand
  fits_joined now all next v w off f g false is =
      let le : length w.seen ≤ length v.seen = grind (arith, nat_tests) in
      let t = same_end author w.seen v.seen g.one_history.more f.one_history.more (sym g.one_history.goes_on ∙ f.one_history.goes_on) le in
      both_fits now all next v w f v.seen f.one_history.more (([], sym (append-nil v.seen)), ((t.0, t.1), tt)) off f.one_history.seen_legal f.one_history.goes_on f.numbers.stand (stand_later now g.one_history.more t.0 f.one_history.more t.2 (claims w) g.numbers.stand)

  longer_by : (t : Bool) (a b : List S) → nat_lt (length a) (length b) ≡ t → (length a ≤ length (if t then b else a)) × (length b ≤ length (if t then b else a))
  longer_by true a b is = (grind (arith, nat_tests), omega arith)
  longer_by false a b is = (omega arith, grind (arith, nat_tests))

  -- what is as long as the whole is the whole
  is_all : (now seen more part : List S) → now ≡ seen ++ more → part ≡ now → length part ≤ length seen → seen ≡ now
  is_all now seen more part is whole le = sym (is ∙ (ap (λ l. seen ++ l) (nothing_behind seen now more is (let e = ap length whole in omega arith)) ∙ append-nil seen))

  -- the one that both make has seen all where one of them had
  longest_joined : (now : List S) (views : List W) (id : ℕ) (v : W) (other : ℕ) (w b sp : W) (more : List S) → get_elem? views id ≡ some v → get_elem? views other ≡ some w → ¬ (other ≡ id) → b.spent ≡ false
      → now ≡ b.seen ++ more → length v.seen ≤ length b.seen → length w.seen ≤ length b.seen → LongestSeen now views → LongestSeen now (set (set views id b) other sp)
  longest_joined now views id v other w b sp more at on apart live is le le' l =
      let here : get_elem? (set (set views id b) other sp) id ≡ some b = set_else (set views id b) other id sp (λ e. apart (sym e)) ∙ set_here views id b (in_range views id v at) in
      let both : (u : W) → u.seen ≡ now → length u.seen ≤ length b.seen → LongestSeen now (set (set views id b) other sp) =
      λ u e k. record { id = id; view = b; at = here; live = live; all = is_all now b.seen more u.seen is e k } in
      dite (ℕ_discrete l.id id)
      (λ same. both v (ap (λ (u : W). u.seen) (some-injective v l.view (sym at ∙ (ap (λ j. get_elem? views j) (sym same) ∙ l.at))) ∙ l.all) le)
      (λ not_id. dite (ℕ_discrete l.id other)
      (λ same. both w (ap (λ (u : W). u.seen) (some-injective w l.view (sym on ∙ (ap (λ j. get_elem? views j) (sym same) ∙ l.at))) ∙ l.all) le')
      (λ neither. record { id = l.id; view = l.view; at = set_else (set views id b) other l.id sp neither ∙ (set_else views id l.id b not_id ∙ l.at); live = l.live; all = l.all }))

  pub joins : (id : ℕ) (v : W) (other : ℕ) (w : W) → v.spent ≡ false → w.spent ≡ false → v.holds_turn ≡ false → w.holds_turn ≡ false → Joins K id v other w (joined v w) spent
  joins id v other w live live_w off off_w s k at apart there =
      let on : get_elem? s.views other ≡ some w = ⊎_elim (λ (t : (other ≡ id) × (joined v w ≡ w)). absurd (apart t.0)) (λ (t : (other ≢ id) × (get_elem? s.views other ≡ some w)). t.1) (at_set s.views id other (joined v w) w there) in
      let f = k.each id v at live in
      let g = k.each other w on live_w in
      let b : W = joined v w in
      let sp : W = spent in
      let sum : (h : W → ℕ) → h b + h sp ≡ h v + h w → total h (set (set s.views id b) other sp) ≡ total h s.views = λ h e. let p = total_set h s.views id v b at in let q = total_set h (set s.views id b) other w sp there in omega arith in
      let weigh : (n : ℕ) → weight n b + weight n sp ≡ weight n v + weight n w = λ n.
      let p = weight_live author legal history charter n v live in
      let q = weight_live author legal history charter n w live_w in
      let p' = weight_live author legal history charter n b live in
      let r = times-append n (pair_claim v.pair v.number) v.joined_calls in
      let r' = times-append n (pair_claim v.pair v.number) (v.joined_calls ++ claims w) in
      let r'' = times-append n v.joined_calls (claims w) in omega arith in
      let off_turns : turns b + turns sp ≡ turns v + turns w = (let p = ap Rattle.turnstile.specs.Claims.bit off_w in omega arith) in
      record {
        now = k.now;
        all = k.all;
        next = k.next;
        door = k.door;
        one_holder = record {
          words = k.one_holder.words;
          at_most_one = k.one_holder.at_most_one;
          counted = sum turns off_turns ∙ k.one_holder.counted;
        };
        now_legal = k.now_legal;
        longest = (let lens = longer_by (nat_lt (length v.seen) (length w.seen)) v.seen w.seen refl in
            let fits = fits_joined k.now k.all k.next v w off f g (nat_lt (length v.seen) (length w.seen)) refl in
            longest_joined k.now s.views id v other w b sp fits.one_history.more at on apart live fits.one_history.goes_on lens.0 lens.1 k.longest);
        each = each_set author legal history charter k.now k.all k.next (set s.views id b) other sp (λ t. absurd (true≢false t))
            (λ j u _ q on_u. each_set author legal history charter k.now k.all k.next s.views id b (λ _. fits_joined k.now k.all k.next v w off f g (nat_lt (length v.seen) (length w.seen)) refl) (λ i x _ r on_x. k.each i x r on_x) j u q on_u);
        numbers_differ = record {
          once = λ n. let t = sum (weight n) (weigh n) in let o = k.numbers_differ.once n in omega arith;
          fresh = λ n q. (sum (weight n) (weigh n) ∙ (k.numbers_differ.fresh n q).0, (k.numbers_differ.fresh n q).1);
        };
        value_tells_history = record {
          home = k.value_tells_history.home;
          out = k.value_tells_history.out;
        };
      }
