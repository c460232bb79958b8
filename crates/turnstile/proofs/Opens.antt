-- The table of one value and one pass keeps the rule.
use Rattle.std.proofs.Common.{◌≡◌, ℕ, zero, suc, ◌≤◌, List, [], ◌∷◌, length, Bool, true, false, true≢false, Option, Some, refl, sym, ap, subst, arith, append-nil}
use Rattle.std.specs.Prelude.{◌==◌}
use mathlib.Core.Option.{some, some-ne-none, some-injective}
use lib.ListN.{get_elem?}
use Rattle.atomic_table.specs.Table.{opening}
use Rattle.turnstile.specs.declared.view.View.{View}
use Rattle.turnstile.specs.Steps.{NoCalls}
use Rattle.turnstile.specs.Claims.{bit}
use Rattle.turnstile.specs.Views.{root}
use Rattle.turnstile.specs.Rule.{Fits, IsKept}
use Rattle.turnstile.proofs.Totals.{bit_off}

module _ {S C V : Type 0} (author : S → Option ℕ) (legal : C → List S → Type 0) (history : V → List S) (charter : V → C) where
  only : (r : View S C) (j : ℕ) (v : View S C) → get_elem? (r ∷ []) j ≡ some v → r ≡ v
  only r zero v at = some-injective r v at
  only r (suc j) v at = absurd (some-ne-none v (sym at))

  few : (b : Bool) → bit b ≤ 1
  few true = omega arith
  few false = omega arith

  pub opens : (y : V) (n : ℕ) → n ≡ length (history y) → legal (charter y) (history y) → NoCalls author (history y)
      → IsKept author legal history charter (opening (0 ∷ n ∷ []) (Some y ∷ []) (root (history y) (charter y)))
  opens y n count ok free = let r : View S C = root (history y) (charter y) in record {
    now = history y;
    all = charter y;
    next = 0;
    door = 0;
    one_holder = record { words = ap (λ k. 0 ∷ k ∷ []) count; at_most_one = omega arith; counted = refl };
    now_legal = ok;
    longest = record { id = 0; view = r; at = refl; live = refl; all = refl };
    each = λ j v q _. subst (Fits author legal (history y) (charter y) 0) (only r j v q)
        record {
          one_history = record { seen_legal = ok; more = []; goes_on = sym (append-nil (history y)); one_charter = refl };
          numbers = record { stand = ((sym (free 4294967295), refl), tt); pair_low = λ t. absurd (true≢false (sym t)); root_next = λ _. refl };
          holder_has_seen = λ t. absurd (true≢false (sym t));
          fronts = tt;
        };
    numbers_differ = record {
      once = λ n. let b = few (4294967295 == n) in omega arith;
      fresh = λ n q. ((let e = bit_off 4294967295 n (λ z. q.not_root (sym z)) in omega arith), free n);
    };
    value_tells_history = record { home = λ _. (y, refl, refl, refl); out = λ q. absurd (omega arith) };
  }

  pub opens_as : (y z : V) (n : ℕ) (items : List (Option V)) → items ≡ Some y ∷ [] → z ≡ y → n ≡ length (history y)
      → legal (charter y) (history y) → NoCalls author (history y)
      → IsKept author legal history charter (opening (0 ∷ n ∷ []) items (root (history z) (charter z)))
  opens_as y z n items is same count ok free =
      let G : List (Option V) × V → Type 0 = λ p. IsKept author legal history charter (opening (0 ∷ n ∷ []) p.0 (root (history p.1) (charter p.1))) in
      subst G (λ i. (sym is i, sym same i)) (opens y n count ok free)
