-- A turn from its parts.
use Rattle.std.proofs.Common.{◌≡◌, ℕ, ◌≤◌, List, ◌++◌, Option, sym, ap, ◌∙◌, subst}
use Rattle.atomic_table.specs.Table.{Me}
use Rattle.turnstile.specs.declared.view.View.{View}
use Rattle.turnstile.specs.Steps.{steps_by}
use Rattle.turnstile.specs.Views.{waited, left, raised}
use Rattle.turnstile.specs.Turns.{Met, Acted, Turned}
use Rattle.turnstile.proofs.Lists.{steps_by-append}

module _ {S C V : Type 0} (author : S → Option ℕ) (legal : C → List S → Type 0) (history : V → List S) (charter : V → C) where
  pub turned : (answers : C → List S → List S → Type 0) (v : View S C) (f : ℕ) → v.found_busy ≤ f → (n : Me (Option V) (View S C)) (y : V) (w : View S C) → Met author legal history charter (waited v f) n y
      → Acted author legal answers (charter y) n.0 w → Turned author legal answers v w × (w.found_busy ≡ f)
  turned answers v f more n y w m acted =
      let a = subst (λ (x : View S C). Acted author legal answers (charter y) x w) (ap (λ (z : Me (Option V) (View S C)). z.0) m.after) acted in
      let found : w.found_busy ≡ f = ap (λ (x : View S C). x.found_busy) a.after in
      let k = m.meets in (
        record {
          charter = charter y;
          charter_is = k.one_charter;
          met = history y;
          others = record { more = k.more; is = k.goes_on; none_own = k.stand.0.1 };
          stand = k.stand;
          own = a.own;
          answer = a.answer;
          seen_legal = a.seen_legal;
          own_calls = ap (λ (x : View S C). x.own_calls) a.after ∙ (ap (steps_by author v.number) a.own.is ∙ (steps_by-append author v.number (history y) a.own.more ∙ ap (λ l. l ++ steps_by author v.number a.own.more) (sym k.stand.0.0)));
          found_busy = subst (λ (z : ℕ). v.found_busy ≤ z) (sym found) more;
          after = a.after ∙ ap (λ (z : ℕ). left (raised author (waited v z) w.seen)) (sym found);
        },
        found,
      )
