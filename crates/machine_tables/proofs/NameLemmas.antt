-- The first number whose name is free is found one after the other.
use Rattle.std.specs.Option.{is_some}
use Rattle.std.proofs.Common.{◌≡◌, ℕ, zero, suc, ◌+◌, ◌-◌, ◌<◌, true, false, List, Option, Some, None, refl, ap, sym, ◌∙◌, arith, not}
use Rattle.engine_text.specs.declared.container.Container.{Container}
use Rattle.machine_model.specs.Consistency.{is_there}
use Rattle.machine_model.specs.Names.{holder, anonymous, first_free}
use Rattle.machine_model.proofs.NameLemmas.{first_here, first_next}

free_by : (o : Option Container) → is_there o ≡ false → not (is_some o) ≡ true
free_by None free = refl
free_by (Some c) free = absurd (cc)

taken_by : (o : Option Container) → is_there o ≡ true → not (is_some o) ≡ false
taken_by None taken = absurd (cc)
taken_by (Some c) taken = refl

pub free_here : (k n : ℕ) (cs : List Container) → is_there (holder (anonymous n) cs) ≡ false → first_free k n cs ≡ n
free_here zero n cs free = omega arith
free_here (suc k) n cs free = first_here k n cs (free_by (holder (anonymous n) cs) free)

taken_here : (k n : ℕ) (cs : List Container) → 0 < k → is_there (holder (anonymous n) cs) ≡ true → first_free k n cs ≡ first_free (k - 1) (n + 1) cs
taken_here zero n cs low taken = absurd (omega (arith, low))
taken_here (suc k) n cs low taken = first_next k n cs (taken_by (holder (anonymous n) cs) taken) ∙ ap (λ m. first_free m (n + 1) cs) (omega arith)

-- of the names that are left, one less
pub following : (most i n : ℕ) (cs : List Container) → i < most → is_there (holder (anonymous (n + i)) cs) ≡ true → first_free (most - (i + 1)) (n + (i + 1)) cs ≡ first_free (most - i) (n + i) cs
following most i n cs low taken =
    let left : most - (i + 1) ≡ (most - i) - 1 = omega arith in
    let next : n + (i + 1) ≡ (n + i) + 1 = omega arith in
    let more : 0 < most - i = omega (arith, low) in
    ap (λ k. first_free k (n + (i + 1)) cs) left ∙ (ap (λ m. first_free ((most - i) - 1) m cs) next ∙ sym (taken_here (most - i) (n + i) cs more taken))
