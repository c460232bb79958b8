-- A number that is no signal's has no name.
use Rattle.std.proofs.Common.{◌≡◌, ℕ, zero, suc, ◌≤◌, ◌<◌, ◌⊎◌, inl, inr, [], refl, ap, sym}
use Rattle.std.proofs.lemmas.Bool.{cases_lt}
use Rattle.std.proofs.lemmas.Option.{slice_get_past}
use Rattle.engine_text.specs.Signal.{signal_names, signal_name, with_sig}

past : (n : ℕ) → (n < 31) ⊎ (31 ≤ n) → (n < 31 → ⊥) → signal_name (suc n) ≡ []
unfolding signal_name
past n (inl low) far = absurd (far low)
past n (inr high) far = ap with_sig (slice_get_past signal_names n high)

pub signal_name-none : (n : ℕ) → ((k : ℕ) → n ≡ suc k → k < 31 → ⊥) → [] ≡ signal_name n
unfolding signal_name
signal_name-none zero far = refl
signal_name-none (suc n) far = sym (past n (cases_lt n 31) (far n refl))
