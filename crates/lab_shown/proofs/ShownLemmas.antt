-- What is shown of a piece, by its parts.
use Rattle.std.proofs.Common.{arith, ℕ, ◌≡◌, ◌≤◌, ◌==◌, List, length, take, drop, Bool, Option, Some, None, IfSome, ap, sym, ◌∙◌}
use Rattle.std.specs.Prelude.{option_map, option_and_then, unwrap_or}
use Rattle.std.specs.List.{position_or_len}
use Rattle.lab_shown.specs.Shown.{answer_of, close_in, more_in, shown, shown_behind}

pub shown_some : {A : Type 0} (o : Option A) (closes : A → Bool) (text : A → List ℕ) (size : A → ℕ) (piece head body : List ℕ) (place : ℕ) (close : Bool)
    → place ≡ position_or_len (λ b. b == 123) piece → head ≡ take place piece → body ≡ drop place piece → length body ≤ length piece
    → Some close ≡ close_in head 200 (length body)
    → IfSome o (λ p. (closes p ≡ close) × (more_in body ≡ Some (text p)) × (size p ≤ length body))
    → IfSome o (λ p. (shown piece ≡ answer_of 200 (closes p) (text p)) × (size p ≤ length piece))
shown_some None closes text size piece head body place close at front back short is_head parts = tt
shown_some (Some p) closes text size piece head body place close at front back short is_head (same, more, within) =
    let head_is : head ≡ take (position_or_len (λ b. b == 123) piece) piece = front ∙ ap (λ n. take n piece) at in
    let body_is : body ≡ drop (position_or_len (λ b. b == 123) piece) piece = back ∙ ap (λ n. drop n piece) at in (
      ap (λ h. unwrap_or (shown_behind h (drop (position_or_len (λ b. b == 123) piece) piece)) piece) (sym head_is)
          ∙ ap (λ b. unwrap_or (shown_behind head b) piece) (sym body_is)
          ∙ ap (λ c. unwrap_or (option_and_then (λ close. option_map (answer_of 200 close) (more_in body)) c) piece) (sym is_head)
          ∙ ap (λ m. unwrap_or (option_map (answer_of 200 close) m) piece) more
          ∙ ap (λ c. answer_of 200 c (text p)) (sym same),
      omega (arith, within, short),
    )
