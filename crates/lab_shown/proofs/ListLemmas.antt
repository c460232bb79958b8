-- The list of an answer.
use Rattle.std.proofs.Common.{ℕ, ◌≡◌, ◌==◌, List, length, take, drop, Bool, Option, ap, ◌∙◌}
use Rattle.std.specs.Prelude.{option_map}
use Rattle.std.specs.List.{position_or_len}
use Rattle.lab_shown.specs.Shown.{close_in}
use Rattle.lab_shown.specs.Listed.{list_in}

pub list_told : (piece head body : List ℕ) (place : ℕ) (o : Option Bool) → place ≡ position_or_len (λ b. b == 91) piece
    → head ≡ take place piece → body ≡ drop place piece → o ≡ close_in head 200 (length body)
    → option_map (λ close. (close, body)) o ≡ list_in piece
list_told piece head body place o at front back is =
    let head_is : head ≡ take (position_or_len (λ b. b == 91) piece) piece = front ∙ ap (λ n. take n piece) at in
    let body_is : body ≡ drop (position_or_len (λ b. b == 91) piece) piece = back ∙ ap (λ n. drop n piece) at in
    let close_is = is ∙ (λ i. close_in (head_is i) 200 (length (body_is i))) in
    λ i. option_map (λ close. (close, body_is i)) (close_is i)
