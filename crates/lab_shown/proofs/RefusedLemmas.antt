-- What is told of a piece, by its parts.
use Rattle.std.proofs.Common.{ℕ, ◌≡◌, ◌==◌, List, length, take, drop, Bool, Option, Some, None, ap, ◌∙◌}
use Rattle.std.specs.Prelude.{option_map, option_and_then, unwrap_or}
use Rattle.std.specs.List.{position_or_len}
use Rattle.lab_shown.specs.Shown.{close_in}
use Rattle.lab_shown.specs.Refused.{body_in, shown_as}

pub body_told : (piece head body : List ℕ) (status place : ℕ) (o : Option Bool) → place ≡ position_or_len (λ b. b == 123) piece
    → head ≡ take place piece → body ≡ drop place piece → o ≡ close_in head status (length body)
    → option_map (λ close. (close, body)) o ≡ body_in status piece
body_told piece head body status place o at front back is =
    let head_is : head ≡ take (position_or_len (λ b. b == 123) piece) piece = front ∙ ap (λ n. take n piece) at in
    let body_is : body ≡ drop (position_or_len (λ b. b == 123) piece) piece = back ∙ ap (λ n. drop n piece) at in
    let close_is = is ∙ (λ i. close_in (head_is i) status (length (body_is i))) in
    λ i. option_map (λ close. (close, body_is i)) (close_is i)

pub told_none : (status : ℕ) (tells : Bool × List ℕ → Option (List ℕ)) (piece : List ℕ) → None ≡ body_in status piece
    → piece ≡ shown_as status tells piece
told_none status tells piece e = ap (λ o. unwrap_or (option_and_then tells o) piece) e

pub told_some : (status : ℕ) (tells : Bool × List ℕ → Option (List ℕ)) (piece : List ℕ) (told : Bool × List ℕ) (o : Option (List ℕ))
    → Some told ≡ body_in status piece → o ≡ tells told → unwrap_or o piece ≡ shown_as status tells piece
told_some status tells piece told o e is =
    ap (λ x. unwrap_or x piece) is ∙ ap (λ x. unwrap_or (option_and_then tells x) piece) e
