-- A request by its parts.
use Rattle.std.proofs.Common.{◌≡◌, ℕ, List, ◌==◌, ap, ◌∙◌}
use Rattle.std.specs.List.{before_first, after_first}
use Rattle.http_edge.specs.Message.{Request}
use Rattle.lab_control.specs.Asking.{asked_by, asked_of}

pub by_parts : (request : Request) (method path query : List ℕ) → method ≡ request.method
    → path ≡ before_first (λ b. b == 63) request.target → query ≡ after_first (λ b. b == 63) request.target
    → asked_by method path query ≡ asked_of request
by_parts request method path query is front back =
    ap (λ (m : List ℕ). asked_by m path query) is
    ∙ ap (λ (p : List ℕ). asked_by request.method p query) front
    ∙ ap (λ (q : List ℕ). asked_by request.method (before_first (λ b. b == 63) request.target) q) back
