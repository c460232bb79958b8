use Rattle.std.proofs.Common.{◌≡◌, ◌+◌, length}
use Rattle.std.specs.Prelude.{option_map}
use Rattle.lab_shown.specs.Shown.{place_in}
use Rattle.lab_shown.proofs.searching.place_in.Given as goal

-- it stands so many bytes on in what is left
abbrev pub invariant-bytes : goal.invariant-bytes
invariant-bytes l =
    (option_map (λ k. k + l.place) (place_in l.text l.left) ≡ place_in l.text l.body) × (l.place + length l.left ≡ length l.body)

abbrev pub decreases-bytes : goal.decreases-bytes
decreases-bytes l = length l.left
