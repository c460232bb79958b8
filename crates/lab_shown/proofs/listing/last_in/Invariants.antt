use Rattle.std.proofs.Common.{◌≡◌, ◌+◌, ◌≤◌, length}
use Rattle.std.specs.Prelude.{option_map, IfSome}
use Rattle.lab_shown.specs.Listed.{later_of, last_in}
use Rattle.lab_shown.proofs.listing.last_in.Given as goal

-- the last place so far, or one so many bytes on in what is left
abbrev pub invariant-bytes : goal.invariant-bytes
invariant-bytes l = record {
  so_far : later_of l.last (option_map (λ k. k + l.place) (last_in l.text l.left)) ≡ last_in l.text l.body;
  counted : l.place + length l.left ≡ length l.body;
  before : IfSome l.last (λ k. k + 1 ≤ l.place);
}

abbrev pub decreases-bytes : goal.decreases-bytes
decreases-bytes l = length l.left
