use Rattle.std.proofs.Common.{◌≡◌, ◌++◌, flat_map, take}
use Rattle.client_parts.specs.Heads.{segment_text}
use Rattle.client_parts.proofs.requests.escaped.put_path.Given as goal

abbrev pub invariant-path : goal.invariant-path
invariant-path l = l.out.items ≡ l.fn.out.items ++ flat_map (λ s. segment_text s.now) (take l.segment-index l.path)
