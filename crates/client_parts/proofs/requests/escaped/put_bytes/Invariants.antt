use Rattle.std.proofs.Common.{◌≡◌, ◌++◌, flat_map, take}
use Rattle.client_model.specs.Requests.{escaped_byte}
use Rattle.client_parts.proofs.requests.escaped.put_bytes.Given as goal

abbrev pub invariant-bytes : goal.invariant-bytes
invariant-bytes l = l.out.items ≡ l.fn.out.items ++ flat_map escaped_byte (take l.byte-index l.segment)
