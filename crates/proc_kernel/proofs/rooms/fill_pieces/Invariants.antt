use Rattle.std.proofs.Common.{◌≡◌, vec_len}
use Rattle.proc_kernel.proofs.rooms.fill_pieces.Given as goal

abbrev pub invariant-loop : goal.invariant-loop
invariant-loop l = vec_len l.pieces ≡ l.counter
