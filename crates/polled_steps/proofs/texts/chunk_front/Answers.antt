use Rattle.std.proofs.Common.{arith, ap, length, length-append}
use Rattle.http_edge.specs.Chunks.{hex_text}
use Rattle.http_edge.proofs.HexLemmas.{hex_short}
use Rattle.polled_steps.proofs.texts.chunk_front.Goals as goal

pub push_hex-requires : goal.push_hex-requires
push_hex-requires c = omega (arith, ap length c.new-front.ensures, hex_short c.args.size c.ranges.size.fits)

pub push-requires : goal.push-requires
push-requires c =
    omega (arith, hex_short c.args.size c.ranges.size.fits, ap length c.push_hex.ensures, length-append c.new-front.result (hex_text c.args.size), ap length c.new-front.ensures)
