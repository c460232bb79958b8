use Rattle.std.proofs.Common.{arith, ◌++◌, ◌∙◌, ap, length, length-append}
use Rattle.std.specs.Prelude.{codes}
use Rattle.http_edge.specs.Chunks.{hex_text}
use Rattle.http_edge.proofs.HexLemmas.{hex_short}
use Rattle.http_edge.proofs.chunk.push_size.Goals as goal

pub push_hex-requires : goal.push_hex-requires
push_hex-requires c = omega (arith, ap length c.requires, hex_short c.args.size c.ranges.size.fits)

pub push-requires : goal.push-requires
push-requires c = omega (arith, hex_short c.args.size c.ranges.size.fits, ap length c.push_hex.ensures, length-append c.args.line.now (hex_text c.args.size), ap length c.requires)

pub returns-clause-text : goal.returns-clause-text
returns-clause-text c = c.push.ensures ∙ ap (λ l. l ++ codes "\r\n") (c.push_hex.ensures ∙ ap (λ l. l ++ hex_text c.args.size) c.requires)

pub returns-clause-short : goal.returns-clause-short
returns-clause-short c =
    omega (arith, hex_short c.args.size c.ranges.size.fits, ap length c.push.ensures, length-append c.push_hex.new.line (codes "\r\n"), ap length c.push_hex.ensures, length-append c.args.line.now (hex_text c.args.size), ap length c.requires)
