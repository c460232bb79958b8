use Rattle.std.proofs.Common.{arith, ◌/◌, ◌%◌, ◌++◌, ◌∷◌, [], ap, sym, ◌∙◌, append_assoc, length, length-append}
use Rattle.http_edge.specs.Chunks.{hex_text, hex_digit}
use Rattle.http_edge.proofs.HexLemmas.{hex_step}
use Rattle.polled_steps.proofs.texts.+push_hex.Goals as goal

pub push_hex-requires : goal.push_hex-requires
push_hex-requires t c = (
  omega (arith, c.decreases),
  omega (arith, c.requires, ap length (hex_step c.args.n c.if-n-gt0.true), length-append (hex_text (c.args.n / 16)) (hex_digit (c.args.n % 16) ∷ [])),
)

pub push-requires : goal.push-requires
push-requires t c =
    omega (arith, c.requires, ap length c.push_hex.ensures, length-append c.args.front.now (hex_text (c.args.n / 16)), ap length (hex_step c.args.n c.if-n-gt0.true), length-append (hex_text (c.args.n / 16)) (hex_digit (c.args.n % 16) ∷ []))

pub returns-then-n-gt0 : goal.returns-then-n-gt0
returns-then-n-gt0 t c =
    let last = c.push.ensures ∙ ap (λ d. c.push_hex.new.front ++ d ∷ []) c.hex_digit.ensures in
    last ∙ ap (λ l. l ++ hex_digit (c.args.n % 16) ∷ []) c.push_hex.ensures
    ∙ append_assoc c.args.front.now (hex_text (c.args.n / 16)) (hex_digit (c.args.n % 16) ∷ [])
    ∙ ap (λ l. c.args.front.now ++ l) (sym (hex_step c.args.n c.if-n-gt0.true))
