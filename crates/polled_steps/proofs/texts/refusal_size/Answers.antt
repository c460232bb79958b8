use Rattle.std.proofs.Common.{arith, ◌++◌, ap, length, length-append}
use Rattle.std.specs.Prelude.{codes}
use Rattle.http_edge.specs.Response.{phrase_of}
use Rattle.polled_steps.proofs.texts.refusal_size.Goals as goal

pub returns : goal.returns
returns c =
    omega (arith, ap length c.phrase.ensures.text, length-append (codes "{\"message\":\"") (phrase_of c.args.status ++ codes "\"}"), length-append (phrase_of c.args.status) (codes "\"}"))
