use Rattle.std.proofs.Common.{Some, None}
use Rattle.api_routes.proofs.CutLemmas.{split-pieces}
use Rattle.api_routes.proofs.path.first_piece.Goals as goal

pub returns-in-Some : goal.returns-in-Some
returns-in-Some c = split-pieces c.args.text.now (Some (c.in-Some.piece, c.in-Some.rest)) c.in-Some.ensures.cases

pub returns-in-None : goal.returns-in-None
returns-in-None c = split-pieces c.args.text.now None c.in-None.ensures.cases
