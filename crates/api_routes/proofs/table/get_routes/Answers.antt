use Rattle.std.proofs.Common.{rules}
use Rattle.matchit.proofs.OnLiterals.{matchit_on_literals}
use Rattle.api_routes.proofs.table.get_routes.Goals as goal

pub returns : goal.returns
unfolding matchit_on_literals
returns c = search rules
