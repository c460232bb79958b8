use Rattle.std.proofs.Common.{Some, None}
use Rattle.lab_shown.proofs.RefusedLemmas.{body_told}
use Rattle.lab_shown.proofs.refusing.body_in.Goals as goal

pub returns-in-Some : goal.returns-in-Some
returns-in-Some c =
    body_told c.args.piece.now _ _ c.args.status c.brace_in.result (Some c.in-Some.close) c.brace_in.ensures.place
    c.split_at.ensures.front c.split_at.ensures.back c.in-Some.ensures

pub returns-in-None : goal.returns-in-None
returns-in-None c =
    body_told c.args.piece.now _ _ c.args.status c.brace_in.result None c.brace_in.ensures.place
    c.split_at.ensures.front c.split_at.ensures.back c.in-None.ensures
